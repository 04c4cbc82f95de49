-- The bytes of a session: PDUs, one behind the other.
use Rattle.std.specs.Prelude.{◌≡◌, ℕ, ◌+◌, List, [], ◌∷◌, ◌++◌, length, drop, Some, Ok, Err}
use Rattle.rpc_pdu.specs.declared.fault.PduFault.{PduFault}
use Rattle.rpc_pdu.specs.declared.pdu.Pdu.{Pdu}
use Rattle.rpc_pdu.specs.Pdu.{first_pdu, pdu_len}

-- the bytes from this place on are these PDUs, one behind the other, and nothing else
abbrev pub PdusAre : ℕ → List Pdu → List ℕ → Type 0
PdusAre place [] bytes = bytes ≡ []
PdusAre place (pdu ∷ pdus) bytes =
    (first_pdu place bytes ≡ Ok (Some pdu)) × PdusAre (place + pdu_len pdu) pdus (drop (pdu_len pdu) bytes)

-- the first fault in the bytes of a session, behind the PDUs before it
pub record FaultAt (bytes : List ℕ) (wrong : PduFault) : Type 0 where
  pub pdus : List Pdu
  pub front : List ℕ
  pub rest : List ℕ
  pub cut : bytes ≡ front ++ rest
  pub before : PdusAre 0 pdus front
  pub here : first_pdu (length front) rest ≡ Err wrong
