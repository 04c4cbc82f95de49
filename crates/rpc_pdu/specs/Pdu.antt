-- The PDU with which bytes begin, or what is wrong with it.
use Rattle.std.specs.Prelude.{◌≡◌, ℕ, ◌+◌, ◌-◌, ◌^◌, ◌%◌, ◌<◌, ◌≤◌, true, List, [], ◌∷◌, ◌++◌, length, take, drop, Option, Some, None, Result, Ok, Err, nat_lt, nat_le, ◌==◌, if◌then◌else◌}
use Rattle.std.specs.Option.{option_or}
use Rattle.byte_codec.specs.Numbers.{low_half_word_bytes, low_word_bytes}
use Rattle.rpc_pdu.specs.declared.fault.Flaw.{Flaw}
use Rattle.rpc_pdu.specs.declared.fault.Flaw.TheVariants.{BadVersion, BadType, BadFragment, BadDrep, BadLength, BadAuth, BadBody, Torn}
use Rattle.rpc_pdu.specs.declared.fault.PduFault.{PduFault}
use Rattle.rpc_pdu.specs.declared.fault.PduFault.TheVariants as fault
use Rattle.rpc_pdu.specs.declared.header.Header.{Header}
use Rattle.rpc_pdu.specs.declared.pdu.Pdu.{Pdu}
use Rattle.rpc_pdu.specs.Bind.{bind_need}
use Rattle.rpc_pdu.specs.Header.{header_of, header_flaw, is_kind, bind_kind, bind_ack_kind, bind_nak_kind, response_kind, fault_kind}

-- bytes that the body of a PDU with this header asks for; a request with flag 80 has an object identifier
unfoldable pub need : Header → List ℕ → ℕ
need h body =
    if h.kind == bind_kind then bind_need body else
    (if h.kind == bind_ack_kind then 10 else
    (if h.kind == bind_nak_kind then 2 else
    (if h.kind == response_kind then 8 else
    (if h.kind == fault_kind then 12 else
    (if nat_le 128 h.flags then 24 else 8)))))

-- the body behind the header with which these bytes begin
abbrev pub body_of : List ℕ → List ℕ
body_of bytes = take ((header_of bytes).fragment_len - 16) (drop 16 bytes)

-- What is wrong behind a header in order: the bytes end in the body, or the body is shorter than its type asks.
unfoldable pub rest_flaw : List ℕ → Option Flaw
rest_flaw bytes =
    if nat_lt (length bytes) (header_of bytes).fragment_len then Some Torn else
    (if nat_lt (length (body_of bytes)) (need (header_of bytes) (body_of bytes)) then Some BadBody else None)

-- What is wrong with the PDU with which these bytes begin, by the first of all faults that applies.
unfoldable pub pdu_flaw : List ℕ → Option Flaw
pdu_flaw bytes =
    if nat_lt (length bytes) 16 then Some Torn else option_or (header_flaw (header_of bytes)) (rest_flaw bytes)

-- the fault of a flaw in the PDU that begins at a place
abbrev pub fault_of : Flaw → ℕ → PduFault
fault_of BadVersion at = fault.BadVersion at
fault_of BadType at = fault.BadType at
fault_of BadFragment at = fault.BadFragment at
fault_of BadDrep at = fault.BadDrep at
fault_of BadLength at = fault.BadLength at
fault_of BadAuth at = fault.BadAuth at
fault_of BadBody at = fault.BadBody at
fault_of Torn at = fault.Torn at

-- the PDU with which these bytes begin, where nothing is wrong with it
abbrev pub pdu_of : List ℕ → Pdu
pdu_of bytes = record {
  kind = (header_of bytes).kind;
  flags = (header_of bytes).flags;
  call_id = (header_of bytes).call_id;
  body = body_of bytes;
}

-- the PDU or its fault, by what is wrong with it
abbrev pub judged : ℕ → List ℕ → Option Flaw → Result (Option Pdu) PduFault
judged place bytes None = Ok (Some (pdu_of bytes))
judged place bytes (Some flaw) = Err (fault_of flaw place)

-- What stands first in bytes that begin at this place: none where there is no byte, else a PDU, or a fault.
unfoldable pub first_pdu : ℕ → List ℕ → Result (Option Pdu) PduFault
first_pdu place [] = Ok None
first_pdu place (byte ∷ bytes) = judged place (byte ∷ bytes) (pdu_flaw (byte ∷ bytes))

-- bytes in a PDU
abbrev pub pdu_len : Pdu → ℕ
pdu_len pdu = 16 + length pdu.body

-- The bytes of a PDU as it is written: version 5.0, the data representation 10 00 00 00, and no authentication.
unfoldable pub pdu_bytes : Pdu → List ℕ
pdu_bytes pdu =
    (5 ∷ 0 ∷ pdu.kind ∷ pdu.flags ∷ 0x10 ∷ 0 ∷ 0 ∷ 0 ∷ [])
    ++ low_half_word_bytes (pdu_len pdu)
    ++ low_half_word_bytes 0
    ++ low_word_bytes pdu.call_id
    ++ pdu.body

-- the header that a PDU is written with
abbrev pub header_with : Pdu → Header
header_with pdu = record {
  version = 5;
  minor = 0;
  kind = pdu.kind;
  flags = pdu.flags;
  representation = 0x10;
  fragment_len = pdu_len pdu;
  auth_len = 0;
  call_id = pdu.call_id;
}

-- A PDU that a reader takes: of one of the types, whole in one fragment, with a body as long as its type asks.
pub record PduFits (pdu : Pdu) : Type 0 where
  pub kind : is_kind pdu.kind ≡ true
  pub flags : pdu.flags % 4 ≡ 3
  pub call_id : pdu.call_id < 2 ^ 32
  pub within : length pdu.body ≤ 5824
  pub enough : need (header_with pdu) pdu.body ≤ length pdu.body
