-- What the bytes that were taken of a reply show of all bytes of the session.
use Rattle.std.proofs.Common.{◌≡◌, ◌⊎◌, inl, inr, ℕ, ◌≤◌, true, List, [], ◌∷◌, ◌++◌, length, Option, Some, None, Result, Ok, Err, refl, sym, ◌∙◌, ap, arith}
use Rattle.std.specs.Prelude.{nat_lt}
use Rattle.std.proofs.lemmas.Bool.{cases_Bool, ltb-true, ltb-false}
use Rattle.std.proofs.lemmas.List.{append-nil}
use Rattle.edge_traits.specs.Wire.{Entry}
use Rattle.rpc_pdu.specs.declared.fault.PduFault.{PduFault}
use Rattle.rpc_pdu.specs.declared.fault.PduFault.TheVariants as fault
use Rattle.rpc_pdu.specs.declared.pdu.Pdu.{Pdu}
use Rattle.rpc_pdu.specs.Fill.{IsAtEnd}
use Rattle.rpc_pdu.specs.Pdu.{first_pdu}
use Rattle.rpc_pdu.specs.Reader.{Shows, ShowsHeader}
use Rattle.rpc_pdu.proofs.Cuts.{fault_stays, pdu_stays}
use Rattle.rpc_pdu.proofs.Flaws.{first_flawed, first_none, flaw_cut, header_stays}
use Rattle.client_run.specs.Asking.{reply_len}

-- This stands first in all bytes from here on, and so many were taken as it has.
pub record Reply (first : Result (Option Pdu) PduFault) (place : ℕ) (taken rest : List ℕ) : Type 0 where
  pub is : first_pdu place (taken ++ rest) ≡ first
  pub len : length taken ≡ reply_len first (taken ++ rest)

header_reply : (wrong : PduFault) (place : ℕ) (taken rest : List ℕ) → (wrong ≡ fault.Torn place → ⊥) → (reply_len (Err wrong) (taken ++ rest) ≡ 16)
    → ShowsHeader place taken wrong → Reply (Err wrong) place taken rest
header_reply wrong place taken rest not_torn len shows = record {
  is = fault_stays place taken rest wrong shows.shows not_torn;
  len = shows.header ∙ sym len;
}

none_not_err : (w : PduFault) → ◌≡◌ {A = Result (Option Pdu) PduFault} (Ok None) (Err w) → ⊥
none_not_err w same = cc

torn_not_bad : (place at : ℕ) → ◌≡◌ {A = Result (Option Pdu) PduFault} (Err (fault.Torn place)) (Err (fault.BadBody at)) → ⊥
torn_not_bad place at same = cc

-- where the body is at fault, there is a whole header
long_enough : (place at : ℕ) (bytes : List ℕ) → first_pdu place bytes ≡ Err (fault.BadBody at) → 16 ≤ length bytes
long_enough place at [] is = absurd (none_not_err (fault.BadBody at) (sym (first_none place) ∙ is))
long_enough place at (byte ∷ bytes) is =
    elim (cases_Bool (nat_lt (length (byte ∷ bytes)) 16)) [
      | inl few ↦
          let cut = flaw_cut (byte ∷ bytes) (ltb-true _ _ few) in
          absurd (torn_not_bad place at (sym (first_flawed place (byte ∷ bytes) _ (omega arith) cut) ∙ is))
      | inr many ↦ ltb-false _ _ many
    ]

pub reply_shown : (first : Result (Option Pdu) PduFault) (place : ℕ) (taken rest : List ℕ) (now : Option (List Entry)) → Shows first place taken true now
    → (IsAtEnd true now → rest ≡ []) → (first ≡ Err fault.ReadFault → ⊥) → Reply first place taken rest
reply_shown (Ok (Some pdu)) place taken rest now shows ended not_read = record { is = pdu_stays place taken rest pdu shows.1; len = shows.0 }
reply_shown (Ok None) place taken rest now shows ended not_read = record {
  is = ap (λ (l : List ℕ). first_pdu place (l ++ rest)) shows.0 ∙ ap (first_pdu place) (ended shows.1) ∙ first_none place;
  len = ap length shows.0;
}
reply_shown (Err (fault.BadVersion at)) place taken rest now shows ended not_read = header_reply _ place taken rest (λ same. cc) refl shows
reply_shown (Err (fault.BadType at)) place taken rest now shows ended not_read = header_reply _ place taken rest (λ same. cc) refl shows
reply_shown (Err (fault.BadFragment at)) place taken rest now shows ended not_read = header_reply _ place taken rest (λ same. cc) refl shows
reply_shown (Err (fault.BadDrep at)) place taken rest now shows ended not_read = header_reply _ place taken rest (λ same. cc) refl shows
reply_shown (Err (fault.BadLength at)) place taken rest now shows ended not_read = header_reply _ place taken rest (λ same. cc) refl shows
reply_shown (Err (fault.BadAuth at)) place taken rest now shows ended not_read = header_reply _ place taken rest (λ same. cc) refl shows
reply_shown (Err (fault.BadBody at)) place taken rest now shows ended not_read = record {
  is = fault_stays place taken rest (fault.BadBody at) shows.1 (λ same. cc);
  len = shows.0 ∙ ap (λ h. h.fragment_len) (sym (header_stays taken rest (long_enough place at taken shows.1)));
}
reply_shown (Err (fault.Torn at)) place taken rest now shows ended not_read =
    let all : taken ++ rest ≡ taken = ap (λ (l : List ℕ). taken ++ l) (ended shows.1) ∙ append-nil taken in record {
      is = ap (first_pdu place) all ∙ shows.0;
      len = ap length (sym all);
    }
reply_shown (Err fault.ReadFault) place taken rest now shows ended not_read = absurd (not_read refl)

-- a reply of which a read failed breaks off in the bytes taken
pub breaks_off : (place : ℕ) (taken : List ℕ) (now : Option (List Entry)) → Shows (Err fault.ReadFault) place taken true now
    → (first_pdu place taken ≡ Ok None) ⊎ (first_pdu place taken ≡ Err (fault.Torn place))
breaks_off place [] now shows = inl (first_none place)
breaks_off place (byte ∷ bytes) now shows = inr (first_flawed place (byte ∷ bytes) _ (omega arith) shows.0)

-- whether an answer of the reader is a failed read
pub read_fault_or_not : (first : Result (Option Pdu) PduFault) → (first ≡ Err fault.ReadFault) ⊎ (first ≡ Err fault.ReadFault → ⊥)
read_fault_or_not (Ok next) = inr (λ same. cc)
read_fault_or_not (Err (fault.BadVersion at)) = inr (λ same. cc)
read_fault_or_not (Err (fault.BadType at)) = inr (λ same. cc)
read_fault_or_not (Err (fault.BadFragment at)) = inr (λ same. cc)
read_fault_or_not (Err (fault.BadDrep at)) = inr (λ same. cc)
read_fault_or_not (Err (fault.BadLength at)) = inr (λ same. cc)
read_fault_or_not (Err (fault.BadAuth at)) = inr (λ same. cc)
read_fault_or_not (Err (fault.BadBody at)) = inr (λ same. cc)
read_fault_or_not (Err (fault.Torn at)) = inr (λ same. cc)
read_fault_or_not (Err fault.ReadFault) = inl refl
