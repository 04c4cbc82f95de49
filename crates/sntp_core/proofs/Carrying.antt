-- A message carries its checksum where it is the one that it should carry.
use Rattle.std.proofs.Common.{◌≡◌, ℕ, List, Bool, true, false, Option, Some, None, refl, sym, arith}
use Rattle.std.specs.Prelude.{IsTrue, ◌↔◌, ◌==◌, ◌||◌, not}
use Rattle.std.proofs.lemmas.Slice.Eq.{bytes_eq-Decides}
use Rattle.ms_auth.specs.declared.packet.Kind.{Kind}
use Rattle.ms_auth.specs.declared.packet.Kind.TheVariants.{Short, Extended}
use Rattle.ms_auth.specs.declared.packet.Packet.{Packet}
use Rattle.ms_auth.specs.declared.packet.Tail.{Tail}
use Rattle.ms_auth.specs.declared.packet.Tail.TheVariants.{Plain, Short68, Ext120}
use Rattle.ms_auth.specs.Digest.{digest_of, sum_of, HasDigest}
use Rattle.ms_auth.specs.Ready.{IsTailFor}
use Rattle.sntp_core.specs.Packets.{carries, is_same_sum, is_tail_of, names_another}

pub same_test : (b c : Bool) → (b ≡ true → c ≡ true) → (c ≡ true → b ≡ true) → b ≡ c
same_test true c f g = sym (f refl)
same_test false true f g = g refl
same_test false false f g = refl

-- both are the same sum
record AreSum (carried due : Option (List ℕ)) : Type 0 where
  sum : List ℕ
  carried_is : carried ≡ Some sum
  due_is : due ≡ Some sum

sum_carried : (o p : Option (List ℕ)) → AreSum o p → is_same_sum o p ≡ true
sum_carried (Some a) (Some d) h = let same : a ≡ d = cc in (bytes_eq-Decides a d).1 same
sum_carried (Some a) None h = let no = h.due_is in cc
sum_carried None p h = let no = h.carried_is in cc

sum_due : (o p : Option (List ℕ)) → is_same_sum o p ≡ true → AreSum o p
sum_due (Some a) (Some d) e = let same = (bytes_eq-Decides a d).0 e in record { sum = a; carried_is = refl; due_is = cc }
sum_due (Some a) None e = cc
sum_due None p e = cc

pub carries_is : (key : List ℕ) (p : Packet) (b : Bool) → (IsTrue b ↔ HasDigest key p) → b ≡ carries key p
carries_is key p b h =
    same_test b (carries key p)
    (λ t. let d = h.0 t in sum_carried (sum_of p.tail) (digest_of p key) (record { sum = d.sum; carried_is = d.carried; due_is = d.is_digest }))
    (λ t. let d = sum_due (sum_of p.tail) (digest_of p key) t in h.1 (record { sum = d.sum; carried = d.carried_is; is_digest = d.due_is }))

both : (a b : Bool) → (not a || not b) ≡ false → a ≡ true
both true b e = refl
both false b e = cc

same_number : (m n : ℕ) → (m == n) ≡ true → m ≡ n
same_number m n e = grind (arith, e)

-- a tail of the kind that doesn't name another account is one for the account's keys
pub tail_for : (kind : Kind) (rid : ℕ) (tail : Tail) → is_tail_of kind tail ≡ true → names_another rid tail ≡ false → IsTailFor kind rid tail
tail_for Short rid Plain is named = cc
tail_for Short rid (Short68 key_id sum) is named = refl
tail_for Short rid (Ext120 other reserved flags hints hash sum) is named = cc
tail_for Extended rid Plain is named = cc
tail_for Extended rid (Short68 key_id sum) is named = cc
tail_for Extended rid (Ext120 other reserved flags hints hash sum) is named = (refl, same_number other rid (both (other == rid) (hash == 1) named))
