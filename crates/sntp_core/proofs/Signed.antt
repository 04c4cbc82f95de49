-- The request that a timestamp names, and the window in which it is answered.
use Rattle.std.proofs.Common.{◌≡◌, Bool, true, false, ◌&&◌, cond, List, [], ◌∷◌, Option, Some, refl, arith, ℤ, pos, ◌+ℤ◌, ◌≤ℤ◌, find}
use Rattle.std.specs.Prelude.{int_le}
use Rattle.std.proofs.lemmas.Int.{ints}
use Rattle.time_machine.specs.declared.outcome.Request.{Request}
use Rattle.ntp_wire.specs.declared.stamp.Stamp.{Stamp}
use Rattle.time_machine.specs.Verdict.{is_answered}

found : {A : Type 0} (test : A → Bool) (y x : A) (rest : Option A) → (rest ≡ Some x → test x ≡ true) → (b : Bool) → test y ≡ b → cond b (Some y) rest ≡ Some x → test x ≡ true
found test y x rest later true t e = cc
found test y x rest later false t e = later e

-- what a find gave passes the test
pub find_passes : {A : Type 0} (test : A → Bool) (xs : List A) (x : A) → find test xs ≡ Some x → test x ≡ true
find_passes test [] x e = cc
find_passes test (y ∷ ys) x e = found test y x (find test ys) (find_passes test ys x) (test y) refl e

both_true : (a b : Bool) → (a && b) ≡ true → (a ≡ true) × (b ≡ true)
both_true true b e = (refl, e)
both_true false b e = cc

from_le : (a b : ℤ) → int_le a b ≡ true → a ≤ℤ b
from_le a b e = grind (arith, ints)

pub answers_window : (now : ℤ) (stamp : Stamp) (r : Request) → is_answered now stamp r ≡ true → (r.at ≤ℤ now) × (now ≤ℤ (r.at +ℤ pos 100000000))
answers_window now stamp r e =
    let last = both_true _ _ e in
    let first = both_true _ _ last.0 in
    (from_le _ _ first.1, from_le _ _ last.1)

pub found_window : (now : ℤ) (stamp : Stamp) (xs : List Request) (r : Request) → find (is_answered now stamp) xs ≡ Some r → (r.at ≤ℤ now) × (now ≤ℤ (r.at +ℤ pos 100000000))
found_window now stamp xs r e = answers_window now stamp r (find_passes (is_answered now stamp) xs r e)
