-- Half of a signed number.
use Rattle.std.proofs.Common.{◌≡◌, ℕ, zero, suc, neg_ℤ, ◌*◌, ◌<◌, ◌/◌, refl, arith, ℤ, pos, negsuc, unsigned_abs}
use Rattle.std.specs.Prelude.{int_div}

half_amount : (n k : ℕ) → n < 2 * k → n / 2 < k
half_amount n k h = omega arith

abs-neg : (n : ℕ) → unsigned_abs (neg_ℤ (pos n)) ≡ n
abs-neg zero = refl
abs-neg (suc n) = refl

pub half_small : (z : ℤ) (k : ℕ) → unsigned_abs z < 2 * k → unsigned_abs (int_div z (pos 2)) < k
half_small (pos n) k h = half_amount n k h
half_small (negsuc n) k h = rw (abs-neg (suc n / 2)) (half_amount (suc n) k h)
