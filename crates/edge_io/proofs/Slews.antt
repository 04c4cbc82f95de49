-- What a slew leaves as it was.
use Rattle.std.proofs.Common.{◌≡◌, ℤ, pos, ◌+ℤ◌, FitsSigned, ap, ◌∙◌, arith, min, ◌/◌, neg_ℤ, negsuc, ◌+◌, ℕ}
use Rattle.std.proofs.lemmas.Int.{ints}
use Rattle.std.specs.Int.{w128, saturate_signed}
use Rattle.edge_io.specs.Correction.{Correction, ahead_of, slewed_by, worked_off}

worked_off-none : (slew : ℤ) → worked_off slew 0 ≡ pos 0
worked_off-none (pos amount) = let none : min amount (0 / 2000) ≡ 0 = omega arith in ap pos none
worked_off-none (negsuc less) = let none : min (less + 1) (0 / 2000) ≡ 0 = omega arith in ap (λ (k : ℕ). neg_ℤ (pos k)) none

-- a sum that fits stays as it is
pub saturate_signed-fits : (z : ℤ) → FitsSigned w128 z → saturate_signed w128 z ≡ z
saturate_signed-fits z fits = grind arith

plus-zero : (z : ℤ) → z +ℤ pos 0 ≡ z
plus-zero z = omega (arith, ints)

-- a slew moves nothing at once
pub ahead_of-slewed_by : (amount : ℤ) (c : Correction) → FitsSigned w128 (ahead_of c) → ahead_of (slewed_by amount c) ≡ ahead_of c
ahead_of-slewed_by amount c fits =
    ap (λ (z : ℤ). saturate_signed w128 (ahead_of c) +ℤ z) (worked_off-none amount) ∙ plus-zero _ ∙ saturate_signed-fits (ahead_of c) fits
