-- How a clock that is slewed comes to a reference.
use Rattle.std.proofs.Common.{◌≡◌, ◌≤◌, ℕ, ◌+◌, ◌-◌, ◌/◌, ◌^◌, min, ℤ, pos, negsuc, neg_ℤ, ◌+ℤ◌, ◌-ℤ◌, unsigned_abs, Some, FitsSigned, ap, sym, subst, ◌∙◌, arith}
use Rattle.std.proofs.lemmas.Int.{ints}
use Rattle.std.specs.Int.{w64, w128, saturate_signed}
use Rattle.edge_io.specs.Correction.{ahead_of, worked_off}
use Rattle.edge_io.specs.CorrectedClock.{CorrectedClock, looking_at}
use Rattle.edge_io.specs.Servo.{distance_at, offset_at, slewed_to, Arrives, CanSlew, CanStep, Settles}
use Rattle.edge_io.proofs.Slews.{saturate_signed-fits}

left_of_more : (amount worked : ℕ) → unsigned_abs (pos amount -ℤ pos (min amount worked)) ≡ amount - worked
left_of_more amount worked = omega (arith, ints)

left_of_less : (less worked : ℕ) → unsigned_abs (negsuc less -ℤ neg_ℤ (pos (min (less + 1) worked))) ≡ less + 1 - worked
left_of_less less worked = omega (arith, ints)

-- what is left of a slew
left_of : (slew : ℤ) (passed : ℕ) → unsigned_abs (slew -ℤ worked_off slew passed) ≡ unsigned_abs slew - passed / 2000
left_of (pos amount) passed = left_of_more amount (passed / 2000)
left_of (negsuc less) passed = left_of_less less (passed / 2000) ∙ omega arith

slew_within : (slew : ℤ) → FitsSigned w64 slew → unsigned_abs slew ≤ 2 ^ 63
slew_within (pos amount) fits = omega (arith, fits)
slew_within (negsuc less) fits = omega (arith, fits)

capped : (distance passed counted : ℕ) → distance ≤ 2 ^ 63 → counted ≡ min passed (2 ^ 128 - 1) → distance - counted / 2000 ≡ distance - passed / 2000
capped distance passed counted within is = omega arith

offset_moved : (lead ahead worked : ℤ) (machine later : ℕ)
    → (pos later +ℤ lead) -ℤ (pos later +ℤ (ahead +ℤ worked)) ≡ ((pos machine +ℤ lead) -ℤ (pos machine +ℤ ahead)) -ℤ worked
offset_moved lead ahead worked machine later = omega (arith, ints)

nearer : (lead : ℤ) (machine : ℕ) (c : CorrectedClock) → CanSlew lead machine c
    → (passed : ℕ) → distance_at lead (machine + passed) (slewed_to lead machine c) ≡ distance_at lead machine c - passed / 2000
nearer lead machine c (fits, whole) passed =
    let ahead = ahead_of (looking_at machine c).correction in
    let slew = offset_at lead machine c in
    let counted = min (0 + (machine + passed - machine)) (2 ^ 128 - 1) in
    let count : counted ≡ min passed (2 ^ 128 - 1) = omega arith in
    ap (λ (z : ℤ). unsigned_abs ((pos (machine + passed) +ℤ lead) -ℤ (pos (machine + passed) +ℤ (z +ℤ worked_off slew counted)))) (saturate_signed-fits ahead whole)
    ∙ ap unsigned_abs (offset_moved lead ahead (worked_off slew counted) machine (machine + passed))
    ∙ left_of slew counted
    ∙ capped (unsigned_abs slew) passed counted (slew_within slew fits) count

readings : (lead : ℤ) (machine : ℕ) (c : CorrectedClock) (sooner later : ℕ) → sooner ≤ later
    → looking_at (machine + later) (looking_at (machine + sooner) (slewed_to lead machine c)) ≡ looking_at (machine + later) (slewed_to lead machine c)
readings lead machine c sooner later order =
    let slewed = slewed_to lead machine c in
    let same : min (min (0 + (machine + sooner - machine)) (2 ^ 128 - 1) + (machine + later - (machine + sooner))) (2 ^ 128 - 1)
    ≡ min (0 + (machine + later - machine)) (2 ^ 128 - 1) = omega arith in
    ap (λ (passed : ℕ). let k : CorrectedClock = record slewed { correction = record slewed.correction { passed = passed; seen = Some (machine + later) } } in k) same

-- a clock that is slewed by its offset comes to the reference
pub settles : (lead : ℤ) (machine : ℕ) (c : CorrectedClock) → CanSlew lead machine c → Settles lead machine c
settles lead machine c can =
    let distance = distance_at lead machine c in
    record {
      nearer = nearer lead machine c can;
      never_further = λ sooner later order.
          let falls : distance - later / 2000 ≤ distance - sooner / 2000 = omega arith in
          subst (λ (n : ℕ). n ≤ distance_at lead (machine + sooner) (slewed_to lead machine c)) (sym (nearer lead machine c can later))
          (subst (λ (n : ℕ). distance - later / 2000 ≤ n) (sym (nearer lead machine c can sooner)) falls);
      there = λ passed enough.
          let none : distance - passed / 2000 ≡ 0 = omega arith in
          nearer lead machine c can passed ∙ none;
      readings = readings lead machine c;
    }

no_distance : (lead machine later ahead slewed : ℤ)
    → slewed ≡ pos 0
    → unsigned_abs ((later +ℤ lead) -ℤ (later +ℤ ((ahead +ℤ ((machine +ℤ lead) -ℤ (machine +ℤ ahead))) +ℤ slewed))) ≡ 0
no_distance lead machine later ahead slewed is = omega (arith, ints)

sum_is_lead : (lead machine ahead : ℤ) → ahead +ℤ ((machine +ℤ lead) -ℤ (machine +ℤ ahead)) ≡ lead
sum_is_lead lead machine ahead = omega (arith, ints)

-- a clock that is stepped by its offset is at the reference
pub arrives : (lead : ℤ) (machine : ℕ) (c : CorrectedClock) → CanStep lead machine c → Arrives lead machine c
arrives lead machine c (whole, fits) passed =
    let ahead = ahead_of (looking_at machine c).correction in
    let offset = offset_at lead machine c in
    let counted = min (0 + (machine + passed - machine)) (2 ^ 128 - 1) in
    let slewed = worked_off (pos 0) counted in
    let nothing : min 0 (counted / 2000) ≡ 0 = omega arith in
    let stepped : saturate_signed w128 (saturate_signed w128 ahead +ℤ offset) ≡ ahead +ℤ offset =
    ap (λ (z : ℤ). saturate_signed w128 (z +ℤ offset)) (saturate_signed-fits ahead fits)
    ∙ saturate_signed-fits (ahead +ℤ offset) (subst (FitsSigned w128) (sym (sum_is_lead lead (pos machine) ahead)) whole) in
    ap (λ (z : ℤ). unsigned_abs ((pos (machine + passed) +ℤ lead) -ℤ (pos (machine + passed) +ℤ (z +ℤ slewed)))) stepped
    ∙ no_distance lead (pos machine) (pos (machine + passed)) ahead slewed (ap pos nothing)
