use Rattle.std.proofs.Common.{arith, FitsSigned, w64, ◌-ℤ◌, ◌+ℤ◌, ◌<◌, ◌^◌, ◌*◌, unsigned_abs, refl, subst, sym, ℤ}
use Rattle.std.proofs.lemmas.Int.{ints, to_z-of_z, fits_signed_from_abs}
use Rattle.time_machine.specs.Verdict.{offset_of}
use Rattle.time_machine.proofs.Halves.{half_small}
use Rattle.time_machine.proofs.times.offset_of.Goals as goal

pub returns-clause-value : goal.returns-clause-value
returns-clause-value c =
    let t1 = c.args.t1 in
    let t2 = c.args.t2 in
    let t3 = c.args.t3 in
    let t4 = c.args.t4 in
    let d1 : FitsSigned w64 (t2 -ℤ t1) = omega (arith, ints) in
    let d2 : FitsSigned w64 (t3 -ℤ t4) = omega (arith, ints) in
    let d3 : FitsSigned w64 ((t2 -ℤ t1) +ℤ (t3 -ℤ t4)) = omega (arith, ints) in
    let small : unsigned_abs ((t2 -ℤ t1) +ℤ (t3 -ℤ t4)) < 2 * 2 ^ 62 = omega (arith, ints) in
    let half : unsigned_abs (offset_of t1 t2 t3 t4) < 2 ^ 62 = half_small ((t2 -ℤ t1) +ℤ (t3 -ℤ t4)) (2 ^ 62) small in
    let d4 : FitsSigned w64 (offset_of t1 t2 t3 t4) = fits_signed_from_abs w64 _ (omega arith) in
    rw (to_z-of_z w64 t1 c.ranges.t1, to_z-of_z w64 t2 c.ranges.t2, to_z-of_z w64 t3 c.ranges.t3, to_z-of_z w64 t4 c.ranges.t4, to_z-of_z w64 _ d1, to_z-of_z w64 _ d2, to_z-of_z w64 _ d3, to_z-of_z w64 _ d4) refl

pub returns-clause-amount : goal.returns-clause-amount
returns-clause-amount c before window =
    let t1 = c.args.t1 in
    let t2 = c.args.t2 in
    let t3 = c.args.t3 in
    let t4 = c.args.t4 in
    let small : unsigned_abs ((t2 -ℤ t1) +ℤ (t3 -ℤ t4)) < 2 * 10 ^ 17 = omega (arith, ints) in
    let P : ℤ → Type 0 = λ z. unsigned_abs z < 10 ^ 17 in
    subst P (sym (returns-clause-value c)) (half_small ((t2 -ℤ t1) +ℤ (t3 -ℤ t4)) (10 ^ 17) small)
