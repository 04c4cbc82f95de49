use Rattle.std.proofs.Common.{arith, FitsSigned, w64, ◌-ℤ◌, refl}
use Rattle.std.proofs.lemmas.Int.{ints, to_z-of_z}
use Rattle.time_machine.proofs.times.delay_of.Goals as goal

pub returns : goal.returns
returns c =
    let t1 = c.args.t1 in
    let t2 = c.args.t2 in
    let t3 = c.args.t3 in
    let t4 = c.args.t4 in
    let d1 : FitsSigned w64 (t4 -ℤ t1) = omega (arith, ints) in
    let d2 : FitsSigned w64 (t3 -ℤ t2) = omega (arith, ints) in
    let d3 : FitsSigned w64 ((t4 -ℤ t1) -ℤ (t3 -ℤ t2)) = omega (arith, ints) in
    rw (to_z-of_z w64 t1 c.ranges.t1, to_z-of_z w64 t2 c.ranges.t2, to_z-of_z w64 t3 c.ranges.t3, to_z-of_z w64 t4 c.ranges.t4, to_z-of_z w64 _ d1, to_z-of_z w64 _ d2, to_z-of_z w64 _ d3) refl
