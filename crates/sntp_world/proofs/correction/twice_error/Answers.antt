use Rattle.std.proofs.Common.{◌*◌, ◌-ℤ◌, ap, arith, rules, w64, ℕ}
use Rattle.std.proofs.lemmas.Int.{ints, to_z-of_z}
use mir.Val.{SFits}
use Rattle.sntp_world.proofs.correction.twice_error.Goals as goal

pub returns-clause-is : goal.returns-clause-is
returns-clause-is c =
    let offset : SFits w64 c.args.offset = c.ranges.offset in
    let member : SFits w64 c.args.came.member = search rules in
    let controller : SFits w64 c.args.came.controller = search rules in
    let ahead : SFits w64 (c.args.came.controller -ℤ c.args.came.member) = record { sfits = first_of (omega (arith, ints), grind (arith, ints)) } in
    let error : SFits w64 (c.args.offset -ℤ (c.args.came.controller -ℤ c.args.came.member)) = record { sfits = first_of (omega (arith, ints), grind (arith, ints)) } in
    let is = simp to_z-of_z at c.unsigned_abs.ensures.value in
    ap (λ (n : ℕ). 2 * n) is
