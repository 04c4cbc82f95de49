use Rattle.std.proofs.Common.{arith, rules, w32, w64}
use mir.Val.{SFits}
use Rattle.std.proofs.lemmas.Int.{ints, to_z-of_z}
use Rattle.sntp_world.proofs.moment.Moment.after.Goals as goal

pub returns-clause-may : goal.returns-clause-may
returns-clause-may c =
    let e : SFits w32 c.args.e = c.ranges.e in
    let f : SFits w32 c.args.f = c.ranges.f in
    let m : SFits w64 c.args.self.member = search rules in
    let o : SFits w64 c.args.self.controller = search rules in
    record {
      member_on = simp to_z-of_z at c.in_ok-member.ensures.forward;
      controller_on = simp to_z-of_z at c.in_ok-controller.ensures.forward;
      member = simp to_z-of_z at c.in_ok-member.ensures.reading;
      controller = simp to_z-of_z at c.in_ok-controller.ensures.reading;
      uneven = omega (arith, ints);
    }
