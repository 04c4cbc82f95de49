use Rattle.std.proofs.Common.{◌≡◌, pos, arith, rules}
use Rattle.std.proofs.lemmas.Int.{ints}
use Rattle.ntp_wire.proofs.Moments.{moment_made, ticks_of_is_near, one_moment, moment_back}
use Rattle.ntp_wire.proofs.stamp.to_ticks.Goals as goal

pub returns-clause-near : goal.returns-clause-near
returns-clause-near c =
    let low = c.requires.0 in
    let near : c.args.near ≡ pos c.unsigned_abs-near.result = omega (arith, ints) in
    moment_made c.args.stamp c.args.near _ c.part_of.result c.unsigned_abs-near.result c.ahead_of.result c.part_of.ensures.part (search rules) near (omega (arith, ints)) c.ahead_of.ensures.bound c.ahead_of.ensures.congruent

pub returns-clause-value : goal.returns-clause-value
returns-clause-value c = one_moment c.args.stamp c.args.near _ _ (returns-clause-near c) (ticks_of_is_near c.args.stamp c.args.near)

pub returns-clause-only : goal.returns-clause-only
returns-clause-only c t near = one_moment c.args.stamp c.args.near t _ near (returns-clause-near c)

pub returns-clause-back : goal.returns-clause-back
returns-clause-back c t stamp reach = moment_back c.args.stamp c.args.near _ t (returns-clause-near c) stamp reach
