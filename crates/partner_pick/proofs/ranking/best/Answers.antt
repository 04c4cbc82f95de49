use Rattle.std.proofs.Common.{arith}
use Rattle.partner_pick.proofs.Steps.{best_is_front, one_ranking}
use Rattle.partner_pick.proofs.ranking.best.Goals as goal

pub returns-clause-first : goal.returns-clause-first
returns-clause-first c places =
    best_is_front c.args.role c.args.own.now c.args.directory.now c.loop-place.place c.loop-place.best places (omega arith) c.loop-place.invariant

pub returns-clause-one : goal.returns-clause-one
returns-clause-one c = one_ranking c.args.role c.args.own.now c.args.directory.now
