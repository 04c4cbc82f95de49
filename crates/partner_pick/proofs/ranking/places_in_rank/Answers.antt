use Rattle.std.proofs.Common.{◌≡◌, ◌-◌, ◌+◌, arith}
use Rattle.partner_pick.proofs.Steps.{ranked_lower, ranked_whole, one_ranking}
use Rattle.partner_pick.proofs.ranking.places_in_rank.Goals as goal

pub add_scored-requires : goal.add_scored-requires
add_scored-requires c =
    let e : 16 - c.loop-worse.worse ≡ 15 - c.loop-worse.worse + 1 = omega arith in
    ranked_lower c.args.role c.args.own.now c.args.directory.now (15 - c.loop-worse.worse) c.loop-worse.places.items
    (rw e at c.loop-worse.invariant)

pub returns-clause-ranked : goal.returns-clause-ranked
returns-clause-ranked c =
    let e : 16 - c.loop-worse.worse ≡ 0 = omega arith in
    ranked_whole c.args.role c.args.own.now c.args.directory.now c.loop-worse.places.items (rw e at c.loop-worse.invariant)

pub returns-clause-only : goal.returns-clause-only
returns-clause-only c others =
    let e : 16 - c.loop-worse.worse ≡ 0 = omega arith in
    one_ranking c.args.role c.args.own.now c.args.directory.now c.loop-worse.places.items others
    (ranked_whole c.args.role c.args.own.now c.args.directory.now c.loop-worse.places.items (rw e at c.loop-worse.invariant))
