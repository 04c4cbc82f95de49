use Rattle.partner_pick.specs.Progress.{IsRankedTo}
use Rattle.partner_pick.proofs.ranking.add_scored.Given as goal

abbrev pub invariant-loop-place : goal.invariant-loop-place
invariant-loop-place l = IsRankedTo l.role l.own l.directory l.wanted l.place l.places.items
