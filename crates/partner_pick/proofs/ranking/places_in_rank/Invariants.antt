use Rattle.std.proofs.Common.{◌-◌, length}
use Rattle.partner_pick.specs.Progress.{IsRankedTo}
use Rattle.partner_pick.proofs.ranking.places_in_rank.Given as goal

abbrev pub invariant-loop-worse : goal.invariant-loop-worse
invariant-loop-worse l = IsRankedTo l.role l.own l.directory (16 - l.worse) (length l.directory) l.places.items
