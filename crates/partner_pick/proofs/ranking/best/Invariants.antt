use Rattle.partner_pick.specs.Progress.{IsBestBelow}
use Rattle.partner_pick.proofs.ranking.best.Given as goal

abbrev pub invariant-loop-place : goal.invariant-loop-place
invariant-loop-place l = IsBestBelow l.role l.own l.directory l.place l.best
