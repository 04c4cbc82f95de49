use Rattle.stamp_keep.specs.Keep.{Fits}
use Rattle.stamp_keep.proofs.tests.live.Given as goal

abbrev pub invariant-reserves : goal.invariant-reserves
invariant-reserves g l = Fits (g.D.Disk.told l.disk) l.keeper
