use Rattle.stamp_keep.proofs.Gates.{both_moments, half_moments, one_moments}
use Rattle.stamp_keep.proofs.steps.turn_gates.Goals as goal

pub returns-in_err-done-in-Some-clause-moments : goal.returns-in_err-done-in-Some-clause-moments
returns-in_err-done-in-Some-clause-moments g c =
    half_moments _ _ _ _ _ _ _ _ (g.D.Disk.is_disk c.args.disk.now) c.in-Some.is c.write_at.ensures.writes c.write_at.ensures.elapses c.write_at-in-Some.ensures.writes c.write_at-in-Some.ensures.elapses

pub returns-in_ok-done-in-Some-clause-moments : goal.returns-in_ok-done-in-Some-clause-moments
returns-in_ok-done-in-Some-clause-moments g c =
    both_moments _ _ _ _ _ _ _ _ _ _ (g.D.Disk.is_disk c.args.disk.now) c.in-Some.is c.write_at.ensures.writes c.write_at.ensures.elapses c.write_at-in-Some.ensures.writes c.write_at-in-Some.ensures.elapses c.sync.ensures.syncs c.sync.ensures.elapses

pub returns-in-None-clause-moments : goal.returns-in-None-clause-moments
returns-in-None-clause-moments g c =
    one_moments _ _ _ _ _ _ _ (g.D.Disk.is_disk c.args.disk.now) c.write_at.ensures.writes c.write_at.ensures.elapses c.sync-in-None.ensures.syncs c.sync-in-None.ensures.elapses
