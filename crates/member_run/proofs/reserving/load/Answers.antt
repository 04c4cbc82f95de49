use Rattle.member_run.proofs.Leaving.{loaded_from, loaded_loads}
use Rattle.member_run.proofs.reserving.load.Goals as goal

pub returns-in-Err-clause-still_loads : goal.returns-in-Err-clause-still_loads
returns-in-Err-clause-still_loads g c = loaded_loads _ _ (g.D.Disk.is_disk c.load.new.disk) c.load.ensures.loadable

pub returns-in-Ok-clause-loaded : goal.returns-in-Ok-clause-loaded
returns-in-Ok-clause-loaded g c =
    loaded_from _ _ c.in-Ok.keeper _ (g.D.Disk.is_disk c.load.new.disk) c.load.ensures.any_moment c.in-Ok.ensures.fits c.in-Ok.ensures.mark
