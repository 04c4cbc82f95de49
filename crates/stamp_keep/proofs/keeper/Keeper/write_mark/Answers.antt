use Rattle.std.proofs.Common.{arith}
use Rattle.stamp_keep.proofs.Contents.{fits_apart, reserve_made, reserved_content}
use Rattle.stamp_keep.proofs.Reserving.{reserve_least, reserve_loads, reserve_marks, reserve_unused, stage_least, stage_loads, stage_marks, stage_unused}
use Rattle.stamp_keep.proofs.keeper.Keeper.write_mark.Goals as goal

pub returns-in_err-stage-clause-any_moment : goal.returns-in_err-stage-clause-any_moment
returns-in_err-stage-clause-any_moment g c = stage_marks c.args.self.now _ _ c.stage.ensures.moments c.args.mark

pub returns-in_err-stage-clause-loadable : goal.returns-in_err-stage-clause-loadable
returns-in_err-stage-clause-loadable g c = stage_loads c.args.self.now _ _ c.stage.ensures.moments

pub returns-in_err-stage-clause-unused : goal.returns-in_err-stage-clause-unused
returns-in_err-stage-clause-unused g c = stage_unused c.args.self.now _ _ c.stage.ensures.moments

pub returns-in_err-stage-clause-least : goal.returns-in_err-stage-clause-least
returns-in_err-stage-clause-least g c = stage_least c.args.self.now _ _ c.stage.ensures.moments (g.D.Disk.is_disk c.stage.new.disk) c.requires.fits

pub returns-in_err-switch-clause-any_moment : goal.returns-in_err-switch-clause-any_moment
returns-in_err-switch-clause-any_moment g c =
    reserve_marks c.args.self.now _ c.args.mark _ _ (g.D.Disk.is_disk c.stage.new.disk) c.stage.ensures.moments c.switch.ensures.moments

pub returns-in_err-switch-clause-loadable : goal.returns-in_err-switch-clause-loadable
returns-in_err-switch-clause-loadable g c =
    reserve_loads c.args.self.now _ c.args.mark _ _ (g.D.Disk.is_disk c.stage.new.disk) c.stage.ensures.moments c.switch.ensures.moments

pub returns-in_err-switch-clause-unused : goal.returns-in_err-switch-clause-unused
returns-in_err-switch-clause-unused g c =
    reserve_unused c.args.self.now _ c.args.mark _ _ (g.D.Disk.is_disk c.stage.new.disk) c.stage.ensures.moments c.switch.ensures.moments

pub returns-in_err-switch-clause-least : goal.returns-in_err-switch-clause-least
returns-in_err-switch-clause-least g c =
    reserve_least c.args.self.now _ c.args.mark _ _ (g.D.Disk.is_disk c.stage.new.disk) c.stage.ensures.moments c.switch.ensures.moments (g.D.Disk.is_disk c.switch.new.disk) c.requires.fits (omega (arith, c.requires.grows))

pub returns-clause-any_moment : goal.returns-clause-any_moment
returns-clause-any_moment g c =
    reserve_marks c.args.self.now _ c.args.mark _ _ (g.D.Disk.is_disk c.stage.new.disk) c.stage.ensures.moments c.switch.ensures.moments

pub returns-clause-loadable : goal.returns-clause-loadable
returns-clause-loadable g c =
    reserve_loads c.args.self.now _ c.args.mark _ _ (g.D.Disk.is_disk c.stage.new.disk) c.stage.ensures.moments c.switch.ensures.moments

pub returns-clause-unused : goal.returns-clause-unused
returns-clause-unused g c =
    reserve_unused c.args.self.now _ c.args.mark _ _ (g.D.Disk.is_disk c.stage.new.disk) c.stage.ensures.moments c.switch.ensures.moments

pub returns-clause-least : goal.returns-clause-least
returns-clause-least g c =
    reserve_least c.args.self.now _ c.args.mark _ _ (g.D.Disk.is_disk c.stage.new.disk) c.stage.ensures.moments c.switch.ensures.moments (g.D.Disk.is_disk c.switch.new.disk) c.requires.fits (omega (arith, c.requires.grows))

pub returns-clause-written : goal.returns-clause-written
returns-clause-written g c =
    let apart = fits_apart c.args.self.now _ (g.D.Disk.is_disk c.args.disk.now) c.requires.fits in
    reserved_content c.args.self.now c.args.mark _ _ _ apart c.in_ok-stage.ensures.written c.in_ok-switch.ensures.turned

pub returns-clause-made : goal.returns-clause-made
returns-clause-made g c =
    reserve_made c.args.self.now (g.D.Disk.told c.args.disk.now) (g.D.Disk.told c.stage.new.disk) (g.D.Disk.told c.switch.new.disk) c.in_ok-stage.ensures.made c.in_ok-switch.ensures.made
