use Rattle.stamp_keep.proofs.Moments.{on_ok_both}
use Rattle.stamp_keep.proofs.Staging.{turn_fits, turn_moments}
use Rattle.stamp_keep.proofs.keeper.Keeper.switch.Goals as goal

pub returns-clause-moments : goal.returns-clause-moments
returns-clause-moments g c =
    let run = rw (c.at.ensures, c.to_close.ensures.to_close) at c.turn_gates.ensures.moments in
    turn_moments c.args.self.now c.args.mark _ _ c.requires.staged c.requires.grows run

pub returns-clause-fits : goal.returns-clause-fits
returns-clause-fits g c =
    let turned = rw (c.at.ensures, c.to_close.ensures.to_close) at c.turn_gates.ensures.turned in
    on_ok_both c.turn_gates.result turned c.turn_gates.ensures.durable (turn_fits c.args.self.now c.args.mark _ _ (g.D.Disk.is_disk c.args.disk.now) (g.D.Disk.is_disk c.turn_gates.new.disk) c.requires.staged c.requires.grows)

pub returns-clause-turned : goal.returns-clause-turned
returns-clause-turned g c = rw (c.at.ensures, c.to_close.ensures.to_close) at c.turn_gates.ensures.turned

pub returns-clause-made : goal.returns-clause-made
returns-clause-made g c = rw (c.to_close.ensures.to_close) at c.turn_gates.ensures.made
