use Rattle.std.proofs.Common.{◌≡◌, arith}
use Rattle.run_deeds.specs.declared.life_end.Why.TheVariants.{DiskFault}
use Rattle.member_run.proofs.Leaving.{called_of, reserved_loads, reserved_low, reserved_rises, reserved_stops, still_low, still_rises, unused_same}
use Rattle.member_run.proofs.running.Running.ensure_count.Goals as goal

pub returns-in-Err-clause-still_loads : goal.returns-in-Err-clause-still_loads
returns-in-Err-clause-still_loads g c = reserved_loads _ _ (g.D.Disk.is_disk c.reserve.new.disk) c.reserve.ensures.loadable

pub returns-then-self-mark-clause-most : goal.returns-then-self-mark-clause-most
returns-then-self-mark-clause-most g c = still_rises c.args.self.now _ (g.D.Disk.is_disk c.args.disk.now) c.requires.going

pub returns-then-self-mark-clause-unused : goal.returns-then-self-mark-clause-unused
returns-then-self-mark-clause-unused g c = unused_same _ (g.D.Disk.is_disk c.args.disk.now)

pub returns-in-Ok-clause-most : goal.returns-in-Ok-clause-most
returns-in-Ok-clause-most g c =
    reserved_rises c.args.self.now _ _ (omega (arith, c.if-self-mark.false, c.mark.ensures, c.requires.going.within)) c.reserve.ensures.any_moment

pub returns-in-Err-clause-most : goal.returns-in-Err-clause-most
returns-in-Err-clause-most g c =
    reserved_rises c.args.self.now _ _ (omega (arith, c.if-self-mark.false, c.mark.ensures, c.requires.going.within)) c.reserve.ensures.any_moment

pub returns-then-self-mark-clause-any_moment : goal.returns-then-self-mark-clause-any_moment
returns-then-self-mark-clause-any_moment g c = still_low c.args.self.now _ (g.D.Disk.is_disk c.args.disk.now) c.requires.going

pub returns-in-Ok-clause-any_moment : goal.returns-in-Ok-clause-any_moment
returns-in-Ok-clause-any_moment g c = reserved_low c.args.self.now _ _ c.reserve.ensures.any_moment

pub returns-in-Err-clause-any_moment : goal.returns-in-Err-clause-any_moment
returns-in-Err-clause-any_moment g c = reserved_low c.args.self.now _ _ c.reserve.ensures.any_moment

pub returns-in-Err-clause-stopped : goal.returns-in-Err-clause-stopped
returns-in-Err-clause-stopped g c = λ is.
    let fault : c.why_of_fault.result ≡ DiskFault = cc is in
    let called = called_of c.in-Err.fault c.why_of_fault.result (g.D.Disk.told c.args.disk.now) (g.D.Disk.told c.reserve.new.disk) c.why_of_fault.ensures fault c.in-Err.ensures.called in
    reserved_stops c.args.self.now _ (g.D.Disk.told c.reserve.new.disk) (g.D.Disk.is_disk c.reserve.new.disk) c.requires.going c.reserve.ensures.any_moment c.reserve.ensures.unused called
