use Rattle.std.proofs.Common.{◌≡◌}
use Rattle.member_run.specs.Borrowing.{SameBorrows}
use Rattle.member_run.proofs.Rounding.{Rounds}
use Rattle.member_run.proofs.running.Running.round.Given as goal

abbrev pub invariant-loop : goal.invariant-loop
invariant-loop g l = Rounds l.counter l.fn.self l.self l.result (g.E.Entropy.words l.fn.devices.entropy.now) (g.E.Entropy.faults l.fn.devices.entropy.now) (g.D.Disk.faults l.fn.devices.disk.now)
    (g.L.Link.told l.fn.devices.link.now) (g.L.Link.told l.devices.link.now) (g.C.Clock.told l.fn.devices.clock.now) (g.C.Clock.told l.devices.clock.now) (g.O.Sink.written l.fn.devices.capture.now) (g.O.Sink.written l.devices.capture.now) (g.O.Sink.written l.fn.devices.out.now) (g.O.Sink.written l.devices.out.now)
    (g.L.Link.faults l.fn.devices.link.now) (g.L.Link.faults l.devices.link.now) (g.C.Clock.faults l.fn.devices.clock.now) (g.C.Clock.faults l.devices.clock.now) (g.O.Sink.faults l.fn.devices.capture.now) (g.O.Sink.faults l.devices.capture.now) (g.O.Sink.faults l.fn.devices.out.now) (g.O.Sink.faults l.devices.out.now)
    × (l.devices.disk ≡ l.fn.devices.disk) × (l.devices.entropy ≡ l.fn.devices.entropy) × SameBorrows l.fn.devices l.devices
