use Rattle.edge_seen.specs.Seen.{Seen}
use Rattle.run_deeds.specs.Devices.{faults, living}
use Rattle.member_run.proofs.Turning.{Goes}
use Rattle.member_run.proofs.running.Running.take_turns.Given as goal

abbrev pub invariant-loop : goal.invariant-loop
invariant-loop g l = Goes l.turns l.counter l.fn.self l.self (g.D.Disk.told l.fn.disk) (g.D.Disk.told l.disk)
    (λ (others : Seen). living others (g.L.Link.told l.fn.link) (g.C.Clock.told l.fn.clock) (g.E.Entropy.words l.fn.entropy) (g.O.Sink.written l.fn.capture) (g.O.Sink.written l.fn.out) (g.L.Link.faults l.fn.link)
    (faults (g.C.Clock.faults l.fn.clock) (g.E.Entropy.faults l.fn.entropy) (g.D.Disk.faults l.fn.disk) (g.O.Sink.faults l.fn.capture) (g.O.Sink.faults l.fn.out)))
    (λ (others : Seen). living others (g.L.Link.told l.link) (g.C.Clock.told l.clock) (g.E.Entropy.words l.entropy) (g.O.Sink.written l.capture) (g.O.Sink.written l.out) (g.L.Link.faults l.link)
    (faults (g.C.Clock.faults l.clock) (g.E.Entropy.faults l.entropy) (g.D.Disk.faults l.disk) (g.O.Sink.faults l.capture) (g.O.Sink.faults l.out)))
