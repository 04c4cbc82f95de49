use Rattle.edge_seen.specs.Seen.{Seen}
use Rattle.run_deeds.specs.Devices.{faults, living}
use Rattle.service_run.specs.Profile.{profile_of}
use Rattle.service_run.proofs.Served.{GoesAll}
use Rattle.service_run.proofs.serving.serve_all.Given as goal

-- so many sessions were served, each with its line
abbrev pub invariant-loop-served : goal.invariant-loop-served
invariant-loop-served g l = GoesAll (profile_of l.fn.settings l.fn.ranked) l.fn.running l.running l.served (g.D.Disk.told l.fn.disk) (g.D.Disk.told l.disk)
    (λ (others : Seen). living others (g.L.Link.told l.fn.link) (g.C.Clock.told l.fn.clock) (g.E.Entropy.words l.fn.entropy) (g.O.Sink.written l.fn.capture) (g.O.Sink.written l.fn.out) (g.L.Link.faults l.fn.link)
    (faults (g.C.Clock.faults l.fn.clock) (g.E.Entropy.faults l.fn.entropy) (g.D.Disk.faults l.fn.disk) (g.O.Sink.faults l.fn.capture) (g.O.Sink.faults l.fn.out)))
    (λ (others : Seen). living others (g.L.Link.told l.link) (g.C.Clock.told l.clock) (g.E.Entropy.words l.entropy) (g.O.Sink.written l.capture) (g.O.Sink.written l.out) (g.L.Link.faults l.link)
    (faults (g.C.Clock.faults l.clock) (g.E.Entropy.faults l.entropy) (g.D.Disk.faults l.disk) (g.O.Sink.faults l.capture) (g.O.Sink.faults l.out)))
    (g.W.Wire.told l.fn.wire) (g.W.Wire.told l.wire) (g.W.Wire.faults l.fn.wire) (g.W.Wire.faults l.wire) (g.W.Wire.write_faults l.fn.wire) (g.W.Wire.write_faults l.wire)
