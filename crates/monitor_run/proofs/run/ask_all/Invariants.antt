use Rattle.std.proofs.Common.{◌≤◌, take}
use Rattle.edge_seen.specs.Seen.{Seen}
use Rattle.monitor_run.specs.Monitoring.{monitoring}
use Rattle.monitor_run.specs.Progress.{HasAsked}
use Rattle.monitor_run.proofs.run.ask_all.Given as goal

abbrev pub invariant-loop-place : goal.invariant-loop-place
invariant-loop-place g l =
    ((others : Seen) → HasAsked (take l.place l.fn.directory)
    (monitoring others (g.L.Link.told l.fn.link) (g.L.Link.faults l.fn.link) (g.C.Clock.told l.fn.clock) (g.C.Clock.faults l.fn.clock) (g.E.Entropy.words l.fn.entropy) (g.E.Entropy.faults l.fn.entropy) (g.O.Sink.written l.fn.out) (g.O.Sink.faults l.fn.out))
    (monitoring others (g.L.Link.told l.link) (g.L.Link.faults l.link) (g.C.Clock.told l.clock) (g.C.Clock.faults l.clock) (g.E.Entropy.words l.entropy) (g.E.Entropy.faults l.entropy) (g.O.Sink.written l.out) (g.O.Sink.faults l.out))
    l.answered)
    × (l.answered ≤ l.place)
