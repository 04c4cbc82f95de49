use Rattle.std.proofs.Common.{◌-◌}
use Rattle.capture_fmt.specs.Capture.{place_limit}
use Rattle.edge_seen.specs.Seen.{Seen}
use Rattle.replay_run.specs.Replay.{replaying}
use Rattle.replay_run.specs.Running.{Runs}
use Rattle.replay_run.proofs.run.step_through.Given as goal

-- the events read so far were taken
abbrev pub invariant-loop-event : goal.invariant-loop-event
invariant-loop-event g l = (others : Seen) → Runs l.fn.conf l.reader l.member l.end
    (replaying others (g.S.Source.left l.initial.source) (g.S.Source.faults l.initial.source) (g.O.Sink.written l.initial.sink) (g.O.Sink.faults l.initial.sink))
    (replaying others (g.S.Source.left l.source) (g.S.Source.faults l.source) (g.O.Sink.written l.sink) (g.O.Sink.faults l.sink))

-- no record begins past the limit
abbrev pub decreases-loop-event : goal.decreases-loop-event
decreases-loop-event g l = place_limit - l.reader.place
