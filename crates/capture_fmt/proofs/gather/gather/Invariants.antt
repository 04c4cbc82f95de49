use Rattle.std.proofs.Common.{◌≡◌, ◌-◌, length}
use Rattle.capture_fmt.specs.Gather.{Gains}
use Rattle.capture_fmt.specs.Record.{IsCut}
use Rattle.capture_fmt.proofs.gather.gather.Given as goal

-- what was taken is held, and nothing was where it wasn't needed
abbrev pub invariant-loop-event : goal.invariant-loop-event
invariant-loop-event g l = record {
  gains : Gains l.initial.held l.held (g.S.Source.left l.initial.source) (g.S.Source.left l.source);
  same : g.S.Source.faults l.source ≡ g.S.Source.faults l.initial.source;
  untouched : (IsCut l.initial.held → ⊥) → (l.source ≡ l.initial.source) × (l.held ≡ l.initial.held);
}

-- a record that is cut is shorter than the longest
abbrev pub decreases-loop-event : goal.decreases-loop-event
decreases-loop-event g l = 273 - length l.held
