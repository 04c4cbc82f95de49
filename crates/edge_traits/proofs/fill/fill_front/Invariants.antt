use Rattle.std.proofs.Common.{◌≡◌, ◌-◌, ◌≤◌, length, take}
use Rattle.base_specs.specs.Told.{Took}
use Rattle.edge_traits.proofs.fill.fill_front.Given as goal

-- what stands in the buffer is what the source has given
abbrev pub invariant-loop-filled : goal.invariant-loop-filled
invariant-loop-filled g l = record {
  within : l.filled ≤ length l.buf;
  took : Took (g.S.Source.left l.initial.source) (g.S.Source.left l.source) (take l.filled l.buf);
  same : g.S.Source.faults l.source ≡ g.S.Source.faults l.initial.source;
}

abbrev pub decreases-loop-filled : goal.decreases-loop-filled
decreases-loop-filled g l = length l.initial.buf - l.filled
