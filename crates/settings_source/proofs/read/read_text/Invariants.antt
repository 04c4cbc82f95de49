use Rattle.std.proofs.Common.{◌≡◌, ◌-◌, ◌≤◌, length}
use Rattle.base_specs.specs.Told.{Took}
use Rattle.settings_source.proofs.read.read_text.Given as goal

-- the text is what the source has given
abbrev pub invariant-loop-piece : goal.invariant-loop-piece
invariant-loop-piece g l = record {
  within : length l.text.items ≤ 16777217;
  took : Took (g.S.Source.left l.initial.source) (g.S.Source.left l.source) l.text.items;
  same : g.S.Source.faults l.source ≡ g.S.Source.faults l.initial.source;
}

abbrev pub decreases-loop-piece : goal.decreases-loop-piece
decreases-loop-piece g l = 16777217 - length l.text.items
