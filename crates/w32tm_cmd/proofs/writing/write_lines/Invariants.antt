use Rattle.std.proofs.Common.{◌≡◌, take}
use Rattle.base_specs.specs.Told.{Added}
use Rattle.line_text.specs.Text.{joined}
use Rattle.w32tm_cmd.proofs.writing.write_lines.Given as goal

abbrev pub invariant-loop-line : goal.invariant-loop-line
invariant-loop-line g l = record {
  written : Added (g.O.Sink.written l.initial.out) (g.O.Sink.written l.out) (joined (take l.line-index l.lines));
  no_fault : g.O.Sink.faults l.out ≡ g.O.Sink.faults l.initial.out;
}
