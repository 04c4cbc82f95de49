use Rattle.std.proofs.Common.{◌≤◌, ◌+◌, length}
use Rattle.std.specs.Str.Lines.{lines}
use Rattle.w32t_settings.proofs.Reading.{HasKept}
use Rattle.w32t_settings.proofs.read.read_settings.Given as goal

-- the lines up to here are read and kept, and are no more than the bytes
abbrev pub invariant-loop-line : goal.invariant-loop-line
invariant-loop-line l = record {
  kept : HasKept (lines l.text) l.number (lines l.left) l.draft;
  few : l.number + length l.left ≤ length l.text;
}

abbrev pub decreases-loop-line : goal.decreases-loop-line
decreases-loop-line l = length l.left
