use Rattle.std.proofs.Common.{◌≤◌, ◌+◌, length}
use Rattle.std.specs.Str.Lines.{lines}
use Rattle.text_grammar.proofs.Progress.{HasRead}
use Rattle.partner_pick.specs.ComputerText.{computer_text}
use Rattle.partner_pick.proofs.parse.parse_directory.Given as goal

-- the lines up to here are read, and are no more than the bytes
abbrev pub invariant-loop-line : goal.invariant-loop-line
invariant-loop-line l = record {
  read : HasRead computer_text (lines l.text) l.number l.directory (lines l.left);
  few : l.number + length l.left ≤ length l.text;
}

abbrev pub decreases-loop-line : goal.decreases-loop-line
decreases-loop-line l = length l.left
