use Rattle.w32tm_text.specs.Words.{texts}
use Rattle.w32tm_text.proofs.Givens.{AreBelow}
use Rattle.w32tm_text.proofs.options.are_options.Given as goal

-- the words before this place give options that the command has
abbrev pub invariant-loop-place : goal.invariant-loop-place
invariant-loop-place l = AreBelow l.action (texts l.words.items) l.place
