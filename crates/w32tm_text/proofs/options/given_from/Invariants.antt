use Rattle.w32tm_text.specs.Words.{texts}
use Rattle.w32tm_text.proofs.Givens.{NoneBetween}
use Rattle.w32tm_text.proofs.options.given_from.Given as goal

-- no word before this place gives the option
abbrev pub invariant-loop-place : goal.invariant-loop-place
invariant-loop-place l = NoneBetween l.name (texts l.words.items) l.from l.place
