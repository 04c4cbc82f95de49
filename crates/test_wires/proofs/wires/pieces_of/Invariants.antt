use Rattle.std.proofs.Common.{◌<◌, All, length}
use Rattle.test_wires.proofs.wires.pieces_of.Given as goal

-- no piece so far is empty
abbrev pub invariant-loop-text : goal.invariant-loop-text
invariant-loop-text l = All (λ piece. 0 < length piece.items) l.pieces.items
