use Rattle.std.proofs.Common.{◌<◌, All, length}
use Rattle.test_client.proofs.calls.add_pieces.Given as goal

-- no piece so far is empty
abbrev pub invariant-loop-rest : goal.invariant-loop-rest
invariant-loop-rest l = All (λ piece. 0 < length piece.items) l.pieces.items

abbrev pub decreases-loop-rest : goal.decreases-loop-rest
decreases-loop-rest l = length l.rest
