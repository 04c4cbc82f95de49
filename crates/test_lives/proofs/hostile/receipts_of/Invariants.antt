use Rattle.std.proofs.Common.{All}
use Rattle.edge_io.specs.LinkScript.{IsNoFailure}
use Rattle.test_lives.proofs.hostile.receipts_of.Given as goal

-- no receipt so far is a failed receive
abbrev pub invariant-loop-place : goal.invariant-loop-place
invariant-loop-place l = All IsNoFailure l.receipts.items
