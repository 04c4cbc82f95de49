use Rattle.std.proofs.Common.{All}
use Rattle.edge_io.specs.LinkScript.{IsNoFailure}
use Rattle.test_lives.proofs.rounds.receipts_of.Given as goal

-- no receipt so far is a failed receive
abbrev pub invariant-loop-row : goal.invariant-loop-row
invariant-loop-row l = All IsNoFailure l.receipts.items
