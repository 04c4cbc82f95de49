use Rattle.std.proofs.Common.{All}
use Rattle.edge_io.specs.LinkScript.{IsNoFailure}
use Rattle.test_lives.proofs.rounds.add_times.Given as goal

-- no receipt so far is a failed receive
abbrev pub invariant-loop : goal.invariant-loop
invariant-loop l = All IsNoFailure l.receipts.items
