use Rattle.std.proofs.Common.{All}
use Rattle.edge_io.specs.LinkScript.{IsNoFailure}
use Rattle.test_scripts.proofs.objects.receipts_of.Given as goal

-- no receipt so far is a failed receive
abbrev pub invariant-loop-came : goal.invariant-loop-came
invariant-loop-came l = All IsNoFailure l.receipts.items
