use Rattle.std.specs.Prelude.{All}
use Rattle.edge_io.specs.LinkScript.{IsNoFailure}
use Rattle.sntp_vectors.proofs.runs.receipts_of.Given as goal

abbrev pub invariant-loop-came : goal.invariant-loop-came
invariant-loop-came l = All IsNoFailure l.receipts.items
