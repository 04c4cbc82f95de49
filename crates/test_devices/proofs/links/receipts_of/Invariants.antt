use Rattle.std.proofs.Common.{All}
use Rattle.edge_io.specs.LinkScript.{IsNoFailure}
use Rattle.test_devices.proofs.links.receipts_of.Given as goal

-- no receipt so far is a failed receive
abbrev pub invariant-loop-text : goal.invariant-loop-text
invariant-loop-text l = All IsNoFailure l.receipts.items
