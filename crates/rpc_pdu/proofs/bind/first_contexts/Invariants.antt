use Rattle.std.proofs.Common.{◌≡◌, drop}
use Rattle.rpc_pdu.specs.Bind.{AreContexts, context_at}
use Rattle.rpc_pdu.proofs.bind.first_contexts.Given as goal

-- so many contexts are kept, and the rest stands behind them
abbrev pub invariant-loop : goal.invariant-loop
invariant-loop l = record {
  kept : AreContexts l.counter l.contexts.items l.bytes;
  rest : l.rest ≡ drop (context_at l.counter l.bytes) l.bytes;
}
