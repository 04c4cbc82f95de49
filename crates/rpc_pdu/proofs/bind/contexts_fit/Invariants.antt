use Rattle.std.proofs.Common.{◌≡◌, ◌≤◌, length, drop}
use Rattle.rpc_pdu.specs.Bind.{context_at, contexts_of}
use Rattle.rpc_pdu.proofs.bind.contexts_fit.Given as goal

-- so many contexts are whole, and the rest stands behind them
abbrev pub invariant-loop : goal.invariant-loop
invariant-loop l = record {
  within : context_at l.counter (contexts_of l.body) ≤ length (contexts_of l.body);
  rest : l.rest ≡ drop (context_at l.counter (contexts_of l.body)) (contexts_of l.body);
}
