use Rattle.std.proofs.Common.{◌≡◌, ◌<◌, ◌*◌, ℕ, drop}
use Rattle.byte_codec.specs.Numbers.{part_at}
use Rattle.rpc_pdu.specs.Bind.{ndr_bytes}
use Rattle.rpc_pdu.proofs.bind.has_ndr.Given as goal

-- none of so many syntaxes is NDR, and the rest stands behind them
abbrev pub invariant-loop : goal.invariant-loop
invariant-loop l = record {
  rest : l.rest ≡ drop (20 * l.counter) l.syntaxes;
  none : (k : ℕ) → k < l.counter → part_at (20 * k) 20 l.syntaxes ≡ ndr_bytes → ⊥;
}
