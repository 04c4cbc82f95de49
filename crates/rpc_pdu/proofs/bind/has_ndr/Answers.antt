use Rattle.std.proofs.Common.{ℕ, List, eqb, sym, ◌∙◌, ap, below_more}
use Rattle.std.proofs.lemmas.Bool.{true≢false}
use Rattle.std.specs.Cmp.Lexicographic.{pointwise}
use Rattle.rpc_pdu.specs.Bind.{ndr_bytes}
use Rattle.rpc_pdu.proofs.Contexts.{syntax_len, syntax_is, syntaxes_more}
use Rattle.rpc_pdu.proofs.bind.has_ndr.Goals as goal

pub loop-preserved : goal.loop-preserved
loop-preserved c =
    let cut = c.read_array.ensures.bytes in
    let size = syntax_len _ _ _ cut c.read_array.ensures.rest in
    let here = syntax_is c.loop.counter _ _ _ _ c.loop.invariant.rest cut size in
    record {
      rest = syntaxes_more c.loop.counter _ _ _ _ c.loop.invariant.rest cut size;
      none = below_more _ _ c.loop.invariant.none (λ same.
          true≢false (sym (ap (λ (l : List ℕ). pointwise eqb l ndr_bytes) (sym here ∙ same)) ∙ sym c.eq.ensures ∙ c.if-eq.false));
    }
