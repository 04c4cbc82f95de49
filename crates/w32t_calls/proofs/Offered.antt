-- The contexts of a bind, as a list and one by one.
use Rattle.std.proofs.Common.{◌≡◌, ℕ, zero, suc, ◌+◌, ◌*◌, ◌<◌, ◌≤◌, List, [], ◌∷◌, length, drop, Some, refl, sym, ◌∙◌, ap, arith, subst}
use Rattle.std.specs.Prelude.{bytes_eq, slice_get, slice_index}
use Rattle.std.specs.Bool.{Decides}
use Rattle.std.proofs.lemmas.Bool.Decides.{Decides-and, Decides-below_or, Decides-eqb, same_from_decides}
use Rattle.std.proofs.lemmas.Bool.{cond-false, cond-true, le-leb, le-ltb, leb-true, lt-ltb}
use Rattle.std.proofs.lemmas.List.{drop-drop}
use Rattle.std.proofs.lemmas.Slice.Eq.{bytes_eq-Decides}
use Rattle.byte_codec.specs.Numbers.{low_word_at, part_at}
use Rattle.rpc_pdu.specs.declared.bind.Context.{Context}
use Rattle.rpc_pdu.specs.declared.bind.Bind.{Bind}
use Rattle.rpc_pdu.specs.declared.pdu.Pdu.{Pdu}
use Rattle.rpc_pdu.specs.Bind.{AreContexts, HasNdr, IsBind, IsContext, IsKnown, context_at, context_len, contexts_of, interface_bytes, ndr_bytes, offered_of}
use Rattle.rpc_pdu.specs.Header.{bind_ack_kind, bind_nak_kind, low_half_word_at}
use Rattle.w32t_calls.specs.declared.reaction.Reaction.{Reaction}
use Rattle.w32t_calls.specs.declared.reaction.Reaction.TheVariants.{Answers, Binds}
use Rattle.w32t_calls.specs.Answers.{ack_body, answer_pdu, nak_body, offered_contexts, reaction_to_bind}
use Rattle.w32t_calls.specs.Contexts.{accepted_of, context_of, contexts_in, has_ndr, is_known}

known_decides : (bytes : List ℕ) → Decides (is_known bytes) (IsKnown bytes)
known_decides bytes =
    let parts = Decides-and _ _ (bytes_eq-Decides (part_at 4 16 bytes) interface_bytes)
    (Decides-and _ _ (Decides-eqb (low_half_word_at 20 bytes) 4) (leb-true (low_half_word_at 22 bytes) 1, le-leb (low_half_word_at 22 bytes) 1)) in (
      λ is. let p = parts.0 is in record { interface = p.0; major = p.1.0; minor = p.1.1 },
      λ k. parts.1 (k.interface, (k.major, k.minor)),
    )

ndr_decides : (count : ℕ) (syntaxes : List ℕ) → Decides (has_ndr count syntaxes) (HasNdr count syntaxes)
ndr_decides count syntaxes =
    Decides-below_or (λ k. bytes_eq (part_at (20 * k) 20 syntaxes) ndr_bytes) (λ k. part_at (20 * k) 20 syntaxes ≡ ndr_bytes) (λ n. has_ndr n syntaxes)
    (λ k. bytes_eq-Decides (part_at (20 * k) 20 syntaxes) ndr_bytes) refl (λ n. refl) count

one_context : (context : Context) (bytes : List ℕ) → IsContext context bytes → context ≡ context_of bytes
one_context context bytes is =
    let id = is.id in
    let known = same_from_decides context.known (is_known bytes) (is.known.0, is.known.1) (known_decides bytes) in
    let syntaxes = drop 24 bytes in
    let ndr = same_from_decides context.ndr (has_ndr (slice_index bytes 2) syntaxes) (is.ndr.0, is.ndr.1) (ndr_decides (slice_index bytes 2) syntaxes) in
    λ i. record { id = id i; known = known i; ndr = ndr i }

-- where a context begins, by the first one and those after it
at_front : (k : ℕ) (bytes : List ℕ) → context_at (suc k) bytes ≡ context_len bytes + context_at k (drop (context_len bytes) bytes)
unfolding context_at
at_front zero bytes = omega arith
at_front (suc k) bytes =
    let len = context_len bytes in
    let rest = drop len bytes in
    let before = at_front k bytes in
    let same : drop (context_at (suc k) bytes) bytes ≡ drop (context_at k rest) rest =
    ap (λ (n : ℕ). drop n bytes) before ∙ sym (drop-drop (context_at k rest) len bytes) in
    omega (arith, before, ap context_len same)

each_behind : (k : ℕ) (context : Context) (bytes : List ℕ) → IsContext context (drop (context_at (suc k) bytes) bytes)
    → IsContext context (drop (context_at k (drop (context_len bytes) bytes)) (drop (context_len bytes) bytes))
each_behind k context bytes is =
    let len = context_len bytes in
    let rest = drop len bytes in
    let same : drop (context_at (suc k) bytes) bytes ≡ drop (context_at k rest) rest =
    ap (λ (n : ℕ). drop n bytes) (at_front k bytes) ∙ sym (drop-drop (context_at k rest) len bytes) in
    subst (IsContext context) same is

first_place : (bytes : List ℕ) → drop (context_at 0 bytes) bytes ≡ bytes
unfolding context_at
first_place bytes = refl

all_contexts : (contexts : List Context) (bytes : List ℕ)
    → ((k : ℕ) (context : Context) → slice_get contexts k ≡ Some context → IsContext context (drop (context_at k bytes) bytes))
    → contexts ≡ contexts_in (length contexts) bytes
all_contexts [] bytes each = refl
all_contexts (context ∷ contexts) bytes each =
    let first = one_context context bytes (subst (IsContext context) (first_place bytes) (each 0 context refl)) in
    let rest = all_contexts contexts (drop (context_len bytes) bytes) (λ k other is. each_behind k other bytes (each (suc k) other is)) in
    λ i. first i ∷ rest i

-- the contexts that are kept of a bind with no more than eight
pub contexts_same : (offered : ℕ) (contexts : List Context) (bytes : List ℕ) → offered ≤ 8 → AreContexts offered contexts bytes → contexts ≡ contexts_in offered bytes
contexts_same offered contexts bytes few are =
    let count : length contexts ≡ offered = omega (arith, are.count, few) in
    all_contexts contexts bytes are.each ∙ ap (λ (n : ℕ). contexts_in n bytes) count

-- what a bind of no more than eight contexts leads to
pub bind_reacts : (bind : Bind) (pdu : Pdu) → IsBind bind pdu.body → bind.offered ≤ 8
    → Binds (answer_pdu bind_ack_kind pdu.call_id (ack_body bind.group bind.contexts)) (accepted_of bind.contexts) ≡ reaction_to_bind pdu
unfolding reaction_to_bind
bind_reacts bind pdu is few =
    let contexts : bind.contexts ≡ offered_contexts pdu.body =
    contexts_same bind.offered bind.contexts (contexts_of pdu.body) few is.contexts ∙ ap (λ (n : ℕ). contexts_in n (contexts_of pdu.body)) is.offered in
    let make : ℕ → List Context → Reaction = λ group contexts. Binds (answer_pdu bind_ack_kind pdu.call_id (ack_body group contexts)) (accepted_of contexts) in
    ap (λ (g : ℕ). make g bind.contexts) is.group ∙ ap (make (low_word_at 4 pdu.body)) contexts
    ∙ sym (cond-false _ _ _ (le-ltb 8 (offered_of pdu.body) (omega (arith, is.offered, few))))

-- what a bind of more leads to
pub bind_refused : (bind : Bind) (pdu : Pdu) → IsBind bind pdu.body → 8 < bind.offered → Answers (answer_pdu bind_nak_kind pdu.call_id nak_body) ≡ reaction_to_bind pdu
unfolding reaction_to_bind
bind_refused bind pdu is many = sym (cond-true _ _ _ (lt-ltb 8 (offered_of pdu.body) (omega (arith, is.offered, many))))
