-- Lists that are made one item after the other.
use Rattle.std.proofs.Common.{◌≡◌, ℕ, ◌+◌, Bool, List, [], ◌∷◌, ◌++◌, take, Some, sym, ◌∙◌, ap, append_assoc}
use Rattle.std.specs.Prelude.{flat_map, slice_get, map, filter, ◌&&◌}
use Rattle.std.proofs.lemmas.List.{append-nil, take_more, map-append}
use Rattle.std.proofs.lemmas.List.Elements.{filter-append}
use Rattle.std.proofs.lemmas.Grind.{flat_map-append}
use Rattle.std.proofs.lemmas.Option.{get_or_from_slice_get, slice_get_within}
use Rattle.rpc_pdu.specs.declared.bind.Context.{Context}
use Rattle.w32t_calls.specs.Contexts.{accepted_of}

-- one item more of a list
pub taken_more : {X : Type 0} (xs : List X) (i : ℕ) (x : X) → slice_get xs i ≡ Some x → take (i + 1) xs ≡ take i xs ++ x ∷ []
taken_more xs i x is =
    take_more xs i x (slice_get_within xs i x is) ∙ ap (λ (y : _). take i xs ++ y ∷ []) (get_or_from_slice_get xs i x x is)

-- the parts of one item more
pub parts_more : {X : Type 0} (part : X → List ℕ) (xs : List X) (i : ℕ) (x : X) (front old new : List ℕ) → slice_get xs i ≡ Some x
    → old ≡ front ++ flat_map part (take i xs) → new ≡ old ++ part x → new ≡ front ++ flat_map part (take (i + 1) xs)
parts_more part xs i x front old new is before now =
    let more : flat_map part (take (i + 1) xs) ≡ flat_map part (take i xs) ++ flat_map part (x ∷ []) =
    ap (flat_map part) (taken_more xs i x is) ∙ flat_map-append part (take i xs) (x ∷ []) in
    let one : flat_map part (x ∷ []) ≡ part x = append-nil (part x) in
    now ∙ ap (λ (l : List ℕ). l ++ part x) before ∙ append_assoc front (flat_map part (take i xs)) (part x)
    ∙ ap (λ (l : List ℕ). front ++ l) (sym (more ∙ ap (λ (l : List ℕ). flat_map part (take i xs) ++ l) one))

-- the contexts accepted among one more
pub accepted_more : (xs : List Context) (i : ℕ) (x : Context) (old new : List ℕ) → slice_get xs i ≡ Some x
    → old ≡ accepted_of (take i xs) → new ≡ old ++ accepted_of (x ∷ []) → new ≡ accepted_of (take (i + 1) xs)
accepted_more xs i x old new is before now =
    let id : Context → ℕ = λ context. context.id in
    let kept : Context → Bool = λ context. context.known && context.ndr in
    now ∙ ap (λ (l : List ℕ). l ++ accepted_of (x ∷ [])) before
    ∙ sym (map-append id (filter kept (take i xs)) (filter kept (x ∷ [])))
    ∙ ap (map id) (sym (filter-append kept (take i xs) (x ∷ [])))
    ∙ ap accepted_of (sym (taken_more xs i x is))
