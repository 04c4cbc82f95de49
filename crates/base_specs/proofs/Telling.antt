-- What is told over several calls.
use Rattle.std.proofs.Common.{◌≡◌, List, [], ◌∷◌, ◌++◌, length, Option, Some, None, refl, sym, ◌∙◌, ap, append_assoc, subst, length-append}
use Rattle.std.proofs.lemmas.List.{append-nil}
use Rattle.base_specs.specs.Told.{Changed, Grew, Added, Took, LastChanged, LastTold}

-- two changes, one after the other
pub changed_more : {T : Type 0} (f g : T → T) (old mid new : Option T) → Changed f old mid → Changed g mid new → Changed (λ t. g (f t)) old new
changed_more f g old mid None first next = tt
changed_more f g old None (Some new) first next = absurd next
changed_more f g None (Some mid) (Some new) first next = first
changed_more f g (Some old) (Some mid) (Some new) first next = next ∙ ap g first

-- the same change, said otherwise
pub changed_as : {T : Type 0} (f g : T → T) (old new : Option T) → ((t : T) → f t ≡ g t) → Changed f old new → Changed g old new
changed_as f g old None same changed = tt
changed_as f g None (Some new) same changed = changed
changed_as f g (Some old) (Some new) same changed = changed ∙ same old

pub grew_none : {A : Type 0} (list : Option (List A)) → Grew list list []
grew_none None = tt
grew_none (Some xs) = sym (append-nil xs)

pub grew_more : {A : Type 0} (old mid new : Option (List A)) (xs ys : List A) → Grew old mid xs → Grew mid new ys → Grew old new (xs ++ ys)
grew_more old mid None xs ys first next = tt
grew_more old None (Some new) xs ys first next = absurd next
grew_more None (Some mid) (Some new) xs ys first next = first
grew_more (Some old) (Some mid) (Some new) xs ys first next =
    next ∙ ap (λ (l : List _). l ++ ys) first ∙ append_assoc old xs ys

pub took_none : {A : Type 0} (left : Option (List A)) → Took left left []
took_none None = tt
took_none (Some xs) = refl

pub took_more : {A : Type 0} (old mid new : Option (List A)) (xs ys : List A) → Took old mid xs → Took mid new ys → Took old new (xs ++ ys)
took_more None None None xs ys first next = tt
took_more None None (Some new) xs ys first next = next
took_more None (Some mid) new xs ys first next = absurd first
took_more (Some old) None new xs ys first next = absurd first
took_more (Some old) (Some mid) None xs ys first next = next
took_more (Some old) (Some mid) (Some new) xs ys first next =
    first ∙ ap (λ (l : List _). xs ++ l) next ∙ sym (append_assoc xs ys new)

pub added_none : {A : Type 0} (list : Option (List A)) → Added list list []
added_none None = tt
added_none (Some xs) = sym (append-nil xs)

pub added_more : {A : Type 0} (old mid new : Option (List A)) (xs ys : List A) → Added old mid xs → Added mid new ys → Added old new (xs ++ ys)
added_more None None None xs ys first next = tt
added_more None None (Some new) xs ys first next = next
added_more None (Some mid) new xs ys first next = absurd first
added_more (Some old) None new xs ys first next = absurd first
added_more (Some old) (Some mid) None xs ys first next = next
added_more (Some old) (Some mid) (Some new) xs ys first next =
    next ∙ ap (λ (l : List _). l ++ ys) first ∙ append_assoc old xs ys

nil_no_push : {A : Type 0} (ys : List A) (b : A) → [] ≡ ys ++ b ∷ [] → ⊥
nil_no_push [] b e = cc e
nil_no_push (y ∷ ys) b e = cc e

-- lists that end in one element are equal only where both parts are
last_same : {A : Type 0} (xs ys : List A) (a b : A) → xs ++ a ∷ [] ≡ ys ++ b ∷ [] → (xs ≡ ys) × (a ≡ b)
last_same [] [] a b e = (refl, cc e)
last_same [] (y ∷ ys) a b e = let rest : [] ≡ ys ++ b ∷ [] = cc e in absurd (nil_no_push ys b rest)
last_same (x ∷ xs) [] a b e = let rest : xs ++ a ∷ [] ≡ [] = cc e in absurd (nil_no_push xs a (sym rest))
last_same (x ∷ xs) (y ∷ ys) a b e =
    let first : x ≡ y = cc e in
    let rest : xs ++ a ∷ [] ≡ ys ++ b ∷ [] = cc e in
    let same = last_same xs ys a b rest in
    (cc (first, same.0), same.1)

-- the last entry changed, and then again
pub last_changed_more : {A : Type 0} (f g h : A → A → Type 0) (old mid new : List A)
    → ((x y z : A) → f x y → g y z → h x z) → LastChanged f old mid → LastChanged g mid new → LastChanged h old new
last_changed_more f g h old mid new both first next =
    let same = last_same first.earlier next.earlier first.now next.before (sym first.is ∙ next.was) in
    record {
      earlier = first.earlier;
      before = first.before;
      now = next.now;
      was = first.was;
      is = next.is ∙ ap (λ (l : List _). l ++ next.now ∷ []) (sym same.0);
      changed = both first.before first.now next.now first.changed (subst (λ (y : _). g y next.now) (sym same.1) next.changed);
    }

-- the same of a told list
pub last_told_more : {A : Type 0} (f g h : A → A → Type 0) (old mid new : Option (List A))
    → ((x y z : A) → f x y → g y z → h x z) → LastTold f old mid → LastTold g mid new → LastTold h old new
last_told_more f g h None None None both first next = tt
last_told_more f g h None None (Some new) both first next = next
last_told_more f g h None (Some mid) new both first next = absurd first
last_told_more f g h (Some old) None new both first next = absurd first
last_told_more f g h (Some old) (Some mid) None both first next = next
last_told_more f g h (Some old) (Some mid) (Some new) both first next = last_changed_more f g h old mid new both first next

-- where the last entry changed, there are as many entries as before
pub last_changed_length : {A : Type 0} (f : A → A → Type 0) (old new : List A) → LastChanged f old new → length new ≡ length old
last_changed_length f old new changed =
    ap length changed.is ∙ length-append changed.earlier (changed.now ∷ []) ∙ sym (length-append changed.earlier (changed.before ∷ [])) ∙ sym (ap length changed.was)

-- Where the last entry of a list that grew is one of the new ones, the old ones stay.
pub last_changed_behind : {A : Type 0} (f : A → A → Type 0) (front rest : List A) (x : A) (new : List A)
    → LastChanged f (front ++ (rest ++ x ∷ [])) new → (y : A) × (new ≡ front ++ (rest ++ y ∷ [])) × f x y
last_changed_behind f front rest x new changed =
    let same = last_same (front ++ rest) changed.earlier x changed.before (append_assoc front rest (x ∷ []) ∙ changed.was) in (
      changed.now,
      changed.is ∙ ap (λ (l : List _). l ++ changed.now ∷ []) (sym same.0) ∙ append_assoc front rest (changed.now ∷ []),
      subst (λ (z : _). f z changed.now) (sym same.1) changed.changed,
    )
