-- Lists in an order in which no two elements stand before each other.
use Rattle.std.proofs.Common.{◌≡◌, zero, suc, List, [], ◌∷◌, ◌++◌, ◌⊎◌, inl, inr, length, get_or, refl, sym, subst, arith}
use Rattle.std.specs.Prelude.{AllPairs, Contains}
use Rattle.std.proofs.lemmas.Bool.{cases_lt}
use Rattle.std.proofs.lemmas.List.{get_or_append_left, get_or_push, length_push}
use Rattle.std.proofs.lemmas.List.Elements.{Contains-get_or}

module _ {X : Type 0} where
  -- the first of a list is an element of it
  pub Contains-head : (x : X) (xs : List X) → Contains (x ∷ xs) x
  Contains-head x xs = (0, omega arith, refl)

  -- an element of a list is its first, or one of the others
  pub Contains-cons_cases : (x : X) (xs : List X) (y : X) → Contains (x ∷ xs) y → (x ≡ y) ⊎ Contains xs y
  Contains-cons_cases x xs y (zero, within, is) = inl is
  Contains-cons_cases x xs y (suc k, within, is) = inr (k, omega arith, is)

  pub Contains-tail : (x : X) (xs : List X) (y : X) → Contains xs y → Contains (x ∷ xs) y
  Contains-tail x xs y (k, within, is) = (suc k, omega arith, is)

module _ {X : Type 0} (R : X → X → Type 0) where
  -- the first stands before each other
  pub AllPairs-head : (x : X) (xs : List X) (y : X) → AllPairs R (x ∷ xs) → Contains xs y → R x y
  AllPairs-head x xs y order (k, within, is) = subst (R x) is (order 0 (suc k) y (omega arith) (omega arith))

  pub AllPairs-tail : (x : X) (xs : List X) → AllPairs R (x ∷ xs) → AllPairs R xs
  AllPairs-tail x xs order i j d lt within = order (suc i) (suc j) d (omega arith) (omega arith)

  -- what all stand before may come at the end
  pub AllPairs-push : (xs : List X) (y : X) → AllPairs R xs → ((x : X) → Contains xs x → R x y) → AllPairs R (xs ++ y ∷ [])
  AllPairs-push xs y order before i j d lt within =
      let long = length_push xs y in
      let low : get_or (xs ++ y ∷ []) i d ≡ get_or xs i d = get_or_append_left xs (y ∷ []) d i (omega arith) in
      elim (cases_lt j (length xs)) [
        | inl inside ↦ rw (low, get_or_append_left xs (y ∷ []) d j inside) (order i j d lt inside)
        | inr at_end ↦ rw (low, get_or_push xs y d j (omega arith)) (before (get_or xs i d) (Contains-get_or xs i d (omega arith)))
      ]

  -- two such lists of the same elements are one
  pub one_order : ((x y : X) → R x y → R y x → ⊥) → (xs ys : List X) → AllPairs R xs → AllPairs R ys
      → ((x : X) → Contains xs x → Contains ys x) → ((x : X) → Contains ys x → Contains xs x) → xs ≡ ys
  one_order apart [] [] left right there back = refl
  one_order apart [] (y ∷ ys) left right there back = let none = back y (Contains-head y ys) in absurd (omega arith)
  one_order apart (x ∷ xs) [] left right there back = let none = there x (Contains-head x xs) in absurd (omega arith)
  one_order apart (x ∷ xs) (y ∷ ys) left right there back =
      let same : x ≡ y = first_is_first x y xs ys apart left right (there x (Contains-head x xs)) (back y (Contains-head y ys)) in
      let rest : xs ≡ ys = one_order apart xs ys (AllPairs-tail x xs left) (AllPairs-tail y ys right)
      (λ z at. among x y xs ys z apart left at same (there z (Contains-tail x xs z at)))
      (λ z at. among y x ys xs z apart right at (sym same) (back z (Contains-tail y ys z at))) in
      cc
    where
      first_is_first : (x y : X) (xs ys : List X) → ((x y : X) → R x y → R y x → ⊥) → AllPairs R (x ∷ xs) → AllPairs R (y ∷ ys) → Contains (y ∷ ys) x → Contains (x ∷ xs) y → x ≡ y
      first_is_first x y xs ys apart left right x_at y_at =
          elim (Contains-cons_cases y ys x x_at) [
            | inl is ↦ sym is
            | inr x_later ↦ elim (Contains-cons_cases x xs y y_at) [
              | inl is ↦ is
              | inr y_later ↦ absurd (apart x y (AllPairs-head x xs y left y_later) (AllPairs-head y ys x right x_later))
            ]
          ]

      among : (x y : X) (xs ys : List X) (z : X) → ((x y : X) → R x y → R y x → ⊥) → AllPairs R (x ∷ xs) → Contains xs z → x ≡ y → Contains (y ∷ ys) z → Contains ys z
      among x y xs ys z apart left at same later =
          elim (Contains-cons_cases y ys z later) [
            | inl is ↦ let before : R x z = AllPairs-head x xs z left at in let e : z ≡ x = cc in absurd (apart x x (subst (R x) e before) (subst (R x) e before))
            | inr there ↦ there
          ]
