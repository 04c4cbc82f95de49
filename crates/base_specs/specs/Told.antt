-- What an object tells of what it gave and took. `None` is an object that does not tell.
use Rattle.std.specs.Prelude.{◌≡◌, List, [], ◌∷◌, ◌++◌, Option, Some, None, ⊤}

-- What is told changed so. An object may fall silent, and then it tells nothing for ever.
abbrev pub Changed : {T : Type 0} → (T → T) → Option T → Option T → Type 0
Changed change old None = ⊤
Changed change None (Some new) = ⊥
Changed change (Some old) (Some new) = new ≡ change old

-- a told list grew at its end by these, or fell silent
abbrev pub Grew : {A : Type 0} → Option (List A) → Option (List A) → List A → Type 0
Grew old new xs = Changed (λ (list : List _). list ++ xs) old new

-- a told list grew at its end by these, and is told still
abbrev pub Added : {A : Type 0} → Option (List A) → Option (List A) → List A → Type 0
Added None None xs = ⊤
Added None (Some new) xs = ⊥
Added (Some old) None xs = ⊥
Added (Some old) (Some new) xs = new ≡ old ++ xs

-- a told list lost these at its front, and is told still
abbrev pub Took : {A : Type 0} → Option (List A) → Option (List A) → List A → Type 0
Took None None xs = ⊤
Took None (Some new) xs = ⊥
Took (Some old) None xs = ⊥
Took (Some old) (Some new) xs = old ≡ xs ++ new

-- nothing of a told list is left
abbrev pub IsUsedUp : {A : Type 0} → Option (List A) → Type 0
IsUsedUp None = ⊤
IsUsedUp (Some left) = left ≡ []

-- the last entry of a told list is such a one
abbrev pub LastIs : {A : Type 0} → (A → Type 0) → Option (List A) → Type 0
LastIs such None = ⊤
LastIs such (Some list) = (earlier : List _) × (last : _) × (list ≡ earlier ++ last ∷ []) × such last

-- the last entry of a list changed so, and every other stayed
pub record LastChanged {A : Type 0} (change : A → A → Type 0) (old new : List A) : Type 0 where
  pub earlier : List A
  pub before : A
  pub now : A
  pub was : old ≡ earlier ++ before ∷ []
  pub is : new ≡ earlier ++ now ∷ []
  pub changed : change before now

-- the last entry of a told list changed so, every other stayed, and it is told still
abbrev pub LastTold : {A : Type 0} → (A → A → Type 0) → Option (List A) → Option (List A) → Type 0
LastTold change None None = ⊤
LastTold change None (Some new) = ⊥
LastTold change (Some old) None = ⊥
LastTold change (Some old) (Some new) = LastChanged change old new
