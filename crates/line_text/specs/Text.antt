-- Texts that are written line by line.
use Rattle.std.specs.Prelude.{◌≡◌, ◌≤◌, ℕ, List, ◌∷◌, ◌++◌, length, take, flat_map}

-- the lines of a text, joined; each has its line feed
abbrev pub joined : List (List ℕ) → List ℕ
joined lines = flat_map (λ (line : List ℕ). line) lines

-- what stands of a text that breaks off in one of its lines: all lines before it, and some front of it
pub record BreaksOff (lines : List (List ℕ)) (text : List ℕ) : Type 0 where
  pub before : List (List ℕ)
  pub line : List ℕ
  pub after : List (List ℕ)
  pub front : ℕ
  pub are : lines ≡ before ++ line ∷ after
  pub most : front ≤ length line
  pub is : text ≡ joined before ++ take front line
