-- The lines of a text, one after the other.
use Rattle.std.proofs.Common.{◌≡◌, ◌≢◌, ◌<◌, ℕ, true, false, Bool, List, [], ◌∷◌, ◌++◌, length, get_or, take, cond, ◌-◌, refl, ◌∙◌, ap, arith}
use Rattle.std.specs.Prelude.{◌==◌}
use Rattle.std.specs.List.{All, slice_split}
use Rattle.std.specs.Str.Lines.{lines, lines_of_parts, strip_carriage_return}
use Rattle.std.proofs.lemmas.Bool.{ne_eqb, eqb-true}
use Rattle.std.proofs.lemmas.Grind.{get_or_default_zero}
use Rattle.std.proofs.lemmas.List.Splits.{slice_split_at, slice_split_none, length-slice_split}
use Rattle.text_grammar.specs.Bytes.{HasNo}

-- no line feed, as the test of the splits has it
no_feed : (xs : List ℕ) → HasNo 10 xs → All (λ b. (b == 10) ≡ false) xs
no_feed xs none k d lt = rw (get_or_default_zero xs k d lt) (ne_eqb (get_or xs k 0) 10 (none k lt))

-- a part that others follow is a line
more_parts : (part : List ℕ) (parts : List (List ℕ)) → 0 < length parts → lines_of_parts (part ∷ parts) ≡ strip_carriage_return part ∷ lines_of_parts parts
more_parts part [] some = absurd (omega arith)
more_parts part (next ∷ parts) some = refl

-- a text that has a line feed has the line before it, and then those behind it
pub lines_at : (line rest : List ℕ) → HasNo 10 line → lines (line ++ 10 ∷ rest) ≡ strip_carriage_return line ∷ lines rest
lines_at line rest none =
    ap lines_of_parts (slice_split_at (λ b. b == 10) line 10 rest (no_feed line none) refl)
    ∙ more_parts line (slice_split (λ b. b == 10) rest) (omega (arith, length-slice_split (λ b. b == 10) rest))

-- a part that is not empty
last_part : (part : List ℕ) → part ≢ [] → lines_of_parts (part ∷ []) ≡ part ∷ []
last_part [] some = absurd (some refl)
last_part (x ∷ xs) some = grind arith

-- a text without a line feed is a line, if it isn't empty
pub lines_last : (line : List ℕ) → HasNo 10 line → line ≢ [] → lines line ≡ line ∷ []
lines_last line none some = ap lines_of_parts (slice_split_none (λ b. b == 10) line (no_feed line none)) ∙ last_part line some

-- a line without carriage returns loses none
kept_end : (line : List ℕ) (is : Bool) → (get_or line (length line - 1) 0 == 13) ≡ is → HasNo 13 line
    → cond is (take (length line - 1) line) line ≡ line
kept_end line false end none = refl
kept_end [] true end none = refl
kept_end (x ∷ xs) true end none = absurd (none (length (x ∷ xs) - 1) (omega arith) (eqb-true (get_or (x ∷ xs) (length (x ∷ xs) - 1) 0) 13 end))

pub strip_none : (line : List ℕ) → HasNo 13 line → strip_carriage_return line ≡ line
strip_none line none = kept_end line (get_or line (length line - 1) 0 == 13) refl none
