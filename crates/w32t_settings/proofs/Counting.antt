-- How many lines a text has, by its line feeds.
use Rattle.std.proofs.Common.{◌≡◌, ◌<◌, ◌+◌, ℕ, true, false, Bool, cond, List, [], ◌∷◌, ◌++◌, length, get_or, take, refl, sym, ◌∙◌, ap, arith, take_all}
use Rattle.std.specs.Prelude.{◌==◌, count_by}
use Rattle.std.specs.List.{slice_split, onto_first}
use Rattle.std.specs.Str.Lines.{lines, lines_of_parts}
use Rattle.std.proofs.lemmas.List.{take_more}
use Rattle.std.proofs.lemmas.List.Sums.{sum_by-cons}
use Rattle.std.proofs.lemmas.List.Splits.{length-slice_split}

abbrev is_feed : ℕ → Bool
is_feed byte = byte == 10

-- a part before other parts is one line more
more_lines : (parts : List (List ℕ)) → 0 < length parts → length (lines_of_parts ([] ∷ parts)) ≡ length (lines_of_parts parts) + 1
more_lines [] some = absurd (omega arith)
more_lines (part ∷ parts) some = omega arith

-- a byte that is put before the first part makes no line more, where there is a line
same_lines : (x : ℕ) (parts : List (List ℕ)) (n : ℕ) → 0 < length parts → length (lines_of_parts parts) ≡ n + 1
    → length (lines_of_parts (onto_first x parts)) ≡ n + 1
same_lines x [] n some is = absurd (omega arith)
same_lines x ([] ∷ []) n some is = absurd (omega (arith, is))
same_lines x ((y ∷ ys) ∷ []) n some is = grind arith
same_lines x (part ∷ next ∷ parts) n some is = omega (arith, is)

-- the lines of a text that isn't empty are one more than the line feeds before its last byte
lines_before : (xs : List ℕ) (last : ℕ) → length (lines (xs ++ last ∷ [])) ≡ count_by is_feed xs + 1
lines_before [] last = lines_of_one last (last == 10) refl
  where
    lines_of_one : (last : ℕ) (is : Bool) → (last == 10) ≡ is → length (lines_of_parts (cond is ([] ∷ [] ∷ []) ((last ∷ []) ∷ []))) ≡ 1
    lines_of_one last true told = refl
    lines_of_one last false told = refl
lines_before (x ∷ xs) last =
    rw (sum_by-cons (λ b. cond (is_feed b) 1 0) x xs)
    (step x (x == 10) (slice_split is_feed (xs ++ last ∷ [])) (count_by is_feed xs) (omega (arith, length-slice_split is_feed (xs ++ last ∷ []))) (lines_before xs last))
  where
    step : (x : ℕ) (is : Bool) (parts : List (List ℕ)) (n : ℕ) → 0 < length parts → length (lines_of_parts parts) ≡ n + 1
        → length (lines_of_parts (cond is ([] ∷ parts) (onto_first x parts))) ≡ cond is 1 0 + n + 1
    step x true parts n some is = omega (arith, is, more_lines parts some)
    step x false parts n some is = omega (arith, same_lines x parts n some is)

-- so the last byte stands in the last line
pub last_line : (text : List ℕ) (k : ℕ) → length text ≡ k + 1 → length (lines text) ≡ count_by (λ byte. byte == 10) (take k text) + 1
last_line text k long =
    let all : take (k + 1) text ≡ text = take_all (k + 1) text (omega arith) in
    let cut : text ≡ take k text ++ get_or text k 0 ∷ [] = sym all ∙ take_more text k 0 (omega arith) in
    ap (λ (t : List ℕ). length (lines t)) cut ∙ lines_before (take k text) (get_or text k 0)
