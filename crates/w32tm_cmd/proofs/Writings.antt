-- Lines that were written one after the other.
use Rattle.std.proofs.Common.{◌≡◌, ◌+◌, ◌<◌, ◌≤◌, ℕ, List, [], ◌∷◌, ◌++◌, length, take, drop, get_or, Option, add-one, refl, sym, subst, ◌∙◌, ap}
use Rattle.std.proofs.lemmas.List.{take_more, take_all, flat_map_more, take-append-drop}
use Rattle.std.proofs.Math.Seq.{drop-cons}
use Rattle.base_specs.specs.Told.{Added}
use Rattle.base_specs.proofs.Telling.{added_more}
use Rattle.line_text.specs.Text.{joined, BreaksOff}

-- the lines up to one, and that one
joined_more : (lines : List (List ℕ)) (line : List ℕ) (i : ℕ) → i < length lines → line ≡ get_or lines i line → joined (take i lines) ++ line ≡ joined (take (i + 1) lines)
joined_more lines line i lt is =
    let more = flat_map_more (λ (l : List ℕ). l) [] (take i lines) line in
    let grown : take i lines ++ line ∷ [] ≡ take (i + 1) lines = rw (take_more lines i line lt, ← is) refl in
    more ∙ ap joined grown

-- a line was written behind those before it
pub line_more : (lines : List (List ℕ)) (line : List ℕ) (i : ℕ) (old mid new : Option (List ℕ)) → i < length lines → line ≡ get_or lines i line
    → Added old mid (joined (take i lines)) → Added mid new line → Added old new (joined (take (i + 1) lines))
line_more lines line i old mid new lt is before added =
    subst (Added old new) (joined_more lines line i lt is) (added_more old mid new (joined (take i lines)) line before added)

-- all were written
pub lines_all : (lines : List (List ℕ)) (i : ℕ) (old new : Option (List ℕ)) → length lines ≤ i → Added old new (joined (take i lines)) → Added old new (joined lines)
lines_all lines i old new all added = subst (λ (l : List (List ℕ)). Added old new (joined l)) (take_all i lines all) added

-- the text broke off in a line
pub line_broke : (lines : List (List ℕ)) (line : List ℕ) (i n : ℕ) (old mid new : Option (List ℕ)) → i < length lines → line ≡ get_or lines i line → n ≤ length line
    → Added old mid (joined (take i lines)) → Added mid new (take n line) → (text : List ℕ) × BreaksOff lines text × Added old new text
line_broke lines line i n old mid new lt is most before added =
    let split : lines ≡ take i lines ++ line ∷ drop (i + 1) lines =
    sym (take-append-drop i lines) ∙ ap (λ (l : List (List ℕ)). take i lines ++ l) (rw (add-one, drop-cons lines i line lt, ← is) refl) in (
      joined (take i lines) ++ take n line,
      record { before = take i lines; line = line; after = drop (i + 1) lines; front = n; are = split; most = most; is = refl },
      added_more old mid new (joined (take i lines)) (take n line) before added,
    )
