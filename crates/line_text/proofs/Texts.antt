-- Texts in lines that break off.
use Rattle.std.proofs.Common.{◌≡◌, ℕ, List, ◌∷◌, ◌++◌, take, drop, append_assoc, sym, ◌∙◌, ap}
use Rattle.std.proofs.lemmas.List.{take-append-drop}
use Rattle.std.proofs.lemmas.List.Concat.{flat_map-append}
use Rattle.line_text.specs.Text.{joined, BreaksOff}

-- what stands of a text that breaks off is a front of the whole text
pub is_front : (lines : List (List ℕ)) (text : List ℕ) → BreaksOff lines text → (rest : List ℕ) × (joined lines ≡ text ++ rest)
is_front lines text breaks =
    let first = joined breaks.before in
    let front = take breaks.front breaks.line in
    let rest = drop breaks.front breaks.line ++ joined breaks.after in
    let whole : joined lines ≡ first ++ (breaks.line ++ joined breaks.after) =
    ap joined breaks.are ∙ flat_map-append (λ (l : List ℕ). l) breaks.before (breaks.line ∷ breaks.after) in
    let line : breaks.line ++ joined breaks.after ≡ front ++ rest =
    ap (λ (l : List ℕ). l ++ joined breaks.after) (sym (take-append-drop breaks.front breaks.line)) ∙ append_assoc front (drop breaks.front breaks.line) (joined breaks.after) in (
      rest,
      whole ∙ ap (λ (l : List ℕ). first ++ l) line ∙ sym (append_assoc first front rest) ∙ ap (λ (l : List ℕ). l ++ rest) (sym breaks.is),
    )
