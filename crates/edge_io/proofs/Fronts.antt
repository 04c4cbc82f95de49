-- Lists that are taken from their fronts.
use Rattle.std.proofs.Common.{◌≡◌, ℕ, ◌+◌, ◌-◌, ◌≤◌, List, ◌++◌, length, take, drop, sym, ◌∙◌, ap, arith}
use Rattle.std.proofs.Math.Seq.{take-add}
use Rattle.edge_io.specs.Pieces.{InPieces}
use Rattle.std.proofs.lemmas.List.{drop-drop, length-drop, length-take, take-append-drop, take-append-le, take_all}

-- what is left from a place is the part that was copied from there to the front of a buffer, and what is left behind it
pub part_and_rest : (bytes left part after : List ℕ) (at n : ℕ) → left ≡ drop at bytes → part ≡ take n (drop at bytes) → n ≤ length (drop at bytes)
    → left ≡ take n (part ++ after) ++ drop (at + n) bytes
part_and_rest bytes left part after at n was copied fits =
    let size : length part ≡ n = ap length copied ∙ omega (arith, length-take n (drop at bytes)) in
    let front : take n (part ++ after) ≡ take n (drop at bytes) =
    take-append-le n part after (omega arith) ∙ take_all n part (omega arith) ∙ copied in
    was ∙ sym (take-append-drop n (drop at bytes)) ∙ ap (λ (l : List ℕ). l ++ drop n (drop at bytes)) (sym front)
    ∙ ap (λ (l : List ℕ). take n (part ++ after) ++ l) (drop-drop n at bytes)

-- a longer front of a list is the front, and the first part of what is behind it
pub front_more : (xs : List ℕ) (n count : ℕ) → take (n + count) xs ≡ take n xs ++ take count (take (length xs - n) (drop n xs))
front_more xs n count =
    let rest : take (length xs - n) (drop n xs) ≡ drop n xs = take_all (length xs - n) (drop n xs) (omega (arith, length-drop n xs)) in
    take-add n count xs ∙ ap (λ (l : List ℕ). take n xs ++ take count l) (sym rest)

-- what was given and what is left, from a place that is so many bytes further
pub given_and_left : (bytes sizes : List ℕ) (at n : ℕ) (p : InPieces)
    → p ≡ record { given = take (at + n) bytes; left = drop (at + n) bytes; sizes = sizes }
    → p ≡ record { given = take at bytes ++ take n (drop at bytes); left = drop n (drop at bytes); sizes = sizes }
given_and_left bytes sizes at n p is =
    is ∙ ap (λ (l : List ℕ). record { given = l; left = drop (at + n) bytes; sizes = sizes }) (take-add at n bytes)
    ∙ ap (λ (l : List ℕ). record { given = take at bytes ++ take n (drop at bytes); left = l; sizes = sizes }) (sym (drop-drop n at bytes))
