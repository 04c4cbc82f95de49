-- The writes that marks cut a list of bytes into.
use Rattle.std.proofs.Common.{◌≡◌, ℕ, ◌+◌, ◌≤◌, List, [], ◌∷◌, ◌++◌, length, take, drop, refl, ◌∙◌, ap, arith}
use Rattle.std.proofs.lemmas.List.{drop-append-le, length-drop, take-append-drop, take-append-le, take_all}
use Rattle.std.proofs.lemmas.List.Sums.{sum_by-cons}
use Rattle.edge_traits.specs.Wire.{Written}
use Rattle.edge_io.specs.declared.writes.Mark.{Mark}
use Rattle.edge_io.specs.Writes.{bytes_of, marked_len, writes_at}

-- one more mark cuts off the bytes behind all earlier ones
pub writes_at_push : (marks : List Mark) (bytes piece : List ℕ) (behind : ℕ) → marked_len marks ≡ length bytes
    → writes_at (marks ++ record { behind = behind; len = length piece } ∷ []) (bytes ++ piece)
    ≡ writes_at marks bytes ++ record { behind = behind; bytes = piece } ∷ []
writes_at_push [] [] piece behind all =
    ap (λ (l : List ℕ). record { behind = behind; bytes = l } ∷ []) (take_all (length piece) piece (omega arith))
writes_at_push [] (byte ∷ bytes) piece behind all = absurd (omega (arith, all))
writes_at_push (mark ∷ marks) bytes piece behind all =
    let both : marked_len (mark ∷ marks) ≡ mark.len + marked_len marks = sum_by-cons _ mark marks in
    let fits : mark.len ≤ length bytes = omega (arith, all, both) in
    let rest : marked_len marks ≡ length (drop mark.len bytes) = omega (arith, all, both, length-drop mark.len bytes) in
    ap (λ (l : List ℕ). record { behind = mark.behind; bytes = l } ∷ writes_at (marks ++ record { behind = behind; len = length piece } ∷ []) (drop mark.len (bytes ++ piece)))
    (take-append-le mark.len bytes piece fits)
    ∙ ap (λ (l : List ℕ). record { behind = mark.behind; bytes = take mark.len bytes } ∷ writes_at (marks ++ record { behind = behind; len = length piece } ∷ []) l)
    (drop-append-le mark.len bytes piece fits)
    ∙ ap (λ (l : List Written). record { behind = mark.behind; bytes = take mark.len bytes } ∷ l)
    (writes_at_push marks (drop mark.len bytes) piece behind rest)

-- the bytes of the writes are all of them
pub bytes_of_writes_at : (marks : List Mark) (bytes : List ℕ) → marked_len marks ≡ length bytes
    → bytes_of (writes_at marks bytes) ≡ bytes
bytes_of_writes_at [] [] all = refl
bytes_of_writes_at [] (byte ∷ bytes) all = absurd (omega (arith, all))
bytes_of_writes_at (mark ∷ marks) bytes all =
    let both : marked_len (mark ∷ marks) ≡ mark.len + marked_len marks = sum_by-cons _ mark marks in
    let rest : marked_len marks ≡ length (drop mark.len bytes) = omega (arith, all, both, length-drop mark.len bytes) in
    ap (λ (l : List ℕ). take mark.len bytes ++ l) (bytes_of_writes_at marks (drop mark.len bytes) rest) ∙ take-append-drop mark.len bytes
