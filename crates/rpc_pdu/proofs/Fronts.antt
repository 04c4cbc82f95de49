-- Parts of lists that are read from their fronts.
use Rattle.std.proofs.Common.{◌≡◌, ℕ, ◌+◌, ◌≤◌, List, ◌++◌, length, take, ◌∙◌, ap, arith}
use Rattle.std.proofs.Math.Seq.{take-append-add}
use Rattle.std.proofs.lemmas.List.{length-take, take-append-le}

-- the front of a buffer after a part was put behind its front
pub fills_more : (buf part after : List ℕ) (f n : ℕ) → f ≤ length buf → n ≤ length part → take (f + n) (take f buf ++ (part ++ after)) ≡ take f buf ++ take n part
fills_more buf part after f n fits part_fits =
    let size : f ≡ length (take f buf) = omega (arith, length-take f buf) in
    ap (λ (k : ℕ). take (k + n) (take f buf ++ (part ++ after))) size
    ∙ take-append-add (take f buf) (part ++ after) n
    ∙ ap (λ (l : List ℕ). take f buf ++ l) (take-append-le n part after part_fits)
