-- A number that stands in bytes, wherever they stand.
use Rattle.std.proofs.Common.{◌≡◌, ℕ, zero, suc, ◌+◌, ◌^◌, ◌<◌, List, [], drop, slice_index, refl, sym, ◌∙◌, ap, arith}
use Rattle.std.proofs.lemmas.List.{append-nil, get_or-drop}
use Rattle.byteorder.specs.Endian.{big_from, big_bytes}
use Rattle.byteorder.specs.Numbers.{big_number-reads_back}

-- the same bytes at two places are one number
pub big_from-same : (i j n : ℕ) (xs ys : List ℕ) → ((k : ℕ) → k < n → slice_index xs (i + k) ≡ slice_index ys (j + k)) → big_from i n xs ≡ big_from j n ys
big_from-same i j zero xs ys same = refl
big_from-same i j (suc n) xs ys same =
    let i0 : i + 0 ≡ i = omega arith in
    let j0 : j + 0 ≡ j = omega arith in
    let first : slice_index xs i ≡ slice_index ys j = rw (i0, j0) at (same 0 (omega arith)) in
    rw (first, big_from-same (suc i) (suc j) n xs ys (λ k lt. after k lt)) refl
  where
    after : (k : ℕ) → k < n → slice_index xs (suc i + k) ≡ slice_index ys (suc j + k)
    after k lt =
        let i1 : i + suc k ≡ suc i + k = omega arith in
        let j1 : j + suc k ≡ suc j + k = omega arith in
        rw (i1, j1) at (same (suc k) (omega arith))

-- the number that is read from a place on
pub big_from-drop : (at n : ℕ) (xs : List ℕ) → big_from 0 n (drop at xs) ≡ big_from at n xs
big_from-drop at n xs = big_from-same 0 at n (drop at xs) xs (λ k lt. let e : 0 + k ≡ k = omega arith in rw e (get_or-drop at xs k 0))

-- the bytes of a number are that number
pub big_from-written : (at mark : ℕ) (xs : List ℕ) → mark < 2 ^ 32 → ((k : ℕ) → k < 4 → slice_index xs (at + k) ≡ slice_index (big_bytes 4 mark) k) → big_from at 4 xs ≡ mark
big_from-written at mark xs fits here =
    let back = ap (λ (bytes : List ℕ). big_from 0 4 bytes) (sym (append-nil (big_bytes 4 mark))) ∙ big_number-reads_back 4 mark [] fits in
    big_from-same at 0 4 xs (big_bytes 4 mark) (λ k lt. let e : 0 + k ≡ k = omega arith in rw e (here k lt)) ∙ back
