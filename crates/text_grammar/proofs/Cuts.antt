-- What stands before and behind the first of a byte.
use Rattle.std.proofs.Common.{◌≡◌, ℕ, zero, suc, List, [], ◌∷◌, ◌++◌, refl, arith}
use Rattle.text_grammar.specs.Bytes.{HasNo}

-- what holds of a list that begins with a byte holds of the rest
pub has_no_rest : (byte x : ℕ) (xs : List ℕ) → HasNo byte (x ∷ xs) → HasNo byte xs
has_no_rest byte x xs none i lt is = none (suc i) (omega arith) is

-- the cut at the first such byte is the only one
pub one_cut : (byte : ℕ) (a x b y : List ℕ) → HasNo byte a → HasNo byte b → a ++ byte ∷ x ≡ b ++ byte ∷ y → (a ≡ b) × (x ≡ y)
one_cut byte [] x [] y none_a none_b same = (refl, cc)
one_cut byte [] x (c ∷ b) y none_a none_b same = let first : c ≡ byte = cc in absurd (none_b 0 (omega arith) first)
one_cut byte (c ∷ a) x [] y none_a none_b same = let first : c ≡ byte = cc in absurd (none_a 0 (omega arith) first)
one_cut byte (c ∷ a) x (d ∷ b) y none_a none_b same =
    let first : c ≡ d = cc in
    let rest : a ++ byte ∷ x ≡ b ++ byte ∷ y = cc in
    let more = one_cut byte a x b y (has_no_rest byte c a none_a) (has_no_rest byte d b none_b) rest in
    (cc (first, more.0), more.1)

-- a byte that stands in a list is not missing there
pub is_there : (byte : ℕ) (a x : List ℕ) → HasNo byte (a ++ byte ∷ x) → ⊥
is_there byte [] x none = none 0 (omega arith) refl
is_there byte (c ∷ a) x none = is_there byte a x (has_no_rest byte c (a ++ byte ∷ x) none)

-- a byte that is in neither of two lists is not in both together
pub has_no_append : (byte : ℕ) (xs ys : List ℕ) → HasNo byte xs → HasNo byte ys → HasNo byte (xs ++ ys)
has_no_append byte [] ys none_x none_y i within is = none_y i within is
has_no_append byte (x ∷ xs) ys none_x none_y zero within is = none_x 0 (omega arith) is
has_no_append byte (x ∷ xs) ys none_x none_y (suc i) within is = has_no_append byte xs ys (has_no_rest byte x xs none_x) none_y i (omega arith) is

-- and a byte that is another than the first and not in the rest
pub has_no_cons : (byte x : ℕ) (xs : List ℕ) → (x ≡ byte → ⊥) → HasNo byte xs → HasNo byte (x ∷ xs)
has_no_cons byte x xs other none zero within is = other is
has_no_cons byte x xs other none (suc i) within is = none i (omega arith) is

pub has_no_nil : (byte : ℕ) → HasNo byte []
has_no_nil byte i within = absurd (omega arith)
