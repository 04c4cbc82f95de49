-- The units of a name.
use Rattle.std.proofs.Common.{◌≡◌, ◌⊎◌, inl, inr, ℕ, suc, ◌+◌, ◌*◌, ◌≤◌, List, [], ◌∷◌, ◌++◌, length, drop, Option, Some, None, refl, sym, ◌∙◌, ap, arith, append_assoc, length-append, length-drop}
use Rattle.std.specs.Prelude.{All, IfSome, flat_map}
use Rattle.std.proofs.lemmas.List.{length-take-le}
use Rattle.std.proofs.lemmas.List.Concat.{flat_map-append}
use Rattle.byte_codec.specs.Numbers.{low_word_at, part_at}
use Rattle.w32t_calls.specs.Replies.{SpellsUnits}
use Rattle.w32t_calls.specs.Stubs.{SpellsSource, name_units, rounded_to_four}

-- a byte of a name
abbrev pub IsPrinted : ℕ → Type 0
IsPrinted byte = (0x20 ≤ byte) × (byte ≤ 0x7E)

first_printed : (byte : ℕ) (name : List ℕ) → All IsPrinted (byte ∷ name) → IsPrinted byte
first_printed byte name all = all 0 0 (omega arith)

rest_printed : (byte : ℕ) (name : List ℕ) → All IsPrinted (byte ∷ name) → All IsPrinted name
rest_printed byte name all = λ k d within. all (suc k) d (omega arith)

-- the units without the closing one
abbrev pub units_of : List ℕ → List ℕ
units_of name = flat_map (λ byte. byte ∷ 0 ∷ []) name

-- one byte more was read
pub one_more : (units name left rest : List ℕ) (byte : ℕ) → units ≡ units_of name ++ left → left ≡ byte ∷ 0 ∷ rest
    → units ≡ units_of (name ++ byte ∷ []) ++ rest
one_more units name left rest byte before here =
    before ∙ ap (λ (l : List ℕ). units_of name ++ l) here
    ∙ sym (append_assoc (units_of name) (byte ∷ 0 ∷ []) rest)
    ∙ ap (λ (l : List ℕ). l ++ rest) (sym (flat_map-append (λ byte. byte ∷ 0 ∷ []) name (byte ∷ [])))

-- bytes in the units of a name
pub units_len : (name : List ℕ) → length (units_of name) ≡ 2 * length name
units_len [] = refl
units_len (byte ∷ name) = omega (arith, units_len name)

-- What stands behind the units read so far, in the units of a name: the closing unit, or that of a printed byte.
pub record HasUnit (left : List ℕ) : Type 0 where
  pub byte : ℕ
  pub rest : List ℕ
  pub printed : IsPrinted byte
  pub is : left ≡ byte ∷ 0 ∷ rest

-- the first of a list, and the rest
head_is : (a b c d : ℕ) (xs ys : List ℕ) → a ∷ b ∷ xs ≡ c ∷ d ∷ ys → (a ≡ c) × (xs ≡ ys)
head_is a b c d xs ys same = (cc, cc)

pub next_unit : (name other left : List ℕ) → All IsPrinted name → All IsPrinted other
    → units_of name ++ left ≡ units_of other ++ 0 ∷ 0 ∷ [] → (left ≡ 0 ∷ 0 ∷ []) ⊎ HasUnit left
next_unit [] [] left printed others same = inl same
next_unit [] (n ∷ ns) left printed others same =
    inr (record { byte = n; rest = units_of ns ++ 0 ∷ 0 ∷ []; printed = first_printed n ns others; is = same })
next_unit (m ∷ ms) [] left printed others same =
    let first = head_is m 0 0 0 (units_of ms ++ left) [] same in absurd (omega (arith, first.0, (first_printed m ms printed).0))
next_unit (m ∷ ms) (n ∷ ns) left printed others same =
    next_unit ms ns left (rest_printed m ms printed) (rest_printed n ns others) (head_is m 0 n 0 (units_of ms ++ left) (units_of ns ++ 0 ∷ 0 ∷ []) same).1

-- a name is as long as its units say
pub name_len : (name : List ℕ) → length (name_units name) ≡ 2 * (length name + 1)
name_len name = omega (arith, length-append (units_of name) (0 ∷ 0 ∷ []), units_len name)

-- the names of the same units are the same
pub same_name : (name other : List ℕ) → name_units name ≡ name_units other → All IsPrinted name → All IsPrinted other → name ≡ other
same_name [] [] same printed others = refl
same_name [] (n ∷ ns) same printed others =
    let first = head_is 0 0 n 0 [] (units_of ns ++ 0 ∷ 0 ∷ []) same in absurd (omega (arith, first.0, (first_printed n ns others).0))
same_name (m ∷ ms) [] same printed others =
    let first = head_is m 0 0 0 (units_of ms ++ 0 ∷ 0 ∷ []) [] same in absurd (omega (arith, first.0, (first_printed m ms printed).0))
same_name (m ∷ ms) (n ∷ ns) same printed others =
    let first = head_is m 0 n 0 (units_of ms ++ 0 ∷ 0 ∷ []) (units_of ns ++ 0 ∷ 0 ∷ []) same in
    let rest = same_name ms ns first.1 (rest_printed m ms printed) (rest_printed n ns others) in
    λ i. first.0 i ∷ rest i

-- a name in the units of a stub whose other fields are right
pub spelled : (stub : List ℕ) (count end : ℕ) (read : Option (List ℕ))
    → count ≡ low_word_at 12 stub → 2 ≤ count → count ≤ 64 → end ≡ 16 + rounded_to_four (2 * count) → end + 4 ≤ length stub
    → (low_word_at 0 stub ≡ 0 → ⊥) → count ≤ low_word_at 4 stub → low_word_at 8 stub ≡ 0 → low_word_at end stub ≡ 0
    → IfSome read (λ name. SpellsUnits name (part_at 16 (2 * count) stub)) → IfSome read (λ name. SpellsSource name stub)
spelled stub count end None counted least most ends within referent greatest offset status spells = tt
spelled stub count end (Some name) counted least most ends within referent greatest offset status spells =
    let units_are : length (part_at 16 (2 * count) stub) ≡ 2 * count = omega (arith, length-take-le (2 * count) (drop 16 stub) (omega (arith, length-drop 16 stub))) in
    let size : count ≡ length name + 1 = omega (arith, units_are, ap length spells.units, name_len name) in
    let ends_there : end ≡ 16 + rounded_to_four (2 * (length name + 1)) = omega (arith, size) in
    record {
      within = omega (arith, ends_there);
      referent = referent;
      greatest = omega (arith, size);
      offset = offset;
      count = sym counted ∙ size;
      least = omega (arith, size);
      most = omega (arith, size);
      printed = spells.printed;
      units = ap (λ (n : ℕ). part_at 16 (2 * n) stub) (sym size) ∙ spells.units;
      status = ap (λ (n : ℕ). low_word_at n stub) (sym ends_there) ∙ status;
    }
