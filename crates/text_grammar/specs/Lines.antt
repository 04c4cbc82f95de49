-- What the lines of a text say, and its first bad line.
--
-- The lines are those of `lines` of std: a line feed ends a line, one carriage return just before it is
-- dropped, an empty rest behind the last line feed is no line, and a last line without a line feed keeps what
-- it ends with. Lines are numbered from 1.
use Rattle.std.specs.Prelude.{◌≡◌, ◌≢◌, ◌⊎◌, ◌+◌, ◌==◌, ℕ, Bool, true, List, [], ◌∷◌, ◌++◌, length, filter, Any, AllPairs}
use Rattle.std.specs.List.{AllZip}
use Rattle.std.specs.Str.Lines.{strip_carriage_return}
use Rattle.text_grammar.specs.Bytes.{HasNo}

-- what stands before the first line feed, and what stands behind it
pub record EndsLine (text line rest : List ℕ) : Type 0 where
  pub raw : List ℕ
  pub first : HasNo 10 raw
  pub parts : text ≡ raw ++ 10 ∷ rest
  pub line_is : line ≡ strip_carriage_return raw

-- a last line without a line feed, behind which nothing stands; an empty text has none
pub record IsLastLine (text line rest : List ℕ) : Type 0 where
  pub some : text ≢ []
  pub none : HasNo 10 text
  pub line_is : line ≡ text
  pub rest_is : rest ≡ []

-- the first line of a text and what stands behind its line feed
abbrev pub FirstLine : List ℕ → List ℕ → List ℕ → Type 0
FirstLine text line rest = EndsLine text line rest ⊎ IsLastLine text line rest

-- a line that says nothing, whatever stands in it: an empty one, and one that begins with `#`
abbrev pub is_skipped : List ℕ → Bool
is_skipped [] = true
is_skipped (first ∷ rest) = first == 35

-- A form of text: which lines are looked at, what each of these may say, and which two sayings don't stand in
-- one text.
pub record TextForm (A : Type 0) : Type 1 where
  pub is_seen : List ℕ → Bool
  pub Spells : A → List ℕ → Type 0
  pub AreSame : A → A → Type 0

-- the lines that are looked at spell these values, in their order, and no two of them are the same
pub record Say {A : Type 0} (form : TextForm A) (lines : List (List ℕ)) (values : List A) : Type 0 where
  pub spelled : AllZip form.Spells values (filter form.is_seen lines)
  pub distinct : AllPairs (λ x y. form.AreSame x y → ⊥) values

-- A line that is looked at spells nothing.
pub record SpellsNothing {A : Type 0} (form : TextForm A) (earlier : List A) (line : List ℕ) : Type 0 where
  pub seen : form.is_seen line ≡ true
  pub nothing : (x : A) → form.Spells x line → ⊥

-- A line that is looked at spells what an earlier one says.
pub record SaysAgain {A : Type 0} (form : TextForm A) (earlier : List A) (line : List ℕ) : Type 0 where
  pub seen : form.is_seen line ≡ true
  pub value : A
  pub spelled : form.Spells value line
  pub again : Any (λ x. form.AreSame x value) earlier

-- Line n is bad in this way, beside what the lines before it say, and they are good.
pub record IsFirstBad {A : Type 0} (form : TextForm A) (IsBad : List A → List ℕ → Type 0)
    (lines : List (List ℕ)) (n : ℕ) : Type 0 where
  pub before : List (List ℕ)
  pub line : List ℕ
  pub after : List (List ℕ)
  pub earlier : List A
  pub parts : lines ≡ before ++ line ∷ after
  pub number : n ≡ length before + 1
  pub said : Say form before earlier
  pub bad : IsBad earlier line
