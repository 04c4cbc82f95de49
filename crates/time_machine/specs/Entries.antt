-- Words on a line of entries that is written newest first: the head is the last entry, and the tail is what was
-- before it.
use Rattle.std.specs.Prelude.{ℕ, ◌+◌, Bool, List, [], ◌∷◌, ◌++◌, Option, Some, None, if◌then◌else◌}

module _ {A : Type 0} where
  -- the entries after the last one that passes the test, or all where none does
  abbrev pub after_last : (A → Bool) → List A → List A
  after_last test [] = []
  after_last test (x ∷ before) = if test x then [] else x ∷ after_last test before

  -- the entries from the last one on that passes the test, or all where none does
  abbrev pub from_last : (A → Bool) → List A → List A
  from_last test [] = []
  from_last test (x ∷ before) = x ∷ (if test x then [] else from_last test before)

  -- the entries up to the last one that passes the test, or none where none does
  abbrev pub up_to_last : (A → Bool) → List A → List A
  up_to_last test [] = []
  up_to_last test (x ∷ before) = if test x then x ∷ before else up_to_last test before

  -- how many entries pass the test
  abbrev pub count_of : (A → Bool) → List A → ℕ
  count_of test [] = 0
  count_of test (x ∷ before) = count_of test before + (if test x then 1 else 0)

-- a value, or another one where there is none
abbrev pub or_else : {B : Type 0} → Option B → Option B → Option B
or_else (Some x) other = Some x
or_else None other = other

-- the value of the last entry that has one
abbrev pub last_of : {A B : Type 0} → (A → Option B) → List A → Option B
last_of f [] = None
last_of f (x ∷ before) = or_else (f x) (last_of f before)

-- what each entry has, the oldest entry first
abbrev pub gather : {A B : Type 0} → (A → List B) → List A → List B
gather f [] = []
gather f (x ∷ before) = gather f before ++ f x
