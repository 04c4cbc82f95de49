-- Fields that are read again, and what is wrong with them.
use Rattle.std.proofs.Common.{◌≡◌, ℕ, ◌+◌, ◌^◌, ◌<◌, ◌≤◌, true, false, List, ◌∷◌, ◌++◌, length, take, drop, Option, Some, None, refl, sym, ◌∙◌, ap, arith, length-append}
use Rattle.std.specs.Prelude.{nat_lt}
use Rattle.std.specs.Option.{option_or}
use Rattle.std.proofs.lemmas.Bool.{lt-ltb, le-ltb, cond-true, cond-false}
use Rattle.std.proofs.lemmas.List.{append_assoc, take_at, drop_at}
use Rattle.capture_fmt.specs.declared.fault.Flaw.{Flaw}
use Rattle.capture_fmt.specs.declared.fault.Flaw.TheVariants.{Torn}
use Rattle.byte_codec.specs.Numbers.{number_bytes, number_of}
use Rattle.byte_codec.proofs.Numbers.{length-number_bytes, number_of-number_bytes}
use Rattle.capture_fmt.specs.Record.{Field, field_number, field_len, field_flaw, first_flaw}

-- the bytes begin with this number in the field, and these come behind it
pub record Holds (f : Field) (n : ℕ) (bytes rest : List ℕ) : Type 0 where
  pub within : n < 256 ^ f.size
  pub written : bytes ≡ number_bytes f.size n ++ rest

-- a field with less than its number is incomplete
pub no_number : (f : Field) (bytes : List ℕ) → length bytes < f.size → field_flaw f bytes ≡ Some Torn
unfolding field_flaw
no_number f bytes short = cond-true _ _ _ (lt-ltb (length bytes) (f.size) short)

module _ (f : Field) (n : ℕ) (bytes rest : List ℕ) (holds : Holds f n bytes rest) where
  number_is : field_number f bytes ≡ n
  unfolding field_number
  number_is =
      ap (λ (l : List ℕ). number_of (take f.size l)) holds.written
      ∙ ap number_of (take_at (number_bytes f.size n) rest f.size (length-number_bytes f.size n))
      ∙ number_of-number_bytes f.size n holds.within

  length_is : length bytes ≡ f.size + length rest
  length_is =
      ap length holds.written ∙ length-append (number_bytes f.size n) rest
      ∙ ap (λ (k : ℕ). k + length rest) (length-number_bytes f.size n)

  has_number : nat_lt (length bytes) (f.size) ≡ false
  has_number = le-ltb (length bytes) (f.size) (omega (arith, length_is))

  field_len_is : field_len f bytes ≡ f.size + f.behind n
  unfolding field_len
  field_len_is = ap (λ (k : ℕ). f.size + f.behind k) number_is

  -- a field with another number than may stand there
  pub wrong_number : f.may_be n ≡ false → field_flaw f bytes ≡ Some f.flaw
  unfolding field_flaw
  wrong_number wrong = cond-false _ _ _ has_number ∙ cond-false _ _ _ (ap f.may_be number_is ∙ wrong)

  -- a field with fewer bytes behind its number than the number counts
  pub fewer_bytes : f.may_be n ≡ true → length rest < f.behind n → field_flaw f bytes ≡ Some Torn
  unfolding field_flaw
  fewer_bytes good few =
      cond-false _ _ _ has_number ∙ cond-true _ _ _ (ap f.may_be number_is ∙ good)
      ∙ cond-true _ _ _ (lt-ltb (length bytes) (field_len f bytes) (omega (arith, length_is, field_len_is)))

  -- a field in order
  pub no_flaw : f.may_be n ≡ true → f.behind n ≤ length rest → field_flaw f bytes ≡ None
  unfolding field_flaw
  no_flaw good enough =
      cond-false _ _ _ has_number ∙ cond-true _ _ _ (ap f.may_be number_is ∙ good)
      ∙ cond-false _ _ _ (le-ltb (length bytes) (field_len f bytes) (omega (arith, length_is, field_len_is)))

  -- what stands behind the field
  pub drop-field : (part more : List ℕ) → rest ≡ part ++ more → length part ≡ f.behind n → drop (field_len f bytes) bytes ≡ more
  drop-field part more cut size =
      ap (drop (field_len f bytes)) (holds.written ∙ ap (λ (l : List ℕ). number_bytes f.size n ++ l) cut ∙ sym (append_assoc (number_bytes f.size n) part more))
      ∙ drop_at (number_bytes f.size n ++ part) more (field_len f bytes)
      (omega (arith, field_len_is, size, length-append (number_bytes f.size n) part, length-number_bytes f.size n))

-- The first field that is wrong or incomplete is this one, or one behind it.
pub first_here : (f : Field) (fields : List Field) (bytes : List ℕ) (wrong : Flaw) → field_flaw f bytes ≡ Some wrong → first_flaw (f ∷ fields) bytes ≡ Some wrong
first_here f fields bytes wrong here = ap (λ (o : Option Flaw). option_or o (first_flaw fields (drop (field_len f bytes) bytes))) here

pub first_behind :
    (f : Field) (fields : List Field) (n : ℕ) (bytes part more : List ℕ) → Holds f n bytes (part ++ more) → f.may_be n ≡ true → length part ≡ f.behind n
    → first_flaw (f ∷ fields) bytes ≡ first_flaw fields more
first_behind f fields n bytes part more holds good size =
    ap (λ (o : Option Flaw). option_or o (first_flaw fields (drop (field_len f bytes) bytes)))
    (no_flaw f n bytes (part ++ more) holds good (omega (arith, size, length-append part more)))
    ∙ ap (first_flaw fields) (drop-field f n bytes (part ++ more) holds part more refl size)
