-- Bytes that come one by one: a flaw other than a cut stays, and a record that is cut still has room.
use Rattle.std.proofs.Common.{◌≡◌, ℕ, ◌+◌, ◌<◌, ◌≤◌, Bool, true, false, cond, List, [], ◌∷◌, ◌++◌, length, drop, Option, Some, None, sym, ◌∙◌, ap, inl, inr, arith, length-append, length-drop}
use Rattle.std.specs.Prelude.{nat_lt, ◌==◌}
use Rattle.std.specs.Option.{option_or}
use Rattle.std.proofs.lemmas.Bool.{true≢false, le-ltb, ltb-true, ltb-false, leb-true, cond-true, cond-false, cases_Bool}
use Rattle.std.proofs.lemmas.List.{take-append-le, drop-append-le}
use Rattle.byte_codec.specs.Numbers.{number_of}
use Rattle.capture_fmt.specs.declared.fault.Flaw.{Flaw}
use Rattle.capture_fmt.specs.declared.fault.Flaw.TheVariants.{BadKind, BadReading, Torn}
use Rattle.capture_fmt.specs.Record as layout
use Rattle.capture_fmt.specs.Record.{Field, field_number, field_len, field_flaw, first_flaw, flaw_behind, record_flaw, fields_of}

-- How a field stands in the bytes: its number isn't whole, it may not stand there, the bytes behind it aren't whole, or all is in order.
pub data Stands (f : Field) (bytes : List ℕ) : Type 0 where
  is_cut : length bytes < f.size → field_flaw f bytes ≡ Some Torn → Stands f bytes
  is_wrong : f.size ≤ length bytes → f.may_be (field_number f bytes) ≡ false → field_flaw f bytes ≡ Some f.flaw → Stands f bytes
  is_short : f.size ≤ length bytes → f.may_be (field_number f bytes) ≡ true → length bytes < field_len f bytes → field_flaw f bytes ≡ Some Torn → Stands f bytes
  is_whole : f.size ≤ length bytes → f.may_be (field_number f bytes) ≡ true → field_len f bytes ≤ length bytes → field_flaw f bytes ≡ None → Stands f bytes

pub stands : (f : Field) (bytes : List ℕ) → Stands f bytes
unfolding field_flaw
stands f bytes =
    elim (cases_Bool (nat_lt (length bytes) f.size)) [
      | inl less ↦ is_cut (ltb-true _ _ less) (cond-true _ _ _ less)
      | inr many ↦ elim (cases_Bool (f.may_be (field_number f bytes))) [
        | inr bad ↦ is_wrong (ltb-false _ _ many) bad (cond-false _ _ _ many ∙ cond-false _ _ _ bad)
        | inl good ↦ elim (cases_Bool (nat_lt (length bytes) (field_len f bytes))) [
          | inl few ↦ is_short (ltb-false _ _ many) good (ltb-true _ _ few) (cond-false _ _ _ many ∙ cond-true _ _ _ good ∙ cond-true _ _ _ few)
          | inr enough ↦ is_whole (ltb-false _ _ many) good (ltb-false _ _ enough) (cond-false _ _ _ many ∙ cond-true _ _ _ good ∙ cond-false _ _ _ enough)
        ]
      ]
    ]

-- the number of a field stays as more bytes come, and so does its length
number_stays : (f : Field) (bytes more : List ℕ) → f.size ≤ length bytes → field_number f (bytes ++ more) ≡ field_number f bytes
unfolding field_number
number_stays f bytes more enough = ap number_of (take-append-le f.size bytes more enough)

len_stays : (f : Field) (bytes more : List ℕ) → f.size ≤ length bytes → field_len f (bytes ++ more) ≡ field_len f bytes
unfolding field_len
len_stays f bytes more enough = ap (λ (n : ℕ). f.size + f.behind n) (number_stays f bytes more enough)

-- a wrong number stays wrong, and a whole field whole
wrong_stays : (f : Field) (bytes more : List ℕ) → f.size ≤ length bytes → f.may_be (field_number f bytes) ≡ false → field_flaw f (bytes ++ more) ≡ Some f.flaw
unfolding field_flaw
wrong_stays f bytes more enough bad =
    cond-false _ _ _ (le-ltb (length (bytes ++ more)) f.size (omega (arith, length-append bytes more)))
    ∙ cond-false _ _ _ (ap f.may_be (number_stays f bytes more enough) ∙ bad)

whole_stays :
    (f : Field) (bytes more : List ℕ) → f.size ≤ length bytes → f.may_be (field_number f bytes) ≡ true → field_len f bytes ≤ length bytes
    → field_flaw f (bytes ++ more) ≡ None
unfolding field_flaw
whole_stays f bytes more enough good fits =
    cond-false _ _ _ (le-ltb (length (bytes ++ more)) f.size (omega (arith, length-append bytes more)))
    ∙ cond-true _ _ _ (ap f.may_be (number_stays f bytes more enough) ∙ good)
    ∙ cond-false _ _ _ (le-ltb (length (bytes ++ more)) (field_len f (bytes ++ more)) (omega (arith, length-append bytes more, len_stays f bytes more enough)))

rest_stays : (f : Field) (bytes more : List ℕ) → f.size ≤ length bytes → field_len f bytes ≤ length bytes → drop (field_len f (bytes ++ more)) (bytes ++ more) ≡ drop (field_len f bytes) bytes ++ more
rest_stays f bytes more enough fits =
    ap (λ (n : ℕ). drop n (bytes ++ more)) (len_stays f bytes more enough) ∙ drop-append-le (field_len f bytes) bytes more fits

-- the flaw of the first field, or of those behind it
pub first_of : (f : Field) (fields : List Field) (bytes : List ℕ) (o : Option Flaw) → field_flaw f bytes ≡ o → first_flaw (f ∷ fields) bytes ≡ option_or o (first_flaw fields (drop (field_len f bytes) bytes))
first_of f fields bytes o is = ap (λ (p : Option Flaw). option_or p (first_flaw fields (drop (field_len f bytes) bytes))) is

first_flaw_stays : (fields : List Field) (bytes more : List ℕ) (flaw : Flaw) → (flaw ≡ Torn → ⊥) → first_flaw fields bytes ≡ Some flaw → first_flaw fields (bytes ++ more) ≡ Some flaw
first_flaw_stays [] bytes more flaw not_torn is = cc
first_flaw_stays (f ∷ fields) bytes more flaw not_torn is =
    elim (stands f bytes) [
      | is_cut few flawed ↦ absurd (not_torn (cc (first_of f fields bytes (Some Torn) flawed, is)))
      | is_short enough good few flawed ↦ absurd (not_torn (cc (first_of f fields bytes (Some Torn) flawed, is)))
      | is_wrong enough bad flawed ↦
          first_of f fields (bytes ++ more) (Some f.flaw) (wrong_stays f bytes more enough bad) ∙ sym (first_of f fields bytes (Some f.flaw) flawed) ∙ is
      | is_whole enough good fits none ↦
          first_of f fields (bytes ++ more) None (whole_stays f bytes more enough good fits)
          ∙ ap (first_flaw fields) (rest_stays f bytes more enough fits)
          ∙ first_flaw_stays fields (drop (field_len f bytes) bytes) more flaw not_torn (sym (first_of f fields bytes None none) ∙ is)
    ]

-- a flaw other than a cut is one however the bytes go on
pub flaw_stays : (bytes more : List ℕ) (flaw : Flaw) → (flaw ≡ Torn → ⊥) → record_flaw bytes ≡ Some flaw → record_flaw (bytes ++ more) ≡ Some flaw
unfolding record_flaw
flaw_stays [] more flaw not_torn is = absurd (not_torn cc)
flaw_stays (kind ∷ bytes) more flaw not_torn is =
    elim (fields_of kind) as (λ (o : Option (List Field)). flaw_behind o bytes ≡ Some flaw → flaw_behind o (bytes ++ more) ≡ Some flaw) [
      | None ↦ λ same. same
      | Some fields ↦ λ same. first_flaw_stays fields bytes more flaw not_torn same
    ] is

-- a field has this many bytes at most, and no other number in it is only a cut
record Bounded (f : Field) (most : ℕ) : Type 0 where
  size : f.size ≤ most
  behind : (n : ℕ) → f.may_be n ≡ true → f.size + f.behind n ≤ most
  flaw : (n : ℕ) → f.may_be n ≡ false → f.flaw ≡ Torn → ⊥

data AllBounded : List Field → ℕ → Type 0 where
  no_field : AllBounded [] 0
  one_more : {f : Field} {fields : List Field} {m n : ℕ} → Bounded f m → AllBounded fields n → AllBounded (f ∷ fields) (m + n)

first_flaw_short : (fields : List Field) (most : ℕ) (bytes : List ℕ) → AllBounded fields most → first_flaw fields bytes ≡ Some Torn → length bytes < most
unfolding field_len
first_flaw_short [] most bytes bounded is = cc
first_flaw_short (f ∷ fields) most bytes (one_more {m = m} {n = n} bound rest) is =
    elim (stands f bytes) [
      | is_cut few flawed ↦ let size : f.size ≤ m = bound.size in omega arith
      | is_short enough good few flawed ↦ let size : f.size + f.behind (field_number f bytes) ≤ m = bound.behind (field_number f bytes) good in omega arith
      | is_wrong enough bad flawed ↦ absurd (bound.flaw (field_number f bytes) bad (cc (first_of f fields bytes (Some f.flaw) flawed, is)))
      | is_whole enough good fits none ↦
          let size : f.size + f.behind (field_number f bytes) ≤ m = bound.behind (field_number f bytes) good in
          let short = first_flaw_short fields n (drop (field_len f bytes) bytes) rest (sym (first_of f fields bytes None none) ∙ is) in
          omega (arith, short, length-drop (field_len f bytes) bytes)
    ]

-- a number with nothing behind it, in a field that can be wrong in another way than cut
bounded_number : (size : ℕ) (may_be : ℕ → Bool) (flaw : Flaw) → (flaw ≡ Torn → ⊥) → Bounded (record { size = size; may_be = may_be; flaw = flaw; behind = λ n. 0 }) size
bounded_number size may_be flaw not_torn = record { size = omega arith; behind = λ n good. omega arith; flaw = λ n bad. not_torn }

bounded_plain : (size : ℕ) → Bounded (layout.plain size) size
bounded_plain size = record { size = omega arith; behind = λ n good. omega arith; flaw = λ n bad torn. absurd (true≢false bad) }

bounded_datagram : Bounded layout.datagram 258
bounded_datagram = record {
  size = omega arith;
  behind = λ n good. omega (arith, leb-true n 256 good);
  flaw = λ n bad torn. cc;
}

not_torn_kind : BadKind ≡ Torn → ⊥
not_torn_kind same = cc

not_torn_reading : BadReading ≡ Torn → ⊥
not_torn_reading same = cc

-- the fields behind a kind have 272 bytes at most
HasRoom : Option (List Field) → Type 0
HasRoom None = Unit {0}
HasRoom (Some fields) = (most : ℕ) × AllBounded fields most × (most ≤ 272)

room_if : (b : Bool) (fields : List Field) (others : Option (List Field)) → HasRoom (Some fields) → HasRoom others → HasRoom (cond b (Some fields) others)
room_if true fields others here there = here
room_if false fields others here there = there

room : (kind : ℕ) → HasRoom (fields_of kind)
unfolding HasRoom
room kind =
    let magic = bounded_number 4 layout.magic.may_be BadKind not_torn_kind in
    let reading = bounded_number 8 layout.reading.may_be BadReading not_torn_reading in
    let word = bounded_plain 4 in
    let arrive = cond (kind == layout.arrive_kind) (Some layout.arrive_fields) None in
    let resync = cond (kind == layout.resync_kind) (Some layout.resync_fields) arrive in
    let tick = cond (kind == layout.tick_kind) (Some layout.tick_fields) resync in
    room_if (kind == layout.life_kind) layout.life_fields tick (16, one_more magic (one_more reading (one_more word no_field)), omega arith)
    (room_if (kind == layout.tick_kind) layout.tick_fields resync (12, one_more reading (one_more word no_field), omega arith)
    (room_if (kind == layout.resync_kind) layout.resync_fields arrive (16, one_more reading (one_more word (one_more word no_field)), omega arith)
    (room_if (kind == layout.arrive_kind) layout.arrive_fields None
    (272, one_more reading (one_more word (one_more (bounded_plain 2) (one_more bounded_datagram no_field))), omega arith) tt)))

short_behind : (fields : Option (List Field)) (bytes : List ℕ) → HasRoom fields → flaw_behind fields bytes ≡ Some Torn → length bytes < 272
unfolding HasRoom
short_behind None bytes has is = cc
short_behind (Some fields) bytes has is = let short = first_flaw_short fields has.0 bytes has.1 is in omega (arith, short, has.2)

-- a record that is cut is shorter than the longest
pub cut_is_short : (bytes : List ℕ) → record_flaw bytes ≡ Some Torn → length bytes < 273
unfolding record_flaw
cut_is_short [] is = omega arith
cut_is_short (kind ∷ bytes) is = let short = short_behind (fields_of kind) bytes (room kind) is in omega (arith, short)
