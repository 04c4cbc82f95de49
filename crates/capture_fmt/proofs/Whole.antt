-- Bytes without a flaw begin with a record, so that all bytes spell a history or have a first fault.
use Rattle.std.proofs.Common.{◌≡◌, ℕ, zero, suc, ◌+◌, ◌*◌, ◌/◌, ◌%◌, ◌^◌, ◌<◌, ◌≤◌, pos, true, cond, List, [], ◌∷◌, ◌++◌, length, take, drop, Option, Some, None, refl, sym, ◌∙◌, ap, subst, ◌⊎◌, inl, inr, arith, lit<, add-zero, zero-add, append_assoc, length-append}
use Rattle.std.specs.Prelude.{◌==◌}
use Rattle.std.specs.List.{AllByRecursion}
use Rattle.std.specs.Int.{bytes_high_first, byte_at}
use Rattle.std.specs.Int.Digits.{number_from_digits_after}
use Rattle.std.proofs.Math.Nat.{pow-succ', add-mul, mul_assoc}
use Rattle.std.proofs.lemmas.Bool.{cases_Bool, cases_lt, cond-true, cond-false, eqb-true, leb-true}
use Rattle.std.proofs.lemmas.Int.{ints}
use Rattle.std.proofs.lemmas.Nat.{mul-add-lt, div-mul-add, mod-mul-add}
use Rattle.std.proofs.lemmas.List.{append-nil, length-take-le, take-append-drop, drop-drop}
use Rattle.byte_codec.specs.Numbers.{number_bytes, number_of}
use Rattle.edge_traits.specs.declared.datagram.Addr.{Addr}
use Rattle.capture_fmt.specs.declared.event.Event.{Event}
use Rattle.capture_fmt.specs.declared.event.Event.TheVariants.{Life, Tick, Resync, Arrive}
use Rattle.capture_fmt.specs.declared.fault.CaptureFault.{CaptureFault}
use Rattle.capture_fmt.specs.declared.fault.CaptureFault.TheVariants as fault
use Rattle.capture_fmt.specs.declared.fault.Flaw.{Flaw}
use Rattle.capture_fmt.specs.declared.fault.Flaw.TheVariants.{BadKind, BadReading, BadLength, Torn}
use Rattle.capture_fmt.specs.Event.{EventFits}
use Rattle.capture_fmt.specs.Record as layout
use Rattle.capture_fmt.specs.Record.{Field, event_bytes, field_number, field_len, field_flaw, first_flaw, flaw_behind, record_flaw, fields_of}
use Rattle.capture_fmt.specs.Capture.{SpellsEvents, BeginBelow, IsFlawed, IsFault, FaultAt, fault_of, place_limit}
use Rattle.capture_fmt.proofs.Growing.{is_cut, is_wrong, is_short, is_whole, stands, first_of}
use Rattle.capture_fmt.proofs.Records.{read_life, read_tick, read_resync, read_arrive}
use Rattle.capture_fmt.proofs.OneRecord.{event_begins}
use Rattle.capture_fmt.proofs.Histories.{same_place}

-- each is a byte
abbrev AreBytes : List ℕ → Type 0
AreBytes bytes = AllByRecursion (λ (b : ℕ). b < 256) bytes

bytes_take : (n : ℕ) (bytes : List ℕ) → AreBytes bytes → AreBytes (take n bytes)
bytes_take zero bytes are = tt
bytes_take (suc n) [] are = tt
bytes_take (suc n) (b ∷ bytes) are = (are.0, bytes_take n bytes are.1)

bytes_drop : (n : ℕ) (bytes : List ℕ) → AreBytes bytes → AreBytes (drop n bytes)
bytes_drop zero bytes are = are
bytes_drop (suc n) [] are = tt
bytes_drop (suc n) (b ∷ bytes) are = bytes_drop n bytes are.1

-- the number of bytes that stand behind another number
number_behind : (m : ℕ) (bytes : List ℕ) → number_from_digits_after 256 m bytes ≡ m * 256 ^ length bytes + number_from_digits_after 256 0 bytes
number_behind m [] = omega arith
number_behind m (b ∷ bytes) =
    let place = 256 ^ length bytes in
    let first = number_behind (m * 256 + b) bytes in
    let next = number_behind (0 * 256 + b) bytes in
    let parts : (m * 256 + b) * place ≡ (m * 256) * place + b * place = add-mul (m * 256) b place in
    let also : (0 * 256 + b) * place ≡ b * place = ap (λ (n : ℕ). n * place) (omega arith) in
    let whole : (m * 256) * place ≡ m * (256 * place) = mul_assoc m 256 place in
    let power : m * 256 ^ suc (length bytes) ≡ m * (256 * place) = ap (λ (n : ℕ). m * n) (pow-succ' 256 (length bytes)) in
    omega (arith, first, next, parts, also, whole, power)

number_below : (bytes : List ℕ) → AreBytes bytes → number_from_digits_after 256 0 bytes < 256 ^ length bytes
number_below [] are = lit< tt
number_below (b ∷ bytes) are =
    let place = 256 ^ length bytes in
    let rest = number_from_digits_after 256 0 bytes in
    let is = number_behind (0 * 256 + b) bytes in
    let also : (0 * 256 + b) * place ≡ b * place = ap (λ (n : ℕ). n * place) (omega arith) in
    let below : b * place + rest < place * 256 = mul-add-lt b place rest 256 are.0 (number_below bytes are.1) in
    omega (arith, is, also, below, pow-succ' 256 (length bytes))

-- the byte in front of so many others
byte_in_front : (k n q x : ℕ) → n ≡ q * 256 ^ k + x → x < 256 ^ k → byte_at k n ≡ q % 256
byte_in_front zero n q x is below = ap (λ (v : ℕ). v % 256) (omega (arith, is, below))
byte_in_front (suc k) n q x is below =
    ap (λ (v : ℕ). v / 256 ^ suc k % 256) is ∙ ap (λ (v : ℕ). v % 256) (div-mul-add q (256 ^ suc k) x below)

-- bytes are those of their number
bytes_again : (m : ℕ) (bytes : List ℕ) → AreBytes bytes → bytes_high_first (length bytes) (number_from_digits_after 256 m bytes) ≡ bytes
bytes_again m [] are = refl
bytes_again m (b ∷ bytes) are =
    let front : byte_at (length bytes) (number_from_digits_after 256 (m * 256 + b) bytes) ≡ b =
    byte_in_front (length bytes) _ (m * 256 + b) (number_from_digits_after 256 0 bytes) (number_behind (m * 256 + b) bytes) (number_below bytes are.1)
    ∙ mod-mul-add m 256 b are.0 in
    let behind = bytes_again (m * 256 + b) bytes are.1 in
    λ i. front i ∷ behind i

number_bytes-number_of : (bytes : List ℕ) → AreBytes bytes → number_bytes (length bytes) (number_of bytes) ≡ bytes
unfolding number_bytes number_of
number_bytes-number_of bytes are = bytes_again 0 bytes are

number_of_below : (bytes : List ℕ) → AreBytes bytes → number_of bytes < 256 ^ length bytes
unfolding number_of
number_of_below bytes are = number_below bytes are

-- a field in order: its number, and what stands behind the number and behind the field
record Opens (f : Field) (fields : List Field) (bytes : List ℕ) : Type 0 where
  number : ℕ
  more : List ℕ
  below : number < 256 ^ f.size
  written : bytes ≡ number_bytes f.size number ++ more
  good : f.may_be number ≡ true
  enough : f.behind number ≤ length more
  are : AreBytes more
  behind : first_flaw fields (drop (f.behind number) more) ≡ None

opens_whole :
    (f : Field) (fields : List Field) (bytes : List ℕ) → AreBytes bytes → f.size ≤ length bytes → f.may_be (field_number f bytes) ≡ true
    → field_len f bytes ≤ length bytes → first_flaw fields (drop (field_len f bytes) bytes) ≡ None → Opens f fields bytes
unfolding field_number field_len
opens_whole f fields bytes are long good fits none =
    let front = take f.size bytes in
    let more = drop f.size bytes in
    let size : length front ≡ f.size = length-take-le f.size bytes long in
    let bytes_are = bytes_take f.size bytes are in
    let again : number_bytes f.size (number_of front) ≡ front = ap (λ (n : ℕ). number_bytes n (number_of front)) (sym size) ∙ number_bytes-number_of front bytes_are in
    let below : number_of front < 256 ^ f.size = subst (λ (n : ℕ). number_of front < 256 ^ n) size (number_of_below front bytes_are) in
    let joined : bytes ≡ front ++ more = sym (take-append-drop f.size bytes) in
    record {
      number = number_of front;
      more = more;
      below = below;
      written = joined ∙ ap (λ (l : List ℕ). l ++ more) (sym again);
      good = good;
      enough = omega (arith, fits, size, ap length joined, length-append front more);
      are = bytes_drop f.size bytes are;
      behind = ap (first_flaw fields) (drop-drop (f.behind (number_of front)) f.size bytes) ∙ none;
    }

opens : (f : Field) (fields : List Field) (bytes : List ℕ) → AreBytes bytes → first_flaw (f ∷ fields) bytes ≡ None → Opens f fields bytes
opens f fields bytes are none =
    elim (stands f bytes) [
      | is_cut few flawed ↦ absurd (cc (first_of f fields bytes (Some Torn) flawed, none))
      | is_short long good few flawed ↦ absurd (cc (first_of f fields bytes (Some Torn) flawed, none))
      | is_wrong long bad flawed ↦ absurd (cc (first_of f fields bytes (Some f.flaw) flawed, none))
      | is_whole long good fits fine ↦ opens_whole f fields bytes are long good fits (sym (first_of f fields bytes None fine) ∙ none)
    ]

-- bytes that begin with a record, but for its kind
record BeginsWithout (kind : ℕ) (bytes : List ℕ) : Type 0 where
  event : Event
  rest : List ℕ
  fits : EventFits event
  written : kind ∷ bytes ≡ event_bytes event ++ rest

begins_life : (bytes : List ℕ) → AreBytes bytes → first_flaw layout.life_fields bytes ≡ None → BeginsWithout layout.life_kind bytes
begins_life bytes are none =
    let magic = opens layout.magic (layout.reading ∷ layout.word ∷ []) bytes are none in
    let reading = opens layout.reading (layout.word ∷ []) magic.more magic.are magic.behind in
    let word = opens layout.word [] reading.more reading.are reading.behind in
    let letters : magic.number ≡ layout.magic_number = eqb-true magic.number layout.magic_number magic.good in
    let late : reading.number ≤ 4000000000000000000 = leb-true reading.number 4000000000000000000 reading.good in
    record {
      event = Life (pos reading.number) word.number;
      rest = word.more;
      fits = ((omega (arith, ints), omega (arith, ints)), word.below);
      written = read_life (pos reading.number) word.number bytes magic.more reading.more word.more
          (magic.written ∙ ap (λ (n : ℕ). number_bytes 4 n ++ magic.more) letters) reading.written word.written;
    }

begins_tick : (bytes : List ℕ) → AreBytes bytes → first_flaw layout.tick_fields bytes ≡ None → BeginsWithout layout.tick_kind bytes
begins_tick bytes are none =
    let reading = opens layout.reading (layout.word ∷ []) bytes are none in
    let word = opens layout.word [] reading.more reading.are reading.behind in
    let late : reading.number ≤ 4000000000000000000 = leb-true reading.number 4000000000000000000 reading.good in
    record {
      event = Tick (pos reading.number) word.number;
      rest = word.more;
      fits = ((omega (arith, ints), omega (arith, ints)), word.below);
      written = read_tick (pos reading.number) word.number bytes reading.more word.more reading.written word.written;
    }

begins_resync : (bytes : List ℕ) → AreBytes bytes → first_flaw layout.resync_fields bytes ≡ None → BeginsWithout layout.resync_kind bytes
begins_resync bytes are none =
    let reading = opens layout.reading (layout.word ∷ layout.word ∷ []) bytes are none in
    let word = opens layout.word (layout.word ∷ []) reading.more reading.are reading.behind in
    let flags = opens layout.word [] word.more word.are word.behind in
    let late : reading.number ≤ 4000000000000000000 = leb-true reading.number 4000000000000000000 reading.good in
    record {
      event = Resync (pos reading.number) word.number flags.number;
      rest = flags.more;
      fits = ((omega (arith, ints), omega (arith, ints)), word.below, flags.below);
      written = read_resync (pos reading.number) word.number flags.number bytes reading.more word.more flags.more reading.written word.written flags.written;
    }

-- bytes that are counted by a number before them
counted : (n : ℕ) (bytes more : List ℕ) → n ≤ length more → bytes ≡ number_bytes 2 n ++ more → bytes ≡ number_bytes 2 (length (take n more)) ++ (take n more ++ drop n more)
counted n bytes more enough written =
    let size : n ≡ length (take n more) = sym (length-take-le n more enough) in
    let joined : more ≡ take n more ++ drop n more = sym (take-append-drop n more) in
    written ∙ ap (λ (l : List ℕ). number_bytes 2 n ++ l) joined ∙ ap (λ (k : ℕ). number_bytes 2 k ++ (take n more ++ drop n more)) size

begins_arrive : (bytes : List ℕ) → AreBytes bytes → first_flaw layout.arrive_fields bytes ≡ None → BeginsWithout layout.arrive_kind bytes
begins_arrive bytes are none =
    let reading = opens layout.reading (layout.word ∷ layout.port ∷ layout.datagram ∷ []) bytes are none in
    let ip = opens layout.word (layout.port ∷ layout.datagram ∷ []) reading.more reading.are reading.behind in
    let port = opens layout.port (layout.datagram ∷ []) ip.more ip.are ip.behind in
    let count = opens layout.datagram [] port.more port.are port.behind in
    let late : reading.number ≤ 4000000000000000000 = leb-true reading.number 4000000000000000000 reading.good in
    let most : count.number ≤ 256 = leb-true count.number 256 count.good in
    let part = take count.number count.more in
    let rest = drop count.number count.more in
    let size : length part ≡ count.number = length-take-le count.number count.more count.enough in
    let from : Addr = record { ip = ip.number; port = port.number } in
    record {
      event = Arrive (pos reading.number) from part;
      rest = rest;
      fits = ((omega (arith, ints), omega (arith, ints)), ip.below, port.below, omega (arith, size, most));
      written = read_arrive (pos reading.number) from part bytes reading.more ip.more port.more rest reading.written ip.written port.written
          (counted count.number port.more count.more count.enough count.written);
    }

-- bytes that begin with a record
pub record Begins (bytes : List ℕ) : Type 0 where
  pub event : Event
  pub rest : List ℕ
  pub fits : EventFits event
  pub written : bytes ≡ event_bytes event ++ rest

begins_as : (kind k : ℕ) (bytes : List ℕ) → k ≡ kind → BeginsWithout kind bytes → Begins (k ∷ bytes)
begins_as kind k bytes same begins = record {
  event = begins.event;
  rest = begins.rest;
  fits = begins.fits;
  written = ap (λ (n : ℕ). n ∷ bytes) same ∙ begins.written;
}

-- by the tests for the kinds, one after the other
by_kind :
    (kind k : ℕ) (fields : List Field) (others : Option (List Field)) (bytes : List ℕ)
    → (first_flaw fields bytes ≡ None → BeginsWithout kind bytes) → (flaw_behind others bytes ≡ None → Begins (k ∷ bytes))
    → flaw_behind (cond (k == kind) (Some fields) others) bytes ≡ None → Begins (k ∷ bytes)
by_kind kind k fields others bytes here there none =
    elim (cases_Bool (k == kind)) [
      | inl same ↦ begins_as kind k bytes (eqb-true k kind same) (here (sym (ap (λ (o : Option (List Field)). flaw_behind o bytes) (cond-true (k == kind) (Some fields) others same)) ∙ none))
      | inr other ↦ there (sym (ap (λ (o : Option (List Field)). flaw_behind o bytes) (cond-false (k == kind) (Some fields) others other)) ∙ none)
    ]

no_kind : (k : ℕ) (bytes : List ℕ) → flaw_behind None bytes ≡ None → Begins (k ∷ bytes)
no_kind k bytes none = absurd cc

pub begins : (bytes : List ℕ) → AreBytes bytes → record_flaw bytes ≡ None → Begins bytes
unfolding record_flaw
begins [] are none = absurd cc
begins (k ∷ bytes) are none =
    let arrive = cond (k == layout.arrive_kind) (Some layout.arrive_fields) None in
    let resync = cond (k == layout.resync_kind) (Some layout.resync_fields) arrive in
    let tick = cond (k == layout.tick_kind) (Some layout.tick_fields) resync in
    by_kind layout.life_kind k layout.life_fields tick bytes (begins_life bytes are.1)
    (by_kind layout.tick_kind k layout.tick_fields resync bytes (begins_tick bytes are.1)
    (by_kind layout.resync_kind k layout.resync_fields arrive bytes (begins_resync bytes are.1)
    (by_kind layout.arrive_kind k layout.arrive_fields None bytes (begins_arrive bytes are.1) (no_kind k bytes)))) none

is_fault : (flaw : Flaw) (place : ℕ) (bytes : List ℕ) → IsFlawed place bytes place flaw → IsFault place bytes (fault_of flaw place)
is_fault BadKind place bytes is = is
is_fault BadReading place bytes is = is
is_fault BadLength place bytes is = is
is_fault Torn place bytes is = is

-- Bytes from a place on, as far as they are records, and what stands behind these: the end, or a fault.
record Cut (place : ℕ) (bytes : List ℕ) : Type 0 where
  events : List Event
  front : List ℕ
  rest : List ℕ
  joined : bytes ≡ front ++ rest
  spells : SpellsEvents events front
  below : BeginBelow place events
  behind : ((rest ≡ []) × (place + length front < place_limit)) ⊎ ((wrong : CaptureFault) × IsFault (place + length front) rest wrong)

cut_here : (place : ℕ) (bytes : List ℕ) (wrong : CaptureFault) → IsFault place bytes wrong → Cut place bytes
cut_here place bytes wrong is = record {
  events = [];
  front = [];
  rest = bytes;
  joined = refl;
  spells = record { fits = tt; written = refl };
  below = tt;
  behind = inr (wrong, same_place place (place + 0) bytes bytes wrong (sym (add-zero place)) refl is);
}

cut_at_end : (place : ℕ) → place < place_limit → Cut place []
cut_at_end place below = record {
  events = [];
  front = [];
  rest = [];
  joined = refl;
  spells = record { fits = tt; written = refl };
  below = tt;
  behind = inl (refl, omega (arith, below));
}

cut_behind : (place : ℕ) (bytes : List ℕ) → place < place_limit → (b : Begins bytes) → Cut (place + length (event_bytes b.event)) b.rest → Cut place bytes
cut_behind place bytes below b more =
    let here = event_bytes b.event in
    let there : (place + length here) + length more.front ≡ place + length (here ++ more.front) = omega (arith, length-append here more.front) in
    record {
      events = b.event ∷ more.events;
      front = here ++ more.front;
      rest = more.rest;
      joined = b.written ∙ ap (λ (l : List ℕ). here ++ l) more.joined ∙ sym (append_assoc here more.front more.rest);
      spells = record { fits = (b.fits, more.spells.fits); written = ap (λ (l : List ℕ). here ++ l) more.spells.written };
      below = (below, more.below);
      behind = elim more.behind [
        | inl end ↦ inl (end.0, omega (arith, end.1, there))
        | inr wrong ↦ inr (wrong.0, same_place _ _ more.rest more.rest wrong.0 there refl wrong.1)
      ];
    }

bytes_behind : (front rest : List ℕ) → AreBytes (front ++ rest) → AreBytes rest
bytes_behind [] rest are = are
bytes_behind (b ∷ front) rest are = bytes_behind front rest are.1

flaw_or_none : (o : Option Flaw) → (o ≡ None) ⊎ ((flaw : Flaw) × (o ≡ Some flaw))
flaw_or_none None = inl refl
flaw_or_none (Some flaw) = inr (flaw, refl)

cut_empty : (place : ℕ) → Cut place []
cut_empty place =
    elim (cases_lt place place_limit) [
      | inl below ↦ cut_at_end place below
      | inr past ↦ cut_here place [] (fault.TooLong place) (refl, past)
    ]

cut_from : (turns place : ℕ) (bytes : List ℕ) → length bytes ≤ turns → AreBytes bytes → Cut place bytes
cut_from zero place [] most are = cut_empty place
cut_from zero place (b ∷ bytes) most are = absurd (omega (arith, most))
cut_from (suc turns) place [] most are = cut_empty place
cut_from (suc turns) place (b ∷ bytes) most are =
    elim (cases_lt place place_limit) [
      | inr past ↦ cut_here place (b ∷ bytes) (fault.TooLong place) (refl, past)
      | inl below ↦ elim (flaw_or_none (record_flaw (b ∷ bytes))) [
        | inr flaw ↦ cut_here place (b ∷ bytes) (fault_of flaw.0 place)
            (is_fault flaw.0 place (b ∷ bytes) (record { there = refl; below = below; begun = omega arith; flaw = flaw.1 }))
        | inl none ↦
            let first = begins (b ∷ bytes) are none in
            let total = ap length first.written ∙ length-append (event_bytes first.event) first.rest in
            cut_behind place (b ∷ bytes) below first
            (cut_from turns (place + length (event_bytes first.event)) first.rest
            (omega (arith, most, total, event_begins first.event))
            (bytes_behind (event_bytes first.event) first.rest (subst (λ (l : List ℕ). AreBytes l) first.written are)))
      ]
    ]

-- bytes spell a history that ends below the limit, or have a first fault
pub judged : (bytes : List ℕ) → AreBytes bytes → ((events : List Event) × SpellsEvents events bytes × (length bytes < place_limit)) ⊎ ((wrong : CaptureFault) × FaultAt bytes wrong)
judged bytes are =
    let c = cut_from (length bytes) 0 bytes (omega arith) are in
    elim c.behind [
      | inl end ↦
          let whole : bytes ≡ c.front = c.joined ∙ ap (λ (l : List ℕ). c.front ++ l) end.0 ∙ append-nil c.front in
          inl (c.events, subst (λ (l : List ℕ). SpellsEvents c.events l) (sym whole) c.spells, omega (arith, end.1, ap length whole))
      | inr wrong ↦
          inr (
            wrong.0,
            record {
              events = c.events;
              front = c.front;
              rest = c.rest;
              cut = c.joined;
              before = c.spells;
              below = c.below;
              here = same_place (0 + length c.front) (length c.front) c.rest c.rest wrong.0 (zero-add (length c.front)) refl wrong.1;
            },
          )
    ]
