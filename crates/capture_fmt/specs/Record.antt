-- The record of an event: a byte that says of which kind it is, and then the fields of that kind.
use Rattle.std.specs.Prelude.{◌≡◌, ℕ, ◌+◌, Bool, true, List, [], ◌∷◌, ◌++◌, length, take, drop, Option, Some, None, nat_lt, nat_le, ◌==◌, if◌then◌else◌, unsigned_abs}
use Rattle.std.specs.Option.{option_or}
use Rattle.capture_fmt.specs.declared.event.Event.{Event}
use Rattle.capture_fmt.specs.declared.event.Event.TheVariants.{Life, Tick, Resync, Arrive}
use Rattle.capture_fmt.specs.declared.fault.Flaw.{Flaw}
use Rattle.capture_fmt.specs.declared.fault.Flaw.TheVariants.{BadKind, BadReading, BadLength, Torn}
use Rattle.byte_codec.specs.Numbers.{number_bytes, number_of}
use Rattle.capture_fmt.specs.Event.{EventFits}

-- A field is a number, most significant byte first, and as many bytes behind it as the number counts.
pub record Field : Type 0 where
  -- bytes of the number
  pub size : ℕ
  -- whether a number may stand in the field
  pub may_be : ℕ → Bool
  -- what is wrong with a record in which another number does
  pub flaw : Flaw
  -- how many bytes stand behind the number
  pub behind : ℕ → ℕ

-- a field in which every number may stand, so that it can only be incomplete
abbrev pub plain : ℕ → Field
plain size = record { size = size; may_be = λ n. true; flaw = Torn; behind = λ n. 0 }

-- the letters `W32T`
abbrev pub magic_number : ℕ
magic_number = 0x57333254

-- the field of these letters
abbrev pub magic : Field
magic = record { size = 4; may_be = λ n. n == magic_number; flaw = BadKind; behind = λ n. 0 }

-- a moment, which is a reading of a clock
abbrev pub reading : Field
reading = record { size = 8; may_be = λ n. nat_le n 4000000000000000000; flaw = BadReading; behind = λ n. 0 }

-- a mark, a word, flags or an address
abbrev pub word : Field
word = plain 4

-- a port
abbrev pub port : Field
port = plain 2

-- the bytes of a datagram behind their number
abbrev pub datagram : Field
datagram = record { size = 2; may_be = λ n. nat_le n 256; flaw = BadLength; behind = λ n. n }

-- the kinds
abbrev pub life_kind : ℕ
life_kind = 1

abbrev pub tick_kind : ℕ
tick_kind = 2

abbrev pub resync_kind : ℕ
resync_kind = 3

abbrev pub arrive_kind : ℕ
arrive_kind = 4

-- the fields of each kind
abbrev pub life_fields : List Field
life_fields = magic ∷ reading ∷ word ∷ []

abbrev pub tick_fields : List Field
tick_fields = reading ∷ word ∷ []

abbrev pub resync_fields : List Field
resync_fields = reading ∷ word ∷ word ∷ []

abbrev pub arrive_fields : List Field
arrive_fields = reading ∷ word ∷ port ∷ datagram ∷ []

-- the fields of a record of this kind; there is no other kind
abbrev pub fields_of : ℕ → Option (List Field)
fields_of kind =
    if kind == life_kind then Some life_fields else
    (if kind == tick_kind then Some tick_fields else
    (if kind == resync_kind then Some resync_fields else
    (if kind == arrive_kind then Some arrive_fields else None)))

-- the numbers in their fields, and then these bytes
abbrev pub filled : List Field → List ℕ → List ℕ → List ℕ
filled (f ∷ fields) (n ∷ numbers) bytes = number_bytes f.size n ++ filled fields numbers bytes
filled fields numbers bytes = bytes

-- the one record of an event
unfoldable pub event_bytes : Event → List ℕ
event_bytes (Life now mark) = life_kind ∷ filled life_fields (magic_number ∷ unsigned_abs now ∷ mark ∷ []) []
event_bytes (Tick now number) = tick_kind ∷ filled tick_fields (unsigned_abs now ∷ number ∷ []) []
event_bytes (Resync now number flags) = resync_kind ∷ filled resync_fields (unsigned_abs now ∷ number ∷ flags ∷ []) []
event_bytes (Arrive now from bytes) = arrive_kind ∷ filled arrive_fields (unsigned_abs now ∷ from.ip ∷ from.port ∷ length bytes ∷ []) bytes

-- these bytes are the record of the event, and of no other
pub record SpellsEvent (event : Event) (bytes : List ℕ) : Type 0 where
  pub fits : EventFits event
  pub written : bytes ≡ event_bytes event

-- the number in the field that these bytes begin with
unfoldable pub field_number : Field → List ℕ → ℕ
field_number f bytes = number_of (take f.size bytes)

-- bytes in that field
unfoldable pub field_len : Field → List ℕ → ℕ
field_len f bytes = f.size + f.behind (field_number f bytes)

-- what is wrong with that field: it is incomplete, or another number stands in it than may
unfoldable pub field_flaw : Field → List ℕ → Option Flaw
field_flaw f bytes =
    if nat_lt (length bytes) f.size then Some Torn else
    (if f.may_be (field_number f bytes)
    then (if nat_lt (length bytes) (field_len f bytes) then Some Torn else None)
    else Some f.flaw)

-- what is wrong with the first field that is wrong or incomplete
abbrev pub first_flaw : List Field → List ℕ → Option Flaw
first_flaw [] bytes = None
first_flaw (f ∷ fields) bytes = option_or (field_flaw f bytes) (first_flaw fields (drop (field_len f bytes) bytes))

-- what is wrong with a record that has these fields behind its kind, or has none
abbrev pub flaw_behind : Option (List Field) → List ℕ → Option Flaw
flaw_behind None bytes = Some BadKind
flaw_behind (Some fields) bytes = first_flaw fields bytes

-- what is wrong with the record that these bytes begin with: nothing, where it is whole
unfoldable pub record_flaw : List ℕ → Option Flaw
record_flaw [] = Some Torn
record_flaw (kind ∷ bytes) = flaw_behind (fields_of kind) bytes

-- these bytes are neither a whole record nor at fault, so that the record can be judged only when more are seen
abbrev pub IsCut : List ℕ → Type 0
IsCut bytes = record_flaw bytes ≡ Some Torn
