-- What happens to a member, and when. A reading of its clock is a number of ticks of 100 ns since 1 January 1601.
use Rattle.std.specs.Prelude.{ℕ, Bool, true, false, ◌||◌, ◌==◌, List, Option, Some, None, ℤ, bit_and}
use Rattle.base_specs.specs.Time.{IsReading}
use Rattle.capture_fmt.specs.declared.event.Event.{Event}
use Rattle.capture_fmt.specs.declared.event.Event.TheVariants.{Life, Tick, Resync, Arrive}

-- all that happened, the last event first: a history followed by the event e is e ∷ history
abbrev pub History : Type 0
History = List Event

-- when an event happened
abbrev pub reading_of : Event → ℤ
reading_of (Life now mark) = now
reading_of (Tick now word) = now
reading_of (Resync now word flags) = now
reading_of (Arrive now from bytes) = now

-- an event happened at a moment that a clock may read
abbrev pub IsRead : Event → Type 0
IsRead e = IsReading (reading_of e)

-- a Life: a run began
abbrev pub is_life : Event → Bool
is_life (Life now mark) = true
is_life (Tick now word) = false
is_life (Resync now word flags) = false
is_life (Arrive now from bytes) = false

-- a Resync whose flags have 4: the first partner in rank is to be taken again
abbrev pub is_rediscovery : Event → Bool
is_rediscovery (Life now mark) = false
is_rediscovery (Tick now word) = false
is_rediscovery (Resync now word flags) = bit_and flags 4 == 4
is_rediscovery (Arrive now from bytes) = false

-- an event at which the first partner in rank is taken
abbrev pub is_reset : Event → Bool
is_reset e = is_life e || is_rediscovery e

-- the mark of a Life
abbrev pub mark_of : Event → Option ℕ
mark_of (Life now mark) = Some mark
mark_of (Tick now word) = None
mark_of (Resync now word flags) = None
mark_of (Arrive now from bytes) = None

-- the random word for the request of an event, if it sends one
abbrev pub word_of : Event → ℕ
word_of (Life now mark) = 0
word_of (Tick now word) = word
word_of (Resync now word flags) = word
word_of (Arrive now from bytes) = 0
