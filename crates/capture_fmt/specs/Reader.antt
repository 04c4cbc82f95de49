-- What a reader of a capture keeps, and what a call of it does.
use Rattle.std.specs.Prelude.{◌≡◌, ℕ, ◌+◌, ◌<◌, ◌≤◌, Bool, true, false, List, [], ◌∷◌, ◌++◌, length, Option, Some, None, IfSome, Result, Ok, Err}
use Rattle.base_specs.specs.Counts.{Fails}
use Rattle.base_specs.specs.Told.{Took, IsUsedUp}
use Rattle.capture_fmt.specs.declared.event.Event.{Event}
use Rattle.capture_fmt.specs.declared.fault.CaptureFault.{CaptureFault}
use Rattle.capture_fmt.specs.declared.fault.CaptureFault.TheVariants as fault
use Rattle.capture_fmt.specs.declared.fault.Flaw.TheVariants.{BadKind, BadReading, BadLength, Torn}
use Rattle.capture_fmt.specs.Record.{SpellsEvent, record_flaw}
use Rattle.capture_fmt.specs.Capture.{SpellsEvents, BeginBelow, FaultAt, IsFlawed, place_limit}

-- whether a reader can go on, where the next record begins, and the bytes that it holds from there on
pub record Reader : Type 0 where
  pub alive : Bool
  pub place : ℕ
  pub held : List ℕ

-- An event was read: its record stood first in the bytes held and those taken, and the others are held now.
pub record GivesEvent (event : Event) (old new : Reader) (left now : Option (List ℕ)) : Type 0 where
  pub below : old.place < place_limit
  pub taken : List ℕ
  pub took : Took left now taken
  pub bytes : List ℕ
  pub spells : SpellsEvent event bytes
  pub cut : old.held ++ taken ≡ bytes ++ new.held
  pub place : new.place ≡ old.place + length bytes
  pub alive : new.alive ≡ true

-- no byte is held and none is left, and the reader is as it was
pub record EndsBetween (old new : Reader) (left now : Option (List ℕ)) : Type 0 where
  pub below : old.place < place_limit
  pub held : old.held ≡ []
  pub ended : IsUsedUp left
  pub same : now ≡ left
  pub reader : new ≡ old

-- What the bytes seen and those left say of the record that begins at this place. A flaw other than a cut is one however
-- the bytes go on. A read that failed was due: the bytes seen are neither a whole record nor at fault.
abbrev pub Shows : ℕ → List ℕ → Option (List ℕ) → CaptureFault → Type 0
Shows place seen left (fault.BadKind at) = (more : List ℕ) → IsFlawed place (seen ++ more) at BadKind
Shows place seen left (fault.BadReading at) = (more : List ℕ) → IsFlawed place (seen ++ more) at BadReading
Shows place seen left (fault.BadLength at) = (more : List ℕ) → IsFlawed place (seen ++ more) at BadLength
Shows place seen left (fault.Torn at) = IsUsedUp left × IsFlawed place seen at Torn
Shows place seen left (fault.TooLong at) = (at ≡ place) × (place_limit ≤ place)
Shows place seen left fault.ReadFault = (place < place_limit) × (record_flaw seen ≡ Some Torn)

-- The reader is dead and otherwise as it was, but that it holds the bytes taken too, and they show the fault.
pub record Stops (wrong : CaptureFault) (old new : Reader) (left now : Option (List ℕ)) : Type 0 where
  pub taken : List ℕ
  pub took : Took left now taken
  pub reader : new ≡ record old { alive = false; held = old.held ++ taken }
  pub shows : Shows old.place (old.held ++ taken) now wrong

-- what a call does to the reader and to the bytes that the source has left, by its answer
abbrev pub Nexts : Result (Option Event) CaptureFault → Reader → Reader → Option (List ℕ) → Option (List ℕ) → Type 0
Nexts (Ok (Some event)) old new left now = GivesEvent event old new left now
Nexts (Ok None) old new left now = EndsBetween old new left now
Nexts (Err wrong) old new left now = Stops wrong old new left now

-- a reader after an answer: a fault kills it
abbrev pub marked : Result (Option Event) CaptureFault → Reader → Reader
marked (Ok event) reader = reader
marked (Err wrong) reader = record reader { alive = false }

-- a read that failed raises the count, and no other answer does
abbrev pub FaultCounts : CaptureFault → ℕ → ℕ → Type 0
FaultCounts fault.ReadFault before now = Fails before now
FaultCounts (fault.BadKind at) before now = now ≡ before
FaultCounts (fault.BadReading at) before now = now ≡ before
FaultCounts (fault.BadLength at) before now = now ≡ before
FaultCounts (fault.Torn at) before now = now ≡ before
FaultCounts (fault.TooLong at) before now = now ≡ before

-- the count of the source's faults, by the answer of a reader
abbrev pub NextCounts : Result (Option Event) CaptureFault → ℕ → ℕ → Type 0
NextCounts (Ok event) before now = now ≡ before
NextCounts (Err wrong) before now = FaultCounts wrong before now

-- From a source that began with the bytes `left` and has `now`, the reader has read these events: what it took is their
-- records, each of which begins below the limit, and then the bytes that it holds.
pub record HasRead (events : List Event) (reader : Reader) (left now : Option (List ℕ)) : Type 0 where
  pub front : List ℕ
  pub spells : SpellsEvents events front
  pub below : BeginBelow 0 events
  pub place : reader.place ≡ length front
  pub took : Took left now (front ++ reader.held)

-- What the answer says of all the bytes, where the source tells them: they spell the events read so far, or have this first fault.
abbrev pub Finds : Result (Option Event) CaptureFault → List Event → List ℕ → Type 0
Finds (Ok (Some event)) events bytes = Unit {0}
Finds (Ok None) events bytes = SpellsEvents events bytes × (length bytes < place_limit)
Finds (Err fault.ReadFault) events bytes = Unit {0}
Finds (Err (fault.BadKind at)) events bytes = FaultAt bytes (fault.BadKind at)
Finds (Err (fault.BadReading at)) events bytes = FaultAt bytes (fault.BadReading at)
Finds (Err (fault.BadLength at)) events bytes = FaultAt bytes (fault.BadLength at)
Finds (Err (fault.Torn at)) events bytes = FaultAt bytes (fault.Torn at)
Finds (Err (fault.TooLong at)) events bytes = FaultAt bytes (fault.TooLong at)

-- the events read so far, with the one that an answer gives
abbrev pub with_answer : List Event → Result (Option Event) CaptureFault → List Event
with_answer events (Ok (Some event)) = events ++ event ∷ []
with_answer events (Ok None) = events
with_answer events (Err wrong) = events

-- the reader goes on from the events that it has read
pub record ReadsOn (answer : Result (Option Event) CaptureFault) (events : List Event) (reader : Reader) (left now : Option (List ℕ)) : Type 0 where
  pub read : HasRead (with_answer events answer) reader left now
  pub finds : IfSome left (Finds answer events)
