-- A capture: the records of a history, joined.
use Rattle.std.specs.Prelude.{◌≡◌, ℕ, ◌+◌, ◌^◌, ◌<◌, ◌≤◌, List, [], ◌∷◌, ◌++◌, length, Option, Some, None, Result, Ok, Err, ⊤}
use Rattle.std.specs.List.{AllByRecursion, flat_map}
use Rattle.capture_fmt.specs.declared.event.Event.{Event}
use Rattle.capture_fmt.specs.declared.fault.CaptureFault.{CaptureFault}
use Rattle.capture_fmt.specs.declared.fault.CaptureFault.TheVariants as fault
use Rattle.capture_fmt.specs.declared.fault.Flaw.{Flaw}
use Rattle.capture_fmt.specs.declared.fault.Flaw.TheVariants.{BadKind, BadReading, BadLength, Torn}
use Rattle.capture_fmt.specs.Event.{EventFits}
use Rattle.capture_fmt.specs.Record.{event_bytes, record_flaw}

-- these bytes are the records of the events, joined
pub record SpellsEvents (events : List Event) (bytes : List ℕ) : Type 0 where
  pub fits : AllByRecursion EventFits events
  pub written : bytes ≡ flat_map event_bytes events

-- the place at and past which no record may begin
abbrev pub place_limit : ℕ
place_limit = 2 ^ 40

-- the records of the events, the first of which begins at this place, each begin below the limit
abbrev pub BeginBelow : ℕ → List Event → Type 0
BeginBelow place [] = ⊤
BeginBelow place (event ∷ events) = (place < place_limit) × BeginBelow (place + length (event_bytes event)) events

-- the fault of a flaw in the record that begins at a place
abbrev pub fault_of : Flaw → ℕ → CaptureFault
fault_of BadKind at = fault.BadKind at
fault_of BadReading at = fault.BadReading at
fault_of BadLength at = fault.BadLength at
fault_of Torn at = fault.Torn at

-- A record begins at this place with the first of these bytes, and is wrong so.
pub record IsFlawed (place : ℕ) (bytes : List ℕ) (at : ℕ) (wrong : Flaw) : Type 0 where
  pub there : at ≡ place
  pub below : place < place_limit
  pub begun : 0 < length bytes
  pub flaw : record_flaw bytes ≡ Some wrong

-- The record that begins at this place with the first of these bytes has this fault. One past the limit has it though no byte is there.
abbrev pub IsFault : ℕ → List ℕ → CaptureFault → Type 0
IsFault place bytes (fault.BadKind at) = IsFlawed place bytes at BadKind
IsFault place bytes (fault.BadReading at) = IsFlawed place bytes at BadReading
IsFault place bytes (fault.BadLength at) = IsFlawed place bytes at BadLength
IsFault place bytes (fault.Torn at) = IsFlawed place bytes at Torn
IsFault place bytes (fault.TooLong at) = (at ≡ place) × (place_limit ≤ place)
IsFault place bytes fault.ReadFault = ⊥

-- the first record outside the grammar, with its place and what is wrong with it
pub record FaultAt (bytes : List ℕ) (wrong : CaptureFault) : Type 0 where
  pub events : List Event
  pub front : List ℕ
  pub rest : List ℕ
  pub cut : bytes ≡ front ++ rest
  pub before : SpellsEvents events front
  pub below : BeginBelow 0 events
  pub here : IsFault (length front) rest wrong

-- What stands next in the bytes from a place on: an event, the end, or a fault.
abbrev pub StandsNext : ℕ → List ℕ → Result (Option Event) CaptureFault → Type 0
StandsNext place bytes (Ok (Some event)) = (rest : List ℕ) × (place < place_limit) × EventFits event × (bytes ≡ event_bytes event ++ rest)
StandsNext place bytes (Ok None) = (place < place_limit) × (bytes ≡ [])
StandsNext place bytes (Err wrong) = IsFault place bytes wrong
