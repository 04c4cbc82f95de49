-- How a reader gathers the bytes of the next record.
use Rattle.std.specs.Prelude.{◌≡◌, ℕ, ◌<◌, ◌≤◌, List, [], ◌++◌, length, Option, Some}
use Rattle.base_specs.specs.Counts.{Fails}
use Rattle.base_specs.specs.Told.{Took, IsUsedUp}
use Rattle.edge_traits.specs.declared.source.Take.{Take}
use Rattle.edge_traits.specs.declared.source.Take.TheVariants as read
use Rattle.capture_fmt.specs.declared.event.Event.{Event}
use Rattle.capture_fmt.specs.declared.fault.Flaw.TheVariants.{BadKind, BadReading, BadLength, Torn}
use Rattle.capture_fmt.specs.declared.gather.Gathered.{Gathered}
use Rattle.capture_fmt.specs.declared.gather.Gathered.TheVariants as gathered
use Rattle.capture_fmt.specs.Event.{EventFits}
use Rattle.capture_fmt.specs.Record.{event_bytes, record_flaw}

-- bytes were taken from the source, and are held behind those held before
pub record Gains (old new : List ℕ) (left now : Option (List ℕ)) : Type 0 where
  pub taken : List ℕ
  pub took : Took left now taken
  pub held : new ≡ old ++ taken

-- what a read into the buffer does to the bytes held, by its answer
abbrev pub Fills : Take → List ℕ → List ℕ → Option (List ℕ) → Option (List ℕ) → Type 0
Fills (read.Bytes n) old new left now = (length old < length new) × Gains old new left now
Fills read.End old new left now = (new ≡ old) × (now ≡ left) × IsUsedUp left
Fills read.Failed old new left now = (new ≡ old) × (now ≡ left)

-- the record of an event stands first in these bytes, and has so many of them
pub record HoldsEvent (event : Event) (len : ℕ) (held : List ℕ) : Type 0 where
  pub rest : List ℕ
  pub fits : EventFits event
  pub written : held ≡ event_bytes event ++ rest
  pub len_is : len ≡ length (event_bytes event)
  pub short : len ≤ 4096

-- What the bytes held show of the record that begins with them. Where a read failed they are neither a whole record nor at fault.
abbrev pub Sees : Gathered → List ℕ → Option (List ℕ) → Type 0
Sees (gathered.Event event len) held now = HoldsEvent event len held
Sees gathered.End held now = IsUsedUp now × (held ≡ [])
Sees (gathered.Flawed BadKind) held now = record_flaw held ≡ Some BadKind
Sees (gathered.Flawed BadReading) held now = record_flaw held ≡ Some BadReading
Sees (gathered.Flawed BadLength) held now = record_flaw held ≡ Some BadLength
Sees (gathered.Flawed Torn) held now = IsUsedUp now × (0 < length held) × (record_flaw held ≡ Some Torn)
Sees gathered.Failed held now = record_flaw held ≡ Some Torn

-- a read that failed raises the count, and nothing else does
abbrev pub GatherCounts : Gathered → ℕ → ℕ → Type 0
GatherCounts (gathered.Event event len) before now = now ≡ before
GatherCounts gathered.End before now = now ≡ before
GatherCounts (gathered.Flawed flaw) before now = now ≡ before
GatherCounts gathered.Failed before now = Fails before now
