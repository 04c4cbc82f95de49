-- What a clock tells and gives, and what a reading does to the count of faults.
use Rattle.std.specs.Prelude.{◌≡◌, ℕ, ℤ, List, [], ◌∷◌, flat_map, map, Option}
use Rattle.base_specs.specs.Counts.{Fails}
use Rattle.base_specs.specs.Told.{Grew}
use Rattle.base_specs.specs.Time.{IsReading}
use Rattle.edge_traits.specs.declared.clock.Move.{Move}
use Rattle.edge_traits.specs.declared.clock.Reading.{Reading}
use Rattle.edge_traits.specs.declared.clock.Reading.TheVariants as clock

-- a call of a clock: a reading that it gave, or a correction that was made of it; a reading that failed is none
pub data ClockCall : Type 0 where
  Read : (at : ℤ) → ClockCall
  Correct : (made : Move) → ClockCall

-- the reading that a call gave, if it is one
abbrev pub readings_by : ClockCall → List ℤ
readings_by (Read at) = at ∷ []
readings_by (Correct made) = []

-- the correction that a call made, if it is one
abbrev pub corrections_by : ClockCall → List Move
corrections_by (Read at) = []
corrections_by (Correct made) = made ∷ []

-- the readings given among these calls, in their order
abbrev pub readings_among : List ClockCall → List ℤ
readings_among calls = flat_map readings_by calls

-- the corrections made among these calls, in their order
abbrev pub moves_among : List ClockCall → List Move
moves_among calls = flat_map corrections_by calls

-- these readings were given, and no correction was made
abbrev pub GaveReadings : Option (List ClockCall) → Option (List ClockCall) → List ℤ → Type 0
GaveReadings old new given = Grew old new (map Read given)

-- a moment, which is the last of the readings given, or nothing
abbrev pub Reads : Reading → Option (List ClockCall) → Option (List ClockCall) → Type 0
Reads (clock.At t) old new = IsReading t × Grew old new (Read t ∷ [])
Reads clock.Failed old new = new ≡ old

-- a failed reading raises the count, and no other does
abbrev pub ReadingCounts : Reading → ℕ → ℕ → Type 0
ReadingCounts (clock.At t) before now = now ≡ before
ReadingCounts clock.Failed before now = Fails before now
