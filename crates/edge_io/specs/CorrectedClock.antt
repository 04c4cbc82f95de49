-- What a clock over the machine's clock gives.
use Rattle.std.specs.Prelude.{◌≡◌, ℕ, ℤ, pos, ◌+ℤ◌, Option, Some, None}
use Rattle.base_specs.specs.Time.{IsReading}
use Rattle.edge_traits.specs.declared.clock.Reading.{Reading}
use Rattle.edge_traits.specs.declared.clock.Reading.TheVariants as clock
use Rattle.base_specs.specs.Counts.{next_count}
use Rattle.edge_io.specs.Correction.{Correction, ahead_of, looked_at, slewed_by, stepped_by}

-- its corrections, and how many of its readings failed
pub record CorrectedClock : Type 0 where
  pub correction : Correction
  pub faults : ℕ

-- the machine's clock was looked at, and read this
abbrev pub looking_at : ℕ → CorrectedClock → CorrectedClock
looking_at machine c = record c { correction = looked_at machine c.correction }

-- one more reading failed
abbrev pub with_fault : CorrectedClock → CorrectedClock
with_fault c = record c { faults = next_count c.faults }

-- a step of so many ticks
abbrev pub with_step : ℤ → CorrectedClock → CorrectedClock
with_step amount c = record c { correction = stepped_by amount c.correction }

-- a slew of so many ticks
abbrev pub with_slew : ℤ → CorrectedClock → CorrectedClock
with_slew amount c = record c { correction = slewed_by amount c.correction }

-- the moment that the clock means where the machine's clock reads this
abbrev pub moment_at : ℕ → CorrectedClock → ℤ
moment_at machine c = pos machine +ℤ ahead_of (looking_at machine c).correction

-- A reading is the machine's with the corrections, where that sum is a reading. It fails where it is none, and where
-- the machine's clock can't be had.
abbrev pub ReadsAt : Option ℕ → Reading → CorrectedClock → CorrectedClock → Type 0
ReadsAt (Some machine) (clock.At t) old new = (t ≡ moment_at machine old) × (new ≡ looking_at machine old)
ReadsAt (Some machine) clock.Failed old new =
    (IsReading (moment_at machine old) → ⊥) × (new ≡ with_fault (looking_at machine old))
ReadsAt None (clock.At t) old new = ⊥
ReadsAt None clock.Failed old new = new ≡ with_fault old

-- A step drops what is left of a slew when the machine's clock reads this; where that can't be had, what was left when
-- it was last looked at.
abbrev pub stepped_at : Option ℕ → ℤ → CorrectedClock → CorrectedClock
stepped_at (Some machine) amount c = with_step amount (looking_at machine c)
stepped_at None amount c = with_step amount c

-- A slew begins at what the machine's clock reads; where that can't be had, it begins where it was last looked at.
abbrev pub slewed_at : Option ℕ → ℤ → CorrectedClock → CorrectedClock
slewed_at (Some machine) amount c = with_slew amount (looking_at machine c)
slewed_at None amount c = with_slew amount c
