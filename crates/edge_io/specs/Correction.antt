-- How a clock differs from the machine's.
use Rattle.std.specs.Prelude.{ℕ, ◌+◌, ◌-◌, ◌/◌, ◌^◌, min, ℤ, pos, negsuc, neg_ℤ, ◌+ℤ◌, Option, Some, None}
use Rattle.std.specs.Int.{w128, saturate_signed}

-- What was moved of a clock by steps and by earlier slews; the last slew; the ticks of the machine's clock that passed
-- since; and what that clock read when it was last looked at.
pub record Correction : Type 0 where
  pub moved : ℤ
  pub slew : ℤ
  pub passed : ℕ
  pub seen : Option ℕ

-- What is worked off of a slew after so many ticks of the machine's clock: one tick in 2,000, and no more than all of it.
abbrev pub worked_off : ℤ → ℕ → ℤ
worked_off (pos amount) passed = pos (min amount (passed / 2000))
worked_off (negsuc less) passed = neg_ℤ (pos (min (less + 1) (passed / 2000)))

-- by how many ticks the clock is ahead of the machine's
abbrev pub ahead_of : Correction → ℤ
ahead_of c = c.moved +ℤ worked_off c.slew c.passed

-- how far the machine's clock went on since it was looked at: not at all, where it went backwards
abbrev pub ticks_since : Option ℕ → ℕ → ℕ
ticks_since None machine = 0
ticks_since (Some seen) machine = machine - seen

-- the machine's clock was looked at, and read this
abbrev pub looked_at : ℕ → Correction → Correction
looked_at machine c = record c { passed = min (c.passed + ticks_since c.seen machine) (2 ^ 128 - 1); seen = Some machine }

-- A slew of so many ticks takes the place of what is left of the one before. What was worked off stays.
abbrev pub slewed_by : ℤ → Correction → Correction
slewed_by amount c = record c { moved = saturate_signed w128 (ahead_of c); slew = amount; passed = 0 }

-- A step of so many ticks leaves nothing of a slew. What was worked off stays.
abbrev pub stepped_by : ℤ → Correction → Correction
stepped_by amount c = record (slewed_by (pos 0) c) { moved = saturate_signed w128 (saturate_signed w128 (ahead_of c) +ℤ amount) }
