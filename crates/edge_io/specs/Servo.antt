-- How a clock that is slewed comes to a reference.
use Rattle.std.specs.Prelude.{◌≡◌, ◌≤◌, ℕ, ◌+◌, ◌-◌, ◌*◌, ◌/◌, ℤ, pos, unsigned_abs, ◌+ℤ◌, ◌-ℤ◌, Some, FitsSigned}
use Rattle.std.specs.Int.{w64, w128}
use Rattle.edge_io.specs.Correction.{ahead_of}
use Rattle.edge_io.specs.CorrectedClock.{CorrectedClock, looking_at, moment_at, slewed_at, stepped_at}

-- The offset of a clock when the machine's clock reads this: what it lacks to a reference that is always so many ticks
-- ahead of the machine's clock.
abbrev pub offset_at : ℤ → ℕ → CorrectedClock → ℤ
offset_at lead machine c = (pos machine +ℤ lead) -ℤ moment_at machine c

-- how far the clock is from the reference, on either side
abbrev pub distance_at : ℤ → ℕ → CorrectedClock → ℕ
distance_at lead machine c = unsigned_abs (offset_at lead machine c)

-- the clock was slewed by its offset when the machine's clock read this
abbrev pub slewed_to : ℤ → ℕ → CorrectedClock → CorrectedClock
slewed_to lead machine c = slewed_at (Some machine) (offset_at lead machine c) c

-- the offset is one that a slew takes, and the corrections so far have not come to the end of their 128 bits
abbrev pub CanSlew : ℤ → ℕ → CorrectedClock → Type 0
CanSlew lead machine c =
    FitsSigned w64 (offset_at lead machine c) × FitsSigned w128 (ahead_of (looking_at machine c).correction)

-- the sums of a step by its offset have not come to the end of their 128 bits
abbrev pub CanStep : ℤ → ℕ → CorrectedClock → Type 0
CanStep lead machine c = FitsSigned w128 lead × FitsSigned w128 (ahead_of (looking_at machine c).correction)

-- From a step by its offset on, a clock is at the reference.
abbrev pub Arrives : ℤ → ℕ → CorrectedClock → Type 0
Arrives lead machine c =
    (passed : ℕ) → distance_at lead (machine + passed) (stepped_at (Some machine) (offset_at lead machine c) c) ≡ 0

-- From a slew by its offset on, a clock comes one tick nearer per 2,000 ticks of the machine's clock until it is there. So
-- it is never further off than it was, and it is there after 2,000 times its distance. Readings in between change nothing.
pub record Settles (lead : ℤ) (machine : ℕ) (c : CorrectedClock) : Type 0 where
  pub nearer : (passed : ℕ) → distance_at lead (machine + passed) (slewed_to lead machine c) ≡ distance_at lead machine c - passed / 2000
  pub never_further : (sooner later : ℕ) → sooner ≤ later
      → distance_at lead (machine + later) (slewed_to lead machine c) ≤ distance_at lead (machine + sooner) (slewed_to lead machine c)
  pub there : (passed : ℕ) → 2000 * distance_at lead machine c ≤ passed → distance_at lead (machine + passed) (slewed_to lead machine c) ≡ 0
  pub readings : (sooner later : ℕ) → sooner ≤ later
      → looking_at (machine + later) (looking_at (machine + sooner) (slewed_to lead machine c)) ≡ looking_at (machine + later) (slewed_to lead machine c)
