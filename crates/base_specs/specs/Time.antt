-- Ticks of 100 ns since 1 January 1601, and the 64-bit timestamps of the wire (RFC 1305, section 3.1).
use Rattle.std.specs.Prelude.{◌≡◌, ℕ, ◌+◌, ◌*◌, ◌/◌, ◌%◌, ◌^◌, ◌<◌, ◌≤◌, ℤ, pos, ◌+ℤ◌, ◌≤ℤ◌, ◌<ℤ◌}

-- ticks in a second
abbrev pub second : ℕ
second = 10000000

-- seconds from 1 January 1601 to 1 January 1900, where the timestamps of the wire begin
abbrev pub wire_epoch : ℕ
wire_epoch = 9435484800

-- a moment that a clock may read
abbrev pub IsReading : ℤ → Type 0
IsReading t = (pos 0 ≤ℤ t) × (t ≤ℤ pos 4000000000000000000)

-- the same modulo n
abbrev pub SameModulo : ℕ → ℤ → ℤ → Type 0
SameModulo n x y = (i : ℕ) × (j : ℕ) × (x +ℤ pos (i * n) ≡ y +ℤ pos (j * n))

-- The timestamp of a moment: its seconds are congruent to the whole seconds since the wire's epoch, and
-- its fraction is the least that is not below the rest.
pub record IsStamp (ticks seconds fraction : ℕ) : Type 0 where
  pub fits : seconds < 2 ^ 32
  pub congruent : SameModulo (2 ^ 32) (pos (seconds + wire_epoch)) (pos (ticks / second))
  pub enough : ticks % second * 2 ^ 32 ≤ fraction * second
  pub least : (f : ℕ) → ticks % second * 2 ^ 32 ≤ f * second → fraction ≤ f

-- the greatest number of ticks that is not above a fraction
pub record IsPart (fraction part : ℕ) : Type 0 where
  pub within : part * 2 ^ 32 ≤ fraction * second
  pub greatest : (k : ℕ) → k * 2 ^ 32 ≤ fraction * second → k ≤ part

-- The moment that a timestamp means near another moment: within half of 2^32 seconds of it, the later end
-- left out, and congruent to what the timestamp says.
pub record IsTicksNear (seconds fraction : ℕ) (near ticks : ℤ) : Type 0 where
  pub low : near ≤ℤ (ticks +ℤ pos (2 ^ 31 * second))
  pub high : ticks <ℤ (near +ℤ pos (2 ^ 31 * second))
  pub same : (part : ℕ) × IsPart fraction part × SameModulo (2 ^ 32 * second) ticks (pos ((seconds + wire_epoch) * second + part))
