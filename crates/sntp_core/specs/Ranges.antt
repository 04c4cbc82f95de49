-- The ranges of what a member keeps and answers.
use Rattle.std.specs.Prelude.{ℤ, pos, negsuc, ◌≤ℤ◌, ◌<◌, ◌^◌, unsigned_abs}
use Rattle.time_machine.specs.declared.outcome.Outcome.{Outcome}
use Rattle.time_machine.specs.declared.outcome.Outcome.TheVariants.{Started, Idle, Sent, Moved, Refused}

-- the base lies near a reading
pub record IsBase (base : ℤ) : Type 0 where
  pub low : negsuc 99999999999999999 ≤ℤ base
  pub high : base ≤ℤ pos 4100000000000000000

-- a correction is by a small offset
abbrev pub IsSmall : Outcome → Type 0
IsSmall (Moved count offset how) = unsigned_abs offset < 10 ^ 17
IsSmall (Started mark) = Unit {0}
IsSmall Idle = Unit {0}
IsSmall (Sent to count bytes) = Unit {0}
IsSmall (Refused reason) = Unit {0}
