-- What a clock gave that failed before all readings were there.
use Rattle.std.specs.Prelude.{◌<◌, ℕ, ℤ, List, length, Option}
use Rattle.edge_traits.specs.Clock.{ClockCall, GaveReadings}

-- fewer readings than the limit were given, and no correction was made
pub record GaveFewer (limit : ℕ) (old new : Option (List ClockCall)) : Type 0 where
  pub given : List ℤ
  pub fewer : length given < limit
  pub readings : GaveReadings old new given
