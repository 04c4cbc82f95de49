-- What a clock in memory will do.
use Rattle.std.specs.Prelude.{ℕ, ℤ, if◌then◌else◌, List, [], ◌∷◌, ◌++◌, length, drop, nat_lt, Option, Some, None}
use Rattle.edge_traits.specs.declared.clock.Move.{Move}
use Rattle.edge_traits.specs.declared.clock.Reading.{Reading}
use Rattle.edge_traits.specs.declared.clock.Reading.TheVariants as clock
use Rattle.edge_traits.specs.Clock.{ClockCall, Correct, Read, moves_among}
use Rattle.base_specs.specs.Counts.{next_count}
use Rattle.edge_io.specs.Calls.{is_listed}
use Rattle.edge_io.specs.declared.clock.ClockEntry.{ClockEntry}
use Rattle.edge_io.specs.declared.clock.ClockEntry.TheVariants as entry

-- the call that an entry of the list in memory stands for
abbrev pub clock_call : ClockEntry → ClockCall
clock_call (entry.Read at) = Read at
clock_call (entry.Correct made) = Correct made

-- The readings to come, the calls that the clock tells, and how many moves it can tell. Then the numbers of the calls
-- that fail, the calls made, and those of them that failed: only readings can fail, so only they are counted.
pub record ClockScript : Type 0 where
  pub coming : List ℤ
  pub told : Option (List ClockCall)
  pub room : ℕ
  pub fails : List ℕ
  pub calls : ℕ
  pub faults : ℕ

-- the first of the readings to come, and a failure behind the last
abbrev pub first_reading : List ℤ → Reading
first_reading [] = clock.Failed
first_reading (t ∷ later) = clock.At t

-- A reading that is not to fail is the next of those to come.
abbrev pub now_answer : ClockScript → Reading
now_answer s = if is_listed s.fails (next_count s.calls) then clock.Failed else first_reading s.coming

-- what is told, where it is told, with one more reading
abbrev pub with_reading : ℤ → Option (List ClockCall) → Option (List ClockCall)
with_reading t None = None
with_reading t (Some calls) = Some (calls ++ Read t ∷ [])

-- what an answer leaves
abbrev pub clock_after : Reading → ClockScript → ClockScript
clock_after (clock.At t) s = record s {
  coming = drop 1 s.coming;
  told = with_reading t s.told;
  calls = next_count s.calls;
}
clock_after clock.Failed s = record s { calls = next_count s.calls; faults = next_count s.faults }

-- what is told with one more move; where there is no room for it, nothing from then on
abbrev pub with_move : ℕ → Move → Option (List ClockCall) → Option (List ClockCall)
with_move room made None = None
with_move room made (Some calls) =
    if nat_lt (length (moves_among calls)) room then Some (calls ++ Correct made ∷ []) else None

-- what a move leaves
abbrev pub clock_moved : Move → ClockScript → ClockScript
clock_moved made s = record s { told = with_move s.room made s.told }

-- the calls that are told, and none where nothing is
abbrev pub calls_of : Option (List ClockCall) → List ClockCall
calls_of None = []
calls_of (Some calls) = calls

-- the moves that are told
abbrev pub moves_of : Option (List ClockCall) → List Move
moves_of told = moves_among (calls_of told)
