-- Which events may follow one another.
use Rattle.std.specs.Prelude.{◌+◌, ◌<◌, ◌≤◌, [], ◌∷◌, IsSome, unwrap_or}
use Rattle.capture_fmt.specs.declared.event.Event.{Event}
use Rattle.capture_fmt.specs.declared.event.Event.TheVariants.{Life, Tick, Resync, Arrive}
use Rattle.time_machine.specs.declared.conf.Conf.{Conf}
use Rattle.time_machine.specs.Events.{History}
use Rattle.time_machine.specs.Words.{Words, words}
use Rattle.time_machine.specs.Machine.{told}

-- a Life came, and its counts aren't used up
abbrev pub HasCounts : Words → Type 0
HasCounts w = IsSome w.mark × (unwrap_or w.mark 0 + w.sent < 4294967295)

-- The event may follow. A Life may where its mark is at least every count sent before. Before any other event a Life
-- came, and before one that may send, counts are left.
abbrev pub MayFollow : Conf → Words → Event → Type 0
MayFollow conf w (Life now mark) = w.greatest ≤ mark
MayFollow conf w (Tick now word) = HasCounts w
MayFollow conf w (Resync now word flags) = HasCounts w
MayFollow conf w (Arrive now from bytes) = IsSome w.mark

-- each event of the history may follow on those before it
unfoldable pub Grows : Conf → History → Type 0
Grows conf [] = Unit {0}
Grows conf (e ∷ history) = Grows conf history × MayFollow conf (words conf (told conf history)) e
