-- What is counted of a run.
use Rattle.std.specs.Prelude.{ℕ, ◌+◌, ◌-◌, ◌^◌, ◌==◌, if◌then◌else◌, min, length}
use Rattle.capture_fmt.specs.declared.event.Event.{Event}
use Rattle.time_machine.specs.declared.outcome.Outcome.{Outcome}
use Rattle.time_machine.specs.Machine.{posted_by, moves_by}
use Rattle.run_deeds.specs.declared.life_end.LifeEnd.{LifeEnd}
use Rattle.run_deeds.specs.declared.life_end.Why.{Why}
use Rattle.run_deeds.specs.Deeds.{reasons_by}
use Rattle.run_deeds.specs.Weaving.{ticks_by}

-- so many more, as far as 32 bits go
abbrev pub more : ℕ → ℕ → ℕ
more count times = if times == 0 then count else min (count + times) (2 ^ 32 - 1)

-- nothing was counted
abbrev pub ended : Why → LifeEnd
ended why = record { sent = 0; moved = 0; refused = 0; quiet = 0; lost = 0; turns = 0; why = why }

-- what an event led to
abbrev pub with_outcome : Outcome → LifeEnd → LifeEnd
with_outcome outcome end = record end {
  sent = more end.sent (length (posted_by outcome));
  moved = more end.moved (length (moves_by outcome));
  refused = more end.refused (length (reasons_by outcome));
}

-- one more event, and what it led to
abbrev pub counted : Event → Outcome → LifeEnd → LifeEnd
counted event outcome end = with_outcome outcome (record end { turns = more end.turns (length (ticks_by event)) })

-- one more quiet receipt
abbrev pub with_quiet : LifeEnd → LifeEnd
with_quiet end = record end { quiet = more end.quiet 1 }

-- one more failed receive or send
abbrev pub with_lost : LifeEnd → LifeEnd
with_lost end = record end { lost = more end.lost 1 }

-- the same numbers, and why the run ended
abbrev pub with_why : Why → LifeEnd → LifeEnd
with_why why end = record end { why = why }
