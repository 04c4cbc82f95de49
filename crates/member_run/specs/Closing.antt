-- The closing lines are printed.
use Rattle.std.specs.Prelude.{◌≡◌, ℕ, List, ◌∷◌, ◌++◌, take, Option}
use Rattle.base_specs.specs.Counts.{Fails}
use Rattle.base_specs.specs.Told.{Added}
use Rattle.line_text.specs.Text.{joined}
use Rattle.run_deeds.specs.declared.life_end.LifeEnd.{LifeEnd}
use Rattle.run_deeds.specs.declared.life_end.Why.{Why}
use Rattle.run_deeds.specs.declared.life_end.Why.TheVariants.{Done, DiskFault, BadVersion, StampsSpent, ClockFault, EntropyFault, SinkFault}
use Rattle.run_deeds.specs.Closing.{closing_lines}

-- all lines, or those before the one whose write failed and a front of that one
abbrev pub Closes : LifeEnd → Why → Option (List ℕ) → Option (List ℕ) → ℕ → ℕ → Type 0
Closes end Done old new before now = Added old new (joined (closing_lines end)) × (now ≡ before)
Closes end SinkFault old new before now =
    (first rest : List (List ℕ)) × (line : List ℕ) × (front : ℕ) × (closing_lines end ≡ first ++ line ∷ rest)
    × Added old new (joined first ++ take front line) × Fails before now
Closes end DiskFault old new before now = ⊥
Closes end BadVersion old new before now = ⊥
Closes end StampsSpent old new before now = ⊥
Closes end ClockFault old new before now = ⊥
Closes end EntropyFault old new before now = ⊥
