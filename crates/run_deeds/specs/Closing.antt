-- The lines behind the last event of a run.
use Rattle.std.specs.Prelude.{ℕ, List, [], ◌∷◌, ◌++◌, codes, decimal}
use Rattle.time_machine.specs.Report.{total_line}
use Rattle.run_deeds.specs.declared.life_end.LifeEnd.{LifeEnd}
use Rattle.run_deeds.specs.declared.life_end.Why.{Why}
use Rattle.run_deeds.specs.declared.life_end.Why.TheVariants.{Done}

-- the line of the link: how many receipts were quiet, and how many receives and sends failed
abbrev pub link_line : (quiet lost : ℕ) → List ℕ
link_line quiet lost = codes "link quiet=" ++ decimal quiet ++ codes " lost=" ++ decimal lost ++ 10 ∷ []

-- the closing lines
abbrev pub closing_lines : LifeEnd → List (List ℕ)
closing_lines end = total_line end.sent end.moved end.refused ∷ link_line end.quiet end.lost ∷ []

-- they are written where a run ends well
abbrev pub closing_by : Why → LifeEnd → List (List ℕ)
closing_by Done end = closing_lines end
closing_by _ end = []
