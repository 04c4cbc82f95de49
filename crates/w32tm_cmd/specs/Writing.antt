-- Lines that are written in their order, each in one write.
use Rattle.std.specs.Prelude.{ℕ, List, Option}
use Rattle.base_specs.specs.Told.{Added}
use Rattle.edge_traits.specs.declared.sink.Put.{Put}
use Rattle.edge_traits.specs.declared.sink.Put.TheVariants as write
use Rattle.line_text.specs.Text.{joined, BreaksOff}

-- all of them were written, or the text broke off in the line whose write failed
abbrev pub WritesLines : Put → List (List ℕ) → Option (List ℕ) → Option (List ℕ) → Type 0
WritesLines write.Done lines old new = Added old new (joined lines)
WritesLines write.Failed lines old new = (text : List ℕ) × BreaksOff lines text × Added old new text
