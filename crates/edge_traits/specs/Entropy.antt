-- What a draw gives, and what it does to the count of faults.
use Rattle.std.specs.Prelude.{◌≡◌, ◌<◌, ◌^◌, ℕ, List, [], ◌∷◌, Option}
use Rattle.base_specs.specs.Counts.{Fails}
use Rattle.base_specs.specs.Told.{Added}
use Rattle.edge_traits.specs.declared.entropy.Drawn.{Drawn}
use Rattle.edge_traits.specs.declared.entropy.Drawn.TheVariants as drawn

-- a word of 32 bits, which is the last of those given, or nothing
abbrev pub Draws : Drawn → Option (List ℕ) → Option (List ℕ) → Type 0
Draws (drawn.Word word) old new = (word < 2 ^ 32) × Added old new (word ∷ [])
Draws drawn.Failed old new = new ≡ old

-- a failed draw raises the count, and no other does
abbrev pub DrawnCounts : Drawn → ℕ → ℕ → Type 0
DrawnCounts (drawn.Word word) before now = now ≡ before
DrawnCounts drawn.Failed before now = Fails before now
