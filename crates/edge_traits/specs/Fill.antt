-- What stands in a buffer that was filled from a source.
use Rattle.std.specs.Prelude.{◌≡◌, ◌<◌, ◌≤◌, ℕ, List, length, take, Option}
use Rattle.base_specs.specs.Counts.{Fails}
use Rattle.base_specs.specs.Told.{Took, IsUsedUp}
use Rattle.edge_traits.specs.declared.fill.Filled.{Filled}
use Rattle.edge_traits.specs.declared.fill.Filled.TheVariants as filled

-- The first bytes of those left: as many as there is room for, or all of them. A read that fails was due: there was room still.
abbrev pub Fills : Filled → List ℕ → Option (List ℕ) → Option (List ℕ) → Type 0
Fills (filled.Bytes n) buf old new = (n ≤ length buf) × Took old new (take n buf) × (n < length buf → IsUsedUp new)
Fills filled.Failed buf old new = (xs : List ℕ) × (length xs < length buf) × Took old new xs

-- the count of the source's faults, by how the buffer was filled
abbrev pub FillCounts : Filled → ℕ → ℕ → Type 0
FillCounts (filled.Bytes n) before now = now ≡ before
FillCounts filled.Failed before now = Fails before now
