-- What a read gives, and what it does to the count of faults.
use Rattle.std.specs.Prelude.{◌≡◌, ◌≤◌, ℕ, List, length, take, Option}
use Rattle.base_specs.specs.Counts.{Fails}
use Rattle.base_specs.specs.Told.{Took, IsUsedUp}
use Rattle.edge_traits.specs.declared.source.Take.{Take}
use Rattle.edge_traits.specs.declared.source.Take.TheVariants as read

-- the first of the bytes left, the end, or nothing
abbrev pub Gives : Take → List ℕ → Option (List ℕ) → Option (List ℕ) → Type 0
Gives (read.Bytes n) buf old new = (1 ≤ n) × (n ≤ length buf) × Took old new (take n buf)
Gives read.End buf old new = (new ≡ old) × IsUsedUp old
Gives read.Failed buf old new = new ≡ old

-- a failed read raises the count, and no other does
abbrev pub TakeCounts : Take → ℕ → ℕ → Type 0
TakeCounts (read.Bytes n) before now = now ≡ before
TakeCounts read.End before now = now ≡ before
TakeCounts read.Failed before now = Fails before now
