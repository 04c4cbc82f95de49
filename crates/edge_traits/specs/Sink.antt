-- What a write adds, and what it does to the count of faults.
use Rattle.std.specs.Prelude.{◌≡◌, ◌≤◌, ℕ, List, length, take, Option}
use Rattle.base_specs.specs.Counts.{Fails}
use Rattle.base_specs.specs.Told.{Added}
use Rattle.edge_traits.specs.declared.sink.Put.{Put}
use Rattle.edge_traits.specs.declared.sink.Put.TheVariants as write

-- the whole piece, or some front of it where the write failed
abbrev pub Writes : Put → List ℕ → Option (List ℕ) → Option (List ℕ) → Type 0
Writes write.Done piece old new = Added old new piece
Writes write.Failed piece old new = (n : ℕ) × (n ≤ length piece) × Added old new (take n piece)

-- a failed call raises the count, and no other does
abbrev pub PutCounts : Put → ℕ → ℕ → Type 0
PutCounts write.Done before now = now ≡ before
PutCounts write.Failed before now = Fails before now
