-- Which slot is newest, which is written next, and what a keeper remembers of them.
use Rattle.std.specs.Prelude.{◌≡◌, ◌≢◌, ◌⊎◌, ℕ, ◌+◌, ◌<◌, ◌≤◌, List, slice_index, true, false}
use Rattle.stamp_keep.specs.Image.{HasClosedGate, HasOpenGate, mark_at}
use Rattle.stamp_keep.specs.declared.keeper.Keeper.{Keeper}
use Rattle.stamp_keep.specs.declared.slot.Slot.{Slot}
use Rattle.stamp_keep.specs.declared.slot.Slot.TheVariants.{Lowest, Middle, Highest}

-- where a slot stands
abbrev pub place : Slot → ℕ
place Lowest = 0
place Middle = 64
place Highest = 128

-- it is so of all three slots
abbrev pub EachSlot : (Slot → Type 0) → Type 0
EachSlot P = P Lowest × P Middle × P Highest

-- three slots, none twice
pub record Apart (a b c : Slot) : Type 0 where
  pub first : place a ≢ place b
  pub second : place a ≢ place c
  pub third : place b ≢ place c

-- the open slot with the greatest mark, of equals the lowest
pub record IsNewest (image : List ℕ) (s : Slot) : Type 0 where
  pub is_open : HasOpenGate image (place s)
  pub most : EachSlot (λ t. HasOpenGate image (place t) → mark_at image (place t) ≤ mark_at image (place s))
  pub lowest : EachSlot (λ t. place t < place s → HasOpenGate image (place t)
      → mark_at image (place t) < mark_at image (place s))

-- the gates of all three slots are closed
abbrev pub NoneOpen : List ℕ → Type 0
NoneOpen image = EachSlot (λ t. HasClosedGate image (place t))

-- the newest slot has a version other than 1
abbrev pub HasOtherVersion : List ℕ → Type 0
HasOtherVersion image = (s : Slot) × IsNewest image s × (slice_index image (place s + 1) ≢ 1)

-- the lowest closed slot
pub record IsLowestClosed (image : List ℕ) (s : Slot) : Type 0 where
  pub is_closed : HasClosedGate image (place s)
  pub lowest : EachSlot (λ t. place t < place s → HasOpenGate image (place t))

-- where all three are open, the one with the least mark, of equals the highest
pub record IsLeast (image : List ℕ) (s : Slot) : Type 0 where
  pub all_open : EachSlot (λ t. HasOpenGate image (place t))
  pub least : EachSlot (λ t. mark_at image (place s) ≤ mark_at image (place t))
  pub highest : EachSlot (λ t. place s < place t → mark_at image (place s) < mark_at image (place t))

-- the slot that is written next
abbrev pub IsTarget : List ℕ → Slot → Type 0
IsTarget image s = IsLowestClosed image s ⊎ IsLeast image s

-- where no slot is open: the lowest slot is written first, and then the middle one
pub record BeginsLowest (k : Keeper) : Type 0 where
  pub target : k.target ≡ Lowest
  pub third : k.third ≡ Middle
  pub newest : k.newest ≡ Highest

-- An image is as the keeper remembers it, but that the target may be open. Of a slot that is closed nothing
-- else is known.
pub record Remembers (k : Keeper) (image : List ℕ) : Type 0 where
  pub apart : Apart k.newest k.target k.third
  pub newest : k.newest_open ≡ true → IsNewest image k.newest
  pub mark : k.newest_open ≡ true → mark_at image (place k.newest) ≡ k.mark
  pub none : k.newest_open ≡ false → NoneOpen image
  pub no_mark : k.newest_open ≡ false → k.mark ≡ 0
  pub third : k.third_open ≡ true → HasOpenGate image (place k.third)
  pub third_shut : k.third_open ≡ false → HasClosedGate image (place k.third)

-- the newest slot has version 1
abbrev pub IsOurs : Keeper → List ℕ → Type 0
IsOurs k image = k.newest_open ≡ true → slice_index image (place k.newest + 1) ≡ 1

-- An image is as the keeper remembers it, the newest slot has version 1, and the target is closed.
pub record Settles (k : Keeper) (image : List ℕ) : Type 0 where
  pub remembers : Remembers k image
  pub version : IsOurs k image
  pub target : HasClosedGate image (place k.target)

-- a byte of no slot
abbrev pub IsUnused : ℕ → Type 0
IsUnused at = EachSlot (λ s. (at < place s) ⊎ (place s + 8 ≤ at))

-- the bytes of no slot are the same
pub record SameUnused (old new : List ℕ) : Type 0 where
  pub same : (at : ℕ) → IsUnused at → slice_index new at ≡ slice_index old at
