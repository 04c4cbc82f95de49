-- What a load and a reserve do: the content behind them, byte by byte, and the number of their calls.
use Rattle.std.specs.Prelude.{◌≡◌, ◌≢◌, ◌⊎◌, ℕ, ◌+◌, ◌^◌, ◌<◌, ◌≤◌, true, if◌then◌else◌, ⊤}
use Rattle.std.specs.Prelude.{List, [], ◌∷◌, length, slice_index, Option, Some, None, IfSome}
use Rattle.slot_disk.specs.Told.{DiskTold}
use Rattle.slot_disk.specs.Calls.{Holds}
use Rattle.stamp_keep.specs.Image.{HasClosedGate, HasOpenGate}
use Rattle.stamp_keep.specs.Slots.{IsTarget, place}
use Rattle.stamp_keep.specs.Steps.{body}
use Rattle.stamp_keep.specs.declared.keeper.Keeper.{Keeper}
use Rattle.stamp_keep.specs.declared.slot.Slot.{Slot}

-- a gate is closed where it was open, and nothing else is written
pub record IsShut (s : Slot) (old new : List ℕ) : Type 0 where
  pub closed : HasOpenGate old (place s) → Holds (place s) (0 ∷ []) old new
  pub left : HasClosedGate old (place s) → new ≡ old

-- the same where the content is told: both before and after, or never
abbrev pub ShutContent : Slot → Option (List ℕ) → Option (List ℕ) → Type 0
ShutContent s None None = ⊤
ShutContent s (Some old) None = ⊥
ShutContent s None (Some new) = ⊥
ShutContent s (Some old) (Some new) = IsShut s old new

-- The keeper writes next to the slot that the image says, and its gate is closed where it was open.
pub record IsLoaded (k : Keeper) (old new : List ℕ) : Type 0 where
  pub target : IsTarget old k.target
  pub shut : IsShut k.target old new

-- the same where the content is told
abbrev pub LoadedContent : Keeper → Option (List ℕ) → Option (List ℕ) → Type 0
LoadedContent k None None = ⊤
LoadedContent k (Some old) None = ⊥
LoadedContent k None (Some new) = ⊥
LoadedContent k (Some old) (Some new) = IsLoaded k old new

-- The target is open and holds version 1, two zeros and the mark, the third slot is closed where it was open, and every
-- other byte is as before.
pub record IsReserved (k : Keeper) (mark : ℕ) (old new : List ℕ) : Type 0 where
  pub size : length new ≡ length old
  pub gate : slice_index new (place k.target) ≡ 165
  pub behind : (i : ℕ) → i < 7 → slice_index new (place k.target + 1 + i) ≡ slice_index (body mark) i
  pub shut : k.third_open ≡ true → slice_index new (place k.third) ≡ 0
  pub rest : (at : ℕ) → (at < place k.target) ⊎ (place k.target + 8 ≤ at)
      → (k.third_open ≡ true → at ≢ place k.third) → slice_index new at ≡ slice_index old at

-- the same where the content is told
abbrev pub ReservedContent : Keeper → ℕ → Option (List ℕ) → Option (List ℕ) → Type 0
ReservedContent k mark None None = ⊤
ReservedContent k mark (Some old) None = ⊥
ReservedContent k mark None (Some new) = ⊥
ReservedContent k mark (Some old) (Some new) = IsReserved k mark old new

-- ---- Calls

-- So many calls were made. Where the count of calls has no room for them, nothing is said.
abbrev pub MadeCalls : ℕ → DiskTold → DiskTold → Type 0
MadeCalls n old new = old.time + n < 2 ^ 64 → new.time ≡ old.time + n

-- calls that turning the gates takes: a write for each, and a sync
abbrev pub gate_calls : Option ℕ → ℕ
gate_calls None = 2
gate_calls (Some at) = 3

-- calls of a reserve: two writes and two syncs, and a write for a third slot that is open
abbrev pub reserve_calls : Keeper → ℕ
reserve_calls k = if k.third_open then 5 else 4

-- a gate that is closed takes no call, and one that is open a write and a sync
pub record ShutIn (s : Slot) (image : List ℕ) (old new : DiskTold) : Type 0 where
  pub left : HasClosedGate image (place s) → MadeCalls 0 old new
  pub closed : HasOpenGate image (place s) → MadeCalls 2 old new

-- a load makes two calls, and two more where it closes a gate
pub record LoadedIn (k : Keeper) (old new : DiskTold) : Type 0 where
  pub left : IfSome old.content (λ c. HasClosedGate c (place k.target) → MadeCalls 2 old new)
  pub closed : IfSome old.content (λ c. HasOpenGate c (place k.target) → MadeCalls 4 old new)
