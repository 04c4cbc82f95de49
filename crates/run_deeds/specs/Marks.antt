-- The counts that a run reserves, and what its disk stands for.
use Rattle.std.specs.Prelude.{◌≡◌, ℕ, ◌+◌, ◌*◌, ◌/◌, ◌%◌, ◌≤◌, ◌<◌, Bool, true, false, if◌then◌else◌, List, [], ◌∷◌, unwrap_or}
use Rattle.std.specs.List.{AllByRecursion}
use Rattle.capture_fmt.specs.declared.event.Event.{Event}
use Rattle.capture_fmt.specs.declared.event.Event.TheVariants.{Life, Tick, Resync, Arrive}
use Rattle.slot_disk.specs.Calls.{LeavesAtLast}
use Rattle.slot_disk.specs.Told.{DiskTold}
use Rattle.stamp_keep.specs.Image.{mark_of_image}
use Rattle.stamp_keep.specs.Keep.{KeepsMarks, RefusedAsBefore}
use Rattle.time_machine.specs.Entries.{after_last, count_of, last_of}
use Rattle.time_machine.specs.Events.{mark_of}
use Rattle.time_machine.specs.Told.{Told, has_sent}
use Rattle.time_machine.specs.Words.{Words, all_sent, life_at}

-- ---- When counts are reserved

-- a Tick or a Resync, for which a count has to be there
abbrev pub asks : Event → Bool
asks (Life now mark) = false
asks (Tick now word) = true
asks (Resync now word flags) = true
asks (Arrive now from bytes) = false

-- How many blocks of 64 counts were reserved in a life, whose entries these are, the last one first: before its last
-- Tick or Resync one more than the whole blocks that were sent before it, and none where no Tick or Resync came.
abbrev pub blocks_of : List Told → ℕ
blocks_of [] = 0
blocks_of (t ∷ before) = if asks t.event then 1 + count_of has_sent before / 64 else blocks_of before

-- A block is due at the next Tick or Resync of a life: its requests are a multiple of 64, and no Tick and no Resync came
-- after the last of them.
pub record IsDue (life : List Told) : Type 0 where
  pub full : count_of has_sent life % 64 ≡ 0
  pub last : count_of (λ t. asks t.event) (after_last has_sent life) ≡ 0

-- The keeper's mark is so many blocks above the mark of the last Life. The requests of that life fit into these, and only
-- the last one may have room left.
pub record Reserved (kept : ℕ) (before : List Told) : Type 0 where
  pub blocks : kept ≡ unwrap_or (last_of (λ t. mark_of t.event) before) 0 + 64 * blocks_of (life_at before)
  pub within : count_of has_sent (life_at before) ≤ 64 * blocks_of (life_at before)
  pub needed : 64 * blocks_of (life_at before) ≤ count_of has_sent (life_at before) + 64

-- ---- What the disk stands for

-- each image stands for at least this count
pub record Covers (disk : DiskTold) (count : ℕ) : Type 0 where
  pub each : (image : List ℕ) → disk.may_leave image → count ≤ mark_of_image image

-- Each count that was sent is above the mark at entry, and no image stands for less. No image stands for less than the
-- least one at entry.
pub record MarksBeforeSends (entry now : DiskTold) (mark : ℕ) (before : List Told) : Type 0 where
  pub above : AllByRecursion (λ r. mark < r.count) (all_sent before)
  pub covered : (image : List ℕ) → now.may_leave image → AllByRecursion (λ r. r.count ≤ mark_of_image image) (all_sent before)
  pub least : KeepsMarks entry now

-- it stands for no less than some image at entry
abbrev pub StandsNoLess : DiskTold → List ℕ → Type 0
StandsNoLess entry image = (was : List ℕ) × entry.may_leave was × (mark_of_image was ≤ mark_of_image image)

-- what a crash leaves just before the last call of the disk, or since then, stands for at least this count, and for no
-- less than some image at entry
abbrev pub StopCovers : DiskTold → DiskTold → ℕ → Type 0
StopCovers entry exit count = LeavesAtLast exit (λ image. (count ≤ mark_of_image image) × StandsNoLess entry image)

-- the same of each count that was sent
abbrev pub StopCoversSends : DiskTold → DiskTold → List Told → Type 0
StopCoversSends entry exit before =
    LeavesAtLast exit (λ image. AllByRecursion (λ r. r.count ≤ mark_of_image image) (all_sent before) × StandsNoLess entry image)

-- where a load refuses an image, it refuses one before
pub record KeepsLoadable (old new : DiskTold) : Type 0 where
  pub each : (image : List ℕ) → new.may_leave image → RefusedAsBefore old image

-- the last count of a life: its mark, and one for each request that was sent
abbrev pub last_count : Words → ℕ
last_count w = unwrap_or w.mark 0 + w.sent
