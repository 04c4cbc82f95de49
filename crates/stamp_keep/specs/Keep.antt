-- What a keeper knows of a disk, and what its calls leave there.
use Rattle.std.specs.Prelude.{◌≡◌, ◌⊎◌, ℕ, ◌+◌, ◌-◌, ◌^◌, ◌≤◌, ◌<◌, List, IfSome, Result, Ok, Err}
use Rattle.base_specs.specs.Counts.{Fails}
use Rattle.slot_disk.specs.Told.{DiskTold}
use Rattle.slot_disk.specs.Calls.{NoOther}
use Rattle.stamp_keep.specs.Image.{mark_of_image}
use Rattle.stamp_keep.specs.Slots.{HasOtherVersion, SameUnused, Settles}
use Rattle.stamp_keep.specs.declared.keeper.Keeper.{Keeper}
use Rattle.stamp_keep.specs.declared.keeper.KeepFault.{KeepFault}
use Rattle.stamp_keep.specs.declared.keeper.KeepFault.TheVariants as keep

-- the mark up to which counts are reserved
abbrev pub kept_mark : Keeper → ℕ
kept_mark k = k.mark

-- a load doesn't refuse it
abbrev pub IsLoadable : List ℕ → Type 0
IsLoadable image = HasOtherVersion image → ⊥

-- Each image is as the keeper remembers it, stands for its mark, and can be loaded. So does and can the content.
pub record Fits (disk : DiskTold) (k : Keeper) : Type 0 where
  pub settled : (image : List ℕ) → disk.may_leave image → Settles k image
  pub stands : (image : List ℕ) → disk.may_leave image → mark_of_image image ≡ kept_mark k
  pub loads : (image : List ℕ) → disk.may_leave image → IsLoadable image
  pub content : IfSome disk.content (λ c. mark_of_image c ≡ kept_mark k)
  pub content_loads : IfSome disk.content IsLoadable

-- it stands for a mark that an image of the disk stood for
pub record StandsAsBefore (disk : DiskTold) (image : List ℕ) : Type 0 where
  pub from : List ℕ
  pub was : disk.may_leave from
  pub same : mark_of_image image ≡ mark_of_image from

-- where a load refuses it, it refuses an image of the disk
pub record RefusedAsBefore (disk : DiskTold) (image : List ℕ) : Type 0 where
  pub from : HasOtherVersion image → (was : List ℕ) × disk.may_leave was × HasOtherVersion was

-- it has the unused bytes of an image of the disk
pub record KeepsUnused (disk : DiskTold) (image : List ℕ) : Type 0 where
  pub from : List ℕ
  pub was : disk.may_leave from
  pub same : SameUnused from image

-- it stands for the mark that the content stands for
pub record StandsAsRead (disk : DiskTold) (image : List ℕ) : Type 0 where
  pub same : IfSome disk.content (λ c. mark_of_image image ≡ mark_of_image c)

-- it stands for one of two marks
abbrev pub StandsForEither : ℕ → ℕ → List ℕ → Type 0
StandsForEither old new image = (mark_of_image image ≡ old) ⊎ (mark_of_image image ≡ new)

-- Where a second call was made, a crash at any moment from the end of the first on leaves an image that has P. Where
-- the count of calls has no room for two, nothing is said.
pub record LeavesFromFirst (old new : DiskTold) (P : List ℕ → Type 0) : Type 0 where
  pub each : old.time < 2 ^ 64 - 2 → old.time + 2 ≤ new.time
      → (c : List ℕ) → new.left_since (old.time + 1) c → P c

-- each image stands for no less than some image before
pub record KeepsMarks (old new : DiskTold) : Type 0 where
  pub least : (image : List ℕ) → new.may_leave image
      → (was : List ℕ) × old.may_leave was × (mark_of_image was ≤ mark_of_image image)

-- nothing was written: the content is the same, no image is new, and at most two calls were made
pub record IsLeft (old new : DiskTold) : Type 0 where
  pub content : new.content ≡ old.content
  pub no_other : NoOther old new
  pub calls : new.time ≤ old.time + 2

-- a fault of the disk is one call that failed, and with every other answer no call failed
abbrev pub KeepCounts : {A : Type 0} → Result A KeepFault → ℕ → ℕ → Type 0
KeepCounts (Ok x) before now = now ≡ before
KeepCounts (Err keep.DiskFault) before now = Fails before now
KeepCounts (Err keep.BadVersion) before now = now ≡ before
KeepCounts (Err keep.StampsSpent) before now = now ≡ before
