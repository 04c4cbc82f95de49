-- What the steps of a load and a reserve leave.
use Rattle.std.specs.Prelude.{◌≡◌, ◌≢◌, ℕ, ◌+◌, ◌-◌, ◌^◌, ◌<◌, if◌then◌else◌, true, ⊤}
use Rattle.std.specs.Prelude.{List, ◌∷◌, slice_index, length, Option, Some, None, IfSome}
use Rattle.byteorder.specs.Endian.{big_bytes}
use Rattle.slot_disk.specs.Told.{DiskTold}
use Rattle.slot_disk.specs.Calls.{LeavesOnly, NoOther, SameOutside}
use Rattle.stamp_keep.specs.Image.{mark_at, mark_of_image}
use Rattle.stamp_keep.specs.Keep.{IsLoadable, StandsForEither}
use Rattle.stamp_keep.specs.Slots.{place, HasOtherVersion, SameUnused, Settles}
use Rattle.stamp_keep.specs.declared.keeper.Keeper.{Keeper}

-- an image of the disk, but for the n bytes from at on
pub record IsTornFrom (disk : DiskTold) (at n : ℕ) (image : List ℕ) : Type 0 where
  pub from : List ℕ
  pub was : disk.may_leave from
  pub same : SameOutside at n from image

-- a crash at any moment leaves an image before, but for a range as long as the piece
pub record LeavesTorn (at : ℕ) (piece : List ℕ) (old new : DiskTold) : Type 0 where
  pub run : LeavesOnly old new (IsTornFrom old at (length piece))

-- this is the one image that a crash may leave
pub record IsOnlyImage (image : List ℕ) (disk : DiskTold) : Type 0 where
  pub only : (c : List ℕ) → disk.may_leave c → c ≡ image

-- it is the content
pub record IsContent (disk : DiskTold) (image : List ℕ) : Type 0 where
  pub same : IfSome disk.content (λ c. image ≡ c)

-- the disk was synced and read: this is its one image, which is one of those before, and its content
pub record HasRead (image : List ℕ) (old new : DiskTold) : Type 0 where
  pub calls : old.time < 2 ^ 64 - 2 → new.time ≡ old.time + 2
  pub one : IsOnlyImage image new
  pub no_other : NoOther old new
  pub content : new.content ≡ old.content
  pub bytes : IfSome old.content (λ c. image ≡ c)

-- the same bytes but at one gate, and at another if there is one
pub record SameBut (gate : ℕ) (other : Option ℕ) (old new : List ℕ) : Type 0 where
  pub size : length new ≡ length old
  pub rest : (k : ℕ) → k ≢ gate → other ≢ Some k → slice_index new k ≡ slice_index old k

-- an image of the disk, but for these gates
pub record HasTurned (disk : DiskTold) (gate : ℕ) (other : Option ℕ) (image : List ℕ) : Type 0 where
  pub from : List ℕ
  pub was : disk.may_leave from
  pub same : SameBut gate other from image

-- the one gate is open, the other closed, and the rest as before
pub record Turns (gate : ℕ) (other : Option ℕ) (old new : List ℕ) : Type 0 where
  pub same : SameBut gate other old new
  pub opened : other ≢ Some gate → slice_index new gate ≡ 165
  pub shut : (k : ℕ) → other ≡ Some k → slice_index new k ≡ 0

-- what turning the gates makes of the content
abbrev pub TurnedContent : ℕ → Option ℕ → Option (List ℕ) → Option (List ℕ) → Type 0
TurnedContent gate other (Some old) (Some new) = Turns gate other old new
TurnedContent gate other None None = ⊤
TurnedContent gate other (Some old) None = ⊥
TurnedContent gate other None (Some new) = ⊥

-- what stands behind a gate: the version, two zeros and the mark
abbrev pub body : ℕ → List ℕ
body mark = 1 ∷ 0 ∷ 0 ∷ big_bytes 4 mark

-- the gate to be closed in a reserve
unfoldable pub closing : Keeper → Option ℕ
closing k = if k.third_open then Some (place k.third) else None

-- the keeper after a reserve of this mark
abbrev pub next : Keeper → ℕ → Keeper
next k mark =
    record {
      mark = mark;
      newest = k.target;
      newest_open = true;
      target = k.third;
      third = k.newest;
      third_open = k.newest_open;
    }

-- the keeper remembers the image, which has the unused bytes of an image of the disk
pub record IsStaging (k : Keeper) (disk : DiskTold) (image : List ℕ) : Type 0 where
  pub from : List ℕ
  pub was : disk.may_leave from
  pub settled : Settles k image
  pub unused : SameUnused from image

-- a crash at any moment leaves an image that the keeper remembers
pub record KeepsSettled (k : Keeper) (old new : DiskTold) : Type 0 where
  pub run : LeavesOnly old new (IsStaging k old)

-- the keeper remembers the image, and version 1 and the new mark stand behind the target's gate
pub record IsStaged (k : Keeper) (mark : ℕ) (image : List ℕ) : Type 0 where
  pub settled : Settles k image
  pub version : slice_index image (place k.target + 1) ≡ 1
  pub holds : mark_at image (place k.target) ≡ mark

-- each image of the disk is staged
pub record AllStaged (disk : DiskTold) (k : Keeper) (mark : ℕ) : Type 0 where
  pub each : (c : List ℕ) → disk.may_leave c → IsStaged k mark c

-- It was made from an image of the disk: it stands for the same mark, has another version only where that one had it,
-- and has its unused bytes.
pub record IsMadeFrom (disk : DiskTold) (image : List ℕ) : Type 0 where
  pub from : List ℕ
  pub was : disk.may_leave from
  pub mark : mark_of_image image ≡ mark_of_image from
  pub refused : HasOtherVersion image → HasOtherVersion from
  pub unused : SameUnused from image

-- It was made from an image of the disk, whose mark it stands for, or for this one. It can be loaded, and has that
-- image's unused bytes.
pub record IsMadeOr (mark : ℕ) (disk : DiskTold) (image : List ℕ) : Type 0 where
  pub from : List ℕ
  pub was : disk.may_leave from
  pub either : StandsForEither (mark_of_image from) mark image
  pub loads : IsLoadable image
  pub unused : SameUnused from image
