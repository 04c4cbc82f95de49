-- What a disk of 256 bytes tells, and what holds of that at every moment.
use Rattle.std.specs.Prelude.{◌≡◌, ℕ, ◌≤◌, List, length, Option, Some, IsSome}

-- what a disk tells
pub record DiskTold : Type 1 where
  -- what a read gives; a real file tells neither this nor any image
  pub content : Option (List ℕ)
  -- an image that a crash at this moment may leave
  pub may_leave : List ℕ → Type 0
  -- the number of calls made so far
  pub time : ℕ
  -- an image that a crash may have left at some moment from that time on
  pub left_since : ℕ → List ℕ → Type 0

-- what holds of a disk at every moment
pub record IsDisk (disk : DiskTold) : Type 0 where
  -- the disk as it reads is one of its images
  pub reads_as : (c : List ℕ) → disk.content ≡ Some c → disk.may_leave c
  -- one that tells an image tells its content
  pub tells : (c : List ℕ) → disk.may_leave c → IsSome disk.content
  pub size : (c : List ℕ) → disk.may_leave c → length c ≡ 256
  -- this moment is one of those since an earlier one
  pub counts_now : (t : ℕ) (c : List ℕ) → t ≤ disk.time → disk.may_leave c → disk.left_since t c
  -- since this moment there is no other
  pub only_now : (c : List ℕ) → disk.left_since disk.time c → disk.may_leave c
  -- one that it left since a time, it left since each earlier one
  pub longer : (s t : ℕ) (c : List ℕ) → s ≤ t → disk.left_since t c → disk.left_since s c
