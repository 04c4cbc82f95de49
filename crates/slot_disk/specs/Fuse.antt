-- What a disk on a fuse holds, and what a call of it uses up.
use Rattle.std.specs.Prelude.{◌≡◌, ℕ, ◌-◌, ◌==◌}
use Rattle.edge_traits.specs.declared.sink.Put.{Put}
use Rattle.slot_disk.specs.declared.fuse.FuseDisk.{FuseDisk}
use Rattle.slot_disk.specs.declared.memory.MemoryDisk.{MemoryDisk}
use Rattle.slot_disk.specs.Told.{DiskTold}
use Rattle.slot_disk.specs.Memory.{GoesByPlan, memory_faults, memory_tells, plan_of}

-- the disk below
abbrev pub disk_of : FuseDisk → MemoryDisk
disk_of fuse = fuse.disk

-- it tells what that disk tells
abbrev pub fuse_tells : FuseDisk → DiskTold
fuse_tells fuse = memory_tells (disk_of fuse)

-- how many calls of that disk have failed
abbrev pub fuse_faults : FuseDisk → ℕ
fuse_faults fuse = memory_faults (disk_of fuse)

-- the number of calls that still pass
abbrev pub left_of : FuseDisk → ℕ
left_of fuse = fuse.left

-- A call uses up one of those that pass. It is a call of the disk below, which fails where none was left.
pub record BurnsFuse (old new : FuseDisk) (put : Put) : Type 0 where
  pub left : left_of new ≡ left_of old - 1
  pub goes : GoesByPlan (plan_of (disk_of old)) (left_of old == 0) (fuse_tells old).time put
  pub plan : plan_of (disk_of new) ≡ plan_of (disk_of old)
