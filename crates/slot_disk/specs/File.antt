-- What a disk in a file tells: the number of its calls alone.
use Rattle.std.specs.Prelude.{ℕ, Bool, false, None, is_some}
use Rattle.std.proofs.Common.{◌≡◌, Some}
use Rattle.edge_traits.specs.declared.sink.Put.{Put}
use Rattle.edge_traits.specs.declared.sink.Put.TheVariants.{Failed}
use Rattle.slot_disk.specs.declared.file.FileDisk.{FileDisk}
use Rattle.slot_disk.specs.Told.{DiskTold, IsDisk}

-- the count of its calls
abbrev pub calls_of : FileDisk → ℕ
calls_of disk = disk.calls

-- how many calls have failed
abbrev pub file_faults : FileDisk → ℕ
file_faults disk = disk.faults

-- whether there is a file
abbrev pub is_open : FileDisk → Bool
is_open disk = is_some disk.file

-- neither content nor images
abbrev pub file_tells : FileDisk → DiskTold
file_tells disk = record { content = None; may_leave = λ c. ⊥; time = calls_of disk; left_since = λ t c. ⊥ }

-- a call keeps the file, and fails where there is none
pub record AnswersFor (old new : FileDisk) (put : Put) : Type 0 where
  pub same : is_open new ≡ is_open old
  pub closed : is_open old ≡ false → put ≡ Failed

pub file_is_disk : (disk : FileDisk) → IsDisk (file_tells disk)
file_is_disk disk = record {
  reads_as = λ c is. let no : None ≡ Some c = is in cc;
  tells = λ c left. absurd left;
  size = λ c left. absurd left;
  counts_now = λ t c le left. left;
  only_now = λ c left. left;
  longer = λ s t c le left. left;
}
