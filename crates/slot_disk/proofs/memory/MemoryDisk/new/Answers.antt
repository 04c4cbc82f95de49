use Rattle.slot_disk.proofs.Tearing.{none_touched, synced}
use Rattle.slot_disk.proofs.memory.MemoryDisk.new.Goals as goal

pub returns-in-Ok-clause-synced : goal.returns-in-Ok-clause-synced
returns-in-Ok-clause-synced c = synced _ _ 0 (λ k. rw c.synced.ensures.free (none_touched 256 k))
