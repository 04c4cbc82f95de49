use Rattle.slot_disk.specs.Moments.{IsImage}
use Rattle.slot_disk.proofs.ranges.image_of.Given as goal

abbrev pub invariant-loop-at : goal.invariant-loop-at
invariant-loop-at l = IsImage l.moment l.image
