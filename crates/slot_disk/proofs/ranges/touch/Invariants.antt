use Rattle.slot_disk.specs.Moments.{Touches}
use Rattle.slot_disk.proofs.ranges.touch.Given as goal

abbrev pub invariant-loop-i : goal.invariant-loop-i
invariant-loop-i l = Touches l.at l.i l.initial.touched l.touched
