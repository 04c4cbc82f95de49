use Rattle.std.proofs.Common.{take}
use Rattle.slot_disk.specs.Calls.{Holds}
use Rattle.slot_disk.proofs.ranges.put.Given as goal

abbrev pub invariant-loop-i : goal.invariant-loop-i
invariant-loop-i l = Holds l.at (take l.i l.piece) l.initial.bytes l.bytes
