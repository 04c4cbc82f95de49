use Rattle.slot_disk.specs.Memory.{memory_tells}
use Rattle.member_run.specs.Running.{IsGoing}
use Rattle.test_loop.proofs.settling.turns.Given as goal

-- no call of the run failed so far
abbrev pub invariant-loop-at : goal.invariant-loop-at
invariant-loop-at l = IsGoing (memory_tells l.devices.disk) l.run
