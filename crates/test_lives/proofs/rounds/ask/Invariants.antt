use Rattle.slot_disk.specs.Memory.{memory_tells}
use Rattle.member_run.specs.Running.{IsGoing}
use Rattle.test_lives.proofs.rounds.ask.Given as goal

-- no call of the run failed so far
abbrev pub invariant-loop : goal.invariant-loop
invariant-loop l = IsGoing (memory_tells l.objects.disk) l.run
