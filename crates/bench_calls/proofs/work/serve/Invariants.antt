use Rattle.w32t_calls.specs.Standing.{IsIdle}
use Rattle.bench_calls.proofs.work.serve.Given as goal

-- no call waits, and none answered an error
abbrev pub invariant-loop-count : goal.invariant-loop-count
invariant-loop-count l = IsIdle l.session
