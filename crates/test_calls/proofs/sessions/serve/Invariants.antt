use Rattle.w32t_calls.specs.Standing.{IsIdle}
use Rattle.test_calls.proofs.sessions.serve.Given as goal

-- no call waits, and none answered an error
abbrev pub invariant-loop-count : goal.invariant-loop-count
invariant-loop-count g l = IsIdle l.session
