use Rattle.std.proofs.Common.{◌≡◌, ◌+◌, ◌-◌, ℕ, ◌++◌}
use Rattle.sntp_world.specs.Draws.{ops_from, script_of, state_at}
use Rattle.sntp_world.proofs.draws.ops_of.Given as goal

-- those made so far and those of the draws that come are the script
abbrev pub invariant-loop : goal.invariant-loop
invariant-loop l = (drawn : ℕ) × (l.draws.state ≡ state_at l.fn.seed drawn)
    × (l.ops.items ++ ops_from l.fn.seed (drawn + 1) (l.fn.n - l.counter) ≡ script_of l.fn.seed l.fn.n)
