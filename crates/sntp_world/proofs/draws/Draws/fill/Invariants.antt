use Rattle.std.proofs.Common.{◌≡◌, ◌+◌, ℕ, take}
use Rattle.sntp_world.specs.Draws.{bytes_drawn, state_at}
use Rattle.sntp_world.proofs.draws.Draws.fill.Given as goal

-- the bytes so far are the draws so far
abbrev pub invariant-loop-byte : goal.invariant-loop-byte
invariant-loop-byte l = (seed n : ℕ) → l.initial.self.state ≡ state_at seed n
    → (take l.byte-index l.byte-items ≡ bytes_drawn seed (n + 1) l.byte-index)
    × (l.self.state ≡ state_at seed (n + l.byte-index))
