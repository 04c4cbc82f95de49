use Rattle.std.proofs.Common.{◌<◌, ◌≤◌, ◌+◌, ℕ, length, get_or}
use Rattle.sntp_world.specs.declared.packet.Packet.{Packet}
use Rattle.sntp_world.specs.Due.{IsRequestWith}
use Rattle.sntp_world.proofs.packet.find_request.Given as goal

abbrev pub invariant-loop-i : goal.invariant-loop-i
invariant-loop-i l = (k : ℕ) (d : Packet) → length l.packets ≤ k + l.i → k < length l.packets → IsRequestWith l.stamp (get_or l.packets k d) → ⊥
