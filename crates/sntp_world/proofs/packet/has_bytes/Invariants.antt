use Rattle.std.proofs.Common.{◌≡◌, ◌<◌, ℕ, get_or}
use Rattle.sntp_world.specs.declared.packet.Packet.{Packet}
use Rattle.sntp_world.proofs.packet.has_bytes.Given as goal

abbrev pub invariant-loop-packet : goal.invariant-loop-packet
invariant-loop-packet l = (k : ℕ) (d : Packet) → k < l.packet-index → (get_or l.packets k d).bytes ≡ l.bytes → ⊥
