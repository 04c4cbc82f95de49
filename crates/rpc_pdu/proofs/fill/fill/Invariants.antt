use Rattle.std.proofs.Common.{◌≡◌, ◌-◌, ◌≤◌, false, length, take}
use Rattle.edge_traits.specs.Wire.{WireTook}
use Rattle.rpc_pdu.proofs.fill.fill.Given as goal

-- what stands in the buffer is what was taken of the session
abbrev pub invariant-loop-filled : goal.invariant-loop-filled
invariant-loop-filled g l = record {
  within : l.filled ≤ length l.buf;
  took : WireTook (take l.filled l.buf) (g.W.Wire.told l.initial.wire) (g.W.Wire.told l.wire);
  closed : g.W.Wire.is_open l.initial.wire ≡ false → l.filled ≡ 0;
  same : g.W.Wire.faults l.wire ≡ g.W.Wire.faults l.initial.wire;
  opened : g.W.Wire.is_open l.wire ≡ g.W.Wire.is_open l.initial.wire;
  writes : g.W.Wire.write_faults l.wire ≡ g.W.Wire.write_faults l.initial.wire;
}

abbrev pub decreases-loop-filled : goal.decreases-loop-filled
decreases-loop-filled g l = length l.initial.buf - l.filled
