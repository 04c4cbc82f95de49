use Rattle.std.proofs.Common.{◌-◌}
use Rattle.w32t_calls.proofs.Going.{Going}
use Rattle.w32t_calls.proofs.session.Session.serve.Given as goal

-- each PDU so far was answered
abbrev pub invariant-loop-self : goal.invariant-loop-self
invariant-loop-self g l =
    Going l.fn.self l.self (g.W.Wire.is_open l.fn.wire) (g.W.Wire.is_open l.wire) (g.W.Wire.told l.fn.wire) (g.W.Wire.told l.wire)
    (g.W.Wire.faults l.fn.wire) (g.W.Wire.faults l.wire) (g.W.Wire.write_faults l.fn.wire) (g.W.Wire.write_faults l.wire)

abbrev pub decreases-loop-self : goal.decreases-loop-self
decreases-loop-self g l = 10000 - l.self.pdus
