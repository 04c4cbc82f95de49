use Rattle.std.proofs.Common.{◌≡◌, ◌-◌, true}
use Rattle.edge_seen.specs.Seen.{Seen}
use Rattle.rpc_pdu.specs.Fill.{OpensNone}
use Rattle.run_deeds.specs.Devices.{faults, living}
use Rattle.service_run.specs.Profile.{profile_of}
use Rattle.service_run.proofs.Goings.{Goes}
use Rattle.service_run.proofs.session.serve_session.Given as goal

-- the calls so far were answered, and no read and no write failed
abbrev pub invariant-loop-call : goal.invariant-loop-call
invariant-loop-call g l = Goes (profile_of l.fn.settings l.fn.ranked) l.initial.running l.running l.session (g.D.Disk.told l.initial.disk) (g.D.Disk.told l.disk)
    (λ (others : Seen). living others (g.L.Link.told l.initial.link) (g.C.Clock.told l.initial.clock) (g.E.Entropy.words l.initial.entropy) (g.O.Sink.written l.initial.capture) (g.O.Sink.written l.initial.out) (g.L.Link.faults l.initial.link)
    (faults (g.C.Clock.faults l.initial.clock) (g.E.Entropy.faults l.initial.entropy) (g.D.Disk.faults l.initial.disk) (g.O.Sink.faults l.initial.capture) (g.O.Sink.faults l.initial.out)))
    (λ (others : Seen). living others (g.L.Link.told l.link) (g.C.Clock.told l.clock) (g.E.Entropy.words l.entropy) (g.O.Sink.written l.capture) (g.O.Sink.written l.out) (g.L.Link.faults l.link)
    (faults (g.C.Clock.faults l.clock) (g.E.Entropy.faults l.entropy) (g.D.Disk.faults l.disk) (g.O.Sink.faults l.capture) (g.O.Sink.faults l.out)))
    (g.W.Wire.told l.initial.wire) (g.W.Wire.told l.wire)
    × (g.W.Wire.is_open l.wire ≡ true) × (g.W.Wire.faults l.wire ≡ g.W.Wire.faults l.initial.wire) × (g.W.Wire.write_faults l.wire ≡ g.W.Wire.write_faults l.initial.wire)
    × OpensNone (g.W.Wire.told l.initial.wire) (g.W.Wire.told l.wire)

-- each call that is handed out takes a PDU, and 10,000 are taken at most
abbrev pub decreases-loop-call : goal.decreases-loop-call
decreases-loop-call g l = 10000 - l.session.pdus
