use Rattle.edge_seen.specs.Seen.{Seen}
use Rattle.dc_sign.specs.Serving.{serving}
use Rattle.dc_sign.specs.Turns.{HasServed}
use Rattle.dc_sign.proofs.run.serve.Given as goal

abbrev pub invariant-loop : goal.invariant-loop
invariant-loop g l = (others : Seen) → HasServed (g.K.Keys.accounts l.keys) l.counter
    (serving others (g.L.Link.told l.fn.link) (g.L.Link.faults l.fn.link) (g.C.Clock.told l.fn.clock) (g.C.Clock.faults l.fn.clock))
    (serving others (g.L.Link.told l.link) (g.L.Link.faults l.link) (g.C.Clock.told l.clock) (g.C.Clock.faults l.clock)) l.end
