use Rattle.std.proofs.Common.{◌≡◌, take}
use Rattle.std.specs.Prelude.{reverse}
use Rattle.sntp_world.specs.Running.{CarriesOut}
use Rattle.sntp_world.proofs.run.carry_all_out.Given as goal

-- the operations before this place were carried out
abbrev pub invariant-loop-i : goal.invariant-loop-i
invariant-loop-i g l =
    CarriesOut (reverse (take l.i l.fn.script)) l.totals l.world (g.O.Sink.written l.fn.capture) (g.O.Sink.written l.capture)
    × (g.O.Sink.faults l.capture ≡ g.O.Sink.faults l.fn.capture)
