use Rattle.std.proofs.Common.{refl, arith}
use Rattle.sntp_world.specs.Simulation.{sinks}
use Rattle.sntp_world.proofs.Scripts.{script_fits, script_length}
use Rattle.sntp_world.proofs.Simulating.{carried_out, nothing_written, stopped}
use Rattle.sntp_world.proofs.run.simulate.Goals as goal

pub returns-in_default-clause-simulates : goal.returns-in_default-clause-simulates
returns-in_default-clause-simulates g c = nothing_written c.args.seed c.args.n _ (omega arith)

pub returns-in_default-new-clause-simulates : goal.returns-in_default-new-clause-simulates
returns-in_default-new-clause-simulates g c = nothing_written c.args.seed c.args.n _ (omega arith)

pub carry_all_out-requires-clause-few : goal.carry_all_out-requires-clause-few
carry_all_out-requires-clause-few g c =
    rw c.in-Ok.ensures (omega (arith, script_length c.args.seed c.args.n))

pub carry_all_out-requires-clause-fit : goal.carry_all_out-requires-clause-fit
carry_all_out-requires-clause-fit g c = rw c.in-Ok.ensures (script_fits c.args.seed c.args.n)

pub returns-in-Ok-carry_all_out-clause-simulates : goal.returns-in-Ok-carry_all_out-clause-simulates
returns-in-Ok-carry_all_out-clause-simulates g c =
    let before = sinks (g.O.Sink.written c.args.out.now) (g.O.Sink.faults c.args.out.now) (g.O.Sink.written c.args.capture.now) (g.O.Sink.faults c.args.capture.now) in
    let now = sinks (g.O.Sink.written c.print_summary.new.out) (g.O.Sink.faults c.print_summary.new.out) (g.O.Sink.written c.carry_all_out.new.capture) (g.O.Sink.faults c.carry_all_out.new.capture) in
    rw c.end_of.ensures
    (carried_out c.args.seed c.args.n c.print_summary.result c.in-Ok-carry_all_out.totals c.carry_all_out.new.world c.slack.result before now
    (rw c.in-Ok.ensures at c.in-Ok-carry_all_out.ensures.carried) c.in-Ok-carry_all_out.ensures.no_fault c.slack.ensures.least
    c.print_summary.ensures.bytes c.print_summary.ensures.cause (omega arith))

pub returns-clause-simulates : goal.returns-clause-simulates
returns-clause-simulates g c =
    let before = sinks (g.O.Sink.written c.args.out.now) (g.O.Sink.faults c.args.out.now) (g.O.Sink.written c.args.capture.now) (g.O.Sink.faults c.args.capture.now) in
    let now = sinks (g.O.Sink.written c.args.out.now) (g.O.Sink.faults c.args.out.now) (g.O.Sink.written c.carry_all_out.new.capture) (g.O.Sink.faults c.carry_all_out.new.capture) in
    stopped c.args.seed c.args.n c.in-Err.end before now (rw c.in-Ok.ensures at c.in-Err.ensures.stops) refl refl (omega arith)
