use Rattle.std.proofs.Common.{◌∙◌, take, refl}
use Rattle.std.specs.Prelude.{reverse}
use Rattle.sntp_world.proofs.Runs.{fit_around}
use Rattle.sntp_world.proofs.Simulating.{carried_first, carried_more, front_of_first, stopped_at}
use Rattle.sntp_world.proofs.run.carry_all_out.Goals as goal

pub returns-in-Failed-clause-stops : goal.returns-in-Failed-clause-stops
returns-in-Failed-clause-stops g c =
    let failed = rw c.first_event.ensures at c.in-Failed.ensures.bytes in
    (_, front_of_first c.args.script.now failed.0 c.requires.fit, failed.2, c.in-Failed.ensures.cause)

pub loop-i-init : goal.loop-i-init
loop-i-init g c =
    let wrote = rw c.first_event.ensures at c.in_default.ensures.bytes in
    (carried_first _ _ _ _ c.requires.new refl wrote, c.in_default.ensures.cause)

pub carry_out-requires-clause-reached : goal.carry_out-requires-clause-reached
carry_out-requires-clause-reached g c =
    let is = c.loop-i.invariant.0 in
    record {
      ops = reverse (take c.loop-i.i c.args.script.now);
      fit = (fit_around c.args.script.now c.loop-i.i c.at.result.now c.requires.fit c.at.ensures).before;
      stands = record { state = is.state; after = is.after; keeps = is.keeps };
    }

pub carry_out-requires-clause-fits : goal.carry_out-requires-clause-fits
carry_out-requires-clause-fits g c = (fit_around c.args.script.now c.loop-i.i c.at.result.now c.requires.fit c.at.ensures).here

pub returns-in-Err-clause-stops : goal.returns-in-Err-clause-stops
returns-in-Err-clause-stops g c =
    rw c.loop-i.invariant.1 at
    (stopped_at c.args.script.now c.loop-i.i c.at.result.now _ _ _ _ _ _ _ c.in-Err.end c.requires.fit c.at.ensures c.loop-i.invariant.0 c.in-Err.ensures.breaks)

pub loop-i-preserved : goal.loop-i-preserved
loop-i-preserved g c = (
  carried_more c.args.script.now c.loop-i.i c.at.result.now _ _ _ _ _ _ _ c.at.ensures c.loop-i.invariant.0 c.in_default-carry_out.ensures.carries,
  c.in_default-carry_out.ensures.no_fault ∙ c.loop-i.invariant.1,
)
