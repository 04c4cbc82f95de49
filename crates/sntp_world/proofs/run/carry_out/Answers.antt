use Rattle.sntp_world.proofs.States.{due_fits}
use Rattle.sntp_world.proofs.run.carry_out.Goals as goal

pub record-requires : goal.record-requires
record-requires g c =
    let led = c.requires.reached in
    let w = led.stands.state in
    due_fits led.ops c.args.op.now c.due-due.result w led.fit c.requires.fits led.stands.after (c.due-due.ensures w led.stands.keeps)

pub carry_out-requires : goal.carry_out-requires
carry_out-requires g c = record { op = c.args.op.now; is = c.due-due.ensures }

pub returns-in-Failed-clause-breaks : goal.returns-in-Failed-clause-breaks
returns-in-Failed-clause-breaks g c w keeps =
    (c.due-due.result, c.due-due.ensures w keeps, c.in-Failed.ensures.bytes, c.in-Failed.ensures.cause)
