use Rattle.std.proofs.Common.{List}
use Rattle.sntp_world.specs.declared.op.Op.{Op}
use Rattle.sntp_world.specs.Standing.{StandsForOps}
use Rattle.sntp_world.specs.Steps.{StayNear}
use Rattle.sntp_world.proofs.Bounded.{step_bounds}
use Rattle.sntp_world.proofs.world.World.step.Goals as goal

pub carry_out-requires : goal.carry_out-requires
carry_out-requires c = record { op = c.args.op.now; is = c.due-due.ensures }

pub returns-clause-accurate : goal.returns-clause-accurate
returns-clause-accurate c = λ (ops : List Op) (stands : StandsForOps c.args.self.now ops) (near : StayNear ops).
    step_bounds c.carry_out.result c.args.self.now c.carry_out.new.self c.args.op.now c.due-due.result ops c.due-due.ensures c.carry_out.ensures.done stands near
