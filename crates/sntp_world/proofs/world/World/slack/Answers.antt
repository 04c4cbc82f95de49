use Rattle.std.proofs.Common.{List, subst, sym}
use Rattle.sntp_world.specs.declared.op.Op.{Op}
use Rattle.sntp_world.specs.Accuracy.{IsNotNegative}
use Rattle.sntp_world.specs.Standing.{Kept, StandsForOps}
use Rattle.sntp_world.specs.Steps.{StayNear}
use Rattle.sntp_world.proofs.Bounded.{kept_not_negative}
use Rattle.sntp_world.proofs.world.World.slack.Goals as goal

pub returns-clause-never_negative : goal.returns-clause-never_negative
returns-clause-never_negative c = λ (ops : List Op) (stands : StandsForOps c.args.self.now ops) (near : StayNear ops).
    subst (λ (k : Kept). IsNotNegative k.slack) (sym c.self.view_is) (kept_not_negative c.args.self.now ops stands near)
