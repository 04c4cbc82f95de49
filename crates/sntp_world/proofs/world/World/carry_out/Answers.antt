use Rattle.std.proofs.Common.{subst, sym}
use Rattle.sntp_world.specs.declared.due.Due.{Due}
use Rattle.sntp_world.specs.declared.due.Due.TheVariants as due
use Rattle.sntp_world.specs.declared.op.Effect.TheVariants as effect
use Rattle.sntp_world.specs.Due.{Does, IsDueBy}
use Rattle.sntp_world.specs.Standing.{Kept}
use Rattle.sntp_world.proofs.Doing.{does_nothing, does_time, reached_after, time_by}
use Rattle.sntp_world.proofs.world.World.carry_out.Goals as goal

pub invariant_of-self : goal.invariant_of-self
invariant_of-self c =
    let is = subst (λ (k : Kept). IsDueBy k (due.Time c.in-Time.moment)) (sym c.self.view_is) (subst (IsDueBy c.args.self.now) c.in-Time.is c.requires) in
    (reached_after _ _ _ _ c.self.invariant.0 is (does_time _ c.in-Time.moment), c.self.invariant.1, c.self.invariant.2)

pub returns-in-Nothing-clause-done : goal.returns-in-Nothing-clause-done
returns-in-Nothing-clause-done c =
    subst (λ (d : Due). Does c.args.self.now d effect.Skipped c.args.self.now) (sym c.in-Nothing.is) (does_nothing c.args.self.now)

pub returns-in-Time-clause-done : goal.returns-in-Time-clause-done
returns-in-Time-clause-done c = time_by _ _ _ _ c.self.view_is c.in-Time.is
