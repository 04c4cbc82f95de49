use Rattle.std.proofs.Common.{◌≡◌, ◌*◌, ℕ, Some, ap, arith, subst, sym}
use Rattle.capture_fmt.specs.declared.event.Event.{Event}
use Rattle.sntp_core.specs.Standing.{words_of}
use Rattle.sntp_world.specs.declared.due.Due.TheVariants as due
use Rattle.sntp_world.specs.declared.op.Op.TheVariants.{Restart}
use Rattle.sntp_world.specs.Due.{IsDue}
use Rattle.sntp_world.specs.Standing.{IsReached, Keeps, Kept}
use Rattle.sntp_world.specs.State.{State}
use Rattle.sntp_world.proofs.Dues.{due_restart}
use Rattle.sntp_world.proofs.world.World.restarting.Goals as goal

pub returns : goal.returns
returns c = λ (w : State) (keeps : Keeps c.args.self.now w).
    let reached = subst IsReached c.self.view_is c.self.invariant.0 in
    let mark = subst (λ (k : Kept). (words_of k.member).mark ≡ Some c.self.inside.mark) c.self.view_is c.self.invariant.1 in
    let sent = subst (λ (k : Kept). (words_of k.member).sent ≡ c.self.inside.sent) c.self.view_is c.self.invariant.2 in
    subst (λ (e : Event). IsDue Restart (due.Take e) w) (sym c.life.ensures)
    (due_restart c.args.self.now w c.self.inside.mark c.self.inside.sent _ reached keeps mark sent (omega (arith, c.div_ceil-blocks.ensures, ap (λ (n : ℕ). n * c.from-3.result) c.from-2.ensures)) (omega arith))
