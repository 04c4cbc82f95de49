use Rattle.std.proofs.Common.{arith, ◌∙◌, ap, refl, subst}
use Rattle.sntp_world.specs.Standing.{IsReached, Keeps, Kept}
use Rattle.sntp_world.specs.State.{State}
use Rattle.sntp_world.proofs.Dues.{ask_by, guess_by}
use Rattle.sntp_world.proofs.world.World.asking.Goals as goal
use Rattle.sntp_world.proofs.world.World.asking.Goals.{else-asks_for_member-via-then-asks_for_member+else-not-is_known, else-asks_for_member-via-else-asks_for_member}

pub returns-then-not-is_known : goal.returns-then-not-is_known
returns-then-not-is_known c = λ (w : State) (keeps : Keeps c.args.self.now w).
    guess_by c.args.self.now w _ c.as_slice-message.result.now c.as_slice.result.now c.is_known.result (subst IsReached c.self.view_is c.self.invariant.0) keeps
    c.as_slice-message.ensures.bytes (c.as_slice.ensures.value ∙ ap (λ (k : Kept). k.packets) c.self.view_is)
    (c.asks_for_member.ensures.0 c.if-asks_for_member.true) c.is_known.ensures.1 (first_of (cc, grind (arith, c.if-not-is_known.true)))

pub returns : goal.returns
returns c = λ (w : State) (keeps : Keeps c.args.self.now w).
    elim c.else-asks_for_member.branch [
      | else-asks_for_member-via-then-asks_for_member+else-not-is_known v ↦
          ask_by c.args.self.now w _ c.as_slice-message.result.now _ v.as_slice.result.now keeps c.as_slice-message.ensures.bytes c.copy.ensures
          (v.as_slice.ensures.value ∙ ap (λ (k : Kept). k.packets) c.self.view_is)
          (λ asks. v.is_known.ensures.0 (first_of (cc, grind (arith, v.if-not-is_known.false))))
      | else-asks_for_member-via-else-asks_for_member v ↦
          ask_by c.args.self.now w _ c.as_slice-message.result.now _ c.args.self.now.packets keeps c.as_slice-message.ensures.bytes c.copy.ensures refl
          (λ asks. let t = c.asks_for_member.ensures.1 asks in let f = v.if-asks_for_member.false in absurd (let no : ⊥ = cc in no))
    ]
