use Rattle.std.proofs.Common.{arith, ◌∙◌, ap, refl, subst}
use Rattle.sntp_world.specs.Standing.{IsReached, Keeps, Kept}
use Rattle.sntp_world.specs.State.{State}
use Rattle.sntp_world.proofs.Dues.{craft_by, forged_by}
use Rattle.sntp_world.proofs.world.World.crafting.Goals as goal
use Rattle.sntp_world.proofs.world.World.crafting.Goals.{else-is_signed-via-then-is_signed+else-not-has_bytes, else-is_signed-via-else-is_signed}

pub returns-then-not-has_bytes : goal.returns-then-not-has_bytes
returns-then-not-has_bytes c = λ (w : State) (keeps : Keeps c.args.self.now w).
    forged_by c.args.self.now w _ c.as_slice-message.result.now c.as_slice.result.now c.has_bytes.result keeps
    c.as_slice-message.ensures.bytes (c.as_slice.ensures.value ∙ ap (λ (k : Kept). k.packets) c.self.view_is)
    (c.is_signed.ensures.0 c.if-is_signed.true) c.has_bytes.ensures.1 (first_of (cc, grind (arith, c.if-not-has_bytes.true)))

pub returns : goal.returns
returns c = λ (w : State) (keeps : Keeps c.args.self.now w).
    elim c.else-is_signed.branch [
      | else-is_signed-via-then-is_signed+else-not-has_bytes v ↦
          craft_by c.args.self.now w _ c.as_slice-message.result.now _ v.as_slice.result.now (subst IsReached c.self.view_is c.self.invariant.0) keeps c.as_slice-message.ensures.bytes c.arrival.ensures
          (v.as_slice.ensures.value ∙ ap (λ (k : Kept). k.packets) c.self.view_is)
          (λ asks. v.has_bytes.ensures.0 (first_of (cc, grind (arith, v.if-not-has_bytes.false))))
      | else-is_signed-via-else-is_signed v ↦
          craft_by c.args.self.now w _ c.as_slice-message.result.now _ c.args.self.now.packets (subst IsReached c.self.view_is c.self.invariant.0) keeps c.as_slice-message.ensures.bytes c.arrival.ensures refl
          (λ asks. let t = c.is_signed.ensures.1 asks in let f = v.if-is_signed.false in absurd (let no : ⊥ = cc in no))
    ]
