use Rattle.std.proofs.Common.{List, arith, refl, subst, sym, ◌∙◌, ℤ, pos, negsuc, w64, FitsSigned}
use Rattle.std.proofs.lemmas.Int.{ints, to_z-of_z}
use Rattle.base_specs.specs.Time.{IsReading}
use Rattle.sntp_world.specs.declared.due.Due.TheVariants as due
use Rattle.sntp_world.specs.declared.packet.Packet.{Packet}
use Rattle.sntp_world.specs.Due.{IsDueBy}
use Rattle.sntp_world.specs.Standing.{IsReached, Kept}
use Rattle.sntp_world.proofs.Doing.{answered_by, reached_after, refused_by}
use Rattle.sntp_world.proofs.Keeping.{reached_clocks}
use Rattle.sntp_world.proofs.world.World.answer.Goals as goal
use Rattle.sntp_world.proofs.world.World.answer.Goals.{in-Ok, in-Err}

reading_fits : (z : ℤ) → IsReading z → FitsSigned w64 z
reading_fits (pos n) r = record { sfits = omega (arith, ints, r.1) }
reading_fits (negsuc n) r = record { sfits = omega (arith, ints, r.0) }

pub local-info-requires : goal.local-info-requires
local-info-requires c =
    let read = (reached_clocks _ c.self.invariant.0).controller in
    subst IsReading (sym (to_z-of_z w64 _ (reading_fits _ read))) read

pub answer-given-requires-clause-received : goal.answer-given-requires-clause-received
answer-given-requires-clause-received c =
    let read = (reached_clocks _ c.self.invariant.0).controller in
    subst IsReading (sym (to_z-of_z w64 _ (reading_fits _ read))) read

pub answer-given-requires-clause-sent : goal.answer-given-requires-clause-sent
answer-given-requires-clause-sent c =
    let read = (reached_clocks _ c.self.invariant.0).controller in
    subst IsReading (sym (to_z-of_z w64 _ (reading_fits _ read))) read

pub returns-in_default-clause-done : goal.returns-in_default-clause-done
returns-in_default-clause-done c =
    let read = (reached_clocks _ c.self.invariant.0).controller in
    refused_by _ _ _ _ _ _ _ c.self.view_is c.as_slice.ensures.bytes (to_z-of_z w64 _ (reading_fits _ read)) c.local-info.ensures.local c.answer-given.ensures.answers
    (sym c.reply_of.ensures ∙ c.in_default.is)

pub invariant_of-self : goal.invariant_of-self
invariant_of-self c =
    let read = (reached_clocks _ c.self.invariant.0).controller in
    let some = sym c.reply_of.ensures ∙ c.in-Some.is in
    let is = subst (λ (k : Kept). IsDueBy k (due.Answer c.args.request.now)) (sym c.self.view_is) c.requires in
    elim c.match-push.branch [
      | in-Ok w ↦ let pushed = rw w.in-Ok.is at c.push.ensures.items in
          let done = answered_by _ _ _ _ _ _ _ _ _ refl c.as_slice.ensures.bytes (to_z-of_z w64 _ (reading_fits _ read)) c.local-info.ensures.local c.answer-given.ensures.answers some pushed in
          (reached_after _ _ _ _ c.self.invariant.0 is done, c.self.invariant.1, c.self.invariant.2)
      | in-Err w ↦ let same = rw w.in-Err.is at c.push.ensures.items in
          (subst (λ (ps : List Packet). IsReached (record { member = c.self.inside.member; clocks = c.self.inside.clocks; packets = ps; slack = c.self.inside.slack })) (sym same) c.self.invariant.0, c.self.invariant.1, c.self.invariant.2)
    ]

pub returns-clause-done : goal.returns-clause-done
returns-clause-done c =
    let read = (reached_clocks _ c.self.invariant.0).controller in
    let some = sym c.reply_of.ensures ∙ c.in-Some.is in
    elim c.match-push.branch [
      | in-Ok w ↦ let pushed = rw w.in-Ok.is at c.push.ensures.items in
          rw w.result-is (answered_by _ _ _ _ _ _ _ _ _ c.self.view_is c.as_slice.ensures.bytes (to_z-of_z w64 _ (reading_fits _ read)) c.local-info.ensures.local c.answer-given.ensures.answers some pushed)
      | in-Err w ↦ rw w.result-is tt
    ]
