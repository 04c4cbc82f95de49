use Rattle.std.proofs.Common.{arith, subst, sym, ◌∙◌}
use Rattle.std.proofs.lemmas.Int.{to_z-of_z}
use Rattle.std.proofs.Common.{w64, List}
use Rattle.time_machine.specs.declared.outcome.Outcome.{Outcome}
use Rattle.sntp_world.specs.declared.due.Due.TheVariants as due
use Rattle.sntp_world.specs.declared.op.Effect.TheVariants as effect
use Rattle.sntp_world.specs.declared.packet.Packet.{Packet}
use Rattle.sntp_world.specs.Due.{Does, IsAccepted, IsDueBy}
use Rattle.sntp_world.specs.Standing.{IsReached, Kept}
use Rattle.sntp_world.proofs.Doing.{HasStepped, reached_after}
use Rattle.sntp_world.proofs.Keeping.{reached_clocks}
use Rattle.sntp_world.proofs.Taking.{accepts, does_at, leave_idle, leave_moved, leave_refused, leave_sent, leave_start, may_read, on_ok, room_left, sent_items, small_fits}
use Rattle.sntp_world.proofs.world.World.take.Goals as goal
use Rattle.sntp_world.proofs.world.World.take.Goals.{in-Started, in-Sent, in-Moved, in-Idle, in-Refused}

pub step-outcome-requires-clause-read : goal.step-outcome-requires-clause-read
step-outcome-requires-clause-read c = may_read c.args.self.now _ (subst IsReached c.self.view_is c.self.invariant.0) c.requires

pub invariant_of-self-in-Started : goal.invariant_of-self-in-Started
invariant_of-self-in-Started c =
    let is = subst (λ (k : Kept). IsDueBy k (due.Take c.args.event.now)) (sym c.self.view_is) c.requires in
    let stepped : HasStepped c.self.inside.member c.args.event.now c.step-outcome.result c.step-outcome.new.self = record { conf = c.step-outcome.ensures.conf; answer = c.step-outcome.ensures.answer; stands = c.step-outcome.ensures.stands } in
    let left = leave_start _ c.args.event.now _ _ _ c.in-Started.mark c.self.invariant.0 stepped c.in-Started.is c.reserve.ensures.items in
    (reached_after _ _ _ _ c.self.invariant.0 is left.does, left.mark_is, left.sent_is)

pub overflow_add-self : goal.overflow_add-self
overflow_add-self c =
    let is = subst (λ (k : Kept). IsDueBy k (due.Take c.args.event.now)) (sym c.self.view_is) c.requires in
    let stepped : HasStepped c.self.inside.member c.args.event.now c.step-outcome.result c.step-outcome.new.self = record { conf = c.step-outcome.ensures.conf; answer = c.step-outcome.ensures.answer; stands = c.step-outcome.ensures.stands } in
    let fits = room_left _ c.args.event.now _ _ _ _ _ c.self.invariant.0 is (subst (λ (o : Outcome). HasStepped c.self.inside.member c.args.event.now o c.step-outcome.new.self) c.in-Sent.is stepped) c.self.invariant.2 in
    record { fits = fits }

pub invariant_of-self-in-Sent : goal.invariant_of-self-in-Sent
invariant_of-self-in-Sent c =
    let is = subst (λ (k : Kept). IsDueBy k (due.Take c.args.event.now)) (sym c.self.view_is) c.requires in
    let stepped : HasStepped c.self.inside.member c.args.event.now c.step-outcome.result c.step-outcome.new.self = record { conf = c.step-outcome.ensures.conf; answer = c.step-outcome.ensures.answer; stands = c.step-outcome.ensures.stands } in
    let room = on_ok c.reserve.result _ c.reserve.ensures.ok c.if-is_err.ensures.value in let ok = c.push.ensures.succeeds (omega (arith, room)) in let pushed = rw ok at c.push.ensures.items in
    let left = leave_sent _ c.args.event.now _ _ _ _ _ _ _ _ c.self.invariant.0 stepped c.in-Sent.is (sent_items _ _ _ _ _ _ c.reserve.ensures.items c.copy.ensures pushed) c.self.invariant.1 c.self.invariant.2 in
    (reached_after _ _ _ _ c.self.invariant.0 is left.does, left.mark_is, left.sent_is)

pub least_with-self-inside-requires-clause-accepted : goal.least_with-self-inside-requires-clause-accepted
least_with-self-inside-requires-clause-accepted c =
    let is = subst (λ (k : Kept). IsDueBy k (due.Take c.args.event.now)) (sym c.self.view_is) c.requires in
    let stepped : HasStepped c.self.inside.member c.args.event.now c.step-outcome.result c.step-outcome.new.self = record { conf = c.step-outcome.ensures.conf; answer = c.step-outcome.ensures.answer; stands = c.step-outcome.ensures.stands } in
    let both = accepts _ c.args.event.now _ c.in-Moved.offset _ _ c.self.invariant.0 is (subst (λ (o : Outcome). HasStepped c.self.inside.member c.args.event.now o c.step-outcome.new.self) c.in-Moved.is stepped) in
    subst (λ (ps : List Packet). IsAccepted ps c.self.inside.clocks c.args.event.now) (sym (c.as_slice-packets.ensures.value ∙ c.reserve.ensures.items)) both.0

pub least_with-self-inside-requires-clause-clocks : goal.least_with-self-inside-requires-clause-clocks
least_with-self-inside-requires-clause-clocks c =
    reached_clocks _ c.self.invariant.0

pub least_with-self-inside-requires-clause-small : goal.least_with-self-inside-requires-clause-small
least_with-self-inside-requires-clause-small c =
    let is = subst (λ (k : Kept). IsDueBy k (due.Take c.args.event.now)) (sym c.self.view_is) c.requires in
    let stepped : HasStepped c.self.inside.member c.args.event.now c.step-outcome.result c.step-outcome.new.self = record { conf = c.step-outcome.ensures.conf; answer = c.step-outcome.ensures.answer; stands = c.step-outcome.ensures.stands } in
    let both = accepts _ c.args.event.now _ c.in-Moved.offset _ _ c.self.invariant.0 is (subst (λ (o : Outcome). HasStepped c.self.inside.member c.args.event.now o c.step-outcome.new.self) c.in-Moved.is stepped) in
    rw (to_z-of_z w64 c.in-Moved.offset (small_fits _ both.1)) both.1

pub corrected-self-inside-requires-clause-member : goal.corrected-self-inside-requires-clause-member
corrected-self-inside-requires-clause-member c =
    (reached_clocks _ c.self.invariant.0).member

pub corrected-self-inside-requires-clause-small : goal.corrected-self-inside-requires-clause-small
corrected-self-inside-requires-clause-small c =
    let is = subst (λ (k : Kept). IsDueBy k (due.Take c.args.event.now)) (sym c.self.view_is) c.requires in
    let stepped : HasStepped c.self.inside.member c.args.event.now c.step-outcome.result c.step-outcome.new.self = record { conf = c.step-outcome.ensures.conf; answer = c.step-outcome.ensures.answer; stands = c.step-outcome.ensures.stands } in
    let both = accepts _ c.args.event.now _ c.in-Moved.offset _ _ c.self.invariant.0 is (subst (λ (o : Outcome). HasStepped c.self.inside.member c.args.event.now o c.step-outcome.new.self) c.in-Moved.is stepped) in
    rw (to_z-of_z w64 c.in-Moved.offset (small_fits _ both.1)) both.1

pub invariant_of-self-in-Moved : goal.invariant_of-self-in-Moved
invariant_of-self-in-Moved c =
    let is = subst (λ (k : Kept). IsDueBy k (due.Take c.args.event.now)) (sym c.self.view_is) c.requires in
    let stepped : HasStepped c.self.inside.member c.args.event.now c.step-outcome.result c.step-outcome.new.self = record { conf = c.step-outcome.ensures.conf; answer = c.step-outcome.ensures.answer; stands = c.step-outcome.ensures.stands } in
    let both = accepts _ c.args.event.now _ c.in-Moved.offset _ _ c.self.invariant.0 is (subst (λ (o : Outcome). HasStepped c.self.inside.member c.args.event.now o c.step-outcome.new.self) c.in-Moved.is stepped) in
    let left = leave_moved _ c.args.event.now _ _ _ c.as_slice-packets.result.now _ _ _ _ _ _ _ _ c.self.invariant.0 stepped c.in-Moved.is c.reserve.ensures.items c.as_slice-packets.ensures.value (to_z-of_z w64 c.in-Moved.offset (small_fits _ both.1)) c.corrected-self-inside.ensures c.least_with-self-inside.ensures c.self.invariant.1 c.self.invariant.2 in
    (reached_after _ _ _ _ c.self.invariant.0 is left.does, left.mark_is, left.sent_is)

pub invariant_of-self-in-Idle : goal.invariant_of-self-in-Idle
invariant_of-self-in-Idle c =
    let is = subst (λ (k : Kept). IsDueBy k (due.Take c.args.event.now)) (sym c.self.view_is) c.requires in
    let stepped : HasStepped c.self.inside.member c.args.event.now c.step-outcome.result c.step-outcome.new.self = record { conf = c.step-outcome.ensures.conf; answer = c.step-outcome.ensures.answer; stands = c.step-outcome.ensures.stands } in
    let left = leave_idle _ c.args.event.now _ _ _ _ _ c.self.invariant.0 stepped c.in-Idle.is c.reserve.ensures.items c.self.invariant.1 c.self.invariant.2 in
    (reached_after _ _ _ _ c.self.invariant.0 is left.does, left.mark_is, left.sent_is)

pub invariant_of-self-in-Refused : goal.invariant_of-self-in-Refused
invariant_of-self-in-Refused c =
    let is = subst (λ (k : Kept). IsDueBy k (due.Take c.args.event.now)) (sym c.self.view_is) c.requires in
    let stepped : HasStepped c.self.inside.member c.args.event.now c.step-outcome.result c.step-outcome.new.self = record { conf = c.step-outcome.ensures.conf; answer = c.step-outcome.ensures.answer; stands = c.step-outcome.ensures.stands } in
    let left = leave_refused _ c.args.event.now _ _ _ _ _ _ c.self.invariant.0 stepped c.in-Refused.is c.reserve.ensures.items c.self.invariant.1 c.self.invariant.2 in
    (reached_after _ _ _ _ c.self.invariant.0 is left.does, left.mark_is, left.sent_is)

pub returns-clause-done : goal.returns-clause-done
returns-clause-done c =
    let is = subst (λ (k : Kept). IsDueBy k (due.Take c.args.event.now)) (sym c.self.view_is) c.requires in
    let stepped : HasStepped c.self.inside.member c.args.event.now c.step-outcome.result c.step-outcome.new.self = record { conf = c.step-outcome.ensures.conf; answer = c.step-outcome.ensures.answer; stands = c.step-outcome.ensures.stands } in
    let Done : Kept → Type 0 = λ (now : Kept). Does c.args.self.now (due.Take c.args.event.now) (effect.Stepped c.step-outcome.result) now in
    elim c.match-outcome.branch [
      | in-Started w ↦ let left = leave_start _ c.args.event.now _ _ _ w.in-Started.mark c.self.invariant.0 stepped w.in-Started.is c.reserve.ensures.items in
          subst Done (sym w.self-is) (does_at _ _ _ _ _ c.self.view_is left.does)
      | in-Sent w ↦ let room = on_ok c.reserve.result _ c.reserve.ensures.ok c.if-is_err.ensures.value in let ok = w.push.ensures.succeeds (omega (arith, room)) in let pushed = rw ok at w.push.ensures.items in let left = leave_sent _ c.args.event.now _ _ _ _ _ _ _ _ c.self.invariant.0 stepped w.in-Sent.is (sent_items _ _ _ _ _ _ c.reserve.ensures.items w.copy.ensures pushed) c.self.invariant.1 c.self.invariant.2 in
          subst Done (sym w.self-is) (does_at _ _ _ _ _ c.self.view_is left.does)
      | in-Moved w ↦ let both = accepts _ c.args.event.now _ w.in-Moved.offset _ _ c.self.invariant.0 is (subst (λ (o : Outcome). HasStepped c.self.inside.member c.args.event.now o c.step-outcome.new.self) w.in-Moved.is stepped) in let left = leave_moved _ c.args.event.now _ _ _ w.as_slice-packets.result.now _ _ _ _ _ _ _ _ c.self.invariant.0 stepped w.in-Moved.is c.reserve.ensures.items w.as_slice-packets.ensures.value (to_z-of_z w64 w.in-Moved.offset (small_fits _ both.1)) w.corrected-self-inside.ensures w.least_with-self-inside.ensures c.self.invariant.1 c.self.invariant.2 in
          subst Done (sym w.self-is) (does_at _ _ _ _ _ c.self.view_is left.does)
      | in-Idle w ↦ let left = leave_idle _ c.args.event.now _ _ _ _ _ c.self.invariant.0 stepped w.in-Idle.is c.reserve.ensures.items c.self.invariant.1 c.self.invariant.2 in
          subst Done (sym w.self-is) (does_at _ _ _ _ _ c.self.view_is left.does)
      | in-Refused w ↦ let left = leave_refused _ c.args.event.now _ _ _ _ _ _ c.self.invariant.0 stepped w.in-Refused.is c.reserve.ensures.items c.self.invariant.1 c.self.invariant.2 in
          subst Done (sym w.self-is) (does_at _ _ _ _ _ c.self.view_is left.does)
    ]
