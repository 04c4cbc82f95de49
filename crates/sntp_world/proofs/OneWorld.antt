-- Operations lead to one world, and a script to one run.
use Rattle.std.proofs.Common.{◌≡◌, ℕ, List, [], ◌∷◌, ◌++◌, inl, inr, refl, subst, sym, ◌∙◌, ap, arith, ℤ}
use Rattle.std.specs.Prelude.{Option, Some, None, slice_get, reverse, ◌+ℤ◌, ◌≤ℤ◌, All}
use Rattle.std.specs.List.{Contains, flat_map}
use Rattle.std.proofs.lemmas.Int.{ints}
use Rattle.std.proofs.lemmas.List.Elements.{All-contains}
use Rattle.capture_fmt.specs.Record.{event_bytes}
use Rattle.capture_fmt.specs.declared.event.Event.{Event}
use Rattle.capture_fmt.specs.declared.event.Event.TheVariants.{Life, Tick, Resync, Arrive}
use Rattle.dc_sign.specs.declared.info.ServerInfo.{ServerInfo}
use Rattle.dc_sign.specs.declared.outcome.Answer.{Answer}
use Rattle.dc_sign.specs.Reply.{Answers}
use Rattle.dc_sign.proofs.Uniqueness.{one_answer, one_local}
use Rattle.time_machine.specs.declared.outcome.Outcome.{Outcome}
use Rattle.time_machine.specs.declared.outcome.Outcome.TheVariants.{Started, Idle, Sent, Moved, Refused}
use Rattle.time_machine.specs.Machine.{outcome_at}
use Rattle.sntp_world.specs.declared.op.Op.{Op}
use Rattle.sntp_world.specs.declared.op.Op.TheVariants.{Pass, Poll, Deliver, Ask, Craft, Restart}
use Rattle.sntp_world.specs.declared.op.Effect.{Effect}
use Rattle.sntp_world.specs.declared.op.Effect.TheVariants as effect
use Rattle.sntp_world.specs.declared.packet.Destination.{Destination}
use Rattle.sntp_world.specs.declared.packet.Destination.TheVariants as to
use Rattle.sntp_world.specs.declared.packet.Packet.{Packet}
use Rattle.sntp_world.specs.Draws.{script_of}
use Rattle.sntp_world.specs.Setting.{world_account, world_conf}
use Rattle.sntp_world.specs.Simulation.{WritesWhole}
use Rattle.sntp_world.specs.State.{Correction, IsLeastSlack, State, slack_of}
use Rattle.sntp_world.specs.Steps.{Asks, DeliversTo, IsAnsweredBy, Leads, Leaves, Skips, Takes, WorldAfter, correction_by, nearest_reading, packets_after}
use Rattle.sntp_world.specs.Summary.{member_line, moved_in, ops_line, refused_in, sent_in, slack_line}
use Rattle.sntp_world.proofs.Stamps.{HasStamps, one_request, stamps_always}

-- ---- One operation

-- a reply answers one packet, since no timestamp is sent twice
one_answered : (w : State) (reply : List ℕ) (a b : Packet) → HasStamps w → IsAnsweredBy w reply a → IsAnsweredBy w reply b → a ≡ b
one_answered w reply a b has first next =
    one_request w.packets a b has.stamped.rise first.sent next.sent first.asks next.asks (first.answered ∙ sym next.answered)

one_left : (w : State) (e : Event) (o : Outcome) (a b : State) → HasStamps w → Leaves w e o a → Leaves w e o b → a ≡ b
one_left w e (Sent addr count bytes) a b has first next = first ∙ sym next
one_left w (Arrive at from reply) (Moved count offset how) a b has first next =
    let After : Packet → State = λ (p : Packet). record w {
      history = Arrive at from reply ∷ w.history;
      now = record w.now { member = nearest_reading (w.now.member +ℤ offset) };
      corrections = correction_by w.now reply offset p ∷ w.corrections;
    } in
    first.2 ∙ ap After (one_answered w reply first.0 next.0 has first.1 next.1) ∙ sym next.2
one_left w (Life at mark) (Moved count offset how) a b has first next = absurd first
one_left w (Tick at word) (Moved count offset how) a b has first next = absurd first
one_left w (Resync at word flags) (Moved count offset how) a b has first next = absurd first
one_left w e (Started mark) a b has first next = first ∙ sym next
one_left w e Idle a b has first next = first ∙ sym next
one_left w e (Refused reason) a b has first next = first ∙ sym next

-- both led to the same
abbrev AreOne : Effect → Effect → State → State → Type 0
AreOne x y a b = (x ≡ y) × (a ≡ b)

one_skipped : (w : State) (x y : Effect) (a b : State) → Skips w x a → Skips w y b → AreOne x y a b
one_skipped w x y a b first next = (first.0 ∙ sym next.0, first.1 ∙ sym next.1)

one_taken : (e : Event) (w : State) (x y : Effect) (a b : State) → HasStamps w → Takes e w x a → Takes e w y b → AreOne x y a b
one_taken e w x y a b has first next =
    (first.0 ∙ sym next.0, one_left w e (outcome_at world_conf w.history e) a b has first.1 next.1)

-- a request has one answer
one_asked : (bytes : List ℕ) (w : State) (x y : Effect) (a b : State) → Asks bytes w x a → Asks bytes w y b → AreOne x y a b
one_asked bytes w x y a b first next =
    let info = one_local w.now.controller first.info next.info first.local next.local in
    let By : ServerInfo → Type 0 = λ (i : ServerInfo). Answers (world_account ∷ []) i bytes w.now.controller w.now.controller first.answer in
    let answer = one_answer (world_account ∷ []) next.info bytes w.now.controller w.now.controller first.answer next.answer (subst By info first.answers) next.answers in (
      first.effect_is ∙ ap effect.Answered answer ∙ sym next.effect_is,
      first.now_is ∙ ap (λ (g : Answer). record w { packets = packets_after w g }) answer ∙ sym next.now_is,
    )

one_delivered : (d : Destination) (bytes : List ℕ) (w : State) (x y : Effect) (a b : State) → HasStamps w → DeliversTo d bytes w x a → DeliversTo d bytes w y b → AreOne x y a b
one_delivered to.Controller bytes w x y a b has first next = one_asked bytes w x y a b first next
one_delivered to.Member bytes w x y a b has first next = one_taken _ w x y a b has first next

one_packet : (o : Option Packet) (p q : Packet) → o ≡ Some p → o ≡ Some q → p ≡ q
one_packet o p q first next = cc

pub one_led : (op : Op) (w : State) (x y : Effect) (a b : State) → HasStamps w → Leads op w x a → Leads op w y b → AreOne x y a b
one_led (Pass d e f) w x y a b has (inl first) (inl next) = (first.1.0 ∙ sym next.1.0, first.1.1 ∙ sym next.1.1)
one_led (Pass d e f) w x y a b has (inl first) (inr next) = absurd (next.0 first.0)
one_led (Pass d e f) w x y a b has (inr first) (inl next) = absurd (first.0 next.0)
one_led (Pass d e f) w x y a b has (inr first) (inr next) = one_skipped w x y a b first.1 next.1
one_led (Poll word) w x y a b has (inl first) (inl next) = one_taken _ w x y a b has first.1 next.1
one_led (Poll word) w x y a b has (inl first) (inr next) = absurd (next.0 first.0)
one_led (Poll word) w x y a b has (inr first) (inl next) = absurd (first.0 next.0)
one_led (Poll word) w x y a b has (inr first) (inr next) = one_skipped w x y a b first.1 next.1
one_led (Deliver back) w x y a b has (inl first) (inl next) =
    let same = one_packet (slice_get w.packets back) first.0 next.0 first.1 next.1 in
    one_delivered next.0.to next.0.bytes w x y a b has (subst (λ (p : Packet). DeliversTo p.to p.bytes w x a) same first.2) next.2
one_led (Deliver back) w x y a b has (inl first) (inr next) = let is = first.1 in let isnt = next.0 in absurd cc
one_led (Deliver back) w x y a b has (inr first) (inl next) = let is = next.1 in let isnt = first.0 in absurd cc
one_led (Deliver back) w x y a b has (inr first) (inr next) = one_skipped w x y a b first.1 next.1
one_led (Ask bytes) w x y a b has (inl first) (inl next) = one_skipped w x y a b first.1 next.1
one_led (Ask bytes) w x y a b has (inl first) (inr next) = absurd (next.0 first.0)
one_led (Ask bytes) w x y a b has (inr first) (inl next) = absurd (first.0 next.0)
one_led (Ask bytes) w x y a b has (inr first) (inr next) = one_asked bytes w x y a b first.1 next.1
one_led (Craft bytes) w x y a b has (inl first) (inl next) = one_skipped w x y a b first.1 next.1
one_led (Craft bytes) w x y a b has (inl first) (inr next) = absurd (next.0 first.0)
one_led (Craft bytes) w x y a b has (inr first) (inl next) = absurd (first.0 next.0)
one_led (Craft bytes) w x y a b has (inr first) (inr next) = one_taken _ w x y a b has first.1 next.1
one_led Restart w x y a b has (inl first) (inl next) = one_taken _ w x y a b has first.1 next.1
one_led Restart w x y a b has (inl first) (inr next) = let low = first.0 in let high = next.0 in absurd (omega arith)
one_led Restart w x y a b has (inr first) (inl next) = let low = next.0 in let high = first.0 in absurd (omega arith)
one_led Restart w x y a b has (inr first) (inr next) = one_skipped w x y a b first.1 next.1

-- ---- All of them

pub one_world : (ops : List Op) (a b : State) → WorldAfter ops a → WorldAfter ops b → a ≡ b
one_world [] a b first next = first ∙ sym next
one_world (op ∷ ops) a b first next =
    let same = one_world ops first.0 next.0 first.2 next.2 in
    (one_led op next.0 first.1 next.1 a b (stamps_always ops next.0 next.2) (subst (λ (s : State). Leads op s first.1 a) same first.3) next.3).1

-- ---- A run

one_slack : (cs : List Correction) (s t : Option ℤ) → IsLeastSlack cs s → IsLeastSlack cs t → s ≡ t
one_slack cs None None first next = refl
one_slack cs None (Some t) first next = absurd (none_there next.0.0 (subst (λ (l : List Correction). Contains l next.0.0) first next.0.1))
  where
    none_there : (c : Correction) → Contains [] c → ⊥
    none_there c is = omega (arith, is.1)
one_slack cs (Some s) None first next = absurd (none_there first.0.0 (subst (λ (l : List Correction). Contains l first.0.0) next first.0.1))
  where
    none_there : (c : Correction) → Contains [] c → ⊥
    none_there c is = omega (arith, is.1)
one_slack cs (Some s) (Some t) first next =
    let low = subst (λ (z : ℤ). s ≤ℤ z) next.0.2 (All-contains (λ (c : Correction). s ≤ℤ slack_of c) cs next.0.0 first.1 next.0.1) in
    let high = subst (λ (z : ℤ). t ≤ℤ z) first.0.2 (All-contains (λ (c : Correction). t ≤ℤ slack_of c) cs first.0.0 next.1 first.0.1) in
    let same : s ≡ t = omega (arith, ints) in
    ap Some same

-- two whole runs of a script write the same
pub one_run : (seed n : ℕ) (c d p q : List ℕ) → WritesWhole seed n c p → WritesWhole seed n d q → (c ≡ d) × (p ≡ q)
one_run seed n c d p q first next =
    let same = one_world (reverse (script_of seed n)) first.state next.state first.after next.after in
    let slack = one_slack next.state.corrections first.summary.slack next.summary.slack
    (subst (λ (w : State). IsLeastSlack w.corrections first.summary.slack) same first.summary.least) next.summary.least in
    let Lines : State → Option ℤ → List ℕ = λ (w : State) (s : Option ℤ). ops_line n w.skipped ++ member_line (sent_in w) (moved_in w) (refused_in w) ++ slack_line s in (
      first.capture.written ∙ ap (λ (w : State). flat_map event_bytes (reverse w.history)) same ∙ sym next.capture.written,
      first.summary.written ∙ ap (λ (w : State). Lines w first.summary.slack) same ∙ ap (Lines next.state) slack ∙ sym next.summary.written,
    )
