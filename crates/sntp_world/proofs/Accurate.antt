-- Each correction is within its bound, where the clocks are near each other before each operation.
use Rattle.std.proofs.Common.{◌≡◌, ℕ, List, [], ◌∷◌, length, inl, inr, refl, subst, sym, ◌∙◌, ap, arith, ℤ, pos}
use Rattle.std.specs.Prelude.{◌+ℤ◌, ◌-ℤ◌, ◌≤ℤ◌, All}
use Rattle.std.specs.List.{Contains}
use Rattle.std.proofs.lemmas.Int.{ints}
use Rattle.std.proofs.lemmas.List.Elements.{All-cons, All-nil}
use Rattle.capture_fmt.specs.declared.event.Event.{Event}
use Rattle.capture_fmt.specs.declared.event.Event.TheVariants.{Life, Tick, Resync, Arrive}
use Rattle.dc_sign.specs.declared.outcome.Answer.{Answer}
use Rattle.dc_sign.specs.declared.outcome.Answer.TheVariants as answer
use Rattle.edge_traits.specs.declared.datagram.Addr.{Addr}
use Rattle.ms_auth.specs.declared.packet.Kind.TheVariants.{Short}
use Rattle.time_machine.specs.declared.outcome.How.{How}
use Rattle.ntp_wire.specs.Fields.{mode_of, originate_of, receive_of, transmit_of}
use Rattle.ntp_wire.specs.Stamp.{IsStampOf, ticks_of}
use Rattle.time_machine.specs.declared.outcome.Outcome.{Outcome}
use Rattle.time_machine.specs.declared.outcome.Outcome.TheVariants.{Started, Idle, Sent, Moved, Refused}
use Rattle.time_machine.specs.Events.{reading_of}
use Rattle.time_machine.specs.Machine.{outcome_at}
use Rattle.time_machine.specs.Verdict.{delay_of, offset_of}
use Rattle.sntp_world.specs.declared.moment.Moment.{Moment}
use Rattle.sntp_world.specs.declared.op.Op.{Op}
use Rattle.sntp_world.specs.declared.op.Effect.{Effect}
use Rattle.sntp_world.specs.declared.packet.Destination.{Destination}
use Rattle.sntp_world.specs.declared.packet.Destination.TheVariants as to
use Rattle.sntp_world.specs.declared.packet.Packet.{Packet}
use Rattle.sntp_world.specs.Accuracy.{IsWithinBound}
use Rattle.sntp_world.specs.Setting.{world_conf}
use Rattle.sntp_world.specs.State.{Correction, State, first_state}
use Rattle.sntp_world.specs.Steps.{AreNear, Asks, Forges, Guesses, IsAnsweredBy, Leaves, MayPass, Passes, Skips, StayNear, WorldAfter, correction_by, packets_after, words_in}
use Rattle.sntp_world.proofs.Accepting.{Passed, answered_soon, arrival_passed, brought_back}
use Rattle.sntp_world.proofs.Allowed.{Allowed, IsNotForged, led_allowed, was_sent}
use Rattle.sntp_world.proofs.Bounds.{given_back, in_reach, within_bound}
use Rattle.sntp_world.proofs.Cases.{TakesNow, lives_always}
use Rattle.sntp_world.proofs.Made.{made_of}
use Rattle.sntp_world.proofs.Ongoing.{HasOngoing, ongoing_always}
use Rattle.sntp_world.proofs.Packets.{first_or}
use Rattle.sntp_world.proofs.Requests.{HasRequests, requests_always}
use Rattle.sntp_world.proofs.Stamps.{one_request}

-- ---- One correction

-- it is within its bound, and its delay is ten seconds at most
pub record IsGood (c : Correction) : Type 0 where
  pub bound : IsWithinBound c
  pub soon : c.delay ≤ℤ pos 100000000

goes_back : (d : Destination) → (d ≡ to.Controller → ⊥) → d ≡ to.Member
goes_back to.Controller other = absurd (other refl)
goes_back to.Member other = refl

soon_by : (m1 c m4 : ℤ) → m4 ≤ℤ (m1 +ℤ pos 100000000) → delay_of m1 c c m4 ≤ℤ pos 100000000
soon_by m1 c m4 soon = omega (arith, ints)

-- both times of the reply are that of its making
by_times : (sent came : Moment) (made t2 t3 offset : ℤ) → t2 ≡ made → t3 ≡ made → offset_of sent.member t2 t3 came.member ≡ offset
    → IsGood (record { offset = offset_of sent.member made made came.member; ahead = came.controller -ℤ came.member; delay = delay_of sent.member made made came.member; sent = sent.uneven; came = came.uneven })
    → IsGood (record { offset = offset; ahead = came.controller -ℤ came.member; delay = delay_of sent.member t2 t3 came.member; sent = sent.uneven; came = came.uneven })
by_times sent came made t2 t3 offset first next is good =
    let Good : ℤ → ℤ → ℤ → Type 0 = λ (a b o : ℤ).
    IsGood (record { offset = o; ahead = came.controller -ℤ came.member; delay = delay_of sent.member a b came.member; sent = sent.uneven; came = came.uneven }) in
    subst (Good t2 t3) is
    (subst (λ (b : ℤ). Good t2 b (offset_of sent.member t2 b came.member)) (sym next)
    (subst (λ (a : ℤ). Good a made (offset_of sent.member a made came.member)) (sym first) good))

pub corrects : (w : State) (bytes : List ℕ) (offset : ℤ) (request : Packet) → HasOngoing w → HasRequests w → ((p : Packet) → Contains w.packets p → AreNear p.at)
    → (Forges w bytes → ⊥) → Passed (words_in w) w.now.member bytes offset → IsAnsweredBy w bytes request → IsGood (correction_by w.now bytes offset request)
corrects w bytes offset request has requests nears honest p answered =
    let q = was_sent w bytes honest (record { kind = Short; size = p.whole; digest = p.digest }) in
    let goes = goes_back q.packet.to (λ (asks : q.packet.to ≡ to.Controller).
    let three = has.made.stamps.stamped.modes q.packet q.sent asks in
    let same = ap mode_of q.same in
    let four = p.mode in
    omega arith) in
    let long : length q.packet.bytes ≡ 48 → ⊥ = λ (e : length q.packet.bytes ≡ 48). let same = ap length q.same in let whole = p.whole in omega arith in
    let made = made_of w.packets q.packet has.made.made q.sent goes long in
    let back : originate_of q.packet.bytes ≡ transmit_of request.bytes = ap originate_of q.same ∙ sym answered.answered in
    let one : made.request ≡ request = one_request w.packets made.request request has.made.stamps.stamped.rise made.sent answered.sent made.asks answered.asks (sym made.answers ∙ back) in
    let before = subst (λ (x : Packet). x.at.controller ≤ℤ q.packet.at.controller) one made.before in
    let brought = brought_back w.now.member (originate_of bytes) p.request p.answers in
    let is = has.ongoing p.request request p.opened answered.sent answered.asks (answered.answered ∙ brought) in
    let runs = is.replies q.packet q.sent goes long back in
    let left = (requests.there p.request p.opened).only request answered.sent answered.asks (answered.answered ∙ brought) in
    let soon = subst (λ (t : ℤ). w.now.member ≤ℤ (t +ℤ pos 100000000)) (sym left) (answered_soon w.now.member (originate_of bytes) p.request p.answers) in
    let reach = in_reach q.packet.at request.at.member w.now.member (nears q.packet q.sent) runs.0.member runs.1.member soon in
    let received = given_back (receive_of bytes) w.now.member q.packet.at.controller (subst (λ (l : List ℕ). IsStampOf q.packet.at.controller (receive_of l)) q.same made.receive) reach in
    let sent = given_back (transmit_of bytes) w.now.member q.packet.at.controller (subst (λ (l : List ℕ). IsStampOf q.packet.at.controller (transmit_of l)) q.same made.transmit) reach in
    by_times request.at w.now q.packet.at.controller (ticks_of (receive_of bytes) w.now.member) (ticks_of (transmit_of bytes) w.now.member) offset received sent
    (ap (λ (t : ℤ). offset_of t (ticks_of (receive_of bytes) w.now.member) (ticks_of (transmit_of bytes) w.now.member) w.now.member) left ∙ p.moved)
    (record {
      bound = within_bound request.at w.now q.packet.at.controller is.runs before runs.1.controller;
      soon = soon_by request.at.member q.packet.at.controller w.now.member soon;
    })

-- the correction that an arrival led to
pub good_moved : (w : State) (at : ℤ) (from : Addr) (bytes : List ℕ) (count : ℕ) (offset : ℤ) (how : How) (request : Packet) → HasOngoing w → HasRequests w
    → ((p : Packet) → Contains w.packets p → AreNear p.at) → (Forges w bytes → ⊥) → at ≡ w.now.member
    → outcome_at world_conf w.history (Arrive at from bytes) ≡ Moved count offset how → IsAnsweredBy w bytes request → IsGood (correction_by w.now bytes offset request)
unfolding outcome_at
good_moved w at from bytes count offset how request has requests nears honest read is answered =
    corrects w bytes offset request has requests nears honest
    (subst (λ (t : ℤ). Passed (words_in w) t bytes offset) read (arrival_passed (words_in w) at from bytes count offset how is)) answered

-- ---- Each world

-- the clocks were near each other at each sending, and each correction is within its bound
pub record HasAccurate (w : State) : Type 0 where
  pub nears : (p : Packet) → Contains w.packets p → AreNear p.at
  pub bounds : All IsWithinBound w.corrections

near_more : (p : Packet) (ps : List Packet) → AreNear p.at → ((q : Packet) → Contains ps q → AreNear q.at) → (q : Packet) → Contains (p ∷ ps) q → AreNear q.at
near_more p ps near nears q c = elim (first_or p ps q c) [
  | inl e ↦ subst (λ (x : Packet). AreNear x.at) e near
  | inr k ↦ nears q k
]

answered : (w : State) (a : Answer) → AreNear w.now → ((q : Packet) → Contains w.packets q → AreNear q.at) → (q : Packet) → Contains (packets_after w a) q → AreNear q.at
answered w (answer.Signed reply) near nears = near_more _ w.packets near nears
answered w (answer.Plain reply) near nears = near_more _ w.packets near nears
answered w (answer.Refused reason) near nears = nears

accurate_after : (w : State) (e : Event) (o : Outcome) (now : State) → HasOngoing w → HasRequests w → AreNear w.now → HasAccurate w → IsNotForged w e → reading_of e ≡ w.now.member
    → outcome_at world_conf w.history e ≡ o → Leaves w e o now → HasAccurate now
accurate_after w e (Sent addr count bytes) now has requests near are honest read led is =
    subst HasAccurate (sym is) (record { nears = near_more _ w.packets near are.nears; bounds = are.bounds })
accurate_after w (Arrive at from bytes) (Moved count offset how) now has requests near are honest read led is =
    let good = good_moved w at from bytes count offset how is.0 has requests are.nears honest read led is.1 in
    subst HasAccurate (sym is.2) (record { nears = are.nears; bounds = All-cons IsWithinBound (correction_by w.now bytes offset is.0) w.corrections good.bound are.bounds })
accurate_after w (Life at mark) (Moved count offset how) now has requests near are honest read led is = absurd is
accurate_after w (Tick at word) (Moved count offset how) now has requests near are honest read led is = absurd is
accurate_after w (Resync at word flags) (Moved count offset how) now has requests near are honest read led is = absurd is
accurate_after w e (Started mark) now has requests near are honest read led is = subst HasAccurate (sym is) (record { nears = are.nears; bounds = are.bounds })
accurate_after w e Idle now has requests near are honest read led is = subst HasAccurate (sym is) (record { nears = are.nears; bounds = are.bounds })
accurate_after w e (Refused reason) now has requests near are honest read led is = subst HasAccurate (sym is) (record { nears = are.nears; bounds = are.bounds })

pub accurate_led : (w : State) → HasOngoing w → HasRequests w → AreNear w.now → HasAccurate w → Allowed HasAccurate w
accurate_led w has requests near are = record {
  skips = λ (effect : Effect) (now : State) (is : Skips w effect now). subst HasAccurate (sym is.1) (record { nears = are.nears; bounds = are.bounds });
  passes = λ (d : ℕ) (e f : ℤ) (effect : Effect) (now : State) (may : MayPass d e f w.now) (is : Passes d e f w effect now).
      subst HasAccurate (sym is.1) (record { nears = are.nears; bounds = are.bounds });
  asks = λ (bytes : List ℕ) (effect : Effect) (now : State) (honest : Guesses w bytes → ⊥) (is : Asks bytes w effect now).
      subst HasAccurate (sym is.now_is) (record { nears = answered w is.answer near are.nears; bounds = are.bounds });
  takes = λ (effect : Effect) (now : State) (is : TakesNow w effect now) (honest : IsNotForged w is.event).
      accurate_after w is.event _ now has requests near are honest is.read refl is.takes.1;
}

pub first_accurate : HasAccurate first_state
first_accurate = record { nears = λ p c. absurd (omega (arith, c.1)); bounds = All-nil IsWithinBound }

-- ---- Where the clocks stay near

first_near : AreNear first_state.now
first_near = omega arith

near_now : (ops : List Op) (w : State) → StayNear ops → WorldAfter ops w → AreNear w.now
near_now [] w near is = subst (λ (s : State). AreNear s.now) (sym is) first_near
near_now (op ∷ ops) w near is = near.0 w is

-- one operation more
next : (op : Op) (ops : List Op) (w : State) → StayNear ops → (is : WorldAfter (op ∷ ops) w) → HasAccurate is.0 → HasAccurate w
next op ops w near is so_far =
    let before = is.0 in
    let step = accurate_led before (ongoing_always ops before is.2) (requests_always ops before is.2) (near_now ops before near is.2) so_far in
    led_allowed HasAccurate op before is.1 w step (lives_always ops before is.2) is.3

pub accurate_near : (ops : List Op) (w : State) → StayNear ops → WorldAfter ops w → HasAccurate w
accurate_near [] w near is = subst HasAccurate (sym is) first_accurate
accurate_near (op ∷ ops) w near is = next op ops w near.1 is (accurate_near ops is.0 near.1 is.2)

-- where they were near until the last operation, that one is accurate too
pub accurate_next : (op : Op) (ops : List Op) (w : State) → StayNear ops → WorldAfter (op ∷ ops) w → HasAccurate w
accurate_next op ops w near is = next op ops w near is (accurate_near ops is.0 near is.2)
