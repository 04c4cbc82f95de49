-- No timestamp is sent twice, and the controller's clock never ran backward.
use Rattle.std.proofs.Common.{◌≡◌, ℕ, ◌<◌, ◌≤◌, ◌^◌, List, [], ◌∷◌, inl, inr, refl, subst, sym, ◌∙◌, ap, arith, ℤ}
use Rattle.std.specs.Prelude.{◌≤ℤ◌, All}
use Rattle.std.specs.List.{Contains}
use Rattle.std.proofs.lemmas.Int.{ints}
use Rattle.std.proofs.lemmas.List.Elements.{All-contains, All-contains_itself}
use Rattle.capture_fmt.specs.declared.event.Event.{Event}
use Rattle.capture_fmt.specs.declared.event.Event.TheVariants.{Life, Tick, Resync, Arrive}
use Rattle.dc_sign.specs.declared.outcome.Answer.{Answer}
use Rattle.dc_sign.specs.declared.outcome.Answer.TheVariants as answer
use Rattle.ntp_wire.specs.declared.stamp.Stamp.{Stamp}
use Rattle.ntp_wire.specs.Fields.{mode_of, transmit_of}
use Rattle.time_machine.specs.declared.outcome.Outcome.{Outcome}
use Rattle.time_machine.specs.declared.outcome.Outcome.TheVariants.{Started, Idle, Sent, Moved, Refused}
use Rattle.time_machine.specs.declared.outcome.Request.{Request}
use Rattle.time_machine.specs.Events.{word_of}
use Rattle.time_machine.specs.Machine.{count_at, stamp_at}
use Rattle.time_machine.proofs.Counting.{sound_told}
use Rattle.sntp_world.specs.declared.moment.Moment.{Moment}
use Rattle.sntp_world.specs.declared.op.Op.{Op}
use Rattle.sntp_world.specs.declared.op.Effect.{Effect}
use Rattle.sntp_world.specs.declared.packet.Destination.TheVariants as to
use Rattle.sntp_world.specs.declared.packet.Packet.{Packet}
use Rattle.sntp_world.specs.Accuracy.{CountsRise}
use Rattle.sntp_world.specs.Setting.{world_conf, world_rid}
use Rattle.sntp_world.specs.State.{State, first_state}
use Rattle.sntp_world.specs.Steps.{Asks, Leaves, MayPass, Passes, Skips, WorldAfter, packets_after, passed, words_in}
use Rattle.sntp_world.proofs.Bounds.{runs_passed}
use Rattle.sntp_world.proofs.Cases.{Cases, TakesNow, always}
use Rattle.sntp_world.proofs.Histories.{Lives, history_after}
use Rattle.sntp_world.proofs.Packets.{HasPackets, first_or, packets_always, packets_led}
use Rattle.sntp_world.proofs.Sending.{Fits, IsSentBy, Opens, fits_by, opens_after, seconds_sent}

-- ---- A request

-- these bytes are a client's, and their count is above all that were sent
pub record IsNewRequest (w : State) (count : ℕ) (bytes : List ℕ) : Type 0 where
  pub mode : mode_of bytes ≡ 3
  pub seconds : (transmit_of bytes).seconds ≡ count
  pub above : (words_in w).greatest < count

pub new_request : (w : State) (e : Event) (count : ℕ) (bytes : List ℕ) → Lives w → IsSentBy (words_in w) e count bytes → count < 2 ^ 32 → IsNewRequest w count bytes
new_request w e count bytes lives sent fits =
    let counted = sent.counted in
    let below : count_at (words_in w) < 2 ^ 32 = omega arith in
    let told = (sound_told world_conf w.history lives.grows).counted in
    record {
      mode = ap mode_of sent.written;
      seconds = ap (λ (l : List ℕ). (transmit_of l).seconds) sent.written ∙ seconds_sent world_rid sent.poll (stamp_at (words_in w) (word_of e)) below ∙ sym counted;
      above = omega arith;
    }

-- ---- Packets

-- what each element has, all have
each : (P : Packet → Type 0) (ps : List Packet) → ((q : Packet) → Contains ps q → P q) → All P ps
each P ps has k d below = has _ (All-contains_itself ps k d below)

-- where counts rise, two requests with one timestamp are one
pub one_request : (ps : List Packet) (p q : Packet) → CountsRise ps → Contains ps p → Contains ps q → p.to ≡ to.Controller → q.to ≡ to.Controller
    → transmit_of p.bytes ≡ transmit_of q.bytes → p ≡ q
one_request [] p q rise c d asks also same = absurd (omega (arith, c.1))
one_request (x ∷ ps) p q rise c d asks also same = elim (first_or x ps p c) [
  | inl e ↦ elim (first_or x ps q d) [
    | inl f ↦ sym e ∙ f
    | inr k ↦ absurd (not_later x ps p q (rise.0 (ap (λ (y : Packet). y.to) e ∙ asks)) e k also same)
  ]
  | inr k ↦ elim (first_or x ps q d) [
    | inl f ↦ absurd (not_later x ps q p (rise.0 (ap (λ (y : Packet). y.to) f ∙ also)) f k asks (sym same))
    | inr l ↦ one_request ps p q rise.1 k l asks also same
  ]
]
  where
    not_later : (x : Packet) (ps : List Packet) (p q : Packet) → All (λ (y : Packet). y.to ≡ to.Controller → (transmit_of y.bytes).seconds < (transmit_of x.bytes).seconds) ps
        → x ≡ p → Contains ps q → q.to ≡ to.Controller → transmit_of p.bytes ≡ transmit_of q.bytes → ⊥
    not_later x ps p q above e k also same =
        let few = All-contains (λ (y : Packet). y.to ≡ to.Controller → (transmit_of y.bytes).seconds < (transmit_of x.bytes).seconds) ps q above k also in
        let n = ap (λ (y : Packet). (transmit_of y.bytes).seconds) e in
        let m = ap (λ (s : Stamp). s.seconds) same in
        omega arith

-- what holds of packets until a moment
pub record AreStamped (packets : List Packet) (now : ℤ) : Type 0 where
  pub modes : (p : Packet) → Contains packets p → p.to ≡ to.Controller → mode_of p.bytes ≡ 3
  pub rise : CountsRise packets
  pub before : (p : Packet) → Contains packets p → p.at.controller ≤ℤ now

later_on : (packets : List Packet) (now later : ℤ) → now ≤ℤ later → AreStamped packets now → AreStamped packets later
later_on packets now later on are = record {
  modes = are.modes;
  rise = are.rise;
  before = λ (p : Packet) (c : Contains packets p). let h = are.before p c in omega (arith, ints);
}

-- a reply more
reply_more : (packets : List Packet) (at : Moment) (bytes : List ℕ) → AreStamped packets at.controller → AreStamped (record { to = to.Member; bytes = bytes; at = at } ∷ packets) at.controller
reply_more packets at bytes are =
    let reply : Packet = record { to = to.Member; bytes = bytes; at = at } in
    record {
      modes = λ (p : Packet) (c : Contains (reply ∷ packets) p) (asks : p.to ≡ to.Controller).
          are.modes p (older reply packets p refl c asks) asks;
      rise = (λ (asks : to.Member ≡ to.Controller). absurd (let no : ⊥ = cc in no), are.rise);
      before = λ (p : Packet) (c : Contains (reply ∷ packets) p). elim (first_or reply packets p c) [
        | inl e ↦ let h = ap (λ (x : Packet). x.at.controller) e in omega (arith, ints)
        | inr k ↦ are.before p k
      ];
    }
  where
    older : (reply : Packet) (packets : List Packet) (p : Packet) → reply.to ≡ to.Member → Contains (reply ∷ packets) p → p.to ≡ to.Controller → Contains packets p
    older reply packets p back c asks = elim (first_or reply packets p c) [
      | inl e ↦ let h = sym back ∙ ap (λ (x : Packet). x.to) e ∙ asks in absurd (let no : ⊥ = cc in no)
      | inr k ↦ k
    ]

-- a request more
request_more : (packets : List Packet) (at : Moment) (greatest count : ℕ) (bytes : List ℕ) → AreStamped packets at.controller
    → ((p : Packet) → Contains packets p → p.to ≡ to.Controller → (transmit_of p.bytes).seconds ≤ greatest)
    → mode_of bytes ≡ 3 → (transmit_of bytes).seconds ≡ count → greatest < count
    → AreStamped (record { to = to.Controller; bytes = bytes; at = at } ∷ packets) at.controller
request_more packets at greatest count bytes are low mode seconds above =
    let new : Packet = record { to = to.Controller; bytes = bytes; at = at } in
    record {
      modes = λ (p : Packet) (c : Contains (new ∷ packets) p) (asks : p.to ≡ to.Controller). elim (first_or new packets p c) [
        | inl e ↦ ap (λ (x : Packet). mode_of x.bytes) (sym e) ∙ mode
        | inr k ↦ are.modes p k asks
      ];
      rise = (
        λ (asks : to.Controller ≡ to.Controller).
            each (λ (q : Packet). q.to ≡ to.Controller → (transmit_of q.bytes).seconds < (transmit_of bytes).seconds) packets
            (λ (q : Packet) (k : Contains packets q) (also : q.to ≡ to.Controller). let few = low q k also in omega arith),
        are.rise,
      );
      before = λ (p : Packet) (c : Contains (new ∷ packets) p). elim (first_or new packets p c) [
        | inl e ↦ let h = ap (λ (x : Packet). x.at.controller) e in omega (arith, ints)
        | inr k ↦ are.before p k
      ];
    }

answered : (w : State) (a : Answer) → AreStamped w.packets w.now.controller → AreStamped (packets_after w a) w.now.controller
answered w (answer.Signed reply) are = reply_more w.packets w.now reply are
answered w (answer.Plain reply) are = reply_more w.packets w.now reply are
answered w (answer.Refused reason) are = are

-- ---- Each world

-- with what holds of packets anyway
pub record HasStamps (w : State) : Type 0 where
  pub packets : HasPackets w
  pub stamped : AreStamped w.packets w.now.controller

stamped_after : (w : State) (e : Event) (o : Outcome) (now : State) (opened : List Request) → Lives w → HasStamps w → Opens (words_in w) e o opened → Fits o → Leaves w e o now
    → AreStamped now.packets now.now.controller
stamped_after w e (Sent addr count bytes) now opened lives has opens fits is =
    let new = new_request w e count bytes lives opens.0 fits in
    subst (λ (s : State). AreStamped s.packets s.now.controller) (sym is)
    (request_more w.packets w.now (words_in w).greatest count bytes has.stamped (λ p c asks. (has.packets.sound p c).counted asks) new.mode new.seconds new.above)
stamped_after w (Arrive at from reply) (Moved count offset how) now opened lives has opens fits is =
    subst (λ (s : State). AreStamped s.packets s.now.controller) (sym is.2) has.stamped
stamped_after w (Life at mark) (Moved count offset how) now opened lives has opens fits is = absurd is
stamped_after w (Tick at word) (Moved count offset how) now opened lives has opens fits is = absurd is
stamped_after w (Resync at word flags) (Moved count offset how) now opened lives has opens fits is = absurd is
stamped_after w e (Started mark) now opened lives has opens fits is = subst (λ (s : State). AreStamped s.packets s.now.controller) (sym is) has.stamped
stamped_after w e Idle now opened lives has opens fits is = subst (λ (s : State). AreStamped s.packets s.now.controller) (sym is) has.stamped
stamped_after w e (Refused reason) now opened lives has opens fits is = subst (λ (s : State). AreStamped s.packets s.now.controller) (sym is) has.stamped

pub stamps_led : (w : State) → Lives w → HasStamps w → Cases HasStamps w
stamps_led w lives has =
    let packets = packets_led w lives has.packets in
    let Stamped : State → Type 0 = λ (s : State). AreStamped s.packets s.now.controller in
    record {
      skips = λ (effect : Effect) (now : State) (is : Skips w effect now).
          record { packets = packets.skips effect now is; stamped = subst Stamped (sym is.1) has.stamped };
      passes = λ (d : ℕ) (e f : ℤ) (effect : Effect) (now : State) (may : MayPass d e f w.now) (is : Passes d e f w effect now).
          record {
            packets = packets.passes d e f effect now may is;
            stamped = subst Stamped (sym is.1) (later_on w.packets w.now.controller (passed d e f w.now).controller (runs_passed d e f w.now may).controller has.stamped);
          };
      asks = λ (bytes : List ℕ) (effect : Effect) (now : State) (is : Asks bytes w effect now).
          record { packets = packets.asks bytes effect now is; stamped = subst Stamped (sym is.now_is) (answered w is.answer has.stamped) };
      takes = λ (effect : Effect) (now : State) (is : TakesNow w effect now).
          record {
            packets = packets.takes effect now is;
            stamped = stamped_after w is.event _ now _ lives has (opens_after w is.event now (history_after w is.event _ now is.takes.1)) (fits_by w is.event is.follows) is.takes.1;
          };
    }

pub none_stamped : (now : ℤ) → AreStamped [] now
none_stamped now = record {
  modes = λ p c asks. absurd (omega (arith, c.1));
  rise = tt;
  before = λ p c. absurd (omega (arith, c.1));
}

pub stamps_always : (ops : List Op) (w : State) → WorldAfter ops w → HasStamps w
stamps_always ops w is =
    always HasStamps (record { packets = packets_always [] first_state refl; stamped = none_stamped _ }) stamps_led ops w is
