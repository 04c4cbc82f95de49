-- The packets of a world: when each was sent, and what those to the controller are.
use Rattle.std.proofs.Common.{◌≡◌, ◌⊎◌, ℕ, ◌<◌, ◌≤◌, ◌^◌, max, List, [], ◌∷◌, length, inl, inr, subst, sym, ◌∙◌, ap, arith, ℤ}
use Rattle.std.specs.List.{Contains}
use Rattle.std.proofs.lemmas.List.Elements.{Contains-append_cases}
use Rattle.base_specs.specs.Time.{IsReading}
use Rattle.capture_fmt.specs.declared.event.Event.{Event}
use Rattle.capture_fmt.specs.declared.event.Event.TheVariants.{Life, Tick, Resync, Arrive}
use Rattle.dc_sign.specs.declared.outcome.Answer.{Answer}
use Rattle.dc_sign.specs.declared.outcome.Answer.TheVariants as answer
use Rattle.ntp_wire.specs.Fields.{transmit_of}
use Rattle.time_machine.specs.declared.outcome.Outcome.{Outcome}
use Rattle.time_machine.specs.declared.outcome.Request.{Request}
use Rattle.time_machine.specs.declared.outcome.Outcome.TheVariants.{Started, Idle, Sent, Moved, Refused}
use Rattle.time_machine.specs.Machine.{count_at, outcome_at, stamp_at, told}
use Rattle.time_machine.specs.Told.{count_sent}
use Rattle.time_machine.specs.Events.{word_of}
use Rattle.time_machine.specs.Words.{words}
use Rattle.sntp_world.specs.declared.moment.Moment.{Moment}
use Rattle.sntp_world.specs.declared.op.Op.{Op}
use Rattle.sntp_world.specs.declared.op.Effect.{Effect}
use Rattle.sntp_world.specs.declared.packet.Destination.TheVariants as to
use Rattle.sntp_world.specs.declared.packet.Packet.{Packet}
use Rattle.sntp_world.specs.Setting.{world_conf, world_rid}
use Rattle.sntp_world.specs.State.{State}
use Rattle.sntp_world.specs.Steps.{Asks, Leaves, MayPass, Passes, Skips, WorldAfter, packets_after, words_in}
use Rattle.sntp_world.proofs.Cases.{Cases, TakesNow, always}
use Rattle.sntp_world.specs.Laws.{AreClocks}
use Rattle.sntp_world.proofs.Clocks.{clocks_after, first_clocks}
use Rattle.sntp_world.proofs.Histories.{Lives, history_after}
use Rattle.sntp_world.proofs.Sending.{Fits, IsSentBy, Opens, fits_by, opens_after, seconds_sent, whole_sent}

-- a packet of the list is the first one or a later one
pub first_or : {A : Type 0} (x : A) (xs : List A) (y : A) → Contains (x ∷ xs) y → (x ≡ y) ⊎ Contains xs y
first_or x xs y c = elim (Contains-append_cases (x ∷ []) xs y c) [
  | inl h ↦ let k : h.0 ≡ 0 = omega (arith, h.1) in inl (rw k at h.2)
  | inr h ↦ inr h
]

-- A packet was sent at readings, when the clocks had run no more unevenly. One to the controller is no shorter than a
-- header, and its count was sent.
pub record IsSound (uneven greatest : ℕ) (p : Packet) : Type 0 where
  pub member : IsReading p.at.member
  pub controller : IsReading p.at.controller
  pub uneven_then : p.at.uneven ≤ uneven
  pub whole : p.to ≡ to.Controller → 48 ≤ length p.bytes
  pub counted : p.to ≡ to.Controller → (transmit_of p.bytes).seconds ≤ greatest

abbrev pub AreSound : ℕ → ℕ → List Packet → Type 0
AreSound uneven greatest packets = (p : Packet) → Contains packets p → IsSound uneven greatest p

-- the clocks have run at least as unevenly, and more may have been sent
weaker : (uneven later greatest more : ℕ) (p : Packet) → uneven ≤ later → greatest ≤ more → IsSound uneven greatest p → IsSound later more p
weaker uneven later greatest more p on up is = record {
  member = is.member;
  controller = is.controller;
  uneven_then = let h = is.uneven_then in omega arith;
  whole = is.whole;
  counted = λ (e : p.to ≡ to.Controller). let h = is.counted e in omega arith;
}

-- one more packet, sent now
one_more : (uneven greatest : ℕ) (p : Packet) (ps : List Packet) → IsSound uneven greatest p → AreSound uneven greatest ps → AreSound uneven greatest (p ∷ ps)
one_more uneven greatest p ps is are q c = elim (first_or p ps q c) [
  | inl same ↦ subst (IsSound uneven greatest) same is
  | inr later ↦ are q later
]

-- ---- Replies

reply_sound : (at : Moment) (greatest : ℕ) (bytes : List ℕ) → AreClocks at → IsSound at.uneven greatest (record { to = to.Member; bytes = bytes; at = at })
reply_sound at greatest bytes clocks = record {
  member = clocks.member;
  controller = clocks.controller;
  uneven_then = omega arith;
  whole = λ (e : to.Member ≡ to.Controller). absurd (let no : ⊥ = cc in no);
  counted = λ (e : to.Member ≡ to.Controller). absurd (let no : ⊥ = cc in no);
}

answered : (w : State) (a : Answer) (greatest : ℕ) → AreClocks w.now → AreSound w.now.uneven greatest w.packets → AreSound w.now.uneven greatest (packets_after w a)
answered w (answer.Signed reply) greatest clocks are = one_more _ _ _ w.packets (reply_sound w.now greatest reply clocks) are
answered w (answer.Plain reply) greatest clocks are = one_more _ _ _ w.packets (reply_sound w.now greatest reply clocks) are
answered w (answer.Refused reason) greatest clocks are = are

-- ---- Events

-- the greatest count after an event
greatest_after : (w : State) (e : Event) (now : State) → now.history ≡ e ∷ w.history
    → (words_in now).greatest ≡ max (count_sent (outcome_at world_conf w.history e)) (words_in w).greatest
unfolding words told outcome_at
greatest_after w e now same = ap (λ (h : List Event). (words world_conf (told world_conf h)).greatest) same

-- more may have been sent
more_sent : (uneven greatest more : ℕ) (ps : List Packet) → greatest ≤ more → AreSound uneven greatest ps → AreSound uneven more ps
more_sent uneven greatest more ps up are q c = weaker uneven uneven greatest more q (omega arith) up (are q c)

request_sound : (w : State) (e : Event) (count greatest : ℕ) (bytes : List ℕ) → AreClocks w.now → IsSentBy (words_in w) e count bytes → count < 2 ^ 32
    → count ≤ greatest → IsSound w.now.uneven greatest (record { to = to.Controller; bytes = bytes; at = w.now })
request_sound w e count greatest bytes clocks sent fits low =
    let counted = sent.counted in
    let below : count_at (words_in w) < 2 ^ 32 = omega arith in
    let seconds = ap (λ (l : List ℕ). (transmit_of l).seconds) sent.written ∙ seconds_sent world_rid sent.poll (stamp_at (words_in w) (word_of e)) below in
    record {
      member = clocks.member;
      controller = clocks.controller;
      uneven_then = omega arith;
      whole = λ (same : to.Controller ≡ to.Controller). subst (λ (l : List ℕ). 48 ≤ length l) (sym sent.written) (whole_sent world_rid sent.poll (stamp_at (words_in w) (word_of e)));
      counted = λ (same : to.Controller ≡ to.Controller). omega (arith, seconds, counted, low);
    }

-- the packets after an event
sound_after : (w : State) (e : Event) (o : Outcome) (now : State) (opened : List Request) (greatest : ℕ) → AreClocks w.now
    → AreSound w.now.uneven (words_in w).greatest w.packets → Opens (words_in w) e o opened → Fits o
    → greatest ≡ max (count_sent o) (words_in w).greatest → Leaves w e o now → AreSound now.now.uneven greatest now.packets
sound_after w e (Sent addr count bytes) now opened greatest clocks are opens fits up is =
    subst (λ (s : State). AreSound s.now.uneven greatest s.packets) (sym is)
    (one_more _ _ _ w.packets (request_sound w e count greatest bytes clocks opens.0 fits (omega arith)) (more_sent _ _ greatest w.packets (omega arith) are))
sound_after w (Arrive at from reply) (Moved count offset how) now opened greatest clocks are opens fits up is =
    subst (λ (s : State). AreSound s.now.uneven greatest s.packets) (sym is.2) (more_sent _ _ greatest w.packets (omega arith) are)
sound_after w (Life at mark) (Moved count offset how) now opened greatest clocks are opens fits up is = absurd is
sound_after w (Tick at word) (Moved count offset how) now opened greatest clocks are opens fits up is = absurd is
sound_after w (Resync at word flags) (Moved count offset how) now opened greatest clocks are opens fits up is = absurd is
sound_after w e (Started mark) now opened greatest clocks are opens fits up is =
    subst (λ (s : State). AreSound s.now.uneven greatest s.packets) (sym is) (more_sent _ _ greatest w.packets (omega arith) are)
sound_after w e Idle now opened greatest clocks are opens fits up is =
    subst (λ (s : State). AreSound s.now.uneven greatest s.packets) (sym is) (more_sent _ _ greatest w.packets (omega arith) are)
sound_after w e (Refused reason) now opened greatest clocks are opens fits up is =
    subst (λ (s : State). AreSound s.now.uneven greatest s.packets) (sym is) (more_sent _ _ greatest w.packets (omega arith) are)

-- ---- Each world

-- clocks and packets together
pub record HasPackets (w : State) : Type 0 where
  pub clocks : AreClocks w.now
  pub sound : AreSound w.now.uneven (words_in w).greatest w.packets

pub packets_led : (w : State) → Lives w → HasPackets w → Cases HasPackets w
packets_led w lives has = record {
  skips = λ (effect : Effect) (now : State) (is : Skips w effect now). subst HasPackets (sym is.1) (record { clocks = has.clocks; sound = has.sound });
  passes = λ (d : ℕ) (e f : ℤ) (effect : Effect) (now : State) (may : MayPass d e f w.now) (is : Passes d e f w effect now).
      subst HasPackets (sym is.1) (record {
        clocks = record { member = may.member; controller = may.controller; uneven = may.uneven };
        sound = λ (p : Packet) (c : Contains w.packets p). weaker _ _ _ _ p (omega arith) (omega arith) (has.sound p c);
      });
  asks = λ (bytes : List ℕ) (effect : Effect) (now : State) (is : Asks bytes w effect now).
      subst HasPackets (sym is.now_is) (record { clocks = has.clocks; sound = answered w is.answer _ has.clocks has.sound });
  takes = λ (effect : Effect) (now : State) (is : TakesNow w effect now).
      let same = history_after w is.event _ now is.takes.1 in
      record {
        clocks = clocks_after w is.event _ now has.clocks is.takes.1;
        sound = sound_after w is.event _ now _ _ has.clocks has.sound (opens_after w is.event now same) (fits_by w is.event is.follows)
            (greatest_after w is.event now same) is.takes.1;
      };
}

none_sent : (uneven greatest : ℕ) → AreSound uneven greatest []
none_sent uneven greatest p c = absurd (omega (arith, c.1))

pub packets_always : (ops : List Op) (w : State) → WorldAfter ops w → HasPackets w
packets_always ops w is =
    always HasPackets (record { clocks = first_clocks; sound = none_sent _ _ }) packets_led ops w is
