-- While a request is open, no clock was corrected since it was sent, nor since a reply to it was made.
use Rattle.std.proofs.Common.{◌≡◌, ◌⊎◌, ℕ, ◌<◌, ◌≤◌, List, [], ◌∷◌, ◌++◌, length, inl, inr, refl, subst, sym, ◌∙◌, ap, arith, ℤ}
use Rattle.std.specs.List.{AllByRecursion, Contains}
use Rattle.capture_fmt.specs.declared.event.Event.{Event}
use Rattle.capture_fmt.specs.declared.event.Event.TheVariants.{Life, Tick, Resync, Arrive}
use Rattle.dc_sign.specs.declared.outcome.Answer.{Answer}
use Rattle.dc_sign.specs.declared.outcome.Answer.TheVariants as answer
use Rattle.ntp_wire.specs.declared.stamp.Stamp.{Stamp}
use Rattle.ntp_wire.specs.Fields.{originate_of, transmit_of}
use Rattle.time_machine.specs.declared.outcome.Outcome.{Outcome}
use Rattle.time_machine.specs.declared.outcome.Outcome.TheVariants.{Started, Idle, Sent, Moved, Refused}
use Rattle.time_machine.specs.declared.outcome.Request.{Request}
use Rattle.time_machine.proofs.Answered.{all_have}
use Rattle.time_machine.proofs.Counting.{sound_told}
use Rattle.time_machine.proofs.Lists.{all_weaken}
use Rattle.sntp_world.specs.declared.moment.Moment.{Moment}
use Rattle.sntp_world.specs.declared.op.Op.{Op}
use Rattle.sntp_world.specs.declared.op.Effect.{Effect}
use Rattle.sntp_world.specs.declared.packet.Destination.TheVariants as to
use Rattle.sntp_world.specs.declared.packet.Packet.{Packet}
use Rattle.sntp_world.specs.Accuracy.{RunOn}
use Rattle.sntp_world.specs.Setting.{world_conf}
use Rattle.sntp_world.specs.State.{State, first_state}
use Rattle.sntp_world.specs.Steps.{Asks, Guesses, Leaves, MayPass, Passes, Skips, WorldAfter, packets_after, passed, words_in}
use Rattle.sntp_world.proofs.Allowed.{Allowed, IsNotForged, always_allowed}
use Rattle.sntp_world.proofs.Bounds.{runs_more, runs_passed, runs_same}
use Rattle.sntp_world.proofs.Cases.{TakesNow}
use Rattle.sntp_world.proofs.Histories.{Lives, history_after}
use Rattle.sntp_world.proofs.Made.{HasMade, made_always, made_led, made_of}
use Rattle.sntp_world.proofs.Packets.{first_or}
use Rattle.sntp_world.proofs.Requests.{of_one, of_push, stamp_by}
use Rattle.sntp_world.proofs.Sending.{Fits, Opens, fits_by, opens_after, request_by}
use Rattle.sntp_world.proofs.Stamps.{IsNewRequest, new_request}

-- a request in a packet, and the replies to it: the clocks ran on from its sending to each, and to now
pub record IsOngoing (packets : List Packet) (now : Moment) (p : Packet) : Type 0 where
  pub runs : RunOn p.at now
  pub replies : (q : Packet) → Contains packets q → q.to ≡ to.Member → (length q.bytes ≡ 48 → ⊥) → originate_of q.bytes ≡ transmit_of p.bytes
      → RunOn p.at q.at × RunOn q.at now

-- each packet of each of these requests
abbrev pub AreOngoing : List Packet → Moment → List Request → Type 0
AreOngoing packets now requests = (r : Request) (p : Packet) → Contains requests r → Contains packets p → p.to ≡ to.Controller → transmit_of p.bytes ≡ stamp_by r
    → IsOngoing packets now p

-- ---- Time passes

on_later : (packets : List Packet) (now later : Moment) (requests : List Request) → RunOn now later → AreOngoing packets now requests → AreOngoing packets later requests
on_later packets now later requests on are r p c there asks same =
    let is = are r p c there asks same in
    record {
      runs = runs_more p.at now later is.runs on;
      replies = λ (q : Packet) (k : Contains packets q) (goes : q.to ≡ to.Member) (long : length q.bytes ≡ 48 → ⊥) (answers : originate_of q.bytes ≡ transmit_of p.bytes).
          let both = is.replies q k goes long answers in (both.0, runs_more q.at now later both.1 on);
    }

-- ---- A reply more

on_reply : (packets : List Packet) (now : Moment) (bytes : List ℕ) (requests : List Request) → AreOngoing packets now requests
    → AreOngoing (record { to = to.Member; bytes = bytes; at = now } ∷ packets) now requests
on_reply packets now bytes requests are r p c there asks same =
    let reply : Packet = record { to = to.Member; bytes = bytes; at = now } in
    elim (first_or reply packets p there) [
      | inl e ↦ let h = ap (λ (x : Packet). x.to) e ∙ asks in absurd (let no : ⊥ = cc in no)
      | inr k ↦ let is = are r p c k asks same in
          record {
            runs = is.runs;
            replies = λ (q : Packet) (d : Contains (reply ∷ packets) q) (goes : q.to ≡ to.Member) (long : length q.bytes ≡ 48 → ⊥) (answers : originate_of q.bytes ≡ transmit_of p.bytes).
                elim (first_or reply packets q d) [
                  | inl f ↦ subst (λ (x : Packet). RunOn p.at x.at × RunOn x.at now) f (is.runs, runs_same now)
                  | inr l ↦ is.replies q l goes long answers
                ];
          }
    ]

answered : (w : State) (a : Answer) (requests : List Request) → AreOngoing w.packets w.now requests → AreOngoing (packets_after w a) w.now requests
answered w (answer.Signed reply) requests are = on_reply w.packets w.now reply requests are
answered w (answer.Plain reply) requests are = on_reply w.packets w.now reply requests are
answered w (answer.Refused reason) requests are = are

-- ---- A request more

sent_now : State → List ℕ → Packet
sent_now w bytes = record { to = to.Controller; bytes = bytes; at = w.now }

-- no reply has its timestamp yet
no_reply : (w : State) (count : ℕ) (bytes : List ℕ) (q : Packet) → HasMade w → IsNewRequest w count bytes → Contains w.packets q → q.to ≡ to.Member → (length q.bytes ≡ 48 → ⊥)
    → (originate_of q.bytes).seconds ≡ count → ⊥
no_reply w count bytes q has new there goes long seconds =
    let made = made_of w.packets q has.made there goes long in
    let low = (has.stamps.packets.sound made.request made.sent).counted made.asks in
    let same = ap (λ (s : Stamp). s.seconds) made.answers in
    let above = new.above in
    omega arith

-- the new one
new_ongoing : (w : State) (count : ℕ) (bytes : List ℕ) (p : Packet) → HasMade w → IsNewRequest w count bytes → Contains (sent_now w bytes ∷ w.packets) p → p.to ≡ to.Controller
    → (transmit_of p.bytes).seconds ≡ count → IsOngoing (sent_now w bytes ∷ w.packets) w.now p
unfolding sent_now
new_ongoing w count bytes p has new there asks seconds = elim (first_or (sent_now w bytes) w.packets p there) [
  | inl e ↦ record {
    runs = subst (λ (x : Packet). RunOn x.at w.now) e (runs_same w.now);
    replies = λ (q : Packet) (d : Contains (sent_now w bytes ∷ w.packets) q) (goes : q.to ≡ to.Member) (long : length q.bytes ≡ 48 → ⊥) (answers : originate_of q.bytes ≡ transmit_of p.bytes).
        elim (first_or (sent_now w bytes) w.packets q d) [
          | inl f ↦ let h = ap (λ (x : Packet). x.to) f ∙ goes in absurd (let no : ⊥ = cc in no)
          | inr l ↦ absurd (no_reply w count bytes q has new l goes long (ap (λ (s : Stamp). s.seconds) answers ∙ seconds))
        ];
  }
  | inr k ↦ let low = (has.stamps.packets.sound p k).counted asks in let above = new.above in absurd (omega arith)
]

-- those that were open before
older_ongoing : (w : State) (count : ℕ) (bytes : List ℕ) (r : Request) (p : Packet) → IsNewRequest w count bytes → r.count < count
    → ((q : Packet) → Contains w.packets q → q.to ≡ to.Controller → transmit_of q.bytes ≡ stamp_by r → IsOngoing w.packets w.now q)
    → Contains (sent_now w bytes ∷ w.packets) p → p.to ≡ to.Controller → transmit_of p.bytes ≡ stamp_by r → IsOngoing (sent_now w bytes ∷ w.packets) w.now p
unfolding sent_now
older_ongoing w count bytes r p new low are there asks same = elim (first_or (sent_now w bytes) w.packets p there) [
  | inl e ↦ let n = ap (λ (x : Packet). (transmit_of x.bytes).seconds) e in
      let m = ap (λ (s : Stamp). s.seconds) same in
      let seconds = new.seconds in
      absurd (omega arith)
  | inr k ↦ let is = are p k asks same in
      record {
        runs = is.runs;
        replies = λ (q : Packet) (d : Contains (sent_now w bytes ∷ w.packets) q) (goes : q.to ≡ to.Member) (long : length q.bytes ≡ 48 → ⊥) (answers : originate_of q.bytes ≡ transmit_of p.bytes).
            elim (first_or (sent_now w bytes) w.packets q d) [
              | inl f ↦ let h = ap (λ (x : Packet). x.to) f ∙ goes in absurd (let no : ⊥ = cc in no)
              | inr l ↦ is.replies q l goes long answers
            ];
      }
]

seconds_same : (s : Stamp) (e : Event) (count : ℕ) → s ≡ stamp_by (request_by e count) → s.seconds ≡ count
seconds_same s e count same = ap (λ (t : Stamp). t.seconds) same

sent_ongoing : (w : State) (e : Event) (count : ℕ) (bytes : List ℕ) (opened : List Request) → HasMade w → IsNewRequest w count bytes
    → AllByRecursion (λ r. r.count < count) (words_in w).open_requests → AreOngoing w.packets w.now (words_in w).open_requests
    → (opened ≡ request_by e count ∷ []) ⊎ (opened ≡ (words_in w).open_requests ++ request_by e count ∷ [])
    → AreOngoing (sent_now w bytes ∷ w.packets) w.now opened
sent_ongoing w e count bytes opened has new low are (inl is) r p c there asks same =
    let one = of_one (request_by e count) r (subst (λ (l : List Request). Contains l r) is c) in
    new_ongoing w count bytes p has new there asks (seconds_same (transmit_of p.bytes) e count (same ∙ ap stamp_by (sym one)))
sent_ongoing w e count bytes opened has new low are (inr is) r p c there asks same =
    elim (of_push (words_in w).open_requests (request_by e count) r (subst (λ (l : List Request). Contains l r) is c)) [
      | inl older ↦ older_ongoing w count bytes r p new (all_have (λ r. r.count < count) (words_in w).open_requests r low older)
          (λ q k also equal. are r q older k also equal) there asks same
      | inr one ↦ new_ongoing w count bytes p has new there asks (seconds_same (transmit_of p.bytes) e count (same ∙ ap stamp_by (sym one)))
    ]

-- ---- Events

-- none is open
none_open : (packets : List Packet) (now : Moment) (opened : List Request) → opened ≡ [] → AreOngoing packets now opened
none_open packets now opened none r p c there asks same = let k = subst (λ (l : List Request). Contains l r) none c in absurd (omega (arith, k.1))

ongoing_after : (w : State) (e : Event) (o : Outcome) (now : State) (opened : List Request) → Lives w → HasMade w → AreOngoing w.packets w.now (words_in w).open_requests
    → Opens (words_in w) e o opened → Fits o → Leaves w e o now → AreOngoing now.packets now.now opened
unfolding sent_now
ongoing_after w e (Sent addr count bytes) now opened lives has are opens fits is =
    let s = sound_told world_conf w.history lives.grows in
    let new = new_request w e count bytes lives opens.0 fits in
    let above = new.above in
    let low = all_weaken (λ (r : Request). r.count ≤ (words_in w).greatest) (λ (r : Request). r.count < count) (λ r h. omega arith) (words_in w).open_requests s.sent in
    subst (λ (s : State). AreOngoing s.packets s.now opened) (sym is) (sent_ongoing w e count bytes opened has new low are opens.1)
ongoing_after w (Arrive at from reply) (Moved count offset how) now opened lives has are opens fits is = none_open now.packets now.now opened opens
ongoing_after w (Life at mark) (Moved count offset how) now opened lives has are opens fits is = absurd is
ongoing_after w (Tick at word) (Moved count offset how) now opened lives has are opens fits is = absurd is
ongoing_after w (Resync at word flags) (Moved count offset how) now opened lives has are opens fits is = absurd is
ongoing_after w e (Started mark) now opened lives has are opens fits is = none_open now.packets now.now opened opens
ongoing_after w e Idle now opened lives has are opens fits is =
    subst (λ (s : State). AreOngoing s.packets s.now opened) (sym is) (subst (AreOngoing w.packets w.now) (sym opens) are)
ongoing_after w e (Refused reason) now opened lives has are opens fits is =
    subst (λ (s : State). AreOngoing s.packets s.now opened) (sym is) (subst (AreOngoing w.packets w.now) (sym opens) are)

-- ---- Each world

pub record HasOngoing (w : State) : Type 0 where
  pub made : HasMade w
  pub ongoing : AreOngoing w.packets w.now (words_in w).open_requests

ongoing_led : (w : State) → Lives w → HasOngoing w → Allowed HasOngoing w
ongoing_led w lives has =
    let made = made_led w lives has.made in
    let opened = (words_in w).open_requests in
    let Ongoing : State → Type 0 = λ (s : State). AreOngoing s.packets s.now (words_in s).open_requests in
    record {
      skips = λ (effect : Effect) (now : State) (is : Skips w effect now).
          record { made = made.skips effect now is; ongoing = subst Ongoing (sym is.1) has.ongoing };
      passes = λ (d : ℕ) (e f : ℤ) (effect : Effect) (now : State) (may : MayPass d e f w.now) (is : Passes d e f w effect now).
          record {
            made = made.passes d e f effect now may is;
            ongoing = subst Ongoing (sym is.1) (on_later w.packets w.now (passed d e f w.now) opened (runs_passed d e f w.now may) has.ongoing);
          };
      asks = λ (bytes : List ℕ) (effect : Effect) (now : State) (honest : Guesses w bytes → ⊥) (is : Asks bytes w effect now).
          record { made = made.asks bytes effect now honest is; ongoing = subst Ongoing (sym is.now_is) (answered w is.answer opened has.ongoing) };
      takes = λ (effect : Effect) (now : State) (is : TakesNow w effect now) (honest : IsNotForged w is.event).
          record {
            made = made.takes effect now is honest;
            ongoing = ongoing_after w is.event _ now _ lives has.made has.ongoing
                (opens_after w is.event now (history_after w is.event _ now is.takes.1)) (fits_by w is.event is.follows) is.takes.1;
          };
    }

first_ongoing : AreOngoing [] first_state.now (words_in first_state).open_requests
first_ongoing r p c there asks same = absurd (omega (arith, there.1))

pub ongoing_always : (ops : List Op) (w : State) → WorldAfter ops w → HasOngoing w
ongoing_always ops w is =
    always_allowed HasOngoing (record { made = made_always [] first_state refl; ongoing = first_ongoing }) ongoing_led ops w is
