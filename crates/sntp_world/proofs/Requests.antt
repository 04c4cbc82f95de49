-- Each open request has its packet, and no other packet has its timestamp.
use Rattle.std.proofs.Common.{◌≡◌, ◌⊎◌, ℕ, ◌<◌, ◌≤◌, ◌^◌, List, [], ◌∷◌, ◌++◌, inl, inr, refl, subst, sym, ◌∙◌, ap, arith, ℤ}
use Rattle.std.specs.List.{AllByRecursion, Contains}
use Rattle.std.proofs.lemmas.List.Elements.{Contains-append_cases, Contains-append_right}
use Rattle.capture_fmt.specs.declared.event.Event.{Event}
use Rattle.capture_fmt.specs.declared.event.Event.TheVariants.{Life, Tick, Resync, Arrive}
use Rattle.dc_sign.specs.declared.outcome.Answer.{Answer}
use Rattle.dc_sign.specs.declared.outcome.Answer.TheVariants as answer
use Rattle.ntp_wire.specs.declared.stamp.Stamp.{Stamp}
use Rattle.ntp_wire.specs.Fields.{transmit_of}
use Rattle.time_machine.specs.declared.outcome.Outcome.{Outcome}
use Rattle.time_machine.specs.declared.outcome.Outcome.TheVariants.{Started, Idle, Sent, Moved, Refused}
use Rattle.time_machine.specs.declared.outcome.Request.{Request}
use Rattle.time_machine.specs.Events.{reading_of, word_of}
use Rattle.time_machine.specs.Machine.{count_at, stamp_at, told}
use Rattle.time_machine.specs.Words.{words}
use Rattle.time_machine.proofs.Answered.{all_have}
use Rattle.time_machine.proofs.Counting.{sound_told}
use Rattle.time_machine.proofs.Lists.{all_weaken}
use Rattle.sntp_world.specs.declared.op.Op.{Op}
use Rattle.sntp_world.specs.declared.op.Effect.{Effect}
use Rattle.sntp_world.specs.declared.packet.Destination.TheVariants as to
use Rattle.sntp_world.specs.declared.packet.Packet.{Packet}
use Rattle.sntp_world.specs.Setting.{world_conf, world_rid}
use Rattle.sntp_world.specs.State.{State, first_state}
use Rattle.sntp_world.specs.Steps.{Asks, Leaves, MayPass, Passes, Skips, WorldAfter, packets_after, words_in}
use Rattle.sntp_world.proofs.Cases.{Cases, TakesNow, always}
use Rattle.sntp_world.proofs.Histories.{Lives, history_after}
use Rattle.sntp_world.proofs.Packets.{AreSound, HasPackets, first_or, packets_always, packets_led}
use Rattle.sntp_world.proofs.Sending.{Fits, IsSentBy, Opens, fits_by, fraction_sent, opens_after, request_by, seconds_sent}

-- the timestamp of a request
abbrev pub stamp_by : Request → Stamp
stamp_by r = record { seconds = r.count; fraction = r.word }

-- a request that the member sent, among these packets
pub record IsRequestIn (packets : List Packet) (r : Request) : Type 0 where
  pub packet : Packet
  pub sent : Contains packets packet
  pub asks : packet.to ≡ to.Controller
  pub stamp : transmit_of packet.bytes ≡ stamp_by r
  pub left : packet.at.member ≡ r.at

-- it is there, where its word fits four bytes, and what has its timestamp left at the same reading
pub record IsThere (packets : List Packet) (r : Request) : Type 0 where
  pub there : r.word < 2 ^ 32 → IsRequestIn packets r
  pub only : (p : Packet) → Contains packets p → p.to ≡ to.Controller → transmit_of p.bytes ≡ stamp_by r → p.at.member ≡ r.at

abbrev pub AreThere : List Packet → List Request → Type 0
AreThere packets requests = (r : Request) → Contains requests r → IsThere packets r

later : (p : Packet) (ps : List Packet) (r : Request) → IsRequestIn ps r → IsRequestIn (p ∷ ps) r
later p ps r is = record { packet = is.packet; sent = Contains-append_right (p ∷ []) ps is.packet is.sent; asks = is.asks; stamp = is.stamp; left = is.left }

-- one more packet, which isn't a request with this timestamp
beside : (p : Packet) (ps : List Packet) (r : Request) → (p.to ≡ to.Controller → transmit_of p.bytes ≡ stamp_by r → ⊥) → IsThere ps r → IsThere (p ∷ ps) r
beside p ps r other is = record {
  there = λ (fits : r.word < 2 ^ 32). later p ps r (is.there fits);
  only = λ (q : Packet) (c : Contains (p ∷ ps) q) (asks : q.to ≡ to.Controller) (same : transmit_of q.bytes ≡ stamp_by r).
      elim (first_or p ps q c) [
        | inl e ↦ absurd (subst (λ (x : Packet). x.to ≡ to.Controller → transmit_of x.bytes ≡ stamp_by r → ⊥) e other asks same)
        | inr k ↦ is.only q k asks same
      ];
}

-- ---- Replies

reply_beside : (w : State) (a : Answer) (requests : List Request) → AreThere w.packets requests → AreThere (packets_after w a) requests
reply_beside w (answer.Signed reply) requests are r c = beside _ w.packets r (λ asks same. let no : ⊥ = cc in no) (are r c)
reply_beside w (answer.Plain reply) requests are r c = beside _ w.packets r (λ asks same. let no : ⊥ = cc in no) (are r c)
reply_beside w (answer.Refused reason) requests are r c = are r c

-- ---- A request

-- what is known where one is sent
record IsNew (w : State) (e : Event) (count : ℕ) (bytes : List ℕ) : Type 0 where
  sent : IsSentBy (words_in w) e count bytes
  fits : count < 2 ^ 32
  read : reading_of e ≡ w.now.member
  greatest : ℕ
  above : greatest < count
  sound : AreSound w.now.uneven greatest w.packets

sent_now : State → List ℕ → Packet
sent_now w bytes = record { to = to.Controller; bytes = bytes; at = w.now }

seconds_now : (w : State) (e : Event) (count : ℕ) (bytes : List ℕ) → IsNew w e count bytes → (transmit_of bytes).seconds ≡ count
seconds_now w e count bytes is =
    let sent = is.sent in
    let counted = sent.counted in
    let fits = is.fits in
    let below : count_at (words_in w) < 2 ^ 32 = omega arith in
    ap (λ (l : List ℕ). (transmit_of l).seconds) sent.written ∙ seconds_sent world_rid sent.poll (stamp_at (words_in w) (word_of e)) below ∙ sym counted

-- the new request is there
is_there_now : (w : State) (e : Event) (count : ℕ) (bytes : List ℕ) → IsNew w e count bytes → IsThere (sent_now w bytes ∷ w.packets) (request_by e count)
unfolding sent_now
is_there_now w e count bytes is = record {
  there = λ (fits : word_of e < 2 ^ 32).
      let seconds = seconds_now w e count bytes is in
      let fraction = ap (λ (l : List ℕ). (transmit_of l).fraction) is.sent.written ∙ fraction_sent world_rid is.sent.poll (stamp_at (words_in w) (word_of e)) fits in
      record {
        packet = sent_now w bytes;
        sent = (0, omega arith, refl);
        asks = refl;
        stamp = λ i. record { seconds = seconds i; fraction = fraction i };
        left = sym is.read;
      };
  only = λ (q : Packet) (c : Contains (sent_now w bytes ∷ w.packets) q) (asks : q.to ≡ to.Controller) (same : transmit_of q.bytes ≡ stamp_by (request_by e count)).
      elim (first_or (sent_now w bytes) w.packets q c) [
        | inl e ↦ ap (λ (x : Packet). x.at.member) (sym e) ∙ sym is.read
        | inr k ↦ let low = (is.sound q k).counted asks in
            let above = is.above in
            let seconds : (transmit_of q.bytes).seconds ≡ count = ap (λ (s : Stamp). s.seconds) same in
            absurd (omega arith)
      ];
}

-- those that were open before stay there
stays_there : (w : State) (e : Event) (count : ℕ) (bytes : List ℕ) (r : Request) → IsNew w e count bytes → r.count < count → IsThere w.packets r
    → IsThere (sent_now w bytes ∷ w.packets) r
unfolding sent_now
stays_there w e count bytes r is low there =
    beside (sent_now w bytes) w.packets r
    (λ asks same.
    let seconds : (transmit_of bytes).seconds ≡ r.count = ap (λ (s : Stamp). s.seconds) same in
    let now = seconds_now w e count bytes is in
    let no : ⊥ = omega arith in no) there

-- one that is open is an older one or the new one
pub of_push : (xs : List Request) (r q : Request) → Contains (xs ++ r ∷ []) q → Contains xs q ⊎ (r ≡ q)
of_push xs r q c = elim (Contains-append_cases xs (r ∷ []) q c) [
  | inl k ↦ inl k
  | inr h ↦ let k : h.0 ≡ 0 = omega (arith, h.1) in inr (rw k at h.2)
]

pub of_one : (r q : Request) → Contains (r ∷ []) q → r ≡ q
of_one r q c = let k : c.0 ≡ 0 = omega (arith, c.1) in rw k at c.2

sent_there : (w : State) (e : Event) (count : ℕ) (bytes : List ℕ) (opened : List Request) → IsNew w e count bytes
    → AllByRecursion (λ r. r.count < count) (words_in w).open_requests → AreThere w.packets (words_in w).open_requests
    → (opened ≡ request_by e count ∷ []) ⊎ (opened ≡ (words_in w).open_requests ++ request_by e count ∷ [])
    → AreThere (sent_now w bytes ∷ w.packets) opened
sent_there w e count bytes opened is low are (inl same) r c =
    let one = of_one (request_by e count) r (subst (λ (l : List Request). Contains l r) same c) in
    subst (IsThere (sent_now w bytes ∷ w.packets)) one (is_there_now w e count bytes is)
sent_there w e count bytes opened is low are (inr same) r c =
    elim (of_push (words_in w).open_requests (request_by e count) r (subst (λ (l : List Request). Contains l r) same c)) [
      | inl older ↦ stays_there w e count bytes r is (all_have (λ r. r.count < count) (words_in w).open_requests r low older) (are r older)
      | inr one ↦ subst (IsThere (sent_now w bytes ∷ w.packets)) one (is_there_now w e count bytes is)
    ]

-- ---- Events

-- none is open
none_there : (packets : List Packet) (opened : List Request) → opened ≡ [] → AreThere packets opened
none_there packets opened same r c = let k = subst (λ (l : List Request). Contains l r) same c in absurd (omega (arith, k.1))

there_after : (w : State) (e : Event) (o : Outcome) (now : State) (opened : List Request) → Lives w → AreSound w.now.uneven (words_in w).greatest w.packets
    → reading_of e ≡ w.now.member → AreThere w.packets (words_in w).open_requests → Opens (words_in w) e o opened → Fits o → Leaves w e o now
    → AreThere now.packets opened
unfolding sent_now
there_after w e (Sent addr count bytes) now opened lives sound read are opens fits is =
    let s = sound_told world_conf w.history lives.grows in
    let below = s.counted in
    let counted = opens.0.counted in
    let above : (words_in w).greatest < count = omega arith in
    let low = all_weaken (λ (r : Request). r.count ≤ (words_in w).greatest) (λ (r : Request). r.count < count) (λ r h. omega arith) (words_in w).open_requests s.sent in
    subst (λ (s : State). AreThere s.packets opened) (sym is)
    (sent_there w e count bytes opened
    (record { sent = opens.0; fits = fits; read = read; greatest = (words_in w).greatest; above = above; sound = sound }) low are opens.1)
there_after w (Arrive at from reply) (Moved count offset how) now opened lives sound read are opens fits is = none_there now.packets opened opens
there_after w (Life at mark) (Moved count offset how) now opened lives sound read are opens fits is = absurd is
there_after w (Tick at word) (Moved count offset how) now opened lives sound read are opens fits is = absurd is
there_after w (Resync at word flags) (Moved count offset how) now opened lives sound read are opens fits is = absurd is
there_after w e (Started mark) now opened lives sound read are opens fits is = none_there now.packets opened opens
there_after w e Idle now opened lives sound read are opens fits is =
    subst (λ (s : State). AreThere s.packets opened) (sym is) (subst (AreThere w.packets) (sym opens) are)
there_after w e (Refused reason) now opened lives sound read are opens fits is =
    subst (λ (s : State). AreThere s.packets opened) (sym is) (subst (AreThere w.packets) (sym opens) are)

-- ---- Each world

-- the packets of the open requests, with what holds of all packets
pub record HasRequests (w : State) : Type 0 where
  pub packets : HasPackets w
  pub there : AreThere w.packets (words_in w).open_requests

requests_led : (w : State) → Lives w → HasRequests w → Cases HasRequests w
requests_led w lives has =
    let packets = packets_led w lives has.packets in
    record {
      skips = λ (effect : Effect) (now : State) (is : Skips w effect now).
          record { packets = packets.skips effect now is; there = subst (λ (s : State). AreThere s.packets (words_in s).open_requests) (sym is.1) has.there };
      passes = λ (d : ℕ) (e f : ℤ) (effect : Effect) (now : State) (may : MayPass d e f w.now) (is : Passes d e f w effect now).
          record {
            packets = packets.passes d e f effect now may is;
            there = subst (λ (s : State). AreThere s.packets (words_in s).open_requests) (sym is.1) has.there;
          };
      asks = λ (bytes : List ℕ) (effect : Effect) (now : State) (is : Asks bytes w effect now).
          record {
            packets = packets.asks bytes effect now is;
            there = subst (λ (s : State). AreThere s.packets (words_in s).open_requests) (sym is.now_is) (reply_beside w is.answer (words_in w).open_requests has.there);
          };
      takes = λ (effect : Effect) (now : State) (is : TakesNow w effect now).
          record {
            packets = packets.takes effect now is;
            there = there_after w is.event _ now _ lives has.packets.sound is.read has.there
                (opens_after w is.event now (history_after w is.event _ now is.takes.1)) (fits_by w is.event is.follows) is.takes.1;
          };
    }

first_requests : AreThere [] (words_in first_state).open_requests
unfolding words told
first_requests r c = absurd (omega (arith, c.1))

pub requests_always : (ops : List Op) (w : State) → WorldAfter ops w → HasRequests w
requests_always ops w is =
    always HasRequests (record { packets = packets_always [] first_state refl; there = first_requests }) requests_led ops w is
