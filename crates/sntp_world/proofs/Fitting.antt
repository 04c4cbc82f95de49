-- Where the numbers of operations fit their types, those of the events, of the open requests and of the packets do.
use Rattle.std.proofs.Common.{◌≡◌, ◌⊎◌, ℕ, ◌<◌, ◌≤◌, ◌^◌, List, [], ◌∷◌, ◌++◌, length, reverse, replicate, inl, inr, refl, subst, sym, ◌∙◌, ap, arith, ℤ}
use Rattle.std.specs.List.{AllByRecursion, Contains}
use Rattle.std.proofs.lemmas.List.{reverse-append}
use Rattle.std.proofs.lemmas.Option.{get_or_from_slice_get, slice_get_within}
use Rattle.std.specs.Prelude.{Some, slice_get}
use Rattle.base_specs.specs.Time.{IsReading}
use Rattle.byte_codec.specs.Numbers.{low_word_bytes}
use Rattle.byte_codec.proofs.Numbers.{length-low_number_bytes}
use Rattle.byte_codec.proofs.Parts.{longer}
use Rattle.capture_fmt.specs.declared.event.Event.{Event}
use Rattle.capture_fmt.specs.declared.event.Event.TheVariants.{Life, Tick, Resync, Arrive}
use Rattle.capture_fmt.specs.Event.{EventFits}
use Rattle.dc_sign.specs.declared.info.ServerInfo.{ServerInfo}
use Rattle.dc_sign.specs.declared.outcome.Answer.{Answer}
use Rattle.dc_sign.specs.declared.outcome.Answer.TheVariants as answer
use Rattle.dc_sign.specs.Reply.{Answers}
use Rattle.dc_sign.proofs.Replies.{length-reply}
use Rattle.ms_auth.specs.declared.packet.Kind.TheVariants.{Short}
use Rattle.ms_auth.specs.Request.{request_bytes, request_tail_bytes}
use Rattle.ntp_wire.specs.declared.stamp.Stamp.{Stamp}
use Rattle.ntp_wire.specs.Fields.{transmit_of}
use Rattle.ntp_wire.specs.Stamp.{StampFits, stamp_bytes}
use Rattle.ntp_wire.proofs.Headers.{length-stamp_bytes}
use Rattle.time_machine.specs.declared.outcome.Outcome.{Outcome}
use Rattle.time_machine.specs.declared.outcome.Outcome.TheVariants.{Started, Idle, Sent, Moved, Refused}
use Rattle.time_machine.specs.declared.outcome.Request.{Request}
use Rattle.time_machine.specs.Events.{word_of}
use Rattle.time_machine.specs.Growing.{MayFollow}
use Rattle.time_machine.specs.Machine.{count_at, stamp_at, told}
use Rattle.time_machine.specs.Words.{Words, words}
use Rattle.time_machine.proofs.Lists.{all_push}
use Rattle.sntp_world.specs.declared.op.Op.{Op}
use Rattle.sntp_world.specs.declared.op.Op.TheVariants.{Pass, Poll, Deliver, Ask, Craft, Restart}
use Rattle.sntp_world.specs.declared.op.Effect.{Effect}
use Rattle.sntp_world.specs.declared.packet.Destination.{Destination}
use Rattle.sntp_world.specs.declared.packet.Destination.TheVariants as to
use Rattle.sntp_world.specs.declared.packet.Packet.{Packet}
use Rattle.sntp_world.specs.Laws.{AreClocks}
use Rattle.sntp_world.specs.Running.{OpFits}
use Rattle.sntp_world.specs.Setting.{controller_addr, world_account, world_conf, world_rid}
use Rattle.sntp_world.specs.State.{State, first_state}
use Rattle.sntp_world.specs.Steps.{Asks, DeliversTo, Leads, Leaves, Reaches, Skips, Takes, WorldAfter, next_mark, packets_after, words_in}
use Rattle.sntp_world.proofs.Cases.{lives_always}
use Rattle.sntp_world.proofs.Clocks.{clocks_always}
use Rattle.sntp_world.proofs.Histories.{Lives, history_after, may_restart}
use Rattle.sntp_world.proofs.Packets.{first_or}
use Rattle.sntp_world.proofs.Requests.{of_one, of_push}
use Rattle.sntp_world.proofs.Sending.{Fits, IsSentBy, Opens, fits_by, fraction_sent, opens_after, request_by, seconds_sent}

-- what holds of each of some things holds of each of them in the other order
pub all_reversed : {A : Type 0} (P : A → Type 0) (xs : List A) → AllByRecursion P xs → AllByRecursion P (reverse xs)
all_reversed P [] all = tt
all_reversed P (x ∷ xs) all =
    subst (AllByRecursion P) (sym (reverse-append (x ∷ []) xs)) (all_push P (reverse xs) x (all_reversed P xs all.1) all.0)

-- ---- Requests

-- the random words fit four bytes
abbrev pub AreFit : List Request → Type 0
AreFit requests = (r : Request) → Contains requests r → r.word < 2 ^ 32

none_fit : (requests : List Request) → requests ≡ [] → AreFit requests
none_fit requests none r c = let k = subst (λ (l : List Request). Contains l r) none c in absurd (omega (arith, k.1))

word_fits : (e : Event) → EventFits e → word_of e < 2 ^ 32
word_fits (Life now mark) fits = omega arith
word_fits (Tick now word) fits = fits.1
word_fits (Resync now word flags) fits = fits.1
word_fits (Arrive now from bytes) fits = omega arith

sent_open : (w : Words) (e : Event) (count : ℕ) (opened : List Request) → EventFits e → AreFit w.open_requests
    → (opened ≡ request_by e count ∷ []) ⊎ (opened ≡ w.open_requests ++ request_by e count ∷ []) → AreFit opened
sent_open w e count opened fits are (inl same) r c =
    let one = of_one (request_by e count) r (subst (λ (l : List Request). Contains l r) same c) in
    subst (λ (q : Request). q.word < 2 ^ 32) one (word_fits e fits)
sent_open w e count opened fits are (inr same) r c =
    elim (of_push w.open_requests (request_by e count) r (subst (λ (l : List Request). Contains l r) same c)) [
      | inl older ↦ are r older
      | inr one ↦ subst (λ (q : Request). q.word < 2 ^ 32) one (word_fits e fits)
    ]

open_fit : (w : Words) (e : Event) (o : Outcome) (opened : List Request) → EventFits e → AreFit w.open_requests → Opens w e o opened → AreFit opened
open_fit w e (Sent addr count bytes) opened fits are is = sent_open w e count opened fits are is.1
open_fit w e (Started mark) opened fits are is = none_fit opened is
open_fit w e (Moved count offset how) opened fits are is = none_fit opened is
open_fit w e Idle opened fits are is = subst AreFit (sym is) are
open_fit w e (Refused reason) opened fits are is = subst AreFit (sym is) are

-- ---- Packets

-- a packet is a whole datagram, and the timestamp of one to the controller fits eight bytes
pub record IsFitPacket (p : Packet) : Type 0 where
  pub short : length p.bytes ≤ 256
  pub asks : p.to ≡ to.Controller → StampFits (transmit_of p.bytes)

abbrev pub AreFitPackets : List Packet → Type 0
AreFitPackets packets = (p : Packet) → Contains packets p → IsFitPacket p

one_more : (p : Packet) (ps : List Packet) → IsFitPacket p → AreFitPackets ps → AreFitPackets (p ∷ ps)
one_more p ps is are q c = elim (first_or p ps q c) [
  | inl same ↦ subst IsFitPacket same is
  | inr later ↦ are q later
]

-- a request is 68 bytes
request_length : (rid poll : ℕ) (s : Stamp) → length (request_bytes Short rid poll s) ≡ 68
request_length rid poll s =
    longer 40 28 (0xDB ∷ 0 ∷ poll ∷ 0xE9 ∷ replicate 36 0) (stamp_bytes s ++ request_tail_bytes Short rid) refl
    (longer 8 20 (stamp_bytes s) (request_tail_bytes Short rid) (length-stamp_bytes s)
    (longer 4 16 (low_word_bytes rid) (replicate 16 0) (length-low_number_bytes 4 rid) refl))

request_fit : (w : State) (e : Event) (count : ℕ) (bytes : List ℕ) → EventFits e → IsSentBy (words_in w) e count bytes → count < 2 ^ 32
    → IsFitPacket (record { to = to.Controller; bytes = bytes; at = w.now })
request_fit w e count bytes event_fits sent fits =
    let counted = sent.counted in
    let s = stamp_at (words_in w) (word_of e) in
    let below : count_at (words_in w) < 2 ^ 32 = omega arith in
    let word = word_fits e event_fits in
    let long = ap length sent.written ∙ request_length world_rid sent.poll s in
    let seconds : (transmit_of bytes).seconds ≡ count_at (words_in w) = ap (λ (l : List ℕ). (transmit_of l).seconds) sent.written ∙ seconds_sent world_rid sent.poll s below in
    let fraction : (transmit_of bytes).fraction ≡ word_of e = ap (λ (l : List ℕ). (transmit_of l).fraction) sent.written ∙ fraction_sent world_rid sent.poll s word in
    record {
      short = omega (arith, long);
      asks = λ (same : to.Controller ≡ to.Controller). record {
        seconds = subst (λ (n : ℕ). n < 2 ^ 32) (sym seconds) below;
        fraction = subst (λ (n : ℕ). n < 2 ^ 32) (sym fraction) word;
      };
    }

-- a reply is as long as its request, which was a message
reply_fit : (w : State) (reply : List ℕ) → length reply ≤ 256 → IsFitPacket (record { to = to.Member; bytes = reply; at = w.now })
reply_fit w reply short = record { short = short; asks = λ (e : to.Member ≡ to.Controller). absurd (let no : ⊥ = cc in no) }

message_short : (n : ℕ) → (n ≡ 68) ⊎ (n ≡ 120) → n ≤ 256
message_short n (inl e) = omega (arith, e)
message_short n (inr e) = omega (arith, e)

answered_fit : (w : State) (info : ServerInfo) (bytes : List ℕ) (given : Answer) → Answers (world_account ∷ []) info bytes w.now.controller w.now.controller given
    → AreFitPackets w.packets → AreFitPackets (packets_after w given)
answered_fit w info bytes (answer.Signed reply) is are =
    let long = length-reply (world_account ∷ []) info bytes w.now.controller w.now.controller reply is.2 in
    one_more _ w.packets (reply_fit w reply (let short = message_short (length bytes) is.1 in omega (arith, long))) are
answered_fit w info bytes (answer.Plain reply) is are =
    let long = length-reply (world_account ∷ []) info bytes w.now.controller w.now.controller reply is.2 in
    one_more _ w.packets (reply_fit w reply (let short = is.1 in omega (arith, long))) are
answered_fit w info bytes (answer.Refused reason) is are = are

sent_fit : (w : State) (e : Event) (o : Outcome) (now : State) (opened : List Request) → EventFits e → AreFitPackets w.packets → Opens (words_in w) e o opened → Fits o
    → Leaves w e o now → AreFitPackets now.packets
sent_fit w e (Sent addr count bytes) now opened event_fits are opens fits is =
    subst (λ (s : State). AreFitPackets s.packets) (sym is) (one_more _ w.packets (request_fit w e count bytes event_fits opens.0 fits) are)
sent_fit w (Arrive at from reply) (Moved count offset how) now opened event_fits are opens fits is = subst (λ (s : State). AreFitPackets s.packets) (sym is.2) are
sent_fit w (Life at mark) (Moved count offset how) now opened event_fits are opens fits is = absurd is
sent_fit w (Tick at word) (Moved count offset how) now opened event_fits are opens fits is = absurd is
sent_fit w (Resync at word flags) (Moved count offset how) now opened event_fits are opens fits is = absurd is
sent_fit w e (Started mark) now opened event_fits are opens fits is = subst (λ (s : State). AreFitPackets s.packets) (sym is) are
sent_fit w e Idle now opened event_fits are opens fits is = subst (λ (s : State). AreFitPackets s.packets) (sym is) are
sent_fit w e (Refused reason) now opened event_fits are opens fits is = subst (λ (s : State). AreFitPackets s.packets) (sym is) are

-- a place of a list has an element of it
pub in_place : (ps : List Packet) (i : ℕ) (p : Packet) → slice_get ps i ≡ Some p → Contains ps p
in_place ps i p at = (i, slice_get_within ps i p at, get_or_from_slice_get ps i p p at)

-- ---- Each world

-- the numbers of its events, of its open requests and of its packets fit
pub record IsFit (w : State) : Type 0 where
  pub events : AllByRecursion EventFits w.history
  pub requests : AreFit (words_in w).open_requests
  pub packets : AreFitPackets w.packets

fit_taken : (e : Event) (w : State) (effect : Effect) (now : State) → EventFits e → MayFollow world_conf (words_in w) e → IsFit w → Takes e w effect now → IsFit now
fit_taken e w effect now fits follows fit is =
    let same = history_after w e _ now is.1 in
    let opens = opens_after w e now same in
    record {
      events = subst (AllByRecursion EventFits) (sym same) (fits, fit.events);
      requests = open_fit (words_in w) e _ _ fits fit.requests opens;
      packets = sent_fit w e _ now _ fits fit.packets opens (fits_by w e follows) is.1;
    }

fit_skipped : (w : State) (effect : Effect) (now : State) → IsFit w → Skips w effect now → IsFit now
fit_skipped w effect now fit is = subst IsFit (sym is.1) (record { events = fit.events; requests = fit.requests; packets = fit.packets })

fit_asked : (bytes : List ℕ) (w : State) (effect : Effect) (now : State) → IsFit w → Asks bytes w effect now → IsFit now
fit_asked bytes w effect now fit is =
    subst IsFit (sym is.now_is) (record { events = fit.events; requests = fit.requests; packets = answered_fit w is.info bytes is.answer is.answers fit.packets })

-- an arrival at the member's reading
pub arrival_fits : (at : ℤ) (bytes : List ℕ) → IsReading at → length bytes ≤ 256 → EventFits (Arrive at controller_addr bytes)
arrival_fits at bytes read short = (read, omega arith, omega arith, short)

fit_reached : (bytes : List ℕ) (w : State) (effect : Effect) (now : State) → Lives w → IsReading w.now.member → length bytes ≤ 256 → IsFit w → Reaches bytes w effect now → IsFit now
fit_reached bytes w effect now lives read short fit is =
    fit_taken (Arrive w.now.member controller_addr bytes) w effect now (arrival_fits w.now.member bytes read short) lives.mark fit is

fit_delivered : (d : Destination) (bytes : List ℕ) (w : State) (effect : Effect) (now : State) → Lives w → IsReading w.now.member → length bytes ≤ 256 → IsFit w
    → DeliversTo d bytes w effect now → IsFit now
fit_delivered to.Controller bytes w effect now lives read short fit is = fit_asked bytes w effect now fit is
fit_delivered to.Member bytes w effect now lives read short fit is = fit_reached bytes w effect now lives read short fit is

fit_led : (op : Op) (w : State) (effect : Effect) (now : State) → Lives w → AreClocks w.now → OpFits op → IsFit w → Leads op w effect now → IsFit now
fit_led (Pass d e f) w effect now lives clocks fits fit (inl is) =
    subst IsFit (sym is.1.1) (record { events = fit.events; requests = fit.requests; packets = fit.packets })
fit_led (Pass d e f) w effect now lives clocks fits fit (inr is) = fit_skipped w effect now fit is.1
fit_led (Poll word) w effect now lives clocks fits fit (inl is) = fit_taken (Tick w.now.member word) w effect now (clocks.member, fits) is.0 fit is.1
fit_led (Poll word) w effect now lives clocks fits fit (inr is) = fit_skipped w effect now fit is.1
fit_led (Deliver back) w effect now lives clocks fits fit (inl is) =
    let short = (fit.packets is.0 (in_place w.packets back is.0 is.1)).short in
    fit_delivered is.0.to is.0.bytes w effect now lives clocks.member short fit is.2
fit_led (Deliver back) w effect now lives clocks fits fit (inr is) = fit_skipped w effect now fit is.1
fit_led (Ask bytes) w effect now lives clocks fits fit (inl is) = fit_skipped w effect now fit is.1
fit_led (Ask bytes) w effect now lives clocks fits fit (inr is) = fit_asked bytes w effect now fit is.1
fit_led (Craft bytes) w effect now lives clocks fits fit (inl is) = fit_skipped w effect now fit is.1
fit_led (Craft bytes) w effect now lives clocks fits fit (inr is) = fit_reached bytes w effect now lives clocks.member fits fit is.1
fit_led Restart w effect now lives clocks fits fit (inl is) =
    fit_taken (Life w.now.member (next_mark (words_in w))) w effect now (clocks.member, let low = is.0 in omega arith) (may_restart w lives) fit is.1
fit_led Restart w effect now lives clocks fits fit (inr is) = fit_skipped w effect now fit is.1

first_fit : IsFit first_state
unfolding words told
first_fit = record {
  events = (((grind arith, grind arith), omega arith), tt);
  requests = none_fit _ refl;
  packets = λ p c. absurd (omega (arith, c.1));
}

pub fit_always : (ops : List Op) (w : State) → AllByRecursion OpFits ops → WorldAfter ops w → IsFit w
fit_always [] w fits is = subst IsFit (sym is) first_fit
fit_always (op ∷ ops) w fits is =
    fit_led op is.0 is.1 w (lives_always ops is.0 is.2) (clocks_always ops is.0 is.2) fits.0 (fit_always ops is.0 fits.1 is.2) is.3
