-- Each operation leads on from each world, where its numbers fit their types.
use Rattle.std.proofs.Common.{◌≡◌, ℕ, zero, suc, ◌+◌, ◌<◌, ◌≤◌, ◌^◌, List, [], ◌∷◌, length, take, drop, reverse, inl, inr, refl, subst, sym, ap, arith, ℤ}
use Rattle.std.specs.Prelude.{Option, Some, None, slice_get, ◌+ℤ◌}
use Rattle.std.specs.List.{AllByRecursion, Contains}
use Rattle.std.proofs.lemmas.List.{length-take}
use Rattle.byte_codec.specs.Numbers.{number_of}
use Rattle.capture_fmt.specs.declared.event.Event.{Event}
use Rattle.capture_fmt.specs.declared.event.Event.TheVariants.{Life, Tick, Resync, Arrive}
use Rattle.capture_fmt.specs.Event.{EventFits}
use Rattle.edge_traits.specs.declared.datagram.Addr.{Addr}
use Rattle.ntp_wire.specs.Fields.{originate_of, transmit_of}
use Rattle.ntp_wire.specs.Stamp.{StampFits}
use Rattle.ntp_wire.specs.declared.stamp.Stamp.{Stamp}
use Rattle.time_machine.specs.declared.outcome.How.{How}
use Rattle.time_machine.specs.declared.outcome.Outcome.{Outcome}
use Rattle.time_machine.specs.declared.outcome.Outcome.TheVariants.{Started, Idle, Sent, Moved, Refused}
use Rattle.time_machine.specs.declared.outcome.Request.{Request}
use Rattle.time_machine.specs.Events.{reading_of}
use Rattle.time_machine.specs.Growing.{HasCounts}
use Rattle.time_machine.specs.Machine.{outcome_at}
use Rattle.sntp_world.specs.declared.due.Due.{Due}
use Rattle.sntp_world.specs.declared.due.Due.TheVariants as due
use Rattle.sntp_world.specs.declared.op.Op.{Op}
use Rattle.sntp_world.specs.declared.op.Op.TheVariants.{Pass, Poll, Deliver, Ask, Craft, Restart}
use Rattle.sntp_world.specs.declared.op.Effect.{Effect}
use Rattle.sntp_world.specs.declared.op.Effect.TheVariants as effect
use Rattle.sntp_world.specs.declared.packet.Destination.{Destination}
use Rattle.sntp_world.specs.declared.packet.Destination.TheVariants as to
use Rattle.sntp_world.specs.declared.packet.Packet.{Packet}
use Rattle.sntp_world.specs.Due.{IsDue}
use Rattle.sntp_world.specs.Running.{FitsDue, OpFits}
use Rattle.sntp_world.specs.Setting.{controller_addr, world_conf}
use Rattle.sntp_world.specs.State.{State}
use Rattle.sntp_world.specs.Steps.{Asks, DeliversTo, Forges, Guesses, IsAnsweredBy, Leads, Leaves, MayPass, Reaches, Takes, WorldAfter, correction_by, nearest_reading, next_mark, packets_after, passed, words_in}
use Rattle.sntp_world.proofs.Accepting.{accepted, arrival_passed, brought_back}
use Rattle.sntp_world.proofs.Answering.{has_answer}
use Rattle.sntp_world.proofs.Deciding.{IsDecided, at_most, counts_left, forges, guesses, may_pass}
use Rattle.sntp_world.proofs.Fitting.{IsFit, all_reversed, fit_always, in_place}
use Rattle.sntp_world.proofs.Histories.{history_after}
use Rattle.sntp_world.proofs.Requests.{HasRequests, requests_always, stamp_by}

-- ---- The member

-- what a correction answers was open
answers_open : (w : State) (at : ℤ) (from : Addr) (bytes : List ℕ) (count : ℕ) (offset : ℤ) (how : How) → outcome_at world_conf w.history (Arrive at from bytes) ≡ Moved count offset how
    → (r : Request) × Contains (words_in w).open_requests r × (originate_of bytes ≡ stamp_by r)
unfolding outcome_at
answers_open w at from bytes count offset how is =
    let p = arrival_passed (words_in w) at from bytes count offset how is in
    (p.request, p.opened, brought_back at (originate_of bytes) p.request p.answers)

leaves_on : (w : State) (e : Event) (o : Outcome) → HasRequests w → IsFit w → reading_of e ≡ w.now.member → outcome_at world_conf w.history e ≡ o → (now : State) × Leaves w e o now
leaves_on w e (Sent addr count bytes) has fit read is = (record w { history = e ∷ w.history; packets = record { to = to.Controller; bytes = bytes; at = w.now } ∷ w.packets }, refl)
leaves_on w (Arrive at from reply) (Moved count offset how) has fit read is =
    let open_one = answers_open w at from reply count offset how is in
    let word = fit.requests open_one.0 open_one.1 in
    let fraction : (originate_of reply).fraction ≡ open_one.0.word = ap (λ (s : Stamp). s.fraction) open_one.2 in
    let there = (accepted w (Arrive at from reply) count offset how has read is).0.there (subst (λ (n : ℕ). n < 2 ^ 32) (sym fraction) word) in
    let request = there.0 in
    let answered : IsAnsweredBy w reply request = record { sent = there.1; asks = there.2.asks; answered = there.2.same } in (
      record w {
        history = Arrive at from reply ∷ w.history;
        now = record w.now { member = nearest_reading (w.now.member +ℤ offset) };
        corrections = correction_by w.now reply offset request ∷ w.corrections;
      },
      (request, answered, refl),
    )
leaves_on w (Life at mark) (Moved count offset how) has fit read is = absurd (accepted w (Life at mark) count offset how has read is).0
leaves_on w (Tick at word) (Moved count offset how) has fit read is = absurd (accepted w (Tick at word) count offset how has read is).0
leaves_on w (Resync at word flags) (Moved count offset how) has fit read is = absurd (accepted w (Resync at word flags) count offset how has read is).0
leaves_on w e (Started mark) has fit read is = (record w { history = e ∷ w.history }, refl)
leaves_on w e Idle has fit read is = (record w { history = e ∷ w.history }, refl)
leaves_on w e (Refused reason) has fit read is = (record w { history = e ∷ w.history }, refl)

-- the member can take each event at its reading
takes_on : (e : Event) (w : State) → HasRequests w → IsFit w → reading_of e ≡ w.now.member → (eff : Effect) × (now : State) × Takes e w eff now
takes_on e w has fit read =
    let left = leaves_on w e (outcome_at world_conf w.history e) has fit read refl in
    (effect.Stepped (outcome_at world_conf w.history e), left.0, (refl, left.1))

-- an event at the member's reading leads to some state
pub taken_on : (ops : List Op) (w : State) (e : Event) → AllByRecursion OpFits ops → WorldAfter ops w → reading_of e ≡ w.now.member
    → (eff : Effect) × (now : State) × Takes e w eff now
taken_on ops w e fit after read = takes_on e w (requests_always ops w after) (fit_always ops w fit after) read

-- ---- The controller

-- four bytes are below 2^32
four_below : (xs : List ℕ) → length xs ≤ 4 → AllByRecursion (λ (b : ℕ). b < 256) xs → number_of xs < 2 ^ 32
unfolding number_of
four_below [] few all = omega arith
four_below (a ∷ []) few all = let p = all.0 in omega arith
four_below (a ∷ b ∷ []) few all = let p = all.0 in let q = all.1.0 in omega arith
four_below (a ∷ b ∷ c ∷ []) few all = let p = all.0 in let q = all.1.0 in let r = all.1.1.0 in omega arith
four_below (a ∷ b ∷ c ∷ d ∷ []) few all = let p = all.0 in let q = all.1.0 in let r = all.1.1.0 in let s = all.1.1.1.0 in omega arith
four_below (a ∷ b ∷ c ∷ d ∷ e ∷ xs) few all = absurd (omega arith)

all_dropped : (P : ℕ → Type 0) (n : ℕ) (xs : List ℕ) → AllByRecursion P xs → AllByRecursion P (drop n xs)
all_dropped P zero xs all = all
all_dropped P (suc n) [] all = tt
all_dropped P (suc n) (x ∷ xs) all = all_dropped P n xs all.1

all_taken : (P : ℕ → Type 0) (n : ℕ) (xs : List ℕ) → AllByRecursion P xs → AllByRecursion P (take n xs)
all_taken P zero xs all = tt
all_taken P (suc n) [] all = tt
all_taken P (suc n) (x ∷ xs) all = (all.0, all_taken P n xs all.1)

word_below : (place : ℕ) (bytes : List ℕ) → AllByRecursion (λ (b : ℕ). b < 256) bytes → number_of (take 4 (drop place bytes)) < 2 ^ 32
word_below place bytes all =
    four_below (take 4 (drop place bytes)) (omega (arith, length-take 4 (drop place bytes)))
    (all_taken (λ (b : ℕ). b < 256) 4 (drop place bytes) (all_dropped (λ (b : ℕ). b < 256) place bytes all))

stamp_below : (bytes : List ℕ) → AllByRecursion (λ (b : ℕ). b < 256) bytes → StampFits (transmit_of bytes)
stamp_below bytes all = record { seconds = word_below 40 bytes all; fraction = word_below 44 bytes all }

-- the controller answers each request whose timestamp fits
asks_on : (bytes : List ℕ) (w : State) → HasRequests w → StampFits (transmit_of bytes) → (eff : Effect) × (now : State) × Asks bytes w eff now
asks_on bytes w has fits =
    let given = has_answer bytes w.now.controller has.packets.clocks.controller fits in (
      effect.Answered given.answer,
      record w { packets = packets_after w given.answer },
      record { info = given.info; local = given.local; answer = given.answer; answers = given.answers; effect_is = refl; now_is = refl },
    )

-- ---- Each operation

-- it leads to some state
abbrev LeadsOn : Op → State → Type 0
LeadsOn op w = (eff : Effect) × (now : State) × Leads op w eff now

pass_on : (d : ℕ) (e f : ℤ) (w : State) → IsDecided (MayPass d e f w.now) → LeadsOn (Pass d e f) w
pass_on d e f w (inl may) = (effect.Passed, record w { now = passed d e f w.now }, inl (may, (refl, refl)))
pass_on d e f w (inr isnt) = (effect.Skipped, record w { skipped = w.skipped + 1 }, inr (isnt, (refl, refl)))

poll_on : (word : ℕ) (w : State) → HasRequests w → IsFit w → IsDecided (HasCounts (words_in w)) → LeadsOn (Poll word) w
poll_on word w has fit (inl may) = let took = takes_on (Tick w.now.member word) w has fit refl in (took.0, took.1, inl (may, took.2))
poll_on word w has fit (inr isnt) = (effect.Skipped, record w { skipped = w.skipped + 1 }, inr (isnt, (refl, refl)))

reaches_on : (bytes : List ℕ) (w : State) → HasRequests w → IsFit w → (eff : Effect) × (now : State) × Reaches bytes w eff now
reaches_on bytes w has fit = takes_on (Arrive w.now.member controller_addr bytes) w has fit refl

delivers_to : (d : Destination) (bytes : List ℕ) (w : State) → HasRequests w → IsFit w → (d ≡ to.Controller → StampFits (transmit_of bytes))
    → (eff : Effect) × (now : State) × DeliversTo d bytes w eff now
delivers_to to.Controller bytes w has fit fits = asks_on bytes w has (fits refl)
delivers_to to.Member bytes w has fit fits = reaches_on bytes w has fit

deliver_on : (back : ℕ) (w : State) (o : Option Packet) → HasRequests w → IsFit w → slice_get w.packets back ≡ o → LeadsOn (Deliver back) w
deliver_on back w None has fit is = (effect.Skipped, record w { skipped = w.skipped + 1 }, inr (is, (refl, refl)))
deliver_on back w (Some p) has fit is =
    let did = delivers_to p.to p.bytes w has fit (fit.packets p (in_place w.packets back p is)).asks in
    (did.0, did.1, inl (p, is, did.2))

ask_on : (bytes : List ℕ) (w : State) → HasRequests w → StampFits (transmit_of bytes) → IsDecided (Guesses w bytes) → LeadsOn (Ask bytes) w
ask_on bytes w has fits (inl guess) = (effect.Skipped, record w { skipped = w.skipped + 1 }, inl (guess, (refl, refl)))
ask_on bytes w has fits (inr isnt) = let did = asks_on bytes w has fits in (did.0, did.1, inr (isnt, did.2))

craft_on : (bytes : List ℕ) (w : State) → HasRequests w → IsFit w → IsDecided (Forges w bytes) → LeadsOn (Craft bytes) w
craft_on bytes w has fit (inl forged) = (effect.Skipped, record w { skipped = w.skipped + 1 }, inl (forged, (refl, refl)))
craft_on bytes w has fit (inr isnt) = let did = reaches_on bytes w has fit in (did.0, did.1, inr (isnt, did.2))

restart_on : (w : State) → HasRequests w → IsFit w → IsDecided (next_mark (words_in w) ≤ 4294967231) → LeadsOn Restart w
restart_on w has fit (inl low) = let took = takes_on (Life w.now.member (next_mark (words_in w))) w has fit refl in (took.0, took.1, inl (low, took.2))
restart_on w has fit (inr high) = (effect.Skipped, record w { skipped = w.skipped + 1 }, inr (omega (arith, high), (refl, refl)))

op_on : (op : Op) (w : State) → HasRequests w → IsFit w → OpFits op → LeadsOn op w
op_on (Pass d e f) w has fit fits = pass_on d e f w (may_pass d e f w.now)
op_on (Poll word) w has fit fits = poll_on word w has fit (counts_left (words_in w))
op_on (Deliver back) w has fit fits = deliver_on back w (slice_get w.packets back) has fit refl
op_on (Ask bytes) w has fit fits = ask_on bytes w has (stamp_below bytes fits.1) (guesses w bytes)
op_on (Craft bytes) w has fit fits = craft_on bytes w has fit (forges w bytes)
op_on Restart w has fit fits = restart_on w has fit (at_most (next_mark (words_in w)) 4294967231)

-- an operation whose numbers fit their types leads to some state
pub leads_on : (ops : List Op) (w : State) (op : Op) → AllByRecursion OpFits ops → OpFits op → WorldAfter ops w
    → (eff : Effect) × (now : State) × Leads op w eff now
leads_on ops w op fit fits after = op_on op w (requests_always ops w after) (fit_always ops w fit after) fits

-- ---- The capture

-- each event of a world's history has a record
pub events_fit : (ops : List Op) (w : State) → AllByRecursion OpFits ops → WorldAfter ops w → AllByRecursion EventFits (reverse w.history)
events_fit ops w fit after = all_reversed EventFits w.history (fit_always ops w fit after).events

-- the event that is due has one
pub due_fits : (ops : List Op) (op : Op) (d : Due) (w : State) → AllByRecursion OpFits ops → OpFits op → WorldAfter ops w → IsDue op d w → FitsDue d
due_fits ops op due.Nothing w fit fits after is = tt
due_fits ops op (due.Time at) w fit fits after is = tt
due_fits ops op (due.Answer bytes) w fit fits after is = tt
due_fits ops op (due.Take e) w fit fits after is =
    let did = taken_on ops w e fit after is.may.1 in
    let next = fit_always (op ∷ ops) did.1 (fits, fit) (w, did.0, after, is.carries_out did.0 did.1 did.2) in
    let all : AllByRecursion EventFits (e ∷ w.history) = subst (AllByRecursion EventFits) (history_after w e _ did.1 did.2.1) next.events in
    all.0
