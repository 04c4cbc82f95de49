-- What each operation does.
use Rattle.std.specs.Prelude.{◌≡◌, ◌⊎◌, ℕ, ◌+◌, ◌*◌, ◌/◌, ◌<◌, ◌≤◌, true, List, [], ◌∷◌, length, Contains, Some, None, slice_get, unwrap_or, ℤ, pos, ◌+ℤ◌, ◌-ℤ◌, int_lt, nat_abs, if◌then◌else◌}
use Rattle.base_specs.specs.Time.{IsReading}
use Rattle.ntp_wire.specs.Fields.{originate_of, receive_of, transmit_of}
use Rattle.ntp_wire.specs.Stamp.{ticks_of}
use Rattle.ms_auth.specs.declared.packet.Kind.{Kind}
use Rattle.ms_auth.specs.Fields.{kind_length, rid_at}
use Rattle.capture_fmt.specs.declared.event.Event.{Event}
use Rattle.capture_fmt.specs.declared.event.Event.TheVariants.{Life, Tick, Resync, Arrive}
use Rattle.time_machine.specs.declared.outcome.Outcome.{Outcome}
use Rattle.time_machine.specs.declared.outcome.Outcome.TheVariants.{Started, Idle, Sent, Moved, Refused}
use Rattle.time_machine.specs.Growing.{MayFollow}
use Rattle.time_machine.specs.Machine.{outcome_at, told}
use Rattle.time_machine.specs.Verdict.{delay_of, has_digest}
use Rattle.time_machine.specs.Words.{Words, words}
use Rattle.dc_sign.specs.declared.info.ServerInfo.{ServerInfo}
use Rattle.dc_sign.specs.declared.outcome.Answer.{Answer}
use Rattle.dc_sign.specs.declared.outcome.Answer.TheVariants as answer
use Rattle.dc_sign.specs.Info.{IsLocalInfo}
use Rattle.dc_sign.specs.Reply.{Answers}
use Rattle.sntp_world.specs.declared.moment.Moment.{Moment}
use Rattle.sntp_world.specs.declared.op.Op.{Op}
use Rattle.sntp_world.specs.declared.op.Op.TheVariants.{Pass, Poll, Deliver, Ask, Craft, Restart}
use Rattle.sntp_world.specs.declared.op.Effect.{Effect}
use Rattle.sntp_world.specs.declared.op.Effect.TheVariants.{Skipped, Passed, Answered, Stepped}
use Rattle.sntp_world.specs.declared.packet.Destination.{Destination}
use Rattle.sntp_world.specs.declared.packet.Destination.TheVariants as to
use Rattle.sntp_world.specs.declared.packet.Packet.{Packet}
use Rattle.sntp_world.specs.Setting.{controller_addr, world_account, world_conf, world_key, world_rid}
use Rattle.sntp_world.specs.State.{Correction, State, first_state}

-- the words at the end of the member's history
abbrev pub words_in : State → Words
words_in w = words world_conf (told world_conf w.history)

-- an operation that may not be is skipped, and changes nothing
abbrev pub Skips : State → Effect → State → Type 0
Skips w effect now = (effect ≡ Skipped) × (now ≡ record w { skipped = w.skipped + 1 })

-- ---- Time passes

-- the member's clock runs on by `d + e`, and the controller's by `d + f`
abbrev pub passed : ℕ → ℤ → ℤ → Moment → Moment
passed d e f at = record {
  member = at.member +ℤ (pos d +ℤ e);
  controller = at.controller +ℤ (pos d +ℤ f);
  uneven = at.uneven + (nat_abs e + nat_abs f);
}

-- neither clock runs backward, both stay readings, and the unevenness is at most 10^18
pub record MayPass (d : ℕ) (e f : ℤ) (at : Moment) : Type 0 where
  pub member_on : nat_abs e ≤ d
  pub controller_on : nat_abs f ≤ d
  pub member : IsReading (passed d e f at).member
  pub controller : IsReading (passed d e f at).controller
  pub uneven : (passed d e f at).uneven ≤ 1000000000000000000

-- time passes
abbrev pub Passes : ℕ → ℤ → ℤ → State → Effect → State → Type 0
Passes d e f w effect now = (effect ≡ Passed) × (now ≡ record w { now = passed d e f w.now })

-- ---- The member takes an event

-- the reading that is nearest to a moment
abbrev pub nearest_reading : ℤ → ℤ
nearest_reading t =
    if int_lt t (pos 0) then pos 0
    else (if int_lt (pos 4000000000000000000) t then pos 4000000000000000000 else t)

-- The correction by an offset, which a reply made to the request that left in a packet.
abbrev pub correction_by : Moment → List ℕ → ℤ → Packet → Correction
correction_by at reply offset request = record {
  offset = offset;
  ahead = at.controller -ℤ at.member;
  delay = delay_of request.at.member
      (ticks_of (receive_of reply) at.member) (ticks_of (transmit_of reply) at.member) at.member;
  sent = request.at.uneven;
  came = at.uneven;
}

-- this packet is the request that a reply answers
pub record IsAnsweredBy (w : State) (reply : List ℕ) (request : Packet) : Type 0 where
  pub sent : Contains w.packets request
  pub asks : request.to ≡ to.Controller
  pub answered : transmit_of request.bytes ≡ originate_of reply

-- a correction moves the member's clock, and it stays a reading
abbrev pub Corrects : State → Event → ℤ → State → Type 0
Corrects w (Arrive at from reply) offset now = (request : Packet) × IsAnsweredBy w reply request
    × (now ≡ record w {
      history = Arrive at from reply ∷ w.history;
      now = record w.now { member = nearest_reading (w.now.member +ℤ offset) };
      corrections = correction_by w.now reply offset request ∷ w.corrections;
    })
Corrects w (Life at mark) offset now = ⊥
Corrects w (Tick at word) offset now = ⊥
Corrects w (Resync at word flags) offset now = ⊥

-- what an outcome leaves: a request is one more packet, and a correction moves the member's clock
abbrev pub Leaves : State → Event → Outcome → State → Type 0
Leaves w event (Sent addr count bytes) now =
    now ≡ record w { history = event ∷ w.history; packets = record { to = to.Controller; bytes = bytes; at = w.now } ∷ w.packets }
Leaves w event (Moved count offset how) now = Corrects w event offset now
Leaves w event (Started mark) now = now ≡ record w { history = event ∷ w.history }
Leaves w event Idle now = now ≡ record w { history = event ∷ w.history }
Leaves w event (Refused reason) now = now ≡ record w { history = event ∷ w.history }

-- the member takes this event
abbrev pub Takes : Event → State → Effect → State → Type 0
Takes event w effect now =
    (effect ≡ Stepped (outcome_at world_conf w.history event))
    × Leaves w event (outcome_at world_conf w.history event) now

-- a packet reaches the member, as if it came from the controller
abbrev pub Reaches : List ℕ → State → Effect → State → Type 0
Reaches bytes w effect now = Takes (Arrive w.now.member controller_addr bytes) w effect now

-- ---- The controller answers

-- the packets after an answer: a reply is one more, to the member
abbrev pub packets_after : State → Answer → List Packet
packets_after w (answer.Signed reply) = record { to = to.Member; bytes = reply; at = w.now } ∷ w.packets
packets_after w (answer.Plain reply) = record { to = to.Member; bytes = reply; at = w.now } ∷ w.packets
packets_after w (answer.Refused reason) = w.packets

-- The controller answers a request. It reads its clock once, for both times.
pub record Asks (bytes : List ℕ) (w : State) (effect : Effect) (now : State) : Type 0 where
  pub info : ServerInfo
  pub local : IsLocalInfo w.now.controller info
  pub answer : Answer
  pub answers : Answers (world_account ∷ []) info bytes w.now.controller w.now.controller answer
  pub effect_is : effect ≡ Answered answer
  pub now_is : now ≡ record w { packets = packets_after w answer }

-- ---- A packet is delivered

-- to where it goes
abbrev pub DeliversTo : Destination → List ℕ → State → Effect → State → Type 0
DeliversTo to.Controller bytes w effect now = Asks bytes w effect now
DeliversTo to.Member bytes w effect now = Reaches bytes w effect now

-- ---- What strangers may not do

-- a message of a kind that asks under the member's account
pub record AsksForMember (bytes : List ℕ) : Type 0 where
  pub kind : Kind
  pub size : length bytes ≡ kind_length kind
  pub account : rid_at kind bytes ≡ world_rid

-- the member sent a request with the timestamp of these bytes
pub record HasStampSent (w : State) (bytes : List ℕ) : Type 0 where
  pub packet : Packet
  pub sent : Contains w.packets packet
  pub asks : packet.to ≡ to.Controller
  pub same : transmit_of packet.bytes ≡ transmit_of bytes

-- a stranger guesses: it asks under the member's account, with a timestamp that the member didn't send so far
abbrev pub Guesses : State → List ℕ → Type 0
Guesses w bytes = AsksForMember bytes × ¬ HasStampSent w bytes

-- a message of a kind with the account's digest
pub record HasAccountDigest (bytes : List ℕ) : Type 0 where
  pub kind : Kind
  pub size : length bytes ≡ kind_length kind
  pub digest : has_digest kind world_key bytes ≡ true

-- these bytes are a packet that was sent
pub record WasSent (w : State) (bytes : List ℕ) : Type 0 where
  pub packet : Packet
  pub sent : Contains w.packets packet
  pub same : packet.bytes ≡ bytes

-- a stranger forges: the bytes have the account's digest, and weren't sent so far
abbrev pub Forges : State → List ℕ → Type 0
Forges w bytes = HasAccountDigest bytes × ¬ WasSent w bytes

-- ---- A restart

-- Blocks of 64 that so many requests use, the last one begun. A member reserves them before it sends.
abbrev pub blocks_of : ℕ → ℕ
blocks_of sent = (sent + 63) / 64

-- the mark of the life after this one
abbrev pub next_mark : Words → ℕ
next_mark w = unwrap_or w.mark 0 + 64 * blocks_of w.sent

-- ---- An operation

-- What an operation does: where it may be it is carried out, and exactly where it may not it is skipped.
abbrev pub Leads : Op → State → Effect → State → Type 0
Leads (Pass d e f) w effect now =
    (MayPass d e f w.now × Passes d e f w effect now)
    ⊎ (¬ MayPass d e f w.now × Skips w effect now)
Leads (Poll word) w effect now =
    (MayFollow world_conf (words_in w) (Tick w.now.member word) × Takes (Tick w.now.member word) w effect now)
    ⊎ (¬ MayFollow world_conf (words_in w) (Tick w.now.member word) × Skips w effect now)
Leads (Deliver back) w effect now =
    ((packet : Packet) × (slice_get w.packets back ≡ Some packet) × DeliversTo packet.to packet.bytes w effect now)
    ⊎ ((slice_get w.packets back ≡ None) × Skips w effect now)
Leads (Ask bytes) w effect now =
    (Guesses w bytes × Skips w effect now) ⊎ (¬ Guesses w bytes × Asks bytes w effect now)
Leads (Craft bytes) w effect now =
    (Forges w bytes × Skips w effect now) ⊎ (¬ Forges w bytes × Reaches bytes w effect now)
Leads Restart w effect now =
    ((next_mark (words_in w) ≤ 4294967231) × Takes (Life w.now.member (next_mark (words_in w))) w effect now)
    ⊎ ((4294967231 < next_mark (words_in w)) × Skips w effect now)

-- the world after these operations, the last one first
abbrev pub WorldAfter : List Op → State → Type 0
WorldAfter [] w = w ≡ first_state
WorldAfter (op ∷ ops) w = (before : State) × (effect : Effect) × WorldAfter ops before × Leads op before effect w

-- ---- The clocks are near each other

-- within 68 years
abbrev pub AreNear : Moment → Type 0
AreNear at = nat_abs (at.controller -ℤ at.member) ≤ 21459168000000000

-- and stay so after each of these operations
abbrev pub StayNear : List Op → Type 0
StayNear [] = Unit {0}
StayNear (op ∷ ops) = ((w : State) → WorldAfter (op ∷ ops) w → AreNear w.now) × StayNear ops
