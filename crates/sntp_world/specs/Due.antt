-- What an operation comes to, in the private part: an operation is carried out by doing what is due.
use Rattle.std.specs.Prelude.{◌≡◌, ◌<◌, ◌≤◌, ◌^◌, ℕ, ⊤, List, length, Contains, Option, Some, None, ℤ, pos, ◌≤ℤ◌, int_lt, if◌then◌else◌}
use Rattle.base_specs.specs.Time.{IsReading}
use Rattle.capture_fmt.specs.declared.event.Event.{Event}
use Rattle.capture_fmt.specs.declared.event.Event.TheVariants.{Life, Tick, Resync, Arrive}
use Rattle.dc_sign.specs.declared.outcome.Answer as outcome
use Rattle.dc_sign.specs.declared.outcome.Answer.TheVariants as given
use Rattle.ms_auth.specs.declared.packet.Tail.{Tail}
use Rattle.ms_auth.specs.declared.packet.Tail.TheVariants.{Plain, Short68, Ext120}
use Rattle.ms_auth.specs.Fields.{short_rid_in}
use Rattle.ntp_wire.specs.declared.stamp.Stamp.{Stamp}
use Rattle.ntp_wire.specs.Fields.{originate_of, receive_of, transmit_of}
use Rattle.ntp_wire.specs.Stamp.{ticks_of}
use Rattle.time_machine.specs.Events.{reading_of}
use Rattle.time_machine.specs.Growing.{MayFollow}
use Rattle.time_machine.specs.Verdict.{delay_of}
use Rattle.sntp_world.specs.declared.due.Due.{Due}
use Rattle.sntp_world.specs.declared.due.Due.TheVariants.{Nothing, Time, Answer, Take}
use Rattle.sntp_world.specs.declared.moment.Moment.{Moment}
use Rattle.sntp_world.specs.declared.op.Op.{Op}
use Rattle.sntp_world.specs.declared.op.Effect.{Effect}
use Rattle.sntp_world.specs.declared.op.Effect.TheVariants.{Passed}
use Rattle.sntp_world.specs.declared.packet.Destination.TheVariants as to
use Rattle.sntp_world.specs.declared.packet.Packet.{Packet}
use Rattle.sntp_world.specs.Setting.{world_conf, world_rid}
use Rattle.sntp_world.specs.Standing.{Keeps, Kept}
use Rattle.sntp_world.specs.State.{State, slack_of}
use Rattle.sntp_world.specs.Steps.{Asks, Leads, Skips, Takes, correction_by, words_in}

-- this was done, and it led from one state to another
abbrev pub IsDoneBy : Due → State → Effect → State → Type 0
IsDoneBy Nothing w effect now = Skips w effect now
IsDoneBy (Time at) w effect now = (effect ≡ Passed) × (now ≡ record w { now = at })
IsDoneBy (Answer bytes) w effect now = Asks bytes w effect now
IsDoneBy (Take event) w effect now = Takes event w effect now

-- the member may take the event, at its clock's reading
abbrev pub MayBeDone : Due → State → Type 0
MayBeDone Nothing w = ⊤
MayBeDone (Time at) w = ⊤
MayBeDone (Answer bytes) w = ⊤
MayBeDone (Take event) w = MayFollow world_conf (words_in w) event × (reading_of event ≡ w.now.member)

-- doing this carries the operation out
pub record IsDue (op : Op) (due : Due) (w : State) : Type 0 where
  pub may : MayBeDone due w
  pub carries_out : (effect : Effect) (now : State) → IsDoneBy due w effect now → Leads op w effect now

-- doing this carries an operation out in each state of which a world keeps this
pub record IsDueBy (k : Kept) (due : Due) : Type 0 where
  pub op : Op
  pub is : (w : State) → Keeps k w → IsDue op due w

-- this was done, in each state of which a world kept this
abbrev pub Does : Kept → Due → Effect → Kept → Type 0
Does k due effect now = (before : State) → Keeps k before → (after : State) × IsDoneBy due before effect after × Keeps now after

-- a packet is the member's request with this timestamp
pub record IsRequestWith (stamp : Stamp) (p : Packet) : Type 0 where
  pub asks : p.to ≡ to.Controller
  pub whole : 48 ≤ length p.bytes
  pub same : transmit_of p.bytes ≡ stamp

-- the member's request with the transmit timestamp of these bytes is among the packets
abbrev pub IsSentBefore : List Packet → List ℕ → Type 0
IsSentBefore packets bytes = (p : Packet) × Contains packets p × IsRequestWith (transmit_of bytes) p

-- a tail that names the member's account
abbrev pub NamesAccount : Tail → Type 0
NamesAccount Plain = ⊥
NamesAccount (Short68 key_id sum) = short_rid_in key_id ≡ world_rid
NamesAccount (Ext120 rid reserved flags hints hash sum) = rid ≡ world_rid

-- a request to which a reply led to a correction: its times don't contradict each other
pub record IsTimely (at : Moment) (reply : List ℕ) (p : Packet) : Type 0 where
  pub left : IsReading p.at.member
  pub uneven : p.at.uneven ≤ at.uneven
  pub delayed : pos 0 ≤ℤ delay_of p.at.member (ticks_of (receive_of reply) at.member) (ticks_of (transmit_of reply) at.member) at.member
  pub soon : delay_of p.at.member (ticks_of (receive_of reply) at.member) (ticks_of (transmit_of reply) at.member) at.member ≤ℤ pos 100000000

-- the bytes of a reply that led to a correction: among the packets is its request, where they are bytes
pub record HasRequest (packets : List Packet) (at : Moment) (reply : List ℕ) : Type 0 where
  pub whole : 48 ≤ length reply
  pub there : (originate_of reply).fraction < 2 ^ 32 → (p : Packet) × Contains packets p × IsRequestWith (originate_of reply) p
  pub timely : (p : Packet) → Contains packets p → IsRequestWith (originate_of reply) p → IsTimely at reply p

-- the event is the arrival of one
abbrev pub IsAccepted : List Packet → Moment → Event → Type 0
IsAccepted packets at (Arrive now from reply) = HasRequest packets at reply
IsAccepted packets at (Life now mark) = ⊥
IsAccepted packets at (Tick now word) = ⊥
IsAccepted packets at (Resync now word flags) = ⊥

-- the slack of a correction by this offset
abbrev pub IsSlackBy : List Packet → Moment → Event → ℤ → ℤ → Type 0
IsSlackBy packets at (Arrive now from reply) offset slack =
    (request : Packet) × Contains packets request × (request.to ≡ to.Controller) × (transmit_of request.bytes ≡ originate_of reply)
    × (slack ≡ slack_of (correction_by at reply offset request))
IsSlackBy packets at (Life now mark) offset slack = ⊥
IsSlackBy packets at (Tick now word) offset slack = ⊥
IsSlackBy packets at (Resync now word flags) offset slack = ⊥

-- the least slack, with that of one more correction
abbrev pub least_of : Option ℤ → ℤ → ℤ
least_of None slack = slack
least_of (Some least) slack = if int_lt least slack then least else slack

-- the reply in an answer, if there is one
abbrev pub reply_of : outcome.Answer → Option (List ℕ)
reply_of (given.Signed reply) = Some reply
reply_of (given.Plain reply) = Some reply
reply_of (given.Refused reason) = None
