-- How far a correction may be off, and what this rests on.
use Rattle.std.specs.Prelude.{◌≡◌, ◌+◌, ◌*◌, ◌-◌, ◌<◌, ◌≤◌, ⊤, List, [], ◌∷◌, All, Contains, Option, Some, None, ℤ, pos, ◌+ℤ◌, ◌-ℤ◌, ◌≤ℤ◌, nat_abs}
use Rattle.ntp_wire.specs.Fields.{originate_of, receive_of, transmit_of}
use Rattle.ntp_wire.specs.Stamp.{IsStampOf}
use Rattle.time_machine.specs.declared.outcome.Request.{Request}
use Rattle.time_machine.specs.Machine.{told}
use Rattle.time_machine.specs.Words.{IsOpen}
use Rattle.sntp_world.specs.declared.moment.Moment.{Moment}
use Rattle.sntp_world.specs.declared.op.Op.{Op}
use Rattle.sntp_world.specs.declared.packet.Destination.TheVariants as to
use Rattle.sntp_world.specs.declared.packet.Packet.{Packet}
use Rattle.sntp_world.specs.Laws.{IsPacketOf}
use Rattle.sntp_world.specs.Setting.{world_conf}
use Rattle.sntp_world.specs.Standing.{Keeps, Kept}
use Rattle.sntp_world.specs.State.{Correction, State}
use Rattle.sntp_world.specs.Steps.{AreNear, HasAccountDigest, StayNear, WorldAfter}

-- ---- The bound

-- Twice the error of a correction is at most the delay of its reply, twice the unevenness of the clocks between sending
-- and arrival, and one tick.
abbrev pub IsWithinBound : Correction → Type 0
IsWithinBound c = pos (2 * nat_abs (c.offset -ℤ c.ahead)) ≤ℤ (c.delay +ℤ pos (2 * (c.came - c.sent) + 1))

-- this isn't negative, where there is one
abbrev pub IsNotNegative : Option ℤ → Type 0
IsNotNegative None = ⊤
IsNotNegative (Some slack) = pos 0 ≤ℤ slack

-- Each correction of each state that these operations led to, and that a world keeps, is within its bound, and the least
-- slack that it keeps isn't negative.
pub record KeepsBounds (ops : List Op) (k : Kept) : Type 0 where
  pub bounds : (w : State) → WorldAfter ops w → Keeps k w → All IsWithinBound w.corrections
  pub not_negative : IsNotNegative k.slack

-- Where both clocks stay within 68 years of each other, each correction is within its bound, whatever strangers and the
-- net do.
abbrev pub LawOfAccuracy : Type 0
LawOfAccuracy = (ops : List Op) (w : State) → WorldAfter ops w → StayNear ops → All IsWithinBound w.corrections

-- Clocks that ran unevenly by less than 68 years in all, and ten seconds less, stay within 68 years of each other.
abbrev pub LawOfNearness : Type 0
LawOfNearness = (ops : List Op) (w : State) → WorldAfter ops w → w.now.uneven ≤ 21459167900000000 → AreNear w.now

-- ---- What it rests on

-- the count of each request among these packets, the last one first, is above those of all requests before it
abbrev pub CountsRise : List Packet → Type 0
CountsRise [] = ⊤
CountsRise (p ∷ before) =
    (p.to ≡ to.Controller → All (λ q. q.to ≡ to.Controller → (transmit_of q.bytes).seconds < (transmit_of p.bytes).seconds) before)
    × CountsRise before

-- so no timestamp is sent twice, not by two lives either
abbrev pub LawOfStamps : Type 0
LawOfStamps = (ops : List Op) (w : State) → WorldAfter ops w → CountsRise w.packets

-- The controller made this reply, by its clock when it stood among the packets: it answers a request of the member that
-- was sent before, and both its times are that clock's.
pub record IsReplyIn (packets : List Packet) (reply : Packet) : Type 0 where
  pub request : Packet
  pub sent : Contains packets request
  pub asks : request.to ≡ to.Controller
  pub answers : originate_of reply.bytes ≡ transmit_of request.bytes
  pub before : request.at.controller ≤ℤ reply.at.controller
  pub receive : IsStampOf reply.at.controller (receive_of reply.bytes)
  pub transmit : IsStampOf reply.at.controller (transmit_of reply.bytes)

-- each packet to the member with the account's digest, the last one first, is such a reply to one of the packets before it
abbrev pub AreReplies : List Packet → Type 0
AreReplies [] = ⊤
AreReplies (p ∷ before) = (p.to ≡ to.Member → HasAccountDigest p.bytes → IsReplyIn before p) × AreReplies before

-- nothing is forged, and no timestamp is guessed: so they are in each world
abbrev pub LawOfReplies : Type 0
LawOfReplies = (ops : List Op) (w : State) → WorldAfter ops w → AreReplies w.packets

-- From one moment to the other both clocks ran on, and none was corrected: neither by more than the other and what they ran
-- unevenly.
pub record RunOn (from later : Moment) : Type 0 where
  pub member : from.member ≤ℤ later.member
  pub controller : from.controller ≤ℤ later.controller
  pub uneven : from.uneven ≤ later.uneven
  pub controller_ahead : ((later.controller -ℤ from.controller) +ℤ pos from.uneven) ≤ℤ ((later.member -ℤ from.member) +ℤ pos later.uneven)
  pub member_ahead : ((later.member -ℤ from.member) +ℤ pos from.uneven) ≤ℤ ((later.controller -ℤ from.controller) +ℤ pos later.uneven)

-- so they did since a request was sent that is open
abbrev pub LawOfRunning : Type 0
LawOfRunning = (ops : List Op) (w : State) (r : Request) (p : Packet) → WorldAfter ops w →
    IsOpen (told world_conf w.history) r → IsPacketOf w r p → RunOn p.at w.now
