-- What holds of each world, whatever happened in it.
use Rattle.std.specs.Prelude.{◌≡◌, ◌<◌, ◌≤◌, ◌^◌, List, Contains, IsSome}
use Rattle.base_specs.specs.Time.{IsReading}
use Rattle.ntp_wire.specs.Fields.{transmit_of}
use Rattle.time_machine.specs.declared.outcome.Request.{Request}
use Rattle.time_machine.specs.Growing.{Grows}
use Rattle.time_machine.specs.Machine.{told}
use Rattle.time_machine.specs.Words.{IsOpen}
use Rattle.sntp_world.specs.declared.moment.Moment.{Moment}
use Rattle.sntp_world.specs.declared.op.Effect.{Effect}
use Rattle.sntp_world.specs.declared.op.Op.{Op}
use Rattle.sntp_world.specs.declared.packet.Destination.TheVariants as to
use Rattle.sntp_world.specs.declared.packet.Packet.{Packet}
use Rattle.sntp_world.specs.Setting.{world_conf}
use Rattle.sntp_world.specs.State.{State}
use Rattle.sntp_world.specs.Steps.{Leads, WorldAfter, words_in}

-- operations lead to one world
abbrev pub LawOfOneWorld : Type 0
LawOfOneWorld = (ops : List Op) (one other : State) → WorldAfter ops one → WorldAfter ops other → one ≡ other

-- and one more of them has one effect
abbrev pub LawOfOneEffect : Type 0
LawOfOneEffect = (ops : List Op) (w : State) (op : Op) (effect other : Effect) (now later : State) → WorldAfter ops w →
    Leads op w effect now → Leads op w other later → effect ≡ other

-- the member's history grows, and a Life came
abbrev pub LawOfHistories : Type 0
LawOfHistories = (ops : List Op) (w : State) → WorldAfter ops w → Grows world_conf w.history × IsSome (words_in w).mark

-- both clocks are readings, and have run unevenly by at most 10^18
pub record AreClocks (at : Moment) : Type 0 where
  pub member : IsReading at.member
  pub controller : IsReading at.controller
  pub uneven : at.uneven ≤ 1000000000000000000

-- so they are in each world
abbrev pub LawOfClocks : Type 0
LawOfClocks = (ops : List Op) (w : State) → WorldAfter ops w → AreClocks w.now

-- each packet was sent at readings, and when the clocks had run no more unevenly
abbrev pub LawOfPackets : Type 0
LawOfPackets = (ops : List Op) (w : State) (p : Packet) → WorldAfter ops w → Contains w.packets p →
    IsReading p.at.member × IsReading p.at.controller × (p.at.uneven ≤ w.now.uneven)

-- the packet of a request
pub record IsPacketOf (w : State) (r : Request) (p : Packet) : Type 0 where
  pub sent : Contains w.packets p
  pub asks : p.to ≡ to.Controller
  pub stamp : transmit_of p.bytes ≡ record { seconds = r.count; fraction = r.word }

-- an open request has its packet, which left at the request's reading, as each has that has its timestamp
abbrev pub LawOfRequests : Type 0
LawOfRequests = (ops : List Op) (w : State) (r : Request) → WorldAfter ops w → IsOpen (told world_conf w.history) r →
    (r.word < 2 ^ 32 → (p : Packet) × IsPacketOf w r p) × ((p : Packet) → IsPacketOf w r p → p.at.member ≡ r.at)
