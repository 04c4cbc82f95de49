-- What a world keeps of all that happened in it.
use Rattle.std.specs.Prelude.{◌≡◌, List, reverse, Option, ℤ}
use Rattle.sntp_core.specs.declared.member.Member.{Member}
use Rattle.sntp_core.specs.Standing.{StandsForHistory, conf_of}
use Rattle.sntp_world.specs.declared.moment.Moment.{Moment}
use Rattle.sntp_world.specs.declared.op.Op.{Op}
use Rattle.sntp_world.specs.declared.packet.Packet.{Packet}
use Rattle.sntp_world.specs.Setting.{world_conf}
use Rattle.sntp_world.specs.State.{IsLeastSlack, State}
use Rattle.sntp_world.specs.Steps.{WorldAfter}

-- the member, the clocks, the packets in the order of sending, and the least slack of the corrections
pub record Kept : Type 0 where
  pub member : Member
  pub clocks : Moment
  pub packets : List Packet
  pub slack : Option ℤ

-- it keeps this state: of the corrections the least slack alone, and of the operations that were skipped nothing
pub record Keeps (k : Kept) (w : State) : Type 0 where
  pub conf : conf_of k.member ≡ world_conf
  pub member : StandsForHistory k.member w.history
  pub clocks : k.clocks ≡ w.now
  pub packets : k.packets ≡ reverse w.packets
  pub slack : IsLeastSlack w.corrections k.slack

-- it is the world after these operations, the last one first
pub record StandsForOps (k : Kept) (ops : List Op) : Type 0 where
  pub state : State
  pub after : WorldAfter ops state
  pub keeps : Keeps k state

-- some operations have led to it, as to each world
pub record IsReached (k : Kept) : Type 0 where
  pub ops : List Op
  pub stands : StandsForOps k ops
