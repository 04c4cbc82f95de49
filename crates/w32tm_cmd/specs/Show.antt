-- The command `/show`: what a run writes, for each answer.
use Rattle.std.specs.Prelude.{◌≡◌, ◌↔◌, ℕ, List, length}
use Rattle.base_specs.specs.Counts.{Fails}
use Rattle.base_specs.specs.Told.{Added}
use Rattle.ms_auth.specs.declared.packet.Packet.{Packet}
use Rattle.ms_auth.specs.Packet.{SpellsPacket, IsPacketLength}
use Rattle.dc_sign.specs.declared.outcome.Refusal.{Refusal}
use Rattle.dc_sign.specs.declared.outcome.Refusal.TheVariants.{BadLength}
use Rattle.line_text.specs.Text.{joined, BreaksOff}
use Rattle.w32tm_text.specs.Show.{show_lines}
use Rattle.w32tm_text.specs.declared.status.Status.{Status}
use Rattle.w32tm_text.specs.declared.status.Status.TheVariants.{Done, WriteFault, BadRequest}
use Rattle.edge_seen.specs.Seen.{Seen}
use Rattle.w32tm_cmd.specs.Seen.{HasNoFault}

-- the lines of the message that the bytes spell were written
pub record WritesMessage (bytes : List ℕ) (before now : Seen) : Type 0 where
  pub message : Packet
  pub spelled : SpellsPacket message bytes
  pub written : Added before.written now.written (joined (show_lines message))
  pub no_fault : now.write_faults ≡ before.write_faults

-- the write of one of its lines failed, and the text broke off there
pub record FailsToShow (bytes : List ℕ) (before now : Seen) : Type 0 where
  pub message : Packet
  pub spelled : SpellsPacket message bytes
  pub text : List ℕ
  pub breaks_off : BreaksOff (show_lines message) text
  pub written : Added before.written now.written text
  pub cause : Fails before.write_faults now.write_faults

-- the bytes spell no message, and no device was touched
pub record RefusesToShow (bytes : List ℕ) (before now : Seen) (reason : Refusal) : Type 0 where
  pub is : reason ≡ BadLength
  pub no_message : ¬ IsPacketLength (length bytes)
  pub untouched : now ≡ before

-- what each answer of `/show` says
abbrev pub Shows : List ℕ → Seen → Seen → Status → Type 0
Shows bytes before now Done = WritesMessage bytes before now
Shows bytes before now WriteFault = FailsToShow bytes before now
Shows bytes before now (BadRequest reason) = RefusesToShow bytes before now reason
Shows bytes before now _ = ⊥

-- an answer that `/show` can give
abbrev pub IsShowAnswer : Status → Type 0
IsShowAnswer Done = Unit {0}
IsShowAnswer WriteFault = Unit {0}
IsShowAnswer (BadRequest reason) = reason ≡ BadLength
IsShowAnswer _ = ⊥

-- all that `/show` promises of what is told: it refuses exactly the bytes that spell no message, and is done where they
-- spell one and no call failed
pub record ShowPromise (bytes : List ℕ) (before now : Seen) (result : Status) : Type 0 where
  pub runs : Shows bytes before now result
  pub answers : IsShowAnswer result
  pub exact : (result ≡ BadRequest BadLength) ↔ ¬ IsPacketLength (length bytes)
  pub complete : HasNoFault before now → IsPacketLength (length bytes) → result ≡ Done
