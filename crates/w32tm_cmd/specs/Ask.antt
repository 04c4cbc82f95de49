-- The commands `/resync` and `/query`: one call of a remote computer, whose answer is printed.
use Rattle.std.specs.Prelude.{◌≡◌, ◌≢◌, ◌⊎◌, ◌≤◌, ◌==◌, ℕ, Bool, if◌then◌else◌, List, [], ◌∷◌, ◌++◌, length, take, Some, Result, Ok, Err, ⊤}
use Rattle.base_specs.specs.Counts.{Fails, Rose}
use Rattle.base_specs.specs.Told.{Added}
use Rattle.client_run.specs.Asking.{AsksOnce, Tells}
use Rattle.client_run.specs.declared.asking.AskFault.TheVariants as ask
use Rattle.edge_traits.specs.Wire.{Entry, Session, NoMore, Failed}
use Rattle.edge_seen.specs.Seen.{Seen}
use Rattle.w32t_calls.specs.declared.call.Call.{Call}
use Rattle.w32t_calls.specs.declared.call.Call.TheVariants as call
use Rattle.w32t_calls.specs.declared.call.Given.{Given}
use Rattle.w32t_calls.specs.declared.call.Given.TheVariants as given
use Rattle.w32t_calls.specs.declared.call_fault.CallFault.{CallFault}
use Rattle.w32tm_text.specs.Calls.{bits_line, resync_line, source_line}
use Rattle.w32tm_text.specs.Words.{IsQueryBits, IsQuerySource, IsResync}
use Rattle.w32tm_text.specs.declared.status.Status.{Status}
use Rattle.w32tm_text.specs.declared.status.Status.TheVariants.{Done, NotResynced, PeerRefused, ReadFault, WriteFault}

-- ---- The calls, and what is printed of their answers

-- `/resync` asks for a synchronization, waits for its round or not, and has the partners looked for anew or not
abbrev pub sync_call : Bool → Bool → Call
sync_call wait rediscover = call.Sync (if wait then 1 else 0) (if rediscover then 6 else 2)

-- the line of an answer
abbrev pub answer_line : Given → List ℕ
answer_line (given.Synced result) = resync_line result
answer_line (given.Bits bits) = bits_line bits
answer_line (given.Source name) = source_line name

-- the status of a command that was given this answer: only a result other than 0 isn't done
abbrev pub status_given : Given → Status
status_given (given.Synced result) = if result == 0 then Done else NotResynced result
status_given (given.Bits bits) = Done
status_given (given.Source name) = Done

-- the words spell one of these commands
abbrev pub IsAsk : List (List ℕ) → Type 0
IsAsk words = ((wait : Bool) × (rediscover : Bool) × IsResync wait rediscover words) ⊎ (IsQuerySource words ⊎ IsQueryBits words)

-- ---- What a run does

-- no count of the wire or of the output changed
pub record KeepsCounts (before now : Seen) : Type 0 where
  pub wire : now.wire_faults ≡ before.wire_faults
  pub wire_write : now.wire_write_faults ≡ before.wire_write_faults
  pub write : now.write_faults ≡ before.write_faults

-- In one session the call was answered by this, and its line was printed.
pub record Answers (call : Call) (before now : Seen) (given : Given) : Type 0 where
  pub asked : AsksOnce call (Ok given) before.wire now.wire
  pub printed : Added before.written now.written (answer_line given)
  pub no_fault : KeepsCounts before now

-- No session came, or the peer refused or wasn't understood. Nothing was printed.
pub record IsRefused (call : Call) (before now : Seen) : Type 0 where
  pub asked : AsksOnce call (Err ask.Refused) before.wire now.wire
  pub nothing : now.written ≡ before.written
  pub no_fault : KeepsCounts before now

-- The request for the session or a read of it failed. Nothing was printed.
pub record FailsToHear (call : Call) (before now : Seen) : Type 0 where
  pub asked : AsksOnce call (Err ask.ReadFault) before.wire now.wire
  pub nothing : now.written ≡ before.written
  pub cause : Fails before.wire_faults now.wire_faults
  pub no_wire_write : now.wire_write_faults ≡ before.wire_write_faults
  pub no_write : now.write_faults ≡ before.write_faults

-- A write to the session failed. Nothing was printed.
pub record FailsToAsk (call : Call) (before now : Seen) : Type 0 where
  pub asked : AsksOnce call (Err ask.WriteFault) before.wire now.wire
  pub nothing : now.written ≡ before.written
  pub cause : Fails before.wire_write_faults now.wire_write_faults
  pub no_wire : now.wire_faults ≡ before.wire_faults
  pub no_write : now.write_faults ≡ before.write_faults

-- The call was answered, the write of its line failed, and some front of that was printed.
pub record FailsToPrint (call : Call) (before now : Seen) : Type 0 where
  pub given : Given
  pub front : ℕ
  pub asked : AsksOnce call (Ok given) before.wire now.wire
  pub most : front ≤ length (answer_line given)
  pub printed : Added before.written now.written (take front (answer_line given))
  pub cause : Fails before.write_faults now.write_faults
  pub no_wire : now.wire_faults ≡ before.wire_faults
  pub no_wire_write : now.wire_write_faults ≡ before.wire_write_faults

-- an answer that is no refusal to synchronize
abbrev pub IsWell : Given → Type 0
IsWell (given.Synced result) = result ≡ 0
IsWell (given.Bits bits) = ⊤
IsWell (given.Source name) = ⊤

-- what each answer of these commands says
abbrev pub RunsAsk : Call → Seen → Seen → Status → Type 0
RunsAsk call before now Done = (given : Given) × IsWell given × Answers call before now given
RunsAsk call before now (NotResynced result) = (result ≢ 0) × Answers call before now (given.Synced result)
RunsAsk call before now PeerRefused = IsRefused call before now
RunsAsk call before now ReadFault = FailsToHear call before now
RunsAsk call before now WriteFault = FailsToAsk call before now ⊎ FailsToPrint call before now
RunsAsk call before now _ = ⊥

-- ---- Which answer comes

-- no call of the wire or of the output failed
pub record IsAskFaultless (before now : Seen) : Type 0 where
  pub wire : ¬ Rose before.wire_faults now.wire_faults
  pub wire_write : ¬ Rose before.wire_write_faults now.wire_write_faults
  pub write : ¬ Rose before.write_faults now.write_faults

-- the status by what the call was told
abbrev pub status_told : Result Given CallFault → Status
status_told (Ok given) = status_given given
status_told (Err why) = PeerRefused

-- the status by what the request for a session gave, and by the bytes of the session
abbrev pub DecidesAsk : Call → Entry → Status → Type 0
DecidesAsk call (Session session) result =
    (told : Result Given CallFault) → Tells call (session.taken ++ session.left) told → result ≡ status_told told
DecidesAsk call NoMore result = result ≡ PeerRefused
DecidesAsk call Failed result = ⊥

-- Where the wire tells its entries and no call failed, the last of them decides.
abbrev pub IsAskExact : Call → Seen → Seen → Status → Type 0
IsAskExact call before now result = (entries : List Entry) (entry : Entry) → before.wire ≡ Some entries
    → now.wire ≡ Some (entries ++ entry ∷ []) → IsAskFaultless before now → DecidesAsk call entry result

-- the call was answered, or refused
abbrev pub IsHeard : Status → Type 0
IsHeard Done = ⊤
IsHeard (NotResynced result) = ⊤
IsHeard PeerRefused = ⊤
IsHeard _ = ⊥

-- a call for a synchronization
abbrev pub IsSync : Call → Type 0
IsSync (call.Sync wait flags) = ⊤
IsSync call.Bits = ⊥
IsSync call.Source = ⊥

-- an answer that the command of this call can give: only `/resync` is told that a computer isn't synchronized
abbrev pub IsAskAnswer : Call → Status → Type 0
IsAskAnswer c Done = ⊤
IsAskAnswer c (NotResynced result) = IsSync c
IsAskAnswer c PeerRefused = ⊤
IsAskAnswer c ReadFault = ⊤
IsAskAnswer c WriteFault = ⊤
IsAskAnswer c _ = ⊥

-- all that `/resync` and `/query` promise of what is told
pub record AskPromise (call : Call) (before now : Seen) (result : Status) : Type 0 where
  pub runs : RunsAsk call before now result
  pub answers : IsAskAnswer call result
  pub exact : IsAskExact call before now result
  pub complete : IsAskFaultless before now → IsHeard result
