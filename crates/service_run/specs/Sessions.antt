-- The sessions of a service, each with what was done for it.
use Rattle.std.specs.Prelude.{◌≡◌, ◌⊎◌, ℕ, suc, Bool, true, false, List, [], ◌∷◌, ◌++◌, length, map, codes, decimal, Ok, Err, ⊤}
use Rattle.edge_traits.specs.Wire.{Entry, Session, NoMore, Failed, SessionTold}
use Rattle.capture_fmt.specs.declared.event.Event.{Event}
use Rattle.time_machine.specs.declared.conf.Conf.{Conf}
use Rattle.time_machine.specs.Events.{History}
use Rattle.run_deeds.specs.Deeds.{Deed, Take, Print}
use Rattle.run_deeds.specs.Weaving.{SyncCall, followed_by}
use Rattle.w32t_calls.specs.declared.call.Call.{Call}
use Rattle.w32t_calls.specs.declared.call.Call.TheVariants as asked
use Rattle.w32t_calls.specs.declared.call.Given.{Given}
use Rattle.w32t_calls.specs.declared.end.SessionEnd.{SessionEnd}
use Rattle.w32t_calls.specs.declared.end.SessionEnd.TheVariants as end
use Rattle.w32t_calls.specs.Serving.{session_of}
use Rattle.w32t_calls.specs.Standing.{HasEnded, IsCutShort}
use Rattle.service_run.specs.Answering.{ArePartsOf, IsPartOf, answers_to, sync_calls}
use Rattle.service_run.specs.Profile.{Profile}

-- A session that was opened: what it told at last, the calls that were handed out, in order, the answers that were given to
-- them, and the events that came of each call for a request that was answered.
pub record SessionRun : Type 0 where
  pub told : SessionTold
  pub calls : List Call
  pub answers : List Given
  pub parts : List (List Event)

-- all these events, one part after the other
abbrev pub joined_parts : List (List Event) → List Event
joined_parts [] = []
joined_parts (part ∷ parts) = part ++ joined_parts parts

-- ---- A session that was served to its end

-- whether it ended by a failed read, and whether by a failed write
abbrev pub is_read_fault : SessionEnd → Bool
is_read_fault end.ReadFault = true
is_read_fault _ = false

abbrev pub is_write_fault : SessionEnd → Bool
is_write_fault end.WriteFault = true
is_write_fault _ = false

-- After a history each of its calls was answered, each for a request with its part. A silent wire tells no more.
pub record IsServed (conf : Conf) (profile : Profile) (history : History) (s : SessionRun) : Type 0 where
  pub parts : ArePartsOf (sync_calls s.calls) s.parts
  pub answers : s.answers ≡ answers_to conf profile history s.calls s.parts

-- What was taken of it and written to it where it ended so. After a failed read that was written which the bytes taken come
-- to; after a failed write a front of it.
abbrev pub Finishes : SessionEnd → List Given → SessionTold → Type 0
Finishes end.Ended answers told = HasEnded end.Ended answers told × (told.left ≡ [])
Finishes end.Torn answers told = HasEnded end.Torn answers told × (told.left ≡ [])
Finishes end.BadPdu answers told = HasEnded end.BadPdu answers told
Finishes end.Spent answers told = HasEnded end.Spent answers told
Finishes end.ReadFault answers told =
    (told.writes ≡ (session_of told.taken answers).writes)
    × (((session_of told.taken answers).end ≡ Err end.Ended) ⊎ ((session_of told.taken answers).end ≡ Err end.Torn))
Finishes end.WriteFault answers told = IsCutShort told.writes (session_of told.taken answers).writes (length told.taken)

-- It is told as that: the calls are those that its bytes come to with these answers, it ended so, and its marks say whether
-- a read or a write failed.
pub record IsToldAs (s : SessionRun) (why : SessionEnd) : Type 0 where
  pub made : s.calls ≡ (session_of s.told.taken s.answers).calls
  pub ends : Finishes why s.answers s.told
  pub read : s.told.read_failed ≡ is_read_fault why
  pub write : s.told.write_failed ≡ is_write_fault why

-- sessions, one after the other
abbrev pub AreServed : Conf → Profile → History → List (SessionRun × SessionEnd) → Type 0
AreServed conf profile history [] = ⊤
AreServed conf profile history (one ∷ later) =
    IsServed conf profile history one.0 × AreServed conf profile (followed_by history (joined_parts one.0.parts)) later

-- each of them is told so
abbrev pub AreToldAs : List (SessionRun × SessionEnd) → Type 0
AreToldAs [] = ⊤
AreToldAs (one ∷ later) = IsToldAs one.0 one.1 × AreToldAs later

-- ---- A session that a fault of the run has stopped

-- After a history all its calls were answered but the last one, which asked for a request: it has no answer, and these are
-- the events of its part that were taken.
pub record IsStopped (conf : Conf) (profile : Profile) (history : History) (s : SessionRun) (call : SyncCall) (events : List Event) : Type 0 where
  pub calls : List Call
  pub made : s.calls ≡ calls ++ asked.Sync call.wait call.flags ∷ []
  pub parts : ArePartsOf (sync_calls calls) s.parts
  pub answers : s.answers ≡ answers_to conf profile history calls s.parts
  pub begins : (events ≡ []) ⊎ IsPartOf call events

-- It is told as that: its bytes come to that call, all was written that they come to with the answers before it, no byte
-- was taken past the PDU of the call, and no read and no write failed.
pub record IsStoppedAs (s : SessionRun) (call : SyncCall) : Type 0 where
  pub made : s.calls ≡ (session_of s.told.taken s.answers).calls
  pub waits : (session_of s.told.taken s.answers).end ≡ Ok (asked.Sync call.wait call.flags)
  pub writes : s.told.writes ≡ (session_of s.told.taken s.answers).writes
  pub place : length s.told.taken ≡ (session_of s.told.taken s.answers).place
  pub read : s.told.read_failed ≡ false
  pub write : s.told.write_failed ≡ false

-- ---- How the sessions of a run came to an end

-- Nothing but the sessions that were served; no more would come; the request for one failed; or one was stopped, at this
-- call, of which these events were taken.
pub data Last : Type 0 where
  Nothing : Last
  Over : Last
  Unopened : Last
  Stopped : (session : SessionRun) (at : SyncCall) (events : List Event) → Last

-- what the wire tells of it
abbrev pub entries_in : Last → List Entry
entries_in Nothing = []
entries_in Over = NoMore ∷ []
entries_in Unopened = Failed ∷ []
entries_in (Stopped session at events) = Session session.told ∷ []

-- how often a request for a session failed
abbrev pub unopened_in : Last → ℕ
unopened_in Unopened = 1
unopened_in _ = 0

-- the calls for a request
abbrev pub calls_in : Last → List SyncCall
calls_in (Stopped session at events) = sync_calls session.calls
calls_in _ = []

-- the events that were taken
abbrev pub events_of_last : Last → List Event
events_of_last (Stopped session at events) = joined_parts session.parts ++ events
events_of_last _ = []

-- where one was stopped, it was so
abbrev pub IsLast : Conf → Profile → History → Last → Type 0
IsLast conf profile history (Stopped session at events) = IsStopped conf profile history session at events
IsLast conf profile history _ = ⊤

-- and is told so
abbrev pub IsLastToldAs : Last → Type 0
IsLastToldAs (Stopped session at events) = IsStoppedAs session at
IsLastToldAs _ = ⊤

-- ---- The lines

-- the name of an end
abbrev pub end_name : SessionEnd → List ℕ
end_name end.Ended = codes "Ended"
end_name end.BadPdu = codes "BadPdu"
end_name end.Torn = codes "Torn"
end_name end.Spent = codes "Spent"
end_name end.ReadFault = codes "ReadFault"
end_name end.WriteFault = codes "WriteFault"

-- the line of a session, the first one having number 1
abbrev pub session_line : ℕ → SessionEnd → List ℕ
session_line number why = codes "session n=" ++ decimal number ++ codes " end=" ++ end_name why ++ 10 ∷ []

-- what is done for sessions, of which the first one has this number: the events of its calls, and its line
abbrev pub deeds_of : ℕ → List (SessionRun × SessionEnd) → List Deed
deeds_of number [] = []
deeds_of number (one ∷ later) =
    map Take (joined_parts one.0.parts) ++ Print (session_line number one.1) ∷ deeds_of (suc number) later

-- all events of sessions, and all their calls for a request
abbrev pub session_events : List (SessionRun × SessionEnd) → List Event
session_events [] = []
session_events (one ∷ later) = joined_parts one.0.parts ++ session_events later

abbrev pub session_calls : List (SessionRun × SessionEnd) → List SyncCall
session_calls [] = []
session_calls (one ∷ later) = sync_calls one.0.calls ++ session_calls later

-- what the wire tells of them
abbrev pub session_entries : List (SessionRun × SessionEnd) → List Entry
session_entries [] = []
session_entries (one ∷ later) = Session one.0.told ∷ session_entries later
