-- A whole run of a service: what its devices gave, its sessions, and what was done.
use Rattle.std.specs.Prelude.{◌≡◌, ◌≢◌, ◌⊎◌, ℕ, ◌+◌, ◌*◌, ◌≤◌, ℤ, List, [], ◌∷◌, ◌++◌, length, map, flat_map, IfSome, Option, unwrap_or, Result, Ok, Err, ⊤}
use Rattle.std.specs.List.{count_by}
use Rattle.base_specs.specs.Counts.{FailsTimes}
use Rattle.base_specs.specs.Told.{Added, Grew}
use Rattle.edge_traits.specs.Clock.{ClockCall}
use Rattle.edge_traits.specs.Link.{LinkCall}
use Rattle.edge_traits.specs.Wire.{Entry}
use Rattle.edge_seen.specs.Seen.{Seen}
use Rattle.capture_fmt.specs.declared.event.Event.TheVariants.{Life}
use Rattle.slot_disk.specs.Calls.{LeavesOnly}
use Rattle.slot_disk.specs.Told.{DiskTold}
use Rattle.stamp_keep.specs.Image.{mark_of_image}
use Rattle.time_machine.specs.declared.conf.Conf.{Conf}
use Rattle.time_machine.specs.Entries.{last_of}
use Rattle.time_machine.specs.Events.{History, mark_of}
use Rattle.time_machine.specs.Growing.{Grows}
use Rattle.time_machine.specs.Machine.{told}
use Rattle.time_machine.specs.Words.{life_at}
use Rattle.sntp_core.specs.declared.member.Member.{Member}
use Rattle.sntp_core.specs.Standing.{StandsForHistory, conf_of}
use Rattle.run_deeds.specs.Closing.{closing_lines}
use Rattle.run_deeds.specs.Deeds.{Deed, Take, Print, Ending, NoLine, HasLine, all_done, events_given, events_in, history_after, printed}
use Rattle.run_deeds.specs.Devices.{Does, EndsAtLast, Faults, Given, LifeEndsBy, faults_of, living}
use Rattle.run_deeds.specs.Lives.{CallsForBlocks, Effects, Ended, Kept, StandsForBlocks, Woven}
use Rattle.run_deeds.specs.Marks.{Reserved, blocks_of}
use Rattle.run_deeds.specs.Parts.{Tallies}
use Rattle.run_deeds.specs.Weaving.{Calls, Need, Stood, Weaves, followed_by}
use Rattle.run_deeds.specs.declared.life_end.LifeEnd.{LifeEnd}
use Rattle.run_deeds.specs.declared.life_end.Why.{Why}
use Rattle.run_deeds.specs.declared.life_end.Why.TheVariants as why
use Rattle.member_run.specs.Turning.{CallsFor}
use Rattle.w32t_calls.specs.declared.end.SessionEnd.{SessionEnd}
use Rattle.w32tm_text.specs.declared.status.Status.{Status}
use Rattle.w32tm_text.specs.declared.status.Status.TheVariants.{Done, ReadFault, WriteFault, DiskFault, BadKeeper, StampsSpent, ClockFault, EntropyFault}
use Rattle.service_run.specs.declared.serving.Stop.{Stop}
use Rattle.service_run.specs.declared.serving.Stop.TheVariants as stop
use Rattle.service_run.specs.Profile.{Profile}
use Rattle.service_run.specs.Sessions.{AreServed, AreToldAs, IsLast, IsLastToldAs, Last, Nothing, Over, SessionRun, Stopped, Unopened, calls_in, deeds_of, entries_in, events_of_last, is_read_fault, is_write_fault, session_calls, session_entries, session_events, unopened_in}

-- What was done, all in all: nothing; or the Life, then the events and the line of each session, the events of one that was
-- stopped, and lines behind them.
abbrev pub AreDeeds : (life : ℤ) → (mark : ℕ) → List (SessionRun × SessionEnd) → Last → (closing : List (List ℕ)) → List Deed → Type 0
AreDeeds life mark served last closing [] = (served ≡ []) × (last ≡ Nothing) × (closing ≡ [])
AreDeeds life mark served last closing (deed ∷ later) =
    (deed ≡ Take (Life life mark)) × (later ≡ deeds_of 1 served ++ map Take (events_of_last last) ++ map Print closing)

-- ---- How a run came to its end

-- the deed that isn't whole is a line that is no event's
abbrev pub IsAtPrint : Ending → Type 0
IsAtPrint (NoLine (Print line) front) = ⊤
IsAtPrint _ = ⊥

-- all sessions were served, or no more would come
abbrev pub IsServedOut : (sessions : ℕ) → List (SessionRun × SessionEnd) → Last → Type 0
IsServedOut sessions served Nothing = length served ≡ sessions
IsServedOut sessions served Over = ⊤
IsServedOut sessions served Unopened = ⊥
IsServedOut sessions served (Stopped session at events) = ⊥

-- a closing line is not whole
abbrev pub IsInClosing : (closing : List (List ℕ)) → LifeEnd → Ending → Type 0
IsInClosing closing end ending = (closing ≢ []) × IsAtPrint ending × ((rest : List (List ℕ)) × (closing ++ rest ≡ closing_lines end))

-- Where a fault of the member's run came: in the session that was stopped; at a closing line, when all sessions were served
-- or no more would come; at the Life; or at the line of the last session.
abbrev pub FailsIn : (sessions : ℕ) → List (SessionRun × SessionEnd) → Last → (closing : List (List ℕ)) → LifeEnd → Ending → Type 0
FailsIn sessions served Unopened closing end ending = ⊥
FailsIn sessions served (Stopped session at events) closing end ending = (closing ≡ []) × ¬ IsAtPrint ending
FailsIn sessions served Over closing end ending = IsInClosing closing end ending
FailsIn sessions served Nothing (line ∷ lines) end ending = (length served ≡ sessions) × IsInClosing (line ∷ lines) end ending
FailsIn sessions [] Nothing [] end ending = ¬ IsAtPrint ending
FailsIn sessions (one ∷ later) Nothing [] end ending = IsAtPrint ending

-- What each end of the member's run says of the sessions and of the lines behind them. It ends well where all were served and
-- the closing lines written, and where the request for a session failed.
abbrev pub EndsAs : Why → (sessions : ℕ) → List (SessionRun × SessionEnd) → Last → (closing : List (List ℕ)) → LifeEnd → Ending → Type 0
EndsAs why.Done sessions served last closing end ending =
    (IsServedOut sessions served last × (closing ≡ closing_lines end)) ⊎ ((last ≡ Unopened) × (closing ≡ []))
EndsAs _ sessions served last closing end ending = FailsIn sessions served last closing end ending

-- the status of a run that ended so
abbrev pub status_of : Why → Last → Status
status_of why.Done Unopened = ReadFault
status_of why.Done _ = Done
status_of why.DiskFault _ = DiskFault
status_of why.BadVersion _ = BadKeeper
status_of why.StampsSpent _ = StampsSpent
status_of why.ClockFault _ = ClockFault
status_of why.EntropyFault _ = EntropyFault
status_of why.SinkFault _ = WriteFault

-- the status of a run that stopped so
abbrev pub status_of_stop : Stop → Status
status_of_stop stop.Unopened = ReadFault
status_of_stop (stop.Fault end) = status_of end Nothing

-- what the devices tell where those of a run and the wire tell this
abbrev pub serving : Seen → Option (List LinkCall) → Option (List ClockCall) → Option (List ℕ) → Option (List ℕ) → Option (List ℕ) → ℕ → Faults → Option (List Entry) → (reads writes : ℕ) → Seen
serving others link clock words capture out link_faults faults wire reads writes =
    record (living others link clock words capture out link_faults faults) { wire = wire; wire_faults = reads; wire_write_faults = writes }

-- ---- The sessions, one after the other

-- why the run ended, where its sessions stopped so
abbrev pub why_of_stop : Result (Unit {0}) Stop → Why
why_of_stop (Ok done) = why.Done
why_of_stop (Err stop.Unopened) = why.Done
why_of_stop (Err (stop.Fault end)) = end

-- where they stopped, by what is answered
abbrev pub StopsSo : (sessions : ℕ) → Result (Unit {0}) Stop → List (SessionRun × SessionEnd) → Last → Ending → Type 0
StopsSo sessions (Ok done) served last ending = IsServedOut sessions served last
StopsSo sessions (Err stop.Unopened) served last ending = last ≡ Unopened
StopsSo sessions (Err (stop.Fault why)) served last ending = (end : LifeEnd) → FailsIn sessions served last [] end ending

-- From a need on, after a history: what the devices gave is woven into events, each is taken in its turn, and between them
-- lines are printed that are no event's. It is said as of a part of a run without such lines.
pub record Ran (conf : Conf) (from : Need) (history : History) (before now : Seen) (kept kept' : ℕ) (old new : LifeEnd) (cause : Why) (given : Given) (deeds : List Deed) (ending : Ending) (need : Need) : Type 0 where
  pub weaves : Weaves conf from history given.clock given.words given.link (events_given deeds ending) need
  pub does : Does conf history given deeds ending before now
  pub last_call : EndsAtLast ending given.link
  pub grows : Grows conf (history_after history (all_done deeds ending))
  pub tallies : Tallies conf history (all_done deeds ending) given.link old new
  pub ends : LifeEndsBy cause ending need (faults_of before) (faults_of now)
  pub well : cause ≡ why.Done → need ≡ Calls []
  pub reserved : cause ≡ why.Done → Reserved kept (told conf history) → Reserved kept' (told conf (history_after history (all_done deeds ending)))

-- what the disk was called for between two histories, the first of which reserved its counts as they were due, and what it
-- stands for
pub record KeepsAll (conf : Conf) (history later : History) (kept : ℕ) (why : Why) (ending : Ending) (need : Need) (entry exit : DiskTold) : Type 0 where
  pub disk : Reserved kept (told conf history) → CallsFor (told conf history) (told conf later) entry exit why
  pub blocks : Reserved kept (told conf history)
      → CallsForBlocks why ending need (life_at (told conf later)) entry.time (exit.time + 5 * blocks_of (life_at (told conf history)))
  pub most : Reserved kept (told conf history)
      → LeavesOnly entry exit (StandsForBlocks why ending need (life_at (told conf later)) (unwrap_or (last_of (λ t. mark_of t.event) (told conf later)) 0))

-- Sessions that were served after a history, each with its line, and what came behind them.
pub record ServesAll (conf : Conf) (profile : Profile) (sessions : ℕ) (history : History) (before now : Seen) (member : Member) (kept kept' : ℕ) (old new : LifeEnd)
    (entry exit : DiskTold) (wire wire_now : Option (List Entry)) (reads reads_now writes writes_now : ℕ) (result : Result (Unit {0}) Stop) : Type 0 where
  pub served : List (SessionRun × SessionEnd)
  pub last : Last
  pub within : length served + length (entries_in last) ≤ sessions
  pub given : Given
  pub deeds : List Deed
  pub ending : Ending
  pub need : Need
  pub ran : Ran conf (Calls (session_calls served ++ calls_in last)) history before now kept kept' old new (why_of_stop result) given deeds ending need
  pub are : all_done deeds ending ≡ deeds_of 1 served ++ map Take (events_of_last last)
  pub is_set : conf_of member ≡ conf
  pub stands : StandsForHistory member (history_after history (all_done deeds ending))
  pub stops : StopsSo sessions result served last ending
  pub keeps : KeepsAll conf history (history_after history (all_done deeds ending)) kept (why_of_stop result) ending need entry exit
  pub each : AreServed conf profile history served
  pub at_last : IsLast conf profile (followed_by history (session_events served)) last
  pub wire_grew : Grew wire wire_now (session_entries served ++ entries_in last)
  pub told : IfSome wire_now (λ entries. AreToldAs served × IsLastToldAs last)
  pub read : FailsTimes (unopened_in last + count_by (λ s. is_read_fault s.1) served) reads reads_now
  pub write : FailsTimes (count_by (λ s. is_write_fault s.1) served) writes writes_now

-- ---- All of it

-- What was printed: of each event its line, of each session its line behind them, and the lines behind all of these; of the
-- deed that isn't whole a front of its line.
pub record Tells (conf : Conf) {stood : Stood} (served : List (SessionRun × SessionEnd)) (last : Last) (w : Woven conf (Calls (session_calls served ++ calls_in last)) stood) (sessions : ℕ) (end : LifeEnd) (life : ℤ) (before now : Seen) : Type 0 where
  pub deeds : List Deed
  pub closing : List (List ℕ)
  pub taken : flat_map events_in (all_done deeds w.ending) ≡ w.events
  pub are : AreDeeds life stood.mark served last closing (all_done deeds w.ending)
  pub has_line : HasLine conf [] deeds w.ending
  pub out : Added before.written now.written (printed conf [] deeds w.ending)
  pub ends : EndsAs end.why sessions served last closing end w.ending

-- A run of a service of at most so many sessions. Its events are those of the calls of the sessions, in order, each in its
-- turn; what it sent, moved, captured and kept is as in each run of a member.
pub record Serves (conf : Conf) (profile : Profile) (sessions : ℕ) (entry exit : DiskTold) (before now : Seen) (status : Status) : Type 0 where
  pub stood : Stood
  pub stood_for : IfSome entry.content (λ c. stood.mark ≡ mark_of_image c)
  -- the sessions that were served, each with its end, and what came behind them
  pub served : List (SessionRun × SessionEnd)
  pub last : Last
  pub within : length served + length (entries_in last) ≤ sessions
  pub woven : Woven conf (Calls (session_calls served ++ calls_in last)) stood
  pub end : LifeEnd
  pub effects : Effects conf woven before now
  pub ended : Ended conf woven before now end
  pub kept : Kept conf woven entry exit end.why
  -- the reading of the Life, and what was printed
  pub life : ℤ
  pub tells : Tells conf served last woven sessions end life before now
  -- each session was answered as its calls ask
  pub each : AreServed conf profile (Life life stood.mark ∷ []) served
  pub at_last : IsLast conf profile (followed_by (Life life stood.mark ∷ []) (session_events served)) last
  -- The wire was asked for just these sessions, and where it tells them its bytes ask for these calls, and the answers and
  -- nothing else were written. Its counts rise by one for each request, read and write that failed.
  pub wire : Grew before.wire now.wire (session_entries served ++ entries_in last)
  pub told : IfSome now.wire (λ entries. AreToldAs served × IsLastToldAs last)
  pub reads : FailsTimes (unopened_in last + count_by (λ s. is_read_fault s.1) served) before.wire_faults now.wire_faults
  pub writes : FailsTimes (count_by (λ s. is_write_fault s.1) served) before.wire_write_faults now.wire_write_faults
  pub is_status : status ≡ status_of end.why last
