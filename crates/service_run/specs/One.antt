-- What is done for one session.
use Rattle.std.specs.Prelude.{◌≡◌, ◌≢◌, ◌+◌, ◌*◌, ℕ, List, [], ◌++◌, Option, unwrap_or, Result, Ok, Err}
use Rattle.base_specs.specs.Counts.{Fails}
use Rattle.base_specs.specs.Told.{LastIs, LastTold}
use Rattle.edge_traits.specs.Wire.{Entry, SessionChanged, SessionIs, fresh}
use Rattle.edge_seen.specs.Seen.{Seen}
use Rattle.capture_fmt.specs.declared.event.Event.{Event}
use Rattle.slot_disk.specs.Calls.{LeavesOnly}
use Rattle.slot_disk.specs.Told.{DiskTold}
use Rattle.time_machine.specs.declared.conf.Conf.{Conf}
use Rattle.time_machine.specs.Entries.{last_of}
use Rattle.time_machine.specs.Events.{History, mark_of}
use Rattle.time_machine.specs.Words.{life_at}
use Rattle.time_machine.specs.Machine.{told}
use Rattle.sntp_core.specs.declared.member.Member.{Member}
use Rattle.run_deeds.specs.declared.life_end.LifeEnd.{LifeEnd}
use Rattle.run_deeds.specs.declared.life_end.Why.{Why}
use Rattle.run_deeds.specs.Deeds.{all_done, history_after}
use Rattle.run_deeds.specs.Lives.{CallsForBlocks, StandsForBlocks}
use Rattle.run_deeds.specs.Marks.{Reserved, blocks_of}
use Rattle.run_deeds.specs.Parts.{Part, why_of}
use Rattle.run_deeds.specs.Weaving.{Calls, SyncCall}
use Rattle.member_run.specs.Turning.{CallsFor}
use Rattle.w32t_calls.specs.declared.end.SessionEnd.{SessionEnd}
use Rattle.w32t_calls.specs.declared.end.SessionEnd.TheVariants as end
use Rattle.service_run.specs.Answering.{sync_calls}
use Rattle.service_run.specs.Profile.{Profile}
use Rattle.service_run.specs.Sessions.{IsServed, IsStopped, IsStoppedAs, IsToldAs, SessionRun, joined_parts}

-- nothing was done with the session opened last
abbrev pub IsFresh : Option (List Entry) → Type 0
IsFresh told = LastIs (SessionIs (λ s. (left : List ℕ) × (s ≡ fresh left))) told

-- what was done of a call that has no answer: the call, and the events of its part that were taken
pub record Cut : Type 0 where
  pub at : SyncCall
  pub events : List Event

-- the session was served to its end, or a fault of the run stopped it at a call
abbrev pub WasServed : Conf → Profile → History → SessionRun → Cut → List Event → Result SessionEnd Why → Type 0
WasServed conf profile history s cut taken (Ok why) = IsServed conf profile history s × (taken ≡ joined_parts s.parts)
WasServed conf profile history s cut taken (Err why) =
    IsStopped conf profile history s cut.at cut.events × (taken ≡ joined_parts s.parts ++ cut.events)

-- and is told so
abbrev pub WasTold : SessionRun → Cut → Result SessionEnd Why → Type 0
WasTold s cut (Ok why) = IsToldAs s why
WasTold s cut (Err why) = IsStoppedAs s cut.at

-- A session that was just opened, and what was done for it: the part of a run that its calls ask for, its answers, and what
-- the wire tells of it.
pub record ServesOne (conf : Conf) (profile : Profile) (history : History) (before now : Seen) (member : Member) (kept kept' : ℕ) (old new : LifeEnd)
    (wire wire_now : Option (List Entry)) (result : Result SessionEnd Why) : Type 0 where
  pub run : SessionRun
  pub cut : Cut
  pub part : Part conf (Calls (sync_calls run.calls)) (Calls []) history before now member kept kept' old new (why_of result)
  pub was : WasServed conf profile history run cut part.runs.taken result
  pub told : LastTold (SessionChanged (λ opened at_last. (at_last ≡ run.told) × WasTold run cut result)) wire wire_now

-- a read that failed raises the one count, a write that failed the other, and no other end does
pub record EndCounts (result : Result SessionEnd Why) (reads reads_now writes writes_now : ℕ) : Type 0 where
  pub read : result ≡ Ok end.ReadFault → Fails reads reads_now
  pub no_read : result ≢ Ok end.ReadFault → reads_now ≡ reads
  pub write : result ≡ Ok end.WriteFault → Fails writes writes_now
  pub no_write : result ≢ Ok end.WriteFault → writes_now ≡ writes

-- what the disk was called for in calls after a history, in whose last life counts were reserved as they were due, and what
-- it stands for
pub record KeepsOne (conf : Conf) (history : History) {calls : List SyncCall} {before now : Seen} {member : Member} {kept kept' : ℕ} {old new : LifeEnd} {why : Why}
    (part : Part conf (Calls calls) (Calls []) history before now member kept kept' old new why) (entry exit : DiskTold) : Type 0 where
  pub disk : Reserved kept (told conf history)
      → CallsFor (told conf history) (told conf (history_after history (all_done part.runs.deeds part.runs.ending))) entry exit why
  pub blocks : Reserved kept (told conf history)
      → CallsForBlocks why part.runs.ending part.runs.need
      (life_at (told conf (history_after history (all_done part.runs.deeds part.runs.ending))))
      entry.time (exit.time + 5 * blocks_of (life_at (told conf history)))
  pub most : Reserved kept (told conf history)
      → LeavesOnly entry exit
      (StandsForBlocks why part.runs.ending part.runs.need
      (life_at (told conf (history_after history (all_done part.runs.deeds part.runs.ending))))
      (unwrap_or (last_of (λ t. mark_of t.event) (told conf (history_after history (all_done part.runs.deeds part.runs.ending)))) 0))
