-- What a service answers to the calls of its sessions.
use Rattle.std.specs.Prelude.{◌≡◌, ◌⊎◌, ℕ, List, [], ◌∷◌, Result, Ok, Err, ⊤}
use Rattle.edge_seen.specs.Seen.{Seen}
use Rattle.capture_fmt.specs.declared.event.Event.{Event}
use Rattle.capture_fmt.specs.declared.event.Event.TheVariants.{Life, Tick, Resync, Arrive}
use Rattle.time_machine.specs.declared.conf.Conf.{Conf}
use Rattle.time_machine.specs.declared.outcome.Outcome.{Outcome}
use Rattle.time_machine.specs.Events.{History}
use Rattle.time_machine.specs.Machine.{outcome_at}
use Rattle.sntp_core.specs.declared.member.Member.{Member}
use Rattle.run_deeds.specs.declared.life_end.LifeEnd.{LifeEnd}
use Rattle.run_deeds.specs.declared.life_end.Why.{Why}
use Rattle.run_deeds.specs.Parts.{Part, why_of}
use Rattle.run_deeds.specs.Rounds.{result_of}
use Rattle.run_deeds.specs.Weaving.{Calls, SyncCall, followed_by}
use Rattle.w32t_calls.specs.declared.call.Call.{Call}
use Rattle.w32t_calls.specs.declared.call.Call.TheVariants as call
use Rattle.w32t_calls.specs.declared.call.Given.{Given}
use Rattle.w32t_calls.specs.declared.call.Given.TheVariants as given
use Rattle.service_run.specs.Profile.{Profile, source_name}

-- the calls among these that ask for a request
abbrev pub sync_calls : List Call → List SyncCall
sync_calls [] = []
sync_calls (call.Sync wait flags ∷ calls) = record { wait = wait; flags = flags } ∷ sync_calls calls
sync_calls (call.Bits ∷ calls) = sync_calls calls
sync_calls (call.Source ∷ calls) = sync_calls calls

-- what came of each of these events
abbrev pub outcomes_of : Conf → History → List Event → List Outcome
outcomes_of conf history [] = []
outcomes_of conf history (event ∷ later) = outcome_at conf history event ∷ outcomes_of conf (event ∷ history) later

-- The answers to calls after a history. Each call for a request has its part in turn: the events that came of it.
abbrev pub answers_to : Conf → Profile → History → List Call → (parts : List (List Event)) → List Given
answers_to conf profile history [] parts = []
answers_to conf profile history (call.Bits ∷ calls) parts = given.Bits profile.bits ∷ answers_to conf profile history calls parts
answers_to conf profile history (call.Source ∷ calls) parts =
    given.Source (source_name conf profile history) ∷ answers_to conf profile history calls parts
answers_to conf profile history (call.Sync wait flags ∷ calls) [] = []
answers_to conf profile history (call.Sync wait flags ∷ calls) (part ∷ parts) =
    given.Synced (result_of wait flags (outcomes_of conf history part))
    ∷ answers_to conf profile (followed_by history part) calls parts

-- all of these are arrivals
abbrev pub AreArrivals : List Event → Type 0
AreArrivals [] = ⊤
AreArrivals (Arrive now from bytes ∷ later) = AreArrivals later
AreArrivals (Life now mark ∷ later) = ⊥
AreArrivals (Tick now word ∷ later) = ⊥
AreArrivals (Resync now word flags ∷ later) = ⊥

-- the part of a call: a Resync with its flags, and the arrivals of its round
abbrev pub IsPartOf : SyncCall → List Event → Type 0
IsPartOf call (Resync now word flags ∷ later) = (flags ≡ call.flags) × AreArrivals later
IsPartOf call _ = ⊥

-- each call has its part, in the order of the calls
abbrev pub ArePartsOf : List SyncCall → List (List Event) → Type 0
ArePartsOf [] [] = ⊤
ArePartsOf (call ∷ calls) (part ∷ parts) = IsPartOf call part × ArePartsOf calls parts
ArePartsOf [] (part ∷ parts) = ⊥
ArePartsOf (call ∷ calls) [] = ⊥

-- ---- One call

-- the call asks for a request
abbrev pub IsSync : Call → Type 0
IsSync (call.Sync wait flags) = ⊤
IsSync call.Bits = ⊥
IsSync call.Source = ⊥

-- the part of a call, if it asks for a request: these events
abbrev pub part_of : Call → List Event → List (List Event)
part_of (call.Sync wait flags) events = events ∷ []
part_of call.Bits events = []
part_of call.Source events = []

-- what came of a call: its answer, and its part where it has one; or, where a fault of the run stopped it, a front of that
abbrev pub CameOf : Conf → Profile → Call → History → List Event → Result Given Why → Type 0
CameOf conf profile call history events (Ok given) =
    ArePartsOf (sync_calls (call ∷ [])) (part_of call events)
    × (given ∷ [] ≡ answers_to conf profile history (call ∷ []) (part_of call events))
CameOf conf profile (call.Sync wait flags) history events (Err why) =
    (events ≡ []) ⊎ IsPartOf (record { wait = wait; flags = flags }) events
CameOf conf profile call.Bits history events (Err why) = ⊥
CameOf conf profile call.Source history events (Err why) = ⊥

-- a call after a history: the part of a run that it asks for, and its answer
pub record AnswersOne (conf : Conf) (profile : Profile) (call : Call) (history : History) (before now : Seen) (member : Member) (kept kept' : ℕ) (old new : LifeEnd) (result : Result Given Why) : Type 0 where
  pub part : Part conf (Calls (sync_calls (call ∷ []))) (Calls []) history before now member kept kept' old new (why_of result)
  pub came : CameOf conf profile call history part.runs.taken result
