-- One event is taken, whichever call ends it.
use Rattle.std.specs.Prelude.{◌≡◌, ◌⊎◌, ℕ, ℤ, List, [], ◌∷◌, ◌++◌, map, Option}
use Rattle.base_specs.specs.Counts.{FailsTimes}
use Rattle.base_specs.specs.Told.{Grew}
use Rattle.edge_traits.specs.declared.datagram.Addr.{Addr}
use Rattle.edge_traits.specs.declared.link.Tried.{Tried}
use Rattle.edge_traits.specs.declared.sink.Put.{Put}
use Rattle.edge_traits.specs.declared.sink.Put.TheVariants as write
use Rattle.edge_traits.specs.Sink.{PutCounts}
use Rattle.edge_traits.specs.Clock.{ClockCall, Correct, Read}
use Rattle.edge_traits.specs.Link.{LinkCall, Send, failed_calls}
use Rattle.capture_fmt.specs.declared.event.Event.{Event}
use Rattle.time_machine.specs.declared.conf.Conf.{Conf}
use Rattle.time_machine.specs.declared.outcome.Outcome.{Outcome}
use Rattle.time_machine.specs.declared.outcome.Outcome.TheVariants.{Started, Idle, Sent, Moved, Refused}
use Rattle.time_machine.specs.Events.{History}
use Rattle.time_machine.specs.Machine.{moves_by, outcome_at, posted_by}
use Rattle.sntp_core.specs.declared.member.Member.{Member}
use Rattle.sntp_core.specs.Standing.{StandsForHistory, conf_of}
use Rattle.run_deeds.specs.declared.life_end.LifeEnd.{LifeEnd}
use Rattle.run_deeds.specs.declared.life_end.Why.{Why}
use Rattle.run_deeds.specs.declared.life_end.Why.TheVariants.{Done, DiskFault, BadVersion, StampsSpent, ClockFault, EntropyFault, SinkFault}
use Rattle.run_deeds.specs.Counting.{more, with_lost}
use Rattle.run_deeds.specs.Deeds.{Deed, Take, Ending, Whole, NoRecord, NoLine, IsWhole, history_after, all_done, events_given}
use Rattle.edge_seen.specs.Seen.{Seen}
use Rattle.run_deeds.specs.Devices.{Faults, Does, ClockFailed, SinkFailed, nothing, faults_of}
use Rattle.run_deeds.specs.Weaving.{posted_of}
use Rattle.run_deeds.specs.Parts.{Tallies}
use Rattle.member_run.specs.declared.running.Running.{Running}

-- what the devices tell where the two sinks tell this
abbrev pub writing : Seen → Option (List ℕ) → Option (List ℕ) → (capture_faults write_faults : ℕ) → Seen
writing others capture out capture_faults write_faults =
    record others { capture = capture; capture_faults = capture_faults; written = out; write_faults = write_faults }

-- what taking an event answers: only a sink may fail in it
abbrev pub TakeEnds : Why → Ending → Faults → Faults → Type 0
TakeEnds Done ending before now = IsWhole ending × (now ≡ before)
TakeEnds SinkFault ending before now = SinkFailed ending before now
TakeEnds DiskFault ending before now = ⊥
TakeEnds BadVersion ending before now = ⊥
TakeEnds StampsSpent ending before now = ⊥
TakeEnds ClockFault ending before now = ⊥
TakeEnds EntropyFault ending before now = ⊥

-- What an event led to was done, a request sent or the clock corrected; or nothing was, where its record could not be
-- written.
abbrev pub ActsBy : Ending → Outcome → List ClockCall → List Tried → Type 0
ActsBy Whole outcome made tried = (made ≡ map Correct (moves_by outcome)) × (map posted_of tried ≡ posted_by outcome)
ActsBy (NoRecord event front) outcome made tried = (made ≡ []) × (tried ≡ [])
ActsBy (NoLine deed front) outcome made tried = (made ≡ map Correct (moves_by outcome)) × (map posted_of tried ≡ posted_by outcome)

-- after a history an event is taken, for which these calls of the clock were made; behind them stand its own
pub record Takes (conf : Conf) (history : History) (event : Event) (read : List ClockCall) (before now : Seen) (member : Member) (old new : LifeEnd) (why : Why) : Type 0 where
  pub made : List ClockCall
  pub tried : List Tried
  pub deeds : List Deed
  pub ending : Ending
  pub events : events_given deeds ending ≡ event ∷ []
  pub taken : List Event
  pub takes : all_done deeds ending ≡ map Take taken
  pub acts : ActsBy ending (outcome_at conf history event) made tried
  pub does : Does conf history (record { clock = read ++ made; words = []; link = map Send tried }) deeds ending before now
  pub is_set : conf_of member ≡ conf
  pub stands : StandsForHistory member (history_after history (all_done deeds ending))
  pub tallies : Tallies conf history (all_done deeds ending) (map Send tried) old new
  pub ends : TakeEnds why ending (faults_of before) (faults_of now)

-- the clock failed, and nothing was taken
pub record Unread (conf : Conf) (history : History) (before now : Seen) (member : Member) (old new : LifeEnd) (why : Why) : Type 0 where
  pub is_clock : why ≡ ClockFault
  pub does : Does conf history nothing [] Whole before now
  pub is_set : conf_of member ≡ conf
  pub stands : StandsForHistory member history
  pub totals : new ≡ old
  pub failed : ClockFailed (faults_of before) (faults_of now)

-- an event is taken at the next reading, or the clock failed
abbrev pub TakesAt : Conf → History → (ℤ → Event) → Seen → Seen → Member → LifeEnd → LifeEnd → Why → Type 0
TakesAt conf history event before now member old new why =
    Unread conf history before now member old new why
    ⊎ ((time : ℤ) × Takes conf history (event time) (Read time ∷ []) before now member old new why)

-- it is taken whole, and leads to this
pub record TakesTo (conf : Conf) (history : History) (event : ℤ → Event) (before now : Seen) (member : Member) (old new : LifeEnd) (outcome : Outcome) : Type 0 where
  pub time : ℤ
  pub takes : Takes conf history (event time) (Read time ∷ []) before now member old new Done
  pub leads : outcome ≡ outcome_at conf history (event time)

-- a request is sent, or the clock corrected, as an outcome says, and a send that failed is counted
pub record Acts (outcome : Outcome) (link link' : Option (List LinkCall)) (clock clock' : Option (List ClockCall)) (before now : ℕ) (old new : LifeEnd) : Type 0 where
  pub tried : List Tried
  pub requests : map posted_of tried ≡ posted_by outcome
  pub sends : Grew link link' (map Send tried)
  pub moves : Grew clock clock' (map Correct (moves_by outcome))
  pub link_failed : FailsTimes (failed_calls (map Send tried)) before now
  pub counted : new ≡ record old { lost = more old.lost (failed_calls (map Send tried)) }

-- the numbers after a send that was answered so
abbrev pub with_put : Put → LifeEnd → LifeEnd
with_put write.Done end = end
with_put write.Failed end = with_lost end

-- a request is sent, and counted where the send failed
pub record Sends (to : Addr) (bytes : List ℕ) (link link' : Option (List LinkCall)) (before now : ℕ) (old new : LifeEnd) : Type 0 where
  pub put : Put
  pub sends : Grew link link' (Send (record { to = to; bytes = bytes; put = put }) ∷ [])
  pub counts : PutCounts put before now
  pub counted : new ≡ with_put put old

-- what an event leads to after each history, and that the member stands for it
abbrev pub Steps : Member → Member → Event → Outcome → Type 0
Steps old new event outcome = (history : History) → StandsForHistory old history
    → (outcome ≡ outcome_at (conf_of old) history event) × StandsForHistory new (event ∷ history)

-- the last count after an event: that of its request, or its mark where a life began
abbrev pub last_after : Outcome → ℕ → ℕ
last_after (Started mark) last = mark
last_after Idle last = last
last_after (Sent to count bytes) last = count
last_after (Moved count offset how) last = last
last_after (Refused reason) last = last

-- an event was taken, and led to this; settings and keeper stay
pub record IsTaken (old new : Running) (event : Event) (outcome : Outcome) : Type 0 where
  pub steps : Steps old.member new.member event outcome
  pub conf : conf_of new.member ≡ conf_of old.member
  pub last : new.last ≡ last_after outcome old.last
  pub keeper : new.keeper ≡ old.keeper

-- an event was taken but for its line, or not at all
abbrev pub IsCut : Running → Running → Event → Type 0
IsCut old new event = (new ≡ old) ⊎ ((outcome : Outcome) × IsTaken old new event outcome)
