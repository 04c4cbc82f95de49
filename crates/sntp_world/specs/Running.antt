-- A run that goes on, in the private part: what is counted of it, and what its capture has so far.
use Rattle.std.specs.Prelude.{◌≡◌, ◌+◌, ◌<◌, ◌≤◌, ◌^◌, ℕ, List, [], ◌++◌, length, reverse, Option, ⊤}
use Rattle.std.specs.List.{AllByRecursion, flat_map}
use Rattle.base_specs.specs.Counts.{Fails}
use Rattle.base_specs.specs.Told.{Added}
use Rattle.edge_traits.specs.declared.sink.Put.{Put}
use Rattle.edge_traits.specs.Sink.{Writes}
use Rattle.edge_traits.specs.declared.sink.Put.TheVariants as write
use Rattle.capture_fmt.specs.Event.{EventFits}
use Rattle.capture_fmt.specs.Record.{event_bytes}
use Rattle.time_machine.specs.Events.{History}
use Rattle.time_machine.specs.declared.outcome.Outcome.{Outcome}
use Rattle.time_machine.specs.declared.outcome.Outcome.TheVariants as came
use Rattle.sntp_world.specs.declared.due.Due.{Due}
use Rattle.sntp_world.specs.declared.due.Due.TheVariants.{Nothing, Time, Answer, Take}
use Rattle.sntp_world.specs.declared.op.Op.{Op}
use Rattle.sntp_world.specs.declared.op.Op.TheVariants.{Pass, Poll, Deliver, Ask, Craft, Restart}
use Rattle.sntp_world.specs.declared.op.Effect.{Effect}
use Rattle.sntp_world.specs.declared.op.Effect.TheVariants.{Skipped, Passed, Answered, Stepped}
use Rattle.sntp_world.specs.declared.run.SimEnd.{SimEnd}
use Rattle.sntp_world.specs.declared.run.SimEnd.TheVariants.{Done, WriteFault, NoMemory}
use Rattle.sntp_world.specs.declared.totals.Totals.{Totals}
use Rattle.sntp_world.specs.Due.{IsDoneBy, IsDue}
use Rattle.sntp_world.specs.State.{State}
use Rattle.sntp_world.specs.Standing.{Keeps, Kept, StandsForOps}
use Rattle.sntp_world.specs.Steps.{WorldAfter}
use Rattle.sntp_world.specs.Summary.{moved_in, refused_in, sent_in}

-- ---- What is counted

-- the numbers with this outcome counted
abbrev pub counted_outcome : Outcome → Totals → Totals
counted_outcome (came.Started mark) t = t
counted_outcome came.Idle t = t
counted_outcome (came.Sent to count bytes) t = record t { sent = t.sent + 1 }
counted_outcome (came.Moved count offset how) t = record t { moved = t.moved + 1 }
counted_outcome (came.Refused reason) t = record t { refused = t.refused + 1 }

-- and with this effect, beside the operation itself
abbrev pub counted_effect : Effect → Totals → Totals
counted_effect Skipped t = record t { skipped = t.skipped + 1 }
counted_effect Passed t = t
counted_effect (Answered answer) t = t
counted_effect (Stepped outcome) t = counted_outcome outcome t

-- the numbers with this operation counted by its effect
abbrev pub counted : Effect → Totals → Totals
counted effect t = record (counted_effect effect t) { ops = t.ops + 1 }

-- each operation was counted once at most beside the operations
abbrev pub IsCountedOnce : Totals → Type 0
IsCountedOnce t = t.skipped + (t.sent + (t.moved + t.refused)) ≤ t.ops

-- the numbers are those of the state that so many operations led to
pub record AreTotals (ops : ℕ) (w : State) (t : Totals) : Type 0 where
  pub ops_are : t.ops ≡ ops
  pub skipped_are : t.skipped ≡ w.skipped
  pub sent_are : t.sent ≡ sent_in w
  pub moved_are : t.moved ≡ moved_in w
  pub refused_are : t.refused ≡ refused_in w
  pub once : IsCountedOnce t

-- the numbers of an operation fit their types, as far as an event has them
abbrev pub OpFits : Op → Type 0
OpFits (Poll word) = word < 2 ^ 32
OpFits (Ask bytes) = (length bytes ≤ 256) × AllByRecursion (λ (b : ℕ). b < 256) bytes
OpFits (Craft bytes) = length bytes ≤ 256
OpFits (Pass d e f) = ⊤
OpFits (Deliver back) = ⊤
OpFits Restart = ⊤

-- operations whose numbers fit their types have led to what a world keeps
pub record IsFitReached (k : Kept) : Type 0 where
  pub ops : List Op
  pub fit : AllByRecursion OpFits ops
  pub stands : StandsForOps k ops

-- ---- What the capture has

-- the records of the events of a history, the oldest first
abbrev pub records_of : History → List ℕ
records_of history = flat_map event_bytes (reverse history)

-- the record of the event that is due, where one is
abbrev pub record_due : Due → List ℕ
record_due (Take event) = event_bytes event
record_due Nothing = []
record_due (Time at) = []
record_due (Answer bytes) = []

-- the event that is due has a record
abbrev pub FitsDue : Due → Type 0
FitsDue (Take event) = EventFits event
FitsDue Nothing = ⊤
FitsDue (Time at) = ⊤
FitsDue (Answer bytes) = ⊤

-- all that a whole run of these operations writes to the capture, of which this is a front
pub record IsFrontOfAll (ops : List Op) (front : List ℕ) : Type 0 where
  pub state : State
  pub after : WorldAfter (reverse ops) state
  pub rest : List ℕ
  pub cut : records_of state.history ≡ front ++ rest

-- how a run ends whose summary was written, or not
abbrev pub end_of : Put → SimEnd
end_of write.Done = Done
end_of write.Failed = WriteFault

-- ---- A run of operations

-- These operations were carried out, the last one first, and the world keeps the state that they led to. The capture
-- has the records of its history.
pub record CarriesOut (ops : List Op) (t : Totals) (k : Kept) (before now : Option (List ℕ)) : Type 0 where
  pub state : State
  pub after : WorldAfter ops state
  pub keeps : Keeps k state
  pub totals : AreTotals (length ops) state t
  pub written : Added before now (records_of state.history)

-- A write of the capture failed, or there was no memory. A front of what a whole run writes was written.
abbrev pub StopsBy : (ops : List Op) (before now : Option (List ℕ)) (faults faults_now : ℕ) → SimEnd → Type 0
StopsBy ops before now faults faults_now Done = ⊥
StopsBy ops before now faults faults_now WriteFault =
    (front : List ℕ) × IsFrontOfAll ops front × Added before now front × Fails faults faults_now
StopsBy ops before now faults faults_now NoMemory =
    (front : List ℕ) × IsFrontOfAll ops front × Added before now front × (faults_now ≡ faults)

-- what stopped one operation, and what was written of the record of its event
abbrev pub BreaksBy : (op : Op) (w : State) (before now : Option (List ℕ)) (faults faults_now : ℕ) → SimEnd → Type 0
BreaksBy op w before now faults faults_now Done = ⊥
BreaksBy op w before now faults faults_now WriteFault =
    (due : Due) × IsDue op due w × Writes write.Failed (record_due due) before now × Fails faults faults_now
BreaksBy op w before now faults faults_now NoMemory =
    (due : Due) × IsDue op due w × Added before now (record_due due) × (faults_now ≡ faults)

-- what one operation did
pub record CarriesOn (op : Op) (w : State) (t total : Totals) (k : Kept) (before now : Option (List ℕ)) : Type 0 where
  pub due : Due
  pub effect : Effect
  pub state : State
  pub is_due : IsDue op due w
  pub done : IsDoneBy due w effect state
  pub keeps : Keeps k state
  pub counts : total ≡ counted effect t
  pub written : Added before now (record_due due)
