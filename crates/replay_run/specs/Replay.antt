-- A replay: the events that it took from the source, what it wrote for them, and how it ended behind them.
use Rattle.std.specs.Prelude.{◌≡◌, ◌≢◌, ◌<◌, ◌≤◌, ◌⊎◌, ℕ, List, [], ◌∷◌, ◌++◌, length, take, reverse, Option}
use Rattle.base_specs.specs.Counts.{Fails}
use Rattle.base_specs.specs.Told.{Added, Took, IsUsedUp}
use Rattle.capture_fmt.specs.declared.event.Event.{Event}
use Rattle.capture_fmt.specs.declared.fault.CaptureFault.{CaptureFault}
use Rattle.capture_fmt.specs.declared.fault.CaptureFault.TheVariants as fault
use Rattle.capture_fmt.specs.Event.{EventFits}
use Rattle.capture_fmt.specs.Record.{event_bytes}
use Rattle.capture_fmt.specs.Capture.{SpellsEvents, BeginBelow, place_limit}
use Rattle.capture_fmt.specs.Reader.{Shows}
use Rattle.time_machine.specs.declared.conf.Conf.{Conf}
use Rattle.time_machine.specs.Events.{History}
use Rattle.time_machine.specs.Machine.{outcome_at}
use Rattle.time_machine.specs.Report.{line_of, report_of, total_line}
use Rattle.time_machine.specs.Growing.{Grows}
use Rattle.replay_run.specs.declared.end.ReplayEnd.{ReplayEnd}
use Rattle.replay_run.specs.declared.end.ReplayWhy.{ReplayWhy}
use Rattle.replay_run.specs.declared.end.ReplayWhy.TheVariants.{Done, BadCapture, ReadFault, WriteFault}
use Rattle.edge_seen.specs.Seen.{Seen}
use Rattle.replay_run.specs.Totals.{AreTotals}

-- what the devices tell where source and sink tell this
abbrev pub replaying : Seen → Option (List ℕ) → ℕ → Option (List ℕ) → ℕ → Seen
replaying others left read_faults written write_faults =
    record others { left = left; read_faults = read_faults; written = written; write_faults = write_faults }

-- the events of a capture as a history, of which the last event stands first
abbrev pub history_of : List Event → History
history_of events = reverse events

-- ---- The record that isn't taken

-- the bytes seen, with those left, show a record that is outside the grammar
pub record ShowsFault (place : ℕ) (bytes : List ℕ) (left : Option (List ℕ)) : Type 0 where
  pub wrong : CaptureFault
  pub no_failed_read : wrong ≢ fault.ReadFault
  pub shows : Shows place bytes left wrong

-- the bytes begin with the record of an event that may not follow this history
pub record IsRefused (conf : Conf) (history : History) (place : ℕ) (bytes : List ℕ) : Type 0 where
  pub event : Event
  pub rest : List ℕ
  pub below : place < place_limit
  pub fits : EventFits event
  pub written : bytes ≡ event_bytes event ++ rest
  pub refused : ¬ Grows conf (event ∷ history)

-- ---- Lines whose write failed

-- some front of this line stands behind a text
pub record BreaksOffIn (before line text : List ℕ) : Type 0 where
  pub front : ℕ
  pub most : front ≤ length line
  pub is : text ≡ before ++ take front line

-- the report broke off in the line of the last event, which has one
pub record BreaksInReport (conf : Conf) (events : List Event) (text : List ℕ) : Type 0 where
  pub earlier : List Event
  pub last : Event
  pub are : events ≡ earlier ++ last ∷ []
  pub has_line : 0 < length (line_of (outcome_at conf (history_of earlier) last))
  pub breaks : BreaksOffIn (report_of conf (history_of earlier))
      (line_of (outcome_at conf (history_of earlier) last)) text

-- the bytes ended below the limit, and nothing of another record was read
pub record IsAtEnd (place : ℕ) (ahead : List ℕ) (left : Option (List ℕ)) : Type 0 where
  pub below : place < place_limit
  pub none : ahead ≡ []
  pub ended : IsUsedUp left

-- the bytes ended, and the report broke off in the total line
pub record BreaksInTotal (conf : Conf) (history : History) (result : ReplayEnd) (place : ℕ) (ahead : List ℕ)
    (left : Option (List ℕ)) (text : List ℕ) : Type 0 where
  pub ends : IsAtEnd place ahead left
  pub breaks : BreaksOffIn (report_of conf history) (total_line result.sent result.moved result.refused) text

-- ---- The ends

-- The bytes ended, and the report and the total line were written.
pub record IsDone (conf : Conf) (history : History) (result : ReplayEnd) (place : ℕ) (ahead : List ℕ)
    (before now : Seen) : Type 0 where
  pub ends : IsAtEnd place ahead now.left
  pub written : Added before.written now.written
      (report_of conf history ++ total_line result.sent result.moved result.refused)
  pub no_read_fault : now.read_faults ≡ before.read_faults
  pub no_write_fault : now.write_faults ≡ before.write_faults

-- The next record begins at this place and isn't taken, and the report of those before it was written, without a
-- total line.
pub record IsBadAt (conf : Conf) (history : History) (at place : ℕ) (ahead : List ℕ)
    (before now : Seen) : Type 0 where
  pub there : at ≡ place
  pub bad : ShowsFault place ahead now.left ⊎ IsRefused conf history place ahead
  pub written : Added before.written now.written (report_of conf history)
  pub no_read_fault : now.read_faults ≡ before.read_faults
  pub no_write_fault : now.write_faults ≡ before.write_faults

-- A read failed that was due, since what was read of the next record is neither whole nor at fault. The report of
-- those before it was written, without a total line.
pub record FailsToRead (conf : Conf) (history : History) (place : ℕ) (ahead : List ℕ)
    (before now : Seen) : Type 0 where
  pub due : Shows place ahead now.left fault.ReadFault
  pub written : Added before.written now.written (report_of conf history)
  pub cause : Fails before.read_faults now.read_faults
  pub no_write_fault : now.write_faults ≡ before.write_faults

-- The write of a line failed: that of the last event, or the total line. The lines before it were written.
pub record FailsToWrite (conf : Conf) (events : List Event) (result : ReplayEnd) (place : ℕ) (ahead : List ℕ)
    (before now : Seen) : Type 0 where
  pub text : List ℕ
  pub breaks : BreaksInReport conf events text
      ⊎ BreaksInTotal conf (history_of events) result place ahead now.left text
  pub written : Added before.written now.written text
  pub no_read_fault : now.read_faults ≡ before.read_faults
  pub cause : Fails before.write_faults now.write_faults

-- what each answer says of the end, behind these events and at this place
abbrev pub ReplayEndsBy : Conf → List Event → ReplayEnd → ℕ → List ℕ → Seen → Seen → ReplayWhy → Type 0
ReplayEndsBy conf events result place ahead before now Done =
    IsDone conf (history_of events) result place ahead before now
ReplayEndsBy conf events result place ahead before now (BadCapture at) =
    IsBadAt conf (history_of events) at place ahead before now
ReplayEndsBy conf events result place ahead before now ReadFault =
    FailsToRead conf (history_of events) place ahead before now
ReplayEndsBy conf events result place ahead before now WriteFault =
    FailsToWrite conf events result place ahead before now

-- ---- The whole

-- Events were taken, whose records are what was read from the front on, each of them below the limit, and which make a
-- history that grows. Behind these records some bytes were read ahead. The numbers are those of this history.
pub record Replays (conf : Conf) (before now : Seen) (result : ReplayEnd) : Type 0 where
  pub events : List Event
  pub front : List ℕ
  pub ahead : List ℕ
  pub spells : SpellsEvents events front
  pub below : BeginBelow 0 events
  pub grows : Grows conf (history_of events)
  pub took : Took before.left now.left (front ++ ahead)
  pub totals : AreTotals conf (history_of events) result
  pub ends : ReplayEndsBy conf events result (length front) ahead before now result.why

-- the numbers are those of this history, and its report and the total line were written
pub record ReportsAll (conf : Conf) (history : History) (result : ReplayEnd)
    (before now : Option (List ℕ)) : Type 0 where
  pub totals : AreTotals conf history result
  pub written : Added before now (report_of conf history ++ total_line result.sent result.moved result.refused)
