-- What a run does, deed by deed.
use Rattle.std.specs.Prelude.{◌<◌, ℕ, List, [], ◌∷◌, ◌++◌, length, take, flat_map, ⊤}
use Rattle.edge_traits.specs.declared.clock.Move.{Move}
use Rattle.capture_fmt.specs.declared.event.Event.{Event}
use Rattle.capture_fmt.specs.Record.{event_bytes}
use Rattle.time_machine.specs.declared.conf.Conf.{Conf}
use Rattle.time_machine.specs.declared.outcome.Outcome.{Outcome}
use Rattle.time_machine.specs.declared.outcome.Outcome.TheVariants.{Refused}
use Rattle.time_machine.specs.declared.outcome.Reason.{Reason}
use Rattle.time_machine.specs.Events.{History}
use Rattle.time_machine.specs.Machine.{outcome_at, posted_by, moves_by, Posted}
use Rattle.time_machine.specs.Report.{line_of}
use Rattle.run_deeds.specs.Weaving.{ticks_by}

-- an event is taken, or a line is printed that is not an event's
pub data Deed : Type 0 where
  Take : (event : Event) → Deed
  Print : (line : List ℕ) → Deed

-- What there is of one more deed.
pub data Ending : Type 0 where
  -- nothing: each deed was done whole
  Whole : Ending
  -- so many bytes of the record of one more event, which was not taken
  NoRecord : (event : Event) (front : ℕ) → Ending
  -- one more deed, but of its line only so many bytes
  NoLine : (deed : Deed) (front : ℕ) → Ending

-- ---- What one deed does after a history

-- the history goes on by the events that are taken
abbrev pub goes_on : History → Deed → History
goes_on history (Take event) = event ∷ history
goes_on history (Print line) = history

-- the event that is taken, if there is one
abbrev pub events_in : Deed → List Event
events_in (Take event) = event ∷ []
events_in (Print line) = []

-- the record that is written to the capture
abbrev pub record_in : Deed → List ℕ
record_in (Take event) = event_bytes event
record_in (Print line) = []

-- the request that is sent, if there is one
abbrev pub posted_in : Conf → History → Deed → List Posted
posted_in conf history (Take event) = posted_by (outcome_at conf history event)
posted_in conf history (Print line) = []

-- the correction of the clock that is made, if there is one
abbrev pub moves_in : Conf → History → Deed → List Move
moves_in conf history (Take event) = moves_by (outcome_at conf history event)
moves_in conf history (Print line) = []

-- the line that is printed, if there is one
abbrev pub line_in : Conf → History → Deed → List ℕ
line_in conf history (Take event) = line_of (outcome_at conf history event)
line_in conf history (Print line) = line

-- why an outcome is a refusal, if it is one
abbrev pub reasons_by : Outcome → List Reason
reasons_by (Refused reason) = reason ∷ []
reasons_by _ = []

-- why the arrival is refused, if it is
abbrev pub reasons_in : Conf → History → Deed → List Reason
reasons_in conf history (Take event) = reasons_by (outcome_at conf history event)
reasons_in conf history (Print line) = []

-- the Tick that is taken, if it is one
abbrev pub ticks_in : Deed → List Event
ticks_in (Take event) = ticks_by event
ticks_in (Print line) = []

-- ---- What deeds do, one after the other

-- what each of the deeds gives after the history before it, joined
abbrev pub along : {A : Type 0} → (History → Deed → List A) → History → List Deed → List A
along f history [] = []
along f history (deed ∷ deeds) = f history deed ++ along f (goes_on history deed) deeds

-- the history after these deeds
abbrev pub history_after : History → List Deed → History
history_after history [] = history
history_after history (deed ∷ deeds) = history_after (goes_on history deed) deeds

-- ---- What there is of the last deed

-- the event that is not taken
abbrev pub missing_in : Ending → List Event
missing_in Whole = []
missing_in (NoRecord event front) = event ∷ []
missing_in (NoLine deed front) = []

-- what is written of the record of the event that is not taken
abbrev pub cut_record : Ending → List ℕ
cut_record Whole = []
cut_record (NoRecord event front) = take front (event_bytes event)
cut_record (NoLine deed front) = []

-- nothing of the last deed is missing
abbrev pub IsWhole : Ending → Type 0
IsWhole Whole = ⊤
IsWhole (NoRecord event front) = ⊥
IsWhole (NoLine deed front) = ⊥

-- where the line of an event is not whole, there is a line of it
abbrev pub HasLine : Conf → History → List Deed → Ending → Type 0
HasLine conf history deeds (NoLine (Take event) front) = 0 < length (line_of (outcome_at conf (history_after history deeds) event))
HasLine conf history deeds _ = ⊤

-- ---- All of it

-- the deeds that are done, the last one perhaps but for its line
abbrev pub all_done : List Deed → Ending → List Deed
all_done deeds Whole = deeds
all_done deeds (NoRecord event front) = deeds
all_done deeds (NoLine deed front) = deeds ++ deed ∷ []

-- the events that were given, the one that is not taken among them
abbrev pub events_given : List Deed → Ending → List Event
events_given deeds Whole = flat_map events_in deeds
events_given deeds (NoRecord event front) = flat_map events_in deeds ++ event ∷ []
events_given deeds (NoLine deed front) = flat_map events_in (deeds ++ deed ∷ [])

-- the bytes that are written to the capture
abbrev pub captured : List Deed → Ending → List ℕ
captured deeds Whole = flat_map record_in deeds
captured deeds (NoRecord event front) = flat_map record_in deeds ++ take front (event_bytes event)
captured deeds (NoLine deed front) = flat_map record_in (deeds ++ deed ∷ [])

-- the bytes that are printed
abbrev pub printed : Conf → History → List Deed → Ending → List ℕ
printed conf history deeds Whole = along (line_in conf) history deeds
printed conf history deeds (NoRecord event front) = along (line_in conf) history deeds
printed conf history deeds (NoLine deed front) =
    along (line_in conf) history deeds ++ take front (line_in conf (history_after history deeds) deed)
