-- A replay, event by event.
use Rattle.std.proofs.Common.{◌≡◌, ◌↔◌, ℕ, ◌+◌, ◌-◌, ◌<◌, ◌≤◌, ◌^◌, Bool, true, false, IsTrue, List, [], ◌∷◌, ◌++◌, length, Option, Some, None, Ok, refl, sym, ◌∙◌, ap, subst, arith, length-append}
use Rattle.std.specs.List.{flat_map}
use Rattle.std.proofs.lemmas.Bool.{true≢false}
use Rattle.std.proofs.lemmas.List.{reverse-append, length-reverse}
use Rattle.base_specs.specs.Told.{Added}
use Rattle.base_specs.proofs.Telling.{added_none, added_more}
use Rattle.capture_fmt.specs.declared.event.Event.{Event}
use Rattle.capture_fmt.specs.Record.{event_bytes}
use Rattle.capture_fmt.specs.Capture.{place_limit}
use Rattle.capture_fmt.specs.Reader.{Reader, HasRead, GivesEvent, EndsBetween, Nexts, ReadsOn}
use Rattle.capture_fmt.proofs.OneRecord.{event_begins}
use Rattle.time_machine.specs.declared.conf.Conf.{Conf}
use Rattle.time_machine.specs.declared.outcome.Outcome.{Outcome}
use Rattle.time_machine.specs.Events.{History}
use Rattle.time_machine.specs.Machine.{outcome_at}
use Rattle.time_machine.specs.Report.{line_of, report_of}
use Rattle.time_machine.specs.Growing.{Grows}
use Rattle.time_machine.proofs.Gathers.{more_leads, none_leads}
use Rattle.sntp_core.specs.declared.member.Member.{Member}
use Rattle.sntp_core.specs.Standing.{conf_of, StandsForHistory}
use Rattle.replay_run.specs.declared.end.ReplayEnd.{ReplayEnd}
use Rattle.edge_seen.specs.Seen.{Seen}
use Rattle.replay_run.specs.Totals.{AreTotals}
use Rattle.replay_run.specs.Replay.{history_of}
use Rattle.replay_run.specs.Running.{Runs, counted, FitsNumbers}
use Rattle.replay_run.proofs.Counts.{totals_more, totals_none, room}

-- one event more stands first in the history
pub history_more : (events : List Event) (e : Event) → history_of (events ++ e ∷ []) ≡ e ∷ history_of events
history_more events e = reverse-append events (e ∷ [])

-- there are at most as many events as bytes in their records
events_few : (events : List Event) → length events ≤ length (flat_map event_bytes events)
events_few [] = omega arith
events_few (e ∷ events) = omega (arith, events_few events, event_begins e, length-append (event_bytes e) (flat_map event_bytes events))

pub runs_none : (conf : Conf) (reader : Reader) (member : Member) (end : ReplayEnd) (now : Seen)
    → reader.alive ≡ true → HasRead [] reader now.left now.left → conf_of member ≡ conf → StandsForHistory member []
    → end.sent ≡ 0 → end.moved ≡ 0 → end.refused ≡ 0 → Runs conf reader member end now now
runs_none conf reader member end now alive read conf_is stands sent moved refused = record {
  events = [];
  alive = alive;
  read = read;
  conf_is = conf_is;
  stands = stands;
  totals = totals_none conf end sent moved refused;
  written = subst (Added now.written now.written) (sym (none_leads conf).3) (added_none now.written);
  no_read_fault = refl;
  no_write_fault = refl;
}

-- there is room to count one event more
pub room_at :
    (conf : Conf) (reader new : Reader) (member : Member) (end : ReplayEnd) (before mid : Seen) (left : Option (List ℕ)) (e : Event) (result : Outcome)
    → (runs : Runs conf reader member end before mid) → GivesEvent e reader new mid.left left → Grows conf (e ∷ history_of runs.events)
    → result ≡ outcome_at conf (history_of runs.events) e → FitsNumbers (counted result end)
room_at conf reader new member end before mid left e result runs gives grows is =
    let most : length runs.events ≤ length runs.read.front = omega (arith, events_few runs.events, ap length runs.read.spells.written) in
    let short : length (history_of runs.events) + 1 < 2 ^ 64 = omega (arith, most, runs.read.place, gives.below, length-reverse runs.events) in
    subst (λ (o : Outcome). FitsNumbers (counted o end)) (sym is) (room conf (history_of runs.events) e end runs.totals grows short)

-- an event was taken, and its line written
pub runs_more :
    (conf : Conf) (reader new : Reader) (member after : Member) (end total : ReplayEnd) (before mid now : Seen) (e : Event) (result : Outcome) (line : List ℕ)
    → (runs : Runs conf reader member end before mid)
    → HasRead (runs.events ++ e ∷ []) new before.left now.left → new.alive ≡ true
    → conf_of after ≡ conf_of member → StandsForHistory after (e ∷ history_of runs.events)
    → result ≡ outcome_at conf (history_of runs.events) e → line ≡ line_of result → Added mid.written now.written line
    → now.read_faults ≡ mid.read_faults → now.write_faults ≡ mid.write_faults → total ≡ counted result end
    → Runs conf new after total before now
runs_more conf reader new member after end total before mid now e result line runs read alive same stands is line_is added reads writes total_is =
    let history = history_of runs.events in
    let more = sym (history_more runs.events e) in
    let report : report_of conf history ++ line ≡ report_of conf (e ∷ history) = rw (line_is, is) (sym (more_leads conf history e).3) in
    record {
      events = runs.events ++ e ∷ [];
      alive = alive;
      read = read;
      conf_is = same ∙ runs.conf_is;
      stands = subst (StandsForHistory after) more stands;
      totals = subst (λ h. AreTotals conf h total) more
          (subst (AreTotals conf (e ∷ history)) (sym total_is)
          (subst (λ (o : Outcome). AreTotals conf (e ∷ history) (counted o end)) (sym is) (totals_more conf history e end runs.totals)));
      written = subst (λ h. Added before.written now.written (report_of conf h)) more
          (subst (Added before.written now.written) report (added_more before.written mid.written now.written (report_of conf history) line runs.written added));
      no_read_fault = reads ∙ runs.no_read_fault;
      no_write_fault = writes ∙ runs.no_write_fault;
    }

-- ---- What the reader and the member answer

pub gives_of : (o : Option Event) (e : Event) (old new : Reader) (left now : Option (List ℕ)) → o ≡ Some e → Nexts (Ok o) old new left now → GivesEvent e old new left now
gives_of o e old new left now is nexts = subst (λ (p : Option Event). Nexts (Ok p) old new left now) is nexts

pub ends_of : (o : Option Event) (old new : Reader) (left now : Option (List ℕ)) → o ≡ None → Nexts (Ok o) old new left now → EndsBetween old new left now
ends_of o old new left now is nexts = subst (λ (p : Option Event). Nexts (Ok p) old new left now) is nexts

pub has_read : (o p : Option Event) (events : List Event) (new : Reader) (left now : Option (List ℕ)) → o ≡ p → ReadsOn (Ok o) events new left now → ReadsOn (Ok p) events new left now
has_read o p events new left now is on = subst (λ (q : Option Event). ReadsOn (Ok q) events new left now) is on

-- each record brings the reader nearer to the limit
pub nearer : (e : Event) (old new : Reader) (left now : Option (List ℕ)) → GivesEvent e old new left now → place_limit - new.place < place_limit - old.place
nearer e old new left now gives = omega (arith, gives.below, gives.place, ap length gives.spells.written, event_begins e)

pub grown : (conf : Conf) (member : Member) (history : History) (e : Event) (admitted : Bool) → conf_of member ≡ conf
    → (IsTrue admitted ↔ Grows (conf_of member) (e ∷ history)) → admitted ≡ true → Grows conf (e ∷ history)
grown conf member history e admitted is admits holds = subst (λ (c : Conf). Grows c (e ∷ history)) is (admits.0 holds)

pub not_grown : (conf : Conf) (member : Member) (history : History) (e : Event) (admitted : Bool) → conf_of member ≡ conf
    → (IsTrue admitted ↔ Grows (conf_of member) (e ∷ history)) → admitted ≡ false → ¬ Grows conf (e ∷ history)
not_grown conf member history e admitted is admits fails =
    λ grow. true≢false (sym (admits.1 (subst (λ (c : Conf). Grows c (e ∷ history)) (sym is) grow)) ∙ fails)

pub led_to : (conf : Conf) (member : Member) (history : History) (e : Event) (result : Outcome) → conf_of member ≡ conf
    → result ≡ outcome_at (conf_of member) history e → result ≡ outcome_at conf history e
led_to conf member history e result is answer = answer ∙ ap (λ (c : Conf). outcome_at c history e) is
