-- How a replay ends.
use Rattle.std.proofs.Common.{◌≡◌, ◌≢◌, ℕ, ◌<◌, ◌≤◌, List, [], ◌∷◌, ◌++◌, length, take, Option, refl, sym, ◌∙◌, ap, subst, inl, inr, append_assoc}
use Rattle.base_specs.specs.Counts.{Fails}
use Rattle.base_specs.specs.Told.{Added, Took, IsUsedUp}
use Rattle.base_specs.proofs.Telling.{added_more, took_more}
use Rattle.edge_traits.specs.declared.sink.Put.{Put}
use Rattle.edge_traits.specs.declared.sink.Put.TheVariants as write
use Rattle.edge_traits.specs.Sink.{PutCounts, Writes}
use Rattle.capture_fmt.specs.declared.event.Event.{Event}
use Rattle.capture_fmt.specs.declared.fault.CaptureFault.{CaptureFault}
use Rattle.capture_fmt.specs.declared.fault.CaptureFault.TheVariants as fault
use Rattle.capture_fmt.specs.Capture.{place_limit}
use Rattle.capture_fmt.specs.Reader.{Reader, HasRead, GivesEvent, Stops, Shows, FaultCounts}
use Rattle.capture_fmt.specs.Reader as reading
use Rattle.time_machine.specs.declared.conf.Conf.{Conf}
use Rattle.time_machine.specs.declared.outcome.Outcome.{Outcome}
use Rattle.time_machine.specs.Events.{History}
use Rattle.time_machine.specs.Machine.{outcome_at}
use Rattle.time_machine.specs.Report.{line_of, report_of, total_line}
use Rattle.time_machine.specs.Growing.{Grows}
use Rattle.sntp_core.specs.declared.member.Member.{Member}
use Rattle.replay_run.specs.declared.end.ReplayEnd.{ReplayEnd}
use Rattle.replay_run.specs.declared.end.ReplayWhy.{ReplayWhy}
use Rattle.replay_run.specs.declared.end.ReplayWhy.TheVariants as why
use Rattle.edge_seen.specs.Seen.{Seen}
use Rattle.replay_run.specs.Totals.{AreTotals}
use Rattle.replay_run.specs.Replay.{history_of, ReplayEndsBy, IsBadAt, IsAtEnd, Replays}
use Rattle.replay_run.specs.Running.{Runs, Closes, counted, why_of, why_of_put}
use Rattle.replay_run.proofs.Counts.{totals_more}
use Rattle.replay_run.proofs.Steps.{history_more}

-- the history of a run grows under its settings
pub grows : (conf : Conf) (reader : Reader) (member : Member) (end : ReplayEnd) (before now : Seen) (runs : Runs conf reader member end before now)
    → Grows conf (history_of runs.events)
grows conf reader member end before now runs = subst (λ (c : Conf). Grows c (history_of runs.events)) runs.conf_is runs.stands.grows

-- the events that a reader has read were taken, and this is how the replay ended behind them
replays : (conf : Conf) (before now : Seen) (result : ReplayEnd) (events : List Event) (reader : Reader) (read : HasRead events reader before.left now.left)
    → Grows conf (history_of events) → AreTotals conf (history_of events) result
    → ReplayEndsBy conf events result (length read.front) reader.held before now result.why → Replays conf before now result
replays conf before now result events reader read grow totals ends = record {
  events = events;
  front = read.front;
  ahead = reader.held;
  spells = read.spells;
  below = read.below;
  grows = grow;
  took = read.took;
  totals = totals;
  ends = ends;
}

-- why the numbers were counted no further is not among them
totals_ended : (conf : Conf) (history : History) (end : ReplayEnd) (w : ReplayWhy) → AreTotals conf history end → AreTotals conf history (record end { why = w })
totals_ended conf history end w are = record { sent = are.sent; moved = are.moved; refused = are.refused }

-- ---- A fault of the capture, or a failed read

ends_bad : (conf : Conf) (events : List Event) (end : ReplayEnd) (at place : ℕ) (ahead : List ℕ) (before mid now : Seen) (wrong : CaptureFault)
    → at ≡ place → wrong ≢ fault.ReadFault → Shows place ahead now.left wrong → Added before.written now.written (report_of conf (history_of events))
    → now.read_faults ≡ before.read_faults → now.write_faults ≡ before.write_faults
    → IsBadAt conf (history_of events) at place ahead before now
ends_bad conf events end at place ahead before mid now wrong there not_read shows written reads writes = record {
  there = there;
  bad = inl (record { wrong = wrong; no_failed_read = not_read; shows = shows });
  written = written;
  no_read_fault = reads;
  no_write_fault = writes;
}

ends_fault : (conf : Conf) (events : List Event) (end : ReplayEnd) (place : ℕ) (ahead : List ℕ) (before mid now : Seen) (wrong : CaptureFault)
    → Shows place ahead now.left wrong → FaultCounts wrong mid.read_faults now.read_faults → mid.read_faults ≡ before.read_faults
    → Added before.written now.written (report_of conf (history_of events)) → now.write_faults ≡ before.write_faults
    → ReplayEndsBy conf events (record end { why = why_of wrong }) place ahead before now (why_of wrong)
ends_fault conf events end place ahead before mid now (fault.BadKind at) shows counts same written writes =
    ends_bad conf events end at place ahead before mid now (fault.BadKind at) (shows []).there (λ is. cc) shows written (counts ∙ same) writes
ends_fault conf events end place ahead before mid now (fault.BadReading at) shows counts same written writes =
    ends_bad conf events end at place ahead before mid now (fault.BadReading at) (shows []).there (λ is. cc) shows written (counts ∙ same) writes
ends_fault conf events end place ahead before mid now (fault.BadLength at) shows counts same written writes =
    ends_bad conf events end at place ahead before mid now (fault.BadLength at) (shows []).there (λ is. cc) shows written (counts ∙ same) writes
ends_fault conf events end place ahead before mid now (fault.Torn at) shows counts same written writes =
    ends_bad conf events end at place ahead before mid now (fault.Torn at) shows.1.there (λ is. cc) shows written (counts ∙ same) writes
ends_fault conf events end place ahead before mid now (fault.TooLong at) shows counts same written writes =
    ends_bad conf events end at place ahead before mid now (fault.TooLong at) shows.0 (λ is. cc) shows written (counts ∙ same) writes
ends_fault conf events end place ahead before mid now fault.ReadFault shows counts same written writes = record {
  due = shows;
  written = written;
  cause = subst (λ (n : ℕ). Fails n now.read_faults) same counts;
  no_write_fault = writes;
}

pub stopped :
    (conf : Conf) (reader new : Reader) (member : Member) (end result : ReplayEnd) (before mid now : Seen) (wrong : CaptureFault)
    → (runs : Runs conf reader member end before mid) → HasRead runs.events new before.left now.left → Stops wrong reader new mid.left now.left
    → FaultCounts wrong mid.read_faults now.read_faults → now.written ≡ mid.written → now.write_faults ≡ mid.write_faults
    → result ≡ record end { why = why_of wrong } → Replays conf before now result
stopped conf reader new member end result before mid now wrong runs read stops counts written writes is =
    let held : reader.held ++ stops.taken ≡ new.held = ap (λ (r : Reader). r.held) (sym stops.reader) in
    let place : reader.place ≡ length read.front = ap (λ (r : Reader). r.place) (sym stops.reader) ∙ read.place in
    let shows : Shows (length read.front) new.held now.left wrong =
    subst (λ (n : ℕ). Shows n new.held now.left wrong) place (subst (λ (l : List ℕ). Shows reader.place l now.left wrong) held stops.shows) in
    let told = subst (λ w. Added before.written w (report_of conf (history_of runs.events))) (sym written) runs.written in
    subst (Replays conf before now) (sym is)
    (replays conf before now (record end { why = why_of wrong }) runs.events new read (grows conf reader member end before mid runs)
    (totals_ended conf (history_of runs.events) end (why_of wrong) runs.totals)
    (ends_fault conf runs.events end (length read.front) new.held before mid now wrong shows counts runs.no_read_fault told (writes ∙ runs.no_write_fault)))

-- ---- An event that may not follow

pub refused :
    (conf : Conf) (reader new : Reader) (member : Member) (end result : ReplayEnd) (before mid now : Seen) (e : Event)
    → (runs : Runs conf reader member end before mid) → GivesEvent e reader new mid.left now.left → ¬ Grows conf (e ∷ history_of runs.events)
    → now.read_faults ≡ mid.read_faults → now.written ≡ mid.written → now.write_faults ≡ mid.write_faults
    → result ≡ record end { why = why.BadCapture reader.place } → Replays conf before now result
refused conf reader new member end result before mid now e runs gives not_grown reads written writes is =
    let ahead = reader.held ++ gives.taken in
    let cut = ap (λ (l : List ℕ). l ++ new.held) gives.spells.written in
    subst (Replays conf before now) (sym is)
    (record {
      events = runs.events;
      front = runs.read.front;
      ahead = ahead;
      spells = runs.read.spells;
      below = runs.read.below;
      grows = grows conf reader member end before mid runs;
      took = subst (Took before.left now.left) (append_assoc runs.read.front reader.held gives.taken)
          (took_more before.left mid.left now.left (runs.read.front ++ reader.held) gives.taken runs.read.took gives.took);
      totals = totals_ended conf (history_of runs.events) end (why.BadCapture reader.place) runs.totals;
      ends = record {
        there = runs.read.place;
        bad = inr (record {
          event = e;
          rest = new.held;
          below = subst (λ (n : ℕ). n < place_limit) runs.read.place gives.below;
          fits = gives.spells.fits;
          written = gives.cut ∙ cut;
          refused = not_grown;
        });
        written = subst (λ w. Added before.written w (report_of conf (history_of runs.events))) (sym written) runs.written;
        no_read_fault = reads ∙ runs.no_read_fault;
        no_write_fault = writes ∙ runs.no_write_fault;
      };
    })

-- ---- The end of the capture

ends_put : (conf : Conf) (events : List Event) (end : ReplayEnd) (place : ℕ) (ahead : List ℕ) (before mid now : Seen) (put : Put)
    → IsAtEnd place ahead now.left → Added before.written mid.written (report_of conf (history_of events))
    → Writes put (total_line end.sent end.moved end.refused) mid.written now.written → PutCounts put mid.write_faults now.write_faults
    → now.read_faults ≡ before.read_faults → mid.write_faults ≡ before.write_faults
    → ReplayEndsBy conf events (record end { why = why_of_put put }) place ahead before now (why_of_put put)
ends_put conf events end place ahead before mid now write.Done at written writes counts reads same = record {
  ends = at;
  written = added_more before.written mid.written now.written _ _ written writes;
  no_read_fault = reads;
  no_write_fault = counts ∙ same;
}
ends_put conf events end place ahead before mid now write.Failed at written writes counts reads same = record {
  text = report_of conf (history_of events) ++ take writes.0 (total_line end.sent end.moved end.refused);
  breaks = inr (record { ends = at; breaks = record { front = writes.0; most = writes.1; is = refl } });
  written = added_more before.written mid.written now.written _ _ written writes.2;
  no_read_fault = reads;
  cause = subst (λ (n : ℕ). Fails n now.write_faults) same counts;
}

pub closed :
    (conf : Conf) (reader new : Reader) (member : Member) (end result : ReplayEnd) (before mid now : Seen)
    → (runs : Runs conf reader member end before mid) → HasRead runs.events new before.left now.left → reading.EndsBetween reader new mid.left now.left
    → now.read_faults ≡ mid.read_faults → Closes end result mid.written now.written mid.write_faults now.write_faults
    → Replays conf before now result
closed conf reader new member end result before mid now runs read ends reads closes =
    let at : IsAtEnd (length read.front) new.held now.left = record {
      below = subst (λ (n : ℕ). n < place_limit) (ap (λ (r : Reader). r.place) (sym ends.reader) ∙ read.place) ends.below;
      none = ap (λ (r : Reader). r.held) ends.reader ∙ ends.held;
      ended = subst (λ (l : Option (List ℕ)). IsUsedUp l) (sym ends.same) ends.ended;
    } in
    subst (Replays conf before now) (sym closes.is)
    (replays conf before now (record end { why = why_of_put closes.put }) runs.events new read (grows conf reader member end before mid runs)
    (totals_ended conf (history_of runs.events) end (why_of_put closes.put) runs.totals)
    (ends_put conf runs.events end (length read.front) new.held before mid now closes.put at runs.written closes.bytes closes.counts (reads ∙ runs.no_read_fault) runs.no_write_fault))

-- ---- A line whose write failed

pub broke_off :
    (conf : Conf) (reader new : Reader) (member : Member) (end result : ReplayEnd) (before mid now : Seen) (e : Event) (outcome : Outcome) (line : List ℕ)
    → (runs : Runs conf reader member end before mid) → HasRead (runs.events ++ e ∷ []) new before.left now.left → Grows conf (e ∷ history_of runs.events)
    → outcome ≡ outcome_at conf (history_of runs.events) e → line ≡ line_of outcome
    → Writes write.Failed line mid.written now.written → Fails mid.write_faults now.write_faults → 0 < length line → now.read_faults ≡ mid.read_faults
    → result ≡ record (counted outcome end) { why = why.WriteFault } → Replays conf before now result
broke_off conf reader new member end result before mid now e outcome line runs read grow is line_is writes counts has_line reads result_is =
    let history = history_of runs.events in
    let more = sym (history_more runs.events e) in
    let text = line_is ∙ ap line_of is in
    subst (Replays conf before now) (sym result_is)
    (replays conf before now (record (counted outcome end) { why = why.WriteFault }) (runs.events ++ e ∷ []) new read
    (subst (Grows conf) more grow)
    (totals_ended conf (history_of (runs.events ++ e ∷ [])) (counted outcome end) why.WriteFault
    (subst (λ h. AreTotals conf h (counted outcome end)) more
    (subst (λ (o : Outcome). AreTotals conf (e ∷ history) (counted o end)) (sym is) (totals_more conf history e end runs.totals))))
    (record {
      text = report_of conf history ++ take writes.0 line;
      breaks = inl (record {
        earlier = runs.events;
        last = e;
        are = refl;
        has_line = subst (λ (l : List ℕ). 0 < length l) text has_line;
        breaks = record {
          front = writes.0;
          most = subst (λ (l : List ℕ). writes.0 ≤ length l) text writes.1;
          is = ap (λ (l : List ℕ). report_of conf history ++ take writes.0 l) text;
        };
      });
      written = added_more before.written mid.written now.written (report_of conf history) (take writes.0 line) runs.written writes.2;
      no_read_fault = reads ∙ runs.no_read_fault;
      cause = subst (λ (n : ℕ). Fails n now.write_faults) runs.no_write_fault counts;
    }))
