-- A run, entry by entry.
use Rattle.std.proofs.Common.{◌≡◌, ◌+◌, ◌≤◌, ℕ, suc, Bool, true, false, List, [], ◌∷◌, ◌++◌, append_assoc, length, take, drop, Option, Some, slice_get, if◌then◌else◌, inl, inr, zero-add, refl, sym, ◌∙◌, ap, subst, arith}
use Rattle.std.proofs.Math.Seq.{take-suc}
use Rattle.std.proofs.lemmas.Grind.{flat_map-append}
use Rattle.std.proofs.lemmas.List.{append-nil, length-map, map-append, take-append-drop, take_all}
use Rattle.std.proofs.lemmas.List.Sums.{sum_by-append}
use Rattle.std.proofs.lemmas.Option.{get_or_from_slice_get, slice_get_within}
use Rattle.base_specs.specs.Counts.{Fails, Rose}
use Rattle.base_specs.specs.Told.{Added}
use Rattle.base_specs.proofs.Telling.{added_more, added_none}
use Rattle.edge_traits.specs.Sink.{Writes}
use Rattle.edge_traits.specs.declared.sink.Put.TheVariants as write
use Rattle.partner_pick.specs.declared.entry.Entry.{Entry}
use Rattle.line_text.specs.Text.{joined}
use Rattle.edge_seen.specs.Seen.{Seen}
use Rattle.monitor_run.specs.declared.finding.Finding.{Finding}
use Rattle.monitor_run.specs.declared.why.MonitorWhy.{MonitorWhy}
use Rattle.monitor_run.specs.declared.why.MonitorWhy.TheVariants.{Done, ClockFault, EntropyFault, WriteFault}
use Rattle.monitor_run.specs.Asking.{Asked, Deed, Did, answered_of, deed_of, deeds_of, entries_of, finding_at, lines_of, no_deed}
use Rattle.monitor_run.specs.Ending.{FailsIf, MonitorEndsBy, StopsAt, is_clock_fault, is_entropy_fault, is_write_fault}
use Rattle.monitor_run.specs.Lines.{computers_line, is_answered, line_of}
use Rattle.monitor_run.specs.Monitoring.{Monitors}
use Rattle.monitor_run.specs.Progress.{FailsToWrite, HasAsked, Reports, Stops}
use Rattle.monitor_run.proofs.Deeds.{deeds_more, did_beside, did_more, did_nothing}

-- ---- One entry more

pub asked_none : (now : Seen) → HasAsked [] now now 0
asked_none now = record {
  asked = [];
  are = refl;
  counted = refl;
  did = did_nothing now;
  wrote = added_none now.written;
  no_clock_fault = refl;
  no_entropy_fault = refl;
  no_write_fault = refl;
}

-- one more where it answered
abbrev more : Finding → ℕ → ℕ
more finding n = n + (if is_answered finding then 1 else 0)

lines_more : (asked : List Asked) (one : Asked) → joined (lines_of asked) ++ line_of one.entry.name (finding_at one) ≡ joined (lines_of (asked ++ one ∷ []))
lines_more asked one =
    let line : Asked → List ℕ = λ (a : Asked). line_of a.entry.name (finding_at a) in
    sym (ap joined (map-append line asked (one ∷ [])) ∙ flat_map-append (λ (l : List ℕ). l) (lines_of asked) (line one ∷ [])
    ∙ ap (λ (l : List ℕ). joined (lines_of asked) ++ l) (append-nil (line one)))

answered_more : (asked : List Asked) (one : Asked) → answered_of (asked ++ one ∷ []) ≡ more (finding_at one) (answered_of asked)
answered_more asked one = sum_by-append _ asked (one ∷ []) ∙ ap (λ (n : ℕ). answered_of asked + n) (zero-add (if is_answered (finding_at one) then 1 else 0))

pub asked_more : (front : List Entry) (entry : Entry) (before mid now : Seen) (answered : ℕ) (finding : Finding)
    → HasAsked front before mid answered → Reports entry mid now finding → HasAsked (front ++ entry ∷ []) before now (more finding answered)
asked_more front entry before mid now answered finding has reports =
    let one = reports.asked in
    let entries : entries_of (has.asked ++ one ∷ []) ≡ front ++ entry ∷ [] =
    map-append (λ (a : Asked). a.entry) has.asked (one ∷ []) ∙ (λ i. (sym has.are) i ++ reports.of_entry i ∷ []) in
    let Text : List ℕ → Type 0 = λ (l : List ℕ). Added before.written now.written l in
    let deed : Did (deed_of one.entry.addr one.ask) mid now =
    subst (λ (e : Entry). Did (deed_of e.addr one.ask) mid now) (sym reports.of_entry) reports.did in
    let line : line_of entry.name finding ≡ line_of one.entry.name (finding_at one) = λ i. line_of ((sym reports.of_entry) i).name (reports.found i) in
    record {
      asked = has.asked ++ one ∷ [];
      are = sym entries;
      counted = (λ i. more (reports.found i) (has.counted i)) ∙ sym (answered_more has.asked one);
      did = subst (λ (d : Deed). Did d before now) (deeds_more has.asked one)
          (did_more (deeds_of has.asked) (deed_of one.entry.addr one.ask) before mid now has.did deed);
      wrote = subst Text (ap (λ (l : List ℕ). joined (lines_of has.asked) ++ l) line ∙ lines_more has.asked one)
          (added_more before.written mid.written now.written (joined (lines_of has.asked)) (line_of entry.name finding) has.wrote reports.wrote);
      no_clock_fault = reports.no_clock_fault ∙ has.no_clock_fault;
      no_entropy_fault = reports.no_entropy_fault ∙ has.no_entropy_fault;
      no_write_fault = reports.no_write_fault ∙ has.no_write_fault;
    }

-- the entries in front of a place, with the one at it
front_more : (entries : List Entry) (place : ℕ) (entry : Entry) → slice_get entries place ≡ Some entry → take (suc place) entries ≡ take place entries ++ entry ∷ []
front_more entries place entry at =
    take-suc entries place entry (slice_get_within entries place entry at)
    ∙ ap (λ (e : Entry). take place entries ++ e ∷ []) (get_or_from_slice_get entries place entry entry at)

pub asked_next : (entries : List Entry) (place : ℕ) (entry : Entry) (before mid now : Seen) (answered : ℕ) (finding : Finding) → slice_get entries place ≡ Some entry
    → HasAsked (take place entries) before mid answered → Reports entry mid now finding → HasAsked (take (place + 1) entries) before now (more finding answered)
asked_next entries place entry before mid now answered finding at has reports =
    let next : place + 1 ≡ suc place = omega arith in
    let Asked : List Entry → Type 0 = λ (l : List Entry). HasAsked l before now (more finding answered) in
    subst Asked (sym (ap (λ (n : ℕ). take n entries) next ∙ front_more entries place entry at))
    (asked_more (take place entries) entry before mid now answered finding has reports)

-- ---- The end of a run

ends_there : (why : MonitorWhy) (asked : List Asked) (entry : Entry) (later : List Entry) (deed : Deed) (text : List ℕ) → StopsAt why entry deed text
    → MonitorEndsBy why asked (entry ∷ later) deed text
ends_there Done asked entry later deed text stops = absurd stops
ends_there ClockFault asked entry later deed text stops = record { entry = entry; later = later; are = refl; stops = stops }
ends_there EntropyFault asked entry later deed text stops = record { entry = entry; later = later; are = refl; stops = stops }
ends_there WriteFault asked entry later deed text stops = inl (record { entry = entry; later = later; are = refl; stops = stops })

still : (failed : Bool) (before mid now : ℕ) → mid ≡ before → FailsIf failed mid now → FailsIf failed before now
still failed before mid now same fails = subst (λ (n : ℕ). FailsIf failed n now) same fails

pub stopped : (entries : List Entry) (place : ℕ) (entry : Entry) (before mid now : Seen) (answered : ℕ) (why : MonitorWhy) → slice_get entries place ≡ Some entry
    → HasAsked (take place entries) before mid answered → Stops entry mid now why → Monitors entries before now why
stopped entries place entry before mid now answered why at has stops =
    let later = drop (suc place) entries in
    let cut : entries ≡ take place entries ++ (entry ∷ later) =
    sym (take-append-drop (suc place) entries) ∙ ap (λ (l : List Entry). l ++ later) (front_more entries place entry at) ∙ append_assoc (take place entries) (entry ∷ []) later in
    record {
      asked = has.asked;
      rest = entry ∷ later;
      last = stops.deed;
      text = stops.text;
      are = cut ∙ ap (λ (l : List Entry). l ++ (entry ∷ later)) has.are;
      ends = ends_there why has.asked entry later stops.deed stops.text stops.stops;
      did = did_more (deeds_of has.asked) stops.deed before mid now has.did stops.did;
      wrote = added_more before.written mid.written now.written (joined (lines_of has.asked)) stops.text has.wrote stops.wrote;
      clock_count = still (is_clock_fault why) before.clock_faults mid.clock_faults now.clock_faults has.no_clock_fault stops.clock_count;
      entropy_count = still (is_entropy_fault why) before.entropy_faults mid.entropy_faults now.entropy_faults has.no_entropy_fault stops.entropy_count;
      write_count = still (is_write_fault why) before.write_faults mid.write_faults now.write_faults has.no_write_fault stops.write_count;
    }

-- all entries were asked
whole : (entries : List Entry) (asked : List Asked) → take (length entries) entries ≡ entries_of asked → entries ≡ entries_of asked ++ []
whole entries asked are = sym (take_all (length entries) entries (omega arith)) ∙ are ∙ sym (append-nil (entries_of asked))

as_many : (entries : List Entry) (asked : List Asked) → take (length entries) entries ≡ entries_of asked → length entries ≡ length asked
as_many entries asked are =
    ap length (sym (take_all (length entries) entries (omega arith)) ∙ are) ∙ length-map asked (λ (a : Asked). a.entry)

total_is : (entries : List Entry) (asked : List Asked) (answered : ℕ) → take (length entries) entries ≡ entries_of asked → answered ≡ answered_of asked
    → computers_line (length entries) answered ≡ computers_line (length asked) (answered_of asked)
total_is entries asked answered are counted = λ i. computers_line (as_many entries asked are i) (counted i)

pub closed : (entries : List Entry) (before mid : Seen) (written : Option (List ℕ)) (write_faults : ℕ) (answered : ℕ) (line : List ℕ)
    → HasAsked (take (length entries) entries) before mid answered → line ≡ computers_line (length entries) answered
    → Added mid.written written line → write_faults ≡ mid.write_faults
    → Monitors entries before (record mid { written = written; write_faults = write_faults }) Done
closed entries before mid written write_faults answered line has is wrote no_fault = record {
  asked = has.asked;
  rest = [];
  last = no_deed;
  text = line;
  are = whole entries has.asked has.are;
  ends = record { none = refl; did = refl; written = is ∙ total_is entries has.asked answered has.are has.counted };
  did = did_beside _ before mid written write_faults (did_more (deeds_of has.asked) no_deed before mid mid has.did (did_nothing mid));
  wrote = added_more before.written mid.written written (joined (lines_of has.asked)) line has.wrote wrote;
  clock_count = has.no_clock_fault;
  entropy_count = has.no_entropy_fault;
  write_count = no_fault ∙ has.no_write_fault;
}

pub broke_off_total : (entries : List Entry) (before mid : Seen) (written : Option (List ℕ)) (write_faults : ℕ) (answered : ℕ) (line : List ℕ) (why : MonitorWhy)
    → HasAsked (take (length entries) entries) before mid answered → line ≡ computers_line (length entries) answered
    → FailsToWrite line mid.written written mid.write_faults write_faults why
    → Monitors entries before (record mid { written = written; write_faults = write_faults }) why
broke_off_total entries before mid written write_faults answered line why has is fails =
    let total = computers_line (length has.asked) (answered_of has.asked) in
    let Wrote : List ℕ → Type 0 = λ (l : List ℕ). Writes write.Failed l mid.written written in
    let wrote : Wrote total = subst Wrote (is ∙ total_is entries has.asked answered has.are has.counted) fails.wrote in
    subst (λ (w : MonitorWhy). Monitors entries before (record mid { written = written; write_faults = write_faults }) w) (sym fails.is)
    (record {
      asked = has.asked;
      rest = [];
      last = no_deed;
      text = take wrote.0 total;
      are = whole entries has.asked has.are;
      ends = inr (record { none = refl; did = refl; front = wrote.0; most = wrote.1; written = refl });
      did = did_beside _ before mid written write_faults (did_more (deeds_of has.asked) no_deed before mid mid has.did (did_nothing mid));
      wrote = added_more before.written mid.written written (joined (lines_of has.asked)) (take wrote.0 total) has.wrote wrote.2;
      clock_count = has.no_clock_fault;
      entropy_count = has.no_entropy_fault;
      write_count = subst (λ (n : ℕ). Fails n write_faults) has.no_write_fault fails.failed;
    })

-- ---- What a run says of the counts

fails_rose : (failed : Bool) (before now : ℕ) → FailsIf failed before now → failed ≡ true → Rose before now
fails_rose true before now fails is = omega (arith, fails.once)
fails_rose false before now fails is = cc is

fails_later : (failed : Bool) (before now : ℕ) → FailsIf failed before now → before ≤ now
fails_later true before now fails = fails.later
fails_later false before now fails = omega (arith, fails)

pub clock_rose : (entries : List Entry) (before now : Seen) (why : MonitorWhy) → Monitors entries before now why → why ≡ ClockFault
    → Rose before.clock_faults now.clock_faults
clock_rose entries before now why run is = fails_rose (is_clock_fault why) _ _ run.clock_count (ap is_clock_fault is)

pub entropy_rose : (entries : List Entry) (before now : Seen) (why : MonitorWhy) → Monitors entries before now why → why ≡ EntropyFault
    → Rose before.entropy_faults now.entropy_faults
entropy_rose entries before now why run is = fails_rose (is_entropy_fault why) _ _ run.entropy_count (ap is_entropy_fault is)

pub write_rose : (entries : List Entry) (before now : Seen) (why : MonitorWhy) → Monitors entries before now why → why ≡ WriteFault
    → Rose before.write_faults now.write_faults
write_rose entries before now why run is = fails_rose (is_write_fault why) _ _ run.write_count (ap is_write_fault is)

one_of_four : (why : MonitorWhy) → ¬ (why ≡ ClockFault) → ¬ (why ≡ EntropyFault) → ¬ (why ≡ WriteFault) → why ≡ Done
one_of_four Done clock entropy write = refl
one_of_four ClockFault clock entropy write = absurd (clock refl)
one_of_four EntropyFault clock entropy write = absurd (entropy refl)
one_of_four WriteFault clock entropy write = absurd (write refl)

-- a run ends before its last line only where a call failed
pub complete : (entries : List Entry) (before now : Seen) (why : MonitorWhy) → Monitors entries before now why
    → ¬ Rose before.clock_faults now.clock_faults → ¬ Rose before.entropy_faults now.entropy_faults
    → ¬ Rose before.write_faults now.write_faults → why ≡ Done
complete entries before now why run clock entropy written =
    one_of_four why (λ is. clock (clock_rose entries before now why run is)) (λ is. entropy (entropy_rose entries before now why run is))
    (λ is. written (write_rose entries before now why run is))

-- no count falls
pub link_later : (entries : List Entry) (before now : Seen) (why : MonitorWhy) → Monitors entries before now why → before.link_faults ≤ now.link_faults
link_later entries before now why run = run.did.link_failed.later

pub clock_later : (entries : List Entry) (before now : Seen) (why : MonitorWhy) → Monitors entries before now why → before.clock_faults ≤ now.clock_faults
clock_later entries before now why run = fails_later (is_clock_fault why) _ _ run.clock_count

pub entropy_later : (entries : List Entry) (before now : Seen) (why : MonitorWhy) → Monitors entries before now why → before.entropy_faults ≤ now.entropy_faults
entropy_later entries before now why run = fails_later (is_entropy_fault why) _ _ run.entropy_count

pub write_later : (entries : List Entry) (before now : Seen) (why : MonitorWhy) → Monitors entries before now why → before.write_faults ≤ now.write_faults
write_later entries before now why run = fails_later (is_write_fault why) _ _ run.write_count
