-- What came behind the Life of a service: its sessions, and the closing lines behind them.
use Rattle.std.proofs.Common.{◌≡◌, ◌≢◌, ◌≤◌, ◌+◌, ℕ, List, [], ◌∷◌, ◌++◌, length, map, Option, IfSome, Ok, Err, refl, sym, ◌∙◌, ap, subst, append_assoc, inl, inr}
use Rattle.std.specs.List.{count_by}
use Rattle.std.proofs.lemmas.List.{append-nil, map-append}
use Rattle.base_specs.specs.Counts.{FailsTimes}
use Rattle.base_specs.specs.Told.{Grew}
use Rattle.edge_seen.specs.Seen.{Seen}
use Rattle.edge_traits.specs.Clock.{ClockCall}
use Rattle.edge_traits.specs.Link.{LinkCall}
use Rattle.edge_traits.specs.Wire.{Entry}
use Rattle.slot_disk.specs.Told.{DiskTold}
use Rattle.time_machine.specs.declared.conf.Conf.{Conf}
use Rattle.time_machine.specs.Events.{History}
use Rattle.sntp_core.specs.Standing.{StandsForHistory, conf_of}
use Rattle.run_deeds.specs.declared.life_end.LifeEnd.{LifeEnd}
use Rattle.run_deeds.specs.declared.life_end.Why.{Why}
use Rattle.run_deeds.specs.declared.life_end.Why.TheVariants.{Done, DiskFault, BadVersion, StampsSpent, ClockFault, EntropyFault, SinkFault}
use Rattle.run_deeds.specs.Closing.{closing_lines}
use Rattle.run_deeds.specs.Counting.{with_why}
use Rattle.run_deeds.specs.Deeds.{Deed, Take, Print, Ending, Whole, NoLine, all_done, history_after}
use Rattle.run_deeds.specs.Devices.{Given, faults, living, nothing}
use Rattle.run_deeds.specs.Weaving.{Calls, Need, followed_by}
use Rattle.run_deeds.proofs.Deeding.{history_after-append}
use Rattle.run_deeds.proofs.Doing.{given_then}
use Rattle.member_run.specs.Closing.{Closes}
use Rattle.member_run.specs.declared.running.Running.{Running}
use Rattle.member_run.specs.Running.{IsGoing, kept_of, member_of, totals_of}
use Rattle.w32t_calls.specs.declared.end.SessionEnd.{SessionEnd}
use Rattle.w32tm_text.specs.declared.status.Status.{Status}
use Rattle.w32tm_text.specs.declared.status.Status.TheVariants as answer
use Rattle.service_run.specs.Profile.{Profile}
use Rattle.service_run.specs.Serving.{EndsAs, FailsIn, IsInClosing, IsServedOut, KeepsAll, Ran, ServesAll, status_of, status_of_stop, why_of_stop}
use Rattle.service_run.specs.Sessions.{AreServed, AreToldAs, IsLast, IsLastToldAs, Last, Nothing, Over, SessionRun, Stopped, Unopened, calls_in, deeds_of, entries_in, events_of_last, is_read_fault, is_write_fault, session_calls, session_entries, session_events, unopened_in}
use Rattle.service_run.specs.declared.serving.Stop.{Stop}
use Rattle.service_run.specs.declared.serving.Stop.TheVariants as stop
use Rattle.service_run.proofs.Closed.{history_prints, ran_lines, works_lines}
use Rattle.service_run.proofs.Served.{held_of, keeps_held}
use Rattle.service_run.proofs.Works.{ran_then, ran_works, works_of, works_then}

-- The sessions that were served after a history, what came behind them, and how it all ended.
pub record Behind (conf : Conf) (profile : Profile) (sessions : ℕ) (history : History) (before now : Seen) (new : Running) (kept : ℕ) (old : LifeEnd)
    (entry exit : DiskTold) (wire wire_now : Option (List Entry)) (reads reads_now writes writes_now : ℕ) (why : Why) (status : Status) : Type 0 where
  pub served : List (SessionRun × SessionEnd)
  pub last : Last
  pub within : length served + length (entries_in last) ≤ sessions
  pub closing : List (List ℕ)
  pub given : Given
  pub deeds : List Deed
  pub ending : Ending
  pub need : Need
  pub ran : Ran conf (Calls (session_calls served ++ calls_in last)) history before now kept (kept_of new) old (totals_of new) why given deeds ending need
  pub are : all_done deeds ending ≡ deeds_of 1 served ++ map Take (events_of_last last) ++ map Print closing
  pub is_set : conf_of (member_of new) ≡ conf
  pub stands : StandsForHistory (member_of new) (history_after history (all_done deeds ending))
  pub ends : EndsAs why sessions served last closing (with_why why (totals_of new)) ending
  pub keeps : KeepsAll conf history (history_after history (all_done deeds ending)) kept why ending need entry exit
  pub each : AreServed conf profile history served
  pub at_last : IsLast conf profile (followed_by history (session_events served)) last
  pub wire_grew : Grew wire wire_now (session_entries served ++ entries_in last)
  pub told : IfSome wire_now (λ entries. AreToldAs served × IsLastToldAs last)
  pub read : FailsTimes (unopened_in last + count_by (λ s. is_read_fault s.1) served) reads reads_now
  pub write : FailsTimes (count_by (λ s. is_write_fault s.1) served) writes writes_now
  pub is_status : status ≡ status_of why last

-- ---- No closing line came

pub ends_fault : (why : Why) (sessions : ℕ) (served : List (SessionRun × SessionEnd)) (last : Last) (closing : List (List ℕ)) (end : LifeEnd) (ending : Ending) → why ≢ Done
    → FailsIn sessions served last closing end ending → EndsAs why sessions served last closing end ending
ends_fault Done sessions served last closing end ending not fails = absurd (not refl)
ends_fault DiskFault sessions served last closing end ending not fails = fails
ends_fault BadVersion sessions served last closing end ending not fails = fails
ends_fault StampsSpent sessions served last closing end ending not fails = fails
ends_fault ClockFault sessions served last closing end ending not fails = fails
ends_fault EntropyFault sessions served last closing end ending not fails = fails
ends_fault SinkFault sessions served last closing end ending not fails = fails

status_fault : (why : Why) (last : Last) → why ≢ Done → status_of why Nothing ≡ status_of why last
status_fault Done last not = absurd (not refl)
status_fault DiskFault last not = refl
status_fault BadVersion last not = refl
status_fault StampsSpent last not = refl
status_fault ClockFault last not = refl
status_fault EntropyFault last not = refl
status_fault SinkFault last not = refl

no_closing : (served : List (SessionRun × SessionEnd)) (last : Last) → deeds_of 1 served ++ map Take (events_of_last last) ≡ deeds_of 1 served ++ map Take (events_of_last last) ++ map Print []
no_closing served last = sym (append-nil (deeds_of 1 served ++ map Take (events_of_last last)))

pub behind_stopped : (conf : Conf) (profile : Profile) (sessions : ℕ) (history : History) (a b : Seen) (new : Running) (kept : ℕ) (old : LifeEnd) (m x : DiskTold) (w w' : Option (List Entry)) (r r' s s' : ℕ) (at : Stop)
    → (at ≡ stop.Fault Done → ⊥) → ServesAll conf profile sessions history a b (member_of new) kept (kept_of new) old (totals_of new) m x w w' r r' s s' (Err at)
    → Behind conf profile sessions history a b new kept old m x w w' r r' s s' (why_of_stop (Err at)) (status_of_stop at)
behind_stopped conf profile sessions history a b new kept old m x w w' r r' s s' stop.Unopened never all = record {
  served = all.served;
  last = all.last;
  within = all.within;
  closing = [];
  given = all.given;
  deeds = all.deeds;
  ending = all.ending;
  need = all.need;
  ran = all.ran;
  are = all.are ∙ no_closing all.served all.last;
  is_set = all.is_set;
  stands = all.stands;
  ends = inr (all.stops, refl);
  keeps = all.keeps;
  each = all.each;
  at_last = all.at_last;
  wire_grew = all.wire_grew;
  told = all.told;
  read = all.read;
  write = all.write;
  is_status = ap (status_of Done) (sym all.stops);
}
behind_stopped conf profile sessions history a b new kept old m x w w' r r' s s' (stop.Fault why) never all =
    let not : why ≢ Done = λ is. never (ap stop.Fault is) in
    record {
      served = all.served;
      last = all.last;
      within = all.within;
      closing = [];
      given = all.given;
      deeds = all.deeds;
      ending = all.ending;
      need = all.need;
      ran = all.ran;
      are = all.are ∙ no_closing all.served all.last;
      is_set = all.is_set;
      stands = all.stands;
      ends = ends_fault why sessions all.served all.last [] (with_why why (totals_of new)) all.ending not (all.stops (with_why why (totals_of new)));
      keeps = all.keeps;
      each = all.each;
      at_last = all.at_last;
      wire_grew = all.wire_grew;
      told = all.told;
      read = all.read;
      write = all.write;
      is_status = status_fault why all.last not;
    }

-- ---- The closing lines

served_status : (sessions : ℕ) (served : List (SessionRun × SessionEnd)) (last : Last) → IsServedOut sessions served last → answer.Done ≡ status_of Done last
served_status sessions served Nothing out = refl
served_status sessions served Over out = refl
served_status sessions served Unopened out = absurd out
served_status sessions served (Stopped session at events) out = absurd out

fails_closing : (sessions : ℕ) (served : List (SessionRun × SessionEnd)) (last : Last) (closing : List (List ℕ)) (end : LifeEnd) (ending : Ending) → IsServedOut sessions served last
    → IsInClosing closing end ending → FailsIn sessions served last closing end ending
fails_closing sessions served Over closing end ending out is = is
fails_closing sessions served Nothing [] end ending out is = absurd (is.0 refl)
fails_closing sessions served Nothing (line ∷ lines) end ending out is = (out, is)
fails_closing sessions served Unopened closing end ending out is = absurd out
fails_closing sessions served (Stopped session at events) closing end ending out is = absurd out

some_line : (first : List (List ℕ)) (line : List ℕ) → first ++ line ∷ [] ≢ []
some_line [] line is = let no : line ∷ [] ≡ [] = is in let bad : ⊥ = cc in bad
some_line (f ∷ first) line is = let no : f ∷ (first ++ line ∷ []) ≡ [] = is in let bad : ⊥ = cc in bad

pub behind_closed : (others : Seen) (conf : Conf) (profile : Profile) (sessions : ℕ) (history : History) (a : Seen) (link : Option (List LinkCall)) (clock : Option (List ClockCall)) (words capture out out' : Option (List ℕ)) (lf cf ef df kf of of' : ℕ)
    (new : Running) (kept : ℕ) (old : LifeEnd) (m x : DiskTold) (w w' : Option (List Entry)) (r r' s s' : ℕ) (why : Why)
    → ServesAll conf profile sessions history a (living others link clock words capture out lf (faults cf ef df kf of)) (member_of new) kept (kept_of new) old (totals_of new) m x w w' r r' s s' (Ok tt)
    → IsGoing x new → Closes (totals_of new) why out out' of of'
    → Behind conf profile sessions history a (living others link clock words capture out' lf (faults cf ef df kf of')) new kept old m x w w' r r' s s' why (status_of why Nothing)
behind_closed others conf profile sessions history a link clock words capture out out' lf cf ef df kf of of' new kept old m x w w' r r' s s' Done all going (added, same) =
    let before = living others link clock words capture out lf (faults cf ef df kf of) in
    let after = living others link clock words capture out' lf (faults cf ef df kf of') in
    let end = totals_of new in
    let lines = closing_lines end in
    let asked = Calls (session_calls all.served ++ calls_in all.last) in
    let ds = all_done all.deeds all.ending in
    let later = history_after history ds in
    let one = works_of conf asked history a before kept (kept_of new) old end all.given all.deeds all.ending all.need all.ran in
    let works = works_then conf asked (Calls []) (Calls []) history a before after kept (kept_of new) (kept_of new) old end end ds (map Print lines) one
    (works_lines others conf (Calls []) later link clock words capture out out' lf cf ef df kf of of' (kept_of new) end lines one.grows added same) in
    let history' : history_after history (ds ++ map Print lines) ≡ later = history_after-append history ds (map Print lines) ∙ history_prints later lines in
    let held = held_of conf history later kept Done all.ending all.need m x all.ran.ends.0 (all.ran.well refl) all.keeps in
    record {
      served = all.served;
      last = all.last;
      within = all.within;
      closing = lines;
      given = works.given;
      deeds = ds ++ map Print lines;
      ending = Whole;
      need = Calls [];
      ran = ran_works conf asked history a after kept (kept_of new) old end (ds ++ map Print lines) works;
      are = ap (λ (l : List Deed). l ++ map Print lines) all.are;
      is_set = all.is_set;
      stands = subst (λ (h : History). StandsForHistory (member_of new) h) (sym history') all.stands;
      ends = inl (all.stops, refl);
      keeps = subst (λ (h : History). KeepsAll conf history h kept Done Whole (Calls []) m x) (sym history')
          (keeps_held conf history later kept (kept_of new) Done Whole (Calls []) m x tt going.below one.reserved held);
      each = all.each;
      at_last = all.at_last;
      wire_grew = all.wire_grew;
      told = all.told;
      read = all.read;
      write = all.write;
      is_status = served_status sessions all.served all.last all.stops;
    }
behind_closed others conf profile sessions history a link clock words capture out out' lf cf ef df kf of of' new kept old m x w w' r r' s s' SinkFault all going (first, rest, line, front, lines, added, fails) =
    let before = living others link clock words capture out lf (faults cf ef df kf of) in
    let after = living others link clock words capture out' lf (faults cf ef df kf of') in
    let end = totals_of new in
    let closing = first ++ line ∷ [] in
    let ending = NoLine (Print line) front in
    let asked = Calls (session_calls all.served ++ calls_in all.last) in
    let ds = all_done all.deeds all.ending in
    let later = history_after history ds in
    let one = works_of conf asked history a before kept (kept_of new) old end all.given all.deeds all.ending all.need all.ran in
    let cut = ran_then conf asked (Calls []) history a before after kept (kept_of new) (kept_of new) old end end SinkFault ds nothing (map Print first) ending (Calls []) one
    (ran_lines others conf later link clock words capture out out' lf cf ef df kf of of' (kept_of new) end first line front one.grows added fails) in
    let done : (ds ++ map Print first) ++ Print line ∷ [] ≡ ds ++ map Print closing =
    append_assoc ds (map Print first) (Print line ∷ []) ∙ ap (λ (l : List Deed). ds ++ l) (sym (map-append Print first (line ∷ []))) in
    let history' : history_after history ((ds ++ map Print first) ++ Print line ∷ []) ≡ later =
    ap (history_after history) done ∙ history_after-append history ds (map Print closing) ∙ history_prints later closing in
    let held = held_of conf history later kept Done all.ending all.need m x all.ran.ends.0 (all.ran.well refl) all.keeps in
    record {
      served = all.served;
      last = all.last;
      within = all.within;
      closing = closing;
      given = given_then one.given nothing;
      deeds = ds ++ map Print first;
      ending = ending;
      need = Calls [];
      ran = cut;
      are = done ∙ ap (λ (l : List Deed). l ++ map Print closing) all.are;
      is_set = all.is_set;
      stands = subst (λ (h : History). StandsForHistory (member_of new) h) (sym history') all.stands;
      ends = fails_closing sessions all.served all.last closing (with_why SinkFault end) ending all.stops
          (some_line first line, tt, (rest, append_assoc first (line ∷ []) rest ∙ sym lines));
      keeps = subst (λ (h : History). KeepsAll conf history h kept SinkFault ending (Calls []) m x) (sym history')
          (keeps_held conf history later kept (kept_of new) SinkFault ending (Calls []) m x tt going.below one.reserved held);
      each = all.each;
      at_last = all.at_last;
      wire_grew = all.wire_grew;
      told = all.told;
      read = all.read;
      write = all.write;
      is_status = refl;
    }
behind_closed others conf profile sessions history a link clock words capture out out' lf cf ef df kf of of' new kept old m x w w' r r' s s' DiskFault all going never = absurd never
behind_closed others conf profile sessions history a link clock words capture out out' lf cf ef df kf of of' new kept old m x w w' r r' s s' BadVersion all going never = absurd never
behind_closed others conf profile sessions history a link clock words capture out out' lf cf ef df kf of of' new kept old m x w w' r r' s s' StampsSpent all going never = absurd never
behind_closed others conf profile sessions history a link clock words capture out out' lf cf ef df kf of of' new kept old m x w w' r r' s s' ClockFault all going never = absurd never
behind_closed others conf profile sessions history a link clock words capture out out' lf cf ef df kf of of' new kept old m x w w' r r' s s' EntropyFault all going never = absurd never
