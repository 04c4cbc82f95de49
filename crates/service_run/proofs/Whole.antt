-- A whole run of a service, from its Life and what came behind it.
use Rattle.std.proofs.Common.{◌≡◌, ◌≢◌, ◌⊎◌, inl, inr, ◌<◌, ◌≤◌, ◌+◌, ◌*◌, ◌/◌, ◌^◌, ℕ, ℤ, pos, true, false, List, [], ◌∷◌, ◌++◌, length, map, flat_map, reverse, Option, Some, None, IfSome, unwrap_or, refl, sym, ◌∙◌, ap, subst, arith}
use Rattle.std.specs.List.{AllByRecursion}
use Rattle.std.proofs.lemmas.Grind.{flat_map-append}
use Rattle.std.proofs.lemmas.List.{append-nil}
use Rattle.base_specs.specs.Told.{Added}
use Rattle.base_specs.proofs.Counting.{fails_none}
use Rattle.base_specs.proofs.Telling.{grew_none}
use Rattle.edge_seen.specs.Seen.{Seen}
use Rattle.edge_traits.specs.Clock.{ClockCall}
use Rattle.edge_traits.specs.Link.{LinkCall, sends_among}
use Rattle.edge_traits.specs.Wire.{Entry}
use Rattle.capture_fmt.specs.declared.event.Event.{Event}
use Rattle.capture_fmt.specs.declared.event.Event.TheVariants.{Life, Tick, Resync, Arrive}
use Rattle.capture_fmt.specs.Event.{EventFits}
use Rattle.capture_fmt.specs.Record.{event_bytes}
use Rattle.slot_disk.specs.Calls.{LeavesOnly}
use Rattle.slot_disk.specs.Told.{DiskTold}
use Rattle.stamp_keep.specs.Image.{mark_of_image}
use Rattle.stamp_keep.specs.Keep.{IsLeft, IsLoadable, KeepsMarks, KeepsUnused, StandsAsBefore}
use Rattle.stamp_keep.specs.Slots.{HasOtherVersion}
use Rattle.stamp_keep.proofs.Moments.{weaker}
use Rattle.time_machine.specs.declared.conf.Conf.{Conf}
use Rattle.time_machine.specs.declared.outcome.Request.{Request}
use Rattle.time_machine.specs.Events.{History}
use Rattle.time_machine.specs.Growing.{Grows}
use Rattle.time_machine.specs.Machine.{requests_of, told}
use Rattle.time_machine.specs.Words.{all_sent, greatest_count, life_at}
use Rattle.time_machine.proofs.Counting.{counts_low, moves_once}
use Rattle.time_machine.proofs.Lists.{all_split, all_weaken}
use Rattle.run_deeds.specs.declared.life_end.LifeEnd.{LifeEnd}
use Rattle.run_deeds.specs.declared.life_end.Why.{Why}
use Rattle.run_deeds.specs.declared.life_end.Why.TheVariants.{Done, DiskFault, BadVersion, SinkFault}
use Rattle.run_deeds.specs.Counting.{ended, more, with_why}
use Rattle.run_deeds.specs.Deeds.{Deed, Take, Print, Ending, Whole, NoRecord, NoLine, all_done, events_given, events_in, history_after, missing_in, moves_in, posted_in, reasons_in, ticks_in}
use Rattle.run_deeds.specs.Devices.{Given, IsOver, LifeEndsBy, StopsAt, faults_of}
use Rattle.run_deeds.specs.Lives.{CallsForBlocks, Effects, Ended, Kept, StandsForBlocks, Woven, behind_act}
use Rattle.run_deeds.specs.Marks.{Covers, KeepsLoadable, StopCovers, StopCoversSends, blocks_of}
use Rattle.run_deeds.specs.Parts.{Tallies}
use Rattle.run_deeds.specs.Weaving.{Calls, Need, Start, Stood, SyncCall, Weaves, none, acts, life, call_reads, call_draws, posted_of}
use Rattle.run_deeds.proofs.Deeding.{all_done-append, events_given-append}
use Rattle.run_deeds.proofs.Doing.{given_then}
use Rattle.run_deeds.proofs.Orders.{IsMissing}
use Rattle.run_deeds.proofs.ServiceWeaves.{is_service}
use Rattle.member_run.specs.declared.running.Running.{Running}
use Rattle.member_run.specs.Reserving.{IsLoadedFrom}
use Rattle.member_run.specs.Running.{IsGoing, greatest_of, kept_of, totals_of}
use Rattle.member_run.specs.Starting.{HasStopped, IsOfStart}
use Rattle.member_run.specs.Turning.{DueBy}
use Rattle.member_run.proofs.Blocks.{NoLife, mark_in, sends_in}
use Rattle.member_run.proofs.Leaving.{left_now, stops_then, unused_then}
use Rattle.member_run.proofs.Living.{AtStart, BeginsLife, IsLifeLine, OnDisk, at_start, begun_not, blocks_within, from_mark, greatest_is, kept_at_start, kept_by, known_missing, life_mark, loads_of, marks_kept, most_with, never_done, none_sent, some_as, start_none, start_within, taken_start, totals_are, totals_with, tries}
use Rattle.member_run.proofs.Ordered.{events_of, moves_are, requests_are, ticks_are}
use Rattle.member_run.proofs.Turning.{loads_then, marks_then}
use Rattle.w32tm_text.specs.declared.status.Status.{Status}
use Rattle.service_run.specs.Profile.{Profile}
use Rattle.service_run.specs.Serving.{AreDeeds, Ran, Serves, status_of}
use Rattle.service_run.specs.Sessions.{AreToldAs, IsLastToldAs, Nothing, calls_in, session_calls}
use Rattle.service_run.proofs.Begun.{Began}
use Rattle.service_run.proofs.Behind.{Behind, ends_fault}
use Rattle.service_run.proofs.Clocked.{Clocked, clocked_but, later_from, life_clocked}
use Rattle.service_run.proofs.Listed.{along_events, captured_events, given_events, history_events, ticks_events}
use Rattle.service_run.proofs.Served.{not_print}
use Rattle.service_run.proofs.Works.{ran_of, ran_then}

-- ---- A run from its start on, in the words of a whole run

-- what is told where the wire tells this
abbrev pub with_wire : Seen → Option (List Entry) → (reads writes : ℕ) → Seen
with_wire seen wire reads writes = record seen { wire = wire; wire_faults = reads; wire_write_faults = writes }

-- the events that were taken
abbrev taken_in : List Deed → Ending → List Event
taken_in deeds ending = flat_map events_in (all_done deeds ending)

pub weaves_of : {conf : Conf} {stood : Stood} {calls : List SyncCall} {a b : Seen} {kept kept' : ℕ} {old new : LifeEnd} {why : Why} {given : Given} {deeds : List Deed} {ending : Ending} {need : Need}
    → Ran conf (Start stood (Calls calls)) [] a b kept kept' old new why given deeds ending need
    → Weaves conf (Start stood (Calls calls)) [] given.clock given.words given.link (taken_in deeds ending ++ missing_in ending) need
weaves_of {conf = conf} {stood = stood} {calls = calls} {given = given} {deeds = deeds} {ending = ending} {need = need} r =
    subst (λ (es : List Event). Weaves conf (Start stood (Calls calls)) [] given.clock given.words given.link es need) (given_events deeds ending) r.weaves

pub grows_of : {conf : Conf} {from : Need} {a b : Seen} {kept kept' : ℕ} {old new : LifeEnd} {why : Why} {given : Given} {deeds : List Deed} {ending : Ending} {need : Need}
    → Ran conf from [] a b kept kept' old new why given deeds ending need → Grows conf (reverse (taken_in deeds ending))
grows_of {conf = conf} {deeds = deeds} {ending = ending} r = subst (λ (h : History). Grows conf h) (history_events (all_done deeds ending)) r.grows

fits_of : {conf : Conf} {from : Need} {a b : Seen} {kept kept' : ℕ} {old new : LifeEnd} {why : Why} {given : Given} {deeds : List Deed} {ending : Ending} {need : Need}
    → Ran conf from [] a b kept kept' old new why given deeds ending need → AllByRecursion EventFits (taken_in deeds ending)
fits_of {deeds = deeds} {ending = ending} r =
    (all_split EventFits (taken_in deeds ending) (missing_in ending) (subst (AllByRecursion EventFits) (given_events deeds ending) r.does.fit)).0

requests_in : {conf : Conf} {from : Need} {a b : Seen} {kept kept' : ℕ} {old new : LifeEnd} {why : Why} {given : Given} {deeds : List Deed} {ending : Ending} {need : Need}
    → Ran conf from [] a b kept kept' old new why given deeds ending need → map posted_of (sends_among given.link) ≡ requests_of conf (reverse (taken_in deeds ending))
requests_in {conf = conf} {deeds = deeds} {ending = ending} r =
    r.does.requests ∙ along_events (posted_in conf) (λ history line. refl) [] (all_done deeds ending) ∙ sym (requests_are conf (taken_in deeds ending))

abbrev woven_of : {conf : Conf} {stood : Stood} {calls : List SyncCall} {a b : Seen} {kept kept' : ℕ} {old new : LifeEnd} {why : Why} {given : Given} {deeds : List Deed} {ending : Ending} {need : Need}
    → Ran conf (Start stood (Calls calls)) [] a b kept kept' old new why given deeds ending need → Woven conf (Calls calls) stood
woven_of {given = given} {deeds = deeds} {ending = ending} {need = need} r = record {
  given = given;
  events = taken_in deeds ending;
  ending = ending;
  need = need;
  woven = is_service (weaves_of r);
  weaves = weaves_of r;
  grows = grows_of r;
  last_call = r.last_call;
}

effects_of : {conf : Conf} {stood : Stood} {calls : List SyncCall} {a b : Seen} {kept kept' : ℕ} {old new : LifeEnd} {why : Why} {given : Given} {deeds : List Deed} {ending : Ending} {need : Need}
    → (r : Ran conf (Start stood (Calls calls)) [] a b kept kept' old new why given deeds ending need) → (w w' : Option (List Entry)) (n n' m m' : ℕ)
    → Clocked conf [] given.clock (taken_in deeds ending) → Effects conf (woven_of r) (with_wire a w n m) (with_wire b w' n' m')
effects_of {conf = conf} {a = a} {b = b} {deeds = deeds} {ending = ending} r w w' n n' m m' order =
    let events = taken_in deeds ending in
    record {
      link = r.does.link;
      requests = requests_in r;
      clock = r.does.clock;
      moves = r.does.moves ∙ along_events (moves_in conf) (λ history line. refl) [] (all_done deeds ending) ∙ sym (moves_are conf events);
      rest = order.rest;
      one = order.one;
      at_once = order.at_once;
      once = moves_once conf (reverse events) (grows_of r);
      words = r.does.words;
      record_bytes = flat_map event_bytes events;
      spells = record { fits = fits_of r; written = refl };
      capture = subst (λ (bs : List ℕ). Added a.capture b.capture bs) (captured_events deeds ending) r.does.capture;
    }

-- lines that are no event's change no number
tallies_events : (conf : Conf) (history : History) (ds : List Deed) (calls : List LinkCall) (old new : LifeEnd) → Tallies conf history ds calls old new
    → Tallies conf history (map Take (flat_map events_in ds)) calls old new
tallies_events conf history ds calls old new t =
    let events = flat_map events_in ds in
    let ticks : flat_map ticks_in ds ≡ flat_map ticks_in (map Take events) = ticks_events ds ∙ sym (ticks_are events) in
    record {
      sent = subst (λ (l : List _). new.sent ≡ more old.sent (length l)) (along_events (posted_in conf) (λ h line. refl) history ds) t.sent;
      moved = subst (λ (l : List _). new.moved ≡ more old.moved (length l)) (along_events (moves_in conf) (λ h line. refl) history ds) t.moved;
      refused = subst (λ (l : List _). new.refused ≡ more old.refused (length l)) (along_events (reasons_in conf) (λ h line. refl) history ds) t.refused;
      quiet = t.quiet;
      lost = t.lost;
      turns = subst (λ (l : List Event). new.turns ≡ more old.turns (length l)) ticks t.turns;
      why = t.why;
    }

ended_of : {conf : Conf} {stood : Stood} {calls : List SyncCall} {a b : Seen} {kept kept' : ℕ} {new : LifeEnd} {why : Why} {given : Given} {deeds : List Deed} {ending : Ending} {need : Need}
    → (r : Ran conf (Start stood (Calls calls)) [] a b kept kept' (ended Done) new why given deeds ending need) → (w w' : Option (List Entry)) (n n' m m' : ℕ)
    → (why ≡ SinkFault → (now : ℤ) → taken_in deeds ending ++ missing_in ending ≡ Life now stood.mark ∷ [] → behind_act need ≡ Calls calls)
    → Ended conf (woven_of r) (with_wire a w n m) (with_wire b w' n' m') (with_why why new)
ended_of {conf = conf} {new = new} {why = why} {given = given} {deeds = deeds} {ending = ending} r w w' n n' m m' life_last =
    let events = taken_in deeds ending in
    record {
      ends = r.ends;
      link_failed = r.does.link_failed;
      well = r.well;
      life_last = life_last;
      totals = totals_with conf events given.link why new
          (totals_are conf events given.link (map Take events) new refl (tallies_events conf [] (all_done deeds ending) given.link (ended Done) new r.tallies));
    }

-- ---- Where nothing but the Life was given

no_push : {A : Type 0} (xs : List A) (x : A) → xs ++ x ∷ [] ≡ [] → ⊥
no_push [] x is = let bad : ⊥ = cc is in bad
no_push (y ∷ ys) x is = let no : y ∷ (ys ++ x ∷ []) ≡ [] = is in let bad : ⊥ = cc in bad

-- a sink that fails where no event was given fails at a line that is no event's
none_behind : (deeds : List Deed) (ending : Ending) (need : Need) → StopsAt ending need → events_given deeds ending ≡ [] → IsOver need
none_behind deeds Whole need stops is = absurd stops
none_behind deeds (NoRecord event front) need stops is = absurd (no_push (flat_map events_in deeds) event is)
none_behind deeds (NoLine (Take event) front) need stops is = absurd (no_push (flat_map events_in deeds) event (sym (flat_map-append events_in deeds (Take event ∷ [])) ∙ is))
none_behind deeds (NoLine (Print line) front) need stops is = stops

-- so the calls are needed next, or there was none
life_behind : {conf : Conf} {stood : Stood} {calls : List SyncCall} {history : History} {cs : List ClockCall} {ws : List ℕ} {ls : List LinkCall} {es : List Event} {need : Need} {time : ℤ}
    → Weaves conf (Start stood (Calls calls)) history cs ws ls es need → es ≡ Life time stood.mark ∷ [] → IsOver need → behind_act need ≡ Calls calls
life_behind none only over = absurd over
life_behind (life none) only over = absurd over
life_behind (life (acts tried are none)) only over = refl
life_behind (life (acts tried are (call_reads none))) only over = absurd over
life_behind (life (acts tried are (call_reads (call_draws rest)))) only over = absurd (let bad : ⊥ = cc only in bad)

-- the line of a Life is none of what came behind one
no_life_line : (deeds : List Deed) (ending : Ending) → NoLife (events_given deeds ending) → IsLifeLine ending → ⊥
no_life_line deeds (NoLine (Take (Life now mark)) front) only line =
    let split = subst NoLife (flat_map-append events_in deeds (Take (Life now mark) ∷ [])) only in
    let no : true ≡ false = (all_split _ (flat_map events_in deeds) (Life now mark ∷ []) split).1.0 in
    let bad : ⊥ = cc in bad
no_life_line deeds (NoLine (Take (Tick now word)) front) only line = absurd line
no_life_line deeds (NoLine (Take (Resync now word flags)) front) only line = absurd line
no_life_line deeds (NoLine (Take (Arrive now from bytes)) front) only line = absurd line
no_life_line deeds (NoLine (Print text) front) only line = absurd line
no_life_line deeds (NoRecord event front) only line = absurd line
no_life_line deeds Whole only line = absurd line

-- ---- A run that took its Life

-- The run from its start on, and what its disk was called for behind the Life.
record Lasted (conf : Conf) (stood : Stood) (asked : List SyncCall) (mid exit : DiskTold) (new : Running) (before now : Seen) (why : Why) (given : Given) (deeds : List Deed) (ending : Ending) (need : Need) : Type 0 where
  ran : Ran conf (Start stood (Calls asked)) [] before now stood.mark (kept_of new) (ended Done) (totals_of new) why given deeds ending need
  order : Clocked conf [] given.clock (taken_in deeds ending)
  life_last : why ≡ SinkFault → (now : ℤ) → taken_in deeds ending ++ missing_in ending ≡ Life now stood.mark ∷ [] → behind_act need ≡ Calls asked
  begins : BeginsLife stood.mark (taken_in deeds ending)
  due : DueBy why (told conf (reverse (taken_in deeds ending)))
  room : stood.mark + 64 * blocks_of (life_at (told conf (reverse (taken_in deeds ending)))) < 2 ^ 32
  calls : exit.time ≤ mid.time + 5 * (1 + length (sends_among given.link) / 64)
  blocks : CallsForBlocks why ending need (life_at (told conf (reverse (taken_in deeds ending)))) mid.time exit.time
  most : LeavesOnly mid exit (StandsForBlocks why ending need (life_at (told conf (reverse (taken_in deeds ending)))) stood.mark)
  greatest : greatest_of new ≡ greatest_count (told conf (reverse (taken_in deeds ending)))
  reserved : why ≡ Done → kept_of new ≡ stood.mark + 64 * blocks_of (life_at (told conf (reverse (taken_in deeds ending))))

lasted_of : (conf : Conf) (profile : Profile) (sessions : ℕ) (entry mid exit : DiskTold) (before between now : Seen) (old new : Running) (w w' : Option (List Entry)) (n n' m m' : ℕ) (why : Why) (status : Status)
    → (began : Began conf entry before between old)
    → (behind : Behind conf profile sessions (Life began.life began.stood.mark ∷ []) between now new began.stood.mark (totals_of old) mid exit w w' n n' m m' why status)
    → Lasted conf began.stood (session_calls behind.served ++ calls_in behind.last) mid exit new before now why
    (given_then (began.works (Calls (session_calls behind.served ++ calls_in behind.last))).given behind.given) (Take (Life began.life began.stood.mark) ∷ behind.deeds) behind.ending behind.need
lasted_of conf profile sessions entry mid exit before between now old new w w' n n' m m' why status began behind =
    let stood = began.stood in
    let mark = stood.mark in
    let event = Life began.life mark in
    let asked = session_calls behind.served ++ calls_in behind.last in
    let first = Take event ∷ [] in
    let deeds = Take event ∷ behind.deeds in
    let ending = behind.ending in
    let need = behind.need in
    let works = began.works (Calls asked) in
    let ran = ran_then conf (Start stood (Calls asked)) (Calls asked) [] before between now mark mark (kept_of new) (ended Done) (totals_of old) (totals_of new) why first behind.given behind.deeds ending need works behind.ran in
    let events = taken_in deeds ending in
    let done : all_done deeds ending ≡ Take event ∷ all_done behind.deeds ending = all_done-append first behind.deeds ending in
    let later = history_after (event ∷ []) (all_done behind.deeds ending) in
    let same : later ≡ reverse events = sym (ap (history_after []) done) ∙ history_events (all_done deeds ending) in
    let only : NoLife (events_given behind.deeds ending) = later_from behind.ran.weaves tt in
    let split = subst NoLife (given_events behind.deeds ending) only in
    let begins : BeginsLife mark events = record {
      now = began.life;
      later = taken_in behind.deeds ending;
      only = (all_split _ (taken_in behind.deeds ending) (missing_in ending) split).0;
      is = ap (flat_map events_in) done;
    } in
    let marks : unwrap_or (mark_in conf (reverse events)) 0 ≡ mark = rw (life_mark conf mark events begins) refl in
    let disk = behind.keeps.disk began.reserved in
    let Room : History → Type 0 = λ (h : History). unwrap_or (mark_in conf h) 0 + 64 * blocks_of (life_at (told conf h)) < 2 ^ 32 in
    let Few : History → Type 0 = λ (h : History). exit.time ≤ mid.time + 5 * (1 + sends_in conf h / 64) in
    let Blocks : History → Type 0 = λ (h : History). CallsForBlocks why ending need (life_at (told conf h)) mid.time exit.time in
    let Most : History → Type 0 = λ (h : History). LeavesOnly mid exit (StandsForBlocks why ending need (life_at (told conf h)) (unwrap_or (mark_in conf h) 0)) in
    let MostAt : ℕ → Type 0 = λ (k : ℕ). LeavesOnly mid exit (StandsForBlocks why ending need (life_at (told conf (reverse events))) k) in
    let Kept : History → Type 0 = λ (h : History). kept_of new ≡ unwrap_or (mark_in conf h) 0 + 64 * blocks_of (life_at (told conf h)) in
    record {
      ran = ran;
      order = clocked_by deeds ending need (weaves_of ran) (known_missing why ending need (faults_of between) (faults_of now) behind.ran.ends (λ is. subst IsOver (sym (behind.ran.well is)) tt)) (no_life_line behind.deeds ending only);
      life_last = λ is time alone.
          let stops = (subst (λ (y : Why). LifeEndsBy y ending need (faults_of between) (faults_of now)) is behind.ran.ends).0 in
          let given : event ∷ events_given behind.deeds ending ≡ Life time mark ∷ [] = sym (events_given-append first behind.deeds ending) ∙ given_events deeds ending ∙ alone in
          let nothing : events_given behind.deeds ending ≡ [] = cc in
          life_behind (weaves_of ran) alone (none_behind behind.deeds ending need stops nothing);
      begins = begins;
      due = subst (λ (h : History). DueBy why (told conf h)) same disk.due;
      room = let all : Room (reverse events) = subst Room same disk.within in omega (arith, all, marks);
      calls =
          let few : Few (reverse events) = subst Few same (omega (arith, disk.calls)) in
          omega (arith, few, tries conf mark events (given_then works.given behind.given).link begins (requests_in ran));
      blocks = subst Blocks same
          (blocks_within why ending need (life_at (told conf later)) mid.time mid.time _ exit.time (omega arith) (omega arith) (behind.keeps.blocks began.reserved));
      most = subst MostAt marks (subst Most same (behind.keeps.most began.reserved));
      greatest = greatest_is new conf later behind.is_set behind.stands ∙ ap (λ (h : History). greatest_count (told conf h)) same;
      reserved = λ is. let all : Kept (reverse events) = subst Kept same (behind.ran.reserved is began.reserved).blocks in omega (arith, all, marks);
    }
  where
    clocked_by : {conf : Conf} {stood : Stood} {calls : List SyncCall} {cs : List ClockCall} {ws : List ℕ} {ls : List LinkCall} (deeds : List Deed) (ending : Ending) (need : Need)
        → Weaves conf (Start stood (Calls calls)) [] cs ws ls (taken_in deeds ending ++ missing_in ending) need → IsMissing need (missing_in ending) ⊎ IsLifeLine ending → (IsLifeLine ending → ⊥)
        → Clocked conf [] cs (taken_in deeds ending)
    clocked_by deeds ending need weaves (inl is) never = clocked_but (taken_in deeds ending) (missing_in ending) weaves is
    clocked_by deeds ending need weaves (inr line) never = absurd (never line)

-- what a stop leaves covers each count that was sent
stops_cover : (conf : Conf) (greatest : ℕ) (history : History) (entry exit : DiskTold) → greatest ≡ greatest_count (told conf history)
    → StopCovers entry exit greatest → StopCoversSends entry exit (told conf history)
stops_cover conf greatest history entry exit is stops =
    let before = told conf history in
    record {
      each = λ room image left.
          let stop = stops.each room image left in
          (all_weaken (λ r. r.count ≤ greatest_count before) (λ r. r.count ≤ mark_of_image image) (λ r low. omega (arith, low, is, stop.0)) (all_sent before) (counts_low before), stop.1);
    }

-- its disk, over the start and what came behind it
kept_lasted : (conf : Conf) (stood : Stood) (asked : List SyncCall) (entry mid exit : DiskTold) (old new : Running) (before now : Seen) (why : Why) (given : Given) (deeds : List Deed) (ending : Ending) (need : Need)
    → (l : Lasted conf stood asked mid exit new before now why given deeds ending need) → IsGoing mid old → OnDisk entry mid exit → Covers exit (greatest_of new)
    → (why ≡ DiskFault → StopCovers mid exit (greatest_of new)) → (why ≡ Done → IsGoing exit new)
    → Kept conf (woven_of l.ran) entry exit why
kept_lasted conf stood asked entry mid exit old new before now why given deeds ending need l going disk covers stops goes =
    let events = taken_in deeds ending in
    record {
      kept = kept_by conf why stood events entry exit l.begins l.due;
      loadable = λ any. disk.loads;
      loads = loads_then disk.loads_first disk.loads_next;
      marks = marks_kept conf stood.mark (greatest_of new) events entry exit l.begins covers l.greatest (marks_then disk.first disk.next);
      stopped = λ is. stops_cover conf (greatest_of new) (reverse events) entry exit l.greatest (stops_then (greatest_of new) disk.first (stops is));
      within = λ some. l.room;
      calls = let few = l.calls in let start = disk.start in omega (arith, few, start);
      blocks = blocks_within why ending need (life_at (told conf (reverse events))) mid.time (entry.time + 4) exit.time exit.time disk.start (omega arith) l.blocks;
      most = most_with entry mid exit disk.stands l.most;
      unused = unused_then disk.is_mid disk.unused_first disk.unused_next;
      loaded = λ any image left. (loads_of mid exit old going disk.loads_next image left, left_now mid exit _ disk.is_exit l.most image left);
      reserved = λ is. let blocks = l.reserved is in some_as _ _ exit.content (λ c same. omega (arith, same, blocks)) (goes is).fits.content;
    }

pub serves_begun : (conf : Conf) (profile : Profile) (sessions : ℕ) (entry mid exit : DiskTold) (before between now : Seen) (old new : Running) (w w' : Option (List Entry)) (n n' m m' : ℕ) (why : Why) (status : Status)
    → (began : Began conf entry before between old)
    → Behind conf profile sessions (Life began.life began.stood.mark ∷ []) between now new began.stood.mark (totals_of old) mid exit w w' n n' m m' why status
    → IsGoing mid old → OnDisk entry mid exit → Covers exit (greatest_of new)
    → (why ≡ DiskFault → StopCovers mid exit (greatest_of new)) → (why ≡ Done → IsGoing exit new)
    → Serves conf profile sessions entry exit (with_wire before w n m) (with_wire now w' n' m') status
serves_begun conf profile sessions entry mid exit before between now old new w w' n n' m m' why status began behind going disk covers stops goes =
    let stood = began.stood in
    let event = Life began.life stood.mark in
    let asked = session_calls behind.served ++ calls_in behind.last in
    let given = given_then (began.works (Calls asked)).given behind.given in
    let deeds = Take event ∷ behind.deeds in
    let l = lasted_of conf profile sessions entry mid exit before between now old new w w' n n' m m' why status began behind in
    let done : all_done deeds behind.ending ≡ Take event ∷ all_done behind.deeds behind.ending = all_done-append (Take event ∷ []) behind.deeds behind.ending in
    record {
      stood = stood;
      stood_for = began.stood_for;
      served = behind.served;
      last = behind.last;
      within = behind.within;
      woven = woven_of l.ran;
      end = with_why why (totals_of new);
      effects = effects_of l.ran w w' n n' m m' l.order;
      ended = ended_of l.ran w w' n n' m m' l.life_last;
      kept = kept_lasted conf stood asked entry mid exit old new before now why given deeds behind.ending behind.need l going disk covers stops goes;
      life = began.life;
      tells = record {
        deeds = deeds;
        closing = behind.closing;
        taken = refl;
        are = subst (λ (ds : List Deed). AreDeeds began.life stood.mark behind.served behind.last behind.closing ds) (sym done) (refl, behind.are);
        has_line = l.ran.does.has_line;
        out = l.ran.does.out;
        ends = behind.ends;
      };
      each = behind.each;
      at_last = behind.at_last;
      wire = behind.wire_grew;
      told = behind.told;
      reads = behind.read;
      writes = behind.write;
      is_status = behind.is_status;
    }

-- ---- A run that ended in its first part

-- the events are none, or the Life alone
alone_of : {conf : Conf} {stood : Stood} {cs : List ClockCall} {ws : List ℕ} {ls : List LinkCall} {need : Need} (deeds : List Deed) (ending : Ending)
    → Weaves conf (Start stood (Calls [])) [] cs ws ls (taken_in deeds ending ++ missing_in ending) need → AtStart stood.mark (taken_in deeds ending)
alone_of {stood = stood} deeds ending weaves = taken_start stood.mark (taken_in deeds ending) (missing_in ending) (at_start weaves)

never_clocked : {conf : Conf} {stood : Stood} {cs : List ClockCall} {ws : List ℕ} {ls : List LinkCall} {need : Need} (deeds : List Deed) (ending : Ending)
    → Weaves conf (Start stood (Calls [])) [] cs ws ls (taken_in deeds ending ++ missing_in ending) need → IsMissing need (missing_in ending) ⊎ IsLifeLine ending
    → AtStart stood.mark (taken_in deeds ending) → Clocked conf [] cs (taken_in deeds ending)
never_clocked deeds ending weaves (inl is) at = clocked_but (taken_in deeds ending) (missing_in ending) weaves is
never_clocked deeds (NoLine (Take (Life now mark)) front) weaves (inr line) (inl nothing) =
    absurd (no_push (flat_map events_in deeds) (Life now mark) (sym (flat_map-append events_in deeds (Take (Life now mark) ∷ [])) ∙ nothing))
never_clocked {conf = conf} {cs = cs} deeds (NoLine (Take (Life now mark)) front) weaves (inr line) (inr (time, is)) =
    let events = flat_map events_in (deeds ++ Take (Life now mark) ∷ []) in
    subst (λ (es : List Event). Clocked conf [] cs es) (sym is) (life_clocked weaves (append-nil events ∙ is))
never_clocked deeds (NoLine (Take (Tick now word)) front) weaves (inr line) at = absurd line
never_clocked deeds (NoLine (Take (Resync now word flags)) front) weaves (inr line) at = absurd line
never_clocked deeds (NoLine (Take (Arrive now from bytes)) front) weaves (inr line) at = absurd line
never_clocked deeds (NoLine (Print text) front) weaves (inr line) at = absurd line
never_clocked deeds (NoRecord event front) weaves (inr line) at = absurd line
never_clocked deeds Whole weaves (inr line) at = absurd line

first_call : (need : Need) (es : List Event) (e : Event) → (behind_act need ≡ Calls []) ⊎ (es ≡ []) → es ≡ e ∷ [] → behind_act need ≡ Calls []
first_call need es e (inl is) only = is
first_call need es e (inr nothing) only = absurd (let bad : ⊥ = cc (nothing, only) in bad)

-- the deeds of it, with the reading of the Life where it was taken
deeds_alone : (mark : ℕ) (deeds : List Deed) (ending : Ending) → all_done deeds ending ≡ map Take (taken_in deeds ending) → AtStart mark (taken_in deeds ending)
    → (time : ℤ) × AreDeeds time mark [] Nothing [] (all_done deeds ending)
deeds_alone mark deeds ending takes (inl nothing) =
    let are : all_done deeds ending ≡ [] = takes ∙ ap (map Take) nothing in
    (pos 0, subst (λ (ds : List Deed). AreDeeds (pos 0) mark [] Nothing [] ds) (sym are) (refl, refl, refl))
deeds_alone mark deeds ending takes (inr (time, is)) =
    let are : all_done deeds ending ≡ Take (Life time mark) ∷ [] = takes ∙ ap (map Take) is in
    (time, subst (λ (ds : List Deed). AreDeeds time mark [] Nothing [] ds) (sym are) (refl, refl))

none_told : (wire : Option (List Entry)) → IfSome wire (λ entries. AreToldAs [] × IsLastToldAs Nothing)
none_told None = tt
none_told (Some entries) = (tt, tt)

by_either : {Refusals Taken Loads : Type 0} → (Taken → Refusals) → (Refusals → Loads) → Taken ⊎ Refusals → Loads
by_either f loads (inl some) = loads (f some)
by_either f loads (inr neither) = loads neither

pub serves_never : (conf : Conf) (profile : Profile) (sessions : ℕ) (entry exit : DiskTold) (before now : Seen) (w : Option (List Entry)) (n m : ℕ) (why : Why) → IsOfStart why → HasStopped conf (Calls []) entry before now why
    → (why ≡ BadVersion → IfSome entry.content HasOtherVersion) → (why ≡ BadVersion → IsLeft entry exit) → (why ≢ BadVersion → why ≢ DiskFault → IfSome entry.content IsLoadable)
    → exit.time ≤ entry.time + 4 → KeepsMarks entry exit → KeepsLoadable entry exit → LeavesOnly entry exit (StandsAsBefore entry) → LeavesOnly entry exit (KeepsUnused entry)
    → (why ≢ BadVersion → why ≢ DiskFault → IsLoadedFrom entry exit) → (why ≡ DiskFault → StopCovers entry exit 0)
    → Serves conf profile sessions entry exit (with_wire before w n m) (with_wire now w n m) (status_of why Nothing)
serves_never conf profile sessions entry exit before now w n m why of stopped version left loads calls least still stands unused from stops =
    let stood = stopped.stood in
    let mark = stood.mark in
    let r = stopped.runs in
    let ran = ran_of conf (Start stood (Calls [])) [] before now mark mark (ended Done) (ended Done) why r in
    let events = taken_in r.deeds r.ending in
    let same : events ≡ r.taken = ap (flat_map events_in) r.takes ∙ events_of r.taken in
    let takes : all_done r.deeds r.ending ≡ map Take events = r.takes ∙ ap (map Take) (sym same) in
    let weaves = weaves_of ran in
    let given = given_events r.deeds r.ending in
    let at = alone_of r.deeds r.ending weaves in
    let not = never_done why of in
    let first = start_none r.weaves in
    let sent = none_sent conf mark events at in
    let P : List Request → Type 0 = λ (rs : List Request). AllByRecursion (λ q. mark < q.count) rs in
    let Q : List ℕ → List Request → Type 0 = λ (image : List ℕ) (rs : List Request). AllByRecursion (λ q. q.count ≤ mark_of_image image) rs in
    let missing = known_missing why r.ending r.need (faults_of before) (faults_of now) r.ends (λ is. absurd (not is)) in
    let order = never_clocked r.deeds r.ending weaves missing at in
    let are = deeds_alone mark r.deeds r.ending takes at in
    let begun = begun_not why before now r.deeds r.ending r.need events of takes first r.ends in
    let end = ended Done in
    record {
      stood = stood;
      stood_for = stopped.stood_for;
      served = [];
      last = Nothing;
      within = omega arith;
      woven = woven_of ran;
      end = with_why why end;
      effects = effects_of ran w w n n m m order;
      ended = ended_of ran w w n n m m (λ is time only. first_call r.need (events_given r.deeds r.ending) (Life time mark) first (given ∙ only));
      kept = record {
        kept = kept_at_start why conf stood entry exit before now r.deeds r.ending r.need events (told conf (reverse events)) of takes first r.ends version left;
        loadable = by_either begun (λ neither. loads neither.0 neither.1);
        loads = still;
        marks = record { above = subst P (sym sent) tt; covered = λ image was. subst (Q image) (sym sent) tt; least = least };
        stopped = λ is. record { each = λ room image was. (subst (Q image) (sym sent) tt, ((stops is).each room image was).1) };
        within = start_within conf mark events at (fits_of ran);
        calls = omega (arith, calls);
        blocks = inl (omega (arith, calls));
        most = weaker stands (λ image was. inl was);
        unused = unused;
        loaded = by_either begun (λ neither image was.
            let low = from_mark entry exit stood image (blocks_of (life_at (told conf (reverse events)))) stopped.stood_for ((from neither.0 neither.1).each image was) in
            (low.0, inl low.1));
        reserved = λ is. absurd (not is);
      };
      life = are.0;
      tells = record {
        deeds = r.deeds;
        closing = [];
        taken = refl;
        are = are.1;
        has_line = r.does.has_line;
        out = r.does.out;
        ends = ends_fault why sessions [] Nothing [] (with_why why end) r.ending not (not_print r.deeds r.ending r.taken r.takes);
      };
      each = tt;
      at_last = tt;
      wire = grew_none w;
      told = none_told w;
      reads = fails_none n;
      writes = fails_none m;
      is_status = refl;
    }
