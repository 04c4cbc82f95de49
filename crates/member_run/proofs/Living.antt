-- A whole run, from its parts.
use Rattle.std.proofs.Common.{◌≡◌, ◌≢◌, ◌⊎◌, inl, inr, ⊎_elim, ◌<◌, ◌≤◌, ◌+◌, ◌-◌, ◌*◌, ◌/◌, ◌^◌, ℕ, zero, suc, ℤ, Bool, true, false, min, List, [], ◌∷◌, ◌++◌, length, map, flat_map, reverse, take, Option, Some, None, IfSome, IsSome, unwrap_or, refl, sym, ◌∙◌, ap, subst, arith, append_assoc, if◌then◌else◌}
use Rattle.std.specs.List.{AllByRecursion}
use Rattle.std.specs.Prelude.{IsSomeAnd, ⊤}
use Rattle.std.proofs.lemmas.List.{append-nil, length-map}
use Rattle.std.proofs.lemmas.Grind.{flat_map-append, reverse_onto}
use Rattle.std.proofs.lemmas.Bool.Decides.{nat_tests}
use Rattle.base_specs.specs.Counts.{Fails, FailsTimes}
use Rattle.base_specs.specs.Told.{Added, Grew}
use Rattle.base_specs.proofs.Telling.{added_more}
use Rattle.line_text.specs.Text.{joined}
use Rattle.edge_traits.specs.declared.link.Receipt.{Receipt}
use Rattle.edge_traits.specs.Clock.{ClockCall, moves_among, readings_among}
use Rattle.edge_traits.specs.Link.{LinkCall, failed_calls, receipts_among, sends_among}
use Rattle.capture_fmt.specs.declared.event.Event.{Event}
use Rattle.capture_fmt.specs.declared.event.Event.TheVariants.{Life, Tick, Resync, Arrive}
use Rattle.capture_fmt.specs.Event.{EventFits}
use Rattle.capture_fmt.specs.Record.{event_bytes}
use Rattle.slot_disk.specs.Calls.{LeavesOnly}
use Rattle.slot_disk.specs.Told.{DiskTold, IsDisk}
use Rattle.stamp_keep.specs.Image.{mark_of_image}
use Rattle.stamp_keep.specs.Keep.{IsLeft, IsLoadable, KeepsMarks, KeepsUnused, StandsAsBefore}
use Rattle.stamp_keep.proofs.Moments.{and_then, weaker}
use Rattle.stamp_keep.specs.Slots.{HasOtherVersion}
use Rattle.time_machine.specs.declared.conf.Conf.{Conf}
use Rattle.time_machine.specs.declared.outcome.Outcome.{Outcome}
use Rattle.time_machine.specs.declared.outcome.Outcome.TheVariants.{Started, Idle, Sent, Moved, Refused}
use Rattle.time_machine.specs.declared.outcome.Request.{Request}
use Rattle.time_machine.specs.Events.{History}
use Rattle.time_machine.specs.Told.{Told, request_sent}
use Rattle.time_machine.specs.Words.{Words, all_sent, greatest_count, life_at, some_of, words}
use Rattle.time_machine.specs.Machine.{told, count_at, is_due, moves_of, outcome_at, outcome_by, requests_of}
use Rattle.time_machine.specs.Growing.{Grows}
use Rattle.time_machine.specs.Report.{line_of, report_of}
use Rattle.time_machine.proofs.Lists.{all_push, all_split, all_weaken}
use Rattle.time_machine.proofs.After.{verdict_cases}
use Rattle.time_machine.proofs.Counting.{counts_low, moves_once}
use Rattle.time_machine.proofs.Sent.{sent_at}
use Rattle.sntp_core.specs.Standing.{StandsForHistory, conf_of, words_of}
use Rattle.run_deeds.specs.declared.life_end.LifeEnd.{LifeEnd}
use Rattle.run_deeds.specs.declared.life_end.Why.{Why}
use Rattle.run_deeds.specs.declared.life_end.Why.TheVariants.{Done, DiskFault, BadVersion, StampsSpent, ClockFault, EntropyFault, SinkFault}
use Rattle.run_deeds.specs.Closing.{closing_by, closing_lines}
use Rattle.run_deeds.specs.Counting.{ended, more, with_why}
use Rattle.run_deeds.specs.Weaving.{Need, Start, Turns, WordFor, ReceiptNow, ReadingFor, Calls, CallWord, Round, RoundReading, Act, Stood, Weaves, none, acts, life, reads, draws, followed_by, posted_of, turns_of, weave}
use Rattle.run_deeds.specs.Deeds.{Deed, Take, Print, Ending, Whole, NoRecord, NoLine, HasLine, IsWhole, all_done, along, cut_record, events_given, events_in, history_after, line_in, missing_in, posted_in, moves_in, printed, reasons_in, ticks_in}
use Rattle.edge_seen.specs.Seen.{Seen}
use Rattle.run_deeds.specs.Devices.{EndsAtLast, Faults, Given, IsBeforeRequest, IsBehind, IsBetween, IsInCalls, IsOver, IsToDo, LifeEndsBy, NeedsCount, NeedsDisk, NeedsMark, NeedsReading, NeedsReceipt, NeedsWord, SinkFailed, StopsAt, faults, living, faults_of}
use Rattle.run_deeds.specs.Marks.{Covers, KeepsLoadable, MarksBeforeSends, Reserved, StopCovers, StopCoversSends, blocks_of}
use Rattle.run_deeds.specs.Parts.{Part, Runs, Tallies}
use Rattle.run_deeds.specs.Lives.{CallsForBlocks, KeptBy, Lives, Reports, StandsForBlocks, Totals, behind_act}
use Rattle.run_deeds.proofs.Weaves.{is_weave}
use Rattle.run_deeds.proofs.Orders.{InOrder, IsMissing, order_but, order_life}
use Rattle.run_deeds.proofs.Composing.{runs_then}
use Rattle.member_run.specs.declared.running.Running.{Running}
use Rattle.member_run.specs.Running.{IsGoing, greatest_of, kept_of, member_of, totals_of}
use Rattle.member_run.specs.Closing.{Closes}
use Rattle.member_run.specs.Reserving.{IsLoadedFrom}
use Rattle.member_run.specs.Starting.{HasBegun, HasStopped, IsOfStart}
use Rattle.member_run.specs.Turning.{CallsFor, DueBy, TakesTurns}
use Rattle.member_run.proofs.Ordered.{captured_is, ends_taken, followed_none, given_are, history_of, lines_are, moves_are, reasons_are, requests_are, reverse_last, ticks_are}
use Rattle.member_run.proofs.Blocks.{NoLife, mark_in, mark_stays, sends_in, turns_later}
use Rattle.member_run.proofs.Leaving.{left_now, stops_then, unused_then}
use Rattle.member_run.proofs.Parting.{last_one, no_print}
use Rattle.member_run.proofs.Turning.{later_taken, loads_then, marks_then, taken_history, whole_given}

-- ---- The history of a run begins with its Life

pub record BeginsLife (mark : ℕ) (events : List Event) : Type 0 where
  pub now : ℤ
  pub later : List Event
  pub only : NoLife later
  pub is : events ≡ Life now mark ∷ later

pub weave_shape : (stood : Stood) (rs : List ℤ) (ws : List ℕ) (qs : List Receipt) (events missing : List Event) → events ++ missing ≡ weave stood rs ws qs
    → (events ≡ []) ⊎ BeginsLife stood.mark events
weave_shape stood rs ws qs [] missing is = inl refl
weave_shape stood [] ws qs (e ∷ es) missing is = absurd (let no : e ∷ (es ++ missing) ≡ [] = is in let bad : ⊥ = cc in bad)
weave_shape stood (now ∷ rs) ws qs (e ∷ es) missing is =
    let same : e ∷ (es ++ missing) ≡ Life now stood.mark ∷ turns_of rs ws qs = is in
    let rest : es ++ missing ≡ turns_of rs ws qs = cc in
    let first : e ≡ Life now stood.mark = cc in
    let all : NoLife (es ++ missing) = subst NoLife (sym rest) (turns_later rs ws qs) in
    inr (record { now = now; later = es; only = (all_split _ es missing all).0; is = ap (λ (x : Event). x ∷ es) first })

none_reversed : (es : List Event) → NoLife es → NoLife (reverse es)
none_reversed [] only = tt
none_reversed (e ∷ es) only = subst NoLife (sym (reverse_onto es e [])) (all_push _ (reverse es) e (none_reversed es only.1) only.0)

-- the mark of the Life is the mark of its history
pub life_mark : (conf : Conf) (mark : ℕ) (events : List Event) → BeginsLife mark events → mark_in conf (reverse events) ≡ Some mark
unfolding told
life_mark conf mark events begins =
    let are : reverse events ≡ followed_by (Life begins.now mark ∷ []) begins.later = ap reverse begins.is ∙ sym (followed_none (Life begins.now mark ∷ begins.later)) in
    rw are (mark_stays conf (Life begins.now mark ∷ []) begins.later begins.only)

-- all requests are those of its life
pub life_sends : (conf : Conf) (mark : ℕ) (events : List Event) → BeginsLife mark events → sends_in conf (reverse events) ≡ length (requests_of conf (reverse events))
unfolding words
life_sends conf mark events begins =
    let are : reverse events ≡ reverse begins.later ++ Life begins.now mark ∷ [] = ap reverse begins.is ∙ reverse_onto begins.later (Life begins.now mark) [] in
    rw are (sent_at conf (reverse begins.later) (Life begins.now mark) (none_reversed begins.later begins.only) refl)

-- ---- Each count that was sent is above the mark

with_above : (mark : ℕ) (e : Event) (o : Outcome) (before : List Told) → IfSome (request_sent e o) (λ r. mark < r.count)
    → AllByRecursion (λ r. mark < r.count) (all_sent before) → AllByRecursion (λ r. mark < r.count) (all_sent before ++ some_of (request_sent e o))
with_above mark e (Sent to count bytes) before above all = all_push _ (all_sent before) _ all above
with_above mark e (Started m) before above all = rw append-nil all
with_above mark e Idle before above all = rw append-nil all
with_above mark e (Moved count offset how) before above all = rw append-nil all
with_above mark e (Refused reason) before above all = rw append-nil all

above_if : (mark : ℕ) (e : Event) (due : Bool) (o : Outcome) → IfSome (request_sent e o) (λ r. mark < r.count) → IfSome (request_sent e (if due then o else Idle)) (λ r. mark < r.count)
above_if mark e true o above = above
above_if mark e false o above = tt

event_above : (conf : Conf) (w : Words) (mark : ℕ) (e : Event) → mark ≤ unwrap_or w.mark 0 → IfSome (request_sent e (outcome_by conf w e)) (λ r. mark < r.count)
event_above conf w mark (Life now m) least = tt
event_above conf w mark (Tick now word) least =
    above_if mark (Tick now word) (is_due w now) _ (let above : mark < count_at w = omega (arith, least) in above)
event_above conf w mark (Resync now word flags) least = let above : mark < count_at w = omega (arith, least) in above
event_above conf w mark (Arrive now from bytes) least =
    verdict_cases (λ o. IfSome (request_sent (Arrive now from bytes) o) (λ r. mark < r.count)) (λ reason. tt) conf w now from bytes (λ r e offset how. tt)

all_above : (conf : Conf) (mark : ℕ) (history : History) (es : List Event) → NoLife es → mark_in conf history ≡ Some mark
    → AllByRecursion (λ r. mark < r.count) (all_sent (told conf history)) → AllByRecursion (λ r. mark < r.count) (all_sent (told conf (followed_by history es)))
unfolding told words
all_above conf mark history [] only is all = all
all_above conf mark history (e ∷ es) only is all =
    let w = words conf (told conf history) in
    let least : mark ≤ unwrap_or w.mark 0 = rw is (omega arith) in
    let above = event_above conf w mark e least in
    all_above conf mark (e ∷ history) es only.1 (mark_stays conf history (e ∷ []) (only.0, tt) ∙ is) (with_above mark e (outcome_by conf w e) (told conf history) above all)

pub life_above : (conf : Conf) (mark : ℕ) (events : List Event) → BeginsLife mark events → AllByRecursion (λ r. mark < r.count) (all_sent (told conf (reverse events)))
unfolding told
life_above conf mark events begins =
    let are : reverse events ≡ followed_by (Life begins.now mark ∷ []) begins.later = ap reverse begins.is ∙ sym (followed_none (Life begins.now mark ∷ begins.later)) in
    rw are (all_above conf mark (Life begins.now mark ∷ []) begins.later begins.only refl tt)

-- ---- What a run of parts gave and did, in the words of the time machine

more_none : (n : ℕ) → more 0 n ≡ min n (2 ^ 32 - 1)
more_none zero = omega arith
more_none (suc n) = grind (arith, nat_tests)

up_to_last : (n m k : ℕ) → n ≡ more 0 m → m ≡ k → n ≡ min k (2 ^ 32 - 1)
up_to_last n m k is same = is ∙ more_none m ∙ ap (λ (x : ℕ). min x (2 ^ 32 - 1)) same

pub totals_are : (conf : Conf) (taken : List Event) (calls : List LinkCall) (deeds : List Deed) (new : LifeEnd) → deeds ≡ map Take taken
    → Tallies conf [] deeds calls (ended Done) new → Totals conf taken calls new
totals_are conf taken calls deeds new are t = record {
  sent = up_to_last _ _ _ t.sent (ap length (ap (along (posted_in conf) []) are ∙ sym (requests_are conf taken)));
  moved = up_to_last _ _ _ t.moved (ap length (ap (along (moves_in conf) []) are ∙ sym (moves_are conf taken)));
  refused = up_to_last _ _ _ t.refused (ap length (ap (along (reasons_in conf) []) are ∙ sym (reasons_are conf taken)));
  quiet = up_to_last _ _ _ t.quiet refl;
  lost = up_to_last _ _ _ t.lost refl;
  turns = up_to_last _ _ _ t.turns (ap length (ap (flat_map ticks_in) are ∙ ticks_are taken));
}

-- the history of a run from its start
pub run_history : (deeds : List Deed) (ending : Ending) (taken : List Event) → all_done deeds ending ≡ map Take taken → history_after [] (all_done deeds ending) ≡ reverse taken
run_history deeds ending taken takes = taken_history [] deeds ending taken takes ∙ followed_none taken

pub record Lived (conf : Conf) (turns : ℕ) (stood : Stood) (before now : Seen) (given : Given) (taken : List Event) (ending : Ending) (need : Need) (end : LifeEnd) : Type 0 where
  pub weaves : Weaves conf (Start stood (Turns turns)) [] given.clock given.words given.link (taken ++ missing_in ending) need
  pub grows : Grows conf (reverse taken)
  pub last_call : EndsAtLast ending given.link
  pub link : Grew before.link now.link given.link
  pub requests : map posted_of (sends_among given.link) ≡ requests_of conf (reverse taken)
  pub clock : Grew before.clock now.clock given.clock
  pub moves : moves_among given.clock ≡ moves_of conf (reverse taken)
  pub order : InOrder conf [] given.clock given.link taken
  pub words : Added before.words now.words given.words
  pub fits : AllByRecursion EventFits taken
  pub capture : Added before.capture now.capture (flat_map event_bytes taken ++ cut_record ending)
  pub totals : Totals conf taken given.link end
  pub link_failed : FailsTimes (failed_calls given.link) before.link_faults now.link_faults

-- ---- Which event was not taken

-- the line of a Life is not whole
abbrev pub IsLifeLine : Ending → Type 0
IsLifeLine (NoLine (Take (Life now mark)) front) = ⊤
IsLifeLine _ = ⊥

at_disk : (need : Need) → NeedsDisk need → IsMissing need []
at_disk (Act outcome behind) needs = absurd needs
at_disk _ needs = refl

at_mark : (need : Need) → NeedsMark need → IsMissing need []
at_mark (Act outcome behind) needs = absurd needs
at_mark _ needs = refl

at_count : (need : Need) → NeedsCount need → IsMissing need []
at_count (Act outcome behind) needs = absurd needs
at_count _ needs = refl

at_reading : (need : Need) → NeedsReading need → IsMissing need []
at_reading (Act outcome behind) needs = absurd needs
at_reading _ needs = refl

at_word : (need : Need) → NeedsWord need → IsMissing need []
at_word (Act outcome behind) needs = absurd needs
at_word _ needs = refl

at_receipt : (need : Need) → NeedsReceipt need → IsMissing need []
at_receipt (Act outcome behind) needs = absurd needs
at_receipt _ needs = refl

at_calls : (need : Need) → IsInCalls need → IsMissing need []
at_calls (Act outcome behind) needs = absurd needs
at_calls _ needs = refl

at_between : (need : Need) → IsBetween need → IsMissing need []
at_between (Act outcome behind) needs = absurd needs
at_between _ needs = refl

at_over : (need : Need) → IsOver need → IsMissing need []
at_over (Act outcome behind) over = absurd over
at_over _ over = refl

at_deed : (event : Event) (need : Need) → IsToDo event need → IsMissing need (event ∷ [])
at_deed event (Act outcome behind) does = (event, refl)
at_deed event (Start stood next) does = absurd does
at_deed event (Turns left) does = absurd does
at_deed event (WordFor left now) does = absurd does
at_deed event (ReceiptNow left) does = absurd does
at_deed event (ReadingFor left from bytes) does = absurd does
at_deed event (Calls left) does = absurd does
at_deed event (CallWord call now left) does = absurd does
at_deed event (Round receipts left) does = absurd does
at_deed event (RoundReading receipts from bytes left) does = absurd does

missing_whole : (ending : Ending) (need : Need) → IsWhole ending → IsMissing need [] → IsMissing need (missing_in ending)
missing_whole Whole need whole is = is
missing_whole (NoRecord event front) need whole is = absurd whole
missing_whole (NoLine deed front) need whole is = absurd whole

stops_missing : (ending : Ending) (need : Need) → StopsAt ending need → IsMissing need (missing_in ending) ⊎ IsLifeLine ending
stops_missing Whole need stops = absurd stops
stops_missing (NoRecord event front) need stops = inl (at_deed event need stops)
stops_missing (NoLine (Take (Life now mark)) front) need stops = inr tt
stops_missing (NoLine (Take (Tick now word)) front) need stops = inl (at_receipt need stops)
stops_missing (NoLine (Take (Resync now word flags)) front) need stops = inl (at_calls need stops)
stops_missing (NoLine (Take (Arrive now from bytes)) front) need stops = inl (at_between need stops)
stops_missing (NoLine (Print line) front) need stops = inl (at_over need stops)

-- where a run ended, it is known which event is missing, but where it is of no account
pub known_missing : (why : Why) (ending : Ending) (need : Need) (a b : Faults) → LifeEndsBy why ending need a b → (why ≡ Done → IsOver need)
    → IsMissing need (missing_in ending) ⊎ IsLifeLine ending
known_missing Done ending need a b ends well = inl (missing_whole ending need ends.0 (at_over need (well refl)))
known_missing DiskFault ending need a b ends well = inl (missing_whole ending need ends.0 (at_disk need ends.1))
known_missing BadVersion ending need a b ends well = inl (missing_whole ending need ends.0 (at_mark need ends.1))
known_missing StampsSpent ending need a b ends well = inl (missing_whole ending need ends.0 (at_count need ends.1))
known_missing ClockFault ending need a b ends well = inl (missing_whole ending need ends.0 (at_reading need ends.1))
known_missing EntropyFault ending need a b ends well = inl (missing_whole ending need ends.0 (at_word need ends.1))
known_missing SinkFault ending need a b ends well = stops_missing ending need ends.0

-- a Life that comes last is the only event
life_alone : (mark : ℕ) (before taken : List Event) (now : ℤ) (m : ℕ) → taken ≡ before ++ Life now m ∷ [] → (taken ≡ []) ⊎ BeginsLife mark taken → (time : ℤ) × (taken ≡ Life time mark ∷ [])
life_alone mark [] taken now m is (inl nothing) = absurd (let no : [] ≡ Life now m ∷ [] = sym nothing ∙ is in let bad : ⊥ = cc in bad)
life_alone mark (x ∷ xs) taken now m is (inl nothing) = absurd (let no : [] ≡ x ∷ (xs ++ Life now m ∷ []) = sym nothing ∙ is in let bad : ⊥ = cc in bad)
life_alone mark [] taken now m is (inr begins) =
    let same : Life begins.now mark ∷ begins.later ≡ Life now m ∷ [] = sym begins.is ∙ is in
    let none_later : begins.later ≡ [] = cc in
    (begins.now, begins.is ∙ ap (λ (l : List Event). Life begins.now mark ∷ l) none_later)
life_alone mark (x ∷ xs) taken now m is (inr begins) =
    let same : Life begins.now mark ∷ begins.later ≡ x ∷ (xs ++ Life now m ∷ []) = sym begins.is ∙ is in
    let later : begins.later ≡ xs ++ Life now m ∷ [] = cc in
    let only : NoLife (xs ++ Life now m ∷ []) = subst NoLife later begins.only in
    let last : true ≡ false = (all_split _ xs (Life now m ∷ []) only).1.0 in
    absurd (let bad : ⊥ = cc in bad)

order_of : (conf : Conf) (turns : ℕ) (stood : Stood) (given : Given) (deeds : List Deed) (taken : List Event) (ending : Ending) (need : Need)
    → Weaves conf (Start stood (Turns turns)) [] given.clock given.words given.link (taken ++ missing_in ending) need → all_done deeds ending ≡ map Take taken
    → IsMissing need (missing_in ending) ⊎ IsLifeLine ending → InOrder conf [] given.clock given.link taken
order_of conf turns stood given deeds taken ending need weaves takes (inl is) = order_but taken (missing_in ending) weaves is
order_of conf turns stood given deeds taken (NoLine (Take (Life now mark)) front) need weaves takes (inr line) =
    let last = ends_taken deeds (Take (Life now mark)) taken takes in
    let one : Take (Life now mark) ≡ Take last.event = last.deed_is in
    let same : last.event ≡ Life now mark = cc in
    let is : taken ≡ last.before ++ Life now mark ∷ [] = last.is ∙ ap (λ (e : Event). last.before ++ e ∷ []) same in
    let only = life_alone stood.mark last.before taken now mark is (weave_shape stood (readings_among given.clock) given.words (receipts_among given.link) taken [] (is_weave weaves)) in
    subst (λ (es : List Event). InOrder conf [] given.clock given.link es) (sym only.1) (order_life weaves (append-nil taken ∙ only.1))
order_of conf turns stood given deeds taken (NoLine (Take (Tick now word)) front) need weaves takes (inr line) = absurd line
order_of conf turns stood given deeds taken (NoLine (Take (Resync now word flags)) front) need weaves takes (inr line) = absurd line
order_of conf turns stood given deeds taken (NoLine (Take (Arrive now from bytes)) front) need weaves takes (inr line) = absurd line
order_of conf turns stood given deeds taken (NoLine (Print text) front) need weaves takes (inr line) = absurd line
order_of conf turns stood given deeds taken (NoRecord event front) need weaves takes (inr line) = absurd line
order_of conf turns stood given deeds taken Whole need weaves takes (inr line) = absurd line

pub lived_of : (conf : Conf) (turns : ℕ) (stood : Stood) (before now : Seen) (kept kept' : ℕ) (new : LifeEnd) (why : Why)
    (r : Runs conf (Start stood (Turns turns)) (Turns 0) [] before now kept kept' (ended Done) new why)
    → Lived conf turns stood before now r.given r.taken r.ending r.need new
lived_of conf turns stood before now kept kept' new why r =
    let given = given_are r.deeds r.ending r.taken r.takes in
    let fit : AllByRecursion EventFits (r.taken ++ missing_in r.ending) = subst (AllByRecursion EventFits) given r.does.fit in
    let weaves = subst (λ (es : List Event). Weaves conf (Start stood (Turns turns)) [] r.given.clock r.given.words r.given.link es r.need) given r.weaves in
    record {
      weaves = weaves;
      grows = subst (λ (h : History). Grows conf h) (run_history r.deeds r.ending r.taken r.takes) r.grows;
      last_call = r.last_call;
      link = r.does.link;
      requests = r.does.requests ∙ ap (along (posted_in conf) []) r.takes ∙ sym (requests_are conf r.taken);
      clock = r.does.clock;
      moves = r.does.moves ∙ ap (along (moves_in conf) []) r.takes ∙ sym (moves_are conf r.taken);
      order = order_of conf turns stood r.given r.deeds r.taken r.ending r.need weaves r.takes (known_missing why r.ending r.need (faults_of before) (faults_of now) r.ends (λ is. subst IsOver (sym (r.well is)) tt));
      words = r.does.words;
      fits = (all_split EventFits r.taken (missing_in r.ending) fit).0;
      capture = subst (λ (bs : List ℕ). Added before.capture now.capture bs) (captured_is r.deeds r.ending r.taken r.takes) r.does.capture;
      totals = totals_are conf r.taken r.given.link (all_done r.deeds r.ending) new r.takes r.tallies;
      link_failed = r.does.link_failed;
    }

pub totals_with : (conf : Conf) (taken : List Event) (calls : List LinkCall) (why : Why) (end : LifeEnd) → Totals conf taken calls end
    → Totals conf taken calls (with_why why end)
totals_with conf taken calls why end t =
    record { sent = t.sent; moved = t.moved; refused = t.refused; quiet = t.quiet; lost = t.lost; turns = t.turns }

-- ---- The report

closing_none : (why : Why) (end : LifeEnd) → why ≢ Done → closing_by why end ≡ []
closing_none Done end not = absurd (not refl)
closing_none DiskFault end not = refl
closing_none BadVersion end not = refl
closing_none StampsSpent end not = refl
closing_none ClockFault end not = refl
closing_none EntropyFault end not = refl
closing_none SinkFault end not = refl

pub reports_of : (conf : Conf) (end : LifeEnd) (deeds : List Deed) (ending : Ending) (need : Need) (taken : List Event) → all_done deeds ending ≡ map Take taken → end.why ≢ Done
    → HasLine conf [] deeds ending → Reports conf (reverse taken) end ending need (printed conf [] deeds ending)
reports_of conf end deeds Whole need taken is not has =
    let report = report_of conf (reverse taken) in
    ap (along (line_in conf) []) is ∙ sym (lines_are conf taken) ∙ sym (append-nil report) ∙ ap (λ (ls : List (List ℕ)). report ++ joined ls) (sym (closing_none end.why end not))
reports_of conf end deeds (NoRecord event front) need taken is not has = ap (along (line_in conf) []) is ∙ sym (lines_are conf taken)
reports_of conf end deeds (NoLine (Take event) front) need taken is not has =
    let last = ends_taken deeds (Take event) taken is in
    let one : Take event ≡ Take last.event = last.deed_is in
    let same : last.event ≡ event = cc in
    let older : history_after [] deeds ≡ reverse last.before = ap (history_after []) last.deeds_are ∙ history_of [] last.before ∙ followed_none last.before in
    let lines : along (line_in conf) [] deeds ≡ report_of conf (reverse last.before) = ap (along (line_in conf) []) last.deeds_are ∙ sym (lines_are conf last.before) in (
      reverse last.before,
      ap reverse last.is ∙ reverse_last last.before last.event ∙ ap (λ (e : Event). e ∷ reverse last.before) same,
      subst (λ (h : History). 0 < length (line_of (outcome_at conf h event))) older has,
      ap (λ (l : List ℕ). l ++ take front (line_of (outcome_at conf (history_after [] deeds) event))) lines
          ∙ ap (λ (h : History). report_of conf (reverse last.before) ++ take front (line_of (outcome_at conf h event))) older,
    )
reports_of conf end deeds (NoLine (Print line) front) need taken is not has =
    let last = ends_taken deeds (Print line) taken is in
    absurd (let one : Print line ≡ Take last.event = last.deed_is in let bad : ⊥ = cc in bad)

-- ---- The disk

-- the requests of a run that began are those of its life
pub tries : (conf : Conf) (mark : ℕ) (taken : List Event) (calls : List LinkCall) → BeginsLife mark taken → map posted_of (sends_among calls) ≡ requests_of conf (reverse taken)
    → sends_in conf (reverse taken) ≡ length (sends_among calls)
tries conf mark taken calls begins requests = life_sends conf mark taken begins ∙ ap length (sym requests) ∙ length-map (sends_among calls) posted_of

pub kept_by : (conf : Conf) (why : Why) (stood : Stood) (taken : List Event) (entry exit : DiskTold) → BeginsLife stood.mark taken → DueBy why (told conf (reverse taken))
    → KeptBy why stood taken (told conf (reverse taken)) entry exit
kept_by conf Done stood taken entry exit begins due = tt
kept_by conf DiskFault stood taken entry exit begins due = inr due
kept_by conf BadVersion stood taken entry exit begins due = absurd due
kept_by conf StampsSpent stood taken entry exit begins due =
    let mark : unwrap_or (mark_in conf (reverse taken)) 0 ≡ stood.mark = rw (life_mark conf stood.mark taken begins) refl in
    let above = due.1 in (
      λ is. let no : [] ≡ Life begins.now stood.mark ∷ begins.later = sym is ∙ begins.is in let bad : ⊥ = cc in bad,
      due.0,
      omega (arith, mark, above),
    )
kept_by conf ClockFault stood taken entry exit begins due = tt
kept_by conf EntropyFault stood taken entry exit begins due = tt
kept_by conf SinkFault stood taken entry exit begins due = tt

pub marks_kept : (conf : Conf) (mark greatest : ℕ) (taken : List Event) (entry exit : DiskTold) → BeginsLife mark taken → Covers exit greatest
    → greatest ≡ greatest_count (told conf (reverse taken)) → KeepsMarks entry exit → MarksBeforeSends entry exit mark (told conf (reverse taken))
marks_kept conf mark greatest taken entry exit begins covers is least =
    let before = told conf (reverse taken) in
    record {
      above = life_above conf mark taken begins;
      covered = λ image left.
          all_weaken (λ r. r.count ≤ greatest_count before) (λ r. r.count ≤ mark_of_image image) (λ r low. omega (arith, low, is, covers.each image left)) (all_sent before) (counts_low before);
      least = least;
    }

-- the same of what a stop leaves
stops_kept : (conf : Conf) (greatest : ℕ) (taken : List Event) (entry exit : DiskTold) → greatest ≡ greatest_count (told conf (reverse taken))
    → StopCovers entry exit greatest → StopCoversSends entry exit (told conf (reverse taken))
stops_kept conf greatest taken entry exit is stops =
    let before = told conf (reverse taken) in
    record {
      each = λ room image left.
          let stop = stops.each room image left in
          (all_weaken (λ r. r.count ≤ greatest_count before) (λ r. r.count ≤ mark_of_image image) (λ r low. omega (arith, low, is, stop.0)) (all_sent before) (counts_low before), stop.1);
    }

pub some_as : {A : Type 0} (P Q : A → Type 0) (o : Option A) → ((x : A) → P x → Q x) → IfSome o P → IfSome o Q
some_as P Q None f h = tt
some_as P Q (Some x) f h = f x h

-- ---- What was given behind the Life

-- a sink fails in taking an event
none_ended : (deeds : List Deed) (ending : Ending) (taken : List Event) (before now : Faults) → all_done deeds ending ≡ map Take taken → SinkFailed ending before now
    → taken ++ missing_in ending ≡ [] → ⊥
none_ended deeds Whole taken before now takes failed nothing = failed
none_ended deeds (NoRecord event front) [] before now takes failed nothing = let no : event ∷ [] ≡ [] = nothing in let bad : ⊥ = cc in bad
none_ended deeds (NoRecord event front) (t ∷ ts) before now takes failed nothing = let no : t ∷ (ts ++ event ∷ []) ≡ [] = nothing in let bad : ⊥ = cc in bad
none_ended [] (NoLine deed front) [] before now takes failed nothing = let no : deed ∷ [] ≡ [] = takes in let bad : ⊥ = cc in bad
none_ended (d ∷ ds) (NoLine deed front) [] before now takes failed nothing = let no : d ∷ (ds ++ deed ∷ []) ≡ [] = takes in let bad : ⊥ = cc in bad
none_ended deeds (NoLine deed front) (t ∷ ts) before now takes failed nothing = let no : t ∷ (ts ++ []) ≡ [] = nothing in let bad : ⊥ = cc in bad

-- what stands alone is all that was taken
alone : (taken missing : List Event) (e : Event) → taken ++ missing ≡ e ∷ [] → (taken ≡ [] → ⊥) → (missing ≡ []) × (taken ≡ e ∷ [])
alone [] missing e is some = absurd (some refl)
alone (t ∷ []) missing e is some =
    let same : t ∷ missing ≡ e ∷ [] = is in
    let none : missing ≡ [] = cc in
    let first : t ≡ e = cc in
    (none, ap (λ (x : Event). x ∷ []) first)
alone (t ∷ u ∷ ts) missing e is some = absurd (let no : t ∷ u ∷ (ts ++ missing) ≡ e ∷ [] = is in let bad : ⊥ = cc in bad)

longer : (a b : Event) (history es : List Event) (e : Event) → followed_by (a ∷ b ∷ history) es ≡ e ∷ [] → ⊥
longer a b history [] e is = let no : a ∷ b ∷ history ≡ e ∷ [] = is in let bad : ⊥ = cc in bad
longer a b history (x ∷ xs) e is = longer x a (b ∷ history) xs e is

-- an event behind another is not alone
not_alone : (history es : List Event) (e : Event) → (history ≡ [] → ⊥) → (es ≡ [] → ⊥) → followed_by history es ≡ e ∷ [] → ⊥
not_alone [] es e some more is = some refl
not_alone (h ∷ hs) [] e some more is = more refl
not_alone (h ∷ hs) (x ∷ xs) e some more is = longer x h hs xs e is

-- ---- A run, from its start and its turns

-- the turns of a run, under its configuration and its mark
record TurnsUnder (conf : Conf) (kept turns : ℕ) (history : History) (old new : Running) (entry exit : DiskTold) (before now : Seen) (why : Why) : Type 0 where
  part : Part conf (Turns turns) (Turns 0) history before now (member_of new) kept (kept_of new) (totals_of old) (totals_of new) why
  disk : Reserved kept (told conf history)
      → CallsFor (told conf history) (told conf (history_after history (all_done part.runs.deeds part.runs.ending))) entry exit why
  blocks : Reserved kept (told conf history)
      → CallsForBlocks why part.runs.ending part.runs.need (life_at (told conf (history_after history (all_done part.runs.deeds part.runs.ending))))
      entry.time (exit.time + 5 * blocks_of (life_at (told conf history)))
  most : Reserved kept (told conf history)
      → LeavesOnly entry exit
      (StandsForBlocks why part.runs.ending part.runs.need (life_at (told conf (history_after history (all_done part.runs.deeds part.runs.ending))))
      (unwrap_or (mark_in conf (history_after history (all_done part.runs.deeds part.runs.ending))) 0))

turns_under : (conf : Conf) (kept turns : ℕ) (history : History) (old new : Running) (entry exit : DiskTold) (before now : Seen) (why : Why) → conf_of (member_of old) ≡ conf → kept_of old ≡ kept
    → TakesTurns turns history old new entry exit before now why → TurnsUnder conf kept turns history old new entry exit before now why
turns_under conf kept turns history old new entry exit before now why set mark t =
    let P : Conf → Type 0 = λ (c : Conf). TurnsUnder c (kept_of old) turns history old new entry exit before now why in
    let Q : ℕ → Type 0 = λ (k : ℕ). TurnsUnder conf k turns history old new entry exit before now why in
    subst Q mark (subst P set (record { part = t.part; disk = t.disk; blocks = t.blocks; most = t.most }))

pub has_mark : (running : Running) (conf : Conf) (history : History) → conf_of (member_of running) ≡ conf → StandsForHistory (member_of running) history → IsSome (words_of (member_of running)).mark
    → IsSome (mark_in conf history)
unfolding words
has_mark running conf history set stands marked =
    let P : Conf → Type 0 = λ (c : Conf). IsSome (mark_in c history) in
    subst P set (subst (λ (w : Words). IsSome w.mark) stands.keeps marked)

pub greatest_is : (running : Running) (conf : Conf) (history : History) → conf_of (member_of running) ≡ conf → StandsForHistory (member_of running) history
    → greatest_of running ≡ greatest_count (told conf history)
unfolding words
greatest_is running conf history set stands =
    let P : Conf → Type 0 = λ (c : Conf). greatest_of running ≡ greatest_count (told c history) in
    subst P set (ap (λ (w : Words). w.greatest) stands.keeps)

pub none_marked : (conf : Conf) → IsSome (mark_in conf []) → ⊥
unfolding told
none_marked conf is = let no : false ≡ true = is in let bad : ⊥ = cc in bad

-- fewer calls, from a later moment
pub blocks_within : (why : Why) (ending : Ending) (need : Need) (entries : List Told) (start start' end end' : ℕ) → start ≤ start' → end' ≤ end
    → CallsForBlocks why ending need entries start end → CallsForBlocks why ending need entries start' end'
blocks_within why ending need entries start start' end end' later fewer (inl few) = inl (omega (arith, later, fewer, few))
blocks_within why ending need entries start start' end end' later fewer (inr (another, few)) = inr (another, omega (arith, later, fewer, few))

-- a run whose turns were all taken reserved no more
blocks_whole : (why : Why) (ending : Ending) (need : Need) (entries : List Told) (start end : ℕ) → ending ≡ Whole → need ≡ Turns 0
    → CallsForBlocks why ending need entries start end → end ≤ start + 5 * blocks_of entries
blocks_whole why ending need entries start end whole all (inl few) = few
blocks_whole why ending need entries start end whole all (inr (another, few)) =
    let none_left : IsBeforeRequest Whole (Turns 0) = rw (whole, all) at another.1 in
    absurd (omega (arith, none_left))

-- nor does an image of it stand for more
stands_whole : (why : Why) (ending : Ending) (need : Need) (entries : List Told) (mark : ℕ) (image : List ℕ) → ending ≡ Whole → need ≡ Turns 0
    → StandsForBlocks why ending need entries mark image → mark_of_image image ≤ mark + 64 * blocks_of entries
stands_whole why ending need entries mark image whole all (inl low) = low
stands_whole why ending need entries mark image whole all (inr (another, low)) =
    let none_left : IsBeforeRequest Whole (Turns 0) = rw (whole, all) at another.1 in
    absurd (omega (arith, none_left))

pub record Parted (conf : Conf) (turns : ℕ) (stood : Stood) (new : Running) (entry exit : DiskTold) (before now : Seen) (why : Why) : Type 0 where
  pub runs : Runs conf (Start stood (Turns turns)) (Turns 0) [] before now stood.mark (kept_of new) (ended Done) (totals_of new) why
  pub begins : BeginsLife stood.mark runs.taken
  pub due : DueBy why (told conf (reverse runs.taken))
  pub within : unwrap_or (mark_in conf (reverse runs.taken)) 0 + 64 * blocks_of (life_at (told conf (reverse runs.taken))) < 2 ^ 32
  pub calls : exit.time ≤ entry.time + 5 * (1 + sends_in conf (reverse runs.taken) / 64)
  pub blocks : CallsForBlocks why runs.ending runs.need (life_at (told conf (reverse runs.taken))) entry.time exit.time
  pub most : LeavesOnly entry exit
      (StandsForBlocks why runs.ending runs.need (life_at (told conf (reverse runs.taken))) (unwrap_or (mark_in conf (reverse runs.taken)) 0))
  pub reserved : why ≡ Done → Reserved (kept_of new) (told conf (reverse runs.taken))
  pub greatest : greatest_of new ≡ greatest_count (told conf (reverse runs.taken))
  -- the sink that failed is none of the Life
  pub behind : why ≡ SinkFault → (now : ℤ) → runs.taken ++ missing_in runs.ending ≡ Life now stood.mark ∷ [] → ⊥

pub parted_of : (conf : Conf) (turns : ℕ) (entry mid exit : DiskTold) (before between now : Seen) (old new : Running) (why : Why) (begun : HasBegun conf (Turns turns) entry before between old) → IsGoing mid old
    → ((history : History) → StandsForHistory (member_of old) history → TakesTurns turns history old new mid exit between now why)
    → Parted conf turns begun.stood new mid exit before now why
parted_of conf turns entry mid exit before between now old new why begun going took =
    let stood = begun.stood in
    let one = begun.part in
    let older = history_after [] (all_done one.runs.deeds one.runs.ending) in
    let two = turns_under conf stood.mark turns older old new mid exit between now why one.is_set begun.kept (took older one.stands) in
    let both = runs_then conf (Start stood (Turns turns)) (Turns turns) (Turns 0) [] before between now stood.mark stood.mark (kept_of new) (ended Done) (totals_of old) (totals_of new) why one.runs two.part.runs in
    let all = both.0 in
    let newer = history_after older (all_done two.part.runs.deeds two.part.runs.ending) in
    let same : newer ≡ reverse all.taken = sym both.1 ∙ run_history all.deeds all.ending all.taken all.takes in
    let reserved : Reserved stood.mark (told conf older) = subst (λ (k : ℕ). Reserved k (told conf older)) begun.kept begun.reserved in
    let disk = two.disk reserved in
    let lived = lived_of conf turns stood before now stood.mark (kept_of new) (totals_of new) why all in
    let r = two.part.runs in
    let later : NoLife r.taken = later_taken conf turns older r.given.clock r.given.words r.given.link r.deeds r.ending r.need r.taken r.takes r.weaves in
    let stays : mark_in conf newer ≡ mark_in conf older = ap (mark_in conf) (taken_history older r.deeds r.ending r.taken r.takes) ∙ mark_stays conf older r.taken later in
    let marked : IsSome (mark_in conf older) = has_mark old conf older one.is_set one.stands going.begun.begun in
    let Marked : History → Type 0 = λ (h : History). IsSome (mark_in conf h) in
    let last : IsSome (mark_in conf (reverse all.taken)) = subst Marked same (subst (λ (o : Option ℕ). IsSome o) (sym stays) marked) in
    record {
      runs = all;
      begins = begins_by (weave_shape stood (readings_among all.given.clock) all.given.words (receipts_among all.given.link) all.taken (missing_in all.ending) (is_weave lived.weaves)) (λ empty. none_marked conf (subst Marked (ap reverse empty) last));
      due = subst (λ (h : History). DueBy why (told conf h)) same disk.due;
      within =
          let P : History → Type 0 = λ (h : History). unwrap_or (mark_in conf h) 0 + 64 * blocks_of (life_at (told conf h)) < 2 ^ 32 in
          subst P same disk.within;
      most =
          let Fit : History → Type 0 = λ (h : History). LeavesOnly mid exit (StandsForBlocks why all.ending all.need (life_at (told conf h)) (unwrap_or (mark_in conf h) 0)) in
          subst Fit same (rw (both.2, both.3) (two.most reserved));
      calls =
          let P : History → Type 0 = λ (h : History). exit.time ≤ mid.time + 5 * (1 + sends_in conf h / 64) in
          subst P same (let few : P newer = omega (arith, disk.calls) in few);
      blocks =
          let Fit : History → Type 0 = λ (h : History). CallsForBlocks why all.ending all.need (life_at (told conf h)) mid.time exit.time in
          subst Fit same (rw (both.2, both.3) (blocks_within why r.ending r.need (life_at (told conf newer)) mid.time mid.time _ exit.time (omega arith) (omega arith) (two.blocks reserved)));
      reserved = λ is. subst (λ (h : History). Reserved (kept_of new) (told conf h)) same (two.part.runs.reserved is reserved);
      greatest = greatest_is new conf newer two.part.is_set two.part.stands ∙ ap (λ (h : History). greatest_count (told conf h)) same;
      behind = λ is time only.
          let failed = (subst (λ (w : Why). LifeEndsBy w r.ending r.need (faults_of between) (faults_of now)) is r.ends).1 in
          let pieces = alone all.taken (missing_in all.ending) (Life time stood.mark) only (λ empty. none_marked conf (subst Marked (ap reverse empty) last)) in
          let missing : missing_in r.ending ≡ [] = ap missing_in (sym both.2) ∙ pieces.0 in
          let history : followed_by older r.taken ≡ Life time stood.mark ∷ [] = sym (taken_history older r.deeds r.ending r.taken r.takes) ∙ same ∙ ap reverse pieces.1 in
          not_alone older r.taken (Life time stood.mark) (λ empty. none_marked conf (subst Marked empty marked))
          (λ empty. none_ended r.deeds r.ending r.taken (faults_of between) (faults_of now) r.takes failed (ap (λ (l : List Event). l ++ missing_in r.ending) empty ∙ missing)) history;
    }
  where
    begins_by : {mark : ℕ} {taken : List Event} → (taken ≡ []) ⊎ BeginsLife mark taken → (taken ≡ [] → ⊥) → BeginsLife mark taken
    begins_by (inl empty) never = absurd (never empty)
    begins_by (inr begins) never = begins

-- ---- All that is said of a run

pub lives_made : (conf : Conf) (turns : ℕ) (entry exit : DiskTold) (before now : Seen) (stood : Stood) (given : Given) (taken : List Event) (ending : Ending) (need : Need) (end : LifeEnd) (text : List ℕ)
    → IfSome entry.content (λ c. stood.mark ≡ mark_of_image c)
    → Lived conf turns stood before now given taken ending need end
    → Reports conf (reverse taken) end ending need text → Added before.written now.written text
    → LifeEndsBy end.why ending need (faults_of before) (faults_of now) → (end.why ≡ Done → need ≡ Turns 0)
    → (end.why ≡ SinkFault → (now : ℤ) → taken ++ missing_in ending ≡ Life now stood.mark ∷ [] → behind_act need ≡ Turns turns)
    → KeptBy end.why stood taken (told conf (reverse taken)) entry exit
    → ((taken ≢ []) ⊎ ((end.why ≢ BadVersion) × (end.why ≢ DiskFault)) → IfSome entry.content IsLoadable)
    → KeepsLoadable entry exit
    → MarksBeforeSends entry exit stood.mark (told conf (reverse taken))
    → (end.why ≡ DiskFault → StopCoversSends entry exit (told conf (reverse taken)))
    → (taken ≢ [] → stood.mark + 64 * blocks_of (life_at (told conf (reverse taken))) < 2 ^ 32)
    → exit.time ≤ entry.time + 4 + 5 * (1 + length (sends_among given.link) / 64)
    → CallsForBlocks end.why ending need (life_at (told conf (reverse taken))) (entry.time + 4) exit.time
    → LeavesOnly entry exit (λ image. StandsAsBefore entry image ⊎ StandsForBlocks end.why ending need (life_at (told conf (reverse taken))) stood.mark image)
    → LeavesOnly entry exit (KeepsUnused entry)
    → ((taken ≢ []) ⊎ ((end.why ≢ BadVersion) × (end.why ≢ DiskFault)) → (image : List ℕ) → exit.may_leave image
    → IsLoadable image × StandsForBlocks end.why ending need (life_at (told conf (reverse taken))) stood.mark image)
    → (end.why ≡ Done → IfSome exit.content (λ c. mark_of_image c ≡ stood.mark + 64 * blocks_of (life_at (told conf (reverse taken)))))
    → Lives conf turns entry exit before now end
lives_made conf turns entry exit before now stood given taken ending need end text stood_for lived reports out ends well life_last kept loadable loads marks stopped within calls blocks most unused loaded reserved = record {
  stood = stood;
  stood_for = stood_for;
  woven = record {
    given = given;
    events = taken;
    ending = ending;
    need = need;
    woven = is_weave lived.weaves;
    weaves = lived.weaves;
    grows = lived.grows;
    last_call = lived.last_call;
  };
  effects = record {
    link = lived.link;
    requests = lived.requests;
    clock = lived.clock;
    moves = lived.moves;
    rest = lived.order.rest;
    one = lived.order.one;
    at_once = lived.order.at_once;
    once = moves_once conf (reverse taken) lived.grows;
    words = lived.words;
    record_bytes = flat_map event_bytes taken;
    spells = record { fits = lived.fits; written = refl };
    capture = lived.capture;
  };
  turned = record {
    by_turn = lived.order.by_turn;
    asked = lived.order.asked;
    in_turn = lived.order.in_turn;
    text = text;
    reports = reports;
    out = out;
  };
  ended = record {
    ends = ends;
    link_failed = lived.link_failed;
    well = well;
    life_last = life_last;
    totals = lived.totals;
  };
  kept = record {
    kept = kept;
    loadable = loadable;
    loads = loads;
    marks = marks;
    stopped = stopped;
    within = within;
    calls = calls;
    blocks = blocks;
    most = most;
    unused = unused;
    loaded = loaded;
    reserved = reserved;
  };
}

lived_with : (conf : Conf) (turns : ℕ) (stood : Stood) (before now : Seen) (given : Given) (taken : List Event) (ending : Ending) (need : Need) (why : Why) (end : LifeEnd)
    → Lived conf turns stood before now given taken ending need end → Lived conf turns stood before now given taken ending need (with_why why end)
lived_with conf turns stood before now given taken ending need why end lived = record {
  weaves = lived.weaves;
  grows = lived.grows;
  last_call = lived.last_call;
  link = lived.link;
  requests = lived.requests;
  clock = lived.clock;
  moves = lived.moves;
  order = lived.order;
  words = lived.words;
  fits = lived.fits;
  capture = lived.capture;
  totals = totals_with conf taken given.link why end lived.totals;
  link_failed = lived.link_failed;
}

-- the counts reserved above the mark of the Life are numbers of 32 bits
within_of : (conf : Conf) (turns : ℕ) (stood : Stood) (entry exit : DiskTold) (before now : Seen) (new : Running) (why : Why) (p : Parted conf turns stood new entry exit before now why)
    → stood.mark + 64 * blocks_of (life_at (told conf (reverse p.runs.taken))) < 2 ^ 32
within_of conf turns stood entry exit before now new why p =
    let mark : unwrap_or (mark_in conf (reverse p.runs.taken)) 0 ≡ stood.mark = rw (life_mark conf stood.mark p.runs.taken p.begins) refl in
    let within = p.within in
    omega (arith, within, mark)

-- what was called of the disk before the Life, and for the blocks behind it
disk_calls : (conf : Conf) (turns : ℕ) (stood : Stood) (entry mid exit : DiskTold) (before now : Seen) (new : Running) (why : Why) (calls : List LinkCall) (p : Parted conf turns stood new mid exit before now why)
    → map posted_of (sends_among calls) ≡ requests_of conf (reverse p.runs.taken) → mid.time ≤ entry.time + 4 → exit.time ≤ entry.time + 4 + 5 * (1 + length (sends_among calls) / 64)
disk_calls conf turns stood entry mid exit before now new why calls p requests start =
    omega (arith, p.calls, start, tries conf stood.mark p.runs.taken calls p.begins requests)

-- no image of the turns stands for more than the end of a block that was begun above the mark of the Life
most_of : (conf : Conf) (turns : ℕ) (stood : Stood) (mid exit : DiskTold) (before now : Seen) (new : Running) (why : Why) (p : Parted conf turns stood new mid exit before now why)
    → LeavesOnly mid exit (StandsForBlocks why p.runs.ending p.runs.need (life_at (told conf (reverse p.runs.taken))) stood.mark)
most_of conf turns stood mid exit before now new why p =
    let mark : unwrap_or (mark_in conf (reverse p.runs.taken)) 0 ≡ stood.mark = rw (life_mark conf stood.mark p.runs.taken p.begins) refl in
    let P : ℕ → Type 0 = λ (n : ℕ). LeavesOnly mid exit (StandsForBlocks why p.runs.ending p.runs.need (life_at (told conf (reverse p.runs.taken))) n) in
    subst P mark p.most

-- those of the load stand for marks at entry
pub most_with : {P : List ℕ → Type 0} (entry mid exit : DiskTold) → LeavesOnly entry mid (StandsAsBefore entry) → LeavesOnly mid exit P
    → LeavesOnly entry exit (λ image. StandsAsBefore entry image ⊎ P image)
most_with entry mid exit first next = and_then first next (λ image stands. inl stands) (λ image low. inr low)

-- it can be loaded, as each image between the turns can
pub loads_of : (mid exit : DiskTold) (running : Running) → IsGoing mid running → KeepsLoadable mid exit → (image : List ℕ) → exit.may_leave image → IsLoadable image
loads_of mid exit running going keeps image left = λ other.
    let was = (keeps.each image left).from other in
    going.fits.loads was.0 was.1 was.2

-- what the start and the turns of a run did to its disk
pub record OnDisk (entry mid exit : DiskTold) : Type 0 where
  pub loads : IfSome entry.content IsLoadable
  pub start : mid.time ≤ entry.time + 4
  pub first : KeepsMarks entry mid
  pub next : KeepsMarks mid exit
  pub loads_first : KeepsLoadable entry mid
  pub loads_next : KeepsLoadable mid exit
  pub stands : LeavesOnly entry mid (StandsAsBefore entry)
  pub unused_first : LeavesOnly entry mid (KeepsUnused entry)
  pub unused_next : LeavesOnly mid exit (KeepsUnused mid)
  pub is_mid : IsDisk mid
  pub is_exit : IsDisk exit

-- a run that a turn ended
pub lives_stopped : (conf : Conf) (turns : ℕ) (entry mid exit : DiskTold) (before between now : Seen) (old new : Running) (why : Why) → why ≢ Done
    → HasBegun conf (Turns turns) entry before between old → IsGoing mid old
    → ((history : History) → StandsForHistory (member_of old) history → TakesTurns turns history old new mid exit between now why)
    → OnDisk entry mid exit → Covers exit (greatest_of new) → (why ≡ DiskFault → StopCovers mid exit (greatest_of new))
    → Lives conf turns entry exit before now (with_why why (totals_of new))
lives_stopped conf turns entry mid exit before between now old new why not begun going took disk covers stops =
    let stood = begun.stood in
    let p = parted_of conf turns entry mid exit before between now old new why begun going took in
    let r = p.runs in
    let lived = lived_of conf turns stood before now stood.mark (kept_of new) (totals_of new) why r in
    let end = with_why why (totals_of new) in
    let most = most_of conf turns stood mid exit before now new why p in
    lives_made conf turns entry exit before now stood r.given r.taken r.ending r.need end (printed conf [] r.deeds r.ending) begun.stood_for
    (lived_with conf turns stood before now r.given r.taken r.ending r.need why (totals_of new) lived)
    (reports_of conf end r.deeds r.ending r.need r.taken r.takes not r.does.has_line) r.does.out r.ends r.well (λ is now only. absurd (p.behind is now only))
    (kept_by conf why stood r.taken entry exit p.begins p.due) (λ any. disk.loads) (loads_then disk.loads_first disk.loads_next)
    (marks_kept conf stood.mark (greatest_of new) r.taken entry exit p.begins covers p.greatest (marks_then disk.first disk.next))
    (λ is. stops_kept conf (greatest_of new) r.taken entry exit p.greatest (stops_then (greatest_of new) disk.first (stops is)))
    (λ some. within_of conf turns stood mid exit before now new why p)
    (disk_calls conf turns stood entry mid exit before now new why r.given.link p lived.requests disk.start)
    (blocks_within why r.ending r.need (life_at (told conf (reverse r.taken))) mid.time (entry.time + 4) exit.time exit.time disk.start (omega arith) p.blocks)
    (most_with entry mid exit disk.stands most) (unused_then disk.is_mid disk.unused_first disk.unused_next)
    (λ any image left. (loads_of mid exit old going disk.loads_next image left, left_now mid exit _ disk.is_exit most image left)) (λ is. absurd (not is))

-- ---- The closing lines

whole_is : (ending : Ending) → IsWhole ending → ending ≡ Whole
whole_is Whole whole = refl
whole_is (NoRecord event front) whole = absurd whole
whole_is (NoLine deed front) whole = absurd whole

-- the report of a run whose turns were all taken
report_whole : (conf : Conf) (deeds : List Deed) (taken : List Event) → deeds ≡ map Take taken → printed conf [] deeds Whole ≡ report_of conf (reverse taken)
report_whole conf deeds taken is = ap (along (line_in conf) []) is ∙ sym (lines_are conf taken)

-- the same where nothing but the report changed
lived_as : (others : Seen) (conf : Conf) (turns : ℕ) (stood : Stood) (before : Seen) (link : Option (List LinkCall)) (clock : Option (List ClockCall)) (words capture out out' : Option (List ℕ)) (link_faults : ℕ) (fs fs' : Faults) (given : Given) (taken : List Event) (ending : Ending) (need : Need) (why : Why) (end : LifeEnd)
    → missing_in ending ≡ [] → cut_record ending ≡ [] → EndsAtLast ending given.link
    → Lived conf turns stood before (living others link clock words capture out link_faults fs) given taken Whole need end
    → Lived conf turns stood before (living others link clock words capture out' link_faults fs') given taken ending need (with_why why end)
lived_as others conf turns stood before link clock words capture out out' link_faults fs fs' given taken ending need why end missing cut last lived = record {
  weaves = rw missing lived.weaves;
  grows = lived.grows;
  last_call = last;
  link = lived.link;
  requests = lived.requests;
  clock = lived.clock;
  moves = lived.moves;
  order = lived.order;
  words = lived.words;
  fits = lived.fits;
  capture = rw cut lived.capture;
  totals = totals_with conf taken given.link why end lived.totals;
  link_failed = lived.link_failed;
}

-- where all turns were taken and nothing but the Life, there was none
life_only : {conf : Conf} {turns : ℕ} {stood : Stood} {history : History} {cs : List ClockCall} {ws : List ℕ} {ls : List LinkCall} {es : List Event} {need : Need} {time : ℤ}
    → Weaves conf (Start stood (Turns turns)) history cs ws ls es need → es ≡ Life time stood.mark ∷ [] → need ≡ Turns 0 → behind_act need ≡ Turns turns
life_only none only is = absurd (let bad : ⊥ = cc in bad)
life_only (life none) only is = absurd (let bad : ⊥ = cc is in bad)
life_only (life (acts tried are none)) only is = refl
life_only (life (acts tried are (reads none))) only is = absurd (let bad : ⊥ = cc in bad)
life_only (life (acts tried are (reads (draws rest)))) only is = absurd (let bad : ⊥ = cc in bad)

-- what stands for the blocks that were reserved stands for those that were begun
within_blocks : (why : Why) (ending : Ending) (need : Need) (entries : List Told) (mark : ℕ) (entry exit : DiskTold)
    → LeavesOnly entry exit (λ image. StandsAsBefore entry image ⊎ (mark_of_image image ≤ mark + 64 * blocks_of entries))
    → LeavesOnly entry exit (λ image. StandsAsBefore entry image ⊎ StandsForBlocks why ending need entries mark image)
within_blocks why ending need entries mark entry exit most = weaker most (λ image stands. ⊎_elim (λ was. inl was) (λ low. inr (inl low)) stands)

module _ (others : Seen) (conf : Conf) (turns : ℕ) (entry exit : DiskTold) (before : Seen) (stood : Stood) (given : Given) (taken : List Event) (need : Need) (end : LifeEnd) (printed_text : List ℕ)
    (link : Option (List LinkCall)) (clock : Option (List ClockCall)) (words capture out out' : Option (List ℕ)) (link_faults cf ef df kf of of' : ℕ)
    (stood_for : IfSome entry.content (λ c. stood.mark ≡ mark_of_image c))
    (lived : Lived conf turns stood before (living others link clock words capture out link_faults (faults cf ef df kf of)) given taken Whole need end)
    (is_report : printed_text ≡ report_of conf (reverse taken)) (wrote : Added before.written out printed_text)
    (same : faults cf ef df kf of ≡ (faults_of before)) (well : need ≡ Turns 0) (loads : IfSome entry.content IsLoadable) (still : KeepsLoadable entry exit)
    (marks : MarksBeforeSends entry exit stood.mark (told conf (reverse taken)))
    (within : stood.mark + 64 * blocks_of (life_at (told conf (reverse taken))) < 2 ^ 32)
    (calls : exit.time ≤ entry.time + 4 + 5 * (1 + length (sends_among given.link) / 64))
    (blocks : exit.time ≤ entry.time + 4 + 5 * blocks_of (life_at (told conf (reverse taken))))
    (most : LeavesOnly entry exit (λ image. StandsAsBefore entry image ⊎ (mark_of_image image ≤ stood.mark + 64 * blocks_of (life_at (told conf (reverse taken))))))
    (unused : LeavesOnly entry exit (KeepsUnused entry))
    (low : (image : List ℕ) → exit.may_leave image → mark_of_image image ≤ stood.mark + 64 * blocks_of (life_at (told conf (reverse taken))))
    (loaded : (image : List ℕ) → exit.may_leave image → IsLoadable image)
    (reserved : IfSome exit.content (λ c. mark_of_image c ≡ stood.mark + 64 * blocks_of (life_at (told conf (reverse taken))))) where
  closes : (why : Why) → Closes end why out out' of of'
      → Lives conf turns entry exit before (living others link clock words capture out' link_faults (faults cf ef df kf of')) (with_why why end)
  closes Done (added, none_failed) =
      let text = printed_text ++ joined (closing_lines end) in
      lives_made conf turns entry exit before (living others link clock words capture out' link_faults (faults cf ef df kf of')) stood given taken Whole need (with_why Done end) text stood_for
      (lived_as others conf turns stood before link clock words capture out out' link_faults (faults cf ef df kf of) (faults cf ef df kf of') given taken Whole need Done end refl refl tt lived)
      (ap (λ (l : List ℕ). l ++ joined (closing_lines end)) is_report)
      (added_more before.written out out' printed_text (joined (closing_lines end)) wrote added)
      (tt, ap (λ (n : ℕ). faults cf ef df kf n) none_failed ∙ same)
      (λ is. well) (λ is now only. absurd (let bad : ⊥ = cc is in bad)) tt (λ any. loads) still marks (λ is. absurd (let bad : ⊥ = cc is in bad)) (λ some. within) calls (inl blocks) (within_blocks Done Whole need (life_at (told conf (reverse taken))) stood.mark entry exit most) unused (λ any image left. (loaded image left, inl (low image left))) (λ is. reserved)
  closes SinkFault (first, rest, line, front, are, added, fails) =
      let cut = joined first ++ take front line in
      let text = printed_text ++ cut in
      let ending = NoLine (Print line) front in
      let Failed : Faults → Type 0 = λ (f : Faults). Fails f.out of' × (faults cf ef df kf of' ≡ record f { out = of' }) in
      lives_made conf turns entry exit before (living others link clock words capture out' link_faults (faults cf ef df kf of')) stood given taken ending need (with_why SinkFault end) text stood_for
      (lived_as others conf turns stood before link clock words capture out out' link_faults (faults cf ef df kf of) (faults cf ef df kf of') given taken ending need SinkFault end refl refl tt lived)
      (first, rest, well, are, ap (λ (l : List ℕ). l ++ cut) is_report ∙ sym (append_assoc (report_of conf (reverse taken)) (joined first) (take front line)))
      (added_more before.written out out' printed_text cut wrote added)
      (subst IsOver (sym well) tt, subst Failed same (fails, refl))
      (λ is. well) (λ is now only. life_only lived.weaves (ap (λ (l : List Event). taken ++ l) refl ∙ only) well) tt (λ any. loads) still marks (λ is. absurd (let bad : ⊥ = cc is in bad)) (λ some. within) calls (inl blocks) (within_blocks SinkFault ending need (life_at (told conf (reverse taken))) stood.mark entry exit most) unused (λ any image left. (loaded image left, inl (low image left))) (λ is. reserved)
  closes DiskFault never = absurd never
  closes BadVersion never = absurd never
  closes StampsSpent never = absurd never
  closes ClockFault never = absurd never
  closes EntropyFault never = absurd never

-- the mark at the end of a run whose turns were all taken
reserved_at : (conf : Conf) (turns : ℕ) (stood : Stood) (entry exit : DiskTold) (before now : Seen) (new : Running) (p : Parted conf turns stood new entry exit before now Done) → IsGoing exit new
    → IfSome exit.content (λ c. mark_of_image c ≡ stood.mark + 64 * blocks_of (life_at (told conf (reverse p.runs.taken))))
reserved_at conf turns stood entry exit before now new p going =
    let blocks = (p.reserved refl).blocks in
    let mark : unwrap_or (mark_in conf (reverse p.runs.taken)) 0 ≡ stood.mark = rw (life_mark conf stood.mark p.runs.taken p.begins) refl in
    some_as _ _ exit.content (λ c is. omega (arith, is, blocks, mark)) going.fits.content

pub lives_closed : (others : Seen) (conf : Conf) (turns : ℕ) (entry mid exit : DiskTold) (before between : Seen) (link : Option (List LinkCall)) (clock : Option (List ClockCall)) (words capture out out' : Option (List ℕ)) (link_faults cf ef df kf of of' : ℕ) (old new : Running) (why : Why)
    → HasBegun conf (Turns turns) entry before between old → IsGoing mid old
    → ((history : History) → StandsForHistory (member_of old) history → TakesTurns turns history old new mid exit between (living others link clock words capture out link_faults (faults cf ef df kf of)) Done)
    → OnDisk entry mid exit → Covers exit (greatest_of new) → IsGoing exit new
    → Closes (totals_of new) why out out' of of'
    → Lives conf turns entry exit before (living others link clock words capture out' link_faults (faults cf ef df kf of')) (with_why why (totals_of new))
lives_closed others conf turns entry mid exit before between link clock words capture out out' link_faults cf ef df kf of of' old new why begun going took disk covers goes closing =
    let stood = begun.stood in
    let taken : Seen = living others link clock words capture out link_faults (faults cf ef df kf of) in
    let p = parted_of conf turns entry mid exit before between taken old new Done begun going took in
    let r = p.runs in
    let whole = whole_is r.ending r.ends.0 in
    let lived = lived_of conf turns stood before taken stood.mark (kept_of new) (totals_of new) Done r in
    let takes = rw whole at r.takes in
    let entries = life_at (told conf (reverse r.taken)) in
    let most = weaker (most_of conf turns stood mid exit before taken new Done p) (λ image stands. stands_whole Done r.ending r.need entries stood.mark image whole (r.well refl) stands) in
    closes others conf turns entry exit before stood r.given r.taken r.need (totals_of new) (printed conf [] r.deeds Whole)
    link clock words capture out out' link_faults cf ef df kf of of' begun.stood_for (rw whole at lived) (report_whole conf r.deeds r.taken takes) (rw whole at r.does.out)
    r.ends.1 (r.well refl) disk.loads (loads_then disk.loads_first disk.loads_next) (marks_kept conf stood.mark (greatest_of new) r.taken entry exit p.begins covers p.greatest (marks_then disk.first disk.next))
    (within_of conf turns stood mid exit before taken new Done p)
    (disk_calls conf turns stood entry mid exit before taken new Done r.given.link p lived.requests disk.start)
    (let start = disk.start in let few = blocks_whole Done r.ending r.need (life_at (told conf (reverse r.taken))) mid.time exit.time whole (r.well refl) p.blocks in omega (arith, few, start))
    (most_with entry mid exit disk.stands most) (unused_then disk.is_mid disk.unused_first disk.unused_next) (left_now mid exit _ disk.is_exit most)
    (loads_of mid exit old going disk.loads_next) (reserved_at conf turns stood mid exit before taken new p goes) why closing

-- ---- A run that ended in its first part

-- what is needed where a run would take so many turns, for what is needed where it would take none
abbrev start_need : ℕ → Need → Need
start_need turns (Start stood next) = Start stood (Turns turns)
start_need turns (Turns left) = Turns left
start_need turns (WordFor left now) = WordFor left now
start_need turns (ReceiptNow left) = ReceiptNow left
start_need turns (ReadingFor left from bytes) = ReadingFor left from bytes
start_need turns (Calls []) = Turns turns
start_need turns (Calls (call ∷ left)) = Calls (call ∷ left)
start_need turns (CallWord call now left) = CallWord call now left
start_need turns (Round receipts left) = Round receipts left
start_need turns (RoundReading receipts from bytes left) = RoundReading receipts from bytes left
start_need turns (Act outcome behind) = Act outcome (start_need turns behind)

start_weaves : {conf : Conf} {turns : ℕ} {stood : Stood} {history : History} {cs : List ClockCall} {ws : List ℕ} {ls : List LinkCall} {es : List Event} {need : Need}
    → Weaves conf (Start stood (Calls [])) history cs ws ls es need → Weaves conf (Start stood (Turns turns)) history cs ws ls es (start_need turns need)
start_weaves none = none
start_weaves (life none) = life none
start_weaves (life (acts tried are none)) = life (acts tried are none)

-- the events are none, or the Life alone
abbrev pub AtStart : ℕ → List Event → Type 0
AtStart mark es = (es ≡ []) ⊎ ((now : ℤ) × (es ≡ Life now mark ∷ []))

pub at_start : {conf : Conf} {stood : Stood} {history : History} {cs : List ClockCall} {ws : List ℕ} {ls : List LinkCall} {es : List Event} {need : Need}
    → Weaves conf (Start stood (Calls [])) history cs ws ls es need → AtStart stood.mark es
at_start none = inl refl
at_start (life {now = now} none) = inr (now, refl)
at_start (life {now = now} (acts tried are none)) = inr (now, refl)

-- before the Life
pub start_none : {conf : Conf} {stood : Stood} {history : History} {cs : List ClockCall} {ws : List ℕ} {ls : List LinkCall} {es : List Event} {need : Need}
    → Weaves conf (Start stood (Calls [])) history cs ws ls es need → (behind_act need ≡ Calls []) ⊎ (es ≡ [])
start_none none = inr refl
start_none (life none) = inl refl
start_none (life (acts tried are none)) = inl refl

start_disk : (turns : ℕ) (need : Need) → NeedsDisk need → NeedsDisk (start_need turns need)
start_disk turns (Start stood next) needs = tt
start_disk turns (Turns left) needs = needs
start_disk turns (WordFor left now) needs = absurd needs
start_disk turns (ReceiptNow left) needs = absurd needs
start_disk turns (ReadingFor left from bytes) needs = absurd needs
start_disk turns (Calls []) needs = absurd needs
start_disk turns (Calls (call ∷ rest)) needs = tt
start_disk turns (CallWord call now left) needs = absurd needs
start_disk turns (Round receipts left) needs = absurd needs
start_disk turns (RoundReading receipts from bytes left) needs = absurd needs
start_disk turns (Act outcome behind) needs = absurd needs

start_mark : (turns : ℕ) (need : Need) → NeedsMark need → NeedsMark (start_need turns need)
start_mark turns (Start stood next) needs = tt
start_mark turns (Turns left) needs = absurd needs
start_mark turns (WordFor left now) needs = absurd needs
start_mark turns (ReceiptNow left) needs = absurd needs
start_mark turns (ReadingFor left from bytes) needs = absurd needs
start_mark turns (Calls rest) needs = absurd needs
start_mark turns (CallWord call now left) needs = absurd needs
start_mark turns (Round receipts left) needs = absurd needs
start_mark turns (RoundReading receipts from bytes left) needs = absurd needs
start_mark turns (Act outcome behind) needs = absurd needs

start_reading : (turns : ℕ) (need : Need) → NeedsReading need → NeedsReading (start_need turns need)
start_reading turns (Start stood next) needs = tt
start_reading turns (Turns left) needs = needs
start_reading turns (WordFor left now) needs = absurd needs
start_reading turns (ReceiptNow left) needs = absurd needs
start_reading turns (ReadingFor left from bytes) needs = tt
start_reading turns (Calls []) needs = absurd needs
start_reading turns (Calls (call ∷ rest)) needs = tt
start_reading turns (CallWord call now left) needs = absurd needs
start_reading turns (Round receipts left) needs = absurd needs
start_reading turns (RoundReading receipts from bytes left) needs = tt
start_reading turns (Act outcome behind) needs = absurd needs

life_to_do : (turns : ℕ) (now : ℤ) (mark : ℕ) (need : Need) → IsToDo (Life now mark) need → IsToDo (Life now mark) (start_need turns need)
life_to_do turns now mark (Act outcome behind) does = tt
life_to_do turns now mark (Start stood next) does = absurd does
life_to_do turns now mark (Turns left) does = absurd does
life_to_do turns now mark (WordFor left time) does = absurd does
life_to_do turns now mark (ReceiptNow left) does = absurd does
life_to_do turns now mark (ReadingFor left from bytes) does = absurd does
life_to_do turns now mark (Calls rest) does = absurd does
life_to_do turns now mark (CallWord wait flags time) does = absurd does
life_to_do turns now mark (Round receipts left) does = absurd does
life_to_do turns now mark (RoundReading receipts from bytes left) does = absurd does

-- the event that is not whole is the Life
start_stops : (turns mark : ℕ) (deeds : List Deed) (ending : Ending) (taken : List Event) (need : Need) (a b : Faults) → all_done deeds ending ≡ map Take taken
    → AtStart mark (events_given deeds ending) → StopsAt ending need → SinkFailed ending a b → StopsAt ending (start_need turns need)
start_stops turns mark deeds ending taken need a b takes (inl nothing) stops failed =
    absurd (none_ended deeds ending taken a b takes failed (sym (given_are deeds ending taken takes) ∙ nothing))
start_stops turns mark deeds Whole taken need a b takes (inr (now, is)) stops failed = absurd failed
start_stops turns mark deeds (NoRecord event front) taken need a b takes (inr (now, is)) stops failed =
    let first : event ≡ Life now mark = last_one (flat_map events_in deeds) event (Life now mark) is in
    subst (λ (e : Event). IsToDo e (start_need turns need)) (sym first)
    (life_to_do turns now mark need (subst (λ (e : Event). IsToDo e need) first stops))
start_stops turns mark deeds (NoLine (Take event) front) taken need a b takes (inr (now, is)) stops failed =
    let split : flat_map events_in deeds ++ event ∷ [] ≡ Life now mark ∷ [] = sym (flat_map-append events_in deeds (Take event ∷ [])) ∙ is in
    subst (λ (e : Event). IsBehind e (start_need turns need)) (sym (last_one (flat_map events_in deeds) event (Life now mark) split)) tt
start_stops turns mark deeds (NoLine (Print line) front) taken need a b takes (inr (now, is)) stops failed = absurd (no_print deeds line taken takes)

-- behind the Life the first turn is needed
start_behind : (turns : ℕ) (need : Need) → behind_act (start_need turns need) ≡ start_need turns (behind_act need)
start_behind turns (Act outcome behind) = refl
start_behind turns (Start stood next) = refl
start_behind turns (Turns left) = refl
start_behind turns (WordFor left time) = refl
start_behind turns (ReceiptNow left) = refl
start_behind turns (ReadingFor left from bytes) = refl
start_behind turns (Calls []) = refl
start_behind turns (Calls (call ∷ left)) = refl
start_behind turns (CallWord wait flags time) = refl
start_behind turns (Round receipts left) = refl
start_behind turns (RoundReading receipts from bytes left) = refl

first_turn : (turns : ℕ) (need : Need) (es : List Event) (e : Event) → (behind_act need ≡ Calls []) ⊎ (es ≡ []) → es ≡ e ∷ [] → behind_act (start_need turns need) ≡ Turns turns
first_turn turns need es e (inl is) only = start_behind turns need ∙ ap (start_need turns) is
first_turn turns need es e (inr nothing) only = absurd (let bad : ⊥ = cc (nothing, only) in bad)

start_ends : (turns mark : ℕ) (why : Why) (deeds : List Deed) (ending : Ending) (taken : List Event) (need : Need) (a b : Faults) → IsOfStart why
    → all_done deeds ending ≡ map Take taken → AtStart mark (events_given deeds ending) → LifeEndsBy why ending need a b → LifeEndsBy why ending (start_need turns need) a b
start_ends turns mark Done deeds ending taken need a b of takes at ends = absurd of
start_ends turns mark DiskFault deeds ending taken need a b of takes at ends = (ends.0, start_disk turns need ends.1, ends.2)
start_ends turns mark BadVersion deeds ending taken need a b of takes at ends = (ends.0, start_mark turns need ends.1, ends.2)
start_ends turns mark StampsSpent deeds ending taken need a b of takes at ends = absurd of
start_ends turns mark ClockFault deeds ending taken need a b of takes at ends = (ends.0, start_reading turns need ends.1, ends.2)
start_ends turns mark EntropyFault deeds ending taken need a b of takes at ends = absurd of
start_ends turns mark SinkFault deeds ending taken need a b of takes at ends = (start_stops turns mark deeds ending taken need a b takes at ends.0 ends.1, ends.1)

pub never_done : (why : Why) → IsOfStart why → why ≢ Done
never_done Done of is = of
never_done DiskFault of is = let bad : ⊥ = cc in bad
never_done BadVersion of is = let bad : ⊥ = cc in bad
never_done StampsSpent of is = of
never_done ClockFault of is = let bad : ⊥ = cc in bad
never_done EntropyFault of is = of
never_done SinkFault of is = let bad : ⊥ = cc in bad

start_runs : (conf : Conf) (turns : ℕ) (stood : Stood) (before now : Seen) (kept kept' : ℕ) (end : LifeEnd) (why : Why) → IsOfStart why
    → Runs conf (Start stood (Calls [])) (Calls []) [] before now kept kept' (ended Done) end why → Runs conf (Start stood (Turns turns)) (Turns 0) [] before now kept kept' (ended Done) end why
start_runs conf turns stood before now kept kept' end why of r = record {
  given = r.given;
  deeds = r.deeds;
  ending = r.ending;
  need = start_need turns r.need;
  weaves = start_weaves r.weaves;
  does = r.does;
  taken = r.taken;
  takes = r.takes;
  grows = r.grows;
  tallies = r.tallies;
  last_call = r.last_call;
  ends = start_ends turns stood.mark why r.deeds r.ending r.taken r.need (faults_of before) (faults_of now) of r.takes (at_start r.weaves) r.ends;
  well = λ is. absurd (never_done why of is);
  reserved = r.reserved;
}

pub taken_start : (mark : ℕ) (taken missing : List Event) → AtStart mark (taken ++ missing) → AtStart mark taken
taken_start mark [] missing at = inl refl
taken_start mark (t ∷ ts) missing (inl is) = absurd (let no : t ∷ (ts ++ missing) ≡ [] = is in let bad : ⊥ = cc in bad)
taken_start mark (t ∷ []) missing (inr (now, is)) =
    let same : t ∷ missing ≡ Life now mark ∷ [] = is in
    let first : t ≡ Life now mark = cc in
    inr (now, ap (λ (e : Event). e ∷ []) first)
taken_start mark (t ∷ u ∷ ts) missing (inr (now, is)) =
    absurd (let no : t ∷ u ∷ (ts ++ missing) ≡ Life now mark ∷ [] = is in let bad : ⊥ = cc in bad)

-- nothing is sent up to the Life
pub none_sent : (conf : Conf) (mark : ℕ) (taken : List Event) → AtStart mark taken → all_sent (told conf (reverse taken)) ≡ []
unfolding told
none_sent conf mark taken (inl is) = rw is refl
none_sent conf mark taken (inr (now, is)) = rw is refl

-- nothing is reserved up to the Life, whose mark is a number of 32 bits
pub start_within : (conf : Conf) (mark : ℕ) (taken : List Event) → AtStart mark taken → AllByRecursion EventFits taken → taken ≢ []
    → mark + 64 * blocks_of (life_at (told conf (reverse taken))) < 2 ^ 32
unfolding told
start_within conf mark taken (inl is) fit some = absurd (some is)
start_within conf mark taken (inr (now, is)) fit some =
    let one : AllByRecursion EventFits (Life now mark ∷ []) = subst (AllByRecursion EventFits) is fit in
    let low = one.0.1 in
    rw is (omega (arith, low))

-- the disk is called before the Life
disk_not_call : (need : Need) → NeedsMark need ⊎ NeedsDisk need → behind_act need ≡ Calls [] → ⊥
disk_not_call (Act outcome behind) (inl needs) is = needs
disk_not_call (Act outcome behind) (inr needs) is = needs
disk_not_call (Start stood next) needs is = let bad : ⊥ = cc is in bad
disk_not_call (Turns left) needs is = let bad : ⊥ = cc is in bad
disk_not_call (WordFor left time) needs is = let bad : ⊥ = cc is in bad
disk_not_call (ReceiptNow left) needs is = let bad : ⊥ = cc is in bad
disk_not_call (ReadingFor left from bytes) needs is = let bad : ⊥ = cc is in bad
disk_not_call (Calls []) (inl needs) is = needs
disk_not_call (Calls []) (inr needs) is = needs
disk_not_call (Calls (call ∷ left)) needs is = let bad : ⊥ = cc is in bad
disk_not_call (CallWord wait flags time) needs is = let bad : ⊥ = cc is in bad
disk_not_call (Round receipts left) needs is = let bad : ⊥ = cc is in bad
disk_not_call (RoundReading receipts from bytes left) needs is = let bad : ⊥ = cc is in bad

before_life : (deeds : List Deed) (ending : Ending) (need : Need) (taken : List Event) → all_done deeds ending ≡ map Take taken → IsWhole ending → NeedsMark need ⊎ NeedsDisk need
    → (behind_act need ≡ Calls []) ⊎ (events_given deeds ending ≡ []) → taken ≡ []
before_life deeds ending need taken takes whole needs (inl is) = absurd (disk_not_call need needs is)
before_life deeds ending need taken takes whole needs (inr is) = sym (whole_given deeds ending taken whole takes) ∙ is

pub kept_at_start : (why : Why) (conf : Conf) (stood : Stood) (entry exit : DiskTold) (before now : Seen) (deeds : List Deed) (ending : Ending) (need : Need) (taken : List Event) (told_before : List Told) → IsOfStart why
    → all_done deeds ending ≡ map Take taken → (behind_act need ≡ Calls []) ⊎ (events_given deeds ending ≡ []) → LifeEndsBy why ending need (faults_of before) (faults_of now)
    → (why ≡ BadVersion → IfSome entry.content HasOtherVersion) → (why ≡ BadVersion → IsLeft entry exit) → KeptBy why stood taken told_before entry exit
kept_at_start Done conf stood entry exit before now deeds ending need taken told_before of takes first ends version left = tt
kept_at_start DiskFault conf stood entry exit before now deeds ending need taken told_before of takes first ends version left =
    inl (before_life deeds ending need taken takes ends.0 (inr ends.1) first)
kept_at_start BadVersion conf stood entry exit before now deeds ending need taken told_before of takes first ends version left =
    (before_life deeds ending need taken takes ends.0 (inl ends.1) first, version refl, left refl)
kept_at_start StampsSpent conf stood entry exit before now deeds ending need taken told_before of takes first ends version left = absurd of
kept_at_start ClockFault conf stood entry exit before now deeds ending need taken told_before of takes first ends version left = tt
kept_at_start EntropyFault conf stood entry exit before now deeds ending need taken told_before of takes first ends version left = tt
kept_at_start SinkFault conf stood entry exit before now deeds ending need taken told_before of takes first ends version left = tt

-- what ended at the disk took no event
pub begun_not : (why : Why) (before now : Seen) (deeds : List Deed) (ending : Ending) (need : Need) (taken : List Event) → IsOfStart why
    → all_done deeds ending ≡ map Take taken → (behind_act need ≡ Calls []) ⊎ (events_given deeds ending ≡ []) → LifeEndsBy why ending need (faults_of before) (faults_of now)
    → taken ≢ [] → (why ≢ BadVersion) × (why ≢ DiskFault)
begun_not Done before now deeds ending need taken of takes first ends some = absurd of
begun_not DiskFault before now deeds ending need taken of takes first ends some = absurd (some (before_life deeds ending need taken takes ends.0 (inr ends.1) first))
begun_not BadVersion before now deeds ending need taken of takes first ends some = absurd (some (before_life deeds ending need taken takes ends.0 (inl ends.1) first))
begun_not StampsSpent before now deeds ending need taken of takes first ends some = absurd of
begun_not ClockFault before now deeds ending need taken of takes first ends some = (λ is. cc is, λ is. cc is)
begun_not EntropyFault before now deeds ending need taken of takes first ends some = absurd of
begun_not SinkFault before now deeds ending need taken of takes first ends some = (λ is. cc is, λ is. cc is)

-- a load doesn't refuse the disk of a run that took its Life, or that the disk didn't end
pub loadable_of : {Refusals Taken Loads : Type 0} → (Taken → Refusals) → (Refusals → Loads) → Taken ⊎ Refusals → Loads
loadable_of f loads (inl some) = loads (f some)
loadable_of f loads (inr neither) = loads neither

-- an image of a disk that was loaded stands for the mark of the Life
pub from_mark : (entry exit : DiskTold) (stood : Stood) (image : List ℕ) (blocks : ℕ) → IfSome entry.content (λ c. stood.mark ≡ mark_of_image c)
    → IsLoadable image × IsSomeAnd entry.content (λ c. mark_of_image image ≡ mark_of_image c) → IsLoadable image × (mark_of_image image ≤ stood.mark + 64 * blocks)
from_mark entry exit stood image blocks stood_for from = (from.0, by_content entry.content stood_for from.1)
  where
    by_content : (content : Option (List ℕ)) → IfSome content (λ c. stood.mark ≡ mark_of_image c) → IsSomeAnd content (λ c. mark_of_image image ≡ mark_of_image c)
        → mark_of_image image ≤ stood.mark + 64 * blocks
    by_content None is same = absurd same
    by_content (Some c) is same = omega (arith, is, same)

pub lives_never : (conf : Conf) (turns : ℕ) (entry exit : DiskTold) (before now : Seen) (why : Why) → IsOfStart why → HasStopped conf (Calls []) entry before now why
    → (why ≡ BadVersion → IfSome entry.content HasOtherVersion) → (why ≡ BadVersion → IsLeft entry exit) → (why ≢ BadVersion → why ≢ DiskFault → IfSome entry.content IsLoadable)
    → exit.time ≤ entry.time + 4 → KeepsMarks entry exit → KeepsLoadable entry exit → LeavesOnly entry exit (StandsAsBefore entry) → LeavesOnly entry exit (KeepsUnused entry)
    → (why ≢ BadVersion → why ≢ DiskFault → IsLoadedFrom entry exit) → (why ≡ DiskFault → StopCovers entry exit 0)
    → Lives conf turns entry exit before now (ended why)
unfolding start_runs
lives_never conf turns entry exit before now why of stopped version left loads calls least still stands unused from stops =
    let stood = stopped.stood in
    let r = stopped.runs in
    let all = start_runs conf turns stood before now stood.mark stood.mark (ended Done) why of r in
    let lived = lived_of conf turns stood before now stood.mark stood.mark (ended Done) why all in
    let not = never_done why of in
    let at : AtStart stood.mark (all.taken ++ missing_in all.ending) = subst (AtStart stood.mark) (given_are all.deeds all.ending all.taken all.takes) (at_start r.weaves) in
    let sent = none_sent conf stood.mark all.taken (taken_start stood.mark all.taken (missing_in all.ending) at) in
    let P : List Request → Type 0 = λ (rs : List Request). AllByRecursion (λ q. stood.mark < q.count) rs in
    let Q : List ℕ → List Request → Type 0 = λ (image : List ℕ) (rs : List Request). AllByRecursion (λ q. q.count ≤ mark_of_image image) rs in
    lives_made conf turns entry exit before now stood all.given all.taken all.ending all.need (ended why) (printed conf [] all.deeds all.ending) stopped.stood_for
    (lived_with conf turns stood before now all.given all.taken all.ending all.need why (ended Done) lived)
    (reports_of conf (ended why) all.deeds all.ending all.need all.taken all.takes not all.does.has_line) all.does.out all.ends (λ is. absurd (not is))
    (λ is time only. first_turn turns r.need (events_given r.deeds r.ending) (Life time stood.mark) (start_none r.weaves) (given_are r.deeds r.ending r.taken r.takes ∙ only))
    (kept_at_start why conf stood entry exit before now r.deeds r.ending r.need r.taken (told conf (reverse all.taken)) of r.takes (start_none r.weaves) r.ends version left)
    (loadable_of (begun_not why before now r.deeds r.ending r.need r.taken of r.takes (start_none r.weaves) r.ends) (λ neither. loads neither.0 neither.1))
    still
    (record { above = subst P (sym sent) tt; covered = λ image left. subst (Q image) (sym sent) tt; least = least })
    (λ is. record { each = λ room image left. (subst (Q image) (sym sent) tt, ((stops is).each room image left).1) })
    (start_within conf stood.mark all.taken (taken_start stood.mark all.taken (missing_in all.ending) at) lived.fits)
    (omega (arith, calls)) (inl (omega (arith, calls))) (weaker stands (λ image was. inl was)) unused
    (loadable_of (begun_not why before now r.deeds r.ending r.need r.taken of r.takes (start_none r.weaves) r.ends)
    (λ neither image left.
    let low = from_mark entry exit stood image (blocks_of (life_at (told conf (reverse all.taken)))) stopped.stood_for ((from neither.0 neither.1).each image left) in
    (low.0, inl low.1)))
    (λ is. absurd (not is))
