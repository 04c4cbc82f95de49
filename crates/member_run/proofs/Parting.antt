-- Parts of a run that take one event, and parts that end before it.
use Rattle.std.proofs.Common.{◌≡◌, ◌≢◌, ◌<◌, ℕ, ℤ, Bool, true, false, List, [], ◌∷◌, ◌++◌, length, map, flat_map, if◌then◌else◌, refl, sym, ◌∙◌, ap, subst, arith}
use Rattle.std.specs.Prelude.{⊤}
use Rattle.std.proofs.lemmas.Grind.{flat_map-append}
use Rattle.std.proofs.lemmas.List.{append-nil}
use Rattle.edge_traits.specs.declared.link.Tried.{Tried}
use Rattle.edge_traits.specs.Clock.{ClockCall, Correct}
use Rattle.edge_traits.specs.declared.datagram.Addr.{Addr}
use Rattle.edge_traits.specs.declared.link.Receipt.TheVariants.{Got}
use Rattle.edge_traits.specs.Link.{LinkCall, Receive, Send}
use Rattle.capture_fmt.specs.declared.event.Event.{Event}
use Rattle.capture_fmt.specs.declared.event.Event.TheVariants.{Tick, Resync, Arrive}
use Rattle.time_machine.specs.declared.conf.Conf.{Conf}
use Rattle.time_machine.specs.Events.{History}
use Rattle.time_machine.specs.Growing.{Grows}
use Rattle.time_machine.specs.declared.outcome.Outcome.{Outcome}
use Rattle.time_machine.specs.declared.outcome.Outcome.TheVariants.{Started, Idle, Sent, Moved, Refused}
use Rattle.time_machine.specs.Machine.{is_due, moves_by, outcome_at, posted_by, told}
use Rattle.time_machine.specs.Report.{line_of}
use Rattle.time_machine.specs.Words.{words}
use Rattle.sntp_core.specs.declared.member.Member.{Member}
use Rattle.sntp_core.specs.Standing.{StandsForHistory, conf_of}
use Rattle.run_deeds.specs.declared.life_end.LifeEnd.{LifeEnd}
use Rattle.run_deeds.specs.declared.life_end.Why.{Why}
use Rattle.run_deeds.specs.declared.life_end.Why.TheVariants.{Done, DiskFault, BadVersion, StampsSpent, ClockFault, EntropyFault, SinkFault}
use Rattle.run_deeds.specs.Deeds.{Deed, Take, Print, Ending, Whole, NoRecord, NoLine, HasLine, IsWhole, all_done, events_given, events_in, history_after}
use Rattle.edge_seen.specs.Seen.{Seen}
use Rattle.run_deeds.specs.Devices.{Does, EndsAtLast, Faults, Given, IsBehind, IsLastCall, IsLastSend, IsToDo, LifeEndsBy, SinkFailed, StopsAt, faults_of}
use Rattle.run_deeds.specs.Marks.{Reserved}
use Rattle.run_deeds.specs.Parts.{Part, Runs, Tallies}
use Rattle.run_deeds.specs.Weaving.{Act, Need, Weaves, acts, followed_by, none, posted_of}
use Rattle.run_deeds.proofs.Composing.{tallies_then}
use Rattle.run_deeds.proofs.Deeding.{follows}
use Rattle.run_deeds.proofs.Doing.{does_then, given_then}
use Rattle.run_deeds.proofs.Orders.{arrive_posts}
use Rattle.run_deeds.proofs.Stopping.{runs_stop}
use Rattle.member_run.specs.Taking.{ActsBy, TakeEnds, Takes}
use Rattle.member_run.proofs.Ordered.{ends_taken}

-- ---- An event is taken

-- the history behind an event that was taken whole
pub whole_history : (history : History) (event : Event) (deeds : List Deed) (ending : Ending) → IsWhole ending → events_given deeds ending ≡ event ∷ []
    → history_after history (all_done deeds ending) ≡ event ∷ history
whole_history history event deeds Whole is events = follows history deeds ∙ ap (followed_by history) events
whole_history history event deeds (NoRecord other front) is events = absurd is
whole_history history event deeds (NoLine deed front) is events = absurd is

pub take_whole : (why : Why) (ending : Ending) (before now : Faults) → TakeEnds why ending before now → why ≡ Done → IsWhole ending
take_whole why ending before now ends is = (subst (λ (w : Why). TakeEnds w ending before now) is ends).0

-- an event behind which none stands is the only one
pub last_one : {A : Type 0} (before : List A) (a b : A) → before ++ a ∷ [] ≡ b ∷ [] → a ≡ b
last_one [] a b is = cc is
last_one (x ∷ []) a b is = absurd (let no : x ∷ a ∷ [] ≡ b ∷ [] = is in let bad : ⊥ = cc in bad)
last_one (x ∷ y ∷ rest) a b is = absurd (let no : x ∷ y ∷ (rest ++ a ∷ []) ≡ b ∷ [] = is in let bad : ⊥ = cc in bad)

-- no event prints a closing line
pub no_print : (deeds : List Deed) (line : List ℕ) (taken : List Event) → deeds ++ Print line ∷ [] ≡ map Take taken → ⊥
no_print deeds line taken takes =
    let last = ends_taken deeds (Print line) taken takes in
    let one : Print line ≡ Take last.event = last.deed_is in
    let bad : ⊥ = cc in bad

-- what is needed next where an event was taken, or its record could not be written
abbrev pub need_at : Ending → Outcome → Need → Need
need_at Whole outcome next = next
need_at (NoRecord event front) outcome next = Act outcome next
need_at (NoLine deed front) outcome next = next

-- a sink that failed where one event was given stopped the run at what that one led to, or behind it
pub stops_behind : (deeds : List Deed) (ending : Ending) (event : Event) (taken : List Event) (outcome : Outcome) (next : Need) (before now : Faults) → events_given deeds ending ≡ event ∷ []
    → all_done deeds ending ≡ map Take taken → IsBehind event next → SinkFailed ending before now → StopsAt ending (need_at ending outcome next)
stops_behind deeds Whole event taken outcome next before now events takes behind failed = absurd failed
stops_behind deeds (NoRecord last front) event taken outcome next before now events takes behind failed =
    subst (λ (e : Event). IsBehind e next) (sym (last_one (flat_map events_in deeds) last event events)) behind
stops_behind deeds (NoLine (Take last) front) event taken outcome next before now events takes behind failed =
    let split : flat_map events_in deeds ++ last ∷ [] ≡ event ∷ [] = sym (flat_map-append events_in deeds (Take last ∷ [])) ∙ events in
    subst (λ (e : Event). IsBehind e next) (sym (last_one (flat_map events_in deeds) last event split)) behind
stops_behind deeds (NoLine (Print line) front) event taken outcome next before now events takes behind failed = absurd (no_print deeds line taken takes)

-- the same with another name for what is needed
pub stops_as : (f : Need → Need) (deeds : List Deed) (ending : Ending) (taken : List Event) (need : Need) → all_done deeds ending ≡ map Take taken
    → ((event : Event) → IsBehind event need → IsBehind event (f need)) → ((event : Event) → IsToDo event need → IsToDo event (f need))
    → StopsAt ending need → StopsAt ending (f need)
stops_as f deeds Whole taken need takes keeps does stops = absurd stops
stops_as f deeds (NoRecord event front) taken need takes keeps does stops = does event stops
stops_as f deeds (NoLine (Take event) front) taken need takes keeps does stops = keeps event stops
stops_as f deeds (NoLine (Print line) front) taken need takes keeps does stops = absurd (no_print deeds line taken takes)

pub take_ends : (why : Why) (ending : Ending) (need : Need) (before now : Faults) → TakeEnds why ending before now → (SinkFailed ending before now → StopsAt ending need)
    → LifeEndsBy why ending need before now
take_ends Done ending need before now ends stops = ends
take_ends SinkFault ending need before now ends stops = (stops ends, ends)
take_ends DiskFault ending need before now ends stops = absurd ends
take_ends BadVersion ending need before now ends stops = absurd ends
take_ends StampsSpent ending need before now ends stops = absurd ends
take_ends ClockFault ending need before now ends stops = absurd ends
take_ends EntropyFault ending need before now ends stops = absurd ends

-- what an event led to was done
acted : {conf : Conf} {history : History} (outcome : Outcome) (next : Need) (made : List ClockCall) (tried : List Tried)
    → made ≡ map Correct (moves_by outcome) → map posted_of tried ≡ posted_by outcome → Weaves conf (Act outcome next) history made [] (map Send tried) [] next
acted {conf = conf} {history = history} outcome next made tried made_are posted =
    let did : Weaves conf (Act outcome next) history (map Correct (moves_by outcome) ++ []) [] (map Send tried ++ []) [] next = acts tried posted none in
    rw made_are (rw (append-nil (map Correct (moves_by outcome)), append-nil (map Send tried)) at did)

-- so it was, or nothing was
pub acts_weave : {conf : Conf} {history : History} (ending : Ending) (outcome : Outcome) (next : Need) (made : List ClockCall) (tried : List Tried)
    → ActsBy ending outcome made tried → Weaves conf (Act outcome next) history made [] (map Send tried) [] (need_at ending outcome next)
acts_weave Whole outcome next made tried (made_are, posted) = acted outcome next made tried made_are posted
acts_weave (NoRecord event front) outcome next made tried (no_move, no_send) = rw (no_move, no_send) none
acts_weave (NoLine deed front) outcome next made tried (made_are, posted) = acted outcome next made tried made_are posted

pub whole_need : (ending : Ending) (outcome : Outcome) (next : Need) → IsWhole ending → need_at ending outcome next ≡ next
whole_need Whole outcome next whole = refl
whole_need (NoRecord event front) outcome next whole = absurd whole
whole_need (NoLine deed front) outcome next whole = refl

-- ---- The last call of the link

-- where an event has a line, the last one of these calls and of its own is its own
abbrev pub LastBy : Conf → History → Event → List LinkCall → Type 0
LastBy conf history event before =
    (tried : List Tried) → map posted_of tried ≡ posted_by (outcome_at conf history event) → 0 < length (line_of (outcome_at conf history event))
    → IsLastCall event (before ++ map Send tried)

none_before : (before : List Event) (a b : Event) → before ++ a ∷ [] ≡ b ∷ [] → before ≡ []
none_before [] a b is = refl
none_before (x ∷ []) a b is = absurd (let no : x ∷ a ∷ [] ≡ b ∷ [] = is in let bad : ⊥ = cc in bad)
none_before (x ∷ y ∷ rest) a b is = absurd (let no : x ∷ y ∷ (rest ++ a ∷ []) ≡ b ∷ [] = is in let bad : ⊥ = cc in bad)

pub last_by : (conf : Conf) (history : History) (deeds : List Deed) (ending : Ending) (event : Event) (taken : List Event) (made : List ClockCall) (tried : List Tried) (before : List LinkCall)
    → events_given deeds ending ≡ event ∷ [] → all_done deeds ending ≡ map Take taken → HasLine conf history deeds ending
    → ActsBy ending (outcome_at conf history event) made tried → LastBy conf history event before → EndsAtLast ending (before ++ map Send tried)
last_by conf history deeds Whole event taken made tried before events takes has did last = tt
last_by conf history deeds (NoRecord other front) event taken made tried before events takes has did last = tt
last_by conf history deeds (NoLine (Print line) front) event taken made tried before events takes has did last = tt
last_by conf history deeds (NoLine (Take other) front) event taken made tried before events takes has did last =
    let split : flat_map events_in deeds ++ other ∷ [] ≡ event ∷ [] = sym (flat_map-append events_in deeds (Take other ∷ [])) ∙ events in
    let same : other ≡ event = last_one (flat_map events_in deeds) other event split in
    let here : history_after history deeds ≡ history = follows history deeds ∙ ap (followed_by history) (none_before (flat_map events_in deeds) other event split) in
    let at : 0 < length (line_of (outcome_at conf history other)) = subst (λ (h : History). 0 < length (line_of (outcome_at conf h other))) here has in
    let some : 0 < length (line_of (outcome_at conf history event)) = subst (λ (e : Event). 0 < length (line_of (outcome_at conf history e))) same at in
    subst (λ (e : Event). IsLastCall e (before ++ map Send tried)) (sym same) (last tried did.1 some)

-- an arrival sends nothing
none_tried : (tried : List Tried) → map posted_of tried ≡ [] → tried ≡ []
none_tried [] is = refl
none_tried (t ∷ tried) is = absurd (let bad : ⊥ = cc is in bad)

pub last_arrival : (conf : Conf) (history : History) (now : ℤ) (from : Addr) (bytes : List ℕ) → LastBy conf history (Arrive now from bytes) (Receive (Got from bytes) ∷ [])
last_arrival conf history now from bytes tried posted some =
    let silent : tried ≡ [] = none_tried tried (posted ∙ arrive_posts conf history now from bytes) in
    ([], ap (λ (ts : List Tried). Receive (Got from bytes) ∷ map Send ts) silent)

-- what a Tick or a Resync leads to
abbrev MaySend : Outcome → Type 0
MaySend (Sent to count bytes) = ⊤
MaySend Idle = ⊤
MaySend (Started mark) = ⊥
MaySend (Moved count offset how) = ⊥
MaySend (Refused reason) = ⊥

may_if : (due : Bool) (outcome : Outcome) → MaySend outcome → MaySend (if due then outcome else Idle)
may_if true outcome may = may
may_if false outcome may = tt

last_sent : (outcome : Outcome) → MaySend outcome → (tried : List Tried) → map posted_of tried ≡ posted_by outcome → 0 < length (line_of outcome) → IsLastSend (map Send tried)
last_sent (Sent to count bytes) may [] posted some = absurd (let bad : ⊥ = cc posted in bad)
last_sent (Sent to count bytes) may (t ∷ []) posted some = ([], t, refl)
last_sent (Sent to count bytes) may (t ∷ u ∷ ts) posted some = absurd (let bad : ⊥ = cc posted in bad)
last_sent Idle may tried posted some = absurd (let no : 0 < 0 = some in omega (arith, no))
last_sent (Started mark) may tried posted some = absurd may
last_sent (Moved count offset how) may tried posted some = absurd may
last_sent (Refused reason) may tried posted some = absurd may

tick_sends : (conf : Conf) (history : History) (now : ℤ) (word : ℕ) → MaySend (outcome_at conf history (Tick now word))
unfolding outcome_at
tick_sends conf history now word = may_if (is_due (words conf (told conf history)) now) _ tt

resync_sends : (conf : Conf) (history : History) (now : ℤ) (word flags : ℕ) → MaySend (outcome_at conf history (Resync now word flags))
unfolding outcome_at
resync_sends conf history now word flags = tt

pub last_tick : (conf : Conf) (history : History) (now : ℤ) (word : ℕ) → LastBy conf history (Tick now word) []
last_tick conf history now word tried posted some = last_sent (outcome_at conf history (Tick now word)) (tick_sends conf history now word) tried posted some

pub last_resync : (conf : Conf) (history : History) (now : ℤ) (word flags : ℕ) → LastBy conf history (Resync now word flags) []
last_resync conf history now word flags tried posted some =
    last_sent (outcome_at conf history (Resync now word flags)) (resync_sends conf history now word flags) tried posted some

-- ---- A part with its event

-- After what was given, an event is taken, for which these calls of the clock were made. Its calls are woven behind.
abbrev pub runs_takes : (conf : Conf) (from next : Need) (history : History) (event : Event) (given : Given) (read : List ClockCall) (before mid now : Seen) (member : Member) (kept kept' : ℕ) (old new : LifeEnd) (why : Why)
    → Does conf history given [] Whole before mid → Tallies conf history [] given.link old old → (faults_of mid) ≡ (faults_of before)
    → Takes conf history event read mid now member old new why
    → ((cs : List ClockCall) (ls : List LinkCall) (need : Need) → Weaves conf (Act (outcome_at conf history event) next) (event ∷ history) cs [] ls [] need
    → Weaves conf from history (given.clock ++ (read ++ cs)) (given.words ++ []) (given.link ++ ls) (event ∷ []) need)
    → IsBehind event next → LastBy conf history event given.link → (why ≡ Done → Reserved kept (told conf history) → Reserved kept' (told conf (event ∷ history)))
    → Runs conf from next history before now kept kept' old new why
runs_takes conf from next history event given read before mid now member kept kept' old new why did counted quiet takes weaves behind last reserved =
    let outcome = outcome_at conf history event in
    let need = need_at takes.ending outcome next in
    record {
      given = given_then given (record { clock = read ++ takes.made; words = []; link = map Send takes.tried });
      deeds = takes.deeds;
      ending = takes.ending;
      need = need;
      weaves = rw takes.events (weaves takes.made (map Send takes.tried) need (acts_weave takes.ending outcome next takes.made takes.tried takes.acts));
      does = does_then conf history given (record { clock = read ++ takes.made; words = []; link = map Send takes.tried }) [] takes.deeds takes.ending before mid now did takes.does;
      taken = takes.taken;
      takes = takes.takes;
      grows = subst (λ (set : Conf). Grows set (history_after history (all_done takes.deeds takes.ending))) takes.is_set takes.stands.grows;
      tallies = tallies_then conf history [] (all_done takes.deeds takes.ending) given.link (map Send takes.tried) old old new counted takes.tallies;
      ends = subst (λ (f : Faults). LifeEndsBy why takes.ending need f (faults_of now)) quiet (take_ends why takes.ending need (faults_of mid) (faults_of now) takes.ends
          (stops_behind takes.deeds takes.ending event takes.taken outcome next (faults_of mid) (faults_of now) takes.events takes.takes behind));
      last_call = last_by conf history takes.deeds takes.ending event takes.taken takes.made takes.tried given.link takes.events takes.takes takes.does.has_line takes.acts last;
      well = λ is. whole_need takes.ending outcome next (take_whole why takes.ending (faults_of mid) (faults_of now) takes.ends is);
      reserved = λ is was.
          rw (whole_history history event takes.deeds takes.ending (take_whole why takes.ending (faults_of mid) (faults_of now) takes.ends is) takes.events) (reserved is was);
    }

-- the same with the member
pub part_takes : (conf : Conf) (from next : Need) (history : History) (event : Event) (given : Given) (read : List ClockCall) (before mid now : Seen) (member : Member) (kept kept' : ℕ) (old new : LifeEnd) (why : Why)
    → Does conf history given [] Whole before mid → Tallies conf history [] given.link old old → (faults_of mid) ≡ (faults_of before)
    → Takes conf history event read mid now member old new why
    → ((cs : List ClockCall) (ls : List LinkCall) (need : Need) → Weaves conf (Act (outcome_at conf history event) next) (event ∷ history) cs [] ls [] need
    → Weaves conf from history (given.clock ++ (read ++ cs)) (given.words ++ []) (given.link ++ ls) (event ∷ []) need)
    → IsBehind event next → LastBy conf history event given.link → (Reserved kept (told conf history) → Reserved kept' (told conf (event ∷ history)))
    → Part conf from next history before now member kept kept' old new why
part_takes conf from next history event given read before mid now member kept kept' old new why did counted quiet takes weaves behind last reserved =
    record {
      runs = runs_takes conf from next history event given read before mid now member kept kept' old new why did counted quiet takes weaves behind last (λ is. reserved);
      is_set = takes.is_set;
      stands = takes.stands;
    }

-- ---- A part ends before its event

-- this was given, and this is needed next
pub part_stops : (conf : Conf) (from need next : Need) (history : History) (given : Given) (before now : Seen) (member : Member) (kept kept' : ℕ) (end : LifeEnd) (why : Why)
    → conf_of member ≡ conf → StandsForHistory member history → why ≢ Done → Tallies conf history [] given.link end end
    → Weaves conf from history given.clock given.words given.link [] need → Does conf history given [] Whole before now
    → LifeEndsBy why Whole need (faults_of before) (faults_of now) → Part conf from next history before now member kept kept' end end why
part_stops conf from need next history given before now member kept kept' end why is_set stands not counted weaves does ends = record {
  runs = runs_stop conf from need next history given before now kept kept' end why not
      (subst (λ (set : Conf). Grows set history) is_set stands.grows) counted weaves does ends;
  is_set = is_set;
  stands = stands;
}

-- a part that ended in a fault is one of every run that goes on from there
pub part_short : (conf : Conf) (from mid next : Need) (history : History) (before now : Seen) (member : Member) (kept kept' : ℕ) (old new : LifeEnd) (why : Why)
    → why ≢ Done → Part conf from mid history before now member kept kept' old new why → Part conf from next history before now member kept kept' old new why
part_short conf from mid next history before now member kept kept' old new why not one = record {
  runs = record {
    given = one.runs.given;
    deeds = one.runs.deeds;
    ending = one.runs.ending;
    need = one.runs.need;
    weaves = one.runs.weaves;
    does = one.runs.does;
    taken = one.runs.taken;
    takes = one.runs.takes;
    grows = one.runs.grows;
    tallies = one.runs.tallies;
    ends = one.runs.ends;
    last_call = one.runs.last_call;
    well = λ is. absurd (not is);
    reserved = one.runs.reserved;
  };
  is_set = one.is_set;
  stands = one.stands;
}
