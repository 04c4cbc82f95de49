-- So many turns, one after the other.
use Rattle.std.proofs.Common.{◌≡◌, ◌≢◌, ◌⊎◌, ◌↔◌, inl, inr, ◌<◌, ◌≤◌, ◌+◌, ◌*◌, ◌/◌, ◌^◌, ℕ, zero, suc, ℤ, List, [], ◌∷◌, ◌++◌, map, Option, unwrap_or, refl, sym, ◌∙◌, ap, subst, arith}
use Rattle.std.proofs.lemmas.List.{append-nil}
use Rattle.std.proofs.lemmas.Bool.{cases_lt}
use Rattle.slot_disk.specs.Calls.{LeavesOnly}
use Rattle.slot_disk.specs.Told.{DiskTold, IsDisk}
use Rattle.edge_traits.specs.declared.datagram.Addr.{Addr}
use Rattle.edge_traits.specs.Clock.{ClockCall, readings_among}
use Rattle.edge_traits.specs.Link.{LinkCall, receipts_among}
use Rattle.capture_fmt.specs.declared.event.Event.{Event}
use Rattle.capture_fmt.specs.declared.event.Event.TheVariants.{Life, Tick, Resync, Arrive}
use Rattle.time_machine.specs.declared.conf.Conf.{Conf}
use Rattle.time_machine.specs.declared.outcome.Outcome.{Outcome}
use Rattle.time_machine.specs.Events.{History}
use Rattle.time_machine.specs.Words.{life_at, words}
use Rattle.time_machine.specs.Machine.{told}
use Rattle.time_machine.specs.Growing.{Grows}
use Rattle.time_machine.proofs.Lists.{all_split}
use Rattle.sntp_core.specs.Standing.{StandsForHistory, conf_of, words_of}
use Rattle.stamp_keep.specs.Image.{mark_of_image}
use Rattle.stamp_keep.specs.Keep.{KeepsMarks, KeepsUnused}
use Rattle.stamp_keep.proofs.Moments.{and_then, started, weaker}
use Rattle.run_deeds.specs.declared.life_end.LifeEnd.{LifeEnd}
use Rattle.run_deeds.specs.declared.life_end.Why.{Why}
use Rattle.run_deeds.specs.declared.life_end.Why.TheVariants.{Done, DiskFault, BadVersion, StampsSpent, ClockFault, EntropyFault, SinkFault}
use Rattle.run_deeds.specs.Weaving.{Need, Stood, Start, Turns, WordFor, ReceiptNow, ReadingFor, Calls, CallWord, Round, RoundReading, Act, Weaves, none, acts, life, reads, draws, gets, quiet, lost, arrives, followed_by, turns_of}
use Rattle.run_deeds.specs.Deeds.{Deed, Take, Ending, Whole, NoRecord, NoLine, IsWhole, all_done, events_given, history_after, missing_in}
use Rattle.edge_seen.specs.Seen.{Seen}
use Rattle.run_deeds.specs.Devices.{Faults, IsBeforeRequest, IsBehind, IsBetween, IsInCalls, IsToDo, LifeEndsBy, NeedsCount, NeedsDisk, NeedsMark, NeedsReading, NeedsReceipt, NeedsWord, nothing, faults_of}
use Rattle.run_deeds.specs.Lives.{CallsForBlocks, StandsForBlocks}
use Rattle.run_deeds.specs.Marks.{Covers, KeepsLoadable, Reserved, last_count}
use Rattle.run_deeds.specs.Parts.{Part, Runs}
use Rattle.run_deeds.proofs.Weaves.{is_turns}
use Rattle.run_deeds.proofs.Doing.{does_none}
use Rattle.run_deeds.proofs.Stopping.{tallies_none}
use Rattle.run_deeds.proofs.Composing.{runs_then}
use Rattle.member_run.specs.declared.running.Running.{Running}
use Rattle.member_run.specs.Running.{CallsWhereDue, IsGoing, IsPart, IsUsedUp, RisesWhereDue, greatest_of, kept_of, member_of, totals_of}
use Rattle.member_run.specs.Turning.{DueBy, TakesTurns}
use Rattle.member_run.proofs.Ordered.{given_are, history_of}
use Rattle.member_run.proofs.Leaving.{unused_same, unused_then}
use Rattle.member_run.proofs.Parting.{stops_as}
use Rattle.member_run.proofs.Blocks.{IsTurn, NoAsk, NoLife, blocks_in, blocks_low, blocks_stay, is_due, mark_in, mark_stays, sends_in, sends_rise, tick_blocks, turn_front, turn_reserves, turns_later}

-- ---- What a part of a run took

-- the history behind a part is that of the events taken
pub taken_history : (history : History) (deeds : List Deed) (ending : Ending) (taken : List Event) → all_done deeds ending ≡ map Take taken
    → history_after history (all_done deeds ending) ≡ followed_by history taken
taken_history history deeds ending taken is = ap (history_after history) is ∙ history_of history taken

-- no turn takes a Life
pub later_taken : (conf : Conf) (n : ℕ) (history : History) (cs : List ClockCall) (ws : List ℕ) (ls : List LinkCall) (deeds : List Deed) (ending : Ending) (need : Need) (taken : List Event)
    → all_done deeds ending ≡ map Take taken → Weaves conf (Turns n) history cs ws ls (events_given deeds ending) need → NoLife taken
later_taken conf n history cs ws ls deeds ending need taken takes weaves =
    let are : taken ++ missing_in ending ≡ turns_of (readings_among cs) ws (receipts_among ls) = sym (given_are deeds ending taken takes) ∙ is_turns weaves in
    let all : NoLife (taken ++ missing_in ending) = subst NoLife (sym are) (turns_later (readings_among cs) ws (receipts_among ls)) in
    (all_split _ taken (missing_in ending) all).0

-- a whole turn begins with a Tick
pub record BeginsTurn (es : List Event) : Type 0 where
  pub now : ℤ
  pub word : ℕ
  pub later : List Event
  pub is : es ≡ Tick now word ∷ later

begins_turn : {conf : Conf} {k : ℕ} {history : History} {cs : List ClockCall} {ws : List ℕ} {ls : List LinkCall} {es : List Event} {need : Need}
    → Weaves conf (Turns (suc k)) history cs ws ls es need → need ≡ Turns k → BeginsTurn es
begins_turn {k = k} none is = absurd (let same : suc k ≡ k = cc in omega (arith, same))
begins_turn (reads none) is = absurd (let bad : ⊥ = cc in bad)
begins_turn (reads {now = now} (draws {word = word} {es = es} s)) is = record { now = now; word = word; later = es; is = refl }

pub whole_given : (deeds : List Deed) (ending : Ending) (taken : List Event) → IsWhole ending → all_done deeds ending ≡ map Take taken → events_given deeds ending ≡ taken
whole_given deeds Whole taken whole is = given_are deeds Whole taken is ∙ append-nil taken
whole_given deeds (NoRecord event front) taken whole is = absurd whole
whole_given deeds (NoLine deed front) taken whole is = absurd whole

-- behind it one block more is reserved than the requests before it fill
turn_blocks : (conf : Conf) (k : ℕ) (history : History) (cs : List ClockCall) (ws : List ℕ) (ls : List LinkCall) (deeds : List Deed) (ending : Ending) (need : Need) (taken : List Event)
    → Weaves conf (Turns (suc k)) history cs ws ls (events_given deeds ending) need → need ≡ Turns k → IsWhole ending → all_done deeds ending ≡ map Take taken
    → 1 + sends_in conf history / 64 ≤ blocks_in conf (followed_by history taken)
turn_blocks conf k history cs ws ls deeds ending need taken weaves well whole takes =
    let first = begins_turn weaves well in
    let is : taken ≡ Tick first.now first.word ∷ first.later = sym (whole_given deeds ending taken whole takes) ∙ first.is in
    let later : NoLife taken = later_taken conf (suc k) history cs ws ls deeds ending need taken takes weaves in
    let rest : NoLife (Tick first.now first.word ∷ first.later) = subst NoLife is later in
    let stay = blocks_stay conf (Tick first.now first.word ∷ history) first.later rest.1 in
    let ticked = tick_blocks conf history first.now first.word in
    rw is (omega (arith, stay, ticked))

-- where turns are asked for and all were taken, the first one began with a Tick
first_tick : {conf : Conf} {k : ℕ} {history : History} {cs : List ClockCall} {ws : List ℕ} {ls : List LinkCall} {es : List Event} {need : Need}
    → Weaves conf (Turns k) history cs ws ls es need → 0 < k → need ≡ Turns 0 → BeginsTurn es
first_tick {k = k} none some is = absurd (let same : k ≡ 0 = cc is in omega (arith, some, same))
first_tick (reads none) some is = absurd (let bad : ⊥ = cc is in bad)
first_tick (reads {now = now} (draws {word = word} {es = es} s)) some is = record { now = now; word = word; later = es; is = refl }

-- so counts were reserved
pub whole_reserves : {conf : Conf} {stood : Stood} {turns : ℕ} {cs : List ClockCall} {ws : List ℕ} {ls : List LinkCall} {es : List Event} {need : Need}
    → Weaves conf (Start stood (Turns turns)) [] cs ws ls es need → 0 < turns → need ≡ Turns 0 → 1 ≤ blocks_in conf (followed_by [] es)
whole_reserves none some is = absurd (let bad : ⊥ = cc is in bad)
whole_reserves (life none) some is = absurd (let bad : ⊥ = cc is in bad)
whole_reserves {conf = conf} {stood = stood} (life {now = now} {es = es} (acts {cs = cs} {ws = ws} {ls = ls} tried are turns)) some is =
    let first = first_tick turns some is in
    let all : NoLife es = subst NoLife (sym (is_turns turns)) (turns_later (readings_among cs) ws (receipts_among ls)) in
    let rest : NoLife (Tick first.now first.word ∷ first.later) = subst NoLife first.is all in
    let start = Life now stood.mark ∷ [] in
    rw first.is (omega (arith, blocks_stay conf (Tick first.now first.word ∷ start) first.later rest.1, tick_blocks conf start first.now first.word))

-- a turn is a Tick and an Arrive at most
one_reading : {conf : Conf} {from : Addr} {bytes : List ℕ} {history : History} {cs : List ClockCall} {ws : List ℕ} {ls : List LinkCall} {es : List Event} {need : Need}
    → Weaves conf (ReadingFor 0 from bytes) history cs ws ls es need → NoAsk es
one_reading none = tt
one_reading (arrives none) = ((refl, refl), tt)
one_reading (arrives (acts tried are none)) = ((refl, refl), tt)

one_tick : {conf : Conf} {outcome : Outcome} {history : History} {cs : List ClockCall} {ws : List ℕ} {ls : List LinkCall} {es : List Event} {need : Need}
    → Weaves conf (Act outcome (ReceiptNow 0)) history cs ws ls es need → NoAsk es
one_tick none = tt
one_tick (acts tried are none) = tt
one_tick (acts tried are (gets s)) = one_reading s
one_tick (acts tried are (quiet none)) = tt
one_tick (acts tried are (lost none)) = tt

one_word : {conf : Conf} {now : ℤ} {history : History} {cs : List ClockCall} {ws : List ℕ} {ls : List LinkCall} {es : List Event} {need : Need}
    → Weaves conf (WordFor 0 now) history cs ws ls es need → IsTurn es
one_word none = tt
one_word (draws s) = (refl, one_tick s)

one_turn : {conf : Conf} {history : History} {cs : List ClockCall} {ws : List ℕ} {ls : List LinkCall} {es : List Event} {need : Need}
    → Weaves conf (Turns 1) history cs ws ls es need → IsTurn es
one_turn none = tt
one_turn (reads s) = one_word s

-- so is what was taken of it
turn_taken : (conf : Conf) (history : History) (cs : List ClockCall) (ws : List ℕ) (ls : List LinkCall) (deeds : List Deed) (ending : Ending) (need : Need) (taken : List Event)
    → all_done deeds ending ≡ map Take taken → Weaves conf (Turns 1) history cs ws ls (events_given deeds ending) need → IsTurn taken
turn_taken conf history cs ws ls deeds ending need taken takes weaves =
    turn_front taken (missing_in ending) (subst IsTurn (given_are deeds ending taken takes) (one_turn weaves))

-- ---- One turn is one of however many

-- what a turn needs where it is the last one, and where so many are left behind it
abbrev pub raised : ℕ → Need → Need
raised left (Start stood next) = Start stood next
raised left (Turns zero) = Turns left
raised left (Turns (suc k)) = Turns (suc left)
raised left (WordFor k now) = WordFor left now
raised left (ReceiptNow k) = ReceiptNow left
raised left (ReadingFor k from bytes) = ReadingFor left from bytes
raised left (Calls rest) = Calls rest
raised left (CallWord call now rest) = CallWord call now rest
raised left (Round k rest) = Round k rest
raised left (RoundReading k from bytes rest) = RoundReading k from bytes rest
raised left (Act outcome behind) = Act outcome (raised left behind)

raise_reading : {conf : Conf} {left : ℕ} {from : Addr} {bytes : List ℕ} {history : History} {cs : List ClockCall} {ws : List ℕ} {ls : List LinkCall} {es : List Event} {need : Need}
    → Weaves conf (ReadingFor 0 from bytes) history cs ws ls es need → Weaves conf (ReadingFor left from bytes) history cs ws ls es (raised left need)
raise_reading none = none
raise_reading (arrives none) = arrives none
raise_reading (arrives (acts tried are none)) = arrives (acts tried are none)

raise_tick : {conf : Conf} {outcome : Outcome} {left : ℕ} {history : History} {cs : List ClockCall} {ws : List ℕ} {ls : List LinkCall} {es : List Event} {need : Need}
    → Weaves conf (Act outcome (ReceiptNow 0)) history cs ws ls es need → Weaves conf (Act outcome (ReceiptNow left)) history cs ws ls es (raised left need)
raise_tick none = none
raise_tick (acts tried are none) = acts tried are none
raise_tick (acts tried are (gets s)) = acts tried are (gets (raise_reading s))
raise_tick (acts tried are (quiet none)) = acts tried are (quiet none)
raise_tick (acts tried are (lost none)) = acts tried are (lost none)

raise_word : {conf : Conf} {left : ℕ} {now : ℤ} {history : History} {cs : List ClockCall} {ws : List ℕ} {ls : List LinkCall} {es : List Event} {need : Need}
    → Weaves conf (WordFor 0 now) history cs ws ls es need → Weaves conf (WordFor left now) history cs ws ls es (raised left need)
raise_word none = none
raise_word (draws s) = draws (raise_tick s)

raise : {conf : Conf} {left : ℕ} {history : History} {cs : List ClockCall} {ws : List ℕ} {ls : List LinkCall} {es : List Event} {need : Need}
    → Weaves conf (Turns 1) history cs ws ls es need → Weaves conf (Turns (suc left)) history cs ws ls es (raised left need)
raise none = none
raise (reads s) = reads (raise_word s)

-- the disk is called at its beginning alone
not_begun_reading : {conf : Conf} {from : Addr} {bytes : List ℕ} {history : History} {cs : List ClockCall} {ws : List ℕ} {ls : List LinkCall} {es : List Event} {need : Need}
    → Weaves conf (ReadingFor 0 from bytes) history cs ws ls es need → NeedsDisk need → ⊥
not_begun_reading none needs = needs
not_begun_reading (arrives none) needs = needs
not_begun_reading (arrives (acts tried are none)) needs = omega (arith, needs)

not_begun_tick : {conf : Conf} {outcome : Outcome} {history : History} {cs : List ClockCall} {ws : List ℕ} {ls : List LinkCall} {es : List Event} {need : Need}
    → Weaves conf (Act outcome (ReceiptNow 0)) history cs ws ls es need → NeedsDisk need → ⊥
not_begun_tick none needs = needs
not_begun_tick (acts tried are none) needs = needs
not_begun_tick (acts tried are (gets s)) needs = not_begun_reading s needs
not_begun_tick (acts tried are (quiet none)) needs = omega (arith, needs)
not_begun_tick (acts tried are (lost none)) needs = omega (arith, needs)

not_begun_word : {conf : Conf} {now : ℤ} {history : History} {cs : List ClockCall} {ws : List ℕ} {ls : List LinkCall} {es : List Event} {need : Need}
    → Weaves conf (WordFor 0 now) history cs ws ls es need → NeedsDisk need → es ≡ []
not_begun_word none needs = absurd needs
not_begun_word (draws s) needs = absurd (not_begun_tick s needs)

not_begun : {conf : Conf} {history : History} {cs : List ClockCall} {ws : List ℕ} {ls : List LinkCall} {es : List Event} {need : Need}
    → Weaves conf (Turns 1) history cs ws ls es need → NeedsDisk need → es ≡ []
not_begun none needs = refl
not_begun (reads s) needs = not_begun_word s needs

not_counted_reading : {conf : Conf} {from : Addr} {bytes : List ℕ} {history : History} {cs : List ClockCall} {ws : List ℕ} {ls : List LinkCall} {es : List Event} {need : Need}
    → Weaves conf (ReadingFor 0 from bytes) history cs ws ls es need → NeedsCount need → ⊥
not_counted_reading none needs = needs
not_counted_reading (arrives none) needs = needs
not_counted_reading (arrives (acts tried are none)) needs = omega (arith, needs)

not_counted_tick : {conf : Conf} {outcome : Outcome} {history : History} {cs : List ClockCall} {ws : List ℕ} {ls : List LinkCall} {es : List Event} {need : Need}
    → Weaves conf (Act outcome (ReceiptNow 0)) history cs ws ls es need → NeedsCount need → ⊥
not_counted_tick none needs = needs
not_counted_tick (acts tried are none) needs = needs
not_counted_tick (acts tried are (gets s)) needs = not_counted_reading s needs
not_counted_tick (acts tried are (quiet none)) needs = omega (arith, needs)
not_counted_tick (acts tried are (lost none)) needs = omega (arith, needs)

not_counted_word : {conf : Conf} {now : ℤ} {history : History} {cs : List ClockCall} {ws : List ℕ} {ls : List LinkCall} {es : List Event} {need : Need}
    → Weaves conf (WordFor 0 now) history cs ws ls es need → NeedsCount need → es ≡ []
not_counted_word none needs = absurd needs
not_counted_word (draws s) needs = absurd (not_counted_tick s needs)

not_counted : {conf : Conf} {history : History} {cs : List ClockCall} {ws : List ℕ} {ls : List LinkCall} {es : List Event} {need : Need}
    → Weaves conf (Turns 1) history cs ws ls es need → NeedsCount need → es ≡ []
not_counted none needs = refl
not_counted (reads s) needs = not_counted_word s needs

needs_reading : (left : ℕ) (need : Need) → NeedsReading need → NeedsReading (raised left need)
needs_reading left (Start stood next) needs = tt
needs_reading left (Turns zero) needs = absurd (omega (arith, needs))
needs_reading left (Turns (suc k)) needs = omega arith
needs_reading left (WordFor k now) needs = absurd needs
needs_reading left (ReceiptNow k) needs = absurd needs
needs_reading left (ReadingFor k from bytes) needs = tt
needs_reading left (Calls []) needs = absurd needs
needs_reading left (Calls (call ∷ rest)) needs = tt
needs_reading left (CallWord call now rest) needs = absurd needs
needs_reading left (Round k rest) needs = absurd needs
needs_reading left (RoundReading k from bytes rest) needs = tt
needs_reading left (Act outcome behind) needs = absurd needs

needs_word : (left : ℕ) (need : Need) → NeedsWord need → NeedsWord (raised left need)
needs_word left (Start stood next) needs = absurd needs
needs_word left (Turns zero) needs = absurd needs
needs_word left (Turns (suc k)) needs = absurd needs
needs_word left (WordFor k now) needs = tt
needs_word left (ReceiptNow k) needs = absurd needs
needs_word left (ReadingFor k from bytes) needs = absurd needs
needs_word left (Calls rest) needs = absurd needs
needs_word left (CallWord call now rest) needs = tt
needs_word left (Round k rest) needs = absurd needs
needs_word left (RoundReading k from bytes rest) needs = absurd needs
needs_word left (Act outcome behind) needs = absurd needs

needs_count : (left : ℕ) (need : Need) → NeedsCount need → NeedsCount (raised left need)
needs_count left (Start stood next) needs = absurd needs
needs_count left (Turns zero) needs = absurd (omega (arith, needs))
needs_count left (Turns (suc k)) needs = omega arith
needs_count left (WordFor k now) needs = absurd needs
needs_count left (ReceiptNow k) needs = absurd needs
needs_count left (ReadingFor k from bytes) needs = absurd needs
needs_count left (Calls []) needs = absurd needs
needs_count left (Calls (call ∷ rest)) needs = tt
needs_count left (CallWord call now rest) needs = absurd needs
needs_count left (Round k rest) needs = absurd needs
needs_count left (RoundReading k from bytes rest) needs = absurd needs
needs_count left (Act outcome behind) needs = absurd needs

needs_disk : (left : ℕ) (need : Need) → NeedsDisk need → NeedsDisk (raised left need)
needs_disk left (Start stood next) needs = tt
needs_disk left (Turns zero) needs = absurd (omega (arith, needs))
needs_disk left (Turns (suc k)) needs = omega arith
needs_disk left (WordFor k now) needs = absurd needs
needs_disk left (ReceiptNow k) needs = absurd needs
needs_disk left (ReadingFor k from bytes) needs = absurd needs
needs_disk left (Calls []) needs = absurd needs
needs_disk left (Calls (call ∷ rest)) needs = tt
needs_disk left (CallWord call now rest) needs = absurd needs
needs_disk left (Round k rest) needs = absurd needs
needs_disk left (RoundReading k from bytes rest) needs = absurd needs
needs_disk left (Act outcome behind) needs = absurd needs

needs_mark : (left : ℕ) (need : Need) → NeedsMark need → NeedsMark (raised left need)
needs_mark left (Start stood next) needs = tt
needs_mark left (Turns zero) needs = absurd needs
needs_mark left (Turns (suc k)) needs = absurd needs
needs_mark left (WordFor k now) needs = absurd needs
needs_mark left (ReceiptNow k) needs = absurd needs
needs_mark left (ReadingFor k from bytes) needs = absurd needs
needs_mark left (Calls rest) needs = absurd needs
needs_mark left (CallWord call now rest) needs = absurd needs
needs_mark left (Round k rest) needs = absurd needs
needs_mark left (RoundReading k from bytes rest) needs = absurd needs
needs_mark left (Act outcome behind) needs = absurd needs

raised_receipt : (left : ℕ) (need : Need) → NeedsReceipt need → NeedsReceipt (raised left need)
raised_receipt left (Start stood next) needs = absurd needs
raised_receipt left (Turns zero) needs = absurd needs
raised_receipt left (Turns (suc k)) needs = absurd needs
raised_receipt left (WordFor k now) needs = absurd needs
raised_receipt left (ReceiptNow k) needs = tt
raised_receipt left (ReadingFor k from bytes) needs = absurd needs
raised_receipt left (Calls rest) needs = absurd needs
raised_receipt left (CallWord call now rest) needs = absurd needs
raised_receipt left (Round k rest) needs = absurd needs
raised_receipt left (RoundReading k from bytes rest) needs = absurd needs
raised_receipt left (Act outcome behind) needs = absurd needs

raised_calls : (left : ℕ) (need : Need) → IsInCalls need → IsInCalls (raised left need)
raised_calls left (Start stood next) needs = absurd needs
raised_calls left (Turns zero) needs = absurd needs
raised_calls left (Turns (suc k)) needs = absurd needs
raised_calls left (WordFor k now) needs = absurd needs
raised_calls left (ReceiptNow k) needs = absurd needs
raised_calls left (ReadingFor k from bytes) needs = absurd needs
raised_calls left (Calls rest) needs = tt
raised_calls left (CallWord call now rest) needs = absurd needs
raised_calls left (Round k rest) needs = tt
raised_calls left (RoundReading k from bytes rest) needs = absurd needs
raised_calls left (Act outcome behind) needs = absurd needs

raised_between : (left : ℕ) (need : Need) → IsBetween need → IsBetween (raised left need)
raised_between left (Start stood next) needs = absurd needs
raised_between left (Turns zero) needs = tt
raised_between left (Turns (suc k)) needs = tt
raised_between left (WordFor k now) needs = absurd needs
raised_between left (ReceiptNow k) needs = absurd needs
raised_between left (ReadingFor k from bytes) needs = absurd needs
raised_between left (Calls rest) needs = tt
raised_between left (CallWord call now rest) needs = absurd needs
raised_between left (Round k rest) needs = tt
raised_between left (RoundReading k from bytes rest) needs = absurd needs
raised_between left (Act outcome behind) needs = absurd needs

raised_behind : (left : ℕ) (need : Need) (event : Event) → IsBehind event need → IsBehind event (raised left need)
raised_behind left need (Life now mark) behind = tt
raised_behind left need (Tick now word) behind = raised_receipt left need behind
raised_behind left need (Resync now word flags) behind = raised_calls left need behind
raised_behind left need (Arrive now from bytes) behind = raised_between left need behind

raised_does : (left : ℕ) (need : Need) (event : Event) → IsToDo event need → IsToDo event (raised left need)
raised_does left (Start stood next) event does = absurd does
raised_does left (Turns k) event does = absurd does
raised_does left (WordFor k now) event does = absurd does
raised_does left (ReceiptNow k) event does = absurd does
raised_does left (ReadingFor k from bytes) event does = absurd does
raised_does left (Calls rest) event does = absurd does
raised_does left (CallWord call now rest) event does = absurd does
raised_does left (Round k rest) event does = absurd does
raised_does left (RoundReading k from bytes rest) event does = absurd does
raised_does left (Act outcome behind) event does = raised_behind left behind event does

raised_ends : (left : ℕ) (why : Why) (deeds : List Deed) (ending : Ending) (taken : List Event) (need : Need) (a b : Faults) → all_done deeds ending ≡ map Take taken
    → LifeEndsBy why ending need a b → LifeEndsBy why ending (raised left need) a b
raised_ends left Done deeds ending taken need a b takes ends = ends
raised_ends left DiskFault deeds ending taken need a b takes ends = (ends.0, needs_disk left need ends.1, ends.2)
raised_ends left BadVersion deeds ending taken need a b takes ends = (ends.0, needs_mark left need ends.1, ends.2)
raised_ends left StampsSpent deeds ending taken need a b takes ends = (ends.0, needs_count left need ends.1, ends.2)
raised_ends left ClockFault deeds ending taken need a b takes ends = (ends.0, needs_reading left need ends.1, ends.2)
raised_ends left EntropyFault deeds ending taken need a b takes ends = (ends.0, needs_word left need ends.1, ends.2)
raised_ends left SinkFault deeds ending taken need a b takes ends = (stops_as (raised left) deeds ending taken need takes (raised_behind left need) (raised_does left need) ends.0, ends.1)

-- where no event of a turn was taken, its Tick was not
none_before : {conf : Conf} {history : History} {cs : List ClockCall} {ws : List ℕ} {ls : List LinkCall} {es : List Event} {need : Need} (left : ℕ)
    → Weaves conf (Turns 1) history cs ws ls es need → es ≡ [] → IsBeforeRequest Whole (raised left need)
none_before left none nothing = omega arith
none_before left (reads none) nothing = tt
none_before left (reads (draws rest)) nothing = absurd (let bad : ⊥ = cc in bad)

record_before : {conf : Conf} {history : History} {cs : List ClockCall} {ws : List ℕ} {ls : List LinkCall} {es : List Event} {need : Need} (left front : ℕ) (event : Event)
    → Weaves conf (Turns 1) history cs ws ls es need → es ≡ event ∷ [] → IsBeforeRequest (NoRecord event front) (raised left need)
record_before left front event none only = absurd (let bad : ⊥ = cc in bad)
record_before left front event (reads none) only = absurd (let bad : ⊥ = cc in bad)
record_before {need = need} left front event (reads {now = now} (draws {word = word} {es = es} rest)) only =
    let first : Tick now word ≡ event = let same : Tick now word ∷ es ≡ event ∷ [] = only in cc in
    subst (λ (e : Event). IsBeforeRequest (NoRecord e front) (raised left need)) first tt

before_tick : {conf : Conf} {history : History} {cs : List ClockCall} {ws : List ℕ} {ls : List LinkCall} {need : Need} (left : ℕ) (deeds : List Deed) (ending : Ending) (taken : List Event)
    → all_done deeds ending ≡ map Take taken → Weaves conf (Turns 1) history cs ws ls (events_given deeds ending) need → taken ≡ [] → IsBeforeRequest ending (raised left need)
before_tick left deeds Whole taken takes weaves nothing = none_before left weaves (given_are deeds Whole taken takes ∙ append-nil taken ∙ nothing)
before_tick left deeds (NoRecord event front) taken takes weaves nothing =
    record_before left front event weaves (given_are deeds (NoRecord event front) taken takes ∙ ap (λ (l : List Event). l ++ event ∷ []) nothing)
before_tick left [] (NoLine deed front) taken takes weaves nothing =
    absurd (let no : deed ∷ [] ≡ [] = takes ∙ ap (map Take) nothing in let bad : ⊥ = cc in bad)
before_tick left (d ∷ ds) (NoLine deed front) taken takes weaves nothing =
    absurd (let no : d ∷ (ds ++ deed ∷ []) ≡ [] = takes ∙ ap (map Take) nothing in let bad : ⊥ = cc in bad)

-- a turn, with so many left behind it
pub raised_runs : (conf : Conf) (left : ℕ) (history : History) (a b : Seen) (kept kept' : ℕ) (old new : LifeEnd) (why : Why)
    → Runs conf (Turns 1) (Turns 0) history a b kept kept' old new why → Runs conf (Turns (suc left)) (Turns left) history a b kept kept' old new why
raised_runs conf left history a b kept kept' old new why r = record {
  given = r.given;
  deeds = r.deeds;
  ending = r.ending;
  need = raised left r.need;
  weaves = raise r.weaves;
  does = r.does;
  taken = r.taken;
  takes = r.takes;
  grows = r.grows;
  tallies = r.tallies;
  ends = raised_ends left why r.deeds r.ending r.taken r.need (faults_of a) (faults_of b) r.takes r.ends;
  last_call = r.last_call;
  well = λ is. ap (raised left) (r.well is);
  reserved = r.reserved;
}

-- of a part that ends in a fault nothing more is said of what is needed behind it
pub runs_short : (conf : Conf) (from next next' : Need) (history : History) (a b : Seen) (kept kept' : ℕ) (old new : LifeEnd) (why : Why) → why ≢ Done
    → Runs conf from next history a b kept kept' old new why → Runs conf from next' history a b kept kept' old new why
runs_short conf from next next' history a b kept kept' old new why not r = record {
  given = r.given;
  deeds = r.deeds;
  ending = r.ending;
  need = r.need;
  weaves = r.weaves;
  does = r.does;
  taken = r.taken;
  takes = r.takes;
  grows = r.grows;
  tallies = r.tallies;
  ends = r.ends;
  last_call = r.last_call;
  well = λ is. absurd (not is);
  reserved = r.reserved;
}

-- nothing was done
unfoldable pub runs_none : (conf : Conf) (need : Need) (history : History) (now : Seen) (kept : ℕ) (end : LifeEnd) → Grows conf history
    → Runs conf need need history now now kept kept end end Done
runs_none conf need history now kept end grows = record {
  given = nothing;
  deeds = [];
  ending = Whole;
  need = need;
  weaves = none;
  does = does_none conf history now;
  taken = [];
  takes = refl;
  grows = grows;
  tallies = tallies_none conf history end;
  ends = (tt, refl);
  last_call = tt;
  well = λ is. refl;
  reserved = λ is was. was;
}

-- ---- The counts of a run

-- the last count, in the words of the history
pub last_is : (running : Running) (conf : Conf) (history : History) → conf_of (member_of running) ≡ conf → StandsForHistory (member_of running) history
    → running.last ≡ last_count (words_of running.member) → running.last ≡ unwrap_or (mark_in conf history) 0 + sends_in conf history
unfolding words
last_is running conf history same stands last =
    let P : Conf → Type 0 = λ (c : Conf). running.last ≡ unwrap_or (mark_in c history) 0 + sends_in c history in
    subst P same (last ∙ ap last_count stands.keeps)

-- the counts that were reserved are used up where the requests fill their blocks
pub used_up : (running : Running) (conf : Conf) (history : History) → running.last ≡ unwrap_or (mark_in conf history) 0 + sends_in conf history
    → Reserved (kept_of running) (told conf history) → IsUsedUp running → sends_in conf history ≡ 64 * blocks_in conf history
used_up running conf history last reserved used = omega (arith, last, reserved.blocks, used)

-- ---- Turns

-- the end of the last block that was reserved
abbrev pub block_end : Conf → History → ℕ
block_end conf history = unwrap_or (mark_in conf history) 0 + 64 * blocks_in conf history

-- so many turns were taken after a history, and so many are left
pub record Turned (turns left : ℕ) (history : History) (old new : Running) (entry exit : DiskTold) (before now : Seen) : Type 0 where
  pub part : Part (conf_of (member_of old)) (Turns turns) (Turns left) history before now (member_of new) (kept_of old) (kept_of new) (totals_of old) (totals_of new) Done
  pub calls : Reserved (kept_of old) (told (conf_of (member_of old)) history)
      → exit.time + 5 * blocks_in (conf_of (member_of old)) history
      ≤ entry.time + 5 * blocks_in (conf_of (member_of old)) (history_after history (all_done part.runs.deeds part.runs.ending))
  pub most : Reserved (kept_of old) (told (conf_of (member_of old)) history)
      → LeavesOnly entry exit (λ image. mark_of_image image ≤ block_end (conf_of (member_of old)) (history_after history (all_done part.runs.deeds part.runs.ending)))

pub turned_none : (turns : ℕ) (history : History) (running : Running) (disk : DiskTold) (now : Seen) → IsDisk disk → IsGoing disk running → StandsForHistory (member_of running) history
    → Turned turns turns history running running disk disk now now
unfolding runs_none
turned_none turns history running disk now is going stands = record {
  part = record {
    runs = runs_none (conf_of (member_of running)) (Turns turns) history now (kept_of running) (totals_of running) stands.grows;
    is_set = refl;
    stands = stands;
  };
  calls = λ was. omega arith;
  most = λ was.
      started disk (λ image. mark_of_image image ≤ block_end (conf_of (member_of running)) history) is
      (λ image left. let blocks = was.blocks in omega (arith, going.fits.stands image left, blocks));
}

-- a call's part, under the configuration of the run
pub part_under : (conf : Conf) (old new : Running) (from next : Need) (a b : Seen) (why : Why) → conf_of (member_of old) ≡ conf → IsPart old new from next a b why
    → (history : History) → StandsForHistory (member_of old) history
    → Part conf from next history a b (member_of new) (kept_of old) (kept_of new) (totals_of old) (totals_of new) why
part_under conf old new from next a b why same part history stands =
    let P : Conf → Type 0 = λ (c : Conf). Part c from next history a b (member_of new) (kept_of old) (kept_of new) (totals_of old) (totals_of new) why in
    subst P same (part history stands)

-- one turn more, whatever it answers
pub record TurnsOn (turns left : ℕ) (history between : History) (old new : Running) (before now : Seen) (why : Why) : Type 0 where
  pub part : Part (conf_of (member_of old)) (Turns turns) (Turns left) history before now (member_of new) (kept_of old) (kept_of new) (totals_of old) (totals_of new) why
  pub taken : List Event
  pub later : NoLife taken
  pub ends : history_after history (all_done part.runs.deeds part.runs.ending) ≡ followed_by between taken
  pub whole : why ≡ Done → 1 + sends_in (conf_of (member_of old)) between / 64 ≤ blocks_in (conf_of (member_of old)) (followed_by between taken)
  pub disk : why ≡ DiskFault → taken ≡ []
  pub spent : why ≡ StampsSpent → taken ≡ []
  pub turn : IsTurn taken
  pub first : taken ≡ [] → IsBeforeRequest part.runs.ending part.runs.need

turns_on : (turns left : ℕ) (history : History) (old mid new : Running) (a b c : Seen) (why : Why)
    (one : Part (conf_of (member_of old)) (Turns turns) (Turns (suc left)) history a b (member_of mid) (kept_of old) (kept_of mid) (totals_of old) (totals_of mid) Done)
    → ((k : ℕ) → IsPart mid new (Turns (suc k)) (Turns k) b c why)
    → TurnsOn turns left history (history_after history (all_done one.runs.deeds one.runs.ending)) old new a c why
unfolding raised_runs
turns_on turns left history old mid new a b c why one turn =
    let conf = conf_of (member_of old) in
    let between = history_after history (all_done one.runs.deeds one.runs.ending) in
    let two = part_under conf mid new (Turns 1) (Turns 0) b c why one.is_set (turn 0) between one.stands in
    let r = two.runs in
    let raised = raised_runs conf left between b c (kept_of mid) (kept_of new) (totals_of mid) (totals_of new) why r in
    let both = runs_then conf (Turns turns) (Turns (suc left)) (Turns left) history a b c (kept_of old) (kept_of mid) (kept_of new) (totals_of old) (totals_of mid) (totals_of new) why one.runs raised in
    let Ends : Why → Type 0 = λ (w : Why). LifeEndsBy w r.ending r.need (faults_of b) (faults_of c) in
    record {
      part = record {
        runs = both.0;
        is_set = two.is_set;
        stands = subst (λ (h : History). StandsForHistory (member_of new) h) (sym both.1) two.stands;
      };
      taken = r.taken;
      later = later_taken conf 1 between r.given.clock r.given.words r.given.link r.deeds r.ending r.need r.taken r.takes r.weaves;
      ends = both.1 ∙ taken_history between r.deeds r.ending r.taken r.takes;
      whole = λ is.
          let ends : LifeEndsBy Done r.ending r.need (faults_of b) (faults_of c) = subst Ends is r.ends in
          turn_blocks conf 0 between r.given.clock r.given.words r.given.link r.deeds r.ending r.need r.taken r.weaves (r.well is) ends.0 r.takes;
      disk = λ is.
          let ends : LifeEndsBy DiskFault r.ending r.need (faults_of b) (faults_of c) = subst Ends is r.ends in
          sym (whole_given r.deeds r.ending r.taken ends.0 r.takes) ∙ not_begun r.weaves ends.1;
      spent = λ is.
          let ends : LifeEndsBy StampsSpent r.ending r.need (faults_of b) (faults_of c) = subst Ends is r.ends in
          sym (whole_given r.deeds r.ending r.taken ends.0 r.takes) ∙ not_counted r.weaves ends.1;
      turn = turn_taken conf between r.given.clock r.given.words r.given.link r.deeds r.ending r.need r.taken r.takes r.weaves;
      first = λ nothing. rw (both.2, both.3) (before_tick left r.deeds r.ending r.taken r.takes r.weaves nothing);
    }

-- the counts of the run between its turns, in the words of the history
pub record Counted (running : Running) (conf : Conf) (history : History) : Type 0 where
  pub last : running.last ≡ unwrap_or (mark_in conf history) 0 + sends_in conf history
  pub reserved : Reserved (kept_of running) (told conf history)

-- what the disk's calls of one turn come to
pub calls_on : (conf : Conf) (between : History) (taken : List Event) (mid : Running) (e m x : DiskTold) (blocks : ℕ) → NoLife taken → Counted mid conf between
    → CallsWhereDue mid m x → m.time + 5 * blocks ≤ e.time + 5 * blocks_in conf between
    → 1 + sends_in conf between / 64 ≤ blocks_in conf (followed_by between taken)
    → x.time + 5 * blocks ≤ e.time + 5 * blocks_in conf (followed_by between taken)
calls_on conf between taken mid e m x blocks later counted (inl same) was ticked =
    omega (arith, same, was, blocks_stay conf between taken later)
calls_on conf between taken mid e m x blocks later counted (inr due) was ticked =
    omega (arith, due.1, was, ticked, used_up mid conf between counted.last counted.reserved due.0)

pub calls_fail : (conf : Conf) (between : History) (taken : List Event) (mid : Running) (e m x : DiskTold) (blocks : ℕ) → NoLife taken → Counted mid conf between
    → CallsWhereDue mid m x → m.time + 5 * blocks ≤ e.time + 5 * blocks_in conf between
    → x.time + 5 * blocks ≤ e.time + 5 * (1 + sends_in conf (followed_by between taken) / 64)
calls_fail conf between taken mid e m x blocks later counted (inl same) was =
    omega (arith, same, was, sends_rise conf between taken later, blocks_low (life_at (told conf between)))
calls_fail conf between taken mid e m x blocks later counted (inr due) was =
    omega (arith, due.1, was, sends_rise conf between taken later, used_up mid conf between counted.last counted.reserved due.0)

-- what they come to, block by block, whether the turn was taken or not
pub blocks_on : (why : Why) (ending : Ending) (need : Need) (conf : Conf) (between : History) (taken : List Event) (mid : Running) (e m x : DiskTold) (blocks : ℕ) → NoLife taken → Counted mid conf between
    → CallsWhereDue mid m x → m.time + 5 * blocks ≤ e.time + 5 * blocks_in conf between
    → (taken ≡ []) ⊎ (blocks_in conf (followed_by between taken) ≡ 1 + sends_in conf between / 64) → (taken ≡ [] → IsBeforeRequest ending need)
    → (why ≡ StampsSpent → x.time ≡ m.time) → (why ≡ StampsSpent) ⊎ (why ≢ StampsSpent)
    → CallsForBlocks why ending need (life_at (told conf (followed_by between taken))) e.time (x.time + 5 * blocks)
blocks_on why ending need conf between taken mid e m x blocks later counted (inl same) was reserves before still spent =
    inl (omega (arith, same, was, blocks_stay conf between taken later))
blocks_on why ending need conf between taken mid e m x blocks later counted (inr due) was reserves before still (inl is) =
    inl (omega (arith, still is, was, blocks_stay conf between taken later))
blocks_on why ending need conf between taken mid e m x blocks later counted (inr due) was (inr more) before still (inr other) =
    inl (omega (arith, due.1, was, more, used_up mid conf between counted.last counted.reserved due.0))
blocks_on why ending need conf between taken mid e m x blocks later counted (inr due) was (inl nothing) before still (inr other) =
    rw nothing
    (inr ((is_due (life_at (told conf between)) (used_up mid conf between counted.last counted.reserved due.0), before nothing, other), omega (arith, due.1, was)))

pub spent_or_other : (why : Why) → (why ≡ StampsSpent) ⊎ (why ≢ StampsSpent)
spent_or_other StampsSpent = inl refl
spent_or_other Done = inr (λ is. let bad : ⊥ = cc in bad)
spent_or_other DiskFault = inr (λ is. let bad : ⊥ = cc in bad)
spent_or_other BadVersion = inr (λ is. let bad : ⊥ = cc in bad)
spent_or_other ClockFault = inr (λ is. let bad : ⊥ = cc in bad)
spent_or_other EntropyFault = inr (λ is. let bad : ⊥ = cc in bad)
spent_or_other SinkFault = inr (λ is. let bad : ⊥ = cc in bad)

-- the counts that are reserved behind a turn are numbers of 32 bits
room_by : (mark sends blocks behind last kept : ℕ) → kept < 2 ^ 32 → last ≤ kept → last ≡ mark + sends → kept ≡ mark + 64 * blocks → behind ≡ 1 + sends / 64
    → (last ≡ kept → kept ≤ 4294967231) → (last < kept) ⊎ (kept ≤ last) → mark + 64 * behind < 2 ^ 32
room_by mark sends blocks behind last kept below covered is reserved more room (inl less) = omega (arith, below, less, is, reserved, more)
room_by mark sends blocks behind last kept below covered is reserved more room (inr all) =
    let used : last ≡ kept = omega (arith, all, covered) in
    omega (arith, room used, used, is, reserved, more)

-- where something was taken, the counts were not spent
not_spent : (why : Why) (taken : List Event) (mid : Running) → taken ≢ [] → (why ≡ StampsSpent → taken ≡ []) → (IsUsedUp mid → 4294967231 < kept_of mid → why ≡ StampsSpent)
    → (4294967231 < kept_of mid) ⊎ (kept_of mid ≤ 4294967231) → IsUsedUp mid → kept_of mid ≤ 4294967231
not_spent why taken mid some empty spends (inl high) used = absurd (some (empty (spends used high)))
not_spent why taken mid some empty spends (inr low) used = low

pub room_on : (why : Why) (conf : Conf) (between : History) (taken : List Event) (mid : Running) → NoLife taken → Counted mid conf between
    → (why ≡ StampsSpent → taken ≡ []) → (IsUsedUp mid → 4294967231 < kept_of mid → why ≡ StampsSpent) → mid.last ≤ kept_of mid → kept_of mid < 2 ^ 32
    → (taken ≡ []) ⊎ (blocks_in conf (followed_by between taken) ≡ 1 + sends_in conf between / 64) → (taken ≢ []) ⊎ (taken ≡ [])
    → unwrap_or (mark_in conf (followed_by between taken)) 0 + 64 * blocks_in conf (followed_by between taken) < 2 ^ 32
room_on why conf between taken mid later counted empty spends covered below reserves (inr nothing) =
    let blocks = counted.reserved.blocks in
    rw nothing (omega (arith, below, blocks))
room_on why conf between taken mid later counted empty spends covered below (inl nothing) (inl some) = absurd (some nothing)
room_on why conf between taken mid later counted empty spends covered below (inr more) (inl some) =
    let room = not_spent why taken mid some empty spends (cases_lt 4294967231 (kept_of mid)) in
    let all = room_by (unwrap_or (mark_in conf between) 0) (sends_in conf between) (blocks_in conf between) (blocks_in conf (followed_by between taken)) mid.last (kept_of mid)
    below covered counted.last counted.reserved.blocks more room (cases_lt mid.last (kept_of mid)) in
    let stays = ap (λ (o : Option ℕ). unwrap_or o 0) (mark_stays conf between taken later) in
    omega (arith, all, stays)

-- no image of a whole turn stands for more than the blocks that are reserved behind it
pub most_on : (conf : Conf) (between : History) (taken : List Event) (mid : Running) (count : ℕ) → NoLife taken → Counted mid conf between
    → 1 + sends_in conf between / 64 ≤ blocks_in conf (followed_by between taken)
    → (count ≤ kept_of mid) ⊎ (IsUsedUp mid × (count ≤ kept_of mid + 64))
    → count ≤ block_end conf (followed_by between taken)
most_on conf between taken mid count later counted ticked (inl low) =
    let blocks = counted.reserved.blocks in
    let stays = ap (λ (o : Option ℕ). unwrap_or o 0) (mark_stays conf between taken later) in
    omega (arith, low, blocks, stays, blocks_stay conf between taken later)
most_on conf between taken mid count later counted ticked (inr due) =
    let blocks = counted.reserved.blocks in
    let stays = ap (λ (o : Option ℕ). unwrap_or o 0) (mark_stays conf between taken later) in
    let full = used_up mid conf between counted.last counted.reserved due.0 in
    omega (arith, due.1, blocks, stays, full, ticked)

pub some_or_none : {A : Type 0} (es : List A) → (es ≢ []) ⊎ (es ≡ [])
some_or_none [] = inr refl
some_or_none (e ∷ es) = inl (λ is. let bad : ⊥ = cc is in bad)

-- nor one of the turns before
pub low_on : (conf : Conf) (between : History) (taken : List Event) (count : ℕ) → NoLife taken → count ≤ block_end conf between → count ≤ block_end conf (followed_by between taken)
low_on conf between taken count later low =
    let stays = ap (λ (o : Option ℕ). unwrap_or o 0) (mark_stays conf between taken later) in
    omega (arith, low, stays, blocks_stay conf between taken later)

pub moments_on : (conf : Conf) (between : History) (taken : List Event) (mid : Running) (e m x : DiskTold) → NoLife taken → Counted mid conf between
    → 1 + sends_in conf between / 64 ≤ blocks_in conf (followed_by between taken)
    → LeavesOnly e m (λ image. mark_of_image image ≤ block_end conf between) → RisesWhereDue mid m x
    → LeavesOnly e x (λ image. mark_of_image image ≤ block_end conf (followed_by between taken))
moments_on conf between taken mid e m x later counted ticked first next =
    and_then first next (λ image low. low_on conf between taken (mark_of_image image) later low)
    (λ image rises. most_on conf between taken mid (mark_of_image image) later counted ticked rises)

-- of a turn that ends the run, an image stands for a block more where its Tick was not taken
pub stands_on : (why : Why) (ending : Ending) (need : Need) (conf : Conf) (between : History) (taken : List Event) (mid : Running) (image : List ℕ) → NoLife taken → Counted mid conf between
    → (taken ≡ []) ⊎ (blocks_in conf (followed_by between taken) ≡ 1 + sends_in conf between / 64) → (taken ≡ [] → IsBeforeRequest ending need) → why ≢ StampsSpent
    → (mark_of_image image ≤ kept_of mid) ⊎ (IsUsedUp mid × (mark_of_image image ≤ kept_of mid + 64))
    → StandsForBlocks why ending need (life_at (told conf (followed_by between taken))) (unwrap_or (mark_in conf (followed_by between taken)) 0) image
stands_on why ending need conf between taken mid image later counted reserves before other (inl low) =
    let blocks = counted.reserved.blocks in
    inl (low_on conf between taken (mark_of_image image) later (omega (arith, low, blocks)))
stands_on why ending need conf between taken mid image later counted (inr more) before other (inr due) =
    inl (most_on conf between taken mid (mark_of_image image) later counted (omega (arith, more)) (inr due))
stands_on why ending need conf between taken mid image later counted (inl nothing) before other (inr due) =
    let blocks = counted.reserved.blocks in
    let is = is_due (life_at (told conf between)) (used_up mid conf between counted.last counted.reserved due.0) in
    rw nothing (inr ((is, before nothing, other), omega (arith, due.1, blocks)))

-- where no mark is left the disk is as before
pub moments_end : (why : Why) (ending : Ending) (need : Need) (conf : Conf) (between : History) (taken : List Event) (mid : Running) (e m x : DiskTold) → NoLife taken → Counted mid conf between
    → LeavesOnly e m (λ image. mark_of_image image ≤ block_end conf between) → RisesWhereDue mid m x
    → (taken ≡ []) ⊎ (blocks_in conf (followed_by between taken) ≡ 1 + sends_in conf between / 64) → (taken ≡ [] → IsBeforeRequest ending need)
    → (why ≡ StampsSpent → x ≡ m) → (why ≡ StampsSpent) ⊎ (why ≢ StampsSpent)
    → LeavesOnly e x (StandsForBlocks why ending need (life_at (told conf (followed_by between taken))) (unwrap_or (mark_in conf (followed_by between taken)) 0))
moments_end why ending need conf between taken mid e m x later counted first next reserves before still (inl is) =
    rw (still is) (weaker first (λ image low. inl (low_on conf between taken (mark_of_image image) later low)))
moments_end why ending need conf between taken mid e m x later counted first next reserves before still (inr other) =
    and_then first next (λ image low. inl (low_on conf between taken (mark_of_image image) later low))
    (λ image rises. stands_on why ending need conf between taken mid image later counted reserves before other rises)

pub turned_on : (turns left : ℕ) (history : History) (old mid new : Running) (e m x : DiskTold) (a b c : Seen)
    → Turned turns (suc left) history old mid e m a b → mid.last ≡ last_count (words_of mid.member) → CallsWhereDue mid m x → RisesWhereDue mid m x
    → ((k : ℕ) → IsPart mid new (Turns (suc k)) (Turns k) b c Done)
    → Turned turns left history old new e x a c
turned_on turns left history old mid new e m x a b c was last calls rises turn =
    let conf = conf_of (member_of old) in
    let one = was.part in
    let between = history_after history (all_done one.runs.deeds one.runs.ending) in
    let on = turns_on turns left history old mid new a b c Done one turn in
    record {
      part = on.part;
      calls = λ reserved.
          let counted : Counted mid conf between = record {
            last = last_is mid conf between one.is_set one.stands last;
            reserved = one.runs.reserved refl reserved;
          } in
          let all = calls_on conf between on.taken mid e m x (blocks_in conf history) on.later counted calls (was.calls reserved) (on.whole refl) in
          rw on.ends all;
      most = λ reserved.
          let counted : Counted mid conf between = record {
            last = last_is mid conf between one.is_set one.stands last;
            reserved = one.runs.reserved refl reserved;
          } in
          let P : History → Type 0 = λ (h : History). LeavesOnly e x (λ image. mark_of_image image ≤ block_end conf h) in
          subst P (sym on.ends) (moments_on conf between on.taken mid e m x on.later counted (on.whole refl) (was.most reserved) rises);
    }

-- what the answers that speak of the disk say
pub due_by : (why : Why) (conf : Conf) (between : History) (taken : List Event) (mid : Running) → Counted mid conf between
    → (why ≡ DiskFault → taken ≡ []) → (why ≡ StampsSpent → taken ≡ []) → why ≢ BadVersion
    → (why ≡ DiskFault → IsUsedUp mid) → (why ≡ StampsSpent → IsUsedUp mid × (4294967231 < kept_of mid))
    → DueBy why (told conf (followed_by between taken))
due_by Done conf between taken mid counted first empty never used spent = tt
due_by DiskFault conf between taken mid counted first empty never used spent =
    rw (first refl) (is_due (life_at (told conf between)) (used_up mid conf between counted.last counted.reserved (used refl)))
due_by BadVersion conf between taken mid counted first empty never used spent = absurd (never refl)
due_by StampsSpent conf between taken mid counted first empty never used spent =
    let full = used_up mid conf between counted.last counted.reserved (spent refl).0 in
    let blocks = counted.reserved.blocks in
    let above = (spent refl).1 in
    rw (empty refl) (is_due (life_at (told conf between)) full, omega (arith, full, blocks, above))
due_by ClockFault conf between taken mid counted first empty never used spent = tt
due_by EntropyFault conf between taken mid counted first empty never used spent = tt
due_by SinkFault conf between taken mid counted first empty never used spent = tt

-- a turn that ends the run
pub turns_end : (turns left : ℕ) (history : History) (old mid new : Running) (e m x : DiskTold) (a b c : Seen) (why : Why) → why ≢ Done → why ≢ BadVersion
    → Turned turns (suc left) history old mid e m a b → mid.last ≡ last_count (words_of mid.member) → CallsWhereDue mid m x
    → (why ≡ DiskFault → IsUsedUp mid) → why ≡ StampsSpent ↔ (IsUsedUp mid × (4294967231 < kept_of mid)) → mid.last ≤ kept_of mid → kept_of mid < 2 ^ 32
    → RisesWhereDue mid m x → (why ≡ StampsSpent → x ≡ m) → ((k : ℕ) → IsPart mid new (Turns (suc k)) (Turns k) b c why)
    → TakesTurns turns history old new e x a c why
unfolding runs_short
turns_end turns left history old mid new e m x a b c why not never was last calls used spent covered below rises still turn =
    let conf = conf_of (member_of old) in
    let one = was.part in
    let between = history_after history (all_done one.runs.deeds one.runs.ending) in
    let on = turns_on turns left history old mid new a b c why one turn in
    record {
      part = record {
        runs = runs_short conf (Turns turns) (Turns left) (Turns 0) history a c (kept_of old) (kept_of new) (totals_of old) (totals_of new) why not on.part.runs;
        is_set = on.part.is_set;
        stands = on.part.stands;
      };
      disk = λ reserved.
          let counted : Counted mid conf between = record {
            last = last_is mid conf between one.is_set one.stands last;
            reserved = one.runs.reserved refl reserved;
          } in
          let all = calls_fail conf between on.taken mid e m x (blocks_in conf history) on.later counted calls (was.calls reserved) in
          let due = due_by why conf between on.taken mid counted on.disk on.spent never used spent.0 in
          let room = room_on why conf between on.taken mid on.later counted on.spent (λ used high. spent.1 (used, high)) covered below (turn_reserves conf between on.taken on.turn) (some_or_none on.taken) in
          record {
            calls = rw on.ends all;
            within = rw on.ends room;
            due = rw on.ends due;
          };
      blocks = λ reserved.
          let counted : Counted mid conf between = record {
            last = last_is mid conf between one.is_set one.stands last;
            reserved = one.runs.reserved refl reserved;
          } in
          let all = blocks_on why on.part.runs.ending on.part.runs.need conf between on.taken mid e m x (blocks_in conf history) on.later counted calls (was.calls reserved)
          (turn_reserves conf between on.taken on.turn) on.first (λ is. ap (λ (d : DiskTold). d.time) (still is)) (spent_or_other why) in
          rw on.ends all;
      most = λ reserved.
          let counted : Counted mid conf between = record {
            last = last_is mid conf between one.is_set one.stands last;
            reserved = one.runs.reserved refl reserved;
          } in
          let P : History → Type 0 = λ (h : History). LeavesOnly e x (StandsForBlocks why on.part.runs.ending on.part.runs.need (life_at (told conf h)) (unwrap_or (mark_in conf h) 0)) in
          subst P (sym on.ends)
          (moments_end why on.part.runs.ending on.part.runs.need conf between on.taken mid e m x on.later counted (was.most reserved) rises
          (turn_reserves conf between on.taken on.turn) on.first still (spent_or_other why));
    }

-- all turns were taken
pub turns_done : (turns : ℕ) (history : History) (old new : Running) (e x : DiskTold) (a b : Seen) → Turned turns 0 history old new e x a b → IsGoing x new
    → TakesTurns turns history old new e x a b Done
turns_done turns history old new e x a b was going = record {
  part = was.part;
  disk = λ reserved.
      let conf = conf_of (member_of old) in
      let behind = history_after history (all_done was.part.runs.deeds was.part.runs.ending) in
      record {
        calls = omega (arith, was.calls reserved, blocks_low (life_at (told conf behind)));
        within =
            let blocks = (was.part.runs.reserved refl reserved).blocks in
            omega (arith, going.below, blocks);
        due = tt;
      };
  blocks = λ reserved. inl (was.calls reserved);
  most = λ reserved. weaker (was.most reserved) (λ image low. inl low);
}

-- ---- The turns of a call

pub marks_stay : (disk : DiskTold) → KeepsMarks disk disk
marks_stay disk = record { least = λ image left. (image, left, omega arith) }

pub marks_then : {e m x : DiskTold} → KeepsMarks e m → KeepsMarks m x → KeepsMarks e x
marks_then first next = record {
  least = λ image left.
      let mid = next.least image left in
      let was = first.least mid.0 mid.1 in
      (was.0, was.1, omega (arith, mid.2, was.2));
}

pub loads_stay : (disk : DiskTold) → KeepsLoadable disk disk
loads_stay disk = record { each = λ image left. record { from = λ other. (image, left, other) } }

pub loads_then : {e m x : DiskTold} → KeepsLoadable e m → KeepsLoadable m x → KeepsLoadable e x
loads_then first next = record {
  each = λ image left. record {
    from = λ other.
        let mid = (next.each image left).from other in
        (first.each mid.0 mid.1).from mid.2;
  };
}

-- the images of a run that goes on stand for the greatest count that was sent
pub going_covers : (disk : DiskTold) (running : Running) → IsGoing disk running → Covers disk (greatest_of running)
going_covers disk running going = record { each = λ image left. omega (arith, going.fits.stands image left, going.within, going.begun.greatest) }

-- so many turns were taken, and the run goes on
pub record Goes (turns done : ℕ) (old new : Running) (entry exit : DiskTold) (before now : Seen → Seen) : Type 0 where
  pub left : ℕ
  pub sum : done + left ≡ turns
  pub going : IsGoing exit new
  pub turned : (others : Seen) (history : History) → StandsForHistory (member_of old) history → Turned turns left history old new entry exit (before others) (now others)
  pub least : KeepsMarks entry exit
  pub loads : KeepsLoadable entry exit
  pub unused : LeavesOnly entry exit (KeepsUnused entry)

pub goes_none : (turns : ℕ) (running : Running) (disk : DiskTold) (now : Seen → Seen) → IsDisk disk → IsGoing disk running → Goes turns 0 running running disk disk now now
goes_none turns running disk now is going = record {
  left = turns;
  sum = omega arith;
  going = going;
  turned = λ others history stands. turned_none turns history running disk (now others) is going stands;
  least = marks_stay disk;
  loads = loads_stay disk;
  unused = unused_same disk is;
}

pub one_left : (turns done left : ℕ) → done < turns → done + left ≡ turns → (k : ℕ) × (left ≡ suc k)
one_left turns done zero below sum = absurd (omega (arith, below, sum))
one_left turns done (suc k) below sum = (k, refl)

pub goes_on : (turns done : ℕ) (old mid new : Running) (e m x : DiskTold) (a b c : Seen → Seen) → done < turns → Goes turns done old mid e m a b
    → ((others : Seen) (k : ℕ) → IsPart mid new (Turns (suc k)) (Turns k) (b others) (c others) Done) → IsGoing x new → CallsWhereDue mid m x → RisesWhereDue mid m x → KeepsMarks m x → KeepsLoadable m x
    → IsDisk m → LeavesOnly m x (KeepsUnused m) → Goes turns (done + 1) old new e x a c
goes_on turns done old mid new e m x a b c below was turn going calls rises least loads is unused =
    let one = one_left turns done was.left below was.sum in
    let P : ℕ → Type 0 = λ (left : ℕ). (others : Seen) (history : History) → StandsForHistory (member_of old) history → Turned turns left history old mid e m (a others) (b others) in
    let turned : P (suc one.0) = subst P one.1 was.turned in
    record {
      left = one.0;
      sum = omega (arith, was.sum, one.1);
      going = going;
      turned = λ others history stands. turned_on turns one.0 history old mid new e m x (a others) (b others) (c others) (turned others history stands) was.going.begun.last calls rises (turn others);
      least = marks_then was.least least;
      loads = loads_then was.loads loads;
      unused = unused_then is was.unused unused;
    }

pub goes_stop : (turns done : ℕ) (old mid new : Running) (e m x : DiskTold) (a b c : Seen → Seen) (why : Why) → done < turns → Goes turns done old mid e m a b
    → why ≢ Done → why ≢ BadVersion → ((others : Seen) (k : ℕ) → IsPart mid new (Turns (suc k)) (Turns k) (b others) (c others) why) → CallsWhereDue mid m x
    → (why ≡ DiskFault → IsUsedUp mid) → why ≡ StampsSpent ↔ (IsUsedUp mid × (4294967231 < kept_of mid)) → RisesWhereDue mid m x → (why ≡ StampsSpent → x ≡ m)
    → (others : Seen) (history : History) → StandsForHistory (member_of old) history → TakesTurns turns history old new e x (a others) (c others) why
goes_stop turns done old mid new e m x a b c why below was not never turn calls used spent rises still others history stands =
    let one = one_left turns done was.left below was.sum in
    let P : ℕ → Type 0 = λ (left : ℕ). (others : Seen) (h : History) → StandsForHistory (member_of old) h → Turned turns left h old mid e m (a others) (b others) in
    let turned : P (suc one.0) = subst P one.1 was.turned in
    turns_end turns one.0 history old mid new e m x (a others) (b others) (c others) why not never (turned others history stands) was.going.begun.last calls used spent was.going.within was.going.below rises still (turn others)

pub goes_whole : (turns done : ℕ) (old new : Running) (e x : DiskTold) (a b : Seen → Seen) → done ≡ turns → Goes turns done old new e x a b
    → (others : Seen) (history : History) → StandsForHistory (member_of old) history → TakesTurns turns history old new e x (a others) (b others) Done
goes_whole turns done old new e x a b all was others history stands =
    let P : ℕ → Type 0 = λ (left : ℕ). Turned turns left history old new e x (a others) (b others) in
    turns_done turns history old new e x (a others) (b others) (subst P (let none : was.left ≡ 0 = omega (arith, was.sum, all) in none) (was.turned others history stands)) was.going
