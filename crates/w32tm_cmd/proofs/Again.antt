-- A replay writes the lines of the run.
use Rattle.std.proofs.Common.{◌≡◌, ◌+◌, ◌-◌, ◌*◌, ◌^◌, ◌<◌, ◌≤◌, ◌⊎◌, ℕ, suc, List, [], ◌∷◌, ◌++◌, length, reverse, min, Bool, true, false, if◌then◌else◌, Option, Some, refl, sym, ◌∙◌, ap, subst, arith, length-append, append_assoc, unsigned_abs}
use Rattle.std.specs.List.{AllByRecursion, flat_map}
use Rattle.std.proofs.lemmas.List.{append-nil, append_cancel_left, length-reverse}
use Rattle.base_specs.specs.Told.{Added}
use Rattle.edge_traits.specs.Clock.{ClockCall}
use Rattle.edge_traits.specs.Link.{LinkCall}
use Rattle.capture_fmt.specs.declared.event.Event.{Event}
use Rattle.capture_fmt.specs.declared.event.Event.TheVariants.{Life, Tick, Resync, Arrive}
use Rattle.capture_fmt.specs.Capture.{SpellsEvents, place_limit}
use Rattle.capture_fmt.specs.Event.{EventFits}
use Rattle.capture_fmt.specs.Record.{event_bytes, magic_number}
use Rattle.byte_codec.specs.Numbers.{number_bytes}
use Rattle.byte_codec.proofs.Numbers.{length-number_bytes}
use Rattle.line_text.specs.Text.{joined}
use Rattle.replay_run.specs.Totals.{AreTotals, is_refused}
use Rattle.replay_run.specs.declared.end.ReplayEnd.{ReplayEnd}
use Rattle.run_deeds.specs.Closing.{closing_by, closing_lines, link_line}
use Rattle.run_deeds.specs.Deeds.{Ending, Whole, NoRecord, NoLine, IsWhole, cut_record, missing_in, reasons_by}
use Rattle.run_deeds.specs.Devices.{LifeEndsBy, faults_of}
use Rattle.run_deeds.specs.Lives.{Effects, Reports, Totals, Woven}
use Rattle.run_deeds.specs.Weaving.{Need, Start, Stood, Turns, WordFor, ReceiptNow, ReadingFor, Act, Weaves, none, acts, life, reads, draws, gets, quiet, lost, arrives, call_reads, call_draws, round_gets, round_quiet, round_lost, round_arrives}
use Rattle.run_deeds.specs.declared.life_end.LifeEnd.{LifeEnd}
use Rattle.run_deeds.specs.declared.life_end.Why.{Why}
use Rattle.run_deeds.specs.declared.life_end.Why.TheVariants as why
use Rattle.slot_disk.specs.Told.{DiskTold}
use Rattle.time_machine.specs.declared.conf.Conf.{Conf}
use Rattle.time_machine.specs.declared.outcome.Outcome.{Outcome}
use Rattle.time_machine.specs.declared.outcome.Outcome.TheVariants.{Started, Idle, Sent, Moved, Refused}
use Rattle.time_machine.specs.Entries.{count_of, gather}
use Rattle.time_machine.specs.Events.{History}
use Rattle.time_machine.specs.Machine.{moves_by, moves_of, posted_by, requests_of, told}
use Rattle.time_machine.specs.Report.{report_of, total_line}
use Rattle.time_machine.specs.Told.{Told, has_sent, is_accepted}
use Rattle.w32tm_cmd.specs.Again.{Records, ReplaysAgain, WritesSameLines}
use Rattle.w32tm_cmd.specs.Config.{after_settings}
use Rattle.w32tm_cmd.specs.Member.{LivesUntil}
use Rattle.w32tm_cmd.specs.Replay.{IsReplayFaultless}
use Rattle.edge_seen.specs.Seen.{Seen}
use Rattle.w32tm_text.specs.declared.status.Status.{Status}
use Rattle.w32tm_text.specs.declared.status.Status.TheVariants.{Done, NoMemory}

-- ---- How many events there are at most

-- a Life, or a turn, or what follows in one
abbrev IsOfTurns : Need → Type 0
IsOfTurns (Start stood next) = IsOfTurns next
IsOfTurns (Turns left) = Unit {0}
IsOfTurns (WordFor left now) = Unit {0}
IsOfTurns (ReceiptNow left) = Unit {0}
IsOfTurns (ReadingFor left from bytes) = Unit {0}
IsOfTurns (Act outcome behind) = IsOfTurns behind
IsOfTurns _ = ⊥

-- how many events may come from there
abbrev room : Need → ℕ
room (Start stood next) = 1 + room next
room (Turns left) = 2 * left
room (WordFor left now) = 2 * left + 2
room (ReceiptNow left) = 2 * left + 1
room (ReadingFor left from bytes) = 2 * left + 1
room (Act outcome behind) = room behind
room _ = 0

room_bound : {conf : Conf} {history : History} {cs : List ClockCall} {ws : List ℕ} {ls : List LinkCall} {es : List Event} {need last : Need}
    → IsOfTurns need → Weaves conf need history cs ws ls es last → length es ≤ room need
room_bound fits none = omega arith
room_bound fits (acts tried sent s) = room_bound fits s
room_bound fits (life s) = let rest = room_bound fits s in omega (arith, rest)
room_bound fits (reads s) = let rest = room_bound tt s in omega (arith, rest)
room_bound fits (draws s) = let rest = room_bound tt s in omega (arith, rest)
room_bound fits (gets s) = let rest = room_bound tt s in omega (arith, rest)
room_bound fits (quiet s) = let rest = room_bound tt s in omega (arith, rest)
room_bound fits (lost s) = let rest = room_bound tt s in omega (arith, rest)
room_bound fits (arrives s) = let rest = room_bound tt s in omega (arith, rest)
room_bound fits (call_reads s) = absurd fits
room_bound fits (call_draws s) = absurd fits
room_bound fits (round_gets s) = absurd fits
room_bound fits (round_quiet s) = absurd fits
room_bound fits (round_lost s) = absurd fits
room_bound fits (round_arrives s) = absurd fits

-- ---- How long a capture is at most

-- a number, and then what stands behind it
number_and : (size n most : ℕ) (rest : List ℕ) → length rest ≤ most → length (number_bytes size n ++ rest) ≤ size + most
number_and size n most rest short = omega (arith, short, length-append (number_bytes size n) rest, length-number_bytes size n)

-- a record has at most 273 bytes
record_bound : (event : Event) → EventFits event → length (event_bytes event) ≤ 273
unfolding event_bytes
record_bound (Life now mark) fits =
    let last = number_and 4 mark 0 [] (omega arith) in
    let moment = number_and 8 (unsigned_abs now) 4 _ last in
    let magic = number_and 4 magic_number 12 _ moment in
    omega (arith, magic)
record_bound (Tick now word) fits =
    let last = number_and 4 word 0 [] (omega arith) in
    let moment = number_and 8 (unsigned_abs now) 4 _ last in
    omega (arith, moment)
record_bound (Resync now word flags) fits =
    let last = number_and 4 flags 0 [] (omega arith) in
    let words = number_and 4 word 4 _ last in
    let moment = number_and 8 (unsigned_abs now) 8 _ words in
    omega (arith, moment)
record_bound (Arrive now from bytes) fits =
    let count = number_and 2 (length bytes) 256 bytes fits.3 in
    let port = number_and 2 from.port 258 _ count in
    let address = number_and 4 from.ip 260 _ port in
    let moment = number_and 8 (unsigned_abs now) 264 _ address in
    omega (arith, moment)

records_bound : (events : List Event) → AllByRecursion EventFits events → length (flat_map event_bytes events) ≤ 273 * length events
records_bound [] fits = omega arith
records_bound (event ∷ events) fits =
    omega (arith, length-append (event_bytes event) (flat_map event_bytes events), record_bound event fits.0, records_bound events fits.1)

capture_bound : (events : List Event) (capture : List ℕ) → SpellsEvents events capture → length capture ≤ 273 * length events
capture_bound events capture spells = omega (arith, ap length spells.written, records_bound events spells.fits)

-- ---- Lists of what events led to, and counts of such events

counted : {A : Type 0} (f : Told → List A) (test : Told → Bool) → ((t : Told) → length (f t) ≡ (if test t then 1 else 0))
    → (ts : List Told) → length (gather f ts) ≡ count_of test ts
counted f test each [] = refl
counted f test each (t ∷ before) =
    length-append (gather f before) (f t) ∙ ap (λ (n : ℕ). n + length (f t)) (counted f test each before)
    ∙ ap (λ (n : ℕ). count_of test before + n) (each t)

counted_low : (test : Told → Bool) (ts : List Told) → count_of test ts ≤ length ts
counted_low test [] = omega arith
counted_low test (t ∷ before) = one_more (test t) (counted_low test before)
  where
    one_more : (b : Bool) → count_of test before ≤ length before → count_of test before + (if b then 1 else 0) ≤ suc (length before)
    one_more true low = omega (arith, low)
    one_more false low = omega (arith, low)

sent_each : (t : Told) → length (posted_by t.outcome) ≡ (if has_sent t then 1 else 0)
sent_each t = by_outcome t.outcome refl
  where
    by_outcome : (o : Outcome) → t.outcome ≡ o → length (posted_by t.outcome) ≡ (if has_sent t then 1 else 0)
    by_outcome (Sent to count bytes) is = rw is refl
    by_outcome (Started mark) is = rw is refl
    by_outcome Idle is = rw is refl
    by_outcome (Moved count offset how) is = rw is refl
    by_outcome (Refused reason) is = rw is refl

moved_each : (t : Told) → length (moves_by t.outcome) ≡ (if is_accepted t then 1 else 0)
moved_each t = by_outcome t.outcome refl
  where
    by_outcome : (o : Outcome) → t.outcome ≡ o → length (moves_by t.outcome) ≡ (if is_accepted t then 1 else 0)
    by_outcome (Sent to count bytes) is = rw is refl
    by_outcome (Started mark) is = rw is refl
    by_outcome Idle is = rw is refl
    by_outcome (Moved count offset how) is = rw is refl
    by_outcome (Refused reason) is = rw is refl

refused_each : (t : Told) → length (reasons_by t.outcome) ≡ (if is_refused t.outcome then 1 else 0)
refused_each t = by_outcome t.outcome refl
  where
    by_outcome : (o : Outcome) → t.outcome ≡ o → length (reasons_by t.outcome) ≡ (if is_refused t.outcome then 1 else 0)
    by_outcome (Sent to count bytes) is = rw is refl
    by_outcome (Started mark) is = rw is refl
    by_outcome Idle is = rw is refl
    by_outcome (Moved count offset how) is = rw is refl
    by_outcome (Refused reason) is = rw is refl

told_length : (conf : Conf) (history : History) → length (told conf history) ≡ length history
unfolding told
told_length conf [] = refl
told_length conf (e ∷ history) = ap (λ (n : ℕ). suc n) (told_length conf history)

-- ---- The lines

-- a list that grew by one front grew by that
same_more : (old : List ℕ) (a b : List ℕ) → old ++ a ≡ old ++ b → a ≡ b
same_more old a b same = append_cancel_left old a b same

whole_text : (ending : Ending) → IsWhole ending → cut_record ending ≡ []
whole_text Whole is = refl
whole_text (NoRecord event front) is = absurd is
whole_text (NoLine deed front) is = absurd is

-- what a run that ended well printed
printed_whole : (conf : Conf) (history : History) (end : LifeEnd) (ending : Ending) (need : Need) (text : List ℕ)
    → end.why ≡ why.Done → IsWhole ending → Reports conf history end ending need text
    → text ≡ (report_of conf history ++ total_line end.sent end.moved end.refused) ++ link_line end.quiet end.lost
printed_whole conf history end Whole need text done is reports =
    let Closing : Why → Type 0 = λ (w : Why). text ≡ report_of conf history ++ joined (closing_by w end) in
    let closing : text ≡ report_of conf history ++ joined (closing_lines end) = subst Closing done reports in
    let total = total_line end.sent end.moved end.refused in
    let link = link_line end.quiet end.lost in
    closing ∙ ap (λ (l : List ℕ). report_of conf history ++ (total ++ l)) (append-nil link) ∙ sym (append_assoc (report_of conf history) total link)
printed_whole conf history end (NoRecord event front) need text done is reports = absurd is
printed_whole conf history end (NoLine deed front) need text done is reports = absurd is

-- a number that a run counts is the replay's, where it is no greater than the events
same_number : (a b n : ℕ) → a ≡ min n (2 ^ 32 - 1) → b ≡ n → n ≤ 2000001 → a ≡ b
same_number a b n capped is low = omega (arith, capped, is, low)

events_low : {conf : Conf} {stood : Stood} {turns : ℕ} {history : History} {cs : List ClockCall} {ws : List ℕ} {ls : List LinkCall} {need : Need}
    → (events missing : List Event) → Weaves conf (Start stood (Turns turns)) history cs ws ls (events ++ missing) need → turns ≤ 1000000 → length events ≤ 2000001
events_low events missing weaves few = omega (arith, room_bound tt weaves, length-append events missing, few)

same_total : (conf : Conf) (events : List Event) (end : LifeEnd) (again : ReplayEnd) (calls : List LinkCall)
    → length events ≤ 2000001 → Totals conf events calls end → AreTotals conf (reverse events) again
    → total_line end.sent end.moved end.refused ≡ total_line again.sent again.moved again.refused
unfolding requests_of told moves_of
same_total conf events end again calls few totals are =
    let history = reverse events in
    let entries = told conf history in
    let most : length entries ≤ 2000001 = omega (arith, few, told_length conf history, length-reverse events) in
    let sends = counted (λ t. posted_by t.outcome) has_sent sent_each entries in
    let moves = counted (λ t. moves_by t.outcome) is_accepted moved_each entries in
    let refusals = counted (λ t. reasons_by t.outcome) (λ t. is_refused t.outcome) refused_each entries in
    let sent = same_number end.sent again.sent (length (requests_of conf history)) totals.sent (are.sent ∙ sym sends) (omega (arith, most, sends, counted_low has_sent entries)) in
    let moved = same_number end.moved again.moved (length (moves_of conf history)) totals.moved (are.moved ∙ sym moves) (omega (arith, most, moves, counted_low is_accepted entries)) in
    let refused = same_number end.refused again.refused (length (gather (λ t. reasons_by t.outcome) entries)) totals.refused (are.refused ∙ sym refusals)
    (omega (arith, most, refusals, counted_low (λ t. is_refused t.outcome) entries)) in
    rw (sent, moved, refused) refl

-- the capture that was told is the record of the events
own_record : (before now : Option (List ℕ)) (old capture record_bytes : List ℕ) → before ≡ Some old → now ≡ Some (old ++ capture) → Added before now record_bytes → record_bytes ≡ capture
own_record before now old capture record_bytes told grew added =
    let seen : Added (Some old) (Some (old ++ capture)) record_bytes = subst (λ (o : Option (List ℕ)). Added (Some old) o record_bytes) grew (subst (λ (o : Option (List ℕ)). Added o now record_bytes) told added) in
    sym (same_more old capture record_bytes seen)

-- a run that ended well did each deed whole
lived_whole : {turns : ℕ} {entry exit : DiskTold} {before now : Seen} (lived : LivesUntil turns entry exit before now why.Done) → IsWhole lived.lives.woven.ending
lived_whole {before = before} {now = now} lived =
    let ends = subst (λ (w : Why). LifeEndsBy w lived.lives.woven.ending lived.lives.woven.need (faults_of before) (faults_of now)) lived.ended lived.lives.ended.ends in
    ends.0

-- what a run whose deeds are whole recorded are the records of its events
pub whole_capture : {conf : Conf} {next : Need} {stood : Stood} (w : Woven conf next stood) (before now : Seen) → Effects conf w before now → IsWhole w.ending → (old capture : List ℕ)
    → before.capture ≡ Some old → now.capture ≡ Some (old ++ capture) → SpellsEvents w.events capture
whole_capture w before now effects is old capture told grew =
    let added = subst (λ (l : List ℕ). Added before.capture now.capture l) (ap (λ (l : List ℕ). effects.record_bytes ++ l) (whole_text w.ending is) ∙ append-nil effects.record_bytes) effects.capture in
    let own = own_record before.capture now.capture old capture effects.record_bytes told grew added in
    subst (λ (l : List ℕ). SpellsEvents w.events l) own effects.spells

-- and so a run that ended well
pub lived_capture : {turns : ℕ} {entry exit : DiskTold} {before now : Seen} (lived : LivesUntil turns entry exit before now why.Done) (old capture : List ℕ)
    → before.capture ≡ Some old → now.capture ≡ Some (old ++ capture) → SpellsEvents lived.lives.woven.events capture
lived_capture {before = before} {now = now} lived old capture told grew =
    whole_capture lived.lives.woven (after_settings before now) now lived.lives.effects (lived_whole lived) old capture told grew

was_whole : (turns : ℕ) (entry exit : DiskTold) (before now : Seen) (capture : List ℕ) (run : Records turns entry exit before now capture) → IsWhole run.lived.lives.woven.ending
was_whole turns entry exit before now capture run = lived_whole run.lived

own_capture : (turns : ℕ) (entry exit : DiskTold) (before now : Seen) (capture : List ℕ) (run : Records turns entry exit before now capture) → SpellsEvents run.lived.lives.woven.events capture
own_capture turns entry exit before now capture run = lived_capture run.lived run.old capture run.told run.grew

pub same_lines : (turns : ℕ) (entry exit : DiskTold) (before now later last : Seen) (capture : List ℕ) (run : Records turns entry exit before now capture)
    → ReplaysAgain run.lived.settings capture later last Done → WritesSameLines run.lived.end.quiet run.lived.end.lost before now later last
same_lines turns entry exit before now later last capture run again =
    let lived = run.lived in
    let lives = lived.lives in
    let spells = own_capture turns entry exit before now capture run in
    let whole = again.promise.whole again.bytes capture lived.settings lived.conf lives.woven.events again.told again.says lived.is_conf again.given spells refl in
    let low = events_low lives.woven.events (missing_in lives.woven.ending) lives.woven.weaves run.few in
    let total = same_total lived.conf lives.woven.events lived.end whole.0 _ low lives.ended.totals whole.1.totals in
    let text = printed_whole lived.conf (reverse lives.woven.events) lived.end lives.woven.ending lives.woven.need lives.turned.text lived.ended
    (was_whole turns entry exit before now capture run) lives.turned.reports in
    record {
      lines = report_of lived.conf (reverse lives.woven.events) ++ total_line lived.end.sent lived.end.moved lived.end.refused;
      run = subst (λ (l : List ℕ). Added before.written now.written l) text lives.turned.out;
      replay = rw total whole.1.written;
    }

-- the capture ends below the limit, and its history grows
pub replay_done : (turns : ℕ) (entry exit : DiskTold) (before now later last : Seen) (capture : List ℕ) (result : Status) (run : Records turns entry exit before now capture)
    → ReplaysAgain run.lived.settings capture later last result → IsReplayFaultless later last → (result ≡ Done) ⊎ (result ≡ NoMemory)
replay_done turns entry exit before now later last capture result run again faultless =
    let lived = run.lived in
    let lives = lived.lives in
    let spells = own_capture turns entry exit before now capture run in
    let low = events_low lives.woven.events (missing_in lives.woven.ending) lives.woven.weaves run.few in
    let short : length capture < place_limit = omega (arith, capture_bound lives.woven.events capture spells, low) in
    again.promise.done_of again.bytes capture lived.settings lived.conf lives.woven.events again.told again.says lived.is_conf again.given spells short lives.woven.grows faultless
