-- A call that asks for a request, from its two parts.
use Rattle.std.proofs.Common.{◌≡◌, ◌≢◌, ◌+◌, ◌==◌, ℕ, zero, suc, ℤ, Bool, true, false, cond, List, [], ◌∷◌, map, Ok, Err, if◌then◌else◌, refl, sym, ◌∙◌, ap, subst, arith}
use Rattle.std.specs.Prelude.{bit_and}
use Rattle.std.specs.List.{count_by, sum_by}
use Rattle.std.proofs.lemmas.List.Sums.{sum_by-append}
use Rattle.std.proofs.lemmas.Bool.Decides.{nat_tests}
use Rattle.edge_traits.specs.Clock.{ClockCall}
use Rattle.edge_traits.specs.Link.{LinkCall}
use Rattle.capture_fmt.specs.declared.event.Event.{Event}
use Rattle.capture_fmt.specs.declared.event.Event.TheVariants.{Life, Tick, Resync, Arrive}
use Rattle.stamp_keep.specs.Keep.{kept_mark}
use Rattle.time_machine.specs.declared.conf.Conf.{Conf}
use Rattle.time_machine.specs.declared.outcome.Outcome.{Outcome}
use Rattle.time_machine.specs.Events.{History}
use Rattle.time_machine.specs.Machine.{outcome_at}
use Rattle.sntp_core.specs.declared.member.Member.{Member}
use Rattle.sntp_core.specs.Standing.{StandsForHistory, conf_of}
use Rattle.run_deeds.specs.declared.life_end.LifeEnd.{LifeEnd}
use Rattle.run_deeds.specs.declared.life_end.Why.{Why}
use Rattle.run_deeds.specs.declared.life_end.Why.TheVariants.{Done, DiskFault, BadVersion, StampsSpent, ClockFault, EntropyFault, SinkFault}
use Rattle.run_deeds.specs.Weaving.{Need, Start, Turns, WordFor, ReceiptNow, ReadingFor, SyncCall, Calls, CallWord, Round, RoundReading, Act, Weaves, none, acts, call_reads, call_draws, behind_request, one_call}
use Rattle.run_deeds.specs.Deeds.{Deed, Take, Ending, along, all_done, history_after}
use Rattle.edge_seen.specs.Seen.{Seen}
use Rattle.run_deeds.specs.Devices.{Faults, IsBehind, IsBetween, IsInCalls, IsToDo, LifeEndsBy, NeedsCount, NeedsDisk, NeedsMark, NeedsReading, NeedsReceipt, NeedsWord, faults_of}
use Rattle.run_deeds.specs.Parts.{Part, Runs}
use Rattle.run_deeds.specs.Rounds.{Answers, RoundAnswers, is_moved, is_too_big, outcomes_in, result_of, round_result}
use Rattle.member_run.specs.declared.running.Running.{Running}
use Rattle.member_run.specs.Running.{IsOfReceipt, IsPart, SendsNone, kept_of, member_of, totals_of}
use Rattle.member_run.proofs.Turning.{whole_given}
use Rattle.member_run.proofs.Rounding.{Stepped, outs_of, stepped_at, whole_deeds}
use Rattle.member_run.proofs.Parting.{part_short, stops_as}

-- ---- The request

-- what a call needs that doesn't wait, and one that does
abbrev waiting : ℕ → Need → Need
waiting wait (Start stood next) = Start stood next
waiting wait (Turns left) = Turns left
waiting wait (WordFor left now) = WordFor left now
waiting wait (ReceiptNow left) = ReceiptNow left
waiting wait (ReadingFor left from bytes) = ReadingFor left from bytes
waiting wait (Calls []) = behind_request wait []
waiting wait (Calls (call ∷ left)) = Calls (record { wait = wait; flags = call.flags } ∷ left)
waiting wait (CallWord call now left) = CallWord (record { wait = wait; flags = call.flags }) now left
waiting wait (Round receipts left) = Round receipts left
waiting wait (RoundReading receipts from bytes left) = RoundReading receipts from bytes left
waiting wait (Act outcome behind) = Act outcome (waiting wait behind)

wait_act : {conf : Conf} {outcome : Outcome} (wait : ℕ) {history : History} {cs : List ClockCall} {ws : List ℕ} {ls : List LinkCall} {es : List Event} {need : Need}
    → Weaves conf (Act outcome (Calls [])) history cs ws ls es need → Weaves conf (Act outcome (behind_request wait [])) history cs ws ls es (waiting wait need)
wait_act wait none = none
wait_act wait (acts tried are none) = acts tried are none

wait_word : {conf : Conf} (wait : ℕ) {flags : ℕ} {now : ℤ} {history : History} {cs : List ClockCall} {ws : List ℕ} {ls : List LinkCall} {es : List Event} {need : Need}
    → Weaves conf (CallWord (record { wait = 0; flags = flags }) now []) history cs ws ls es need → Weaves conf (CallWord (record { wait = wait; flags = flags }) now []) history cs ws ls es (waiting wait need)
wait_word wait none = none
wait_word wait (call_draws s) = call_draws (wait_act wait s)

wait_weaves : {conf : Conf} {wait flags : ℕ} {history : History} {cs : List ClockCall} {ws : List ℕ} {ls : List LinkCall} {es : List Event} {need : Need}
    → Weaves conf (one_call 0 flags) history cs ws ls es need → Weaves conf (one_call wait flags) history cs ws ls es (waiting wait need)
wait_weaves none = none
wait_weaves {wait = wait} (call_reads s) = call_reads (wait_word wait s)

-- a call's first event is its Resync
record BeginsCall (flags : ℕ) (es : List Event) : Type 0 where
  now : ℤ
  word : ℕ
  is : es ≡ Resync now word flags ∷ []

begins_act : {conf : Conf} {outcome : Outcome} {history : History} {cs : List ClockCall} {ws : List ℕ} {ls : List LinkCall} {es : List Event} {need : Need}
    → Weaves conf (Act outcome (Calls [])) history cs ws ls es need → es ≡ []
begins_act none = refl
begins_act (acts tried are none) = refl

begins_word : {conf : Conf} {flags : ℕ} {now : ℤ} {history : History} {cs : List ClockCall} {ws : List ℕ} {ls : List LinkCall} {es : List Event} {need : Need}
    → Weaves conf (CallWord (record { wait = 0; flags = flags }) now []) history cs ws ls es need → need ≡ Calls [] → BeginsCall flags es
begins_word none is = absurd (let bad : ⊥ = cc is in bad)
begins_word {flags = flags} {now = now} (call_draws {word = word} s) is =
    record { now = now; word = word; is = ap (λ (l : List Event). Resync now word flags ∷ l) (begins_act s) }

begins_call : {conf : Conf} {flags : ℕ} {history : History} {cs : List ClockCall} {ws : List ℕ} {ls : List LinkCall} {es : List Event} {need : Need}
    → Weaves conf (one_call 0 flags) history cs ws ls es need → need ≡ Calls [] → BeginsCall flags es
begins_call none is = absurd (let bad : ⊥ = cc is in bad)
begins_call (call_reads s) is = begins_word s is

calls_on : (b : Bool) → IsInCalls (if b then Calls [] else Round 16 [])
calls_on true = tt
calls_on false = tt

between_on : (b : Bool) → IsBetween (if b then Calls [] else Round 16 [])
between_on true = tt
between_on false = tt

wait_receipt : (wait : ℕ) (need : Need) → NeedsReceipt need → NeedsReceipt (waiting wait need)
wait_receipt wait (Start stood next) needs = absurd needs
wait_receipt wait (Turns k) needs = absurd needs
wait_receipt wait (WordFor k now) needs = absurd needs
wait_receipt wait (ReceiptNow k) needs = tt
wait_receipt wait (ReadingFor k from bytes) needs = absurd needs
wait_receipt wait (Calls []) needs = absurd needs
wait_receipt wait (Calls (call ∷ left)) needs = absurd needs
wait_receipt wait (CallWord call now left) needs = absurd needs
wait_receipt wait (Round receipts left) needs = absurd needs
wait_receipt wait (RoundReading receipts from bytes left) needs = absurd needs
wait_receipt wait (Act outcome behind) needs = absurd needs

wait_calls : (wait : ℕ) (need : Need) → IsInCalls need → IsInCalls (waiting wait need)
wait_calls wait (Start stood next) needs = absurd needs
wait_calls wait (Turns k) needs = absurd needs
wait_calls wait (WordFor k now) needs = absurd needs
wait_calls wait (ReceiptNow k) needs = absurd needs
wait_calls wait (ReadingFor k from bytes) needs = absurd needs
wait_calls wait (Calls []) needs = calls_on (wait == 0)
wait_calls wait (Calls (call ∷ left)) needs = tt
wait_calls wait (CallWord call now left) needs = absurd needs
wait_calls wait (Round receipts left) needs = tt
wait_calls wait (RoundReading receipts from bytes left) needs = absurd needs
wait_calls wait (Act outcome behind) needs = absurd needs

wait_between : (wait : ℕ) (need : Need) → IsBetween need → IsBetween (waiting wait need)
wait_between wait (Start stood next) needs = absurd needs
wait_between wait (Turns k) needs = tt
wait_between wait (WordFor k now) needs = absurd needs
wait_between wait (ReceiptNow k) needs = absurd needs
wait_between wait (ReadingFor k from bytes) needs = absurd needs
wait_between wait (Calls []) needs = between_on (wait == 0)
wait_between wait (Calls (call ∷ left)) needs = tt
wait_between wait (CallWord call now left) needs = absurd needs
wait_between wait (Round receipts left) needs = tt
wait_between wait (RoundReading receipts from bytes left) needs = absurd needs
wait_between wait (Act outcome behind) needs = absurd needs

wait_behind : (wait : ℕ) (need : Need) (event : Event) → IsBehind event need → IsBehind event (waiting wait need)
wait_behind wait need (Life now mark) behind = tt
wait_behind wait need (Tick now word) behind = wait_receipt wait need behind
wait_behind wait need (Resync now word flags) behind = wait_calls wait need behind
wait_behind wait need (Arrive now from bytes) behind = wait_between wait need behind

wait_does : (wait : ℕ) (need : Need) (event : Event) → IsToDo event need → IsToDo event (waiting wait need)
wait_does wait (Start stood next) event does = absurd does
wait_does wait (Turns k) event does = absurd does
wait_does wait (WordFor k now) event does = absurd does
wait_does wait (ReceiptNow k) event does = absurd does
wait_does wait (ReadingFor k from bytes) event does = absurd does
wait_does wait (Calls []) event does = absurd does
wait_does wait (Calls (call ∷ left)) event does = absurd does
wait_does wait (CallWord call now left) event does = absurd does
wait_does wait (Round receipts left) event does = absurd does
wait_does wait (RoundReading receipts from bytes left) event does = absurd does
wait_does wait (Act outcome behind) event does = wait_behind wait behind event does

-- the need before the word or the Resync, as an end of the part names it
wait_disk : (wait : ℕ) (need : Need) → NeedsDisk need → NeedsDisk (waiting wait need)
wait_disk wait (Start stood next) needs = tt
wait_disk wait (Turns k) needs = needs
wait_disk wait (WordFor k now) needs = absurd needs
wait_disk wait (ReceiptNow k) needs = absurd needs
wait_disk wait (ReadingFor k from bytes) needs = absurd needs
wait_disk wait (Calls []) needs = absurd needs
wait_disk wait (Calls (call ∷ left)) needs = tt
wait_disk wait (CallWord call now left) needs = absurd needs
wait_disk wait (Round receipts left) needs = absurd needs
wait_disk wait (RoundReading receipts from bytes left) needs = absurd needs
wait_disk wait (Act outcome behind) needs = absurd needs

wait_mark : (wait : ℕ) (need : Need) → NeedsMark need → NeedsMark (waiting wait need)
wait_mark wait (Start stood next) needs = tt
wait_mark wait (Turns k) needs = absurd needs
wait_mark wait (WordFor k now) needs = absurd needs
wait_mark wait (ReceiptNow k) needs = absurd needs
wait_mark wait (ReadingFor k from bytes) needs = absurd needs
wait_mark wait (Calls []) needs = absurd needs
wait_mark wait (Calls (call ∷ left)) needs = absurd needs
wait_mark wait (CallWord call now left) needs = absurd needs
wait_mark wait (Round receipts left) needs = absurd needs
wait_mark wait (RoundReading receipts from bytes left) needs = absurd needs
wait_mark wait (Act outcome behind) needs = absurd needs

wait_count : (wait : ℕ) (need : Need) → NeedsCount need → NeedsCount (waiting wait need)
wait_count wait (Start stood next) needs = absurd needs
wait_count wait (Turns k) needs = needs
wait_count wait (WordFor k now) needs = absurd needs
wait_count wait (ReceiptNow k) needs = absurd needs
wait_count wait (ReadingFor k from bytes) needs = absurd needs
wait_count wait (Calls []) needs = absurd needs
wait_count wait (Calls (call ∷ left)) needs = tt
wait_count wait (CallWord call now left) needs = absurd needs
wait_count wait (Round receipts left) needs = absurd needs
wait_count wait (RoundReading receipts from bytes left) needs = absurd needs
wait_count wait (Act outcome behind) needs = absurd needs

wait_reading : (wait : ℕ) (need : Need) → NeedsReading need → NeedsReading (waiting wait need)
wait_reading wait (Start stood next) needs = tt
wait_reading wait (Turns k) needs = needs
wait_reading wait (WordFor k now) needs = absurd needs
wait_reading wait (ReceiptNow k) needs = absurd needs
wait_reading wait (ReadingFor k from bytes) needs = tt
wait_reading wait (Calls []) needs = absurd needs
wait_reading wait (Calls (call ∷ left)) needs = tt
wait_reading wait (CallWord call now left) needs = absurd needs
wait_reading wait (Round receipts left) needs = absurd needs
wait_reading wait (RoundReading receipts from bytes left) needs = tt
wait_reading wait (Act outcome behind) needs = absurd needs

wait_draw : (wait : ℕ) (need : Need) → NeedsWord need → NeedsWord (waiting wait need)
wait_draw wait (Start stood next) needs = absurd needs
wait_draw wait (Turns k) needs = absurd needs
wait_draw wait (WordFor k now) needs = tt
wait_draw wait (ReceiptNow k) needs = absurd needs
wait_draw wait (ReadingFor k from bytes) needs = absurd needs
wait_draw wait (Calls []) needs = absurd needs
wait_draw wait (Calls (call ∷ left)) needs = absurd needs
wait_draw wait (CallWord call now left) needs = tt
wait_draw wait (Round receipts left) needs = absurd needs
wait_draw wait (RoundReading receipts from bytes left) needs = absurd needs
wait_draw wait (Act outcome behind) needs = absurd needs

wait_ends : (wait : ℕ) (why : Why) (deeds : List Deed) (ending : Ending) (taken : List Event) (need : Need) (a b : Faults)
    → all_done deeds ending ≡ map Take taken → LifeEndsBy why ending need a b → LifeEndsBy why ending (waiting wait need) a b
wait_ends wait Done deeds ending taken need a b takes ends = ends
wait_ends wait SinkFault deeds ending taken need a b takes ends = (stops_as (waiting wait) deeds ending taken need takes (wait_behind wait need) (wait_does wait need) ends.0, ends.1)
wait_ends wait DiskFault deeds ending taken need a b takes ends = (ends.0, wait_disk wait need ends.1, ends.2)
wait_ends wait BadVersion deeds ending taken need a b takes ends = (ends.0, wait_mark wait need ends.1, ends.2)
wait_ends wait StampsSpent deeds ending taken need a b takes ends = (ends.0, wait_count wait need ends.1, ends.2)
wait_ends wait ClockFault deeds ending taken need a b takes ends = (ends.0, wait_reading wait need ends.1, ends.2)
wait_ends wait EntropyFault deeds ending taken need a b takes ends = (ends.0, wait_draw wait need ends.1, ends.2)

wait_runs : (conf : Conf) (wait flags : ℕ) (history : History) (a b : Seen) (kept kept' : ℕ) (old new : LifeEnd) (why : Why)
    → Runs conf (one_call 0 flags) (Calls []) history a b kept kept' old new why → Runs conf (one_call wait flags) (behind_request wait []) history a b kept kept' old new why
wait_runs conf wait flags history a b kept kept' old new why r = record {
  given = r.given;
  deeds = r.deeds;
  ending = r.ending;
  need = waiting wait r.need;
  weaves = wait_weaves r.weaves;
  does = r.does;
  taken = r.taken;
  takes = r.takes;
  grows = r.grows;
  tallies = r.tallies;
  ends = wait_ends wait why r.deeds r.ending r.taken r.need (faults_of a) (faults_of b) r.takes r.ends;
  last_call = r.last_call;
  well = λ is. ap (waiting wait) (r.well is);
  reserved = r.reserved;
}

-- the request of a call, of which no reply came
pub record Asked (conf : Conf) (wait flags : ℕ) (history : History) (before now : Seen) (member : Member) (kept kept' : ℕ) (old new : LifeEnd) : Type 0 where
  pub outcome : Outcome
  pub step : Stepped conf (one_call wait flags) (behind_request wait []) history before now member kept kept' old new Done (outcome ∷ [])
  pub moved : is_moved outcome ≡ false
  pub big : is_too_big outcome ≡ false

request_moved : (conf : Conf) (history : History) (now : ℤ) (word flags : ℕ) → is_moved (outcome_at conf history (Resync now word flags)) ≡ false
unfolding outcome_at
request_moved conf history now word flags = refl

request_big : (conf : Conf) (history : History) (now : ℤ) (word flags : ℕ) → is_too_big (outcome_at conf history (Resync now word flags)) ≡ false
unfolding outcome_at
request_big conf history now word flags = refl

pub asked : (wait flags : ℕ) (old new : Running) (a b : Seen) (history : History) → StandsForHistory (member_of old) history → IsPart old new (one_call 0 flags) (behind_request 0 []) a b Done
    → Asked (conf_of (member_of old)) wait flags history a b (member_of new) (kept_of old) (kept_of new) (totals_of old) (totals_of new)
unfolding wait_runs
asked wait flags old new a b history stands part =
    let conf = conf_of (member_of old) in
    let p = part history stands in
    let r = p.runs in
    let first = begins_call r.weaves (r.well refl) in
    let taken : r.taken ≡ Resync first.now first.word flags ∷ [] = sym (whole_given r.deeds r.ending r.taken r.ends.0 r.takes) ∙ first.is in
    record {
      outcome = outcome_at conf history (Resync first.now first.word flags);
      step = record {
        part = record {
          runs = wait_runs conf wait flags history a b (kept_of old) (kept_of new) (totals_of old) (totals_of new) Done r;
          is_set = p.is_set;
          stands = p.stands;
        };
        outs = λ is. ap (along (outcomes_in conf) history) (whole_deeds r.deeds r.ending r.taken r.ends.0 r.takes) ∙ ap (outs_of conf history) taken;
      };
      moved = request_moved conf history first.now first.word flags;
      big = request_big conf history first.now first.word flags;
    }

-- ---- The answer

pub answers_fault : (conf : Conf) (wait flags : ℕ) (next : Need) (history : History) (a b : Seen) (member : Member) (kept kept' : ℕ) (old new : LifeEnd) (why : Why) → why ≢ Done
    → Part conf (one_call wait flags) next history a b member kept kept' old new why → Answers conf wait flags history a b member kept kept' old new (Err why)
answers_fault conf wait flags next history a b member kept kept' old new why not part =
    record { part = part_short conf (one_call wait flags) next (Calls []) history a b member kept kept' old new why not part; answer = tt }

-- a call that doesn't wait
pub answers_now : (conf : Conf) (wait flags : ℕ) (history : History) (a b : Seen) (member : Member) (kept kept' : ℕ) (old new : LifeEnd) → wait ≡ 0
    → Part conf (one_call wait flags) (behind_request wait []) history a b member kept kept' old new Done → Answers conf wait flags history a b member kept kept' old new (Ok 0)
answers_now conf wait flags history a b member kept kept' old new is part =
    let P : Need → Type 0 = λ (next : Need). Part conf (one_call wait flags) next history a b member kept kept' old new Done in
    let over : behind_request wait [] ≡ Calls [] = ap (λ (w : ℕ). behind_request w []) is in
    record { part = subst P over part; answer = rw is refl }

-- what none of them is, the first one isn't counted as
first_none : (p : Outcome → Bool) (o : Outcome) (came : List Outcome) → p o ≡ false → count_by p (o ∷ came) ≡ count_by p came
first_none p o came is =
    let f : Outcome → ℕ = λ (x : Outcome). cond (p x) 1 0 in
    let one : 0 + cond (p o) 1 0 ≡ 0 = rw is refl in
    sum_by-append f (o ∷ []) came ∙ ap (λ (n : ℕ). n + sum_by f came) one ∙ (let same : 0 + sum_by f came ≡ sum_by f came = omega arith in same)

result_is : (outcome : Outcome) (came : List Outcome) → is_moved outcome ≡ false → is_too_big outcome ≡ false → round_result (outcome ∷ came) ≡ round_result came
result_is outcome came moved big =
    ap (λ (m : ℕ). if m == 0 then (if count_by is_too_big (outcome ∷ came) == 0 then 1 else 3) else 0) (first_none is_moved outcome came moved)
    ∙ ap (λ (m : ℕ). if count_by is_moved came == 0 then (if m == 0 then 1 else 3) else 0) (first_none is_too_big outcome came big)

-- the number that a call answers, whose round has this result
abbrev pub answer_of : (flags n : ℕ) → ℕ
answer_of flags n = if bit_and flags 2 == 0 then 0 else n

module _ (wait flags : ℕ) (old mid : Running) (a b c : Seen) (member : Member) (end : LifeEnd) (history : History) (waits : (wait == 0) ≡ false)
    (stands : StandsForHistory (member_of old) history) (part : IsPart old mid (one_call 0 flags) (behind_request 0 []) a b Done) where
  ask : Asked (conf_of (member_of old)) wait flags history a b (member_of mid) (kept_of old) (kept_of mid) (totals_of old) (totals_of mid)
  ask = asked wait flags old mid a b history stands part

  -- with the round behind it
  behind_round : Stepped (conf_of (member_of old)) (one_call wait flags) (Round 16 []) history a b (member_of mid) (kept_of old) (kept_of mid) (totals_of old) (totals_of mid) Done (ask.outcome ∷ [])
  behind_round =
      let P : Need → Type 0 = λ (next : Need). Stepped (conf_of (member_of old)) (one_call wait flags) next history a b (member_of mid) (kept_of old) (kept_of mid) (totals_of old) (totals_of mid) Done (ask.outcome ∷ []) in
      let round : behind_request wait [] ≡ Round 16 [] = ap (λ (b : Bool). if b then Calls [] else Round 16 []) waits in
      subst P round ask.step

  -- a call that waits
  pub answers_round : (n : ℕ) → ((later : History) → StandsForHistory (member_of mid) later → RoundAnswers (conf_of (member_of mid)) later b c member (kept_of mid) (totals_of mid) end (Ok n))
      → Answers (conf_of (member_of old)) wait flags history a c member (kept_of old) (kept_of mid) (totals_of old) end (Ok (answer_of flags n))
  answers_round n round =
      let conf = conf_of (member_of old) in
      let one = behind_round in
      let later = history_after history (all_done one.part.runs.deeds one.part.runs.ending) in
      let Is : Conf → Type 0 = λ (set : Conf). RoundAnswers set later b c member (kept_of mid) (totals_of mid) end (Ok n) in
      let answers : Is conf = subst Is one.part.is_set (round later one.part.stands) in
      let came = along (outcomes_in conf) later answers.part.runs.deeds in
      let outs = ask.outcome ∷ came in
      let all = stepped_at conf (one_call wait flags) (Round 16 []) (Calls []) history a b c (member_of mid) member (kept_of old) (kept_of mid) (kept_of mid) (totals_of old) (totals_of mid) end Done (ask.outcome ∷ []) came
      one (record { part = answers.part; outs = λ is. refl }) in
      record {
        part = all.part;
        answer =
            ap (answer_of flags) (answers.answer ∙ sym (result_is ask.outcome came ask.moved ask.big))
            ∙ ap (λ (b : Bool). if b then 0 else answer_of flags (round_result outs)) (sym waits)
            ∙ ap (result_of wait flags) (sym (all.outs refl));
      }

  -- whose round ends the run
  pub answers_stop : (why : Why) → why ≢ Done → ((later : History) → StandsForHistory (member_of mid) later → RoundAnswers (conf_of (member_of mid)) later b c member (kept_of mid) (totals_of mid) end (Err why))
      → Answers (conf_of (member_of old)) wait flags history a c member (kept_of old) (kept_of mid) (totals_of old) end (Err why)
  answers_stop why not round =
      let conf = conf_of (member_of old) in
      let one = behind_round in
      let later = history_after history (all_done one.part.runs.deeds one.part.runs.ending) in
      let Is : Conf → Type 0 = λ (set : Conf). RoundAnswers set later b c member (kept_of mid) (totals_of mid) end (Err why) in
      let answers : Is conf = subst Is one.part.is_set (round later one.part.stands) in
      let all = stepped_at conf (one_call wait flags) (Round 16 []) (Calls []) history a b c (member_of mid) member (kept_of old) (kept_of mid) (kept_of mid) (totals_of old) (totals_of mid) end why (ask.outcome ∷ []) []
      one (record { part = answers.part; outs = λ is. absurd (not is) }) in
      record { part = all.part; answer = tt }

-- ---- The same, as the code tests it

not_zero : (n : ℕ) → n ≢ 0 → (n == 0) ≡ false
not_zero zero not = absurd (not refl)
not_zero (suc n) not = grind (arith, nat_tests)

module _ (wait flags : ℕ) (old mid new : Running) (a b c : Seen) (history : History) (waits : wait ≢ 0)
    (stands : StandsForHistory (member_of old) history) (part : IsPart old mid (one_call 0 flags) (behind_request 0 []) a b Done) (sends : SendsNone mid new) where
  same_mark : kept_of mid ≡ kept_of new
  same_mark = sym (ap kept_mark sends.keeper)

  -- a call that asks for no result
  pub answers_plain : (n : ℕ) → bit_and flags 2 ≡ 0
      → ((later : History) → StandsForHistory (member_of mid) later → RoundAnswers (conf_of (member_of mid)) later b c (member_of new) (kept_of mid) (totals_of mid) (totals_of new) (Ok n))
      → Answers (conf_of (member_of old)) wait flags history a c (member_of new) (kept_of old) (kept_of new) (totals_of old) (totals_of new) (Ok 0)
  answers_plain n plain round =
      let P : ℕ → ℕ → Type 0 = λ (k m : ℕ). Answers (conf_of (member_of old)) wait flags history a c (member_of new) (kept_of old) k (totals_of old) (totals_of new) (Ok m) in
      let all = answers_round wait flags old mid a b c (member_of new) (totals_of new) history (not_zero wait waits) stands part n round in
      let zero : answer_of flags n ≡ 0 = ap (λ (m : ℕ). if m == 0 then 0 else n) plain in
      subst (λ (k : ℕ). P k 0) same_mark (subst (λ (m : ℕ). P (kept_of mid) m) zero all)

  -- a call that asks for the result
  pub answers_result : (n : ℕ) → bit_and flags 2 ≢ 0
      → ((later : History) → StandsForHistory (member_of mid) later → RoundAnswers (conf_of (member_of mid)) later b c (member_of new) (kept_of mid) (totals_of mid) (totals_of new) (Ok n))
      → Answers (conf_of (member_of old)) wait flags history a c (member_of new) (kept_of old) (kept_of new) (totals_of old) (totals_of new) (Ok n)
  answers_result n some round =
      let P : ℕ → ℕ → Type 0 = λ (k m : ℕ). Answers (conf_of (member_of old)) wait flags history a c (member_of new) (kept_of old) k (totals_of old) (totals_of new) (Ok m) in
      let all = answers_round wait flags old mid a b c (member_of new) (totals_of new) history (not_zero wait waits) stands part n round in
      let same : answer_of flags n ≡ n = ap (λ (b : Bool). if b then 0 else n) (not_zero (bit_and flags 2) some) in
      subst (λ (k : ℕ). P k n) same_mark (subst (λ (m : ℕ). P (kept_of mid) m) same all)

  -- a call whose round ends the run
  pub answers_cut : (why : Why) → IsOfReceipt why
      → ((later : History) → StandsForHistory (member_of mid) later → RoundAnswers (conf_of (member_of mid)) later b c (member_of new) (kept_of mid) (totals_of mid) (totals_of new) (Err why))
      → Answers (conf_of (member_of old)) wait flags history a c (member_of new) (kept_of old) (kept_of new) (totals_of old) (totals_of new) (Err why)
  answers_cut why of round =
      let P : ℕ → Type 0 = λ (k : ℕ). Answers (conf_of (member_of old)) wait flags history a c (member_of new) (kept_of old) k (totals_of old) (totals_of new) (Err why) in
      subst P same_mark (answers_stop wait flags old mid a b c (member_of new) (totals_of new) history (not_zero wait waits) stands part why (λ is. subst IsOfReceipt is of) round)
