-- What one call asks of a run, and what it answers.
use Rattle.std.proofs.Common.{◌≡◌, ◌⊎◌, inl, inr, ℕ, zero, suc, Bool, true, false, List, [], ◌∷◌, ◌++◌, map, Ok, Err, refl, ◌∙◌, ap, subst, if◌then◌else◌}
use Rattle.std.specs.Prelude.{⊤}
use Rattle.edge_traits.specs.Clock.{ClockCall}
use Rattle.edge_traits.specs.Link.{LinkCall}
use Rattle.edge_seen.specs.Seen.{Seen}
use Rattle.capture_fmt.specs.declared.event.Event.{Event}
use Rattle.capture_fmt.specs.declared.event.Event.TheVariants.{Life, Tick, Resync, Arrive}
use Rattle.time_machine.specs.declared.conf.Conf.{Conf}
use Rattle.time_machine.specs.Events.{History}
use Rattle.time_machine.specs.Machine.{outcome_at}
use Rattle.sntp_core.specs.declared.member.Member.{Member}
use Rattle.sntp_core.specs.Standing.{StandsForHistory, conf_of}
use Rattle.run_deeds.specs.declared.life_end.LifeEnd.{LifeEnd}
use Rattle.run_deeds.specs.declared.life_end.Why.{Why}
use Rattle.run_deeds.specs.Deeds.{Deed, Take, Ending, Whole, NoRecord, NoLine, all_done, along, events_given, missing_in}
use Rattle.run_deeds.specs.Devices.{IsBeforeRequest, NeedsCount, NeedsDisk}
use Rattle.run_deeds.specs.Rounds.{Answers, outcomes_in, result_of}
use Rattle.run_deeds.specs.Weaving.{Need, Start, Turns, WordFor, ReceiptNow, ReadingFor, Calls, CallWord, Round, RoundReading, Act, SyncCall, Weaves, none, acts, life, reads, draws, gets, quiet, lost, arrives, call_reads, call_draws, round_gets, round_quiet, round_lost, round_arrives, round_of}
use Rattle.member_run.proofs.Ordered.{given_are}
use Rattle.member_run.proofs.Rounding.{whole_deeds}
use Rattle.member_run.proofs.Turning.{runs_none, whole_given}
use Rattle.w32t_calls.specs.declared.call.Call.TheVariants as call
use Rattle.w32t_calls.specs.declared.call.Given.TheVariants as given
use Rattle.service_run.specs.Answering.{AnswersOne, AreArrivals, IsPartOf, outcomes_of}
use Rattle.service_run.specs.Profile.{Profile, source_name}

-- ---- The events of a call

-- no call is left
abbrev IsNil : List SyncCall → Type 0
IsNil [] = ⊤
IsNil (call ∷ left) = ⊥

-- a round is going on, or is over, and no call is left behind it
abbrev IsInRound : Need → Type 0
IsInRound (Calls left) = IsNil left
IsInRound (Round receipts left) = IsNil left
IsInRound (RoundReading receipts from bytes left) = IsNil left
IsInRound (Act outcome behind) = IsInRound behind
IsInRound _ = ⊥

round_goes_on : (receipts : ℕ) (left : List SyncCall) → IsNil left → IsInRound (round_of receipts left)
round_goes_on zero left nil = nil
round_goes_on (suc more) left nil = nil

behind_moved : (receipts : ℕ) (left : List SyncCall) (b : Bool) → IsNil left → IsInRound (if b then Calls left else round_of receipts left)
behind_moved receipts left true nil = nil
behind_moved receipts left false nil = round_goes_on receipts left nil

behind_asked : (left : List SyncCall) (b : Bool) → IsNil left → IsInRound (if b then Calls left else Round 16 left)
behind_asked left true nil = nil
behind_asked left false nil = nil

-- in a round nothing comes but arrivals
arrivals : {conf : Conf} {from : Need} {history : History} {cs : List ClockCall} {ws : List ℕ} {ls : List LinkCall} {es : List Event} {need : Need}
    → Weaves conf from history cs ws ls es need → IsInRound from → AreArrivals es
arrivals none is = tt
arrivals (acts tried are rest) is = arrivals rest is
arrivals (life rest) is = absurd is
arrivals (reads rest) is = absurd is
arrivals (draws rest) is = absurd is
arrivals (gets rest) is = absurd is
arrivals (quiet rest) is = absurd is
arrivals (lost rest) is = absurd is
arrivals (arrives rest) is = absurd is
arrivals (call_reads rest) is = absurd is
arrivals (call_draws rest) is = absurd is
arrivals (round_gets rest) is = arrivals rest is
arrivals (round_quiet rest) is = arrivals rest is
arrivals (round_lost {receipts = receipts} {left = left} rest) is = arrivals rest (round_goes_on receipts left is)
arrivals (round_arrives {receipts = receipts} {left = left} rest) is = arrivals rest (behind_moved receipts left _ is)

-- the events of one call are its Resync and the arrivals of its round, or none where it had no reading or no word
called : {conf : Conf} {call : SyncCall} {history : History} {cs : List ClockCall} {ws : List ℕ} {ls : List LinkCall} {es : List Event} {need : Need}
    → Weaves conf (Calls (call ∷ [])) history cs ws ls es need → (es ≡ []) ⊎ IsPartOf call es
called none = inl refl
called (call_reads none) = inl refl
called (call_reads (call_draws rest)) = inr (refl, arrivals rest (behind_asked [] _ tt))

-- where nothing is left of it, they are all there
called_whole : {conf : Conf} {call : SyncCall} {history : History} {cs : List ClockCall} {ws : List ℕ} {ls : List LinkCall} {es : List Event} {need : Need}
    → Weaves conf (Calls (call ∷ [])) history cs ws ls es need → need ≡ Calls [] → IsPartOf call es
called_whole none over = absurd (let bad : ⊥ = cc over in bad)
called_whole (call_reads none) over = absurd (let bad : ⊥ = cc over in bad)
called_whole (call_reads (call_draws rest)) over = (refl, arrivals rest (behind_asked [] _ tt))

-- a front of these
arrivals_front : (taken missing : List Event) → AreArrivals (taken ++ missing) → AreArrivals taken
arrivals_front [] missing are = tt
arrivals_front (Arrive now from bytes ∷ taken) missing are = arrivals_front taken missing are
arrivals_front (Life now mark ∷ taken) missing are = absurd are
arrivals_front (Tick now word ∷ taken) missing are = absurd are
arrivals_front (Resync now word flags ∷ taken) missing are = absurd are

part_front : (call : SyncCall) (taken missing : List Event) → IsPartOf call (taken ++ missing) → (taken ≡ []) ⊎ IsPartOf call taken
part_front call [] missing is = inl refl
part_front call (Resync now word flags ∷ taken) missing is = inr (is.0, arrivals_front taken missing is.1)
part_front call (Life now mark ∷ taken) missing is = absurd is
part_front call (Tick now word ∷ taken) missing is = absurd is
part_front call (Arrive now from bytes ∷ taken) missing is = absurd is

-- what was taken of them where a fault of the run stopped the call
called_front : {conf : Conf} {call : SyncCall} {history : History} {cs : List ClockCall} {ws : List ℕ} {ls : List LinkCall} {need : Need} (taken missing : List Event)
    → Weaves conf (Calls (call ∷ [])) history cs ws ls (taken ++ missing) need → (taken ≡ []) ⊎ IsPartOf call taken
called_front {call = call} taken missing weaves = front taken (called weaves)
  where
    front : (taken : List Event) → (taken ++ missing ≡ []) ⊎ IsPartOf call (taken ++ missing) → (taken ≡ []) ⊎ IsPartOf call taken
    front [] any = inl refl
    front (event ∷ taken) (inl nothing) = absurd (let no : event ∷ (taken ++ missing) ≡ [] = nothing in let bad : ⊥ = cc in bad)
    front (event ∷ taken) (inr is) = part_front call (event ∷ taken) missing is

-- ---- Where a call stopped

-- a round is still one behind each of its events
stays_in_round : {conf : Conf} {from : Need} {history : History} {cs : List ClockCall} {ws : List ℕ} {ls : List LinkCall} {es : List Event} {need : Need}
    → Weaves conf from history cs ws ls es need → IsInRound from → IsInRound need
stays_in_round none is = is
stays_in_round (acts tried are rest) is = stays_in_round rest is
stays_in_round (life rest) is = absurd is
stays_in_round (reads rest) is = absurd is
stays_in_round (draws rest) is = absurd is
stays_in_round (gets rest) is = absurd is
stays_in_round (quiet rest) is = absurd is
stays_in_round (lost rest) is = absurd is
stays_in_round (arrives rest) is = absurd is
stays_in_round (call_reads rest) is = absurd is
stays_in_round (call_draws rest) is = absurd is
stays_in_round (round_gets rest) is = stays_in_round rest is
stays_in_round (round_quiet rest) is = stays_in_round rest is
stays_in_round (round_lost {receipts = receipts} {left = left} rest) is = stays_in_round rest (round_goes_on receipts left is)
stays_in_round (round_arrives {receipts = receipts} {left = left} rest) is = stays_in_round rest (behind_moved receipts left _ is)

-- in a round neither the disk is called nor a count needed
round_disk : (need : Need) → IsInRound need → NeedsDisk need → ⊥
round_disk (Calls []) is needs = needs
round_disk (Calls (call ∷ left)) is needs = is
round_disk (Start stood next) is needs = is
round_disk (Turns left) is needs = is
round_disk (WordFor left now) is needs = is
round_disk (ReceiptNow left) is needs = is
round_disk (ReadingFor left from bytes) is needs = is
round_disk (CallWord call now left) is needs = is
round_disk (Round receipts left) is needs = needs
round_disk (RoundReading receipts from bytes left) is needs = needs
round_disk (Act outcome behind) is needs = needs

round_count : (need : Need) → IsInRound need → NeedsCount need → ⊥
round_count (Calls []) is needs = needs
round_count (Calls (call ∷ left)) is needs = is
round_count (Start stood next) is needs = is
round_count (Turns left) is needs = is
round_count (WordFor left now) is needs = is
round_count (ReceiptNow left) is needs = is
round_count (ReadingFor left from bytes) is needs = is
round_count (CallWord call now left) is needs = is
round_count (Round receipts left) is needs = needs
round_count (RoundReading receipts from bytes left) is needs = needs
round_count (Act outcome behind) is needs = needs

-- where the disk failed, or no mark is left, the call was not begun
pub not_begun : {conf : Conf} {call : SyncCall} {history : History} {cs : List ClockCall} {ws : List ℕ} {ls : List LinkCall} {es : List Event} {need : Need}
    → Weaves conf (Calls (call ∷ [])) history cs ws ls es need → NeedsDisk need → es ≡ []
not_begun none needs = refl
not_begun (call_reads none) needs = refl
not_begun (call_reads (call_draws rest)) needs = absurd (round_disk _ (stays_in_round rest (behind_asked [] _ tt)) needs)

pub not_counted : {conf : Conf} {call : SyncCall} {history : History} {cs : List ClockCall} {ws : List ℕ} {ls : List LinkCall} {es : List Event} {need : Need}
    → Weaves conf (Calls (call ∷ [])) history cs ws ls es need → NeedsCount need → es ≡ []
not_counted none needs = refl
not_counted (call_reads none) needs = refl
not_counted (call_reads (call_draws rest)) needs = absurd (round_count _ (stays_in_round rest (behind_asked [] _ tt)) needs)

-- where no event of a call was taken, its Resync was not
none_before : {conf : Conf} {call : SyncCall} {history : History} {cs : List ClockCall} {ws : List ℕ} {ls : List LinkCall} {es : List Event} {need : Need}
    → Weaves conf (Calls (call ∷ [])) history cs ws ls es need → es ≡ [] → IsBeforeRequest Whole need
none_before none nothing = tt
none_before (call_reads none) nothing = tt
none_before (call_reads (call_draws rest)) nothing = absurd (let bad : ⊥ = cc in bad)

record_before : {conf : Conf} {call : SyncCall} {history : History} {cs : List ClockCall} {ws : List ℕ} {ls : List LinkCall} {es : List Event} {need : Need} (front : ℕ) (event : Event)
    → Weaves conf (Calls (call ∷ [])) history cs ws ls es need → es ≡ event ∷ [] → IsBeforeRequest (NoRecord event front) need
record_before front event none only = absurd (let bad : ⊥ = cc in bad)
record_before front event (call_reads none) only = absurd (let bad : ⊥ = cc in bad)
record_before {call = call} {need = need} front event (call_reads {now = now} (call_draws {word = word} {es = es} rest)) only =
    let first : Resync now word call.flags ≡ event = let same : Resync now word call.flags ∷ es ≡ event ∷ [] = only in cc in
    subst (λ (e : Event). IsBeforeRequest (NoRecord e front) need) first tt

pub before_request : {conf : Conf} {call : SyncCall} {history : History} {cs : List ClockCall} {ws : List ℕ} {ls : List LinkCall} {need : Need} (deeds : List Deed) (ending : Ending) (taken : List Event)
    → all_done deeds ending ≡ map Take taken → Weaves conf (Calls (call ∷ [])) history cs ws ls (events_given deeds ending) need → taken ≡ [] → IsBeforeRequest ending need
before_request deeds Whole taken takes weaves nothing = none_before weaves (whole_given deeds Whole taken tt takes ∙ nothing)
before_request deeds (NoRecord event front) taken takes weaves nothing =
    record_before front event weaves (given_are deeds (NoRecord event front) taken takes ∙ ap (λ (l : List Event). l ++ event ∷ []) nothing)
before_request [] (NoLine deed front) taken takes weaves nothing =
    absurd (let no : deed ∷ [] ≡ [] = takes ∙ ap (map Take) nothing in let bad : ⊥ = cc in bad)
before_request (d ∷ ds) (NoLine deed front) taken takes weaves nothing =
    absurd (let no : d ∷ (ds ++ deed ∷ []) ≡ [] = takes ∙ ap (map Take) nothing in let bad : ⊥ = cc in bad)

-- ---- What came of a call

-- what came of them, deed by deed
outcomes_are : (conf : Conf) (history : History) (taken : List Event) → along (outcomes_in conf) history (map Take taken) ≡ outcomes_of conf history taken
outcomes_are conf history [] = refl
outcomes_are conf history (event ∷ taken) = ap (λ (l : List _). outcome_at conf history event ∷ l) (outcomes_are conf (event ∷ history) taken)

-- ---- The answer of a call

-- a request that was answered
pub answers_sync : (conf : Conf) (profile : Profile) (wait flags : ℕ) (history : History) (a b : Seen) (member : Member) (kept kept' : ℕ) (old new : LifeEnd) (n : ℕ)
    → Answers conf wait flags history a b member kept kept' old new (Ok n)
    → AnswersOne conf profile (call.Sync wait flags) history a b member kept kept' old new (Ok (given.Synced n))
answers_sync conf profile wait flags history a b member kept kept' old new n answers =
    let r = answers.part.runs in
    let whole = r.ends.0 in
    let given_is = whole_given r.deeds r.ending r.taken whole r.takes in
    let one : SyncCall = record { wait = wait; flags = flags } in
    let is_part : IsPartOf one r.taken = subst (λ (es : List Event). IsPartOf one es) given_is (called_whole r.weaves (r.well refl)) in
    let came : n ≡ result_of wait flags (outcomes_of conf history r.taken) =
    answers.answer
    ∙ ap (λ (ds : List _). result_of wait flags (along (outcomes_in conf) history ds)) (whole_deeds r.deeds r.ending r.taken whole r.takes)
    ∙ ap (result_of wait flags) (outcomes_are conf history r.taken) in
    record { part = answers.part; came = ((is_part, tt), ap (λ (m : ℕ). given.Synced m ∷ []) came) }

-- one that a fault of the run stopped
pub answers_stopped : (conf : Conf) (profile : Profile) (wait flags : ℕ) (history : History) (a b : Seen) (member : Member) (kept kept' : ℕ) (old new : LifeEnd) (why : Why)
    → Answers conf wait flags history a b member kept kept' old new (Err why)
    → AnswersOne conf profile (call.Sync wait flags) history a b member kept kept' old new (Err why)
answers_stopped conf profile wait flags history a b member kept kept' old new why answers =
    let r = answers.part.runs in
    let weaves = subst (λ (es : List Event). Weaves conf (Calls (record { wait = wait; flags = flags } ∷ [])) history r.given.clock r.given.words r.given.link es r.need)
    (given_are r.deeds r.ending r.taken r.takes) r.weaves in
    record { part = answers.part; came = called_front r.taken (missing_in r.ending) weaves }

-- the other calls ask for nothing
pub answers_bits : (profile : Profile) (history : History) (now : Seen) (member : Member) (kept : ℕ) (end : LifeEnd) → StandsForHistory member history
    → AnswersOne (conf_of member) profile call.Bits history now now member kept kept end end (Ok (given.Bits profile.bits))
unfolding runs_none
answers_bits profile history now member kept end stands = record {
  part = record {
    runs = runs_none (conf_of member) (Calls []) history now kept end stands.grows;
    is_set = refl;
    stands = stands;
  };
  came = (tt, refl);
}

pub answers_source : (profile : Profile) (history : History) (now : Seen) (member : Member) (kept : ℕ) (end : LifeEnd) (name : List ℕ) → StandsForHistory member history
    → name ≡ source_name (conf_of member) profile history
    → AnswersOne (conf_of member) profile call.Source history now now member kept kept end end (Ok (given.Source name))
unfolding runs_none
answers_source profile history now member kept end name stands is = record {
  part = record {
    runs = runs_none (conf_of member) (Calls []) history now kept end stands.grows;
    is_set = refl;
    stands = stands;
  };
  came = (tt, ap (λ (n : List ℕ). given.Source n ∷ []) is);
}
