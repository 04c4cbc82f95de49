-- Sessions and deeds, one after the other.
use Rattle.std.proofs.Common.{◌≡◌, ℕ, suc, ◌+◌, cond, Bool, List, [], ◌∷◌, ◌++◌, length, map, flat_map, reverse, refl, sym, ◌∙◌, ap, subst, append_assoc, arith}
use Rattle.std.specs.List.{count_by}
use Rattle.std.proofs.lemmas.Grind.{flat_map-append}
use Rattle.std.proofs.lemmas.List.{append-nil}
use Rattle.std.proofs.lemmas.List.Sums.{sum_by-append}
use Rattle.edge_traits.specs.Wire.{Entry, Session}
use Rattle.capture_fmt.specs.declared.event.Event.{Event}
use Rattle.capture_fmt.specs.Record.{event_bytes}
use Rattle.time_machine.specs.declared.conf.Conf.{Conf}
use Rattle.time_machine.specs.Events.{History}
use Rattle.run_deeds.specs.Deeds.{Deed, Take, Print, Ending, Whole, NoRecord, NoLine, all_done, along, captured, cut_record, events_given, events_in, history_after, missing_in, record_in, ticks_in}
use Rattle.run_deeds.specs.Weaving.{SyncCall, followed_by, ticks_by}
use Rattle.run_deeds.proofs.Deeding.{follows}
use Rattle.w32t_calls.specs.declared.end.SessionEnd.{SessionEnd}
use Rattle.member_run.proofs.Ordered.{events_of, followed_none}
use Rattle.service_run.specs.Profile.{Profile}
use Rattle.service_run.specs.Answering.{sync_calls}
use Rattle.service_run.specs.Sessions.{AreServed, AreToldAs, IsServed, IsToldAs, SessionRun, deeds_of, joined_parts, session_calls, session_entries, session_events, session_line}

-- ---- One session more

pub calls_push : (served : List (SessionRun × SessionEnd)) (one : SessionRun × SessionEnd) → session_calls (served ++ one ∷ []) ≡ session_calls served ++ sync_calls one.0.calls
calls_push [] one = append-nil (sync_calls one.0.calls)
calls_push (s ∷ later) one =
    ap (λ (l : List SyncCall). sync_calls s.0.calls ++ l) (calls_push later one) ∙ sym (append_assoc (sync_calls s.0.calls) (session_calls later) (sync_calls one.0.calls))

pub events_push : (served : List (SessionRun × SessionEnd)) (one : SessionRun × SessionEnd) → session_events (served ++ one ∷ []) ≡ session_events served ++ joined_parts one.0.parts
events_push [] one = append-nil (joined_parts one.0.parts)
events_push (s ∷ later) one =
    ap (λ (l : List Event). joined_parts s.0.parts ++ l) (events_push later one) ∙ sym (append_assoc (joined_parts s.0.parts) (session_events later) (joined_parts one.0.parts))

pub entries_push : (served : List (SessionRun × SessionEnd)) (one : SessionRun × SessionEnd) → session_entries (served ++ one ∷ []) ≡ session_entries served ++ Session one.0.told ∷ []
entries_push [] one = refl
entries_push (s ∷ later) one = ap (λ (l : List Entry). Session s.0.told ∷ l) (entries_push later one)

pub deeds_push : (number last : ℕ) (served : List (SessionRun × SessionEnd)) (one : SessionRun × SessionEnd) → number + length served ≡ last
    → deeds_of number (served ++ one ∷ []) ≡ deeds_of number served ++ (map Take (joined_parts one.0.parts) ++ Print (session_line last one.1) ∷ [])
deeds_push number last [] one is =
    let same : number ≡ last = omega (arith, is) in
    ap (λ (n : ℕ). map Take (joined_parts one.0.parts) ++ Print (session_line n one.1) ∷ []) same
deeds_push number last (s ∷ later) one is =
    let next : suc number + length later ≡ last = omega (arith, is) in
    let front = map Take (joined_parts s.0.parts) in
    let mine = map Take (joined_parts one.0.parts) ++ Print (session_line last one.1) ∷ [] in
    ap (λ (l : List Deed). front ++ Print (session_line number s.1) ∷ l) (deeds_push (suc number) last later one next)
    ∙ sym (append_assoc front (Print (session_line number s.1) ∷ deeds_of (suc number) later) mine)

pub size_push : (served : List (SessionRun × SessionEnd)) (one : SessionRun × SessionEnd) → length (served ++ one ∷ []) ≡ length served + 1
size_push [] one = refl
size_push (s ∷ later) one = let rest = size_push later one in omega (arith, rest)

followed_push : (history : History) (xs ys : List Event) → followed_by history (xs ++ ys) ≡ followed_by (followed_by history xs) ys
followed_push history [] ys = refl
followed_push history (x ∷ xs) ys = followed_push (x ∷ history) xs ys

pub served_push : (conf : Conf) (profile : Profile) (history : History) (served : List (SessionRun × SessionEnd)) (one : SessionRun × SessionEnd)
    → AreServed conf profile history served → IsServed conf profile (followed_by history (session_events served)) one.0 → AreServed conf profile history (served ++ one ∷ [])
served_push conf profile history [] one are is = (is, tt)
served_push conf profile history (s ∷ later) one are is =
    let there = followed_push history (joined_parts s.0.parts) (session_events later) in
    (are.0, served_push conf profile (followed_by history (joined_parts s.0.parts)) later one are.1 (subst (λ (h : History). IsServed conf profile h one.0) there is))

pub told_push : (served : List (SessionRun × SessionEnd)) (one : SessionRun × SessionEnd) → AreToldAs served → IsToldAs one.0 one.1 → AreToldAs (served ++ one ∷ [])
told_push [] one are is = (is, tt)
told_push (s ∷ later) one are is = (are.0, told_push later one are.1 is)

pub count_push : (p : SessionRun × SessionEnd → Bool) (served : List (SessionRun × SessionEnd)) (one : SessionRun × SessionEnd) (b : Bool) → p one ≡ b
    → count_by p (served ++ one ∷ []) ≡ count_by p served + cond b 1 0
count_push p served one b is =
    let f : SessionRun × SessionEnd → ℕ = λ (x : SessionRun × SessionEnd). cond (p x) 1 0 in
    let last : 0 + cond (p one) 1 0 ≡ cond b 1 0 = rw is (omega arith) in
    sum_by-append f served (one ∷ []) ∙ ap (λ (n : ℕ). count_by p served + n) last

-- the events behind the sessions are those of their calls
pub events_are : (number : ℕ) (served : List (SessionRun × SessionEnd)) → flat_map events_in (deeds_of number served) ≡ session_events served
events_are number [] = refl
events_are number (s ∷ later) =
    let front = map Take (joined_parts s.0.parts) in
    flat_map-append events_in front (Print (session_line number s.1) ∷ deeds_of (suc number) later)
    ∙ ap (λ (l : List Event). l ++ flat_map events_in (deeds_of (suc number) later)) (events_of (joined_parts s.0.parts))
    ∙ ap (λ (l : List Event). joined_parts s.0.parts ++ l) (events_are (suc number) later)

pub history_served : (history : History) (served : List (SessionRun × SessionEnd)) → history_after history (deeds_of 1 served) ≡ followed_by history (session_events served)
history_served history served = follows history (deeds_of 1 served) ∙ ap (followed_by history) (events_are 1 served)

-- ---- Deeds with lines among them that are no event's

pub prints_none : (lines : List (List ℕ)) → flat_map events_in (map Print lines) ≡ []
prints_none [] = refl
prints_none (line ∷ lines) = prints_none lines

-- what only events lead to is that of the events
pub along_events : {A : Type 0} (f : History → Deed → List A) → ((history : History) (line : List ℕ) → f history (Print line) ≡ []) → (history : History) (ds : List Deed)
    → along f history ds ≡ along f history (map Take (flat_map events_in ds))
along_events f silent history [] = refl
along_events f silent history (Take event ∷ ds) = ap (λ (l : List _). f history (Take event) ++ l) (along_events f silent (event ∷ history) ds)
along_events f silent history (Print line ∷ ds) =
    ap (λ (l : List _). l ++ along f history ds) (silent history line) ∙ along_events f silent history ds

pub ticks_events : (ds : List Deed) → flat_map ticks_in ds ≡ flat_map ticks_by (flat_map events_in ds)
ticks_events [] = refl
ticks_events (Take event ∷ ds) = ap (λ (l : List Event). ticks_by event ++ l) (ticks_events ds)
ticks_events (Print line ∷ ds) = ticks_events ds

records_events : (ds : List Deed) → flat_map record_in ds ≡ flat_map event_bytes (flat_map events_in ds)
records_events [] = refl
records_events (Take event ∷ ds) = ap (λ (l : List ℕ). event_bytes event ++ l) (records_events ds)
records_events (Print line ∷ ds) = records_events ds

pub given_events : (deeds : List Deed) (ending : Ending) → events_given deeds ending ≡ flat_map events_in (all_done deeds ending) ++ missing_in ending
given_events deeds Whole = sym (append-nil (flat_map events_in deeds))
given_events deeds (NoRecord event front) = refl
given_events deeds (NoLine deed front) = sym (append-nil (flat_map events_in (deeds ++ deed ∷ [])))

pub captured_events : (deeds : List Deed) (ending : Ending) → captured deeds ending ≡ flat_map event_bytes (flat_map events_in (all_done deeds ending)) ++ cut_record ending
captured_events deeds Whole = records_events deeds ∙ sym (append-nil (flat_map event_bytes (flat_map events_in deeds)))
captured_events deeds (NoRecord event front) = ap (λ (l : List ℕ). l ++ cut_record (NoRecord event front)) (records_events deeds)
captured_events deeds (NoLine deed front) = records_events (deeds ++ deed ∷ []) ∙ sym (append-nil (flat_map event_bytes (flat_map events_in (deeds ++ deed ∷ []))))

-- the history behind them
pub history_events : (ds : List Deed) → history_after [] ds ≡ reverse (flat_map events_in ds)
history_events ds = follows [] ds ∙ followed_none (flat_map events_in ds)
