-- Entries of two histories, one after the other, and those of a run.
use Rattle.std.proofs.Common.{◌≡◌, ◌≢◌, ◌≤◌, ◌<◌, ◌==◌, ℕ, zero, suc, ℤ, List, [], ◌∷◌, ◌++◌, reverse, Bool, true, false, if◌then◌else◌, Option, Some, None, refl, sym, subst, arith, append_assoc}
use Rattle.std.specs.Prelude.{IfSome, IsSome, ⊤}
use Rattle.std.specs.List.{AllByRecursion, Contains}
use Rattle.std.proofs.lemmas.List.{append-nil, reverse-append}
use Rattle.edge_traits.specs.declared.datagram.Addr.{Addr}
use Rattle.edge_traits.specs.Clock.{ClockCall}
use Rattle.edge_traits.specs.Link.{LinkCall}
use Rattle.capture_fmt.specs.declared.event.Event.{Event}
use Rattle.capture_fmt.specs.declared.event.Event.TheVariants.{Life, Tick, Resync, Arrive}
use Rattle.time_machine.specs.declared.conf.Conf.{Conf}
use Rattle.time_machine.specs.declared.outcome.Outcome.{Outcome}
use Rattle.time_machine.specs.declared.outcome.Outcome.TheVariants.{Sent, Idle}
use Rattle.time_machine.specs.declared.outcome.Request.{Request}
use Rattle.time_machine.specs.Entries.{from_last, last_of}
use Rattle.time_machine.specs.Events.{History, mark_of}
use Rattle.time_machine.specs.Growing.{Grows}
use Rattle.time_machine.specs.Laws.{AnswersOpen, CountsRise, IsFirstMove, MarksAtLeast, MovesOnce}
use Rattle.time_machine.specs.Machine.{told, outcome_at, outcome_by, is_due}
use Rattle.time_machine.specs.Told.{Told, count_moved, request_of, is_turning_point}
use Rattle.time_machine.specs.Words.{words, all_sent, since, some_of, IsOpen}
use Rattle.time_machine.proofs.Answered.{all_have, answers_open}
use Rattle.time_machine.proofs.Lists.{all_push, all_split, all_weaken}
use Rattle.time_machine.proofs.Open.{sent_within}
use Rattle.run_deeds.specs.Weaving.{Stood, SyncCall, Need, Start, Turns, WordFor, ReceiptNow, ReadingFor, Calls, CallWord, Round, RoundReading, Act, Weaves, none, acts, life, reads, draws, gets, quiet, lost, arrives, call_reads, call_draws, round_gets, round_quiet, round_lost, round_arrives, round_of}

-- ---- Lists

pub all_join : {A : Type 0} (P : A → Type 0) (xs ys : List A) → AllByRecursion P xs → AllByRecursion P ys → AllByRecursion P (xs ++ ys)
all_join P [] ys a b = b
all_join P (x ∷ xs) ys a b = (a.0, all_join P xs ys a.1 b)

pub all_reversed : {A : Type 0} (P : A → Type 0) (xs : List A) → AllByRecursion P xs → AllByRecursion P (reverse xs)
all_reversed P [] all = tt
all_reversed P (x ∷ xs) all =
    subst (AllByRecursion P) (sym (reverse-append (x ∷ []) xs)) (all_push P (reverse xs) x (all_reversed P xs all.1) all.0)

-- ---- The requests of two histories

-- each request that was sent has a count with P
abbrev pub SentAll : (ℕ → Type 0) → List Told → Type 0
SentAll P before = AllByRecursion (λ r. P r.count) (all_sent before)

pub sent_join : (newer older : List Told) → all_sent (newer ++ older) ≡ all_sent older ++ all_sent newer
sent_join [] older = sym (append-nil (all_sent older))
sent_join (t ∷ newer) older = rw (sent_join newer older) (append_assoc (all_sent older) (all_sent newer) (some_of (request_of t)))

pub sent_both : (P : ℕ → Type 0) (newer older : List Told) → SentAll P newer → SentAll P older → SentAll P (newer ++ older)
sent_both P newer older a b = rw (sent_join newer older) (all_join (λ r. P r.count) (all_sent older) (all_sent newer) b a)

pub sent_parts : (P : ℕ → Type 0) (newer older : List Told) → SentAll P (newer ++ older) → SentAll P newer × SentAll P older
sent_parts P newer older a =
    let both : AllByRecursion (λ r. P r.count) (all_sent older ++ all_sent newer) = subst (AllByRecursion (λ r. P r.count)) (sent_join newer older) a in
    let parts = all_split (λ (r : Request). P r.count) (all_sent older) (all_sent newer) both in (parts.1, parts.0)

above_both : (mark : ℕ) (newer older : List Told) (o : Option Request) → IfSome o (λ r. AllByRecursion (λ e. e.count < r.count) (all_sent newer))
    → AllByRecursion (λ r. mark < r.count) (some_of o) → SentAll (λ n. n ≤ mark) older
    → IfSome o (λ r. AllByRecursion (λ e. e.count < r.count) (all_sent (newer ++ older)))
above_both mark newer older None rise high low = tt
above_both mark newer older (Some q) rise high low =
    let all_low = all_weaken (λ (e : Request). e.count ≤ mark) (λ e. e.count < q.count) (λ e k. omega (arith, k, high.0)) (all_sent older) low in
    rw (sent_join newer older) (all_join (λ (e : Request). e.count < q.count) (all_sent older) (all_sent newer) all_low rise)

-- counts that rise go on to rise where those of the older history are at most a mark, and those of the newer above it
pub counts_join : (mark : ℕ) (newer older : List Told) → CountsRise newer → CountsRise older
    → SentAll (λ n. mark < n) newer → SentAll (λ n. n ≤ mark) older → CountsRise (newer ++ older)
counts_join mark [] older rise rest high low = rest
counts_join mark (t ∷ newer) older rise rest high low =
    let parts = all_split (λ (r : Request). mark < r.count) (all_sent newer) (some_of (request_of t)) high in
    (above_both mark newer older (request_of t) rise.0 parts.1 low, counts_join mark newer older rise.1 rest parts.0 low)

-- ---- The corrections of two histories

-- each request that an accepted arrival answers has a count with P
abbrev pub MovedAll : (ℕ → Type 0) → List Told → Type 0
MovedAll P before = AllByRecursion (λ t. IfSome (count_moved t.outcome) P) before

other_count : (mark count : ℕ) (o : Option ℕ) → IfSome o (λ n. n ≤ mark) → mark < count → o ≢ Some count
other_count mark count None low high = λ e. cc
other_count mark count (Some n) low high = λ e. let same : n ≡ count = cc in omega (arith, same, low, high)

first_both : (mark : ℕ) (newer older : List Told) (o : Option ℕ) → IfSome o (λ n. IsFirstMove n newer) → IfSome o (λ n. mark < n)
    → MovedAll (λ n. n ≤ mark) older → IfSome o (λ n. IsFirstMove n (newer ++ older))
first_both mark newer older None once high low = tt
first_both mark newer older (Some count) once high low =
    all_join (λ (t : Told). count_moved t.outcome ≢ Some count) newer older once
    (all_weaken (λ (t : Told). IfSome (count_moved t.outcome) (λ n. n ≤ mark)) (λ t. count_moved t.outcome ≢ Some count)
    (λ t k. other_count mark count (count_moved t.outcome) k high) older low)

-- the same of the counts of accepted arrivals: no two are for one request
pub moves_join : (mark : ℕ) (newer older : List Told) → MovesOnce newer → MovesOnce older
    → MovedAll (λ n. mark < n) newer → MovedAll (λ n. n ≤ mark) older → MovesOnce (newer ++ older)
moves_join mark [] older once rest high low = rest
moves_join mark (t ∷ newer) older once rest high low =
    (first_both mark newer older (count_moved t.outcome) once.0 high.0 low, moves_join mark newer older once.1 rest high.1 low)

by_test : (P : Request → Type 0) (b : Bool) (xs : List Told) → AllByRecursion P (all_sent xs) → AllByRecursion P (all_sent (if b then [] else xs))
by_test P true xs a = tt
by_test P false xs a = a

since_has : (P : Request → Type 0) (test : Told → Bool) (before : List Told) → AllByRecursion P (all_sent before) → AllByRecursion P (all_sent (from_last test before))
since_has P test [] a = tt
since_has P test (t ∷ before) a =
    let parts = all_split P (all_sent before) (some_of (request_of t)) a in
    all_join P (all_sent (if test t then [] else from_last test before)) (some_of (request_of t))
    (by_test P (test t) (from_last test before) (since_has P test before parts.0)) parts.1

open_has : (P : ℕ → Type 0) (before : List Told) (r : Request) → IsOpen before r → SentAll P before → P r.count
open_has P before r is_open a =
    let within = subst (λ (xs : List Told). Contains (all_sent xs) r) (sym is_open.place) (sent_within is_open.newer is_open.older is_open.event r is_open.sent) in
    all_have (λ q. P q.count) (all_sent (since before)) r (since_has (λ q. P q.count) is_turning_point before a) within

answered_has : (P : ℕ → Type 0) (before : List Told) (now : ℤ) (bytes : List ℕ) (o : Option ℕ)
    → IfSome o (λ count. AnswersOpen before now bytes count) → SentAll P before → IfSome o P
answered_has P before now bytes None answers a = tt
answered_has P before now bytes (Some count) answers a = subst P (sym answers.counted) (open_has P before answers.request answers.is_open a)

no_move : (P : ℕ → Type 0) (due : Bool) (to : Addr) (count : ℕ) (bytes : List ℕ) → IfSome (count_moved (if due then Sent to count bytes else Idle)) P
no_move P true to count bytes = tt
no_move P false to count bytes = tt

moved_here : (P : ℕ → Type 0) (conf : Conf) (history : History) (e : Event) → SentAll P (told conf history)
    → IfSome (count_moved (outcome_by conf (words conf (told conf history)) e)) P
unfolding outcome_at
moved_here P conf history (Life now mark) a = tt
moved_here P conf history (Tick now word) a = no_move P (is_due (words conf (told conf history)) now) _ _ _
moved_here P conf history (Resync now word flags) a = tt
moved_here P conf history (Arrive now from bytes) a = answered_has P (told conf history) now bytes _ (answers_open conf history now from bytes) a

-- an accepted arrival answers a request of its history
pub moved_has : (P : ℕ → Type 0) (conf : Conf) (history : History) → SentAll P (told conf history) → MovedAll P (told conf history)
unfolding told
moved_has P conf [] a = tt
moved_has P conf (e ∷ history) a =
    let parts = all_split (λ (r : Request). P r.count) (all_sent (told conf history)) _ a in
    (moved_here P conf history e parts.0, moved_has P conf history parts.0)

-- ---- The Life of a run

-- if the event is a Life, it has this mark
abbrev pub LivesAt : ℕ → Event → Type 0
LivesAt mark e = IfSome (mark_of e) (λ m. m ≡ mark)

-- no Life is needed
abbrev pub IsBehindLife : Need → Type 0
IsBehindLife (Start stood next) = ⊥
IsBehindLife (Act outcome behind) = IsBehindLife behind
IsBehindLife _ = ⊤

behind_choice : (b : Bool) (left : List SyncCall) → IsBehindLife (if b then Calls left else Round 16 left)
behind_choice true left = tt
behind_choice false left = tt

behind_round : (receipts : ℕ) (left : List SyncCall) → IsBehindLife (round_of receipts left)
behind_round zero left = tt
behind_round (suc more) left = tt

behind_answer : (b : Bool) (receipts : ℕ) (left : List SyncCall) → IsBehindLife (if b then Calls left else round_of receipts left)
behind_answer true receipts left = tt
behind_answer false receipts left = behind_round receipts left

behind_marks : {conf : Conf} {history : History} {cs : List ClockCall} {ws : List ℕ} {ls : List LinkCall} {es : List Event} {need last : Need} (mark : ℕ)
    → IsBehindLife need → Weaves conf need history cs ws ls es last → AllByRecursion (LivesAt mark) es
behind_marks mark fits none = tt
behind_marks mark fits (acts tried sent s) = behind_marks mark fits s
behind_marks mark fits (life s) = absurd fits
behind_marks mark fits (reads s) = behind_marks mark tt s
behind_marks mark fits (draws s) = (tt, behind_marks mark tt s)
behind_marks mark fits (gets s) = behind_marks mark tt s
behind_marks mark fits (quiet s) = behind_marks mark tt s
behind_marks mark fits (lost s) = behind_marks mark tt s
behind_marks mark fits (arrives s) = (tt, behind_marks mark tt s)
behind_marks mark fits (call_reads s) = behind_marks mark tt s
behind_marks mark fits (call_draws {call = call} {left = left} s) = (tt, behind_marks mark (behind_choice (call.wait == 0) left) s)
behind_marks mark fits (round_gets s) = behind_marks mark tt s
behind_marks mark fits (round_quiet s) = behind_marks mark tt s
behind_marks mark fits (round_lost {receipts = receipts} {left = left} s) = behind_marks mark (behind_round receipts left) s
behind_marks mark fits (round_arrives {receipts = receipts} {left = left} s) = (tt, behind_marks mark (behind_answer _ receipts left) s)

-- of all events that are woven, a Life alone has a mark, that of the run
pub start_marks : {conf : Conf} {stood : Stood} {next : Need} {history : History} {cs : List ClockCall} {ws : List ℕ} {ls : List LinkCall} {es : List Event} {last : Need}
    → IsBehindLife next → Weaves conf (Start stood next) history cs ws ls es last → AllByRecursion (LivesAt stood.mark) es
start_marks fits none = tt
start_marks {stood = stood} fits (life s) = (refl, behind_marks stood.mark fits s)

-- ---- The mark at each place of a run

pub grows_before : (conf : Conf) (later before : History) → Grows conf (later ++ before) → Grows conf before
unfolding Grows
grows_before conf [] before g = g
grows_before conf (e ∷ later) before g = grows_before conf later before g.0

marks_told : (conf : Conf) (mark : ℕ) (before : History) → AllByRecursion (LivesAt mark) before
    → IfSome (last_of (λ t. mark_of t.event) (told conf before)) (λ m. m ≡ mark)
unfolding told
marks_told conf mark [] at = tt
marks_told conf mark (Life now m ∷ before) at = at.0
marks_told conf mark (Tick now word ∷ before) at = marks_told conf mark before at.1
marks_told conf mark (Resync now word flags ∷ before) at = marks_told conf mark before at.1
marks_told conf mark (Arrive now from bytes ∷ before) at = marks_told conf mark before at.1

has_mark : (conf : Conf) (e : Event) (before : History) → Grows conf (e ∷ before) → IsSome (last_of (λ t. mark_of t.event) (told conf (e ∷ before)))
unfolding told Grows words
has_mark conf (Life now m) before g = refl
has_mark conf (Tick now word) before g = g.1.0
has_mark conf (Resync now word flags) before g = g.1.0
has_mark conf (Arrive now from bytes) before g = g.1

some_is : (o : Option ℕ) (mark : ℕ) → IsSome o → IfSome o (λ m. m ≡ mark) → o ≡ Some mark
some_is None mark some is = cc
some_is (Some m) mark some is = rw is refl

-- where the first event of a history came, and each Life has this mark, it is the mark
pub last_mark : (conf : Conf) (mark : ℕ) (before : History) → AllByRecursion (LivesAt mark) before → Grows conf before → before ≢ []
    → (words conf (told conf before)).mark ≡ Some mark
unfolding words
last_mark conf mark [] at g some = absurd (some refl)
last_mark conf mark (e ∷ before) at g some =
    some_is (last_of (λ t. mark_of t.event) (told conf (e ∷ before))) mark (has_mark conf e before g) (marks_told conf mark (e ∷ before) at)

marked : (count mark : ℕ) (o : Option ℕ) → count ≤ mark → IfSome o (λ m. m ≡ mark) → IfSome o (λ m. count ≤ m)
marked count mark None low is = tt
marked count mark (Some m) low is = omega (arith, low, is)

pub marks_at_least : (count mark : ℕ) (history : History) → count ≤ mark → AllByRecursion (LivesAt mark) history → MarksAtLeast count history
marks_at_least count mark [] low at = tt
marks_at_least count mark (e ∷ history) low at = (marked count mark (mark_of e) low at.0, marks_at_least count mark history low at.1)
