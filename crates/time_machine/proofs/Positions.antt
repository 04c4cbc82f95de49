-- The words on a line, by positions.
use Rattle.std.proofs.Common.{◌≡◌, ℕ, suc, ◌≤◌, max, Bool, true, false, ◌||◌, List, [], ◌∷◌, ◌++◌, length, Option, Some, None, IsSome, ℤ, refl, ap, ◌∙◌, arith, if◌then◌else◌}
use Rattle.std.specs.Prelude.{is_some}
use Rattle.std.specs.List.{AllByRecursion}
use Rattle.std.proofs.lemmas.List.{append-nil, length-append}
use Rattle.phase_rule.specs.declared.limits.Limits.{Limits}
use Rattle.time_machine.specs.declared.outcome.Request.{Request}
use Rattle.capture_fmt.specs.declared.event.Event.{Event}
use Rattle.capture_fmt.specs.declared.event.Event.TheVariants.{Life, Tick, Resync, Arrive}
use Rattle.time_machine.specs.declared.outcome.Outcome.{Outcome}
use Rattle.time_machine.specs.declared.outcome.Outcome.TheVariants.{Started, Idle, Sent, Moved, Refused}
use Rattle.time_machine.specs.declared.conf.Conf.{Conf}
use Rattle.time_machine.specs.Entries.{after_last, from_last, count_of, last_of, or_else}
use Rattle.time_machine.specs.Told.{Told, is_turning_point, is_accepted, has_sent, base_left, offset_moved, request_of, request_sent, count_sent}
use Rattle.time_machine.specs.Words.{words, since, life_at, poll_set, poll_at, all_sent, some_of, greatest_count}
use Rattle.time_machine.specs.Machine.{told, told_by}
use Rattle.time_machine.specs.Growing.{Grows, MayFollow}
use Rattle.time_machine.specs.Events.{word_of, is_life, is_reset, reading_of, mark_of}
use Rattle.time_machine.specs.Positions.{LawOfSince, LawOfThisLife, LawOfLifeWords, LawOfBase, LawOfSource, LawOfNothing, LawOfChanges, LawOfPoll, LawOfEight, LawOfGreatest, LawOfFirst, LawOfPrefix}
use Rattle.time_machine.proofs.Counting.{counts_low}
use Rattle.time_machine.proofs.Lists.{all_split}

from_last_at : {A : Type 0} (test : A → Bool) (newer older : List A) (x : A) → AllByRecursion (λ y. test y ≡ false) newer → test x ≡ true →
    from_last test (newer ++ x ∷ older) ≡ newer ++ x ∷ []
from_last_at test [] older x h e = rw e refl
from_last_at test (y ∷ newer) older x h e = rw h.0 (ap (λ zs. y ∷ zs) (from_last_at test newer older x h.1 e))

after_last_at : {A : Type 0} (test : A → Bool) (newer older : List A) (x : A) → AllByRecursion (λ y. test y ≡ false) newer → test x ≡ true →
    after_last test (newer ++ x ∷ older) ≡ newer
after_last_at test [] older x h e = rw e refl
after_last_at test (y ∷ newer) older x h e = rw h.0 (ap (λ zs. y ∷ zs) (after_last_at test newer older x h.1 e))

after_last_along : {A : Type 0} (test : A → Bool) (newer older : List A) → AllByRecursion (λ y. test y ≡ false) newer →
    after_last test (newer ++ older) ≡ newer ++ after_last test older
after_last_along test [] older h = refl
after_last_along test (y ∷ newer) older h = rw h.0 (ap (λ zs. y ∷ zs) (after_last_along test newer older h.1))

or_some : {B : Type 0} (o p : Option B) → IsSome o → or_else o p ≡ o
or_some (Some b) p s = refl
or_some None p s = cc

last_of_at : {A B : Type 0} (f : A → Option B) (newer older : List A) (x : A) → AllByRecursion (λ y. f y ≡ None) newer → IsSome (f x) → last_of f (newer ++ x ∷ older) ≡ f x
last_of_at f [] older x h s = or_some (f x) (last_of f older) s
last_of_at f (y ∷ newer) older x h s = rw h.0 (last_of_at f newer older x h.1 s)

front_all : {A : Type 0} (P : A → Type 0) (newer : List A) (x : A) → AllByRecursion P (newer ++ x ∷ []) → AllByRecursion P newer × P x
front_all P [] x h = (tt, h.0)
front_all P (y ∷ newer) x h = let rest = front_all P newer x h.1 in ((h.0, rest.0), rest.1)

pub since_at : LawOfSince
since_at newer older t h e = from_last_at is_turning_point newer older t h e

pub this_life_at : LawOfThisLife
this_life_at newer older t h e = after_last_at (λ s. is_life s.event) newer older t h e

pub base_at : LawOfBase
unfolding words
base_at conf newer older t h n s =
    let f : Told → Option ℤ = λ u. base_left (reading_of u.event) u.outcome in
    let lives = front_all (λ u. is_life u.event ≡ false) newer t h in
    let front = after_last_along (λ u. is_life u.event) newer (t ∷ older) lives.0 in
    rw (front, lives.1) (last_of_at f newer (life_at older) t n s)

weaken : {A : Type 0} (P Q : A → Type 0) → ((x : A) → P x → Q x) → (xs : List A) → AllByRecursion P xs → AllByRecursion Q xs
weaken P Q f [] h = tt
weaken P Q f (x ∷ xs) h = (f x h.0, weaken P Q f xs h.1)

last_of_none : {A B : Type 0} (f : A → Option B) (xs : List A) → AllByRecursion (λ y. f y ≡ None) xs → last_of f xs ≡ None
last_of_none f [] h = refl
last_of_none f (y ∷ ys) h = rw h.0 (last_of_none f ys h.1)

-- ---- The mark, and the sends

no_mark : (e : Event) → is_life e ≡ false → mark_of e ≡ None
no_mark (Life now mark) f = cc
no_mark (Tick now word) f = refl
no_mark (Resync now word flags) f = refl
no_mark (Arrive now from bytes) f = refl

has_mark : (e : Event) → is_life e ≡ true → IsSome (mark_of e)
has_mark (Life now mark) f = refl
has_mark (Tick now word) f = cc
has_mark (Resync now word flags) f = cc
has_mark (Arrive now from bytes) f = cc

pub life_words_at : LawOfLifeWords
unfolding words
life_words_at conf newer older t h e =
    let f : Told → Option ℕ = λ s. mark_of s.event in
    let none = weaken (λ s. is_life s.event ≡ false) (λ s. f s ≡ None) (λ s k. no_mark s.event k) newer h in
    (last_of_at f newer older t none (has_mark t.event e), ap (λ xs. count_of has_sent xs) (this_life_at newer older t h e))

-- ---- The source

abbrev source_left : Told → Option ℕ
source_left t = if is_accepted t then Some t.partner else None

no_source : (t : Told) → is_accepted t ≡ false → source_left t ≡ None
no_source t e = rw e refl

has_source : (t : Told) → is_accepted t ≡ true → source_left t ≡ Some t.partner
has_source t e = rw e refl

some_from : {B : Type 0} (o : Option B) (b : B) → o ≡ Some b → IsSome o
some_from (Some c) b e = refl
some_from None b e = cc

pub source_at : LawOfSource
unfolding words
source_at conf newer older t h n e =
    let lives = front_all (λ u. is_life u.event ≡ false) newer t h in
    let front = after_last_along (λ u. is_life u.event) newer (t ∷ older) lives.0 in
    let none = weaken (λ s. is_accepted s ≡ false) (λ s. source_left s ≡ None) no_source newer n in
    rw (front, lives.1) (last_of_at source_left newer (life_at older) t none (some_from _ _ (has_source t e)) ∙ has_source t e)

-- ---- A life in which nothing was sent or accepted

no_base : (e : Event) (o : Outcome) → (is_some (request_sent e o) || is_some (offset_moved o)) ≡ false → base_left (reading_of e) o ≡ None
no_base d (Started mark) e = refl
no_base d Idle e = refl
no_base d (Sent to count bytes) e = cc
no_base d (Moved count offset how) e = cc
no_base d (Refused reason) e = refl

pub nothing_at : LawOfNothing
unfolding words
nothing_at conf newer older t h e =
    let life = this_life_at newer older t h e in
    let f : Told → Option ℤ = λ u. base_left (reading_of u.event) u.outcome in (
      λ n. rw life (last_of_none f newer (weaken (λ s. (has_sent s || is_accepted s) ≡ false) (λ s. f s ≡ None) (λ s k. no_base s.event s.outcome k) newer n)),
      λ n. rw life (last_of_none source_left newer (weaken (λ s. is_accepted s ≡ false) (λ s. source_left s ≡ None) no_source newer n)),
    )

-- ---- Changes, and the poll

pub changes_at : LawOfChanges
unfolding words
changes_at conf newer older t h e = ap (λ xs. count_of (λ s. s.changes) xs) (after_last_at (λ s. is_reset s.event) newer older t h e)

poll_along : (limits : Limits) (newer older : List Told) (t : Told) → AllByRecursion (λ s. is_turning_point s ≡ false) newer → is_turning_point t ≡ true →
    poll_at limits (newer ++ t ∷ older) ≡ poll_set limits (offset_moved t.outcome) (poll_at limits older)
poll_along limits [] older t h e = rw e refl
poll_along limits (s ∷ newer) older t h e = rw h.0 (poll_along limits newer older t h.1 e)

pub poll_law : LawOfPoll
unfolding words
poll_law conf newer older t h e = poll_along conf.limits newer older t h e

-- ---- Counts

one_of : {A : Type 0} (o : Option A) → length (some_of o) ≡ (if is_some o then 1 else 0)
one_of (Some x) = refl
one_of None = refl

requests_counted : (before : List Told) → length (all_sent before) ≡ count_of has_sent before
requests_counted [] = refl
requests_counted (t ∷ before) = rw (length-append (all_sent before) (some_of (request_of t)), requests_counted before, one_of (request_of t)) refl

pub eight_at : LawOfEight
unfolding words
eight_at conf before = requests_counted (since before)

low_sent : (e : Event) (o : Outcome) (xs : List Request) (rest mark : ℕ) → (AllByRecursion (λ r. r.count ≤ mark) xs → rest ≤ mark) →
    AllByRecursion (λ r. r.count ≤ mark) (xs ++ some_of (request_sent e o)) → max (count_sent o) rest ≤ mark
low_sent e (Sent to count bytes) xs rest mark f h =
    let s = all_split (λ r. r.count ≤ mark) xs (record { count = count; word = word_of e; at = reading_of e } ∷ []) h in
    let low = f s.0 in
    let last = s.1.0 in
    omega arith
low_sent e (Started m) xs rest mark f h = let low = f (rw (append-nil xs) at h) in omega arith
low_sent e Idle xs rest mark f h = let low = f (rw (append-nil xs) at h) in omega arith
low_sent e (Moved count offset how) xs rest mark f h = let low = f (rw (append-nil xs) at h) in omega arith
low_sent e (Refused reason) xs rest mark f h = let low = f (rw (append-nil xs) at h) in omega arith

greatest_low : (before : List Told) (mark : ℕ) → AllByRecursion (λ r. r.count ≤ mark) (all_sent before) → greatest_count before ≤ mark
greatest_low [] mark h = omega arith
greatest_low (t ∷ before) mark h = low_sent t.event t.outcome (all_sent before) (greatest_count before) mark (greatest_low before mark) h

pub greatest_at : LawOfGreatest
unfolding words
greatest_at conf before mark = (
  λ g. weaken (λ r. r.count ≤ greatest_count before) (λ r. r.count ≤ mark) (λ r k. omega arith) (all_sent before) (counts_low before),
  λ h. greatest_low before mark h,
)

-- ---- Histories

first_lives : (conf : Conf) (e : Event) → MayFollow conf (words conf []) e → is_life e ≡ true
unfolding words
first_lives conf (Life now mark) f = refl
first_lives conf (Tick now word) f = let no = f.0 in cc
first_lives conf (Resync now word flags) f = let no = f.0 in cc
first_lives conf (Arrive now from bytes) f = cc

pub first_at : LawOfFirst
unfolding Grows told
first_at conf [] e g = first_lives conf e g.1
first_at conf (d ∷ newer) e g = first_at conf newer e g.0

pub prefix_at : LawOfPrefix
unfolding told
prefix_at conf [] older = ([], refl, refl)
prefix_at conf (e ∷ newer) older =
    let rest = prefix_at conf newer older in
    (told_by conf (words conf (told conf (newer ++ older))) e ∷ rest.0, ap (λ xs. told_by conf (words conf (told conf (newer ++ older))) e ∷ xs) rest.1, ap suc rest.2)
