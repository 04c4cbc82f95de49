-- One history after another. What stands before an event looks no further back than the last Life, but for the greatest count.
use Rattle.std.proofs.Common.{◌≡◌, ℕ, ◌≤◌, max, Bool, true, false, ◌||◌, List, [], ◌∷◌, ◌++◌, Option, Some, None, ◌⊎◌, inl, inr, IfSome, IsSome, refl, sym, ap, arith, if◌then◌else◌, ℤ}
use Rattle.std.specs.List.{AllByRecursion, list_any}
use Rattle.std.proofs.lemmas.List.{append_assoc, append-nil}
use Rattle.std.proofs.Math.Nat.{zero-max}
use Rattle.phase_rule.specs.declared.limits.Limits.{Limits}
use Rattle.capture_fmt.specs.declared.event.Event.{Event}
use Rattle.capture_fmt.specs.declared.event.Event.TheVariants.{Life, Tick, Resync, Arrive}
use Rattle.time_machine.specs.declared.conf.Conf.{Conf}
use Rattle.time_machine.specs.Entries.{gather, after_last, from_last, last_of, or_else}
use Rattle.time_machine.specs.Words.{Words, words, poll_set, poll_at, greatest_count}
use Rattle.time_machine.specs.Told.{Told, is_turning_point, is_accepted, offset_moved, count_sent}
use Rattle.time_machine.specs.Machine.{told, told_by, outcome_at, outcomes, posted_by, moves_by, requests_of, moves_of}
use Rattle.time_machine.specs.Report.{line_of, report_of}
use Rattle.time_machine.specs.Events.{History, is_life, is_reset, is_rediscovery, mark_of}
use Rattle.time_machine.specs.Growing.{MayFollow, Grows}
use Rattle.time_machine.specs.Laws.{MarksAtLeast, LawOfJoins}

-- ---- Lines

after_if : {A : Type 0} (b : Bool) (x : A) (xs ys : List A) → (b ≡ false → xs ≡ ys) → (if b then [] else x ∷ xs) ≡ (if b then [] else x ∷ ys)
after_if true x xs ys e = refl
after_if false x xs ys e = ap (λ zs. x ∷ zs) (e refl)

from_if : {A : Type 0} (b : Bool) (x : A) (xs ys : List A) → (b ≡ false → xs ≡ ys) → ◌≡◌ {A = List A} (x ∷ (if b then [] else xs)) (x ∷ (if b then [] else ys))
from_if true x xs ys e = refl
from_if false x xs ys e = ap (λ zs. x ∷ zs) (e refl)

rest_any : (b c : Bool) → (b || c) ≡ true → b ≡ false → c ≡ true
rest_any true c e f = cc
rest_any false c e f = e

after_last_join : {A : Type 0} (test : A → Bool) (newer older : List A) → list_any test newer ≡ true → after_last test (newer ++ older) ≡ after_last test newer
after_last_join test [] older e = cc
after_last_join test (x ∷ newer) older e = after_if (test x) x _ _ (λ f. after_last_join test newer older (rest_any (test x) (list_any test newer) e f))

from_last_join : {A : Type 0} (test : A → Bool) (newer older : List A) → list_any test newer ≡ true → from_last test (newer ++ older) ≡ from_last test newer
from_last_join test [] older e = cc
from_last_join test (x ∷ newer) older e = from_if (test x) x _ _ (λ f. from_last_join test newer older (rest_any (test x) (list_any test newer) e f))

or_else_join : {B : Type 0} (o : Option B) (p q : Option B) → IsSome (or_else o q) → (IsSome q → p ≡ q) → or_else o p ≡ or_else o q
or_else_join (Some b) p q s e = refl
or_else_join None p q s e = e s

last_of_join : {A B : Type 0} (f : A → Option B) (newer older : List A) → IsSome (last_of f newer) → last_of f (newer ++ older) ≡ last_of f newer
last_of_join f [] older s = cc
last_of_join f (x ∷ newer) older s = or_else_join (f x) (last_of f (newer ++ older)) (last_of f newer) s (λ t. last_of_join f newer older t)

any_step : (a b c d : Bool) → (a ≡ true → b ≡ true) → (c ≡ true → d ≡ true) → (a || c) ≡ true → (b || d) ≡ true
any_step true b c d f g e = rw (f refl) refl
any_step false true c d f g e = refl
any_step false false c d f g e = g e

any_weaken : {A : Type 0} (p q : A → Bool) → ((x : A) → p x ≡ true → q x ≡ true) → (xs : List A) → list_any p xs ≡ true → list_any q xs ≡ true
any_weaken p q f [] e = cc
any_weaken p q f (x ∷ xs) e = any_step (p x) (q x) (list_any p xs) (list_any q xs) (f x) (any_weaken p q f xs) e

-- ---- What stands before an event

abbrev lives : Told → Bool
lives t = is_life t.event

or_left : (a b : Bool) → a ≡ true → (a || b) ≡ true
or_left true b e = refl
or_left false b e = cc

life_resets : (t : Told) → lives t ≡ true → is_reset t.event ≡ true
life_resets t e = or_left (is_life t.event) (is_rediscovery t.event) e

life_turns : (t : Told) → lives t ≡ true → is_turning_point t ≡ true
life_turns t e = or_left (is_reset t.event || t.changes) (is_accepted t) (or_left (is_reset t.event) t.changes (life_resets t e))

marked : (e : Event) (o : Option ℕ) (b : Bool) → IsSome (or_else (mark_of e) o) → (IsSome o → b ≡ true) → (is_life e || b) ≡ true
marked (Life now mark) o b s f = refl
marked (Tick now word) o b s f = f s
marked (Resync now word flags) o b s f = f s
marked (Arrive now from bytes) o b s f = f s

-- a mark comes of a Life alone
marks_live : (before : List Told) → IsSome (last_of (λ t. mark_of t.event) before) → list_any lives before ≡ true
marks_live [] s = cc
marks_live (t ∷ before) s = marked t.event (last_of (λ t. mark_of t.event) before) (list_any lives before) s (marks_live before)

-- no Life is an accepted arrival
abbrev LivesQuietly : List Told → Type 0
LivesQuietly before = AllByRecursion (λ t. lives t ≡ true → offset_moved t.outcome ≡ None) before

poll_if : (limits : Limits) (life turns : Bool) (o : Option ℤ) (p q : ℕ) → (life ≡ true → o ≡ None) → (life ≡ true → turns ≡ true) → (life ≡ false → p ≡ q) →
    (if turns then poll_set limits o p else p) ≡ (if turns then poll_set limits o q else q)
poll_if limits true true o p q f g e = rw (f refl) refl
poll_if limits true false o p q f g e = let no : false ≡ true = g refl in cc
poll_if limits false turns o p q f g e = rw (e refl) refl

poll_join : (limits : Limits) (newer older : List Told) → LivesQuietly newer → list_any lives newer ≡ true → poll_at limits (newer ++ older) ≡ poll_at limits newer
poll_join limits [] older quiet e = cc
poll_join limits (t ∷ newer) older quiet e =
    poll_if limits (lives t) (is_turning_point t) (offset_moved t.outcome) (poll_at limits (newer ++ older)) (poll_at limits newer) quiet.0 (life_turns t)
    (λ f. poll_join limits newer older quiet.1 (rest_any (lives t) (list_any lives newer) e f))

-- the words with another greatest count
abbrev with_greatest : Words → ℕ → Words
with_greatest w g = record w { greatest = g }

words_join : (conf : Conf) (newer older : List Told) → LivesQuietly newer → IsSome (words conf newer).mark →
    words conf (newer ++ older) ≡ with_greatest (words conf newer) (greatest_count (newer ++ older))
unfolding words
words_join conf newer older quiet s =
    let e = marks_live newer s in
    let mark = last_of_join (λ t. mark_of t.event) newer older s in
    let life = after_last_join lives newer older e in
    let poll = poll_join conf.limits newer older quiet e in
    let reset = after_last_join (λ t. is_reset t.event) newer older (any_weaken lives (λ t. is_reset t.event) life_resets newer e) in
    let turn = from_last_join is_turning_point newer older (any_weaken lives is_turning_point life_turns newer e) in
    rw (mark, life, poll, reset, turn) refl

-- ---- Histories

told_greatest : (conf : Conf) (w : Words) (g : ℕ) (e : Event) → told_by conf (with_greatest w g) e ≡ told_by conf w e
told_greatest conf w g (Life now mark) = refl
told_greatest conf w g (Tick now word) = refl
told_greatest conf w g (Resync now word flags) = refl
told_greatest conf w g (Arrive now from bytes) = refl

quiet_told : (conf : Conf) (history : History) → LivesQuietly (told conf history)
unfolding told
quiet_told conf [] = tt
quiet_told conf (Life now mark ∷ history) = (λ e. refl, quiet_told conf history)
quiet_told conf (Tick now word ∷ history) = (λ e. cc, quiet_told conf history)
quiet_told conf (Resync now word flags ∷ history) = (λ e. cc, quiet_told conf history)
quiet_told conf (Arrive now from bytes ∷ history) = (λ e. cc, quiet_told conf history)

-- a Life doesn't look back
life_told : (conf : Conf) (v w : Words) (now : ℤ) (mark : ℕ) → told_by conf v (Life now mark) ≡ told_by conf w (Life now mark)
life_told conf v w now mark = refl

-- any other event may follow only where a Life came
marked_before : (conf : Conf) (w : Words) (e : Event) → MayFollow conf w e → (is_life e ≡ true) ⊎ IsSome w.mark
marked_before conf w (Life now mark) f = inl refl
marked_before conf w (Tick now word) f = inr f.0
marked_before conf w (Resync now word flags) f = inr f.0
marked_before conf w (Arrive now from bytes) f = inr f

told_once : (conf : Conf) (newer older : List Told) (e : Event) → LivesQuietly newer → MayFollow conf (words conf newer) e →
    told_by conf (words conf (newer ++ older)) e ≡ told_by conf (words conf newer) e
told_once conf newer older (Life now mark) quiet f = refl
told_once conf newer older (Tick now word) quiet f = rw (words_join conf newer older quiet f.0) refl
told_once conf newer older (Resync now word flags) quiet f = rw (words_join conf newer older quiet f.0) refl
told_once conf newer older (Arrive now from bytes) quiet f = rw (words_join conf newer older quiet f) refl

pub told_join : (conf : Conf) (newer older : History) → Grows conf newer → told conf (newer ++ older) ≡ told conf newer ++ told conf older
unfolding told Grows
told_join conf [] older g = refl
told_join conf (e ∷ newer) older g =
    rw (told_join conf newer older g.0, told_once conf (told conf newer) (told conf older) e (quiet_told conf newer) g.1) refl

max_assoc : (a b c d : ℕ) → b ≡ max c d → max a b ≡ max (max a c) d
max_assoc a b c d e = omega arith

greatest_join : (newer older : List Told) → greatest_count (newer ++ older) ≡ max (greatest_count newer) (greatest_count older)
greatest_join [] older = sym (zero-max (greatest_count older))
greatest_join (t ∷ newer) older = max_assoc (count_sent t.outcome) (greatest_count (newer ++ older)) (greatest_count newer) (greatest_count older) (greatest_join newer older)

life_follows : (conf : Conf) (newer older : List Told) (mark : ℕ) → (words conf newer).greatest ≤ mark → greatest_count older ≤ mark → (words conf (newer ++ older)).greatest ≤ mark
unfolding words
life_follows conf newer older mark f m = omega (arith, greatest_join newer older)

follows_join : (conf : Conf) (newer older : List Told) (e : Event) → LivesQuietly newer → MayFollow conf (words conf newer) e → IfSome (mark_of e) (λ mark. greatest_count older ≤ mark) →
    MayFollow conf (words conf (newer ++ older)) e
follows_join conf newer older (Life now mark) quiet f m = life_follows conf newer older mark f m
follows_join conf newer older (Tick now word) quiet f m = rw (words_join conf newer older quiet f.0) f
follows_join conf newer older (Resync now word flags) quiet f m = rw (words_join conf newer older quiet f.0) f
follows_join conf newer older (Arrive now from bytes) quiet f m = rw (words_join conf newer older quiet f) f

grows_join : (conf : Conf) (newer older : History) → Grows conf older → Grows conf newer → MarksAtLeast (greatest_count (told conf older)) newer → Grows conf (newer ++ older)
unfolding Grows told
grows_join conf [] older g h m = g
grows_join conf (e ∷ newer) older g h m =
    let f = follows_join conf (told conf newer) (told conf older) e (quiet_told conf newer) h.1 m.0 in
    (grows_join conf newer older g h.0 m.1, rw (told_join conf newer older h.0) f)

outcomes_join : (conf : Conf) (newer older : History) → Grows conf newer → outcomes conf (newer ++ older) ≡ outcomes conf older ++ outcomes conf newer
unfolding Grows outcomes outcome_at
outcomes_join conf [] older g = sym (append-nil (outcomes conf older))
outcomes_join conf (e ∷ newer) older g =
    let same = ap (λ t. t.outcome) (told_once conf (told conf newer) (told conf older) e (quiet_told conf newer) g.1) in
    rw (outcomes_join conf newer older g.0, told_join conf newer older g.0, same) (append_assoc (outcomes conf older) (outcomes conf newer) _)

gather_join : {A B : Type 0} (f : A → List B) (newer older : List A) → gather f (newer ++ older) ≡ gather f older ++ gather f newer
gather_join f [] older = sym (append-nil (gather f older))
gather_join f (x ∷ newer) older = rw (gather_join f newer older) (append_assoc (gather f older) (gather f newer) (f x))

led_join : {B : Type 0} (f : Told → List B) (conf : Conf) (newer older : History) → Grows conf newer →
    gather f (told conf (newer ++ older)) ≡ gather f (told conf older) ++ gather f (told conf newer)
led_join f conf newer older g = rw (told_join conf newer older g) (gather_join f (told conf newer) (told conf older))

pub histories_join : LawOfJoins
unfolding requests_of moves_of report_of
histories_join conf newer older g h m = (
  grows_join conf newer older g h m,
  outcomes_join conf newer older h,
  led_join (λ t. posted_by t.outcome) conf newer older h,
  led_join (λ t. moves_by t.outcome) conf newer older h,
  led_join (λ t. line_of t.outcome) conf newer older h,
)
