-- What holds at the end of each history that grows: the counts are bounded, and what is open is fresh.
use Rattle.std.proofs.Common.{◌≡◌, ◌≢◌, ℕ, ◌+◌, ◌<◌, ◌≤◌, max, Bool, true, false, not, ◌&&◌, ◌||◌, ◌==◌, List, [], ◌∷◌, ◌++◌, length, cond, Option, Some, IfSome, unwrap_or, refl, subst, arith, if◌then◌else◌, ℤ, bit_and, find}
use Rattle.std.specs.List.{AllByRecursion}
use Rattle.std.proofs.Math.Nat.{zero-max}
use Rattle.std.proofs.lemmas.List.{append-nil}
use Rattle.edge_traits.specs.declared.datagram.Addr.{Addr}
use Rattle.time_machine.specs.declared.outcome.Request.{Request}
use Rattle.capture_fmt.specs.declared.event.Event.{Event}
use Rattle.capture_fmt.specs.declared.event.Event.TheVariants.{Life, Tick, Resync, Arrive}
use Rattle.time_machine.specs.declared.outcome.Outcome.{Outcome}
use Rattle.time_machine.specs.declared.outcome.Outcome.TheVariants.{Started, Idle, Sent, Moved, Refused}
use Rattle.time_machine.specs.declared.conf.Conf.{Conf}
use Rattle.time_machine.specs.Entries.{up_to_last}
use Rattle.time_machine.specs.Events.{History, is_life, reading_of, word_of}
use Rattle.time_machine.specs.Words.{Words, words, greatest_count, all_sent, some_of}
use Rattle.time_machine.specs.Told.{Told, count_moved, count_sent, request_sent}
use Rattle.time_machine.specs.Machine.{told, is_due, count_at, outcome_by, outcome_at}
use Rattle.ntp_wire.specs.Fields.{originate_of}
use Rattle.time_machine.specs.Verdict.{is_answered}
use Rattle.time_machine.specs.Growing.{MayFollow, Grows}
use Rattle.time_machine.specs.Laws.{IsFirstMove, LawOfLives, LawOfCounts, LawOfMoves}
use Rattle.time_machine.specs.After.{after, after_send, after_arrival}
use Rattle.time_machine.specs.Kept.{kept}
use Rattle.time_machine.proofs.Lists.{all_push, all_weaken}
use Rattle.time_machine.proofs.After.{words_after, verdict_cases, outcome_kept, may_follow_kept, coe_by}

found_holds : {A : Type 0} (P : A → Type 0) (y x : A) (rest : Option A) → P y → (rest ≡ Some x → P x) → (b : Bool) → cond b (Some y) rest ≡ Some x → P x
found_holds P y x rest p later true e = subst P (let same : y ≡ x = cc in same) p
found_holds P y x rest p later false e = later e

all_find : {A : Type 0} (P : A → Type 0) (test : A → Bool) (xs : List A) (x : A) → AllByRecursion P xs → find test xs ≡ Some x → P x
all_find P test [] x h e = absurd (let no : ⊥ = cc in no)
all_find P test (y ∷ ys) x h e = found_holds P y x (find test ys) h.0 (all_find P test ys x h.1) (test y) e

-- ---- What holds of the words, and of the greatest count that was moved

abbrev pub moved_number : Outcome → ℕ
moved_number o = unwrap_or (count_moved o) 0

abbrev pub greatest_moved : List Told → ℕ
greatest_moved [] = 0
greatest_moved (t ∷ before) = max (moved_number t.outcome) (greatest_moved before)

pub record Sound (mark : Option ℕ) (sends greatest : ℕ) (open_requests : List Request) (moved : ℕ) : Type 0 where
  pub counted : greatest ≤ unwrap_or mark 0 + sends
  pub sent : AllByRecursion (λ r. r.count ≤ greatest) open_requests
  pub living : AllByRecursion (λ r. unwrap_or mark 0 < r.count) open_requests
  pub moved_sent : moved ≤ greatest
  pub fresh : AllByRecursion (λ r. moved < r.count) open_requests

abbrev SoundBy : Words → ℕ → Type 0
SoundBy w moved = Sound w.mark w.sent w.greatest w.open_requests moved

sound_send : (mark : Option ℕ) (sends greatest : ℕ) (xs : List Request) (moved : ℕ) (turns : Bool) (r : Request) →
    Sound mark sends greatest xs moved → r.count ≡ unwrap_or mark 0 + sends + 1 →
    Sound mark (sends + 1) (max (unwrap_or mark 0 + sends + 1) greatest) ((if turns then [] else xs) ++ r ∷ []) (max 0 moved)
sound_send mark sends greatest xs moved true r s e =
    let c = s.counted in
    let m = s.moved_sent in
    record {
      counted = omega arith;
      sent = (omega arith, tt);
      living = (omega arith, tt);
      moved_sent = omega arith;
      fresh = (omega arith, tt);
    }
sound_send mark sends greatest xs moved false r s e =
    let c = s.counted in
    let m = s.moved_sent in
    record {
      counted = omega arith;
      sent = all_push _ xs r (all_weaken (λ r. r.count ≤ greatest) (λ r. r.count ≤ max (unwrap_or mark 0 + sends + 1) greatest) (λ r h. omega arith) xs s.sent) (omega arith);
      living = all_push _ xs r s.living (omega arith);
      moved_sent = omega arith;
      fresh = all_push _ xs r (all_weaken (λ r. moved < r.count) (λ r. max 0 moved < r.count) (λ r h. omega arith) xs s.fresh) (omega arith);
    }

-- nothing is sent, moved or begun
sound_quiet : (w : Words) (moved : ℕ) → SoundBy w moved → SoundBy w (max 0 moved)
sound_quiet w moved s =
    let m = s.moved_sent in
    record {
      counted = s.counted;
      sent = s.sent;
      living = s.living;
      moved_sent = omega arith;
      fresh = all_weaken (λ r. moved < r.count) (λ r. max 0 moved < r.count) (λ r h. omega arith) w.open_requests s.fresh;
    }

sound_life : (w : Words) (moved mark : ℕ) → SoundBy w moved → w.greatest ≤ mark → Sound (Some mark) 0 w.greatest [] (max 0 moved)
sound_life w moved mark s h =
    let m = s.moved_sent in
    record { counted = omega arith; sent = tt; living = tt; moved_sent = omega arith; fresh = tt }

sound_move : (w : Words) (moved count : ℕ) → SoundBy w moved → count ≤ w.greatest → Sound w.mark w.sent w.greatest [] (max count moved)
sound_move w moved count s h =
    let m = s.moved_sent in
    record { counted = s.counted; sent = tt; living = tt; moved_sent = omega arith; fresh = tt }

sound_tick : (conf : Conf) (w : Words) (moved : ℕ) (now : ℤ) (word : ℕ) (due : Bool) (to : Addr) (bytes : List ℕ) → SoundBy w moved →
    SoundBy (if due then after_send conf w false (due && true && (length w.open_requests == 8)) now word else w)
    (max (moved_number (if due then Sent to (count_at w) bytes else Idle)) moved)
sound_tick conf w moved now word true to bytes s =
    sound_send w.mark w.sent w.greatest w.open_requests moved (length w.open_requests == 8) (record { count = count_at w; word = word; at = now }) s refl
sound_tick conf w moved now word false to bytes s = sound_quiet w moved s

pub sound_after : (conf : Conf) (w : Words) (moved : ℕ) (e : Event) → SoundBy w moved → MayFollow conf w e →
    SoundBy (after conf w e) (max (moved_number (outcome_by conf w e)) moved)
sound_after conf w moved (Life now mark) s f = sound_life w moved mark s f
sound_after conf w moved (Tick now word) s f = sound_tick conf w moved now word (is_due w now) _ _ s
sound_after conf w moved (Resync now word flags) s f =
    let b = bit_and flags 4 == 4 in
    let full = length w.open_requests == 8 in
    sound_send w.mark w.sent w.greatest w.open_requests moved (b || (not b && full)) (record { count = count_at w; word = word; at = now }) s refl
sound_after conf w moved (Arrive now from bytes) s f =
    verdict_cases (λ o. SoundBy (after_arrival conf w now o) (max (moved_number o) moved))
    (λ reason. sound_quiet w moved s)
    conf w now from bytes
    (λ r e offset how. sound_move w moved r.count s (all_find (λ r. r.count ≤ w.greatest) (is_answered now (originate_of bytes)) w.open_requests r s.sent e))

-- ---- Each history that grows

pub sound_told : (conf : Conf) (history : History) → Grows conf history → SoundBy (words conf (told conf history)) (greatest_moved (told conf history))
unfolding Grows told words
sound_told conf [] g = record { counted = omega arith; sent = tt; living = tt; moved_sent = omega arith; fresh = tt }
sound_told conf (e ∷ history) g =
    let before = told conf history in
    let w = words conf before in
    let follows = coe_by (may_follow_kept conf w e) g.1 in
    let step = sound_after conf (kept conf w) (greatest_moved before) e (sound_told conf history g.0) follows in
    rw (outcome_kept conf w e, ← words_after conf before e) at step

-- ---- The laws

not_moved : (o : Outcome) (rest count : ℕ) → max (moved_number o) rest < count → count_moved o ≢ Some count
not_moved (Moved c offset how) rest count h e = let same : c ≡ count = cc in omega arith
not_moved (Started mark) rest count h e = cc
not_moved Idle rest count h e = cc
not_moved (Sent to c bytes) rest count h e = cc
not_moved (Refused reason) rest count h e = cc

first_move : (before : List Told) (count : ℕ) → greatest_moved before < count → IsFirstMove count before
first_move [] count h = tt
first_move (t ∷ before) count h = (not_moved t.outcome (greatest_moved before) count h, first_move before count (omega arith))

-- an accepted arrival answers a request that no earlier one has answered
abbrev FirstMove : Outcome → List Told → Type 0
FirstMove o before = IfSome (count_moved o) (λ count. IsFirstMove count before)

no_move : (due : Bool) (to : Addr) (count : ℕ) (bytes : List ℕ) (before : List Told) → FirstMove (if due then Sent to count bytes else Idle) before
no_move true to count bytes before = tt
no_move false to count bytes before = tt

pub moves_first : (conf : Conf) (history : History) (e : Event) → Grows conf history →
    IfSome (count_moved (outcome_at conf history e)) (λ count. IsFirstMove count (told conf history))
unfolding outcome_at
moves_first conf history (Life now mark) g = tt
moves_first conf history (Tick now word) g = no_move (is_due (words conf (told conf history)) now) _ _ _ _
moves_first conf history (Resync now word flags) g = tt
moves_first conf history (Arrive now from bytes) g =
    let before = told conf history in
    let w = words conf before in
    let s = sound_told conf history g in
    verdict_cases (λ o. FirstMove o before) (λ reason. tt) conf w now from bytes
    (λ r e offset how. first_move before r.count (all_find (λ r. greatest_moved before < r.count) (is_answered now (originate_of bytes)) w.open_requests r s.fresh e))

pub moves_once : LawOfMoves
unfolding told Grows outcome_at
moves_once conf [] g = tt
moves_once conf (e ∷ history) g = (moves_first conf history e g.0, moves_once conf history g.0)

with_sent : (e : Event) (o : Outcome) (before : List Told) → AllByRecursion (λ r. r.count ≤ greatest_count before) (all_sent before) →
    AllByRecursion (λ r. r.count ≤ max (count_sent o) (greatest_count before)) (all_sent before ++ some_of (request_sent e o))
with_sent e (Sent to count bytes) before h =
    all_push _ (all_sent before) (record { count = count; word = word_of e; at = reading_of e })
    (all_weaken (λ r. r.count ≤ greatest_count before) (λ r. r.count ≤ max count (greatest_count before)) (λ r k. omega arith) (all_sent before) h) (omega arith)
with_sent e (Started mark) before h = rw (append-nil (all_sent before), zero-max (greatest_count before)) h
with_sent now Idle before h = rw (append-nil (all_sent before), zero-max (greatest_count before)) h
with_sent e (Moved count offset how) before h = rw (append-nil (all_sent before), zero-max (greatest_count before)) h
with_sent e (Refused reason) before h = rw (append-nil (all_sent before), zero-max (greatest_count before)) h

-- every count that was sent is at most the greatest
pub counts_low : (before : List Told) → AllByRecursion (λ r. r.count ≤ greatest_count before) (all_sent before)
counts_low [] = tt
counts_low (t ∷ before) = with_sent t.event t.outcome before (counts_low before)

abbrev IsAbove : Option Request → List Request → Type 0
IsAbove o xs = IfSome o (λ r. AllByRecursion (λ earlier. earlier.count < r.count) xs)

above_tick : (due : Bool) (e : Event) (to : Addr) (count : ℕ) (bytes : List ℕ) (xs : List Request) → AllByRecursion (λ r. r.count < count) xs →
    IsAbove (request_sent e (if due then Sent to count bytes else Idle)) xs
above_tick true e to count bytes xs h = h
above_tick false e to count bytes xs h = tt

count_above : (conf : Conf) (history : History) → Grows conf history →
    AllByRecursion (λ r. r.count < count_at (words conf (told conf history))) (all_sent (told conf history))
unfolding words
count_above conf history g =
    let before = told conf history in
    let counted = (sound_told conf history g).counted in
    all_weaken (λ r. r.count ≤ greatest_count before) (λ r. r.count < count_at (words conf before)) (λ r h. omega arith) (all_sent before) (counts_low before)

above : (conf : Conf) (history : History) (e : Event) → Grows conf history →
    IsAbove (request_sent e (outcome_by conf (words conf (told conf history)) e)) (all_sent (told conf history))
above conf history (Life now mark) g = tt
above conf history (Tick now word) g = above_tick (is_due (words conf (told conf history)) now) (Tick now word) _ _ _ (all_sent (told conf history)) (count_above conf history g)
above conf history (Resync now word flags) g = count_above conf history g
above conf history (Arrive now from bytes) g =
    verdict_cases (λ o. IsAbove (request_sent (Arrive now from bytes) o) (all_sent (told conf history))) (λ reason. tt) conf (words conf (told conf history)) now from bytes (λ r e offset how. tt)

pub counts_rise : LawOfCounts
unfolding told Grows
counts_rise conf [] g = tt
counts_rise conf (e ∷ history) g = (above conf history e g.0, counts_rise conf history g.0)

-- ---- Lives

abbrev pub earlier_lives : List Told → List Told
earlier_lives before = up_to_last (λ t. is_life t.event) before

-- every count of an earlier life is at most the mark
pub lives_low : (conf : Conf) (history : History) → Grows conf history →
    greatest_count (earlier_lives (told conf history)) ≤ unwrap_or (words conf (told conf history)).mark 0
unfolding told Grows words
lives_low conf [] g = omega arith
lives_low conf (Life now mark ∷ history) g = let f = g.1 in omega arith
lives_low conf (Tick now word ∷ history) g = lives_low conf history g.0
lives_low conf (Resync now word flags ∷ history) g = lives_low conf history g.0
lives_low conf (Arrive now from bytes ∷ history) g = lives_low conf history g.0

abbrev NoneOf : Outcome → List Request → Type 0
NoneOf o xs = IfSome (count_moved o) (λ count. AllByRecursion (λ r. r.count ≢ count) xs)

none_tick : (due : Bool) (to : Addr) (count : ℕ) (bytes : List ℕ) (xs : List Request) → NoneOf (if due then Sent to count bytes else Idle) xs
none_tick true to count bytes xs = tt
none_tick false to count bytes xs = tt

pub moves_live : LawOfLives
unfolding outcome_at
moves_live conf history (Life now mark) g = tt
moves_live conf history (Tick now word) g = none_tick (is_due (words conf (told conf history)) now) _ _ _ _
moves_live conf history (Resync now word flags) g = tt
moves_live conf history (Arrive now from bytes) g =
    let before = told conf history in
    let w = words conf before in
    let lives = earlier_lives before in
    let low = lives_low conf history g in
    verdict_cases (λ o. NoneOf o (all_sent lives)) (λ reason. tt) conf w now from bytes
    (λ r e offset how.
    let above : unwrap_or w.mark 0 < r.count = all_find (λ r. unwrap_or w.mark 0 < r.count) (is_answered now (originate_of bytes)) w.open_requests r (sound_told conf history g).living e in
    all_weaken (λ q. q.count ≤ greatest_count lives) (λ q. q.count ≢ r.count) (λ q k s. omega arith) (all_sent lives) (counts_low lives))
