-- The numbers of a history with one event more, and how great they are.
use Rattle.std.proofs.Common.{◌≡◌, ℕ, suc, ◌+◌, ◌<◌, ◌≤◌, ◌^◌, max, Bool, true, false, List, [], ◌∷◌, length, arith, if◌then◌else◌, is_some, refl}
use Rattle.edge_traits.specs.declared.datagram.Addr.{Addr}
use Rattle.capture_fmt.specs.declared.event.Event.{Event}
use Rattle.capture_fmt.specs.declared.event.Event.TheVariants.{Life, Tick, Resync, Arrive}
use Rattle.time_machine.specs.declared.conf.Conf.{Conf}
use Rattle.time_machine.specs.declared.outcome.Outcome.{Outcome}
use Rattle.time_machine.specs.declared.outcome.Outcome.TheVariants.{Started, Idle, Sent, Moved, Refused}
use Rattle.time_machine.specs.Entries.{count_of}
use Rattle.time_machine.specs.Events.{History}
use Rattle.time_machine.specs.Told.{Told, request_sent, count_sent, offset_moved}
use Rattle.time_machine.specs.Words.{Words, words, greatest_count}
use Rattle.time_machine.specs.Machine.{told, is_due, count_at, outcome_by, outcome_at}
use Rattle.time_machine.specs.Growing.{MayFollow, HasCounts, Grows}
use Rattle.time_machine.proofs.After.{verdict_cases}
use Rattle.time_machine.proofs.Counting.{sound_told}
use Rattle.replay_run.specs.declared.end.ReplayEnd.{ReplayEnd}
use Rattle.replay_run.specs.Totals.{is_refused, sent_in, moved_in, refused_in, AreTotals}
use Rattle.replay_run.specs.Running.{counted, FitsNumbers}

-- ---- One event more

-- what an outcome adds to each number
record Adds (e : Event) (o : Outcome) (sent moved refused : ℕ) (n : ReplayEnd) : Type 0 where
  sent_is : n.sent ≡ sent + (if is_some (request_sent e o) then 1 else 0)
  moved_is : n.moved ≡ moved + (if is_some (offset_moved o) then 1 else 0)
  refused_is : n.refused ≡ refused + (if is_refused o then 1 else 0)

adds : (e : Event) (o : Outcome) (n : ReplayEnd) (sent moved refused : ℕ) → n.sent ≡ sent → n.moved ≡ moved → n.refused ≡ refused → Adds e o sent moved refused (counted o n)
adds e (Sent to count bytes) n sent moved refused s m r = record { sent_is = omega (arith, s); moved_is = omega (arith, m); refused_is = omega (arith, r) }
adds e (Moved count offset how) n sent moved refused s m r = record { sent_is = omega (arith, s); moved_is = omega (arith, m); refused_is = omega (arith, r) }
adds e (Refused reason) n sent moved refused s m r = record { sent_is = omega (arith, s); moved_is = omega (arith, m); refused_is = omega (arith, r) }
adds e (Started mark) n sent moved refused s m r = record { sent_is = omega (arith, s); moved_is = omega (arith, m); refused_is = omega (arith, r) }
adds e Idle n sent moved refused s m r = record { sent_is = omega (arith, s); moved_is = omega (arith, m); refused_is = omega (arith, r) }

pub totals_more : (conf : Conf) (history : History) (e : Event) (n : ReplayEnd) → AreTotals conf history n → AreTotals conf (e ∷ history) (counted (outcome_at conf history e) n)
unfolding told outcome_at
totals_more conf history e n are =
    let more = adds e (outcome_by conf (words conf (told conf history)) e) n (sent_in conf history) (moved_in conf history) (refused_in conf history) are.sent are.moved are.refused in
    record { sent = more.sent_is; moved = more.moved_is; refused = more.refused_is }

pub totals_none : (conf : Conf) (n : ReplayEnd) → n.sent ≡ 0 → n.moved ≡ 0 → n.refused ≡ 0 → AreTotals conf [] n
unfolding told
totals_none conf n s m r = record { sent = s; moved = m; refused = r }

-- ---- How great they are

one_more : (b : Bool) (n m : ℕ) → n ≤ m → n + (if b then 1 else 0) ≤ suc m
one_more true n m most = omega arith
one_more false n m most = omega arith

few : (conf : Conf) (test : Told → Bool) (history : History) → count_of test (told conf history) ≤ length history
unfolding told
few conf test [] = omega arith
few conf test (e ∷ history) = one_more (test _) (count_of test (told conf history)) (length history) (few conf test history)

-- the greatest count after an outcome is above the one before where that is a request, and within 32 bits
record Rises (e : Event) (o : Outcome) (greatest : ℕ) : Type 0 where
  above : greatest + (if is_some (request_sent e o) then 1 else 0) ≤ max (count_sent o) greatest
  within : max (count_sent o) greatest < 2 ^ 32

rises_not : (e : Event) (o : Outcome) (greatest : ℕ) → greatest < 2 ^ 32 → is_some (request_sent e o) ≡ false → count_sent o ≡ 0 → Rises e o greatest
rises_not e o greatest low none zero_is = record { above = rw (none, zero_is) (omega arith); within = rw zero_is (omega arith) }

rises_tick : (due : Bool) (e : Event) (to : Addr) (count : ℕ) (bytes : List ℕ) (greatest : ℕ) → greatest < 2 ^ 32 → greatest < count → count < 2 ^ 32
    → Rises e (if due then Sent to count bytes else Idle) greatest
rises_tick true e to count bytes greatest low above within = record { above = omega arith; within = omega arith }
rises_tick false e to count bytes greatest low above within = rises_not e Idle greatest low refl refl

-- the next count is within 32 bits where counts are left
count_within : (w : Words) → HasCounts w → count_at w < 2 ^ 32
count_within w has = let below = has.1 in omega arith

rises : (conf : Conf) (w : Words) (e : Event) (greatest : ℕ) → greatest < 2 ^ 32 → greatest < count_at w → MayFollow conf w e → Rises e (outcome_by conf w e) greatest
rises conf w (Life now mark) greatest low above follows = rises_not (Life now mark) (Started mark) greatest low refl refl
rises conf w (Tick now word) greatest low above follows = rises_tick (is_due w now) (Tick now word) _ _ _ greatest low above (count_within w follows)
rises conf w (Resync now word flags) greatest low above follows = rises_tick true (Resync now word flags) _ _ _ greatest low above (count_within w follows)
rises conf w (Arrive now from bytes) greatest low above follows =
    verdict_cases (λ o. Rises (Arrive now from bytes) o greatest) (λ reason. rises_not (Arrive now from bytes) (Refused reason) greatest low refl refl)
    conf w now from bytes (λ r is offset how. rises_not (Arrive now from bytes) (Moved r.count offset how) greatest low refl refl)

-- as many requests are sent as the greatest count says, at most, and that is within 32 bits
record IsLow (conf : Conf) (history : History) : Type 0 where
  sent : sent_in conf history ≤ greatest_count (told conf history)
  within : greatest_count (told conf history) < 2 ^ 32

greatest_below : (conf : Conf) (history : History) → Grows conf history → greatest_count (told conf history) < count_at (words conf (told conf history))
unfolding words
greatest_below conf history grows = let counted = (sound_told conf history grows).counted in omega arith

is_low : (conf : Conf) (history : History) → Grows conf history → IsLow conf history
unfolding told Grows
is_low conf [] grows = record { sent = omega arith; within = omega arith }
is_low conf (e ∷ history) grows =
    let before = is_low conf history grows.0 in
    let step = rises conf (words conf (told conf history)) e (greatest_count (told conf history)) before.within (greatest_below conf history grows.0) grows.1 in
    record { sent = omega (arith, before.sent, step.above); within = step.within }

-- so each number of a history that grows fits its type, one event more counted
pub room : (conf : Conf) (history : History) (e : Event) (n : ReplayEnd) → AreTotals conf history n → Grows conf (e ∷ history) → length history + 1 < 2 ^ 64
    → FitsNumbers (counted (outcome_at conf history e) n)
room conf history e n are grows short =
    let more = totals_more conf history e n are in
    let low = is_low conf (e ∷ history) grows in
    record {
      sent = omega (arith, more.sent, low.sent, low.within);
      moved = omega (arith, more.moved, few conf (λ t. is_some (offset_moved t.outcome)) (e ∷ history), short);
      refused = omega (arith, more.refused, few conf (λ t. is_refused t.outcome) (e ∷ history), short);
    }
