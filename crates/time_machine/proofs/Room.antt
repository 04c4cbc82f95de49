-- At most eight requests are open, and no two of them have the same count, whatever happened.
use Rattle.std.proofs.Common.{◌≡◌, ◌≢◌, ℕ, ◌+◌, ◌<◌, ◌≤◌, ◌==◌, Bool, true, false, not, ◌&&◌, ◌||◌, List, [], ◌∷◌, ◌++◌, length, Option, None, unwrap_or, refl, arith, if◌then◌else◌, ℤ, bit_and}
use Rattle.std.specs.List.{AllByRecursion, IsDistinct}
use Rattle.std.proofs.lemmas.List.{length-append}
use Rattle.std.proofs.lemmas.Bool.Decides.{Decides-eqb}
use Rattle.capture_fmt.specs.declared.event.Event.{Event}
use Rattle.capture_fmt.specs.declared.event.Event.TheVariants.{Life, Tick, Resync, Arrive}
use Rattle.time_machine.specs.declared.outcome.Request.{Request}
use Rattle.time_machine.specs.declared.conf.Conf.{Conf}
use Rattle.time_machine.specs.Events.{History}
use Rattle.time_machine.specs.Words.{Words, words}
use Rattle.time_machine.specs.Machine.{told, is_due, count_at}
use Rattle.time_machine.specs.Laws.{LawOfRoom, LawOfOne}
use Rattle.time_machine.specs.After.{after, after_send, after_arrival}
use Rattle.time_machine.specs.Kept.{kept}
use Rattle.time_machine.proofs.After.{words_after, verdict_cases}
use Rattle.time_machine.proofs.Lists.{all_push, all_weaken}

abbrev pub same_count : Request → Request → Bool
same_count a b = a.count == b.count

differ : (m n : ℕ) → m < n → (m == n) ≡ false
differ m n h = grind arith

distinct_push : (xs : List Request) (r : Request) → AllByRecursion (λ q. same_count q r ≡ false) xs → IsDistinct same_count xs → IsDistinct same_count (xs ++ r ∷ [])
unfolding IsDistinct
distinct_push [] r h d = (tt, tt)
distinct_push (x ∷ xs) r h d = (all_push (λ y. same_count x y ≡ false) xs r d.0 h.0, distinct_push xs r h.1 d.1)

-- what holds of the open requests, by the mark and what was sent since
record HaveRoom (mark : Option ℕ) (sent : ℕ) (xs : List Request) : Type 0 where
  few : length xs ≤ 8
  low : AllByRecursion (λ r. r.count ≤ unwrap_or mark 0 + sent) xs
  distinct : IsDistinct same_count xs

abbrev HaveRoomBy : Words → Type 0
HaveRoomBy w = HaveRoom w.mark w.sent w.open_requests

room_none : (mark : Option ℕ) (sent : ℕ) → HaveRoom mark sent []
unfolding IsDistinct
room_none mark sent = record { few = omega arith; low = tt; distinct = tt }

room_one : (mark : Option ℕ) (sent : ℕ) (r : Request) → r.count ≡ unwrap_or mark 0 + sent + 1 → HaveRoom mark (sent + 1) (r ∷ [])
unfolding IsDistinct
room_one mark sent r e = record { few = omega arith; low = (omega arith, tt); distinct = (tt, tt) }

room_send : (mark : Option ℕ) (sent : ℕ) (xs : List Request) (turns : Bool) (r : Request) → HaveRoom mark sent xs → (turns ≡ false → length xs ≢ 8) →
    r.count ≡ unwrap_or mark 0 + sent + 1 → HaveRoom mark (sent + 1) ((if turns then [] else xs) ++ r ∷ [])
room_send mark sent xs true r s room e = room_one mark sent r e
room_send mark sent xs false r s room e =
    let f = s.few in
    let left : length xs ≢ 8 = room refl in
    record {
      few = omega (arith, length-append xs (r ∷ []));
      low = all_push _ xs r (all_weaken (λ q. q.count ≤ unwrap_or mark 0 + sent) (λ q. q.count ≤ unwrap_or mark 0 + (sent + 1)) (λ q h. omega arith) xs s.low) (omega arith);
      distinct = distinct_push xs r (all_weaken (λ q. q.count ≤ unwrap_or mark 0 + sent) (λ q. same_count q r ≡ false) (λ q h. differ q.count r.count (omega arith)) xs s.low) s.distinct;
    }

-- where eight are open, an event that sends is a turning point
not_eight : (n : ℕ) → (n == 8) ≡ false → n ≢ 8
not_eight n f e = let t : (n == 8) ≡ true = (Decides-eqb n 8).1 e in cc

turns_unless : (b full : Bool) → (b || (not b && full)) ≡ false → full ≡ false
turns_unless true full e = cc
turns_unless false full e = e

room_tick : (conf : Conf) (w : Words) (now : ℤ) (word : ℕ) (due : Bool) → HaveRoomBy w →
    HaveRoomBy (if due then after_send conf w false (due && true && (length w.open_requests == 8)) now word else w)
room_tick conf w now word true s =
    room_send w.mark w.sent w.open_requests (length w.open_requests == 8) (record { count = count_at w; word = word; at = now }) s (not_eight (length w.open_requests)) refl
room_tick conf w now word false s = s

room_after : (conf : Conf) (w : Words) (e : Event) → HaveRoomBy w → HaveRoomBy (after conf w e)
room_after conf w (Life now mark) s = room_none _ _
room_after conf w (Tick now word) s = room_tick conf w now word (is_due w now) s
room_after conf w (Resync now word flags) s =
    let b = bit_and flags 4 == 4 in
    let full = length w.open_requests == 8 in
    room_send w.mark w.sent w.open_requests (b || (not b && full)) (record { count = count_at w; word = word; at = now }) s
    (λ e. not_eight (length w.open_requests) (turns_unless b full e)) refl
room_after conf w (Arrive now from bytes) s =
    verdict_cases (λ o. HaveRoomBy (after_arrival conf w now o)) (λ reason. s) conf w now from bytes (λ r e offset how. room_none _ _)

room_told : (conf : Conf) (history : History) → HaveRoomBy (words conf (told conf history))
unfolding told words
room_told conf [] = room_none None 0
room_told conf (e ∷ history) =
    let before = told conf history in
    let step = room_after conf (kept conf (words conf before)) e (room_told conf history) in
    rw (← words_after conf before e) at step

pub room_is_left : LawOfRoom
room_is_left conf history = (room_told conf history).few

pub one_open : LawOfOne
one_open conf history = (room_told conf history).distinct
