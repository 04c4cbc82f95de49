-- Requests in the order of their counts: adding one, and finding one.
use Rattle.std.proofs.Common.{◌≡◌, ◌≢◌, ℕ, ◌+◌, ◌-◌, ◌<◌, ◌≤◌, Bool, true, false, ◌&&◌, cond, if◌then◌else◌, List, [], ◌∷◌, ◌++◌, length, Option, Some, None, Result, Ok, Err, find, refl, sym, ◌∙◌, ap, arith, length-append, ℤ, pos, ◌+ℤ◌, zero, suc}
use Rattle.std.specs.Prelude.{◌==◌, int_le}
use Rattle.std.specs.Result.{result_ok}
use Rattle.std.specs.List.Sorted.{IsSearchInRange, IsBinarySearchResult, IsNonDecreasingBy}
use Rattle.std.specs.Ordering.{nat_cmp, ordering_index}
use Rattle.std.proofs.lemmas.Cmp.{ranked}
use Rattle.std.proofs.lemmas.List.{get_or_append_left, get_or_at}
use Rattle.std.proofs.lemmas.List.Sorted.{IsNonDecreasingBy-from_default}
use Rattle.std.proofs.lemmas.Bool.{cond-false}
use Rattle.std.proofs.lemmas.Bool.Decides.{nat_tests}
use Rattle.time_machine.specs.declared.outcome.Request.{Request}
use Rattle.time_machine.specs.Verdict.{is_answered}
use Rattle.ntp_wire.specs.declared.stamp.Stamp.{Stamp}
use Rattle.sntp_core.specs.Open.{AreBelow, IsPlaceOf, IsRising, request_in}

-- ---- What a list without requests has

pub none_rising : (list : List Request) → list ≡ [] → IsRising list
none_rising list none i j lt in_range = absurd (omega (arith, in_range, ap length none))

pub none_below : (count : ℕ) (list : List Request) → list ≡ [] → AreBelow count list
none_below count list none i in_range = absurd (omega (arith, in_range, ap length none))

-- ---- A request with a greater count, added at the end

module _ (list : List Request) (r : Request) where
  count_before : (i : ℕ) → i < length list → (request_in (list ++ r ∷ []) i).count ≡ (request_in list i).count
  count_before i lt = ap (λ (q : Request). q.count) (get_or_append_left list (r ∷ []) _ i lt)

  count_last : (i : ℕ) → i ≡ length list → (request_in (list ++ r ∷ []) i).count ≡ r.count
  count_last i last = ap (λ (q : Request). q.count) (get_or_at list r [] _ i (sym last))

  longer_by_one : length (list ++ r ∷ []) ≡ length list + 1
  longer_by_one = length-append list (r ∷ [])

  pub added_rising : IsRising list → AreBelow r.count list → IsRising (list ++ r ∷ [])
  added_rising rising below i j lt in_range =
      grind (arith, longer_by_one, count_before i, count_before j, count_last j, rising i j, below i)

  pub added_below : (count : ℕ) → AreBelow r.count list → r.count < count → AreBelow count (list ++ r ∷ [])
  added_below count below less i in_range = grind (arith, longer_by_one, count_before i, count_last i, below i)

-- ---- The place of a count

module _ (list : List Request) (rising : IsRising list) (k : ℕ) where
  comparisons_rise : IsNonDecreasingBy (λ (r : Request). ordering_index (nat_cmp r.count k)) list
  comparisons_rise = IsNonDecreasingBy-from_default (λ (r : Request). ordering_index (nat_cmp r.count k)) list (record { count = 0; word = 0; at = pos 0 }) (λ i j le in_range.
      let rise : (request_in list i).count ≤ (request_in list j).count = grind (arith, rising i j, λ (same : i ≡ j). ap (λ (n : ℕ). (request_in list n).count) same) in
      grind (arith, nat_tests))

  -- a binary search by count ends at the request with the count, where there is one
  pub searched : (answer : Result ℕ ℕ) → IsSearchInRange answer (length list) → IsBinarySearchResult (λ (r : Request). nat_cmp r.count k) list answer
      → IsPlaceOf k list (result_ok answer)
  searched (Ok at) in_range equal = (in_range, ranked _ k _ (sym (equal _)))
  searched (Err at) in_range parted = λ i lt same.
      let before : i < at → (request_in list i).count < k = λ less. ranked _ k _ (sym ((parted comparisons_rise).0 i _ (omega arith) less)) in
      let behind : at ≤ i → k < (request_in list i).count = λ more. ranked _ k _ (sym ((parted comparisons_rise).1 i _ more lt)) in
      absurd (grind (arith, before, behind, same))

-- ---- The request that a timestamp answers

find_none : (test : Request → Bool) (list : List Request) → ((i : ℕ) → i < length list → test (request_in list i) ≡ false) → find test list ≡ None
find_none test [] none = refl
find_none test (x ∷ xs) none =
    cond-false (test x) _ _ (none 0 (omega arith)) ∙ find_none test xs (λ i lt. none (suc i) (omega (arith, lt)))

find_at : (test : Request → Bool) (list : List Request) (place : ℕ) → place < length list
    → ((i : ℕ) → i < length list → i ≢ place → test (request_in list i) ≡ false)
    → find test list ≡ (if test (request_in list place) then Some (request_in list place) else None)
find_at test [] place in_range others = absurd (omega (arith, in_range))
find_at test (x ∷ xs) zero in_range others =
    ap (λ (o : Option Request). cond (test x) (Some x) o) (find_none test xs (λ i lt. others (suc i) (omega (arith, lt)) (λ same. omega (arith, same))))
find_at test (x ∷ xs) (suc place) in_range others =
    cond-false (test x) _ _ (others 0 (omega arith) (λ same. omega (arith, same)))
    ∙ find_at test xs place (omega (arith, in_range)) (λ i lt other. others (suc i) (omega (arith, lt)) (λ same. other (omega (arith, same))))

-- a request with another count isn't answered
other_count : (now : ℤ) (stamp : Stamp) (r : Request) → r.count ≢ stamp.seconds → is_answered now stamp r ≡ false
other_count now stamp r other =
    let differs : (r.count == stamp.seconds) ≡ false = grind (arith, other) in
    ap (λ (b : Bool). b && r.word == stamp.fraction && int_le r.at now && int_le now (r.at +ℤ pos 100000000)) differs

-- no request has the count, so none is answered
pub absent : (now : ℤ) (stamp : Stamp) (list : List Request) → IsPlaceOf stamp.seconds list None → find (is_answered now stamp) list ≡ None
absent now stamp list none = find_none (is_answered now stamp) list (λ i lt. other_count now stamp (request_in list i) (none i lt))

-- the one request with the count is answered, or none is
pub found : (now : ℤ) (stamp : Stamp) (list : List Request) (place : ℕ) → IsRising list → IsPlaceOf stamp.seconds list (Some place)
    → find (is_answered now stamp) list ≡ (if is_answered now stamp (request_in list place) then Some (request_in list place) else None)
found now stamp list place rising at =
    find_at (is_answered now stamp) list place at.0 (λ i lt other.
    let before : i < place → (request_in list i).count < (request_in list place).count = λ less. rising i place less at.0 in
    let behind : place < i → (request_in list place).count < (request_in list i).count = λ more. rising place i more lt in
    other_count now stamp (request_in list i) (λ same. grind (arith, before, behind, same, at.1, other)))
