-- An arrival answers one open request at most, and its timestamps stand for one moment each. Which arrivals are accepted.
use Rattle.std.proofs.Common.{◌≡◌, ◌≢◌, ℕ, ◌&&◌, cond, Bool, true, false, Option, Some, None, IfSome, ap, List, [], ◌∷◌, ◌⊎◌, inl, inr, refl, sym, ◌∙◌, subst, arith, ℤ, if◌then◌else◌}
use Rattle.std.specs.List.{AllByRecursion, Contains, IsDistinct}
use Rattle.std.specs.Prelude.{is_some, find}
use Rattle.std.proofs.lemmas.List.Elements.{Contains-append_cases, Contains-append_right}
use Rattle.std.proofs.lemmas.Bool.Decides.{Decides-eqb}
use Rattle.base_specs.specs.Time.{IsTicksNear}
use Rattle.ntp_wire.specs.declared.stamp.Stamp.{Stamp}
use Rattle.ntp_wire.specs.Stamp.{ticks_of}
use Rattle.ntp_wire.proofs.Moments.{ticks_of_is_near, one_moment}
use Rattle.time_machine.specs.declared.outcome.Request.{Request}
use Rattle.edge_traits.specs.declared.datagram.Addr.{Addr}
use Rattle.ntp_wire.specs.Fields.{leap_of, mode_of, stratum_of, originate_of, receive_of, transmit_of}
use Rattle.phase_rule.specs.declared.rule.Judged.{Judged}
use Rattle.phase_rule.specs.declared.rule.Judged.TheVariants as judgement
use Rattle.phase_rule.specs.Rule.{judged}
use Rattle.capture_fmt.specs.declared.event.Event.{Event}
use Rattle.capture_fmt.specs.declared.event.Event.TheVariants.{Life, Tick, Resync, Arrive}
use Rattle.time_machine.specs.declared.conf.Conf.{Conf}
use Rattle.time_machine.specs.declared.outcome.Reason.{Reason}
use Rattle.time_machine.specs.declared.outcome.Outcome.{Outcome}
use Rattle.time_machine.specs.declared.outcome.Outcome.TheVariants.{Idle, Sent, Refused}
use Rattle.time_machine.specs.Told.{request_sent, count_moved}
use Rattle.time_machine.specs.Words.{words}
use Rattle.time_machine.specs.Machine.{told, is_due, outcome_at}
use Rattle.time_machine.specs.Verdict.{is_answered, is_bad_length, is_bad_source, is_bad_mode, is_bad_stratum, is_bad_key_id, is_bad_digest, has_bad_times, offset_of, moved_by, verdict_on}
use Rattle.time_machine.specs.Laws.{AnswersOpen, LawOfAccepted, LawOfAnswer, LawOfReply, LawOfRight, LawOfSends}
use Rattle.time_machine.proofs.Room.{one_open, same_count}
use Rattle.time_machine.proofs.Open.{open_at}
use Rattle.time_machine.proofs.After.{verdict_cases}

-- an element is the first one or a later one
first_or : (x : Request) (xs : List Request) (r : Request) → Contains (x ∷ xs) r → (x ≡ r) ⊎ Contains xs r
first_or x xs r c = elim (Contains-append_cases (x ∷ []) xs r c) [
  | inl h ↦ let k : h.0 ≡ 0 = omega (arith, h.1) in inl (rw k at h.2)
  | inr h ↦ inr h
]

pub all_have : (P : Request → Type 0) (xs : List Request) (r : Request) → AllByRecursion P xs → Contains xs r → P r
all_have P [] r h c = absurd (omega (arith, c.1))
all_have P (x ∷ xs) r h c = elim (first_or x xs r c) [
  | inl e ↦ subst P e h.0
  | inr k ↦ all_have P xs r h.1 k
]

differ : (a b : Request) → same_count a b ≡ false → a.count ≡ b.count → ⊥
differ a b n e = let t : same_count a b ≡ true = (Decides-eqb a.count b.count).1 e in cc

one_counted : (xs : List Request) (a b : Request) → IsDistinct same_count xs → Contains xs a → Contains xs b → a.count ≡ b.count → a ≡ b
unfolding IsDistinct
one_counted [] a b d c k e = absurd (omega (arith, c.1))
one_counted (x ∷ xs) a b d c k e = elim (first_or x xs a c) [
  | inl p ↦ elim (first_or x xs b k) [
    | inl q ↦ sym p ∙ q
    | inr q ↦ absurd (differ x b (all_have (λ y. same_count x y ≡ false) xs b d.0 q) (let s : x.count ≡ b.count = cc in s))
  ]
  | inr p ↦ elim (first_or x xs b k) [
    | inl q ↦ absurd (differ x a (all_have (λ y. same_count x y ≡ false) xs a d.0 p) (let s : x.count ≡ a.count = cc in s))
    | inr q ↦ one_counted xs a b d.1 p q e
  ]
]

both_true : (a b : Bool) → (a && b) ≡ true → (a ≡ true) × (b ≡ true)
both_true true b e = (refl, e)
both_true false b e = cc

pub counted : (now : ℤ) (stamp : Stamp) (r : Request) → is_answered now stamp r ≡ true → r.count ≡ stamp.seconds
counted now stamp r e = (Decides-eqb r.count stamp.seconds).0 (both_true _ _ (both_true _ _ (both_true _ _ e).0).0).0

pub one_answered : LawOfAnswer
one_answered conf history now stamp a b o p e f =
    let before = told conf history in
    one_counted (words conf before).open_requests a b (one_open conf history) ((open_at conf before a).0 o) ((open_at conf before b).0 p)
    (counted now stamp a e ∙ sym (counted now stamp b f))

pub one_time : (stamp : Stamp) (near t : ℤ) → IsTicksNear stamp.seconds stamp.fraction near t → t ≡ ticks_of stamp near
one_time stamp near t h = one_moment stamp near t (ticks_of stamp near) h (ticks_of_is_near stamp near)

pub is_time : (stamp : Stamp) (near t : ℤ) → t ≡ ticks_of stamp near → IsTicksNear stamp.seconds stamp.fraction near t
is_time stamp near t e = subst (λ u. IsTicksNear stamp.seconds stamp.fraction near u) (sym e) (ticks_of_is_near stamp near)

-- what a find gave is an element that passes the test
record IsFound (test : Request → Bool) (xs : List Request) (x : Request) : Type 0 where
  element : Contains xs x
  passes : test x ≡ true

found_later : (test : Request → Bool) (y : Request) (ys : List Request) (x : Request) → (find test ys ≡ Some x → IsFound test ys x) → (b : Bool) → test y ≡ b →
    cond b (Some y) (find test ys) ≡ Some x → IsFound test (y ∷ ys) x
found_later test y ys x later true t e = let same : y ≡ x = cc in record { element = (0, omega arith, same); passes = cc }
found_later test y ys x later false t e = let rest = later e in record { element = Contains-append_right (y ∷ []) ys x rest.element; passes = rest.passes }

find_found : (test : Request → Bool) (xs : List Request) (x : Request) → find test xs ≡ Some x → IsFound test xs x
find_found test [] x e = absurd (let no : ⊥ = cc in no)
find_found test (y ∷ ys) x e = found_later test y ys x (find_found test ys x) (test y) refl e

pub answers_open : LawOfAccepted
unfolding outcome_at
answers_open conf history now from bytes =
    let before = told conf history in
    let w = words conf before in
    verdict_cases (λ o. IfSome (count_moved o) (λ count. AnswersOpen before now bytes count)) (λ reason. tt) conf w now from bytes
    (λ r e offset how.
    let f = find_found (is_answered now (originate_of bytes)) w.open_requests r e in
    record { request = r; is_open = (open_at conf before r).1 f.element; answered = f.passes; counted = refl })

-- ---- A reply to which no reason for a refusal applies

-- an element that alone passes the test is what a find gives
find_only : (test : Request → Bool) (xs : List Request) (r : Request) → Contains xs r → test r ≡ true → ((a : Request) → Contains xs a → test a ≡ true → a ≡ r) → find test xs ≡ Some r
find_only test [] r c e only = absurd (omega (arith, c.1))
find_only test (y ∷ ys) r c e only = by_test (λ k. find_only test ys r k e (λ a at. only a (Contains-append_right (y ∷ []) ys a at))) (test y) refl
  where
    by_test : (Contains ys r → find test ys ≡ Some r) → (b : Bool) → test y ≡ b → cond b (Some y) (find test ys) ≡ Some r
    by_test later true t = ap Some (only y (0, omega arith, refl) t)
    by_test later false t = elim (first_or y ys r c) [
      | inl same ↦ let yes : test y ≡ true = subst (λ x. test x ≡ true) (sym same) e in absurd (let none : ⊥ = cc in none)
      | inr rest ↦ later rest
    ]

if_false : (b : Bool) (x y : Outcome) (count : Option ℕ) → b ≡ false → count_moved y ≡ count → count_moved (if b then x else y) ≡ count
if_false true x y count e h = cc
if_false false x y count e h = h

moved_of : (count : ℕ) (offset : ℤ) (j : Judged) → j ≢ judgement.TooBig → count_moved (moved_by count offset j) ≡ Some count
moved_of count offset judgement.TooBig h = absurd (h refl)
moved_of count offset judgement.Step h = refl
moved_of count offset judgement.Slew h = refl

pub reply_accepted : LawOfReply
unfolding outcome_at
reply_accepted conf history now from bytes r is_open right =
    let before = told conf history in
    let w = words conf before in
    let stamp = originate_of bytes in
    let alone : find (is_answered now stamp) w.open_requests ≡ Some r =
    find_only (is_answered now stamp) w.open_requests r ((open_at conf before r).0 is_open) right.answers
    (λ a k e. one_answered conf history now stamp a r ((open_at conf before a).1 k) is_open e right.answers) in
    if_false _ _ _ _ right.whole
    (if_false _ _ _ _ right.source
    (if_false _ _ _ _ right.mode
    (if_false _ _ _ _ right.stratum
    (subst (λ o. count_moved (verdict_on conf now bytes o) ≡ Some r.count) (sym alone)
    (if_false _ _ _ _ right.key_id
    (if_false _ _ _ _ right.digest
    (if_false _ _ _ _ right.times
    (moved_of r.count _ _ right.small))))))))

-- ---- An accepted arrival, to which no reason for a refusal applies

passed : (b : Bool) (reason : Reason) (y : Outcome) (count : ℕ) → count_moved (if b then Refused reason else y) ≡ Some count → (b ≡ false) × (count_moved y ≡ Some count)
passed true reason y count e = absurd (let no : ⊥ = cc in no)
passed false reason y count e = (refl, e)

moved_small : (n : ℕ) (offset : ℤ) (j : Judged) (count : ℕ) → count_moved (moved_by n offset j) ≡ Some count → (j ≢ judgement.TooBig) × (n ≡ count)
moved_small n offset judgement.TooBig count e = absurd (let no : ⊥ = cc in no)
moved_small n offset judgement.Step count e = (λ same. cc, cc)
moved_small n offset judgement.Slew count e = (λ same. cc, cc)

-- what an accepted arrival passed once its request was found
record Passed (conf : Conf) (now : ℤ) (bytes : List ℕ) (o : Option Request) (count : ℕ) : Type 0 where
  request : Request
  found : o ≡ Some request
  key_id : is_bad_key_id conf.kind conf.account.rid bytes ≡ false
  digest : is_bad_digest conf.kind conf.account bytes ≡ false
  times : has_bad_times request.at (ticks_of (receive_of bytes) now) (ticks_of (transmit_of bytes) now) now ≡ false
  small : judged conf.limits (offset_of request.at (ticks_of (receive_of bytes) now) (ticks_of (transmit_of bytes) now) now) ≢ judgement.TooBig
  counted : request.count ≡ count

passed_on : (conf : Conf) (now : ℤ) (bytes : List ℕ) (o : Option Request) (count : ℕ) → count_moved (verdict_on conf now bytes o) ≡ Some count → Passed conf now bytes o count
passed_on conf now bytes None count e = absurd (let no : ⊥ = cc in no)
passed_on conf now bytes (Some r) count e =
    let key_id = passed (is_bad_key_id conf.kind conf.account.rid bytes) _ _ count e in
    let digest = passed (is_bad_digest conf.kind conf.account bytes) _ _ count key_id.1 in
    let times = passed (has_bad_times r.at (ticks_of (receive_of bytes) now) (ticks_of (transmit_of bytes) now) now) _ _ count digest.1 in
    let small = moved_small r.count _ _ count times.1 in
    record { request = r; found = refl; key_id = key_id.0; digest = digest.0; times = times.0; small = small.0; counted = small.1 }

pub accepted_right : LawOfRight
unfolding outcome_at
accepted_right conf history now from bytes count e =
    let before = told conf history in
    let w = words conf before in
    let whole = passed (is_bad_length conf.kind bytes) _ _ count e in
    let source = passed (is_bad_source conf w from) _ _ count whole.1 in
    let mode = passed (is_bad_mode (mode_of bytes)) _ _ count source.1 in
    let stratum = passed (is_bad_stratum (leap_of bytes) (stratum_of bytes)) _ _ count mode.1 in
    let on = passed_on conf now bytes (find (is_answered now (originate_of bytes)) w.open_requests) count stratum.1 in
    let found = find_found (is_answered now (originate_of bytes)) w.open_requests on.request on.found in (
      on.request,
      (open_at conf before on.request).1 found.element,
      on.counted,
      record {
        whole = whole.0;
        source = source.0;
        mode = mode.0;
        stratum = stratum.0;
        answers = found.passes;
        key_id = on.key_id;
        digest = on.digest;
        times = on.times;
        small = on.small;
      },
    )

-- ---- Which events send

tick_sends : (due : Bool) (e : Event) (to : Addr) (count : ℕ) (bytes : List ℕ) → is_some (request_sent e (if due then Sent to count bytes else Idle)) ≡ due
tick_sends true e to count bytes = refl
tick_sends false e to count bytes = refl

pub sends_so : LawOfSends
sends_so conf w (Life now mark) = refl
sends_so conf w (Tick now word) = tick_sends (is_due w now) (Tick now word) _ _ _
sends_so conf w (Resync now word flags) = refl
sends_so conf w (Arrive now from bytes) =
    verdict_cases (λ o. is_some (request_sent (Arrive now from bytes) o) ≡ false) (λ reason. refl) conf w now from bytes (λ r e offset how. refl)
