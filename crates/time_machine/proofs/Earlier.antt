-- A reply to a request of an earlier life is refused.
use Rattle.std.proofs.Common.{◌≡◌, ℕ, ◌+◌, ◌<◌, ◌≤◌, Bool, true, false, not, ◌&&◌, ◌||◌, ◌==◌, List, [], ◌∷◌, ◌++◌, length, Option, Some, None, refl, sym, ◌∙◌, subst, arith, unwrap_or, if◌then◌else◌, ℤ, bit_and, find}
use Rattle.std.specs.List.{AllByRecursion, Contains}
use Rattle.std.proofs.Math.Nat.{zero-max, add-zero}
use Rattle.std.proofs.lemmas.List.{append-nil}
use Rattle.edge_traits.specs.declared.datagram.Addr.{Addr}
use Rattle.ntp_wire.specs.declared.stamp.Stamp.{Stamp}
use Rattle.ntp_wire.specs.Fields.{leap_of, mode_of, stratum_of, originate_of}
use Rattle.capture_fmt.specs.declared.event.Event.{Event}
use Rattle.capture_fmt.specs.declared.event.Event.TheVariants.{Life, Tick, Resync, Arrive}
use Rattle.time_machine.specs.declared.conf.Conf.{Conf}
use Rattle.time_machine.specs.declared.outcome.Request.{Request}
use Rattle.time_machine.specs.declared.outcome.Reason.TheVariants.{BadLength, BadSource, BadMode, BadStratum, NoRequest}
use Rattle.time_machine.specs.declared.outcome.Outcome.{Outcome}
use Rattle.time_machine.specs.declared.outcome.Outcome.TheVariants.{Started, Idle, Sent, Moved, Refused}
use Rattle.time_machine.specs.Events.{History, is_life}
use Rattle.time_machine.specs.Told.{Told, request_of, IsRefused}
use Rattle.time_machine.specs.Words.{Words, words, all_sent, greatest_count}
use Rattle.time_machine.specs.Verdict.{is_answered, is_bad_length, is_bad_source, is_bad_mode, is_bad_stratum, verdict_at}
use Rattle.time_machine.specs.Machine.{told, is_due, count_at, outcome_at, partner_as, moves_of, moves_by}
use Rattle.time_machine.specs.Growing.{Grows}
use Rattle.time_machine.specs.After.{after, after_send, after_arrival}
use Rattle.time_machine.specs.Kept.{kept}
use Rattle.time_machine.specs.Laws.{IsOfEarlierLife, IsLookedUp, AnswersNone, LawOfEarlier, LawOfBelow}
use Rattle.time_machine.proofs.After.{same_words, words_after, verdict_cases}
use Rattle.time_machine.proofs.Answered.{all_have, counted}
use Rattle.time_machine.proofs.Counting.{counts_low, earlier_lives, lives_low}
use Rattle.time_machine.proofs.Lists.{all_push, all_weaken}
use Rattle.time_machine.proofs.Open.{sent_within}

-- ---- The counts of earlier lives

-- what was sent before a Life was sent before the last one
by_life : (b : Bool) (all later : List Told) (r : Request) → Contains (all_sent all) r → Contains (all_sent later) r → Contains (all_sent (if b then all else later)) r
by_life true all later r c k = c
by_life false all later r c k = k

earlier_sent : (newer between older : List Told) (life t : Told) (r : Request) → is_life life.event ≡ true → request_of t ≡ Some r →
    Contains (all_sent (earlier_lives (newer ++ life ∷ between ++ t ∷ older))) r
earlier_sent [] between older life t r e s = rw e (sent_within (life ∷ between) older t r s)
earlier_sent (x ∷ newer) between older life t r e s =
    by_life (is_life x.event) (x ∷ newer ++ life ∷ between ++ t ∷ older) (earlier_lives (newer ++ life ∷ between ++ t ∷ older)) r
    (sent_within (x ∷ newer ++ life ∷ between) older t r s)
    (earlier_sent newer between older life t r e s)

-- the count of a request of an earlier life is at most the mark
earlier_low : (conf : Conf) (history : History) (r : Request) → Grows conf history → IsOfEarlierLife (told conf history) r →
    r.count ≤ unwrap_or (words conf (told conf history)).mark 0
earlier_low conf history r g h =
    let lives = earlier_lives (told conf history) in
    let among : Contains (all_sent lives) r = subst (λ xs. Contains (all_sent (earlier_lives xs)) r) (sym h.place) (earlier_sent h.newer h.between h.older h.life h.event r h.begins h.sent) in
    let low : r.count ≤ greatest_count lives = all_have (λ q. q.count ≤ greatest_count lives) (all_sent lives) r (counts_low lives) among in
    let mark = lives_low conf history g in
    omega arith

-- ---- The count of each open request is above the mark, also where a history doesn't grow

abbrev Living : Option ℕ → List Request → Type 0
Living mark xs = AllByRecursion (λ r. unwrap_or mark 0 < r.count) xs

abbrev LivingBy : Words → Type 0
LivingBy w = Living w.mark w.open_requests

living_send : (mark : Option ℕ) (sends : ℕ) (xs : List Request) (turns : Bool) (r : Request) → Living mark xs → r.count ≡ unwrap_or mark 0 + sends + 1 →
    Living mark ((if turns then [] else xs) ++ r ∷ [])
living_send mark sends xs true r h e = (omega arith, tt)
living_send mark sends xs false r h e = all_push _ xs r h (omega arith)

living_tick : (conf : Conf) (w : Words) (now : ℤ) (word : ℕ) (due : Bool) → LivingBy w →
    LivingBy (if due then after_send conf w false (due && true && (length w.open_requests == 8)) now word else w)
living_tick conf w now word true h = living_send w.mark w.sent w.open_requests (length w.open_requests == 8) (record { count = count_at w; word = word; at = now }) h refl
living_tick conf w now word false h = h

living_after : (conf : Conf) (w : Words) (e : Event) → LivingBy w → LivingBy (after conf w e)
living_after conf w (Life now mark) h = tt
living_after conf w (Tick now word) h = living_tick conf w now word (is_due w now) h
living_after conf w (Resync now word flags) h =
    let b = bit_and flags 4 == 4 in
    let full = length w.open_requests == 8 in
    living_send w.mark w.sent w.open_requests (b || (not b && full)) (record { count = count_at w; word = word; at = now }) h refl
living_after conf w (Arrive now from bytes) h =
    verdict_cases (λ o. LivingBy (after_arrival conf w now o)) (λ reason. h) conf w now from bytes (λ r e offset how. tt)

living_told : (conf : Conf) (history : History) → LivingBy (words conf (told conf history))
unfolding told words
living_told conf [] = tt
living_told conf (e ∷ history) =
    let before = told conf history in
    let step = living_after conf (kept conf (words conf before)) e (living_told conf history) in
    rw (← words_after conf before e) at step

-- ---- No open request is answered

is_not : (b : Bool) → (b ≡ true → ⊥) → b ≡ false
is_not true never = absurd (never refl)
is_not false never = refl

not_answered : (now : ℤ) (stamp : Stamp) (mark : ℕ) → stamp.seconds ≤ mark → (q : Request) → mark < q.count → is_answered now stamp q ≡ false
not_answered now stamp mark low q above = is_not (is_answered now stamp q) (λ t. let same : q.count ≡ stamp.seconds = counted now stamp q t in omega arith)

none_found : (test : Request → Bool) (xs : List Request) → AllByRecursion (λ q. test q ≡ false) xs → find test xs ≡ None
none_found test [] h = refl
none_found test (x ∷ xs) h = rw h.0 (none_found test xs h.1)

none_answered : (conf : Conf) (history : History) (now : ℤ) (stamp : Stamp) → stamp.seconds ≤ unwrap_or (words conf (told conf history)).mark 0 →
    find (is_answered now stamp) (words conf (told conf history)).open_requests ≡ None
none_answered conf history now stamp low =
    let w = words conf (told conf history) in
    none_found (is_answered now stamp) w.open_requests
    (all_weaken (λ q. unwrap_or w.mark 0 < q.count) (λ q. is_answered now stamp q ≡ false) (not_answered now stamp (unwrap_or w.mark 0) low) w.open_requests (living_told conf history))

-- ---- The verdict

-- the reasons up to NoRequest
abbrev unanswered_by : (length source mode stratum : Bool) → Outcome
unanswered_by length source mode stratum =
    if length then Refused BadLength
    else if source then Refused BadSource
    else if mode then Refused BadMode
    else if stratum then Refused BadStratum
    else Refused NoRequest

abbrev unanswered : Conf → Words → Addr → List ℕ → Outcome
unanswered conf w from bytes =
    unanswered_by (is_bad_length conf.kind bytes) (is_bad_source conf w from) (is_bad_mode (mode_of bytes)) (is_bad_stratum (leap_of bytes) (stratum_of bytes))

as_unanswered : (conf : Conf) (w : Words) (now : ℤ) (from : Addr) (bytes : List ℕ) → find (is_answered now (originate_of bytes)) w.open_requests ≡ None →
    verdict_at conf w now from bytes ≡ unanswered conf w from bytes
as_unanswered conf w now from bytes e = rw e refl

is_refused : (length source mode stratum : Bool) → IsRefused (unanswered_by length source mode stratum)
is_refused true source mode stratum = tt
is_refused false true mode stratum = tt
is_refused false false true stratum = tt
is_refused false false false true = tt
is_refused false false false false = tt

none_applies : (length source mode stratum : Bool) → unanswered_by length source mode stratum ≡ Refused NoRequest →
    (length ≡ false) × (source ≡ false) × (mode ≡ false) × (stratum ≡ false)
none_applies true source mode stratum e = cc
none_applies false true mode stratum e = cc
none_applies false false true stratum e = cc
none_applies false false false true e = cc
none_applies false false false false e = (refl, refl, refl, refl)

looked_up : (conf : Conf) (w : Words) (from : Addr) (bytes : List ℕ) → unanswered conf w from bytes ≡ Refused NoRequest → IsLookedUp conf w from bytes
looked_up conf w from bytes e =
    let none = none_applies (is_bad_length conf.kind bytes) (is_bad_source conf w from) (is_bad_mode (mode_of bytes)) (is_bad_stratum (leap_of bytes) (stratum_of bytes)) e in
    record { whole = none.0; source = none.1; mode = none.2; stratum = none.3 }

no_request : (conf : Conf) (w : Words) (from : Addr) (bytes : List ℕ) → IsLookedUp conf w from bytes → unanswered conf w from bytes ≡ Refused NoRequest
no_request conf w from bytes h = rw (h.whole, h.source, h.mode, h.stratum) refl

-- ---- A refused arrival changes nothing

no_moves : (o : Outcome) → IsRefused o → moves_by o ≡ []
no_moves (Refused reason) h = refl
no_moves (Started mark) h = elim h [ ]
no_moves Idle h = elim h [ ]
no_moves (Sent to count sent) h = elim h [ ]
no_moves (Moved count offset how) h = elim h [ ]

words_stay : (conf : Conf) (before : List Told) (now : ℤ) (from : Addr) (bytes : List ℕ) (p : ℕ) (o : Outcome) → IsRefused o →
    words conf (record { event = Arrive now from bytes; changes = false; partner = p; outcome = o } ∷ before) ≡ words conf before
unfolding words
words_stay conf before now from bytes p (Refused reason) h = same_words (add-zero _) (zero-max _) (add-zero _) (append-nil _) refl
words_stay conf before now from bytes p (Started mark) h = elim h [ ]
words_stay conf before now from bytes p Idle h = elim h [ ]
words_stay conf before now from bytes p (Sent to count sent) h = elim h [ ]
words_stay conf before now from bytes p (Moved count offset how) h = elim h [ ]

answers_none : (conf : Conf) (history : History) (now : ℤ) (from : Addr) (bytes : List ℕ) → (originate_of bytes).seconds ≤ unwrap_or (words conf (told conf history)).mark 0 →
    AnswersNone conf history now from bytes
unfolding outcome_at told moves_of
answers_none conf history now from bytes low =
    let before = told conf history in
    let w = words conf before in
    let same : verdict_at conf w now from bytes ≡ unanswered conf w from bytes = as_unanswered conf w now from bytes (none_answered conf history now (originate_of bytes) low) in
    let refused : IsRefused (verdict_at conf w now from bytes) = subst IsRefused (sym same) (is_refused _ _ _ _) in
    record {
      refused = refused;
      moves = rw (no_moves (verdict_at conf w now from bytes) refused) (append-nil (moves_of conf history));
      stays = words_stay conf before now from bytes (partner_as conf w false false) (verdict_at conf w now from bytes) refused;
      reason = (λ k. looked_up conf w from bytes (sym same ∙ k), λ k. same ∙ no_request conf w from bytes k);
    }

pub earlier_refused : LawOfEarlier
earlier_refused conf history now from bytes r g h e =
    let low = earlier_low conf history r g h in
    answers_none conf history now from bytes (omega arith)

pub below_refused : LawOfBelow
below_refused conf history now from bytes mark e low = answers_none conf history now from bytes (rw e low)
