-- What holds of histories. Where it says so, of those that grow.
use Rattle.std.specs.Prelude.{◌≢◌, IfSome, ℕ, ◌<◌, ◌≤◌, ◌==◌, List, [], ◌∷◌, ◌++◌, length, Some, None, ◌≡◌, ◌↔◌, is_some, true, false, ℤ}
use Rattle.std.specs.List.{AllByRecursion, IsDistinct}
use Rattle.edge_traits.specs.declared.datagram.Addr.{Addr}
use Rattle.capture_fmt.specs.declared.event.Event.{Event}
use Rattle.capture_fmt.specs.declared.event.Event.TheVariants.{Arrive}
use Rattle.base_specs.specs.Time.{IsTicksNear}
use Rattle.ntp_wire.specs.declared.stamp.Stamp.{Stamp}
use Rattle.ntp_wire.specs.Stamp.{ticks_of}
use Rattle.ntp_wire.specs.Fields.{leap_of, mode_of, stratum_of, originate_of, receive_of, transmit_of}
use Rattle.phase_rule.specs.declared.rule.Judged.TheVariants.{TooBig}
use Rattle.phase_rule.specs.Rule.{judged}
use Rattle.time_machine.specs.declared.conf.Conf.{Conf}
use Rattle.time_machine.specs.declared.outcome.Request.{Request}
use Rattle.time_machine.specs.declared.outcome.Reason.TheVariants.{NoRequest}
use Rattle.time_machine.specs.declared.outcome.Outcome.TheVariants.{Refused}
use Rattle.time_machine.specs.Events.{History, is_life, mark_of}
use Rattle.time_machine.specs.Told.{Told, request_of, request_sent, count_moved, IsRefused}
use Rattle.time_machine.specs.Words.{all_sent, greatest_count, Words, words, IsOpen}
use Rattle.time_machine.specs.Verdict.{is_answered, is_bad_length, is_bad_source, is_bad_mode, is_bad_stratum, is_bad_key_id, is_bad_digest, has_bad_times, offset_of}
use Rattle.time_machine.specs.Machine.{told, sends, outcome_by, outcome_at, outcomes, posted_by, moves_by, requests_of, moves_of, source_of}
use Rattle.time_machine.specs.Report.{line_of, report_of}
use Rattle.time_machine.specs.Growing.{Grows}
use Rattle.time_machine.specs.Entries.{up_to_last}

-- each count that was sent is above all those that were sent before it
abbrev pub CountsRise : List Told → Type 0
CountsRise [] = Unit {0}
CountsRise (t ∷ before) =
    IfSome (request_of t) (λ r. AllByRecursion (λ earlier. earlier.count < r.count) (all_sent before))
    × CountsRise before

-- the counts of a history that grows rise
abbrev pub LawOfCounts : Type 0
LawOfCounts = (conf : Conf) (history : History) → Grows conf history → CountsRise (told conf history)

-- the request that an accepted arrival answers: it is open, the arrival brings back its timestamp in time, and the
-- count is its count
pub record AnswersOpen (before : List Told) (now : ℤ) (bytes : List ℕ) (count : ℕ) : Type 0 where
  pub request : Request
  pub is_open : IsOpen before request
  pub answered : is_answered now (originate_of bytes) request ≡ true
  pub counted : count ≡ request.count

-- an accepted arrival answers an open request
abbrev pub LawOfAccepted : Type 0
LawOfAccepted = (conf : Conf) (history : History) (now : ℤ) (from : Addr) (bytes : List ℕ) →
    IfSome (count_moved (outcome_at conf history (Arrive now from bytes)))
    (λ count. AnswersOpen (told conf history) now bytes count)

-- no reason to refuse an arrival applies, where it answers this request
pub record IsRight (conf : Conf) (w : Words) (now : ℤ) (from : Addr) (bytes : List ℕ) (r : Request) : Type 0 where
  pub whole : is_bad_length conf.kind bytes ≡ false
  pub source : is_bad_source conf w from ≡ false
  pub mode : is_bad_mode (mode_of bytes) ≡ false
  pub stratum : is_bad_stratum (leap_of bytes) (stratum_of bytes) ≡ false
  pub answers : is_answered now (originate_of bytes) r ≡ true
  pub key_id : is_bad_key_id conf.kind conf.account.rid bytes ≡ false
  pub digest : is_bad_digest conf.kind conf.account bytes ≡ false
  pub times : has_bad_times r.at (ticks_of (receive_of bytes) now) (ticks_of (transmit_of bytes) now) now ≡ false
  pub small : judged conf.limits (offset_of r.at (ticks_of (receive_of bytes) now) (ticks_of (transmit_of bytes) now) now) ≢ TooBig

-- if: an arrival that answers an open request, and to which no reason for a refusal applies, is accepted for its count
abbrev pub LawOfReply : Type 0
LawOfReply = (conf : Conf) (history : History) (now : ℤ) (from : Addr) (bytes : List ℕ) (r : Request) →
    IsOpen (told conf history) r → IsRight conf (words conf (told conf history)) now from bytes r →
    count_moved (outcome_at conf history (Arrive now from bytes)) ≡ Some r.count

-- only if: an arrival that is accepted for a count answers the open request of it, and no reason for a refusal applies
abbrev pub LawOfRight : Type 0
LawOfRight = (conf : Conf) (history : History) (now : ℤ) (from : Addr) (bytes : List ℕ) (count : ℕ) →
    count_moved (outcome_at conf history (Arrive now from bytes)) ≡ Some count →
    (r : Request) × IsOpen (told conf history) r × (r.count ≡ count)
    × IsRight conf (words conf (told conf history)) now from bytes r

-- an event leads to a request just where it sends
abbrev pub LawOfSends : Type 0
LawOfSends = (conf : Conf) (w : Words) (e : Event) → is_some (request_sent e (outcome_by conf w e)) ≡ sends w e

-- no earlier arrival was accepted for this count
abbrev pub IsFirstMove : ℕ → List Told → Type 0
IsFirstMove count before = AllByRecursion (λ t. count_moved t.outcome ≢ Some count) before

-- no two accepted arrivals answer the same request
abbrev pub MovesOnce : List Told → Type 0
MovesOnce [] = Unit {0}
MovesOnce (t ∷ before) = IfSome (count_moved t.outcome) (λ count. IsFirstMove count before) × MovesOnce before

-- no two accepted arrivals of a history that grows answer the same request
abbrev pub LawOfMoves : Type 0
LawOfMoves = (conf : Conf) (history : History) → Grows conf history → MovesOnce (told conf history)

-- an accepted arrival answers no request of an earlier life
abbrev pub LawOfLives : Type 0
LawOfLives = (conf : Conf) (history : History) (e : Event) → Grows conf history →
    IfSome (count_moved (outcome_at conf history e))
    (λ count. AllByRecursion (λ r. r.count ≢ count) (all_sent (up_to_last (λ t. is_life t.event) (told conf history))))

-- a request of an earlier life: an event before a Life has sent it
pub record IsOfEarlierLife (before : List Told) (r : Request) : Type 0 where
  pub newer : List Told
  pub life : Told
  pub between : List Told
  pub event : Told
  pub older : List Told
  pub place : before ≡ newer ++ life ∷ between ++ event ∷ older
  pub begins : is_life life.event ≡ true
  pub sent : request_of event ≡ Some r

-- an arrival whose request is looked up: none of the four reasons that come before NoRequest applies
pub record IsLookedUp (conf : Conf) (w : Words) (from : Addr) (bytes : List ℕ) : Type 0 where
  pub whole : is_bad_length conf.kind bytes ≡ false
  pub source : is_bad_source conf w from ≡ false
  pub mode : is_bad_mode (mode_of bytes) ≡ false
  pub stratum : is_bad_stratum (leap_of bytes) (stratum_of bytes) ≡ false

-- An arrival that answers none is refused, and moves and changes nothing. The reason is NoRequest if and only if none of
-- the four before it applies.
pub record AnswersNone (conf : Conf) (history : History) (now : ℤ) (from : Addr) (bytes : List ℕ) : Type 0 where
  pub refused : IsRefused (outcome_at conf history (Arrive now from bytes))
  pub moves : moves_of conf (Arrive now from bytes ∷ history) ≡ moves_of conf history
  pub stays : words conf (told conf (Arrive now from bytes ∷ history)) ≡ words conf (told conf history)
  pub reason :
      (outcome_at conf history (Arrive now from bytes) ≡ Refused NoRequest) ↔ IsLookedUp conf (words conf (told conf history)) from bytes

-- an arrival that brings back the count of a request of an earlier life, with whatever word, answers none
abbrev pub LawOfEarlier : Type 0
LawOfEarlier = (conf : Conf) (history : History) (now : ℤ) (from : Addr) (bytes : List ℕ) (r : Request) →
    Grows conf history → IsOfEarlierLife (told conf history) r → (originate_of bytes).seconds ≡ r.count →
    AnswersNone conf history now from bytes

-- and so does one that brings back a count not above the mark of the life in which it comes, whoever has sent it
abbrev pub LawOfBelow : Type 0
LawOfBelow = (conf : Conf) (history : History) (now : ℤ) (from : Addr) (bytes : List ℕ) (mark : ℕ) →
    (words conf (told conf history)).mark ≡ Some mark → (originate_of bytes).seconds ≤ mark →
    AnswersNone conf history now from bytes

-- at most eight requests are open
abbrev pub LawOfRoom : Type 0
LawOfRoom = (conf : Conf) (history : History) → length (words conf (told conf history)).open_requests ≤ 8

-- no two open requests have the same count
abbrev pub LawOfOne : Type 0
LawOfOne = (conf : Conf) (history : History) →
    IsDistinct (λ a b. a.count == b.count) (words conf (told conf history)).open_requests

-- an arrival answers one open request at most
abbrev pub LawOfAnswer : Type 0
LawOfAnswer = (conf : Conf) (history : History) (now : ℤ) (stamp : Stamp) (a b : Request) →
    IsOpen (told conf history) a → IsOpen (told conf history) b → is_answered now stamp a ≡ true →
    is_answered now stamp b ≡ true → a ≡ b

-- the time at which a timestamp is read near an arrival is the one moment near it that the timestamp stands for
abbrev pub LawOfTimes : Type 0
LawOfTimes = (stamp : Stamp) (near t : ℤ) → IsTicksNear stamp.seconds stamp.fraction near t ↔ (t ≡ ticks_of stamp near)

-- each Life's mark is at least this count
abbrev pub MarksAtLeast : ℕ → History → Type 0
MarksAtLeast count [] = Unit {0}
MarksAtLeast count (e ∷ history) = IfSome (mark_of e) (λ mark. count ≤ mark) × MarksAtLeast count history

-- A history that grows may come after another one, if each of its Lives' marks is at least every count of that one.
-- The events of both then lead to what they lead to by themselves.
abbrev pub LawOfJoins : Type 0
LawOfJoins = (conf : Conf) (newer older : History) → Grows conf older → Grows conf newer →
    MarksAtLeast (greatest_count (told conf older)) newer →
    Grows conf (newer ++ older)
    × (outcomes conf (newer ++ older) ≡ outcomes conf older ++ outcomes conf newer)
    × (requests_of conf (newer ++ older) ≡ requests_of conf older ++ requests_of conf newer)
    × (moves_of conf (newer ++ older) ≡ moves_of conf older ++ moves_of conf newer)
    × (report_of conf (newer ++ older) ≡ report_of conf older ++ report_of conf newer)

-- one more event adds what it leads to
abbrev pub LawOfMore : Type 0
LawOfMore = (conf : Conf) (history : History) (e : Event) →
    (outcomes conf (e ∷ history) ≡ outcomes conf history ++ outcome_at conf history e ∷ [])
    × (requests_of conf (e ∷ history) ≡ requests_of conf history ++ posted_by (outcome_at conf history e))
    × (moves_of conf (e ∷ history) ≡ moves_of conf history ++ moves_by (outcome_at conf history e))
    × (report_of conf (e ∷ history) ≡ report_of conf history ++ line_of (outcome_at conf history e))

-- before the first event nothing was sent, moved or written
abbrev pub LawOfNone : Type 0
LawOfNone = (conf : Conf) →
    (outcomes conf [] ≡ []) × (requests_of conf [] ≡ []) × (moves_of conf [] ≡ []) × (report_of conf [] ≡ [])
    × (source_of conf [] ≡ None) × Grows conf []
