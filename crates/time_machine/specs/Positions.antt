-- What the words say of positions: a line of entries is the newer ones, the one at a position, and the older ones.
use Rattle.std.specs.Prelude.{◌≡◌, ◌↔◌, ◌<◌, ◌≤◌, ◌||◌, ℕ, true, false, List, [], ◌∷◌, ◌++◌, length, Some, None, IsSome, ℤ, ◌+ℤ◌}
use Rattle.edge_traits.specs.declared.datagram.Addr.{Addr}
use Rattle.std.specs.List.{AllByRecursion, Contains}
use Rattle.capture_fmt.specs.declared.event.Event.{Event}
use Rattle.capture_fmt.specs.declared.event.Event.TheVariants.{Life, Tick, Arrive}
use Rattle.time_machine.specs.declared.conf.Conf.{Conf}
use Rattle.time_machine.specs.declared.outcome.How.TheVariants.{Slew, Step}
use Rattle.time_machine.specs.declared.outcome.Outcome.TheVariants.{Moved}
use Rattle.time_machine.specs.declared.outcome.Request.{Request}
use Rattle.time_machine.specs.Entries.{count_of}
use Rattle.time_machine.specs.Told.{Told, is_turning_point, is_accepted, has_sent, base_left, offset_moved}
use Rattle.time_machine.specs.Words.{words, since, life_at, poll_set, all_sent, greatest_count, IsOpen}
use Rattle.time_machine.specs.Machine.{told, sends, outcome_at, requests_of, moves_of}
use Rattle.time_machine.specs.Growing.{Grows}
use Rattle.time_machine.specs.Events.{History, is_life, is_reset, reading_of, mark_of}

-- "since" begins at the last turning point, wherever that is
abbrev pub LawOfSince : Type 0
LawOfSince = (newer older : List Told) (t : Told) → AllByRecursion (λ s. is_turning_point s ≡ false) newer →
    is_turning_point t ≡ true →
    since (newer ++ t ∷ older) ≡ newer ++ t ∷ []

-- "this life" is what came after the last Life
abbrev pub LawOfThisLife : Type 0
LawOfThisLife = (newer older : List Told) (t : Told) → AllByRecursion (λ s. is_life s.event ≡ false) newer →
    is_life t.event ≡ true →
    life_at (newer ++ t ∷ older) ≡ newer

-- the last Life gives the mark, and the events after it that send are counted
abbrev pub LawOfLifeWords : Type 0
LawOfLifeWords = (conf : Conf) (newer older : List Told) (t : Told) →
    AllByRecursion (λ s. is_life s.event ≡ false) newer → is_life t.event ≡ true →
    ((words conf (newer ++ t ∷ older)).mark ≡ mark_of t.event)
    × ((words conf (newer ++ t ∷ older)).sent ≡ count_of has_sent newer)

-- in a history of one life, as many requests were sent in that life as in all
abbrev pub LawOfSent : Type 0
LawOfSent = (conf : Conf) (newer : History) (e : Event) →
    AllByRecursion (λ d. is_life d ≡ false) newer → is_life e ≡ true →
    (words conf (told conf (newer ++ e ∷ []))).sent ≡ length (requests_of conf (newer ++ e ∷ []))

-- the base is left by the last event of this life that leaves one
abbrev pub LawOfBase : Type 0
LawOfBase = (conf : Conf) (newer older : List Told) (t : Told) →
    AllByRecursion (λ s. is_life s.event ≡ false) (newer ++ t ∷ []) →
    AllByRecursion (λ s. base_left (reading_of s.event) s.outcome ≡ None) newer →
    IsSome (base_left (reading_of t.event) t.outcome) →
    (words conf (newer ++ t ∷ older)).base ≡ base_left (reading_of t.event) t.outcome

-- an event that sends leaves its reading as the base, and an accepted arrival the reading of the clock that is corrected
abbrev pub LawOfLeaving : Type 0
LawOfLeaving = (conf : Conf) (history : History) (e : Event) →
    (sends (words conf (told conf history)) e ≡ true → (words conf (told conf (e ∷ history))).base ≡ Some (reading_of e))
    × ((count : ℕ) (offset : ℤ) → outcome_at conf history e ≡ Moved count offset Slew →
    (words conf (told conf (e ∷ history))).base ≡ Some (reading_of e))
    × ((count : ℕ) (offset : ℤ) → outcome_at conf history e ≡ Moved count offset Step →
    (words conf (told conf (e ∷ history))).base ≡ Some (reading_of e +ℤ offset))

-- the clock is corrected once for each accepted arrival
abbrev pub LawOfMoved : Type 0
LawOfMoved = (conf : Conf) (history : History) → length (moves_of conf history) ≡ count_of is_accepted (told conf history)

-- the source is the partner at the last accepted arrival of this life
abbrev pub LawOfSource : Type 0
LawOfSource = (conf : Conf) (newer older : List Told) (t : Told) →
    AllByRecursion (λ s. is_life s.event ≡ false) (newer ++ t ∷ []) →
    AllByRecursion (λ s. is_accepted s ≡ false) newer → is_accepted t ≡ true →
    (words conf (newer ++ t ∷ older)).source ≡ Some t.partner

-- a life in which nothing was sent or accepted has no base, and one in which nothing was accepted has no source
abbrev pub LawOfNothing : Type 0
LawOfNothing = (conf : Conf) (newer older : List Told) (t : Told) →
    AllByRecursion (λ s. is_life s.event ≡ false) newer → is_life t.event ≡ true →
    (AllByRecursion (λ s. (has_sent s || is_accepted s) ≡ false) newer → (words conf (newer ++ t ∷ older)).base ≡ None)
    × (AllByRecursion (λ s. is_accepted s ≡ false) newer → (words conf (newer ++ t ∷ older)).source ≡ None)

-- the changes after the last Life or rediscovery are counted
abbrev pub LawOfChanges : Type 0
LawOfChanges = (conf : Conf) (newer older : List Told) (t : Told) →
    AllByRecursion (λ s. is_reset s.event ≡ false) newer → is_reset t.event ≡ true →
    (words conf (newer ++ t ∷ older)).changes ≡ count_of (λ s. s.changes) newer

-- the last turning point sets the poll, from the poll before it
abbrev pub LawOfPoll : Type 0
LawOfPoll = (conf : Conf) (newer older : List Told) (t : Told) →
    AllByRecursion (λ s. is_turning_point s ≡ false) newer → is_turning_point t ≡ true →
    (words conf (newer ++ t ∷ older)).poll ≡ poll_set conf.limits (offset_moved t.outcome) (words conf older).poll

-- the open requests are those that events from the last turning point on have sent
abbrev pub LawOfOpen : Type 0
LawOfOpen = (conf : Conf) (before : List Told) (r : Request) →
    IsOpen before r ↔ Contains (words conf before).open_requests r

-- as many requests are open as events from the last turning point on have sent
abbrev pub LawOfEight : Type 0
LawOfEight = (conf : Conf) (before : List Told) →
    length (words conf before).open_requests ≡ count_of has_sent (since before)

-- the greatest count is at most a mark just where every count that was sent is
abbrev pub LawOfGreatest : Type 0
LawOfGreatest = (conf : Conf) (before : List Told) (mark : ℕ) →
    ((words conf before).greatest ≤ mark) ↔ AllByRecursion (λ r. r.count ≤ mark) (all_sent before)

-- the first event of a history that grows is a Life
abbrev pub LawOfFirst : Type 0
LawOfFirst = (conf : Conf) (newer : History) (e : Event) → Grows conf (newer ++ e ∷ []) → is_life e ≡ true

-- A life may follow a history that grows, where its mark is at least every count sent before. Then an arrival may
-- follow, and where a count is left a Tick.
abbrev pub LawOfBegin : Type 0
LawOfBegin = (conf : Conf) (history : History) (now : ℤ) (mark : ℕ) →
    Grows conf history → greatest_count (told conf history) ≤ mark →
    Grows conf (Life now mark ∷ history)
    × (mark < 4294967295 → (later : ℤ) (word : ℕ) → Grows conf (Tick later word ∷ Life now mark ∷ history))
    × ((later : ℤ) (from : Addr) (bytes : List ℕ) → Grows conf (Arrive later from bytes ∷ Life now mark ∷ history))

-- what came of earlier events doesn't hang on later ones
abbrev pub LawOfPrefix : Type 0
LawOfPrefix = (conf : Conf) (newer older : History) →
    (fresh : List Told) × (told conf (newer ++ older) ≡ fresh ++ told conf older) × (length fresh ≡ length newer)
