-- The requests of a history of one life.
use Rattle.std.proofs.Common.{◌≡◌, ℕ, ◌+◌, true, false, List, [], ◌∷◌, ◌++◌, length, refl, if◌then◌else◌}
use Rattle.std.specs.Prelude.{is_some}
use Rattle.std.specs.List.{AllByRecursion}
use Rattle.std.proofs.lemmas.List.{length-append}
use Rattle.capture_fmt.specs.declared.event.Event.{Event}
use Rattle.capture_fmt.specs.declared.event.Event.TheVariants.{Life, Tick, Resync, Arrive}
use Rattle.time_machine.specs.declared.outcome.Outcome.{Outcome}
use Rattle.time_machine.specs.declared.outcome.Outcome.TheVariants.{Started, Idle, Sent, Moved, Refused}
use Rattle.time_machine.specs.declared.conf.Conf.{Conf}
use Rattle.time_machine.specs.Entries.{count_of, gather}
use Rattle.time_machine.specs.Events.{History, is_life}
use Rattle.time_machine.specs.Told.{Told, has_sent, request_sent}
use Rattle.time_machine.specs.Words.{words, life_at}
use Rattle.time_machine.specs.Machine.{Posted, told, told_by, posted_by, requests_of}
use Rattle.time_machine.specs.Positions.{LawOfSent}

one_posted : (e : Event) (o : Outcome) → (if is_some (request_sent e o) then 1 else 0) ≡ length (posted_by o)
one_posted e (Started mark) = refl
one_posted e Idle = refl
one_posted e (Sent to count bytes) = refl
one_posted e (Moved count offset how) = refl
one_posted e (Refused reason) = refl

abbrev posted : List Told → List Posted
posted before = gather (λ t. posted_by t.outcome) before

added : (before : List Told) (n : ℕ) → n ≡ length (posted before) → (e : Event) (o : Outcome) →
    n + (if is_some (request_sent e o) then 1 else 0) ≡ length (posted before ++ posted_by o)
added before n h e o = rw (length-append (posted before) (posted_by o), ← one_posted e o, h) refl

first_sent : (conf : Conf) (e : Event) → is_life e ≡ true → count_of has_sent (life_at (told conf (e ∷ []))) ≡ length (posted (told conf (e ∷ [])))
unfolding told
first_sent conf (Life now mark) h = refl
first_sent conf (Tick now word) h = cc
first_sent conf (Resync now word flags) h = cc
first_sent conf (Arrive now from bytes) h = cc

later_sent : (t : Told) (before : List Told) → is_life t.event ≡ false → count_of has_sent (life_at before) ≡ length (posted before) →
    count_of has_sent (life_at (t ∷ before)) ≡ length (posted (t ∷ before))
later_sent t before h e = rw h (added before (count_of has_sent (life_at before)) e t.event t.outcome)

all_sent_at : (conf : Conf) (newer : History) (e : Event) → AllByRecursion (λ d. is_life d ≡ false) newer → is_life e ≡ true →
    count_of has_sent (life_at (told conf (newer ++ e ∷ []))) ≡ length (posted (told conf (newer ++ e ∷ [])))
unfolding told
all_sent_at conf [] e n h = first_sent conf e h
all_sent_at conf (d ∷ newer) e n h =
    later_sent (told_by conf (words conf (told conf (newer ++ e ∷ []))) d) (told conf (newer ++ e ∷ [])) n.0 (all_sent_at conf newer e n.1 h)

pub sent_at : LawOfSent
unfolding words requests_of
sent_at conf newer e n h = all_sent_at conf newer e n h
