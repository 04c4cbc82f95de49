-- How histories begin, and what their events leave and move.
use Rattle.std.proofs.Common.{◌≡◌, ℕ, Bool, true, false, List, [], ◌∷◌, length, Some, ℤ, refl, ap, ◌∙◌, arith, if◌then◌else◌}
use Rattle.std.specs.Prelude.{is_some}
use Rattle.std.proofs.lemmas.List.{length-append}
use Rattle.edge_traits.specs.declared.datagram.Addr.{Addr}
use Rattle.capture_fmt.specs.declared.event.Event.{Event}
use Rattle.capture_fmt.specs.declared.event.Event.TheVariants.{Life, Tick, Resync, Arrive}
use Rattle.time_machine.specs.declared.conf.Conf.{Conf}
use Rattle.time_machine.specs.declared.outcome.How.{How}
use Rattle.time_machine.specs.declared.outcome.How.TheVariants.{Slew, Step}
use Rattle.time_machine.specs.declared.outcome.Outcome.{Outcome}
use Rattle.time_machine.specs.declared.outcome.Outcome.TheVariants.{Started, Idle, Sent, Moved, Refused}
use Rattle.time_machine.specs.Entries.{count_of, gather}
use Rattle.time_machine.specs.Events.{History, reading_of}
use Rattle.time_machine.specs.Told.{Told, base_moved, is_accepted, offset_moved}
use Rattle.time_machine.specs.Words.{Words, words}
use Rattle.time_machine.specs.Machine.{told, moves_by, moves_of, outcome_at, sends}
use Rattle.time_machine.specs.Growing.{Grows}
use Rattle.time_machine.specs.Positions.{LawOfBegin, LawOfLeaving, LawOfMoved}
use Rattle.time_machine.proofs.After.{verdict_kept, words_after}

pub begin_at : LawOfBegin
unfolding Grows words told
begin_at conf history now mark grows least =
    ((grows, least), λ room later word. ((grows, least), (refl, omega arith)), λ later from bytes. ((grows, least), refl))

-- ---- The base

if_base : (b : Bool) (x y : Words) → b ≡ true → (if b then x else y).base ≡ x.base
if_base true x y e = refl
if_base false x y e = cc

base_sent : (conf : Conf) (history : History) (e : Event) → sends (words conf (told conf history)) e ≡ true → (words conf (told conf (e ∷ history))).base ≡ Some (reading_of e)
unfolding told
base_sent conf history (Life now mark) h = cc
base_sent conf history (Tick now word) h = ap (λ (w : Words). w.base) (words_after conf (told conf history) (Tick now word)) ∙ if_base _ _ _ h
base_sent conf history (Resync now word flags) h = ap (λ (w : Words). w.base) (words_after conf (told conf history) (Resync now word flags))
base_sent conf history (Arrive now from bytes) h = cc

if_moved : (b : Bool) (to : Addr) (n count : ℕ) (bytes : List ℕ) (offset : ℤ) (how : How) → (if b then Sent to n bytes else Idle) ≡ Moved count offset how → ⊥
if_moved true to n count bytes offset how e = cc
if_moved false to n count bytes offset how e = cc

base_accepted : (conf : Conf) (history : History) (e : Event) (count : ℕ) (offset : ℤ) (how : How) → outcome_at conf history e ≡ Moved count offset how → (words conf (told conf (e ∷ history))).base ≡ Some (base_moved (reading_of e) offset how)
unfolding told outcome_at
base_accepted conf history (Life now mark) count offset how h = cc
base_accepted conf history (Tick now word) count offset how h = absurd (if_moved _ _ _ _ _ _ _ h)
base_accepted conf history (Resync now word flags) count offset how h = cc
base_accepted conf history (Arrive now from bytes) count offset how h =
    ap (λ (w : Words). w.base) (words_after conf (told conf history) (Arrive now from bytes))
    ∙ (rw (verdict_kept conf (words conf (told conf history)) now from bytes, h) refl)

pub leaving_at : LawOfLeaving
leaving_at conf history e = (
  base_sent conf history e,
  λ count offset h. base_accepted conf history e count offset Slew h,
  λ count offset h. base_accepted conf history e count offset Step h,
)

-- ---- The corrections

one_moved : (o : Outcome) → length (moves_by o) ≡ (if is_some (offset_moved o) then 1 else 0)
one_moved (Started mark) = refl
one_moved Idle = refl
one_moved (Sent to count bytes) = refl
one_moved (Moved count offset Slew) = refl
one_moved (Moved count offset Step) = refl
one_moved (Refused reason) = refl

moved_counted : (before : List Told) → length (gather (λ t. moves_by t.outcome) before) ≡ count_of is_accepted before
moved_counted [] = refl
moved_counted (t ∷ before) = rw (length-append (gather (λ s. moves_by s.outcome) before) (moves_by t.outcome), moved_counted before, one_moved t.outcome) refl

pub moved_at : LawOfMoved
unfolding moves_of
moved_at conf history = moved_counted (told conf history)
