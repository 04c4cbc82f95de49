-- The open requests are those that events from the last turning point on have sent.
use Rattle.std.proofs.Common.{◌≡◌, List, [], ◌∷◌, ◌++◌, Option, Some, None, inl, inr, refl, sym, subst, arith}
use Rattle.std.specs.List.{Contains}
use Rattle.std.proofs.lemmas.List.Elements.{Contains-append_left, Contains-append_right, Contains-append_cases}
use Rattle.time_machine.specs.declared.outcome.Request.{Request}
use Rattle.time_machine.specs.Told.{Told, request_of}
use Rattle.time_machine.specs.Words.{words, since, all_sent, some_of}
use Rattle.time_machine.specs.Positions.{LawOfOpen}

-- an event of a line has sent a request
record HasSent (xs : List Told) (r : Request) : Type 0 where
  newer : List Told
  event : Told
  older : List Told
  place : xs ≡ newer ++ event ∷ older
  sent : request_of event ≡ Some r

one_of : (o : Option Request) (r : Request) → o ≡ Some r → Contains (some_of o) r
one_of (Some q) r e = let same : q ≡ r = cc in (0, omega arith, same)
one_of None r e = cc

from_one : (o : Option Request) (r : Request) → Contains (some_of o) r → o ≡ Some r
from_one (Some q) r c = let k : c.0 ≡ 0 = omega (arith, c.1) in let same : q ≡ r = rw k at c.2 in cc
from_one None r c = absurd (omega (arith, c.1))

pub sent_within : (newer older : List Told) (t : Told) (r : Request) → request_of t ≡ Some r → Contains (all_sent (newer ++ t ∷ older)) r
sent_within [] older t r e = Contains-append_right (all_sent older) (some_of (request_of t)) r (one_of (request_of t) r e)
sent_within (x ∷ newer) older t r e = Contains-append_left (all_sent (newer ++ t ∷ older)) (some_of (request_of x)) r (sent_within newer older t r e)

later : (x : Told) (xs : List Told) (r : Request) → HasSent xs r → HasSent (x ∷ xs) r
later x xs r h = record { newer = x ∷ h.newer; event = h.event; older = h.older; place = cc (h.place); sent = h.sent }

found : (xs : List Told) (r : Request) → Contains (all_sent xs) r → HasSent xs r
found [] r c = absurd (omega (arith, c.1))
found (x ∷ xs) r c = elim (Contains-append_cases (all_sent xs) (some_of (request_of x)) r c) [
  | inl h ↦ later x xs r (found xs r h)
  | inr h ↦ record { newer = []; event = x; older = xs; place = refl; sent = from_one (request_of x) r h }
]

pub open_at : LawOfOpen
unfolding words
open_at conf before r = (
  λ o. subst (λ xs. Contains (all_sent xs) r) (sym o.place) (sent_within o.newer o.older o.event r o.sent),
  λ c. let h = found (since before) r c in record { newer = h.newer; event = h.event; older = h.older; place = h.place; sent = h.sent },
)
