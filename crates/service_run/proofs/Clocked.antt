-- What is woven where requests are asked for: in which order the calls of the clock were made, and that no Life comes.
use Rattle.std.proofs.Common.{◌≡◌, ◌≤◌, ◌==◌, ℕ, zero, suc, ℤ, Bool, true, false, List, [], ◌∷◌, ◌++◌, length, map, if◌then◌else◌, refl, sym, ◌∙◌, ap, subst, append_assoc, arith}
use Rattle.std.specs.Prelude.{⊤, is_some}
use Rattle.std.proofs.lemmas.List.{append-nil}
use Rattle.edge_traits.specs.declared.datagram.Addr.{Addr}
use Rattle.edge_traits.specs.Clock.{ClockCall, Correct, Read}
use Rattle.edge_traits.specs.Link.{LinkCall}
use Rattle.capture_fmt.specs.declared.event.Event.{Event}
use Rattle.capture_fmt.specs.declared.event.Event.TheVariants.{Life, Arrive}
use Rattle.time_machine.specs.declared.conf.Conf.{Conf}
use Rattle.time_machine.specs.declared.outcome.Outcome.{Outcome}
use Rattle.time_machine.specs.Events.{History, reading_of}
use Rattle.time_machine.specs.Machine.{moves_by, outcome_at}
use Rattle.time_machine.specs.Told.{offset_moved}
use Rattle.run_deeds.specs.Devices.{IsInCalls}
use Rattle.run_deeds.specs.Weaving.{Stood, SyncCall, Need, Start, Turns, WordFor, ReceiptNow, ReadingFor, Calls, CallWord, Round, RoundReading, Act, Weaves, none, acts, life, reads, draws, gets, quiet, lost, arrives, call_reads, call_draws, round_gets, round_quiet, round_lost, round_arrives, clock_calls, round_of}
use Rattle.run_deeds.proofs.Orders.{IsMissing}
use Rattle.member_run.proofs.Blocks.{NoLife}

-- ---- No Life comes but at a start

abbrev NoStart : Need → Type 0
NoStart (Start stood next) = ⊥
NoStart (Act outcome behind) = NoStart behind
NoStart _ = ⊤

no_start_round : (receipts : ℕ) (left : List SyncCall) → NoStart (round_of receipts left)
no_start_round zero left = tt
no_start_round (suc more) left = tt

no_start_if : (b : Bool) (x y : Need) → NoStart x → NoStart y → NoStart (if b then x else y)
no_start_if true x y first other = first
no_start_if false x y first other = other

pub later_from : {conf : Conf} {from need : Need} {history : History} {cs : List ClockCall} {ws : List ℕ} {ls : List LinkCall} {es : List Event}
    → Weaves conf from history cs ws ls es need → NoStart from → NoLife es
later_from none begun = tt
later_from (acts tried are s) begun = later_from s begun
later_from (life s) begun = absurd begun
later_from (reads s) begun = later_from s tt
later_from (draws s) begun = (refl, later_from s tt)
later_from (gets s) begun = later_from s tt
later_from (quiet s) begun = later_from s tt
later_from (lost s) begun = later_from s tt
later_from (arrives s) begun = (refl, later_from s tt)
later_from (call_reads s) begun = later_from s tt
later_from (call_draws {call = call} {left = left} s) begun = (refl, later_from s (no_start_if (call.wait == 0) (Calls left) (Round 16 left) tt tt))
later_from (round_gets s) begun = later_from s tt
later_from (round_quiet s) begun = later_from s tt
later_from (round_lost {receipts = receipts} {left = left} s) begun = later_from s (no_start_round receipts left)
later_from {conf = conf} (round_arrives {receipts = receipts} {left = left} {from = from} {bytes = bytes} {now = now} {history = history} s) begun =
    (refl, later_from s (no_start_if (is_some (offset_moved (outcome_at conf history (Arrive now from bytes)))) (Calls left) (round_of receipts left) tt (no_start_round receipts left)))

-- ---- The calls of the clock

-- they are those of these events, and one reading more at most
pub record Clocked (conf : Conf) (history : History) (cs : List ClockCall) (events : List Event) : Type 0 where
  pub rest : List ℤ
  pub one : length rest ≤ 1
  pub at_once : cs ≡ clock_calls conf history events ++ map Read rest

-- of what was woven, but for the event that is missing
record IsClocked (conf : Conf) (history : History) (cs : List ClockCall) (es : List Event) (need : Need) : Type 0 where
  events : List Event
  missing : List Event
  are : es ≡ events ++ missing
  is_missing : IsMissing need missing
  order : Clocked conf history cs events

-- one event more
clock_more : (conf : Conf) (history : History) (event : Event) (events : List Event) (cs : List ClockCall) (rest : List ℤ)
    → cs ≡ clock_calls conf (event ∷ history) events ++ map Read rest
    → Read (reading_of event) ∷ (map Correct (moves_by (outcome_at conf history event)) ++ cs) ≡ clock_calls conf history (event ∷ events) ++ map Read rest
clock_more conf history event events cs rest is =
    let moves = map Correct (moves_by (outcome_at conf history event)) in
    ap (λ (l : List ClockCall). Read (reading_of event) ∷ (moves ++ l)) is
    ∙ ap (λ (l : List ClockCall). Read (reading_of event) ∷ l) (sym (append_assoc moves (clock_calls conf (event ∷ history) events) (map Read rest)))

clocked_none : (conf : Conf) (history : History) (rest : List ℤ) (missing : List Event) (need : Need) → length rest ≤ 1 → IsMissing need missing
    → IsClocked conf history (map Read rest) missing need
clocked_none conf history rest missing need one is =
    record { events = []; missing = missing; are = refl; is_missing = is; order = record { rest = rest; one = one; at_once = refl } }

clocked_more : (conf : Conf) (history : History) (event : Event) (outcome : Outcome) (cs : List ClockCall) (es : List Event) (need : Need) → outcome ≡ outcome_at conf history event
    → IsClocked conf (event ∷ history) cs es need → IsClocked conf history (Read (reading_of event) ∷ (map Correct (moves_by outcome) ++ cs)) (event ∷ es) need
clocked_more conf history event outcome cs es need leads o =
    subst (λ (out : Outcome). IsClocked conf history (Read (reading_of event) ∷ (map Correct (moves_by out) ++ cs)) (event ∷ es) need) (sym leads)
    (record {
      events = event ∷ o.events;
      missing = o.missing;
      are = ap (λ (l : List Event). event ∷ l) o.are;
      is_missing = o.is_missing;
      order = record { rest = o.order.rest; one = o.order.one; at_once = clock_more conf history event o.events cs o.order.rest o.order.at_once };
    })

in_calls_none : (need : Need) → IsInCalls need → IsMissing need []
in_calls_none (Calls left) is = refl
in_calls_none (Round receipts left) is = refl
in_calls_none (Start stood next) is = absurd is
in_calls_none (Turns left) is = absurd is
in_calls_none (WordFor left now) is = absurd is
in_calls_none (ReceiptNow left) is = absurd is
in_calls_none (ReadingFor left from bytes) is = absurd is
in_calls_none (CallWord call now left) is = absurd is
in_calls_none (RoundReading receipts from bytes left) is = absurd is
in_calls_none (Act outcome behind) is = absurd is

in_calls_round : (receipts : ℕ) (left : List SyncCall) → IsInCalls (round_of receipts left)
in_calls_round zero left = tt
in_calls_round (suc more) left = tt

in_calls_if : (b : Bool) (x y : Need) → IsInCalls x → IsInCalls y → IsInCalls (if b then x else y)
in_calls_if true x y first other = first
in_calls_if false x y first other = other

mutual
  -- between calls and in a round
  from_clocked : {conf : Conf} {from need : Need} {history : History} {cs : List ClockCall} {ws : List ℕ} {ls : List LinkCall} {es : List Event}
      → Weaves conf from history cs ws ls es need → IsInCalls from → IsClocked conf history cs es need
  from_clocked {conf = conf} {from = from} {history = history} none is = clocked_none conf history [] [] from (omega arith) (in_calls_none from is)
  from_clocked (call_reads s) is = word_clocked s
  from_clocked (round_gets s) is = reading_clocked s
  from_clocked (round_quiet s) is = from_clocked s tt
  from_clocked (round_lost {receipts = receipts} {left = left} s) is = from_clocked s (in_calls_round receipts left)
  from_clocked (acts tried are s) is = absurd is
  from_clocked (life s) is = absurd is
  from_clocked (reads s) is = absurd is
  from_clocked (draws s) is = absurd is
  from_clocked (gets s) is = absurd is
  from_clocked (quiet s) is = absurd is
  from_clocked (lost s) is = absurd is
  from_clocked (arrives s) is = absurd is
  from_clocked (call_draws s) is = absurd is
  from_clocked (round_arrives s) is = absurd is

  -- behind the reading of a Resync
  word_clocked : {conf : Conf} {call : SyncCall} {now : ℤ} {left : List SyncCall} {need : Need} {history : History} {cs : List ClockCall} {ws : List ℕ} {ls : List LinkCall} {es : List Event}
      → Weaves conf (CallWord call now left) history cs ws ls es need → IsClocked conf history (Read now ∷ cs) es need
  word_clocked {conf = conf} {call = call} {now = now} {left = left} {history = history} none = clocked_none conf history (now ∷ []) [] (CallWord call now left) (omega arith) refl
  word_clocked (call_draws {call = call} {left = left} s) = act_clocked s refl (in_calls_if (call.wait == 0) (Calls left) (Round 16 left) tt tt)

  -- behind a datagram of a round
  reading_clocked : {conf : Conf} {receipts : ℕ} {from : Addr} {bytes : List ℕ} {left : List SyncCall} {need : Need} {history : History} {cs : List ClockCall} {ws : List ℕ} {ls : List LinkCall} {es : List Event}
      → Weaves conf (RoundReading receipts from bytes left) history cs ws ls es need → IsClocked conf history cs es need
  reading_clocked {conf = conf} {receipts = receipts} {from = from} {bytes = bytes} {left = left} {history = history} none =
      clocked_none conf history [] [] (RoundReading receipts from bytes left) (omega arith) refl
  reading_clocked {conf = conf} (round_arrives {receipts = receipts} {left = left} {from = from} {bytes = bytes} {now = now} {history = history} s) =
      act_clocked s refl (in_calls_if (is_some (offset_moved (outcome_at conf history (Arrive now from bytes)))) (Calls left) (round_of receipts left) tt (in_calls_round receipts left))

  -- behind an event
  act_clocked : {conf : Conf} {outcome : Outcome} {behind need : Need} {event : Event} {history : History} {cs : List ClockCall} {ws : List ℕ} {ls : List LinkCall} {es : List Event}
      → Weaves conf (Act outcome behind) (event ∷ history) cs ws ls es need → outcome ≡ outcome_at conf history event → IsInCalls behind
      → IsClocked conf history (Read (reading_of event) ∷ cs) (event ∷ es) need
  act_clocked {conf = conf} {outcome = outcome} {behind = behind} {event = event} {history = history} none leads is =
      clocked_none conf history (reading_of event ∷ []) (event ∷ []) (Act outcome behind) (omega arith) (event, refl)
  act_clocked {conf = conf} {outcome = outcome} {need = need} {event = event} {history = history} (acts {cs = cs} {es = es} tried are s) leads is =
      clocked_more conf history event outcome cs es need leads (from_clocked s is)

start_clocked : {conf : Conf} {stood : Stood} {left : List SyncCall} {need : Need} {history : History} {cs : List ClockCall} {ws : List ℕ} {ls : List LinkCall} {es : List Event}
    → Weaves conf (Start stood (Calls left)) history cs ws ls es need → IsClocked conf history cs es need
start_clocked {conf = conf} {stood = stood} {left = left} {history = history} none = clocked_none conf history [] [] (Start stood (Calls left)) (omega arith) refl
start_clocked (life s) = act_clocked s refl tt

-- where it is known which event is missing, it is the only one
same_events : (a b c d : List Event) → b ≡ [] → d ≡ [] → a ++ b ≡ c ++ d → a ≡ c
same_events a b c d first next is =
    sym (append-nil a) ∙ ap (λ (l : List Event). a ++ l) (sym first) ∙ is ∙ ap (λ (l : List Event). c ++ l) next ∙ append-nil c

same_front : (a c : List Event) (e f : Event) → a ++ e ∷ [] ≡ c ++ f ∷ [] → a ≡ c
same_front [] [] e f is = refl
same_front [] (x ∷ []) e f is = absurd (let no : e ∷ [] ≡ x ∷ f ∷ [] = is in let bad : ⊥ = cc in bad)
same_front [] (x ∷ y ∷ ys) e f is = absurd (let no : e ∷ [] ≡ x ∷ y ∷ (ys ++ f ∷ []) = is in let bad : ⊥ = cc in bad)
same_front (x ∷ []) [] e f is = absurd (let no : x ∷ e ∷ [] ≡ f ∷ [] = is in let bad : ⊥ = cc in bad)
same_front (x ∷ y ∷ ys) [] e f is = absurd (let no : x ∷ y ∷ (ys ++ e ∷ []) ≡ f ∷ [] = is in let bad : ⊥ = cc in bad)
same_front (x ∷ xs) (y ∷ ys) e f is =
    let same : x ∷ (xs ++ e ∷ []) ≡ y ∷ (ys ++ f ∷ []) = is in
    let first : x ≡ y = cc in
    let rest : xs ++ e ∷ [] ≡ ys ++ f ∷ [] = cc in
    cc (first, same_front xs ys e f rest)

aligned : (need : Need) (a b c d : List Event) → IsMissing need b → IsMissing need d → a ++ b ≡ c ++ d → a ≡ c
aligned (Act outcome behind) a b c d (e, first) (f, next) is =
    same_front a c e f (ap (λ (l : List Event). a ++ l) (sym first) ∙ is ∙ ap (λ (l : List Event). c ++ l) next)
aligned (Start stood next) a b c d first other is = same_events a b c d first other is
aligned (Turns left) a b c d first next is = same_events a b c d first next is
aligned (WordFor left now) a b c d first next is = same_events a b c d first next is
aligned (ReceiptNow left) a b c d first next is = same_events a b c d first next is
aligned (ReadingFor left from bytes) a b c d first next is = same_events a b c d first next is
aligned (Calls left) a b c d first next is = same_events a b c d first next is
aligned (CallWord call now left) a b c d first next is = same_events a b c d first next is
aligned (Round receipts left) a b c d first next is = same_events a b c d first next is
aligned (RoundReading receipts from bytes left) a b c d first next is = same_events a b c d first next is

pub clocked_but : {conf : Conf} {stood : Stood} {left : List SyncCall} {need : Need} {history : History} {cs : List ClockCall} {ws : List ℕ} {ls : List LinkCall} (events missing : List Event)
    → Weaves conf (Start stood (Calls left)) history cs ws ls (events ++ missing) need → IsMissing need missing → Clocked conf history cs events
clocked_but {conf = conf} {need = need} {history = history} {cs = cs} events missing weaves is =
    let o = start_clocked weaves in
    subst (λ (es : List Event). Clocked conf history cs es) (sym (aligned need events missing o.events o.missing is o.is_missing o.are)) o.order

-- a Life that is read leads to no call
life_read : (conf : Conf) (now : ℤ) (mark : ℕ) → Read now ∷ [] ≡ clock_calls conf [] (Life now mark ∷ []) ++ []
unfolding outcome_at
life_read conf now mark = refl

life_acted : (conf : Conf) (now : ℤ) (mark : ℕ) → Read now ∷ (map Correct (moves_by (outcome_at conf [] (Life now mark))) ++ []) ≡ clock_calls conf [] (Life now mark ∷ []) ++ []
unfolding outcome_at
life_acted conf now mark = refl

pub life_clocked : {conf : Conf} {stood : Stood} {cs : List ClockCall} {ws : List ℕ} {ls : List LinkCall} {es : List Event} {need : Need} {time : ℤ} {mark : ℕ}
    → Weaves conf (Start stood (Calls [])) [] cs ws ls es need → es ≡ Life time mark ∷ [] → Clocked conf [] cs (Life time mark ∷ [])
life_clocked none is = absurd (let bad : ⊥ = cc is in bad)
life_clocked {conf = conf} {stood = stood} (life {now = now} none) is =
    subst (λ (es : List Event). Clocked conf [] (Read now ∷ []) es) is (record { rest = []; one = omega arith; at_once = life_read conf now stood.mark })
life_clocked {conf = conf} {stood = stood} (life {now = now} (acts tried are none)) is =
    subst (λ (es : List Event). Clocked conf [] (Read now ∷ (map Correct (moves_by (outcome_at conf [] (Life now stood.mark))) ++ [])) es) is
    (record { rest = []; one = omega arith; at_once = life_acted conf now stood.mark })
