-- In which order a run's calls of clock and link were made.
use Rattle.std.proofs.Common.{◌≡◌, ◌≤◌, ℕ, ℤ, List, [], ◌∷◌, ◌++◌, length, map, refl, sym, ◌∙◌, ap, subst, append_assoc, arith}
use Rattle.std.proofs.lemmas.List.{append-nil}
use Rattle.edge_traits.specs.declared.datagram.Addr.{Addr}
use Rattle.edge_traits.specs.declared.link.Receipt.{Receipt}
use Rattle.edge_traits.specs.declared.link.Receipt.TheVariants.{Got, Quiet, Failed}
use Rattle.edge_traits.specs.declared.link.Tried.{Tried}
use Rattle.edge_traits.specs.Clock.{ClockCall, Correct, Read}
use Rattle.edge_traits.specs.Link.{LinkCall, Receive, Send, receipts_among}
use Rattle.capture_fmt.specs.declared.event.Event.{Event}
use Rattle.capture_fmt.specs.declared.event.Event.TheVariants.{Life, Tick, Arrive}
use Rattle.time_machine.specs.declared.conf.Conf.{Conf}
use Rattle.time_machine.specs.declared.outcome.Outcome.{Outcome}
use Rattle.time_machine.specs.Events.{History, reading_of}
use Rattle.time_machine.specs.Machine.{Posted, moves_by, outcome_at, posted_by, told}
use Rattle.time_machine.specs.Words.{words}
use Rattle.time_machine.proofs.After.{verdict_cases}
use Rattle.run_deeds.specs.Weaving.{Stood, Need, Start, Turns, WordFor, ReceiptNow, ReadingFor, Calls, CallWord, Round, RoundReading, Act, Weaves, none, acts, life, reads, draws, gets, quiet, lost, arrives, clock_calls, posted_of, turn_calls, turn_requests}
use Rattle.run_deeds.proofs.Weaves.{receipts_behind}

-- ---- Only a Tick of the turns sends

pub life_posts : (conf : Conf) (history : History) (now : ℤ) (mark : ℕ) → posted_by (outcome_at conf history (Life now mark)) ≡ []
unfolding outcome_at
life_posts conf history now mark = refl

pub arrive_posts : (conf : Conf) (history : History) (now : ℤ) (from : Addr) (bytes : List ℕ) → posted_by (outcome_at conf history (Arrive now from bytes)) ≡ []
unfolding outcome_at
arrive_posts conf history now from bytes =
    verdict_cases (λ (o : Outcome). posted_by o ≡ []) (λ reason. refl) conf (words conf (told conf history)) now from bytes (λ r e offset how. refl)

none_tried : (tried : List Tried) → map posted_of tried ≡ [] → tried ≡ []
none_tried [] is = refl
none_tried (t ∷ tried) is = absurd (let bad : ⊥ = cc is in bad)

-- ---- The calls of turns

-- the event whose doing is needed next, if there is one
abbrev pub IsMissing : Need → List Event → Type 0
IsMissing (Act outcome behind) missing = (event : Event) × (missing ≡ event ∷ [])
IsMissing _ missing = missing ≡ []

-- The calls of clock and link are those of these events, and one reading more at most.
pub record InOrder (conf : Conf) (history : History) (cs : List ClockCall) (ls : List LinkCall) (events : List Event) : Type 0 where
  pub rest : List ℤ
  pub one : length rest ≤ 1
  pub at_once : cs ≡ clock_calls conf history events ++ map Read rest
  pub by_turn : List (List Tried)
  pub asked : map (map posted_of) by_turn ≡ turn_requests conf history events
  pub in_turn : ls ≡ turn_calls by_turn (receipts_among ls)

-- so are those of what was woven but for the event that is missing
pub record IsOrdered (conf : Conf) (history : History) (cs : List ClockCall) (ls : List LinkCall) (es : List Event) (need : Need) : Type 0 where
  pub events : List Event
  pub missing : List Event
  pub are : es ≡ events ++ missing
  pub is_missing : IsMissing need missing
  pub order : InOrder conf history cs ls events

-- one event more of the clock's calls
clock_more : (conf : Conf) (history : History) (event : Event) (events : List Event) (cs : List ClockCall) (rest : List ℤ)
    → cs ≡ clock_calls conf (event ∷ history) events ++ map Read rest
    → Read (reading_of event) ∷ (map Correct (moves_by (outcome_at conf history event)) ++ cs) ≡ clock_calls conf history (event ∷ events) ++ map Read rest
clock_more conf history event events cs rest is =
    let moves = map Correct (moves_by (outcome_at conf history event)) in
    ap (λ (l : List ClockCall). Read (reading_of event) ∷ (moves ++ l)) is
    ∙ ap (λ (l : List ClockCall). Read (reading_of event) ∷ l) (sym (append_assoc moves (clock_calls conf (event ∷ history) events) (map Read rest)))

-- one turn more of the link's calls, with its receipt
link_more : (tried : List Tried) (receipt : Receipt) (later : List (List Tried)) (ls : List LinkCall) → ls ≡ turn_calls later (receipts_among ls)
    → map Send tried ++ Receive receipt ∷ ls ≡ turn_calls (tried ∷ later) (receipts_among (map Send tried ++ Receive receipt ∷ ls))
link_more tried receipt later ls is =
    ap (λ (l : List LinkCall). map Send tried ++ Receive receipt ∷ l) is
    ∙ ap (turn_calls (tried ∷ later)) (sym (receipts_behind tried (Receive receipt ∷ ls)))

-- and without one
link_last : (tried : List Tried) → map Send tried ++ [] ≡ turn_calls (tried ∷ []) (receipts_among (map Send tried ++ []))
link_last tried = ap (turn_calls (tried ∷ [])) (sym (receipts_behind tried []))

-- no turn
start_order : (conf : Conf) (history : History) (need : Need) (rest : List ℤ) (missing : List Event) → length rest ≤ 1 → IsMissing need missing
    → IsOrdered conf history (map Read rest) [] missing need
start_order conf history need rest missing one is_missing = record {
  events = [];
  missing = missing;
  are = refl;
  is_missing = is_missing;
  order = record {
    rest = rest;
    one = one;
    at_once = refl;
    by_turn = [];
    asked = refl;
    in_turn = refl;
  };
}

-- a turn's Tick and what it led to, and no receipt
tick_order : (conf : Conf) (history : History) (now : ℤ) (word : ℕ) (tried : List Tried) (need : Need) → IsMissing need []
    → map posted_of tried ≡ posted_by (outcome_at conf history (Tick now word))
    → IsOrdered conf history (Read now ∷ (map Correct (moves_by (outcome_at conf history (Tick now word))) ++ [])) (map Send tried ++ []) (Tick now word ∷ []) need
tick_order conf history now word tried need is_missing are = record {
  events = Tick now word ∷ [];
  missing = [];
  are = refl;
  is_missing = is_missing;
  order = record {
    rest = [];
    one = omega arith;
    at_once = clock_more conf history (Tick now word) [] [] [] refl;
    by_turn = tried ∷ [];
    asked = ap (λ (l : List Posted). l ∷ []) are;
    in_turn = link_last tried;
  };
}

-- a turn without an arrival, and those behind it
turn_order : (conf : Conf) (history : History) (now : ℤ) (word : ℕ) (tried : List Tried) (receipt : Receipt) (cs : List ClockCall) (ls : List LinkCall) (es : List Event) (need : Need)
    → map posted_of tried ≡ posted_by (outcome_at conf history (Tick now word))
    → IsOrdered conf (Tick now word ∷ history) cs ls es need
    → IsOrdered conf history (Read now ∷ (map Correct (moves_by (outcome_at conf history (Tick now word))) ++ cs)) (map Send tried ++ Receive receipt ∷ ls) (Tick now word ∷ es) need
turn_order conf history now word tried receipt cs ls es need are o = record {
  events = Tick now word ∷ o.events;
  missing = o.missing;
  are = ap (λ (l : List Event). Tick now word ∷ l) o.are;
  is_missing = o.is_missing;
  order = record {
    rest = o.order.rest;
    one = o.order.one;
    at_once = clock_more conf history (Tick now word) o.events cs o.order.rest o.order.at_once;
    by_turn = tried ∷ o.order.by_turn;
    asked = ap (λ (l : List Posted). l ∷ map (map posted_of) o.order.by_turn) are
        ∙ ap (λ (l : List (List Posted)). posted_by (outcome_at conf history (Tick now word)) ∷ l) o.order.asked;
    in_turn = link_more tried receipt o.order.by_turn ls o.order.in_turn;
  };
}

-- an arrival that was taken, which sends nothing
arrive_order : (conf : Conf) (history : History) (now : ℤ) (from : Addr) (bytes : List ℕ) (tried : List Tried) (cs : List ClockCall) (ls : List LinkCall) (es : List Event) (need : Need)
    → map posted_of tried ≡ posted_by (outcome_at conf history (Arrive now from bytes))
    → IsOrdered conf (Arrive now from bytes ∷ history) cs ls es need
    → IsOrdered conf history (Read now ∷ (map Correct (moves_by (outcome_at conf history (Arrive now from bytes))) ++ cs)) (map Send tried ++ ls) (Arrive now from bytes ∷ es) need
arrive_order conf history now from bytes tried cs ls es need are o =
    let silent : [] ≡ tried = sym (none_tried tried (are ∙ arrive_posts conf history now from bytes)) in
    let all : IsOrdered conf history (Read now ∷ (map Correct (moves_by (outcome_at conf history (Arrive now from bytes))) ++ cs)) ls (Arrive now from bytes ∷ es) need = record {
      events = Arrive now from bytes ∷ o.events;
      missing = o.missing;
      are = ap (λ (l : List Event). Arrive now from bytes ∷ l) o.are;
      is_missing = o.is_missing;
      order = record {
        rest = o.order.rest;
        one = o.order.one;
        at_once = clock_more conf history (Arrive now from bytes) o.events cs o.order.rest o.order.at_once;
        by_turn = o.order.by_turn;
        asked = o.order.asked;
        in_turn = o.order.in_turn;
      };
    } in
    subst (λ (t : List Tried). IsOrdered conf history (Read now ∷ (map Correct (moves_by (outcome_at conf history (Arrive now from bytes))) ++ cs)) (map Send t ++ ls) (Arrive now from bytes ∷ es) need) silent all

-- the same of a Life
life_order_in : (conf : Conf) (history : History) (now : ℤ) (mark : ℕ) (tried : List Tried) (cs : List ClockCall) (ls : List LinkCall) (events : List Event)
    → map posted_of tried ≡ posted_by (outcome_at conf history (Life now mark)) → InOrder conf (Life now mark ∷ history) cs ls events
    → InOrder conf history (Read now ∷ (map Correct (moves_by (outcome_at conf history (Life now mark))) ++ cs)) (map Send tried ++ ls) (Life now mark ∷ events)
life_order_in conf history now mark tried cs ls events are o =
    let silent : [] ≡ tried = sym (none_tried tried (are ∙ life_posts conf history now mark)) in
    let calls = Read now ∷ (map Correct (moves_by (outcome_at conf history (Life now mark))) ++ cs) in
    let all : InOrder conf history calls ls (Life now mark ∷ events) = record {
      rest = o.rest;
      one = o.one;
      at_once = clock_more conf history (Life now mark) events cs o.rest o.at_once;
      by_turn = o.by_turn;
      asked = o.asked;
      in_turn = o.in_turn;
    } in
    subst (λ (t : List Tried). InOrder conf history calls (map Send t ++ ls) (Life now mark ∷ events)) silent all

life_order : (conf : Conf) (history : History) (now : ℤ) (mark : ℕ) (tried : List Tried) (cs : List ClockCall) (ls : List LinkCall) (es : List Event) (need : Need)
    → map posted_of tried ≡ posted_by (outcome_at conf history (Life now mark))
    → IsOrdered conf (Life now mark ∷ history) cs ls es need
    → IsOrdered conf history (Read now ∷ (map Correct (moves_by (outcome_at conf history (Life now mark))) ++ cs)) (map Send tried ++ ls) (Life now mark ∷ es) need
life_order conf history now mark tried cs ls es need are o = record {
  events = Life now mark ∷ o.events;
  missing = o.missing;
  are = ap (λ (l : List Event). Life now mark ∷ l) o.are;
  is_missing = o.is_missing;
  order = life_order_in conf history now mark tried cs ls o.events are o.order;
}

-- where it is read and nothing follows
life_read : (conf : Conf) (history : History) (now : ℤ) (mark : ℕ) → Read now ∷ [] ≡ clock_calls conf history (Life now mark ∷ []) ++ []
unfolding outcome_at
life_read conf history now mark = refl

nothing_in : (xs ys : List Event) → xs ++ ys ≡ [] → xs ≡ []
nothing_in [] ys is = refl
nothing_in (x ∷ xs) ys is = absurd (let no : x ∷ (xs ++ ys) ≡ [] = is in let bad : ⊥ = cc in bad)

-- an outcome by another name
as_led : (conf : Conf) (history : History) (now : ℤ) (cs : List ClockCall) {outcome other : Outcome} {ls : List LinkCall} {es : List Event} {need : Need} → outcome ≡ other
    → IsOrdered conf history (Read now ∷ (map Correct (moves_by other) ++ cs)) ls es need → IsOrdered conf history (Read now ∷ (map Correct (moves_by outcome) ++ cs)) ls es need
as_led conf history now cs {ls = ls} {es = es} {need = need} is ordered =
    subst (λ (o : Outcome). IsOrdered conf history (Read now ∷ (map Correct (moves_by o) ++ cs)) ls es need) (sym is) ordered

mutual
  -- from a turn on the calls are in their order
  turns_ordered : {conf : Conf} {left : ℕ} {history : History} {cs : List ClockCall} {ws : List ℕ} {ls : List LinkCall} {es : List Event} {need : Need}
      → Weaves conf (Turns left) history cs ws ls es need → IsOrdered conf history cs ls es need
  turns_ordered {conf = conf} {left = left} {history = history} none = start_order conf history (Turns left) [] [] (omega arith) refl
  turns_ordered (reads s) = word_ordered s

  -- and so behind the reading of a Tick
  word_ordered : {conf : Conf} {left : ℕ} {now : ℤ} {history : History} {cs : List ClockCall} {ws : List ℕ} {ls : List LinkCall} {es : List Event} {need : Need}
      → Weaves conf (WordFor left now) history cs ws ls es need → IsOrdered conf history (Read now ∷ cs) ls es need
  word_ordered {conf = conf} {left = left} {now = now} {history = history} none = start_order conf history (WordFor left now) (now ∷ []) [] (omega arith) refl
  word_ordered (draws s) = tick_ordered s refl

  -- behind its word
  tick_ordered : {conf : Conf} {outcome : Outcome} {left : ℕ} {now : ℤ} {word : ℕ} {history : History} {cs : List ClockCall} {ws : List ℕ} {ls : List LinkCall} {es : List Event} {need : Need}
      → Weaves conf (Act outcome (ReceiptNow left)) (Tick now word ∷ history) cs ws ls es need → outcome ≡ outcome_at conf history (Tick now word)
      → IsOrdered conf history (Read now ∷ cs) ls (Tick now word ∷ es) need
  tick_ordered {conf = conf} {now = now} {word = word} {history = history} {need = need} none leads =
      start_order conf history need (now ∷ []) (Tick now word ∷ []) (omega arith) (Tick now word, refl)
  tick_ordered {conf = conf} {now = now} {word = word} {history = history} {need = need} (acts tried are none) leads =
      as_led conf history now [] leads (tick_order conf history now word tried need refl (are ∙ ap posted_by leads))
  tick_ordered {conf = conf} {now = now} {word = word} {history = history} {need = need} (acts {cs = cs} tried are (gets {from = from} {bytes = bytes} {ls = ls} {es = es} s)) leads =
      as_led conf history now cs leads (turn_order conf history now word tried (Got from bytes) cs ls es need (are ∙ ap posted_by leads) (reading_ordered s))
  tick_ordered {conf = conf} {now = now} {word = word} {history = history} {need = need} (acts {cs = cs} tried are (quiet {ls = ls} {es = es} s)) leads =
      as_led conf history now cs leads (turn_order conf history now word tried Quiet cs ls es need (are ∙ ap posted_by leads) (turns_ordered s))
  tick_ordered {conf = conf} {now = now} {word = word} {history = history} {need = need} (acts {cs = cs} tried are (lost {ls = ls} {es = es} s)) leads =
      as_led conf history now cs leads (turn_order conf history now word tried Failed cs ls es need (are ∙ ap posted_by leads) (turns_ordered s))

  -- and behind its receipt
  reading_ordered : {conf : Conf} {left : ℕ} {from : Addr} {bytes : List ℕ} {history : History} {cs : List ClockCall} {ws : List ℕ} {ls : List LinkCall} {es : List Event} {need : Need}
      → Weaves conf (ReadingFor left from bytes) history cs ws ls es need → IsOrdered conf history cs ls es need
  reading_ordered {conf = conf} {history = history} {need = need} none = start_order conf history need [] [] (omega arith) refl
  reading_ordered {conf = conf} {from = from} {bytes = bytes} {history = history} {need = need} (arrives {now = now} none) =
      start_order conf history need (now ∷ []) (Arrive now from bytes ∷ []) (omega arith) (Arrive now from bytes, refl)
  reading_ordered {conf = conf} {from = from} {bytes = bytes} {history = history} {need = need} (arrives {now = now} (acts {cs = cs} {ls = ls} {es = es} tried are s)) =
      arrive_order conf history now from bytes tried cs ls es need are (turns_ordered s)

-- and so from the start of so many turns
pub ordered : {conf : Conf} {stood : Stood} {turns : ℕ} {history : History} {cs : List ClockCall} {ws : List ℕ} {ls : List LinkCall} {es : List Event} {need : Need}
    → Weaves conf (Start stood (Turns turns)) history cs ws ls es need → IsOrdered conf history cs ls es need
ordered {conf = conf} {stood = stood} {turns = turns} {history = history} none = start_order conf history (Start stood (Turns turns)) [] [] (omega arith) refl
ordered {conf = conf} {stood = stood} {history = history} {need = need} (life {now = now} none) =
    start_order conf history need (now ∷ []) (Life now stood.mark ∷ []) (omega arith) (Life now stood.mark, refl)
ordered {conf = conf} {stood = stood} {history = history} {need = need} (life {now = now} (acts {cs = cs} {ls = ls} {es = es} tried are s)) =
    life_order conf history now stood.mark tried cs ls es need are (turns_ordered s)

-- ---- Which event is missing

same_front : (a c : List Event) (e f : Event) → a ++ e ∷ [] ≡ c ++ f ∷ [] → a ≡ c
same_front [] [] e f is = refl
same_front [] (x ∷ []) e f is = absurd (let no : e ∷ [] ≡ x ∷ f ∷ [] = is in let bad : ⊥ = cc in bad)
same_front [] (x ∷ y ∷ ys) e f is = absurd (let no : e ∷ [] ≡ x ∷ y ∷ (ys ++ f ∷ []) = is in let bad : ⊥ = cc in bad)
same_front (x ∷ []) [] e f is = absurd (let no : x ∷ e ∷ [] ≡ f ∷ [] = is in let bad : ⊥ = cc in bad)
same_front (x ∷ y ∷ ys) [] e f is = absurd (let no : x ∷ y ∷ (ys ++ e ∷ []) ≡ f ∷ [] = is in let bad : ⊥ = cc in bad)
same_front (x ∷ xs) (y ∷ ys) e f is =
    let same : x ∷ (xs ++ e ∷ []) ≡ y ∷ (ys ++ f ∷ []) = is in
    let first : x ≡ y = cc in
    let rest : xs ++ e ∷ [] ≡ ys ++ f ∷ [] = cc in
    cc (first, same_front xs ys e f rest)

same_events : (a b c d : List Event) → b ≡ [] → d ≡ [] → a ++ b ≡ c ++ d → a ≡ c
same_events a b c d first next is =
    sym (append-nil a) ∙ ap (λ (l : List Event). a ++ l) (sym first) ∙ is ∙ ap (λ (l : List Event). c ++ l) next ∙ append-nil c

aligned : (need : Need) (a b c d : List Event) → IsMissing need b → IsMissing need d → a ++ b ≡ c ++ d → a ≡ c
aligned (Act outcome behind) a b c d (e, first) (f, next) is =
    same_front a c e f (ap (λ (l : List Event). a ++ l) (sym first) ∙ is ∙ ap (λ (l : List Event). c ++ l) next)
aligned (Start stood next) a b c d first next' is = same_events a b c d first next' is
aligned (Turns left) a b c d first next is = same_events a b c d first next is
aligned (WordFor left now) a b c d first next is = same_events a b c d first next is
aligned (ReceiptNow left) a b c d first next is = same_events a b c d first next is
aligned (ReadingFor left from bytes) a b c d first next is = same_events a b c d first next is
aligned (Calls left) a b c d first next is = same_events a b c d first next is
aligned (CallWord call now left) a b c d first next is = same_events a b c d first next is
aligned (Round receipts left) a b c d first next is = same_events a b c d first next is
aligned (RoundReading receipts from bytes left) a b c d first next is = same_events a b c d first next is

-- where it is known which event is missing, the calls are those of the others
pub order_but : {conf : Conf} {stood : Stood} {turns : ℕ} {history : History} {cs : List ClockCall} {ws : List ℕ} {ls : List LinkCall} {need : Need} (events missing : List Event)
    → Weaves conf (Start stood (Turns turns)) history cs ws ls (events ++ missing) need → IsMissing need missing → InOrder conf history cs ls events
order_but {conf = conf} {history = history} {cs = cs} {ls = ls} {need = need} events missing weaves is =
    let o = ordered weaves in
    subst (λ (es : List Event). InOrder conf history cs ls es) (sym (aligned need events missing o.events o.missing is o.is_missing o.are)) o.order

-- a Life leads to no call
pub order_life : {conf : Conf} {stood : Stood} {turns : ℕ} {history : History} {cs : List ClockCall} {ws : List ℕ} {ls : List LinkCall} {es : List Event} {need : Need} {time : ℤ} {mark : ℕ}
    → Weaves conf (Start stood (Turns turns)) history cs ws ls es need → es ≡ Life time mark ∷ [] → InOrder conf history cs ls (Life time mark ∷ [])
order_life none is = absurd (let bad : ⊥ = cc is in bad)
order_life {conf = conf} {stood = stood} {history = history} (life {now = now} none) is =
    subst (λ (es : List Event). InOrder conf history (Read now ∷ []) [] es) is
    (record {
      rest = [];
      one = omega arith;
      at_once = life_read conf history now stood.mark;
      by_turn = [];
      asked = refl;
      in_turn = refl;
    })
order_life {conf = conf} {stood = stood} {history = history} {need = need} (life {now = now} (acts {cs = cs} {ls = ls} {es = es} tried are s)) is =
    let none_later : es ≡ [] = let same : Life now stood.mark ∷ es ≡ Life _ _ ∷ [] = is in cc in
    let o = turns_ordered s in
    let none_taken = (nothing_in o.events o.missing (sym o.are ∙ none_later)) in
    let calls : InOrder conf (Life now stood.mark ∷ history) cs ls [] = subst (λ (l : List Event). InOrder conf (Life now stood.mark ∷ history) cs ls l) none_taken o.order in
    subst (λ (l : List Event). InOrder conf history (Read now ∷ (map Correct (moves_by (outcome_at conf history (Life now stood.mark))) ++ cs)) (map Send tried ++ ls) l) is
    (subst (λ (l : List Event). InOrder conf history (Read now ∷ (map Correct (moves_by (outcome_at conf history (Life now stood.mark))) ++ cs)) (map Send tried ++ ls) (Life now stood.mark ∷ l)) (sym none_later)
    (life_order_in conf history now stood.mark tried cs ls [] are calls))
