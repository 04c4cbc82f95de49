-- The events of a run, from what its devices gave.
use Rattle.std.specs.Prelude.{◌≡◌, ℕ, zero, suc, ◌==◌, if◌then◌else◌, ℤ, List, [], ◌∷◌, ◌++◌, is_some, map}
use Rattle.edge_traits.specs.Clock.{ClockCall, Correct, Read, readings_among}
use Rattle.edge_traits.specs.Link.{LinkCall, Receive, Send, receipts_among}
use Rattle.edge_traits.specs.declared.datagram.Addr.{Addr}
use Rattle.edge_traits.specs.declared.link.Receipt.{Receipt}
use Rattle.edge_traits.specs.declared.link.Receipt.TheVariants.{Got, Quiet, Failed}
use Rattle.edge_traits.specs.declared.link.Tried.{Tried}
use Rattle.capture_fmt.specs.declared.event.Event.{Event}
use Rattle.capture_fmt.specs.declared.event.Event.TheVariants.{Life, Tick, Resync, Arrive}
use Rattle.time_machine.specs.declared.conf.Conf.{Conf}
use Rattle.time_machine.specs.declared.outcome.Outcome.{Outcome}
use Rattle.time_machine.specs.Events.{History, reading_of}
use Rattle.time_machine.specs.Told.{offset_moved}
use Rattle.time_machine.specs.Machine.{Posted, moves_by, outcome_at, posted_by}

-- what the disk stands for when a run begins
pub record Stood : Type 0 where
  pub mark : ℕ

-- ---- The events of the member command, to be read aloud

-- Turn by turn a Tick with the next reading and the next word, and an Arrive with the next reading where the turn's
-- receipt is a datagram. The list ends where a reading, a word or a receipt that is needed next isn't there.
abbrev pub turns_of : List ℤ → List ℕ → List Receipt → List Event
turns_of [] words receipts = []
turns_of (now ∷ readings) [] receipts = []
turns_of (now ∷ readings) (word ∷ words) [] = Tick now word ∷ []
turns_of (now ∷ []) (word ∷ words) (Got from bytes ∷ receipts) = Tick now word ∷ []
turns_of (now ∷ later ∷ readings) (word ∷ words) (Got from bytes ∷ receipts) =
    Tick now word ∷ Arrive later from bytes ∷ turns_of readings words receipts
turns_of (now ∷ readings) (word ∷ words) (Quiet ∷ receipts) = Tick now word ∷ turns_of readings words receipts
turns_of (now ∷ readings) (word ∷ words) (Failed ∷ receipts) = Tick now word ∷ turns_of readings words receipts

-- a Life with the first reading and the mark that the disk stood for, and then the turns
abbrev pub weave : Stood → List ℤ → List ℕ → List Receipt → List Event
weave stood [] words receipts = []
weave stood (now ∷ readings) words receipts = Life now stood.mark ∷ turns_of readings words receipts

-- the history after these events, which came in this order
abbrev pub followed_by : History → List Event → History
followed_by history [] = history
followed_by history (event ∷ events) = followed_by (event ∷ history) events

-- ---- The calls of clock and link, in their order, to be read aloud

-- of the clock each event's reading, and right behind it the correction that the event leads to, if there is one
abbrev pub clock_calls : Conf → History → List Event → List ClockCall
clock_calls conf history [] = []
clock_calls conf history (event ∷ later) =
    Read (reading_of event) ∷ map Correct (moves_by (outcome_at conf history event)) ++ clock_calls conf (event ∷ history) later

-- the event, if it is a Tick
abbrev pub ticks_by : Event → List Event
ticks_by (Tick now word) = Tick now word ∷ []
ticks_by _ = []

-- the requests of turns: of each Tick the one that it leads to, if there is one
abbrev pub turn_requests : Conf → History → List Event → List (List Posted)
turn_requests conf history [] = []
turn_requests conf history (event ∷ later) =
    map (λ (tick : Event). posted_by (outcome_at conf history tick)) (ticks_by event) ++ turn_requests conf (event ∷ history) later

-- of the link turn by turn the sends of its Tick, and behind them its receipt; by `Weaves` the last turn alone may have none
abbrev pub turn_calls : List (List Tried) → List Receipt → List LinkCall
turn_calls [] receipts = map Receive receipts
turn_calls (tried ∷ later) [] = map Send tried ++ turn_calls later []
turn_calls (tried ∷ later) (receipt ∷ receipts) = map Send tried ++ Receive receipt ∷ turn_calls later receipts

-- where to a send was tried, and its bytes, whatever its answer
abbrev pub posted_of : Tried → Posted
posted_of tried = record { to = tried.to; bytes = tried.bytes }

-- ---- The same for any part of any run, call by call

-- a call that asks for a request: whether it waits for what comes of it, where this isn't 0, and its flags
pub record SyncCall : Type 0 where
  pub wait : ℕ
  pub flags : ℕ

-- what a run needs next
pub data Need : Type 0 where
  -- the reading of the Life; what is needed behind it
  Start : (stood : Stood) (next : Need) → Need
  -- so many turns are left; the reading of the next one's Tick
  Turns : (left : ℕ) → Need
  -- the word of the Tick at this reading
  WordFor : (left : ℕ) (now : ℤ) → Need
  -- the turn's receipt
  ReceiptNow : (left : ℕ) → Need
  -- the reading of the Arrive of this datagram
  ReadingFor : (left : ℕ) (from : Addr) (bytes : List ℕ) → Need
  -- these calls are left that ask for a request; the reading of the Resync of the first one
  Calls : (left : List SyncCall) → Need
  -- the word of the Resync of this call at this reading, behind which these calls are left
  CallWord : (call : SyncCall) (now : ℤ) (left : List SyncCall) → Need
  -- a receipt of a call's round, which may take so many still
  Round : (receipts : ℕ) (left : List SyncCall) → Need
  -- the reading of the Arrive of this datagram, behind which the round may take so many receipts
  RoundReading : (receipts : ℕ) (from : Addr) (bytes : List ℕ) (left : List SyncCall) → Need
  -- what an event led to, its send or its correction; what is needed behind it
  Act : (outcome : Outcome) (behind : Need) → Need

-- one call with this wait and these flags, and none behind it
abbrev pub one_call : (wait flags : ℕ) → Need
one_call wait flags = Calls (record { wait = wait; flags = flags } ∷ [])

-- a round may take so many receipts still, or is over
abbrev pub round_of : ℕ → List SyncCall → Need
round_of zero left = Calls left
round_of (suc more) left = Round (suc more) left

-- behind the Resync of a call: a round of at most 16 receipts, where the call waits
abbrev pub behind_request : ℕ → List SyncCall → Need
behind_request wait left = if wait == 0 then Calls left else Round 16 left

-- behind an arrival in a round, which an accepted one ends
abbrev pub behind_arrival : ℕ → Outcome → List SyncCall → Need
behind_arrival receipts outcome left = if is_some (offset_moved outcome) then Calls left else round_of receipts left

-- After a history, from one need to another: these calls of clock and link were made and these words drawn, each in its
-- turn, and give these events, the first one first. What an event leads to is done right behind it.
pub data Weaves (conf : Conf) : Need → History → List ClockCall → List ℕ → List LinkCall → List Event → Need → Type 0 where
  none : {need : Need} {history : History} → Weaves conf need history [] [] [] [] need
  acts : {outcome : Outcome} {behind need : Need} {history : History} {cs : List ClockCall} {ws : List ℕ} {ls : List LinkCall} {es : List Event} (tried : List Tried)
      → map posted_of tried ≡ posted_by outcome
      → Weaves conf behind history cs ws ls es need
      → Weaves conf (Act outcome behind) history (map Correct (moves_by outcome) ++ cs) ws (map Send tried ++ ls) es need
  life : {stood : Stood} {next : Need} {now : ℤ} {need : Need} {history : History} {cs : List ClockCall} {ws : List ℕ} {ls : List LinkCall} {es : List Event}
      → Weaves conf (Act (outcome_at conf history (Life now stood.mark)) next) (Life now stood.mark ∷ history) cs ws ls es need
      → Weaves conf (Start stood next) history (Read now ∷ cs) ws ls (Life now stood.mark ∷ es) need
  reads : {left : ℕ} {now : ℤ} {need : Need} {history : History} {cs : List ClockCall} {ws : List ℕ} {ls : List LinkCall} {es : List Event}
      → Weaves conf (WordFor left now) history cs ws ls es need
      → Weaves conf (Turns (suc left)) history (Read now ∷ cs) ws ls es need
  draws : {left : ℕ} {now : ℤ} {word : ℕ} {need : Need} {history : History} {cs : List ClockCall} {ws : List ℕ} {ls : List LinkCall} {es : List Event}
      → Weaves conf (Act (outcome_at conf history (Tick now word)) (ReceiptNow left)) (Tick now word ∷ history) cs ws ls es need
      → Weaves conf (WordFor left now) history cs (word ∷ ws) ls (Tick now word ∷ es) need
  gets : {left : ℕ} {from : Addr} {bytes : List ℕ} {need : Need} {history : History} {cs : List ClockCall} {ws : List ℕ} {ls : List LinkCall} {es : List Event}
      → Weaves conf (ReadingFor left from bytes) history cs ws ls es need
      → Weaves conf (ReceiptNow left) history cs ws (Receive (Got from bytes) ∷ ls) es need
  quiet : {left : ℕ} {need : Need} {history : History} {cs : List ClockCall} {ws : List ℕ} {ls : List LinkCall} {es : List Event}
      → Weaves conf (Turns left) history cs ws ls es need
      → Weaves conf (ReceiptNow left) history cs ws (Receive Quiet ∷ ls) es need
  lost : {left : ℕ} {need : Need} {history : History} {cs : List ClockCall} {ws : List ℕ} {ls : List LinkCall} {es : List Event}
      → Weaves conf (Turns left) history cs ws ls es need
      → Weaves conf (ReceiptNow left) history cs ws (Receive Failed ∷ ls) es need
  arrives : {left : ℕ} {from : Addr} {bytes : List ℕ} {now : ℤ} {need : Need} {history : History} {cs : List ClockCall} {ws : List ℕ} {ls : List LinkCall} {es : List Event}
      → Weaves conf (Act (outcome_at conf history (Arrive now from bytes)) (Turns left)) (Arrive now from bytes ∷ history) cs ws ls es need
      → Weaves conf (ReadingFor left from bytes) history (Read now ∷ cs) ws ls (Arrive now from bytes ∷ es) need
  call_reads : {call : SyncCall} {left : List SyncCall} {now : ℤ} {need : Need} {history : History} {cs : List ClockCall} {ws : List ℕ} {ls : List LinkCall} {es : List Event}
      → Weaves conf (CallWord call now left) history cs ws ls es need
      → Weaves conf (Calls (call ∷ left)) history (Read now ∷ cs) ws ls es need
  call_draws : {call : SyncCall} {left : List SyncCall} {now : ℤ} {word : ℕ} {need : Need} {history : History} {cs : List ClockCall} {ws : List ℕ} {ls : List LinkCall} {es : List Event}
      → Weaves conf (Act (outcome_at conf history (Resync now word call.flags)) (behind_request call.wait left)) (Resync now word call.flags ∷ history) cs ws ls es need
      → Weaves conf (CallWord call now left) history cs (word ∷ ws) ls (Resync now word call.flags ∷ es) need
  round_gets : {receipts : ℕ} {left : List SyncCall} {from : Addr} {bytes : List ℕ} {need : Need} {history : History} {cs : List ClockCall} {ws : List ℕ} {ls : List LinkCall} {es : List Event}
      → Weaves conf (RoundReading receipts from bytes left) history cs ws ls es need
      → Weaves conf (Round (suc receipts) left) history cs ws (Receive (Got from bytes) ∷ ls) es need
  round_quiet : {receipts : ℕ} {left : List SyncCall} {need : Need} {history : History} {cs : List ClockCall} {ws : List ℕ} {ls : List LinkCall} {es : List Event}
      → Weaves conf (Calls left) history cs ws ls es need
      → Weaves conf (Round (suc receipts) left) history cs ws (Receive Quiet ∷ ls) es need
  round_lost : {receipts : ℕ} {left : List SyncCall} {need : Need} {history : History} {cs : List ClockCall} {ws : List ℕ} {ls : List LinkCall} {es : List Event}
      → Weaves conf (round_of receipts left) history cs ws ls es need
      → Weaves conf (Round (suc receipts) left) history cs ws (Receive Failed ∷ ls) es need
  round_arrives : {receipts : ℕ} {left : List SyncCall} {from : Addr} {bytes : List ℕ} {now : ℤ} {need : Need} {history : History} {cs : List ClockCall} {ws : List ℕ} {ls : List LinkCall} {es : List Event}
      → Weaves conf (Act (outcome_at conf history (Arrive now from bytes)) (behind_arrival receipts (outcome_at conf history (Arrive now from bytes)) left)) (Arrive now from bytes ∷ history) cs ws ls es need
      → Weaves conf (RoundReading receipts from bytes left) history (Read now ∷ cs) ws ls (Arrive now from bytes ∷ es) need

-- What is woven from a Life and so many turns on is `weave` of what was given: of the readings, the words and the receipts.
abbrev pub LawOfTurns : ℕ → Type 0
LawOfTurns turns =
    (conf : Conf) (stood : Stood) (cs : List ClockCall) (ws : List ℕ) (ls : List LinkCall) (es : List Event) (need : Need)
    → Weaves conf (Start stood (Turns turns)) [] cs ws ls es need → es ≡ weave stood (readings_among cs) ws (receipts_among ls)
