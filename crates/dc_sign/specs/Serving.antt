-- A run of a controller: turn by turn one receipt, and what came of it.
use Rattle.std.specs.Prelude.{◌≡◌, ◌<◌, ℕ, ℤ, List, [], ◌∷◌, All, length, map, Option, Some}
use Rattle.std.specs.List.{flat_map}
use Rattle.base_specs.specs.Counts.{Fails, FailsTimes}
use Rattle.base_specs.specs.Told.{Grew}
use Rattle.edge_traits.specs.Clock.{ClockCall, GaveReadings}
use Rattle.edge_traits.specs.Link.{LinkCall, Receive, Send, failed_calls}
use Rattle.edge_traits.specs.declared.datagram.Addr.{Addr}
use Rattle.edge_traits.specs.declared.link.Receipt.{Receipt}
use Rattle.edge_traits.specs.declared.link.Receipt.TheVariants as receipt
use Rattle.edge_traits.specs.declared.link.Tried.{Tried}
use Rattle.edge_traits.specs.declared.sink.Put.{Put}
use Rattle.edge_seen.specs.Seen.{Seen}
use Rattle.key_book.specs.declared.account.Account.{Account}
use Rattle.dc_sign.specs.declared.info.ServerInfo.{ServerInfo}
use Rattle.dc_sign.specs.declared.outcome.Answer.{Answer}
use Rattle.dc_sign.specs.declared.outcome.Answer.TheVariants as answer
use Rattle.dc_sign.specs.declared.outcome.Refusal.{Refusal}
use Rattle.dc_sign.specs.declared.tally.TurnOutcome.{TurnOutcome}
use Rattle.dc_sign.specs.declared.tally.TurnOutcome.TheVariants as outcome
use Rattle.dc_sign.specs.declared.tally.ServeEnd.{ServeEnd}
use Rattle.dc_sign.specs.declared.tally.ServeWhy.{ServeWhy}
use Rattle.dc_sign.specs.declared.tally.ServeWhy.TheVariants.{Done, ClockFault}
use Rattle.dc_sign.specs.Info.{IsLocalInfo}
use Rattle.dc_sign.specs.Numbers.{numbers_of}
use Rattle.dc_sign.specs.Reply.{Answers, refusal_of}

-- what the devices tell where link and clock tell this
abbrev pub serving : Seen → Option (List LinkCall) → ℕ → Option (List ClockCall) → ℕ → Seen
serving others link link_faults clock clock_faults =
    record others { link = link; link_faults = link_faults; clock = clock; clock_faults = clock_faults }

-- ---- One turn

-- the receipt that was taken, the readings taken for it, the sends tried for it, and what came of it
pub record Turn : Type 0 where
  pub receipt : Receipt
  pub readings : List ℤ
  pub sends : List Tried
  pub outcome : TurnOutcome

-- a datagram came, the clock was read twice, and the one reply by the local information was sent to the sender
pub record IsAnswered (accounts : List Account) (turn : Turn) (of_reply : List ℕ → Answer) (put : Put) : Type 0 where
  pub from : Addr
  pub request : List ℕ
  pub reply : List ℕ
  pub t2 : ℤ
  pub t3 : ℤ
  pub info : ServerInfo
  pub got : turn.receipt ≡ receipt.Got from request
  pub read : turn.readings ≡ t2 ∷ t3 ∷ []
  pub local : IsLocalInfo t2 info
  pub answers : Answers accounts info request t2 t3 (of_reply reply)
  pub sent : turn.sends ≡ record { to = from; bytes = reply; put = put } ∷ []

-- a datagram came, the clock was read twice, and nothing was sent
pub record IsRefused (accounts : List Account) (turn : Turn) (reason : Refusal) : Type 0 where
  pub from : Addr
  pub request : List ℕ
  pub t2 : ℤ
  pub t3 : ℤ
  pub got : turn.receipt ≡ receipt.Got from request
  pub read : turn.readings ≡ t2 ∷ t3 ∷ []
  pub refused : refusal_of accounts request ≡ Some reason
  pub sent : turn.sends ≡ []

-- no datagram came, the clock was not read, and nothing was sent
pub record IsIdle (turn : Turn) (given : Receipt) : Type 0 where
  pub got : turn.receipt ≡ given
  pub read : turn.readings ≡ []
  pub sent : turn.sends ≡ []

-- what each outcome says of a turn
abbrev pub IsTurnOf : List Account → Turn → TurnOutcome → Type 0
IsTurnOf accounts turn (outcome.Signed put) = IsAnswered accounts turn answer.Signed put
IsTurnOf accounts turn (outcome.Plain put) = IsAnswered accounts turn answer.Plain put
IsTurnOf accounts turn (outcome.Refused reason) = IsRefused accounts turn reason
IsTurnOf accounts turn outcome.Quiet = IsIdle turn receipt.Quiet
IsTurnOf accounts turn outcome.Lost = IsIdle turn receipt.Failed

-- the turn is one of its own outcome
abbrev pub IsTurn : List Account → Turn → Type 0
IsTurn accounts turn = IsTurnOf accounts turn turn.outcome

-- ---- Turns, one after the other

-- the calls of the link in a turn: its receipt, and then its sends
abbrev pub link_calls : Turn → List LinkCall
link_calls turn = Receive turn.receipt ∷ map Send turn.sends

-- the calls of the link in turns, one turn after the other
abbrev pub link_calls_of : List Turn → List LinkCall
link_calls_of turns = flat_map link_calls turns

-- the readings of turns, one after the other
abbrev pub readings_of : List Turn → List ℤ
readings_of turns = flat_map (λ (turn : Turn). turn.readings) turns

-- the outcomes of turns, one each
abbrev pub outcomes_of : List Turn → List TurnOutcome
outcomes_of turns = map (λ (turn : Turn). turn.outcome) turns

-- These turns were taken, one after the other: each was received and answered before the next. Their calls and
-- readings are all that link and clock tell. No reading failed, and the link failed as often as its calls say.
pub record Takes (accounts : List Account) (turns : List Turn) (before now : Seen) : Type 0 where
  pub are_turns : All (IsTurn accounts) turns
  pub told : Grew before.link now.link (link_calls_of turns)
  pub read : GaveReadings before.clock now.clock (readings_of turns)
  pub link_failed : FailsTimes (failed_calls (link_calls_of turns)) before.link_faults now.link_faults
  pub no_clock_fault : now.clock_faults ≡ before.clock_faults

-- A datagram came, and the first or the second reading failed: nothing was sent for it.
pub record StopsUnread (before now : Seen) : Type 0 where
  pub from : Addr
  pub request : List ℕ
  pub given : List ℤ
  pub got : Grew before.link now.link (Receive (receipt.Got from request) ∷ [])
  pub no_link_fault : now.link_faults ≡ before.link_faults
  pub read : GaveReadings before.clock now.clock given
  pub fewer : length given < 2
  pub clock_failed : Fails before.clock_faults now.clock_faults

-- how a run ended, after so many turns of those asked for
abbrev pub ServeEndsBy : ServeWhy → ℕ → ℕ → Seen → Seen → Type 0
ServeEndsBy Done turns taken before now = (taken ≡ turns) × (now ≡ before)
ServeEndsBy ClockFault turns taken before now = (taken < turns) × StopsUnread before now

-- a run: its turns, and how it ended behind them; what is counted are the turns alone
pub record Serves (accounts : List Account) (turns : ℕ) (before now : Seen) (result : ServeEnd) : Type 0 where
  pub taken : List Turn
  pub behind : Seen
  pub takes : Takes accounts taken before behind
  pub ends : ServeEndsBy result.why turns (length taken) behind now
  pub numbers : result ≡ numbers_of (outcomes_of taken) result.why
