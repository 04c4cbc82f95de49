-- What one turn does with link and clock.
use Rattle.std.specs.Prelude.{◌≡◌, ℕ, List, length}
use Rattle.base_specs.specs.Counts.{FailsTimes}
use Rattle.base_specs.specs.Told.{Grew}
use Rattle.edge_traits.specs.Clock.{GaveReadings}
use Rattle.edge_traits.specs.Link.{failed_calls}
use Rattle.edge_seen.specs.Seen.{Seen}
use Rattle.key_book.specs.declared.account.Account.{Account}
use Rattle.dc_sign.specs.declared.tally.TurnOutcome.{TurnOutcome}
use Rattle.dc_sign.specs.declared.tally.ServeEnd.{ServeEnd}
use Rattle.dc_sign.specs.declared.tally.ServeWhy.TheVariants.{Done}
use Rattle.dc_sign.specs.Numbers.{numbers_of}
use Rattle.dc_sign.specs.Serving.{IsTurn, Takes, Turn, link_calls, outcomes_of}

-- this turn was taken
pub record TakesTurn (accounts : List Account) (turn : Turn) (before now : Seen) : Type 0 where
  pub is_turn : IsTurn accounts turn
  pub told : Grew before.link now.link (link_calls turn)
  pub read : GaveReadings before.clock now.clock turn.readings
  pub link_failed : FailsTimes (failed_calls (link_calls turn)) before.link_faults now.link_faults
  pub no_clock_fault : now.clock_faults ≡ before.clock_faults

-- a turn was taken, of which this came
pub record TakesOne (accounts : List Account) (before now : Seen) (outcome : TurnOutcome) : Type 0 where
  pub turn : Turn
  pub is : turn.outcome ≡ outcome
  pub takes : TakesTurn accounts turn before now

-- so many turns were taken, and they were counted
pub record HasServed (accounts : List Account) (count : ℕ) (before now : Seen) (numbers : ServeEnd) : Type 0 where
  pub taken : List Turn
  pub size : length taken ≡ count
  pub takes : Takes accounts taken before now
  pub counted : numbers ≡ numbers_of (outcomes_of taken) Done
