-- What is counted of a history.
use Rattle.std.specs.Prelude.{◌≡◌, ℕ, Bool, true, false}
use Rattle.time_machine.specs.declared.conf.Conf.{Conf}
use Rattle.time_machine.specs.declared.outcome.Outcome.{Outcome}
use Rattle.time_machine.specs.declared.outcome.Outcome.TheVariants.{Started, Idle, Sent, Moved, Refused}
use Rattle.time_machine.specs.Entries.{count_of}
use Rattle.time_machine.specs.Events.{History}
use Rattle.time_machine.specs.Told.{has_sent, is_accepted}
use Rattle.time_machine.specs.Machine.{told}
use Rattle.replay_run.specs.declared.end.ReplayEnd.{ReplayEnd}

-- the arrival was refused
abbrev pub is_refused : Outcome → Bool
is_refused (Refused reason) = true
is_refused (Started mark) = false
is_refused Idle = false
is_refused (Sent to count bytes) = false
is_refused (Moved count offset how) = false

-- how many requests the events of a history send
abbrev pub sent_in : Conf → History → ℕ
sent_in conf history = count_of has_sent (told conf history)

-- how many corrections of the clock they make
abbrev pub moved_in : Conf → History → ℕ
moved_in conf history = count_of is_accepted (told conf history)

-- how many of the arrivals are refused
abbrev pub refused_in : Conf → History → ℕ
refused_in conf history = count_of (λ t. is_refused t.outcome) (told conf history)

-- the numbers are those of this history
pub record AreTotals (conf : Conf) (history : History) (result : ReplayEnd) : Type 0 where
  pub sent : result.sent ≡ sent_in conf history
  pub moved : result.moved ≡ moved_in conf history
  pub refused : result.refused ≡ refused_in conf history
