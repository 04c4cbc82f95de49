-- The summary of a run: three lines.
use Rattle.std.specs.Prelude.{◌≡◌, ℕ, Bool, true, false, List, [], ◌∷◌, ◌++◌, Option, Some, None, ℤ, codes, decimal}
use Rattle.std.specs.Fmt.{signed_decimal}
use Rattle.time_machine.specs.declared.outcome.Outcome.{Outcome}
use Rattle.time_machine.specs.declared.outcome.Outcome.TheVariants.{Started, Idle, Sent, Moved, Refused}
use Rattle.time_machine.specs.Entries.{count_of}
use Rattle.time_machine.specs.Machine.{told}
use Rattle.time_machine.specs.Told.{has_sent, is_accepted}
use Rattle.sntp_world.specs.Setting.{world_conf}
use Rattle.sntp_world.specs.State.{IsLeastSlack, State}

-- the arrival was refused
abbrev pub is_refused : Outcome → Bool
is_refused (Refused reason) = true
is_refused (Started mark) = false
is_refused Idle = false
is_refused (Sent to count bytes) = false
is_refused (Moved count offset how) = false

-- how many requests the member sent, corrections it made, and arrivals it refused
abbrev pub sent_in : State → ℕ
sent_in w = count_of has_sent (told world_conf w.history)

abbrev pub moved_in : State → ℕ
moved_in w = count_of is_accepted (told world_conf w.history)

abbrev pub refused_in : State → ℕ
refused_in w = count_of (λ t. is_refused t.outcome) (told world_conf w.history)

-- the line of the operations, of which so many were skipped
abbrev pub ops_line : (ops skipped : ℕ) → List ℕ
ops_line ops skipped = codes "ops=" ++ decimal ops ++ codes " skipped=" ++ decimal skipped ++ 10 ∷ []

-- the line of the member
abbrev pub member_line : (sent moved refused : ℕ) → List ℕ
member_line sent moved refused =
    codes "sent=" ++ decimal sent ++ codes " moved=" ++ decimal moved
    ++ codes " refused=" ++ decimal refused ++ 10 ∷ []

-- the line of the least slack, or of no correction
abbrev pub slack_line : Option ℤ → List ℕ
slack_line None = codes "slack=none" ++ 10 ∷ []
slack_line (Some slack) = codes "slack=" ++ signed_decimal slack ++ 10 ∷ []

-- the summary of so many operations, which led to this state
pub record IsSummary (ops : ℕ) (w : State) (text : List ℕ) : Type 0 where
  pub slack : Option ℤ
  pub least : IsLeastSlack w.corrections slack
  pub written : text ≡ ops_line ops w.skipped ++ member_line (sent_in w) (moved_in w) (refused_in w) ++ slack_line slack
