-- The state of the world: the member's history, the two clocks, all packets, and the corrections that were made.
use Rattle.std.specs.Prelude.{◌≡◌, ℕ, ◌+◌, ◌*◌, ◌-◌, List, [], ◌∷◌, All, Contains, Option, Some, None, ℤ, pos, ◌+ℤ◌, ◌-ℤ◌, ◌≤ℤ◌, nat_abs}
use Rattle.capture_fmt.specs.declared.event.Event.TheVariants.{Life}
use Rattle.time_machine.specs.Events.{History}
use Rattle.sntp_world.specs.declared.moment.Moment.{Moment}
use Rattle.sntp_world.specs.declared.packet.Packet.{Packet}
use Rattle.sntp_world.specs.Setting.{first_controller, first_reading}

-- A correction: the offset, how far the controller's clock was really ahead just before it, the delay of the reply, and
-- the unevenness of the clocks when its request was sent and when the reply came.
pub record Correction : Type 0 where
  pub offset : ℤ
  pub ahead : ℤ
  pub delay : ℤ
  pub sent : ℕ
  pub came : ℕ

-- what happened to the member, the clocks, all packets and all corrections, the last one first, and how many operations
-- were skipped
pub record State : Type 0 where
  pub history : History
  pub now : Moment
  pub packets : List Packet
  pub corrections : List Correction
  pub skipped : ℕ

-- at first the member has taken its Life
abbrev pub first_state : State
first_state = record {
  history = Life first_reading 0 ∷ [];
  now = record { member = first_reading; controller = first_controller; uneven = 0 };
  packets = [];
  corrections = [];
  skipped = 0;
}

-- How much the error of a correction is below its bound, both doubled: the delay, twice the unevenness between sending
-- and arrival, and one tick, less twice the error.
abbrev pub slack_of : Correction → ℤ
slack_of c = (c.delay +ℤ pos (2 * (c.came - c.sent) + 1)) -ℤ pos (2 * nat_abs (c.offset -ℤ c.ahead))

-- the least slack of the corrections, and none exactly where there was none
abbrev pub IsLeastSlack : List Correction → Option ℤ → Type 0
IsLeastSlack corrections None = corrections ≡ []
IsLeastSlack corrections (Some slack) =
    ((c : Correction) × Contains corrections c × (slack_of c ≡ slack))
    × All (λ c. slack ≤ℤ slack_of c) corrections
