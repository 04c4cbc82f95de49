-- An event of a history, with what came of it.
use Rattle.std.specs.Prelude.{ℕ, Bool, ◌||◌, Option, Some, None, is_some, ℤ, ◌+ℤ◌}
use Rattle.capture_fmt.specs.declared.event.Event.{Event}
use Rattle.time_machine.specs.declared.outcome.Request.{Request}
use Rattle.time_machine.specs.declared.outcome.How.{How}
use Rattle.time_machine.specs.declared.outcome.How.TheVariants.{Slew, Step}
use Rattle.time_machine.specs.declared.outcome.Outcome.{Outcome}
use Rattle.time_machine.specs.declared.outcome.Outcome.TheVariants.{Started, Idle, Sent, Moved, Refused}
use Rattle.time_machine.specs.Events.{reading_of, word_of, is_reset}

-- an event, whether it is a change of partner, the place in rank of the partner at it, and what it led to
pub record Told : Type 0 where
  pub event : Event
  pub changes : Bool
  pub partner : ℕ
  pub outcome : Outcome

-- the request that was sent, if one was: the count and the word are its timestamp
abbrev pub request_sent : Event → Outcome → Option Request
request_sent e (Sent to count bytes) = Some (record { count = count; word = word_of e; at = reading_of e })
request_sent e (Started mark) = None
request_sent e Idle = None
request_sent e (Moved count offset how) = None
request_sent e (Refused reason) = None

-- the request that an event has sent, if it has
abbrev pub request_of : Told → Option Request
request_of t = request_sent t.event t.outcome

-- the event has sent a request
abbrev pub has_sent : Told → Bool
has_sent t = is_some (request_of t)

-- the count of a request that was sent, or 0, which no request has
abbrev pub count_sent : Outcome → ℕ
count_sent (Sent to count bytes) = count
count_sent (Started mark) = 0
count_sent Idle = 0
count_sent (Moved count offset how) = 0
count_sent (Refused reason) = 0

-- the offset of an accepted arrival
abbrev pub offset_moved : Outcome → Option ℤ
offset_moved (Moved count offset how) = Some offset
offset_moved (Started mark) = None
offset_moved Idle = None
offset_moved (Sent to count bytes) = None
offset_moved (Refused reason) = None

-- the count of the request that an accepted arrival answers
abbrev pub count_moved : Outcome → Option ℕ
count_moved (Moved count offset how) = Some count
count_moved (Started mark) = None
count_moved Idle = None
count_moved (Sent to count bytes) = None
count_moved (Refused reason) = None

-- the event is an accepted arrival
abbrev pub is_accepted : Told → Bool
is_accepted t = is_some (offset_moved t.outcome)

-- the arrival was refused
abbrev pub IsRefused : Outcome → Type 0
IsRefused (Refused reason) = Unit {0}
IsRefused (Started mark) = ⊥
IsRefused Idle = ⊥
IsRefused (Sent to count bytes) = ⊥
IsRefused (Moved count offset how) = ⊥

-- a Life, a rediscovery, a change of partner, or an accepted arrival
abbrev pub is_turning_point : Told → Bool
is_turning_point t = is_reset t.event || t.changes || is_accepted t

-- the reading after a correction: a step moves the clock at once
abbrev pub base_moved : ℤ → ℤ → How → ℤ
base_moved now offset Step = now +ℤ offset
base_moved now offset Slew = now

-- the reading that an event leaves as the base, if it sends or is accepted
abbrev pub base_left : ℤ → Outcome → Option ℤ
base_left now (Sent to count bytes) = Some now
base_left now (Moved count offset how) = Some (base_moved now offset how)
base_left now (Started mark) = None
base_left now Idle = None
base_left now (Refused reason) = None
