-- What stands at the end of a history. Each word looks back over all that was before, the last event first, and knows
-- no other word.
use Rattle.std.specs.Prelude.{◌≡◌, ℕ, max, List, [], ◌∷◌, ◌++◌, Option, Some, None, ℤ, if◌then◌else◌}
use Rattle.phase_rule.specs.declared.limits.Limits.{Limits}
use Rattle.phase_rule.specs.Rule.{next_poll}
use Rattle.time_machine.specs.declared.outcome.Request.{Request}
use Rattle.time_machine.specs.declared.conf.Conf.{Conf}
use Rattle.time_machine.specs.Events.{reading_of, is_life, is_reset, mark_of}
use Rattle.time_machine.specs.Told.{Told, request_of, has_sent, count_sent, offset_moved, is_accepted, is_turning_point, base_left}
use Rattle.time_machine.specs.Entries.{after_last, from_last, count_of, last_of}

-- what came after the last Life
abbrev pub life_at : List Told → List Told
life_at before = after_last (λ t. is_life t.event) before

-- what came from the last turning point on, itself included
abbrev pub since : List Told → List Told
since before = from_last is_turning_point before

-- what is there, as a list
abbrev pub some_of : {A : Type 0} → Option A → List A
some_of (Some x) = x ∷ []
some_of None = []

-- the requests that were sent, in the order of sending
abbrev pub all_sent : List Told → List Request
all_sent [] = []
all_sent (t ∷ before) = all_sent before ++ some_of (request_of t)

-- an open request, to which a reply may be accepted: an event from the last turning point on has sent it
pub record IsOpen (before : List Told) (r : Request) : Type 0 where
  pub newer : List Told
  pub event : Told
  pub older : List Told
  pub place : since before ≡ newer ++ event ∷ older
  pub sent : request_of event ≡ Some r

-- the greatest count that was ever sent
abbrev pub greatest_count : List Told → ℕ
greatest_count [] = 0
greatest_count (t ∷ before) = max (count_sent t.outcome) (greatest_count before)

-- the poll exponent that a turning point sets, from the one before it: after an accepted arrival by its offset, and
-- else the least one
abbrev pub poll_set : Limits → Option ℤ → ℕ → ℕ
poll_set limits (Some offset) poll = next_poll limits poll offset
poll_set limits None poll = limits.min_poll

-- the poll exponent, which the last turning point has set
abbrev pub poll_at : Limits → List Told → ℕ
poll_at limits [] = limits.min_poll
poll_at limits (t ∷ before) =
    if is_turning_point t then poll_set limits (offset_moved t.outcome) (poll_at limits before)
    else poll_at limits before

-- what stands at the end of a history: all of it that decides on the next event
pub record Words : Type 0 where
  -- the mark of the last Life
  pub mark : Option ℕ
  -- how many requests were sent since that Life
  pub sent : ℕ
  -- the greatest count that was ever sent
  pub greatest : ℕ
  -- the base, from which the polling interval counts: the reading that the last event of this life has left which
  -- sent or was accepted
  pub base : Option ℤ
  pub poll : ℕ
  -- how many changes of partner there were after the last Life or rediscovery
  pub changes : ℕ
  -- the open requests, in the order of sending
  pub open_requests : List Request
  -- the place in rank of the partner at the last accepted arrival of this life
  pub source : Option ℕ

-- the words at the end of what came so far
unfoldable pub words : Conf → List Told → Words
words conf before =
    record {
      mark = last_of (λ t. mark_of t.event) before;
      sent = count_of has_sent (life_at before);
      greatest = greatest_count before;
      base = last_of (λ t. base_left (reading_of t.event) t.outcome) (life_at before);
      poll = poll_at conf.limits before;
      changes = count_of (λ t. t.changes) (after_last (λ t. is_reset t.event) before);
      open_requests = all_sent (since before);
      source = last_of (λ t. if is_accepted t then Some t.partner else None) (life_at before);
    }
