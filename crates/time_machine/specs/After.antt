-- What one event does to the words that stand at the end of a history. This is what a member does: no contract that
-- its callers see cites it.
use Rattle.std.specs.Prelude.{ℕ, ◌+◌, max, Bool, ◌||◌, [], ◌∷◌, ◌++◌, Some, None, ℤ, if◌then◌else◌}
use Rattle.capture_fmt.specs.declared.event.Event.{Event}
use Rattle.capture_fmt.specs.declared.event.Event.TheVariants.{Life, Tick, Resync, Arrive}
use Rattle.time_machine.specs.declared.outcome.How.{How}
use Rattle.time_machine.specs.declared.outcome.Outcome.{Outcome}
use Rattle.time_machine.specs.declared.outcome.Outcome.TheVariants.{Started, Idle, Sent, Moved, Refused}
use Rattle.time_machine.specs.declared.conf.Conf.{Conf}
use Rattle.time_machine.specs.Events.{is_reset}
use Rattle.time_machine.specs.Told.{base_moved}
use Rattle.time_machine.specs.Words.{poll_set, Words}
use Rattle.time_machine.specs.Verdict.{present_partner, verdict_at}
use Rattle.time_machine.specs.Machine.{is_due, is_change, partner_as, count_at, poll_field}

-- a Life keeps nothing but the greatest count
abbrev pub after_life : Conf → Words → ℕ → Words
after_life conf w mark =
    record {
      mark = Some mark;
      sent = 0;
      greatest = w.greatest;
      base = None;
      poll = conf.limits.min_poll;
      changes = 0;
      open_requests = [];
      source = None;
    }

-- a turning point closes all requests and sets the poll exponent to its least value
abbrev pub after_turn : Conf → Words → Bool → Words
after_turn conf w turns =
    record w { poll = poll_field conf w turns; open_requests = if turns then [] else w.open_requests }

-- a request is sent, which is open from then on
abbrev pub after_send : Conf → Words → (resets changes : Bool) → ℤ → ℕ → Words
after_send conf w resets changes now word =
    record {
      mark = w.mark;
      sent = w.sent + 1;
      greatest = max (count_at w) w.greatest;
      base = Some now;
      poll = poll_field conf w (resets || changes);
      changes = partner_as conf w resets changes;
      open_requests = (if resets || changes then [] else w.open_requests)
          ++ record { count = count_at w; word = word; at = now } ∷ [];
      source = w.source;
    }

-- a reply is accepted
abbrev pub after_move : Conf → Words → ℤ → ℤ → How → Words
after_move conf w now offset how =
    record {
      mark = w.mark;
      sent = w.sent;
      greatest = w.greatest;
      base = Some (base_moved now offset how);
      poll = poll_set conf.limits (Some offset) w.poll;
      changes = w.changes;
      open_requests = [];
      source = Some (present_partner conf w);
    }

-- a refused arrival changes nothing
abbrev pub after_arrival : Conf → Words → ℤ → Outcome → Words
after_arrival conf w now (Moved count offset how) = after_move conf w now offset how
after_arrival conf w now (Started mark) = w
after_arrival conf w now Idle = w
after_arrival conf w now (Sent to count bytes) = w
after_arrival conf w now (Refused reason) = w

-- the words after an event
abbrev pub after : Conf → Words → Event → Words
after conf w (Life now mark) = after_life conf w mark
after conf w (Tick now word) =
    if is_due w now then after_send conf w (is_reset (Tick now word)) (is_change w (Tick now word)) now word else w
after conf w (Resync now word flags) =
    after_send conf w (is_reset (Resync now word flags)) (is_change w (Resync now word flags)) now word
after conf w (Arrive now from bytes) = after_arrival conf w now (verdict_at conf w now from bytes)
