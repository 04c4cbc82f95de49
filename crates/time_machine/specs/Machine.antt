-- The time machine: what each event of a history leads to.
use Rattle.std.specs.Prelude.{ℕ, ◌+◌, ◌*◌, ◌%◌, ◌^◌, Bool, true, false, not, ◌&&◌, ◌||◌, ◌==◌, List, [], ◌∷◌, ◌++◌, length, Option, unwrap_or, ℤ, pos, ◌+ℤ◌, int_lt, int_le, if◌then◌else◌}
use Rattle.std.specs.Option.{option_map_or}
use Rattle.edge_traits.specs.declared.datagram.Addr.{Addr}
use Rattle.edge_traits.specs.declared.clock.Move.{Move}
use Rattle.edge_traits.specs.declared.clock.Move.TheVariants as clock
use Rattle.ntp_wire.specs.declared.stamp.Stamp.{Stamp}
use Rattle.ms_auth.specs.Request.{request_bytes}
use Rattle.capture_fmt.specs.declared.event.Event.{Event}
use Rattle.capture_fmt.specs.declared.event.Event.TheVariants.{Life, Tick, Resync, Arrive}
use Rattle.time_machine.specs.declared.outcome.How.{How}
use Rattle.time_machine.specs.declared.outcome.How.TheVariants.{Slew, Step}
use Rattle.time_machine.specs.declared.outcome.Outcome.{Outcome}
use Rattle.time_machine.specs.declared.outcome.Outcome.TheVariants.{Started, Idle, Sent, Moved, Refused}
use Rattle.time_machine.specs.declared.conf.Conf.{Conf}
use Rattle.time_machine.specs.Events.{History, is_rediscovery, is_reset}
use Rattle.time_machine.specs.Told.{Told}
use Rattle.time_machine.specs.Words.{Words, words}
use Rattle.time_machine.specs.Verdict.{address_at, verdict_at}
use Rattle.time_machine.specs.Entries.{gather}

-- ---- Which events send, and to whom

-- a Tick sends: nothing was sent in this life, or its reading is before the base, or at least 2^poll seconds past it
abbrev pub is_due : Words → ℤ → Bool
is_due w now =
    w.sent == 0
    || option_map_or (λ b. int_lt now b || int_le (b +ℤ pos (2 ^ w.poll * 10000000)) now) w.base false

-- an event sends a request: a Tick that is due, and each Resync
abbrev pub sends : Words → Event → Bool
sends w (Life now mark) = false
sends w (Tick now word) = is_due w now
sends w (Resync now word flags) = true
sends w (Arrive now from bytes) = false

-- a change of partner: an event that sends, isn't a rediscovery, and finds eight requests open
abbrev pub is_change : Words → Event → Bool
is_change w e = sends w e && not (is_rediscovery e) && length w.open_requests == 8

-- the partner at an event, by whether it is a Life or a rediscovery, and whether it is a change
abbrev pub partner_as : Conf → Words → (resets changes : Bool) → ℕ
partner_as conf w resets changes =
    if resets then 0 else (w.changes + (if changes then 1 else 0)) % length conf.partners

-- the place in rank of the partner at an event
abbrev pub partner_at : Conf → Words → Event → ℕ
partner_at conf w e = partner_as conf w (is_reset e) (is_change w e)

-- ---- The request

-- the count of the next request: one more than the mark and all that was sent since
abbrev pub count_at : Words → ℕ
count_at w = unwrap_or w.mark 0 + w.sent + 1

-- its timestamp
abbrev pub stamp_at : Words → ℕ → Stamp
stamp_at w word = record { seconds = count_at w; fraction = word }

-- its poll field: the least exponent at a turning point, and else the present one
abbrev pub poll_field : Conf → Words → Bool → ℕ
poll_field conf w turns = if turns then conf.limits.min_poll else w.poll

-- the request that an event sends, by whether it is a Life or a rediscovery, and whether it is a change
abbrev pub request_as : Conf → Words → (resets changes : Bool) → ℕ → Outcome
request_as conf w resets changes word =
    Sent (address_at conf (partner_as conf w resets changes)) (count_at w)
    (request_bytes conf.kind conf.account.rid (poll_field conf w (resets || changes)) (stamp_at w word))

-- the request that an event sends, with this random word
abbrev pub request_at : Conf → Words → Event → ℕ → Outcome
request_at conf w e word = request_as conf w (is_reset e) (is_change w e) word

-- ---- What an event leads to

-- what an event leads to, by the words at the end of the history before it
abbrev pub outcome_by : Conf → Words → Event → Outcome
outcome_by conf w (Life now mark) = Started mark
outcome_by conf w (Tick now word) = if is_due w now then request_at conf w (Tick now word) word else Idle
outcome_by conf w (Resync now word flags) = request_at conf w (Resync now word flags) word
outcome_by conf w (Arrive now from bytes) = verdict_at conf w now from bytes

-- the event with what came of it
abbrev pub told_by : Conf → Words → Event → Told
told_by conf w e =
    record { event = e; changes = is_change w e; partner = partner_at conf w e; outcome = outcome_by conf w e }

-- each event of a history with what came of it, the last one first
unfoldable pub told : Conf → History → List Told
told conf [] = []
told conf (e ∷ history) = told_by conf (words conf (told conf history)) e ∷ told conf history

-- what an event leads to after a history
unfoldable pub outcome_at : Conf → History → Event → Outcome
outcome_at conf history e = outcome_by conf (words conf (told conf history)) e

-- what the events of a history led to, in their order
unfoldable pub outcomes : Conf → History → List Outcome
outcomes conf [] = []
outcomes conf (e ∷ history) = outcomes conf history ++ outcome_at conf history e ∷ []

-- ---- What a history sends and moves

-- a datagram that is sent, and where to
pub record Posted : Type 0 where
  pub to : Addr
  pub bytes : List ℕ

-- the request that is sent, if there is one
abbrev pub posted_by : Outcome → List Posted
posted_by (Sent to count bytes) = record { to = to; bytes = bytes } ∷ []
posted_by (Started mark) = []
posted_by Idle = []
posted_by (Moved count offset how) = []
posted_by (Refused reason) = []

-- the correction, in the words of a clock
abbrev pub move_by : How → ℤ → Move
move_by Slew offset = clock.Slew offset
move_by Step offset = clock.Step offset

-- the correction of the clock that is made, if there is one
abbrev pub moves_by : Outcome → List Move
moves_by (Moved count offset how) = move_by how offset ∷ []
moves_by (Started mark) = []
moves_by Idle = []
moves_by (Sent to count bytes) = []
moves_by (Refused reason) = []

-- the requests that a history sends, in the order of its events
unfoldable pub requests_of : Conf → History → List Posted
requests_of conf history = gather (λ t. posted_by t.outcome) (told conf history)

-- the corrections of the clock that a history makes, in the order of its events
unfoldable pub moves_of : Conf → History → List Move
moves_of conf history = gather (λ t. moves_by t.outcome) (told conf history)

-- the place in rank of the partner at the last accepted arrival after the last Life, if there was one
unfoldable pub source_of : Conf → History → Option ℕ
source_of conf history = (words conf (told conf history)).source
