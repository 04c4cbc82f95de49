-- What is counted of a run.
use Rattle.std.specs.Prelude.{◌-◌, ◌^◌, ◌==◌, ℕ, List, [], ◌∷◌, Bool, true, false, min}
use Rattle.std.specs.List.{count_by}
use Rattle.edge_traits.specs.Link.{is_failed_put}
use Rattle.dc_sign.specs.declared.outcome.Refusal.{Refusal}
use Rattle.dc_sign.specs.declared.outcome.Refusal.TheVariants.{BadLength, BadVersion, BadMode, UnknownAccount, NoOldKey}
use Rattle.dc_sign.specs.declared.tally.TurnOutcome.{TurnOutcome}
use Rattle.dc_sign.specs.declared.tally.TurnOutcome.TheVariants.{Signed, Plain, Refused, Quiet, Lost}
use Rattle.dc_sign.specs.declared.tally.ServeEnd.{ServeEnd}
use Rattle.dc_sign.specs.declared.tally.ServeWhy.{ServeWhy}

-- the place of a refusal in their order
abbrev pub place_of : Refusal → ℕ
place_of BadLength = 0
place_of BadVersion = 1
place_of BadMode = 2
place_of UnknownAccount = 3
place_of NoOldKey = 4

-- a signed reply, whether or not its send failed
abbrev pub is_signed : TurnOutcome → Bool
is_signed (Signed put) = true
is_signed (Plain put) = false
is_signed (Refused reason) = false
is_signed Quiet = false
is_signed Lost = false

-- a plain reply, whether or not its send failed
abbrev pub is_plain : TurnOutcome → Bool
is_plain (Signed put) = false
is_plain (Plain put) = true
is_plain (Refused reason) = false
is_plain Quiet = false
is_plain Lost = false

-- no reply, for this reason
abbrev pub is_refused : Refusal → TurnOutcome → Bool
is_refused reason (Signed put) = false
is_refused reason (Plain put) = false
is_refused reason (Refused given) = place_of given == place_of reason
is_refused reason Quiet = false
is_refused reason Lost = false

-- nothing came
abbrev pub is_quiet : TurnOutcome → Bool
is_quiet (Signed put) = false
is_quiet (Plain put) = false
is_quiet (Refused reason) = false
is_quiet Quiet = true
is_quiet Lost = false

-- a failed receive
abbrev pub is_lost : TurnOutcome → Bool
is_lost (Signed put) = false
is_lost (Plain put) = false
is_lost (Refused reason) = false
is_lost Quiet = false
is_lost Lost = true

-- a reply whose send failed
abbrev pub is_unsent : TurnOutcome → Bool
is_unsent (Signed put) = is_failed_put put
is_unsent (Plain put) = is_failed_put put
is_unsent (Refused reason) = false
is_unsent Quiet = false
is_unsent Lost = false

-- how many of them there are, as far as 32 bits go
abbrev pub number : (TurnOutcome → Bool) → List TurnOutcome → ℕ
number is outcomes = min (count_by is outcomes) (2 ^ 32 - 1)

-- all that is counted
abbrev pub numbers_of : List TurnOutcome → ServeWhy → ServeEnd
numbers_of outcomes why = record {
  signed = number is_signed outcomes;
  plain = number is_plain outcomes;
  refused =
      number (is_refused BadLength) outcomes
      ∷ number (is_refused BadVersion) outcomes
      ∷ number (is_refused BadMode) outcomes
      ∷ number (is_refused UnknownAccount) outcomes
      ∷ number (is_refused NoOldKey) outcomes
      ∷ [];
  quiet = number is_quiet outcomes;
  lost = number is_lost outcomes;
  unsent = number is_unsent outcomes;
  why = why;
}
