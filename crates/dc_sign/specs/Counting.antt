-- What one outcome more makes of the numbers of a run.
use Rattle.std.specs.Prelude.{◌+◌, ◌-◌, ◌^◌, ℕ, List, min, set, slice_index}
use Rattle.edge_traits.specs.declared.sink.Put.{Put}
use Rattle.edge_traits.specs.declared.sink.Put.TheVariants as write
use Rattle.dc_sign.specs.declared.tally.TurnOutcome.{TurnOutcome}
use Rattle.dc_sign.specs.declared.tally.TurnOutcome.TheVariants.{Signed, Plain, Refused, Quiet, Lost}
use Rattle.dc_sign.specs.declared.tally.ServeEnd.{ServeEnd}
use Rattle.dc_sign.specs.Numbers.{place_of}

-- one more, as far as 32 bits go
abbrev pub one_more : ℕ → ℕ
one_more n = min (n + 1) (2 ^ 32 - 1)

-- one more of the numbers at a place
abbrev pub one_more_at : ℕ → List ℕ → List ℕ
one_more_at place numbers = set numbers place (one_more (slice_index numbers place))

-- the numbers after a send that was answered so
abbrev pub with_send : Put → ServeEnd → ServeEnd
with_send write.Done e = e
with_send write.Failed e = record e { unsent = one_more e.unsent }

-- the numbers after one more receipt, of which this came
abbrev pub counted : TurnOutcome → ServeEnd → ServeEnd
counted (Signed put) e = with_send put (record e { signed = one_more e.signed })
counted (Plain put) e = with_send put (record e { plain = one_more e.plain })
counted (Refused reason) e = record e { refused = one_more_at (place_of reason) e.refused }
counted Quiet e = record e { quiet = one_more e.quiet }
counted Lost e = record e { lost = one_more e.lost }
