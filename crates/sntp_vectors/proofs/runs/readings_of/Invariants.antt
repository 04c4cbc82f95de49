use Rattle.std.specs.Prelude.{All}
use Rattle.base_specs.specs.Time.{IsReading}
use Rattle.sntp_vectors.proofs.runs.readings_of.Given as goal

abbrev pub invariant-loop : goal.invariant-loop
invariant-loop l = All IsReading l.readings.items
