-- What a sink in memory will do.
use Rattle.std.specs.Prelude.{ℕ, ◌+◌, ◌||◌, if◌then◌else◌, List, ◌++◌, length, nat_lt}
use Rattle.edge_traits.specs.declared.sink.Put.{Put}
use Rattle.edge_traits.specs.declared.sink.Put.TheVariants as write
use Rattle.base_specs.specs.Counts.{next_count}
use Rattle.edge_io.specs.Calls.{is_listed}

-- The bytes that were written, and how many there is room for. Then the numbers of the calls that fail, the
-- calls made, and those of them that failed.
pub record SinkScript : Type 0 where
  pub written : List ℕ
  pub room : ℕ
  pub fails : List ℕ
  pub calls : ℕ
  pub faults : ℕ

-- A write fails where it is listed, and where so many bytes are more than there is room for.
abbrev pub write_answer : SinkScript → ℕ → Put
write_answer s count =
    if is_listed s.fails (next_count s.calls) || nat_lt s.room (length s.written + count)
    then write.Failed else write.Done

-- what an answer leaves: all of the piece, or none of it
abbrev pub sink_after : Put → List ℕ → SinkScript → SinkScript
sink_after write.Done piece s = record s { written = s.written ++ piece; calls = next_count s.calls }
sink_after write.Failed piece s = record s { calls = next_count s.calls; faults = next_count s.faults }
