-- What a source in memory will do.
use Rattle.std.specs.Prelude.{ℕ, ◌==◌, min, if◌then◌else◌, List, ◌++◌, length, take, drop}
use Rattle.edge_traits.specs.declared.source.Take.{Take}
use Rattle.edge_traits.specs.declared.source.Take.TheVariants as read
use Rattle.base_specs.specs.Counts.{next_count}
use Rattle.edge_io.specs.Calls.{is_listed}
use Rattle.edge_io.specs.Pieces.{piece_len, sizes_behind}

-- The bytes that are left, and the sizes of the pieces in which they come: the first is what is left of the
-- next piece. Then the numbers of the calls that fail, the calls made, and those of them that failed.
pub record SourceScript : Type 0 where
  pub left : List ℕ
  pub sizes : List ℕ
  pub fails : List ℕ
  pub calls : ℕ
  pub faults : ℕ

-- A read that is not to fail gives the next piece, or as much of it as the buffer takes, and the end where nothing is
-- left.
abbrev pub read_answer : SourceScript → ℕ → Take
read_answer s room =
    if is_listed s.fails (next_count s.calls) then read.Failed
    else (if length s.left == 0 then read.End else read.Bytes (min room (piece_len s.sizes (length s.left))))

-- the bytes given stand at the front of the buffer, and the rest of it stays
abbrev pub buffer_after : Take → List ℕ → List ℕ → List ℕ
buffer_after (read.Bytes count) left buf = take count left ++ drop count buf
buffer_after read.End left buf = buf
buffer_after read.Failed left buf = buf

-- what an answer leaves
abbrev pub source_after : Take → SourceScript → SourceScript
source_after (read.Bytes count) s = record s {
  left = drop count s.left;
  sizes = sizes_behind count s.sizes;
  calls = next_count s.calls;
}
source_after read.End s = record s { calls = next_count s.calls }
source_after read.Failed s = record s { calls = next_count s.calls; faults = next_count s.faults }
