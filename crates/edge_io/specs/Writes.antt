-- What was written to a session in memory.
use Rattle.std.specs.Prelude.{ℕ, ◌+◌, Bool, List, [], ◌∷◌, ◌++◌, length, flat_map, sum_by, take, drop, nat_le}
use Rattle.edge_traits.specs.Wire.{Written}
use Rattle.edge_io.specs.declared.writes.Mark.{Mark}

-- the writes, and how many bytes all of them can have
pub record WritesScript : Type 0 where
  pub list : List Written
  pub room : ℕ

-- the writes that marks cut a list of bytes into: each is so many of the bytes behind those of the write before it
abbrev pub writes_at : List Mark → List ℕ → List Written
writes_at [] bytes = []
writes_at (mark ∷ later) bytes =
    record { behind = mark.behind; bytes = take mark.len bytes } ∷ writes_at later (drop mark.len bytes)

-- how many bytes marks speak of
abbrev pub marked_len : List Mark → ℕ
marked_len marks = sum_by (λ (mark : Mark). mark.len) marks

-- the bytes of all writes
abbrev pub bytes_of : List Written → List ℕ
bytes_of writes = flat_map (λ (w : Written). w.bytes) writes

-- whether there is room for so many more bytes
abbrev pub has_room : WritesScript → ℕ → Bool
has_room w count = nat_le (length (bytes_of w.list) + count) w.room

-- a piece was written behind so many bytes taken
abbrev pub with_piece : ℕ → List ℕ → WritesScript → WritesScript
with_piece behind piece w = record w { list = w.list ++ record { behind = behind; bytes = piece } ∷ [] }
