-- What a session in memory will do.
use Rattle.std.specs.Prelude.{◌≡◌, ◌≤◌, ℕ, ◌+◌, ◌==◌, min, Bool, true, if◌then◌else◌, List, [], ◌++◌, map, length, take, drop, nat_lt}
use Rattle.std.specs.List.{flat_map}
use Rattle.edge_traits.specs.declared.sink.Put.{Put}
use Rattle.edge_traits.specs.declared.sink.Put.TheVariants as write
use Rattle.edge_traits.specs.declared.source.Take.{Take}
use Rattle.edge_traits.specs.declared.source.Take.TheVariants as read
use Rattle.edge_traits.specs.Wire.{fresh, with_write, written_to, FailsToTake, SessionTold, TakesOf}
use Rattle.edge_io.specs.Pieces.{piece_len, sizes_behind}

-- What a session tells, the sizes of the pieces in which the bytes left of it come, and how many bytes can be
-- written to it.
pub record SessionScript : Type 0 where
  pub told : SessionTold
  pub sizes : List ℕ
  pub room : ℕ

-- a session that waits, of these pieces
abbrev pub session_of : ℕ → List (List ℕ) → SessionScript
session_of room pieces = record {
  told = fresh (flat_map (λ piece. piece) pieces);
  sizes = map length pieces;
  room = room;
}

-- nothing was done with a session yet
abbrev pub IsFresh : SessionScript → Type 0
IsFresh session = session.told ≡ fresh session.told.left

-- A read that is not to fail gives the next piece, or as much of it as the buffer takes, and the end where nothing is
-- left.
abbrev pub session_answer : SessionScript → ℕ → Take
session_answer s room =
    if length s.told.left == 0 then read.End else read.Bytes (min room (piece_len s.sizes (length s.told.left)))

-- what a read leaves of a session
abbrev pub session_read : Take → SessionScript → SessionScript
session_read (read.Bytes count) s = record s {
  told = record s.told { taken = s.told.taken ++ take count s.told.left; left = drop count s.told.left };
  sizes = sizes_behind count s.sizes;
}
session_read read.End s = s
session_read read.Failed s = record s { told = record s.told { read_failed = true } }

-- so many more bytes can't be written: there is no room for them
abbrev pub is_too_long : SessionScript → ℕ → Bool
is_too_long s count = nat_lt s.room (length (written_to s.told) + count)

-- what a write leaves of a session: all of the piece, or none of it and the mark
abbrev pub session_written : Put → List ℕ → SessionScript → SessionScript
session_written write.Done piece s = record s { told = with_write piece s.told }
session_written write.Failed piece s = record s { told = record s.told { write_failed = true } }

-- what a read does to what a session tells
abbrev pub ReadsSession : Take → List ℕ → SessionTold → SessionTold → Type 0
ReadsSession (read.Bytes count) buf before now =
    (1 ≤ count) × (count ≤ length buf) × TakesOf (take count buf) before now
ReadsSession read.End buf before now = (now ≡ before) × (before.left ≡ [])
ReadsSession read.Failed buf before now = FailsToTake before now
