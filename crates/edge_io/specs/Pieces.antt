-- Bytes that are given in pieces.
use Rattle.std.specs.Prelude.{ℕ, ◌-◌, min, if◌then◌else◌, List, [], ◌∷◌, ◌++◌, length, take, drop, nat_le}

-- The bytes that were given, and those left, and the sizes of the pieces in which these come: the first is what is
-- left of the next piece.
pub record InPieces : Type 0 where
  pub given : List ℕ
  pub left : List ℕ
  pub sizes : List ℕ

-- how many bytes the next piece has, where so many are left: behind the last size all of them
abbrev pub piece_len : List ℕ → ℕ → ℕ
piece_len [] left = left
piece_len (size ∷ sizes) left = min size left

-- what is left of the sizes behind so many bytes of the next piece
abbrev pub sizes_behind : ℕ → List ℕ → List ℕ
sizes_behind count [] = []
sizes_behind count (size ∷ sizes) = if nat_le size count then sizes else (size - count) ∷ sizes

-- the next piece is given, or as much of it as there is room for
abbrev pub given_len : InPieces → ℕ → ℕ
given_len p room = min room (piece_len p.sizes (length p.left))

-- so many bytes of the next piece were given
abbrev pub pieces_after : ℕ → InPieces → InPieces
pieces_after count p = record {
  given = p.given ++ take count p.left;
  left = drop count p.left;
  sizes = sizes_behind count p.sizes;
}
