-- Texts that are printed as one line.
use Rattle.std.specs.Prelude.{◌≤◌, ℕ, List, length, IsAscii}

-- the most bytes of a line, its line feed among them
abbrev pub line_limit : ℕ
line_limit = 96

-- a list that a line can hold
pub record FitsLine (bytes : List ℕ) : Type 0 where
  pub within : length bytes ≤ line_limit
  pub ascii : IsAscii bytes
