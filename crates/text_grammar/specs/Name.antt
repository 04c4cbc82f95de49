-- Names of computers, which are compared byte by byte.
use Rattle.std.specs.Prelude.{◌≡◌, ◌≤◌, ◌==◌, ◌||◌, ℕ, Bool, true, List, length, All}
use Rattle.std.specs.Char.{is_ascii_alphanumeric}

-- a letter or a digit, `-` or `.`
abbrev pub is_name_byte : ℕ → Bool
is_name_byte byte = is_ascii_alphanumeric byte || (byte == 45) || (byte == 46)

-- a name has 1 to 63 of these bytes
pub record IsName (name : List ℕ) : Type 0 where
  pub some : 1 ≤ length name
  pub few : length name ≤ 63
  pub bytes : All (λ byte. is_name_byte byte ≡ true) name

-- a name is written as it is
pub record SpellsName (name text : List ℕ) : Type 0 where
  pub fits : IsName name
  pub written : text ≡ name
