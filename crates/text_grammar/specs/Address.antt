-- Addresses of the Internet Protocol, and ports.
use Rattle.std.specs.Prelude.{◌≡◌, ◌<◌, ◌≤◌, ◌+◌, ◌*◌, ◌^◌, ◌++◌, ◌∷◌, ℕ, List, decimal}

-- four numbers of 0 to 255 in decimal, joined by dots, the highest byte of the address first
pub record SpellsAddress (ip : ℕ) (text : List ℕ) : Type 0 where
  pub a : ℕ
  pub b : ℕ
  pub c : ℕ
  pub d : ℕ
  pub a_fits : a < 256
  pub b_fits : b < 256
  pub c_fits : c < 256
  pub d_fits : d < 256
  pub written : text ≡ decimal a ++ 46 ∷ (decimal b ++ 46 ∷ (decimal c ++ 46 ∷ decimal d))
  pub number : ip ≡ a * 2 ^ 24 + b * 2 ^ 16 + c * 2 ^ 8 + d

-- a port of 1 to 65,535 in decimal
pub record SpellsPort (port : ℕ) (text : List ℕ) : Type 0 where
  pub some : 1 ≤ port
  pub fits : port < 2 ^ 16
  pub written : text ≡ decimal port

-- an address and a port, with a colon between them
pub record SpellsSocketAddress (ip port : ℕ) (text : List ℕ) : Type 0 where
  pub address : List ℕ
  pub digits : List ℕ
  pub written : text ≡ address ++ 58 ∷ digits
  pub address_spelled : SpellsAddress ip address
  pub port_spelled : SpellsPort port digits
