-- How the one spelling of a number begins.
use Rattle.std.specs.Prelude.{◌≡◌, ◌≢◌, ℕ, List, length, ◌<◌, slice_index}

-- these bytes begin with no plus, and with a zero only where it is all there is
pub record BeginsAsDecimal (text : List ℕ) : Type 0 where
  pub some : 0 < length text
  pub no_plus : slice_index text 0 ≢ 43
  pub no_zero : slice_index text 0 ≡ 48 → length text ≡ 1
