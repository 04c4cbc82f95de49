-- Hexadecimal digits.
use Rattle.std.proofs.Common.{◌≡◌, ◌+◌, ◌*◌, ◌<◌, ℕ, true, List, ◌++◌, length, length-append, IsTrue, refl, ap, ◌∙◌, arith}
use Rattle.std.specs.Char.{is_ascii}
use Rattle.std.specs.Str.{IsAscii}
use Rattle.std.specs.List.{list_all}
use Rattle.std.proofs.lemmas.Bool.Decides.{nat_tests}
use Rattle.std.proofs.lemmas.List.Sums.{AllPass-from_list_all}
use Rattle.std.proofs.lemmas.Str.Ascii.{IsAscii-from_all}
use Rattle.hex.specs.Hex.{encode_lower, lower_digits}
use Rattle.hex.proofs.HexLemmas.{IsAscii-encode_with, length-encode_with}

small : (b : ℕ) → is_ascii b ≡ true → b < 128
small b test = grind (arith, nat_tests)

-- each byte of a text passes the test
pub is_ascii_text : (bytes : List ℕ) → IsTrue (list_all is_ascii bytes) → IsAscii bytes
is_ascii_text bytes test =
    IsAscii-from_all bytes (λ k d lt. small _ (AllPass-from_list_all is_ascii bytes test k d lt))

-- digits are ASCII
pub digits_ascii : (bytes : List ℕ) → IsAscii (encode_lower bytes)
digits_ascii bytes = IsAscii-encode_with lower_digits bytes (is_ascii_text lower_digits refl)

-- a line with the digits of bytes behind it
pub length_with : (line new bytes : List ℕ) → new ≡ line ++ encode_lower bytes → length new ≡ length line + 2 * length bytes
length_with line new bytes is = ap length is ∙ length-append line (encode_lower bytes) ∙ ap (λ (n : ℕ). length line + n) (length-encode_with lower_digits bytes)
