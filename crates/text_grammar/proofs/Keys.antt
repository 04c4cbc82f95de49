-- What stands in the digits of a key.
use Rattle.std.proofs.Common.{◌≡◌, ℕ, false, List, Ok, refl, sym, ◌∙◌, ap}
use Rattle.hex.specs.Hex.{decode_of, is_hex_digit}
use Rattle.hex.proofs.HexLemmas.{decode_of-ok}
use Rattle.text_grammar.specs.Bytes.{HasNo}

-- the digits of a key have no byte in them that is no digit
pub key_has_no : (byte : ℕ) (text key : List ℕ) → is_hex_digit byte ≡ false → decode_of text ≡ Ok key → HasNo byte text
key_has_no byte text key other decodes i lt is =
    let digit = (decode_of-ok text key decodes).1 i 0 lt in
    cc (sym other ∙ ap is_hex_digit (sym is) ∙ digit)

-- no colon
pub key_no_colon : (text key : List ℕ) → decode_of text ≡ Ok key → HasNo 58 text
key_no_colon text key = key_has_no 58 text key refl

-- no blank
pub key_no_blank : (text key : List ℕ) → decode_of text ≡ Ok key → HasNo 32 text
key_no_blank text key = key_has_no 32 text key refl
