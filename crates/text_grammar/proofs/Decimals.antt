-- What stands in the one spelling of a number.
use Rattle.std.proofs.Common.{◌≡◌, ◌<◌, ◌^◌, ℕ, zero, suc, List, [], ◌∷◌, decimal, Result, Ok, Err, IfOk, IfSome, refl, sym, ◌∙◌, ap, arith}
use Rattle.std.specs.Str.{IsUtf8}
use Rattle.std.specs.Str.Parse.{AllDigits, ParsesUnsigned, digits_value}
use Rattle.std.proofs.lemmas.Str.{IsUtf8-from_ascii}
use Rattle.std.proofs.lemmas.Str.Parse.{numerals_by_value, tells_digits, parse_plain}
use Rattle.std.specs.Result.{result_ok}
use Rattle.std.specs.Char.{digit_value}
use Rattle.std.proofs.lemmas.Fmt.{decimal_is_IsNumeral, decimal_digit, decimal_nonempty, first_decimal, decimal-digits_value, IsAscii-decimal}
use Rattle.text_grammar.specs.Bytes.{HasNo}
use Rattle.text_grammar.specs.Decimal.{BeginsAsDecimal}

-- digits have no byte that is none
digits_have_no : (byte : ℕ) → (digit_value byte < 10 → ⊥) → (ds : List ℕ) → AllDigits 10 ds → HasNo byte ds
digits_have_no byte other [] all i lt = absurd (omega arith)
digits_have_no byte other (d ∷ ds) all zero lt = λ is. let small : digit_value byte < 10 = rw (sym is) all.0 in other small
digits_have_no byte other (d ∷ ds) all (suc i) lt = digits_have_no byte other ds all.1 i (omega arith)

-- a number has no byte in it that is no digit
pub decimal_has_no : (byte n : ℕ) → (digit_value byte < 10 → ⊥) → n < 2 ^ 64 → HasNo byte (decimal n)
decimal_has_no byte n other fits = digits_have_no byte other (decimal n) (decimal_is_IsNumeral n fits).0.1

-- a number has no colon in it
pub no_colon : (n : ℕ) → n < 2 ^ 64 → HasNo 58 (decimal n)
no_colon n fits = decimal_has_no 58 n (λ h. absurd (omega (arith, h))) fits

-- a number has no blank in it
pub no_blank : (n : ℕ) → n < 2 ^ 64 → HasNo 32 (decimal n)
no_blank n fits = decimal_has_no 32 n (λ h. absurd (omega (arith, h))) fits

-- a number has no dot in it
pub no_dot : (n : ℕ) → n < 2 ^ 64 → HasNo 46 (decimal n)
no_dot n fits = decimal_has_no 46 n (λ h. absurd (omega (arith, h))) fits

-- the one spelling of a number begins as it may
pub decimal_begins : (n : ℕ) → n < 2 ^ 64 → BeginsAsDecimal (decimal n)
decimal_begins zero fits =
    let one : decimal 0 ≡ 48 ∷ [] = decimal_digit 0 (omega arith) in
    rw one (record { some = omega arith; no_plus = omega arith; no_zero = λ h. refl })
decimal_begins (suc n) fits =
    let first = first_decimal (suc n) (omega arith) fits in
    record { some = decimal_nonempty (suc n) fits; no_plus = λ h. omega (arith, first, h); no_zero = λ h. absurd (omega (arith, first, h)) }

-- the spelling of a number is UTF-8
pub IsUtf8-decimal : (n : ℕ) → n < 2 ^ 64 → IsUtf8 (decimal n)
IsUtf8-decimal n fits = IsUtf8-from_ascii (decimal n) (IsAscii-decimal n fits)

-- what was parsed of a text that begins so is what the text spells
pub plain_decimal : {E : Type 0} (text : List ℕ) (r : Result ℕ E) → BeginsAsDecimal text → ParsesUnsigned 32 10 text r → IfOk r (λ n. text ≡ decimal n)
plain_decimal {E} text (Err e) begins parses = tt
plain_decimal {E} text (Ok n) begins parses =
    let own = numerals_by_value (AllDigits 10) tells_digits in
    let p = parse_plain own {E = E} 32 text (Ok n) parses begins.no_plus in
    let small : digits_value 10 text < 2 ^ 64 = omega (arith, p.0.2) in
    sym (ap decimal p.1 ∙ decimal-digits_value own text p.0.0 begins.some begins.no_zero small)

-- what holds of the value in an `Ok` holds of it in the `Some`
pub some_of_ok : {T E : Type 0} (r : Result T E) (P : T → Type 0) → IfOk r P → IfSome (result_ok r) P
some_of_ok (Ok x) P holds = holds
some_of_ok (Err e) P holds = tt
