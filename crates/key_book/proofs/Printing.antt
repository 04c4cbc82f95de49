-- What is printed of accounts says them again.
use Rattle.std.proofs.Common.{◌≡◌, ◌<◌, ℕ, true, false, List, [], ◌∷◌, ◌++◌, decimal, map, Option, Some, None, refl, ◌∙◌, ap, arith, append_assoc, append-nil}
use Rattle.std.specs.Prelude.{codes, IfSome, nat_le}
use Rattle.std.specs.Char.{digit_value}
use Rattle.std.specs.List.{AllZip, AllByRecursion, filter}
use Rattle.std.specs.Str.Lines.{lines}
use Rattle.std.proofs.lemmas.Bool.{leb-true}
use Rattle.std.proofs.lemmas.List.Elements.{recursion_from_All}
use Rattle.hex.specs.Hex.{encode_lower, is_hex_digit}
use Rattle.hex.proofs.HexLemmas.{decode_of-encode_lower}
use Rattle.text_grammar.specs.Bytes.{HasNo}
use Rattle.text_grammar.specs.Lines.{Say}
use Rattle.text_grammar.proofs.Cuts.{has_no_append, has_no_cons, has_no_nil}
use Rattle.text_grammar.proofs.Decimals.{decimal_has_no}
use Rattle.text_grammar.proofs.Keys.{key_has_no}
use Rattle.text_grammar.proofs.LineLemmas.{lines_at, strip_none}
use Rattle.key_book.specs.declared.account.Account.{Account}
use Rattle.key_book.specs.Book.{IsKey, IsAccount, IsBook}
use Rattle.key_book.specs.AccountText.{SpellsKey, SpellsKeys, SpellsAccount, account_text, account_line, is_account_line, previous_digits, printed}

-- digits in lower case spell their key
printed_key : (key : List ℕ) → IsKey key → SpellsKey key (encode_lower key)
printed_key key fits = record { long = fits.long; spelled = decode_of-encode_lower key fits.bytes }

printed_keys : (current : List ℕ) (previous : Option (List ℕ)) → IsKey current → IfSome previous IsKey
    → SpellsKeys current previous (encode_lower current ++ previous_digits previous)
printed_keys current None fits old_fits = rw append-nil (printed_key current fits)
printed_keys current (Some old) fits old_fits = (encode_lower current, encode_lower old, refl, printed_key current fits, printed_key old old_fits)

-- the line of an account spells it
printed_account : (account : Account) → IsAccount account → SpellsAccount account (account_line account)
printed_account account fits = record {
  fits = fits.rid;
  keys = encode_lower account.current ++ previous_digits account.previous;
  words = refl;
  keys_spelled = printed_keys account.current account.previous fits.current fits.previous;
}

-- bytes of 32 and more have none below
printable_has_no : (byte : ℕ) → byte < 32 → (xs : List ℕ) → AllByRecursion (λ c. nat_le 32 c ≡ true) xs → HasNo byte xs
printable_has_no byte small [] all = has_no_nil byte
printable_has_no byte small (x ∷ xs) all =
    let large = leb-true 32 x all.0 in
    has_no_cons byte x xs (λ is. omega (arith, large, small, is)) (printable_has_no byte small xs all.1)

-- a byte that is no digit and no blank
pub record EndsLines (byte : ℕ) : Type 0 where
  pub small : byte < 32
  pub no_digit : digit_value byte < 10 → ⊥
  pub no_hex : is_hex_digit byte ≡ false

previous_has_no : (byte : ℕ) → EndsLines byte → (previous : Option (List ℕ)) → IfSome previous IsKey → HasNo byte (previous_digits previous)
previous_has_no byte ends None fits = has_no_nil byte
previous_has_no byte ends (Some key) fits =
    has_no_cons byte 32 (encode_lower key) (λ is. omega (arith, ends.small, is)) (key_has_no byte (encode_lower key) key ends.no_hex (decode_of-encode_lower key fits.bytes))

-- how an account line begins has none
begin_has_no : (byte : ℕ) → byte < 32 → HasNo byte (codes "account ")
begin_has_no byte small = printable_has_no byte small (codes "account ") (refl, (refl, (refl, (refl, (refl, (refl, (refl, (refl, tt))))))))

-- what ends lines is not in the line of an account
line_has_no : (byte : ℕ) → EndsLines byte → (account : Account) → IsAccount account → HasNo byte (account_line account)
line_has_no byte ends account fits =
    let rid = decimal_has_no byte account.rid ends.no_digit (omega (arith, fits.rid)) in
    let current = key_has_no byte (encode_lower account.current) account.current ends.no_hex (decode_of-encode_lower account.current fits.current.bytes) in
    let keys = has_no_append byte (encode_lower account.current) (previous_digits account.previous) current (previous_has_no byte ends account.previous fits.previous) in
    let blank = has_no_cons byte 32 (encode_lower account.current ++ previous_digits account.previous) (λ is. omega (arith, ends.small, is)) keys in
    let behind = has_no_append byte (decimal account.rid) (32 ∷ (encode_lower account.current ++ previous_digits account.previous)) rid blank in
    has_no_append byte (codes "account ") (decimal account.rid ++ 32 ∷ (encode_lower account.current ++ previous_digits account.previous)) (begin_has_no byte ends.small) behind

-- a line feed and a carriage return end lines
feed : EndsLines 10
feed = record { small = omega arith; no_digit = λ h. absurd (omega (arith, h)); no_hex = refl }

carriage_return : EndsLines 13
carriage_return = record { small = omega arith; no_digit = λ h. absurd (omega (arith, h)); no_hex = refl }

-- what is printed has the lines of the accounts
printed_lines : (accounts : List Account) → AllByRecursion IsAccount accounts → lines (printed accounts) ≡ map account_line accounts
printed_lines [] fit = refl
printed_lines (a ∷ more) fit =
    ap lines (append_assoc (account_line a) (10 ∷ []) (printed more))
    ∙ lines_at (account_line a) (printed more) (line_has_no 10 feed a fit.0)
    ∙ ap (λ l. l ∷ lines (printed more)) (strip_none (account_line a) (line_has_no 13 carriage_return a fit.0))
    ∙ ap (λ ls. account_line a ∷ ls) (printed_lines more fit.1)

-- and these spell the accounts
spelled_again : (accounts : List Account) → AllByRecursion IsAccount accounts → AllZip SpellsAccount accounts (filter is_account_line (map account_line accounts))
spelled_again [] fit = tt
spelled_again (a ∷ more) fit = (printed_account a fit.0, spelled_again more fit.1)

pub printed_says : (accounts : List Account) → IsBook accounts → Say account_text (lines (printed accounts)) accounts
printed_says accounts book =
    let fit = recursion_from_All IsAccount accounts book.fit in
    record { spelled = rw (printed_lines accounts fit) (spelled_again accounts fit); distinct = book.distinct }
