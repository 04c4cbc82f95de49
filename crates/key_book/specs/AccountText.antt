-- The lines that name accounts.
use Rattle.std.specs.Prelude.{◌≡◌, ◌<◌, ◌^◌, ◌++◌, ◌∷◌, ℕ, Bool, List, [], length, codes, decimal, nat_eq, Option, Some, None, Ok}
use Rattle.std.specs.List.{starts_with, flat_map}
use Rattle.hex.specs.Hex.{decode_of, encode_lower}
use Rattle.text_grammar.specs.Lines.{TextForm}
use Rattle.key_book.specs.declared.account.Account.{Account}

-- an account line: it begins with `account` and a blank
abbrev pub is_account_line : List ℕ → Bool
is_account_line line = starts_with nat_eq line (codes "account ")

-- 32 hexadecimal digits, in either case, spell the 16 bytes of a key
pub record SpellsKey (key digits : List ℕ) : Type 0 where
  pub long : length key ≡ 16
  pub spelled : decode_of digits ≡ Ok key

-- the digits of the current key alone, or with a blank and the digits of the previous one behind them
abbrev pub SpellsKeys : List ℕ → Option (List ℕ) → List ℕ → Type 0
SpellsKeys current None text = SpellsKey current text
SpellsKeys current (Some previous) text =
    (first : List ℕ) × (second : List ℕ) × (text ≡ first ++ 32 ∷ second) × SpellsKey current first × SpellsKey previous second

-- `account RID KEY` or `account RID KEY PREVIOUS`, where RID is a number of 32 bits in decimal
pub record SpellsAccount (account : Account) (line : List ℕ) : Type 0 where
  pub fits : account.rid < 2 ^ 32
  pub keys : List ℕ
  pub words : line ≡ codes "account " ++ decimal account.rid ++ 32 ∷ keys
  pub keys_spelled : SpellsKeys account.current account.previous keys

-- the text of an account book: account lines with distinct RIDs, among others that are not looked at
abbrev pub account_text : TextForm Account
account_text = record { is_seen = is_account_line; Spells = SpellsAccount; AreSame = λ a b. a.rid ≡ b.rid }

-- a blank and the digits of the previous key, where there is one
abbrev pub previous_digits : Option (List ℕ) → List ℕ
previous_digits None = []
previous_digits (Some previous) = 32 ∷ encode_lower previous

-- the line of an account, with keys in lower case
abbrev pub account_line : Account → List ℕ
account_line account = codes "account " ++ decimal account.rid ++ 32 ∷ (encode_lower account.current ++ previous_digits account.previous)

-- the lines of accounts in their order, each with a line feed
abbrev pub printed : List Account → List ℕ
printed accounts = flat_map (λ account. account_line account ++ 10 ∷ []) accounts

-- what an account shows of itself where it is printed for a reader of the program: its RID, and no key
abbrev pub shown : Account → List ℕ
shown account = codes "Account { rid: " ++ decimal account.rid ++ codes ", .. }"
