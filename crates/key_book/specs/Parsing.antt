-- What the reader of a text of accounts answers.
use Rattle.std.specs.Prelude.{◌≡◌, ◌++◌, ◌∷◌, ◌⊎◌, ⊤, ℕ, true, false, List, [], Result, Ok, Err}
use Rattle.text_grammar.specs.Lines.{Say, IsFirstBad, SpellsNothing, SaysAgain}
use Rattle.key_book.specs.declared.account.Account.{Account}
use Rattle.key_book.specs.declared.fault.BookFault.{BookFault}
use Rattle.key_book.specs.declared.fault.BookFault.TheVariants.{BadLine, TwiceRid, NoMemory}
use Rattle.key_book.specs.AccountBook.{NoneHas}
use Rattle.key_book.specs.AccountText.{account_text, is_account_line, SpellsAccount}

-- An answer that is true of these lines: the accounts of the account lines, or the first bad one. Want of
-- memory says nothing of them.
abbrev pub IsAnswer : List (List ℕ) → Result (List Account) BookFault → Type 0
IsAnswer lines (Ok accounts) = Say account_text lines accounts
IsAnswer lines (Err (BadLine n)) = IsFirstBad account_text (SpellsNothing account_text) lines n
IsAnswer lines (Err (TwiceRid n)) = IsFirstBad account_text (SaysAgain account_text) lines n
IsAnswer lines (Err NoMemory) = ⊤

-- an account line that spells a new account, beside the accounts of the lines before it
pub record SpellsNew (account : Account) (accounts : List Account) (line : List ℕ) : Type 0 where
  pub seen : is_account_line line ≡ true
  pub spelled : SpellsAccount account line
  pub fresh : NoneHas accounts account.rid

-- What is done with line n: its new account stands at the end, or it has none and isn't looked at, or it is
-- bad beside the accounts of the lines before it.
abbrev pub Takes : ℕ → List ℕ → List Account → List Account → Result (Unit {0}) BookFault → Type 0
Takes n line old new (Ok done) =
    ((is_account_line line ≡ false) × (new ≡ old)) ⊎ ((account : Account) × SpellsNew account old line × (new ≡ old ++ account ∷ []))
Takes n line old new (Err (BadLine m)) = (m ≡ n) × SpellsNothing account_text old line
Takes n line old new (Err (TwiceRid m)) = (m ≡ n) × SaysAgain account_text old line
Takes n line old new (Err NoMemory) = ⊤
