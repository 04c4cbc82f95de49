use Rattle.std.proofs.Common.{◌≡◌, IfOk, Ok, Err, ℕ, List, Result, Vec, Global, sym, ◌∙◌}
use Rattle.std.specs.Prelude.{MatchResult, is_ok}
use Rattle.std.specs.Map.{values_of}
use Rattle.std.specs.Str.Lines.{lines}
use Rattle.text_grammar.specs.Lines.{Say}
use Rattle.key_book.specs.declared.account.Account.{Account}
use Rattle.key_book.specs.Book.{IsBook}
use Rattle.key_book.specs.AccountText.{account_text, printed}
use Rattle.key_book.proofs.Printing.{printed_says}
use Rattle.key_book.proofs.book.Book.print.Goals as goal

-- another error leaves what holds of the value
same_ok : {T E F : Type 0} (P : T → Type 0) (Q : E → Type 0) (r : Result T E) (s : Result T F)
    → MatchResult r (λ x. s ≡ Ok x) Q → is_ok s ≡ is_ok r → IfOk r P → IfOk s P
same_ok P Q (Ok x) s same variant holds = rw same holds
same_ok P Q (Err e) (Ok y) same variant holds = absurd cc
same_ok P Q (Err e) (Err f) same variant holds = tt

-- what was printed says the accounts
says_again : {E : Type 0} (accounts : List Account) → IsBook accounts → (r : Result (Vec ℕ Global) E)
    → IfOk r (λ text. text.items ≡ printed accounts) → IfOk r (λ text. Say account_text (lines text.items) accounts)
says_again accounts book (Ok text) is = rw is (printed_says accounts book)
says_again accounts book (Err e) is = tt

pub returns-clause-read_again : goal.returns-clause-read_again
returns-clause-read_again c =
    let accounts = values_of c.self.inside.accounts.entries in
    let print = rw (c.as_slice.ensures ∙ c.values.ensures.rest) at c.print_accounts.ensures in
    let says = says_again accounts c.self.invariant.0 c.print_accounts.result print in
    let again = same_ok (λ text. Say account_text (lines text.items) accounts) _ c.print_accounts.result c.map_err.result c.map_err.ensures.cases c.map_err.ensures.variant says in
    rw (sym c.self.view_is) again
