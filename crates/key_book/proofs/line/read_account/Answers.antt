use Rattle.std.proofs.Common.{ℕ, List, drop, decimal, sym, ◌∙◌, ap, arith}
use Rattle.text_grammar.proofs.Decimals.{no_blank}
use Rattle.key_book.proofs.AccountLines.{account_is}
use Rattle.key_book.proofs.line.read_account.Goals as goal

pub returns-in_err-rid-2-clause-found : goal.returns-in_err-rid-2-clause-found
returns-in_err-rid-2-clause-found c account spells =
    let rest = c.in_ok-strip_prefix.ensures.cases.1 ∙ ap (λ (l : List ℕ). drop 8 l) spells.words in
    let parts = c.in_ok-rid.ensures.found (decimal account.rid) spells.keys (no_blank account.rid (omega (arith, spells.fits))) rest in
    let wrong = c.in_err-rid-2.ensures.found account.rid spells.fits parts.0 in
    cc wrong

pub returns-in_err-current-clause-found : goal.returns-in_err-current-clause-found
returns-in_err-current-clause-found c account spells =
    let rest = c.in_ok-strip_prefix.ensures.cases.1 ∙ ap (λ (l : List ℕ). drop 8 l) spells.words in
    let parts = c.in_ok-rid.ensures.found (decimal account.rid) spells.keys (no_blank account.rid (omega (arith, spells.fits))) rest in
    let keys = rw (sym parts.1) at spells.keys_spelled in
    let wrong = c.in_err-current.ensures.found account.current account.previous keys in
    cc wrong

pub returns-clause-found : goal.returns-clause-found
returns-clause-found c account spells =
    let rest = c.in_ok-strip_prefix.ensures.cases.1 ∙ ap (λ (l : List ℕ). drop 8 l) spells.words in
    let parts = c.in_ok-rid.ensures.found (decimal account.rid) spells.keys (no_blank account.rid (omega (arith, spells.fits))) rest in
    let keys = rw (sym parts.1) at spells.keys_spelled in
    account_is account _ _ _ (c.in_ok-rid-2.ensures.found account.rid spells.fits parts.0) (c.in_ok-current.ensures.found account.current account.previous keys)
