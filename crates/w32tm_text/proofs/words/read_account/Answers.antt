use Rattle.std.proofs.Common.{decimal, sym, arith}
use Rattle.text_grammar.proofs.Decimals.{no_colon}
use Rattle.w32tm_text.proofs.Spelling.{account_is}
use Rattle.w32tm_text.proofs.words.read_account.Goals as goal

pub returns-in_err-rid-2-clause-found : goal.returns-in_err-rid-2-clause-found
returns-in_err-rid-2-clause-found c account spells =
    let parts = c.in_ok-rid.ensures.found (decimal account.rid) spells.keys (no_colon account.rid (omega (arith, spells.fits))) spells.written in
    let wrong = c.in_err-rid-2.ensures.found account.rid spells.fits parts.0 in
    cc wrong

pub returns-in_err-current-clause-found : goal.returns-in_err-current-clause-found
returns-in_err-current-clause-found c account spells =
    let parts = c.in_ok-rid.ensures.found (decimal account.rid) spells.keys (no_colon account.rid (omega (arith, spells.fits))) spells.written in
    let keys = rw (sym parts.1) at spells.keys_spelled in
    let wrong = c.in_err-current.ensures.found account.current account.previous keys in
    cc wrong

pub returns-clause-found : goal.returns-clause-found
returns-clause-found c account spells =
    let parts = c.in_ok-rid.ensures.found (decimal account.rid) spells.keys (no_colon account.rid (omega (arith, spells.fits))) spells.written in
    let keys = rw (sym parts.1) at spells.keys_spelled in
    account_is account _ _ _ (c.in_ok-rid-2.ensures.found account.rid spells.fits parts.0) (c.in_ok-current.ensures.found account.current account.previous keys)
