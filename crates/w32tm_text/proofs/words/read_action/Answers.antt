use Rattle.w32tm_text.proofs.Spelling.{is_sign}
use Rattle.w32tm_text.proofs.words.read_action.Goals as goal

pub returns-in_err-read_account-clause-found : goal.returns-in_err-read_account-clause-found
returns-in_err-read_account-clause-found c action spells flags =
    let (account, is, spelled) = is_sign c.args.word.now c.in-Some.text.now action c.in-Some.ensures.read spells in
    let wrong = c.in_err-read_account.ensures.found account spelled in
    cc wrong

pub returns-in-Some-clause-found : goal.returns-in-Some-clause-found
returns-in-Some-clause-found c action spells flags =
    let (account, is, spelled) = is_sign c.args.word.now c.in-Some.text.now action c.in-Some.ensures.read spells in
    let found = c.in_ok-read_account.ensures.found account spelled in
    cc (found, is)
