use Rattle.key_book.proofs.AccountLines.{keys_at}
use Rattle.key_book.proofs.line.read_keys.Goals as goal

pub returns-in_err-read_key-in-Some-clause-found : goal.returns-in_err-read_key-in-Some-clause-found
returns-in_err-read_key-in-Some-clause-found c current previous spells =
    let keys = keys_at current previous c.args.text.now c.in-Some.current.now c.in-Some.previous.now c.in-Some.ensures.parts c.in-Some.ensures.first spells in
    let wrong = c.in_err-read_key-in-Some.ensures.found current keys.current_spelled.long keys.current_spelled.spelled in
    cc wrong

pub returns-in_err-read_key-in-Some-2-clause-found : goal.returns-in_err-read_key-in-Some-2-clause-found
returns-in_err-read_key-in-Some-2-clause-found c current previous spells =
    let keys = keys_at current previous c.args.text.now c.in-Some.current.now c.in-Some.previous.now c.in-Some.ensures.parts c.in-Some.ensures.first spells in
    let wrong = c.in_err-read_key-in-Some-2.ensures.found keys.old keys.old_spelled.long keys.old_spelled.spelled in
    cc wrong

pub returns-in_ok-read_key-in-Some-2-clause-found : goal.returns-in_ok-read_key-in-Some-2-clause-found
returns-in_ok-read_key-in-Some-2-clause-found c current previous spells =
    let keys = keys_at current previous c.args.text.now c.in-Some.current.now c.in-Some.previous.now c.in-Some.ensures.parts c.in-Some.ensures.first spells in
    let first = c.in_ok-read_key-in-Some.ensures.found current keys.current_spelled.long keys.current_spelled.spelled in
    let second = c.in_ok-read_key-in-Some-2.ensures.found keys.old keys.old_spelled.long keys.old_spelled.spelled in
    cc (first, second, keys.is)
