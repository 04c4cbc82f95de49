use Rattle.std.proofs.Common.{decimal, arith}
use Rattle.text_grammar.proofs.Decimals.{no_dot}
use Rattle.text_grammar.proofs.addresses.read_part.Goals as goal

pub returns-in_err-digits-clause-found : goal.returns-in_err-digits-clause-found
returns-in_err-digits-clause-found c n rest small is =
    let wrong = c.in_err-digits.ensures.found (decimal n) rest (no_dot n (omega (arith, small))) is in
    absurd wrong

pub returns-in_err-read_byte-clause-found : goal.returns-in_err-read_byte-clause-found
returns-in_err-read_byte-clause-found c n rest small is =
    let parts = c.in_ok-digits.ensures.found (decimal n) rest (no_dot n (omega (arith, small))) is in
    let wrong = c.in_err-read_byte.ensures.found n small parts.0 in
    absurd cc

pub returns-clause-found : goal.returns-clause-found
returns-clause-found c n rest small is =
    let parts = c.in_ok-digits.ensures.found (decimal n) rest (no_dot n (omega (arith, small))) is in
    let same = c.in_ok-read_byte.ensures.found n small parts.0 in
    (cc, parts.1)
