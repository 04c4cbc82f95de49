use Rattle.std.proofs.Common.{decimal, arith}
use Rattle.text_grammar.proofs.Decimals.{no_colon}
use Rattle.w32tm_text.proofs.words.read_script.Goals as goal

pub returns-in_err-read_decimal-clause-found : goal.returns-in_err-read_decimal-clause-found
returns-in_err-read_decimal-clause-found c seed operations spells =
    let parts = c.in_ok-seed.ensures.found (decimal seed) (decimal operations) (no_colon seed (omega (arith, spells.fits))) spells.written in
    let wrong = c.in_err-read_decimal.ensures.found seed spells.fits parts.0 in
    cc wrong

pub returns-in_err-read_count-clause-found : goal.returns-in_err-read_count-clause-found
returns-in_err-read_count-clause-found c seed operations spells =
    let parts = c.in_ok-seed.ensures.found (decimal seed) (decimal operations) (no_colon seed (omega (arith, spells.fits))) spells.written in
    let wrong = c.in_err-read_count.ensures.found operations spells.some spells.most parts.1 in
    cc wrong

pub returns-clause-found : goal.returns-clause-found
returns-clause-found c seed operations spells =
    let parts = c.in_ok-seed.ensures.found (decimal seed) (decimal operations) (no_colon seed (omega (arith, spells.fits))) spells.written in
    let first = c.in_ok-read_decimal.ensures.found seed spells.fits parts.0 in
    let second = c.in_ok-read_count.ensures.found operations spells.some spells.most parts.1 in
    cc (first, second)
