use Rattle.text_grammar.proofs.addresses.read_address.Goals as goal

pub returns-in_err-b-clause-found : goal.returns-in_err-b-clause-found
returns-in_err-b-clause-found c ip spells =
    let first = c.in_ok-a.ensures.found spells.a _ spells.a_fits spells.written in
    absurd (c.in_err-b.ensures.found spells.b _ spells.b_fits first.1)

pub returns-in_err-c-clause-found : goal.returns-in_err-c-clause-found
returns-in_err-c-clause-found c ip spells =
    let first = c.in_ok-a.ensures.found spells.a _ spells.a_fits spells.written in
    let second = c.in_ok-b.ensures.found spells.b _ spells.b_fits first.1 in
    absurd (c.in_err-c.ensures.found spells.c _ spells.c_fits second.1)

pub returns-in_err-read_byte-clause-found : goal.returns-in_err-read_byte-clause-found
returns-in_err-read_byte-clause-found c ip spells =
    let first = c.in_ok-a.ensures.found spells.a _ spells.a_fits spells.written in
    let second = c.in_ok-b.ensures.found spells.b _ spells.b_fits first.1 in
    let third = c.in_ok-c.ensures.found spells.c _ spells.c_fits second.1 in
    let wrong = c.in_err-read_byte.ensures.found spells.d spells.d_fits third.1 in
    absurd cc

pub returns-clause-found : goal.returns-clause-found
returns-clause-found c ip spells =
    let first = c.in_ok-a.ensures.found spells.a _ spells.a_fits spells.written in
    let second = c.in_ok-b.ensures.found spells.b _ spells.b_fits first.1 in
    let third = c.in_ok-c.ensures.found spells.c _ spells.c_fits second.1 in
    let fourth = c.in_ok-read_byte.ensures.found spells.d spells.d_fits third.1 in
    let number = c.address_of.ensures in
    let same = spells.number in
    cc
