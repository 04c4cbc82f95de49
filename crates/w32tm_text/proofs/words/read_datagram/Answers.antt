use Rattle.std.proofs.Common.{◌≤◌, length, arith}
use Rattle.w32tm_text.proofs.Spelling.{datagram_is, one_datagram, too_many_digits}
use Rattle.w32tm_text.proofs.words.read_datagram.Goals as goal

pub returns-then-digits-clause-found : goal.returns-then-digits-clause-found
returns-then-digits-clause-found c bytes spells = absurd (too_many_digits c.args.digits.now bytes (omega arith) spells)

pub returns-clause-read : goal.returns-clause-read
returns-clause-read c =
    let short : length c.args.digits.now ≤ 512 = omega arith in
    datagram_is c.args.digits.now c.decode.new.bytes c.from_slice.result short (c.decode.ensures.read c.if-not-decode.false) c.from_slice.ensures

pub returns-clause-found : goal.returns-clause-found
returns-clause-found c bytes spells =
    let same = one_datagram c.args.digits.now c.from_slice.result bytes (returns-clause-read c) spells in
    cc same
