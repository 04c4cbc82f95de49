use Rattle.std.proofs.Common.{List, ℕ, take, ap, ◌∙◌}
use Rattle.capture_fmt.proofs.Records.{read_datagram}
use Rattle.capture_fmt.proofs.decode.datagram_at.Goals as goal

pub returns-clause-found : goal.returns-clause-found
returns-clause-found c =
    read_datagram c.in_ok-len.len c.args.bytes.now c.in_ok-len.rest.now c.from_slice.result c.split_at.result.1.now
    c.if-len-gt-DATAGRAM_LEN.false c.if-rest-len.false
    (c.from_slice.ensures ∙ ap (λ (l : List ℕ). take 256 l) c.split_at.ensures.front) c.split_at.ensures.back c.in_ok-len.ensures.found.1
