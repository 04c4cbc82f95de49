use Rattle.std.proofs.Common.{◌<◌, Ok, length, ap, arith, rules}
use Rattle.byte_codec.proofs.Parts.{two_parts}
use Rattle.ms_auth.specs.Packet.{IsTailLength}
use Rattle.ms_auth.proofs.Fields.{packet_at}
use Rattle.ms_auth.proofs.Uniqueness.{one_packet, packet_length, length_of_tail, long_enough}
use Rattle.ms_auth.proofs.codec.read_packet.Goals as goal

pub returns-in_default-clause-only : goal.returns-in_default-clause-only
returns-in_default-clause-only c p q first next = one_packet p q c.args.bytes.now first next

pub returns-in_err-tail-clause-only : goal.returns-in_err-tail-clause-only
returns-in_err-tail-clause-only c p q first next = one_packet p q c.args.bytes.now first next

pub returns-clause-only : goal.returns-clause-only
returns-clause-only c p q first next = one_packet p q c.args.bytes.now first next

pub returns-in_default-clause-found : goal.returns-in_default-clause-found
returns-in_default-clause-found c p spells =
    let short : length c.args.bytes.now < 48 = search rules in
    let long = long_enough p c.args.bytes.now spells in
    absurd (omega (arith, short, long))

pub returns-in_err-tail-clause-found : goal.returns-in_err-tail-clause-found
returns-in_err-tail-clause-found c p spells =
    let long = packet_length p c.args.bytes.now spells in
    let tail = length_of_tail (length c.args.bytes.now) (length c.split_at.result.1.now) c.split_at.ensures.back_len long in
    let wrong : ¬ IsTailLength (length c.split_at.result.1.now) = search rules in
    absurd (wrong tail)

pub returns-clause-read : goal.returns-clause-read
returns-clause-read c = search (rules, two_parts)

pub returns-clause-found : goal.returns-clause-found
returns-clause-found c p spells = ap Ok (one_packet _ p c.args.bytes.now (returns-clause-read c) spells)

pub returns-clause-length : goal.returns-clause-length
returns-clause-length c = packet_length _ c.args.bytes.now (returns-clause-read c)

pub returns-clause-places : goal.returns-clause-places
returns-clause-places c = packet_at _ c.args.bytes.now (returns-clause-read c)
