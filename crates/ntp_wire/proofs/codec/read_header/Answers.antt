use Rattle.std.proofs.Common.{ap, Ok, arith}
use Rattle.ntp_wire.proofs.Fields.{header_at}
use Rattle.ntp_wire.proofs.Uniqueness.{one_spelled, none_short}
use Rattle.ntp_wire.proofs.codec.read_header.Goals as goal

pub returns-then-bytes-lt-HEADER_LEN-clause-only : goal.returns-then-bytes-lt-HEADER_LEN-clause-only
returns-then-bytes-lt-HEADER_LEN-clause-only c h spells = absurd (none_short h c.args.bytes.now (omega arith) spells)

pub returns-clause-only : goal.returns-clause-only
returns-clause-only c h spells = ap Ok (one_spelled c.header_of.result h _ c.header_of.ensures spells)

pub returns-clause-fields : goal.returns-clause-fields
returns-clause-fields c = header_at c.header_of.result c.args.bytes.now c.header_of.ensures
