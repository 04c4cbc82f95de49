use Rattle.std.proofs.Common.{rules}
use Rattle.ntp_wire.specs.Stamp.{StampFits}
use Rattle.ms_auth.proofs.RequestBytes.{request_spelled}
use Rattle.ms_auth.proofs.Uniqueness.{one_packet}
use Rattle.ms_auth.proofs.requests.request.Goals as goal

pub returns-clause-request : goal.returns-clause-request
returns-clause-request c = search rules

pub returns-clause-spells : goal.returns-clause-spells
returns-clause-spells c =
    let stamp : StampFits c.args.stamp = search rules in
    request_spelled c.args.kind c.args.rid c.args.poll c.args.stamp _ (returns-clause-request c) (search rules) c.requires.poll stamp

pub returns-clause-only : goal.returns-clause-only
returns-clause-only c p is =
    let stamp : StampFits c.args.stamp = search rules in
    one_packet p _ _ (request_spelled c.args.kind c.args.rid c.args.poll c.args.stamp p is (search rules) c.requires.poll stamp) (returns-clause-spells c)
