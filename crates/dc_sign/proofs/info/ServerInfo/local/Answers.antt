use Rattle.dc_sign.proofs.Uniqueness.{one_local}
use Rattle.dc_sign.proofs.info.ServerInfo.local.Goals as goal

pub returns-clause-only : goal.returns-clause-only
returns-clause-only c = one_local c.args.t2
