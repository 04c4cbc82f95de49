use Rattle.sntp_core.proofs.Carrying.{carries_is}
use Rattle.sntp_core.proofs.keys.carries.Goals as goal

pub returns : goal.returns
returns c = carries_is c.args.ready.now.key c.args.packet.now c.check.result c.check.ensures
