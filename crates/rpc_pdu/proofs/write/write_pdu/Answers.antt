use Rattle.rpc_pdu.proofs.Wires.{writes_open_none}
use Rattle.rpc_pdu.proofs.write.write_pdu.Goals as goal

pub returns-clause-sessions : goal.returns-clause-sessions
returns-clause-sessions g c = writes_open_none c.write.result c.as_slice.result.now _ _ _ c.write.ensures.bytes
