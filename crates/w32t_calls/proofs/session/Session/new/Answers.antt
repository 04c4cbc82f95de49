use Rattle.std.proofs.Common.{refl, ap}
use Rattle.rpc_pdu.specs.Reader.{Reader}
use Rattle.w32t_calls.proofs.Going.{new_served}
use Rattle.w32t_calls.proofs.session.Session.new.Goals as goal

pub returns-clause-fresh : goal.returns-clause-fresh
returns-clause-fresh c told fresh = new_served _ told (ap (λ (r : Reader). r.place) c.new.ensures.fresh) c.none.ensures refl refl fresh
