use Rattle.std.proofs.Common.{Ok, Err}
use Rattle.w32t_calls.proofs.Going.{closed_end, serves_any}
use Rattle.w32t_calls.proofs.session.Session.next.Goals as goal

pub returns-in-Err-clause-run : goal.returns-in-Err-clause-run
returns-in-Err-clause-run g c answers is_open served = serves_any c.in-Err.end answers _ _ _ _ (c.in-Err.ensures.run answers is_open served)

pub returns-in-Ok-clause-no_session : goal.returns-in-Ok-clause-no_session
returns-in-Ok-clause-no_session g c closed =
    let n = c.in-Ok.ensures.no_session closed in
    (closed_end c.args.self.now (Ok c.in-Ok.call) _ _ closed c.in-Ok.ensures.told n.0 n.1, n.2)

pub returns-in-Err-clause-no_session : goal.returns-in-Err-clause-no_session
returns-in-Err-clause-no_session g c closed =
    let n = c.in-Err.ensures.no_session closed in
    (closed_end c.args.self.now (Err c.in-Err.end) _ _ closed c.in-Err.ensures.told n.0 n.1, n.2)
