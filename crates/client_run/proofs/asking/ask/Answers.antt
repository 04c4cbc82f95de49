use Rattle.std.proofs.Common.{rules}
use Rattle.client_run.proofs.Once.{asks_answered, asks_in_vain}
use Rattle.client_run.proofs.asking.ask.Goals as goal

pub returns-in_err-ask_in-in-Session-clause-asks : goal.returns-in_err-ask_in-in-Session-clause-asks
returns-in_err-ask_in-in-Session-clause-asks g c =
    asks_in_vain c.args.call c.in_err-ask_in-in-Session.field-0.0 _ _ _ _ c.in-Session.ensures.opens c.in_err-ask_in-in-Session.ensures.talks (search rules)

pub returns-in_ok-ask_in-in-Session-clause-asks : goal.returns-in_ok-ask_in-in-Session-clause-asks
returns-in_ok-ask_in-in-Session-clause-asks g c =
    asks_answered c.args.call c.in_ok-ask_in-in-Session.field-0 _ _ _ c.in-Session.ensures.opens c.in_ok-ask_in-in-Session.ensures.talks
