use Rattle.std.proofs.Common.{ℕ, Err, Ok, ap, ◌∙◌, rules}
use Rattle.w32t_calls.specs.Asking.{bind_pdu}
use Rattle.w32t_calls.specs.Calling.{Client}
use Rattle.w32t_calls.specs.Replies.{bound_by}
use Rattle.w32t_calls.proofs.Calling.{asks_then}
use Rattle.w32t_calls.proofs.caller.Caller.ask_to_bind.Goals as goal

pub returns-in_err-pdu-clause-asks : goal.returns-in_err-pdu-clause-asks
returns-in_err-pdu-clause-asks g c =
    asks_then c.bind_pdu.result bind_pdu _ _ _ _ _ (Err c.in_err-pdu.field-0.0) _ (bound_by c.args.self.now.reader.place)
    c.in_err-pdu.ensures.asks c.bind_pdu.ensures (search rules)

pub returns-clause-asks : goal.returns-clause-asks
returns-clause-asks g c =
    asks_then c.bind_pdu.result bind_pdu _ _ _ _ _ (Ok c.in_ok-pdu.pdu) _ (bound_by c.args.self.now.reader.place)
    c.in_ok-pdu.ensures.asks c.bind_pdu.ensures
    (c.bound_by.ensures.told ∙ ap (λ (p : ℕ). bound_by p c.in_ok-pdu.pdu) (c.place-place.ensures ∙ ap (λ (k : Client). k.reader.place) c.self.view_is))
