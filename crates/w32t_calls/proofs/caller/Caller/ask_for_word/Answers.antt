use Rattle.std.proofs.Common.{ℕ, ◌+◌, Err, Ok, ap, ◌∙◌, rules}
use Rattle.w32t_calls.specs.Asking.{call_pdu}
use Rattle.w32t_calls.specs.Calling.{Client}
use Rattle.w32t_calls.specs.Replies.{and_if, stub_in, word_in}
use Rattle.w32t_calls.proofs.Calling.{asks_for_word}
use Rattle.w32t_calls.proofs.caller.Caller.ask_for_word.Goals as goal

pub returns-in_err-pdu-clause-asks : goal.returns-in_err-pdu-clause-asks
returns-in_err-pdu-clause-asks g c =
    asks_for_word c.call_pdu.result (call_pdu (c.args.self.now.calls + 1) c.args.call) _ _ _ _ _ (Err c.in_err-pdu.field-0.0) _
    c.in_err-pdu.ensures.asks (c.call_pdu.ensures ∙ ap (λ (k : Client). call_pdu (k.calls + 1) c.args.call) c.self.view_is) (search rules)

pub returns-clause-asks : goal.returns-clause-asks
returns-clause-asks g c =
    asks_for_word c.call_pdu.result (call_pdu (c.args.self.now.calls + 1) c.args.call) _ _ _ _ _ (Ok c.in_ok-pdu.pdu) _
    c.in_ok-pdu.ensures.asks (c.call_pdu.ensures ∙ ap (λ (k : Client). call_pdu (k.calls + 1) c.args.call) c.self.view_is)
    (c.word_in.ensures.told ∙ ap (λ (p : ℕ). and_if (stub_in p c.in_ok-pdu.pdu) (word_in p)) (c.place-place.ensures ∙ ap (λ (k : Client). k.reader.place) c.self.view_is))
