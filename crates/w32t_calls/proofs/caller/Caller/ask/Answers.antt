use Rattle.std.proofs.Common.{ap, sym}
use Rattle.w32t_calls.specs.Calling.{Client}
use Rattle.w32t_calls.proofs.Calling.{answers, opens_none_both}
use Rattle.w32t_calls.proofs.caller.Caller.ask.Goals as goal

pub returns-clause-asks : goal.returns-clause-asks
returns-clause-asks g c =
    answers c.args.pdu.now c.self.inside.reader _ _ _ _ _ _ _ c.next.result c.place-place.result _
    (ap (λ (k : Client). k.reader) (sym c.self.view_is)) c.in-Done.ensures.open c.place-place.ensures
    c.in-Done.ensures.bytes c.next.ensures.next c.reply_to.ensures

pub returns-clause-sessions : goal.returns-clause-sessions
returns-clause-sessions g c = opens_none_both _ _ _ c.in-Done.ensures.sessions c.next.ensures.sessions
