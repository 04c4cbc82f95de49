use Rattle.std.proofs.Common.{sym, ap, subst}
use Rattle.rpc_pdu.specs.Reader.{Nexts, Reader}
use Rattle.rpc_pdu.proofs.Runs.{alive_by, none_closed, opens_none, told_by, reads_on}
use Rattle.rpc_pdu.proofs.reader.PduReader.next.Goals as goal

pub returns-clause-next : goal.returns-clause-next
returns-clause-next g c =
    let same = alive_by c.advance-next.result c.advance-next.new.self c.is_ok-self-inside.result c.self.inside.alive c.self.inside.place c.self.inside.last_call
    c.self.view_is c.advance-next.ensures.alive c.is_ok-self-inside.ensures.value in
    subst (λ (r : Reader). Nexts c.advance-next.result c.args.self.now r (g.W.Wire.is_open c.args.wire.now) (g.W.Wire.told c.args.wire.now) (g.W.Wire.told c.advance-next.new.wire))
    (sym same) c.advance-next.ensures.next

pub returns-clause-told : goal.returns-clause-told
returns-clause-told g c bytes leaves not_read =
    told_by c.advance-next.result c.args.self.now _ _ _ _ bytes c.advance-next.ensures.next leaves not_read

pub returns-clause-run : goal.returns-clause-run
returns-clause-run g c pdus is_open read =
    reads_on c.advance-next.result pdus c.args.self.now c.advance-next.new.self _ _ _ _
    (ap (λ (r : Reader). r.place) (sym c.self.view_is)) is_open read c.advance-next.ensures.next

pub returns-clause-sessions : goal.returns-clause-sessions
returns-clause-sessions g c = opens_none c.advance-next.result c.args.self.now _ _ _ _ c.advance-next.ensures.next

pub returns-clause-no_session : goal.returns-clause-no_session
returns-clause-no_session g c closed = none_closed c.advance-next.result c.args.self.now _ _ _ _ c.advance-next.ensures.next closed
