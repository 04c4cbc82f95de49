use Rattle.std.proofs.Common.{◌≡◌, Option, None, Err, sym, subst}
use Rattle.rpc_pdu.specs.declared.pdu.Pdu.{Pdu}
use Rattle.w32t_calls.specs.declared.end.SessionEnd.{SessionEnd}
use Rattle.w32t_calls.specs.declared.end.SessionEnd.TheVariants as end
use Rattle.w32t_calls.specs.Steps.{EndsBy, Puts, unanswered}
use Rattle.w32t_calls.proofs.Firsts.{is_answered}
use Rattle.w32t_calls.proofs.session.refuse.Goals as goal

pub returns-in_default : goal.returns-in_default
returns-in_default g c =
    let none : unanswered c.args.fault ≡ None = is_answered c.args.fault c.in_default.not-Torn c.in_default.not-ReadFault in
    let told = g.W.Wire.told c.args.wire.now in
    let now = g.W.Wire.told c.put.new.wire in
    let is_open = g.W.Wire.is_open c.args.wire.now in
    let puts = subst (λ (pdu : Pdu). Puts pdu (Err end.BadPdu) c.put.result is_open told now) c.protocol_fault.ensures c.put.ensures.puts in
    record {
      ends = subst (λ (o : Option SessionEnd). EndsBy o c.args.call_id c.put.result is_open told now) (sym none) puts;
      reads = c.put.ensures.reads;
      cause = record { write = c.put.ensures.cause.write; no_write = c.put.ensures.cause.no_write };
      sessions = c.put.ensures.sessions;
      «open» = c.put.ensures.open;
    }
