use Rattle.std.proofs.Common.{rules, ◌≡◌, ◌<◌, ℕ, Bool, false, Option, Some, Result, Ok, Err, length, take, sym, ◌∙◌, ap, subst, arith}
use Rattle.std.proofs.lemmas.List.{length-take}
use Rattle.rpc_pdu.specs.declared.header.Header.{Header}
use Rattle.rpc_pdu.specs.Header.{header_flaw}
use Rattle.rpc_pdu.specs.declared.fault.PduFault.{PduFault}
use Rattle.rpc_pdu.specs.declared.pdu.Pdu.{Pdu}
use Rattle.rpc_pdu.specs.Reader.{Nexts, Reader, Takes, marked}
use Rattle.rpc_pdu.proofs.Nexts.{next_torn, next_failed, next_flawed, next_wrong, next_pdu}
use Rattle.rpc_pdu.proofs.reader.PduReader.advance.Goals as goal

pub returns-in-End-clause-next : goal.returns-in-End-clause-next
returns-in-End-clause-next g c =
    let ended = c.in-End.ensures.bytes in
    let part = take c.in-End.field-0 c.fill.new.buf in
    let sixteen : length c.fill.new.buf ≡ 16 = search rules in
    let size = length-take c.in-End.field-0 c.fill.new.buf in
    let some : 0 < c.in-End.field-0 = search rules in
    next_torn c.self.inside.place part c.args.self.now _ _ _ (ap (λ (r : Reader). r.place) c.self.view_is)
    (omega (arith, sixteen, size, ended.0)) (omega (arith, sixteen, size, ended.0, some)) ended.1 (λ closed. ap (λ (n : ℕ). take n c.fill.new.buf) (ended.2 closed)) ended.3

pub returns-in-Failed-clause-next : goal.returns-in-Failed-clause-next
returns-in-Failed-clause-next g c =
    let failed = c.in-Failed.ensures.bytes in
    let sixteen : length c.fill.new.buf ≡ 16 = search rules in
    next_failed failed.0 c.args.self.now _ _ _ (omega (arith, sixteen, failed.1)) failed.2 (λ closed. absurd cc) failed.3

pub returns-in-Some-clause-next : goal.returns-in-Some-clause-next
returns-in-Some-clause-next g c =
    let filled = c.in-Whole.ensures.bytes in
    let sixteen : length c.fill.new.buf ≡ 16 = search rules in
    let header = c.read_header-header.ensures in
    next_flawed c.in-Some.flaw c.at.result c.self.inside.place c.read_header-header.result.call_id c.fill.new.buf c.args.self.now _ _ _
    c.at.ensures (ap (λ (r : Reader). r.place) c.self.view_is) sixteen
    (ap header_flaw (sym header) ∙ sym c.flaw.ensures ∙ c.in-Some.is) (ap (λ (h : Header). h.call_id) (sym header)) filled.0 filled.1

pub returns-in_err-pdu-clause-next : goal.returns-in_err-pdu-clause-next
returns-in_err-pdu-clause-next g c =
    let filled = c.in-Whole.ensures.bytes in
    let sixteen : length c.fill.new.buf ≡ 16 = search rules in
    let header = c.read_header-header.ensures in
    let wrong = c.in_err-pdu.field-0.0 in
    let call = c.read_header-header.result.call_id in
    let old = c.args.self.now in
    let new : Reader = record { alive = false; place = c.self.inside.place; last_call = Some call } in
    let is_open = g.W.Wire.is_open c.args.wire.now in
    let rest = subst (λ (o : Bool). Takes (Err wrong) c.self.inside.place c.fill.new.buf o (g.W.Wire.told c.fill.new.wire) (g.W.Wire.told c.read_rest.new.wire))
    c.fill.ensures.open (c.in_err-pdu.ensures.rest c.fill.new.buf sixteen (sym header)) in
    let next = next_wrong wrong c.self.inside.place call c.fill.new.buf old is_open _ _ _ (ap (λ (r : Reader). r.place) c.self.view_is) sixteen
    (ap (λ (h : Header). h.call_id) (sym header)) filled.0 filled.1 rest in
    let same : c.from_residual.result ≡ Err wrong = search rules in
    subst (λ (answer : Result (Option Pdu) PduFault). Nexts answer old (marked answer (record { alive = c.self.inside.alive; place = c.self.inside.place; last_call = Some call })) is_open
    (g.W.Wire.told c.args.wire.now) (g.W.Wire.told c.read_rest.new.wire)) (sym same) next

pub returns-clause-next : goal.returns-clause-next
returns-clause-next g c =
    let filled = c.in-Whole.ensures.bytes in
    let sixteen : length c.fill.new.buf ≡ 16 = search rules in
    let header = c.read_header-header.ensures in
    let call = c.read_header-header.result.call_id in
    let pdu = c.in_ok-pdu.pdu in
    let facts = c.in_ok-pdu.ensures.pdu in
    let rest = subst (λ (o : Bool). Takes (Ok (Some pdu)) c.self.inside.place c.fill.new.buf o (g.W.Wire.told c.fill.new.wire) (g.W.Wire.told c.read_rest.new.wire))
    c.fill.ensures.open (c.in_ok-pdu.ensures.rest c.fill.new.buf sixteen (sym header)) in
    next_pdu pdu c.self.inside.alive c.self.inside.place c.from.result call c.self.inside.last_call c.fill.new.buf c.args.self.now (g.W.Wire.is_open c.args.wire.now) _ _ _
    c.self.view_is facts.0 (facts.1 ∙ sym c.from.ensures) filled.0 filled.1 rest
