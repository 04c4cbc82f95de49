use Rattle.std.proofs.Common.{suc, sym, ◌∙◌}
use Rattle.std.proofs.lemmas.Result.{err_from_is_err_and, on_ok_weaker}
use Rattle.run_deeds.specs.Weaving.{ReceiptNow, Turns}
use Rattle.run_deeds.proofs.Composing.{part_then}
use Rattle.member_run.proofs.Following.{covers_received, going_received}
use Rattle.member_run.proofs.Parting.{part_short}
use Rattle.member_run.proofs.running.Running.turn.Goals as goal

pub returns-in_err-tick-clause-part : goal.returns-in_err-tick-clause-part
returns-in_err-tick-clause-part g c =
    let p = err_from_is_err_and c.from_residual.result c.from_residual.ensures.1 in
    let e = c.in_err-tick.ensures in
    let b = e.borrows in
    let o = c.in_err-tick in
    rw (p.1, p.2, o.link-1-own.given.1 (sym b.0), o.clock-1-own.given.1 (sym b.1), o.disk-1-own.given.1 (sym b.2), o.entropy-1-own.given.1 (sym b.3), o.out-1-own.given.1 (sym b.4), o.capture-1-own.given.1 (sym b.5))
    (λ others left history stands.
    part_short _ (Turns (suc left)) (ReceiptNow left) (Turns left) history _ _ c.tick.new.self.member _ _ _ _ _ (λ is. e.never.0 (cc is)) (e.part others left history stands))

pub returns-clause-part : goal.returns-clause-part
returns-clause-part g c =
    let t = c.in_ok-tick.ensures.borrows in
    let b = c.receive.ensures.borrows in
    rw (c.link-2-1.given.1 (sym (b.0 ∙ t.0)), c.clock-2-1.given.1 (sym (b.1 ∙ t.1)), c.disk-2-1.given.1 (sym (b.2 ∙ t.2)), c.entropy-2-1.given.1 (sym (b.3 ∙ t.3)), c.out-2-1.given.1 (sym (b.4 ∙ t.4)), c.capture-2-1.given.1 (sym (b.5 ∙ t.5)))
    (λ others left history stands.
    part_then _ (Turns (suc left)) (ReceiptNow left) (Turns left) history _ _ _ c.tick.new.self.member c.receive.new.self.member _ _ _ _ _ _ _
    (c.in_ok-tick.ensures.part others left history stands) (λ later so.
    c.receive.ensures.part others left (g.L.Link.told c.tick.new.devices.link.now) (g.L.Link.faults c.tick.new.devices.link.now) c.recv-receipt.ensures.gives c.recv-receipt.ensures.cause later so))

pub returns-clause-going : goal.returns-clause-going
returns-clause-going g c =
    rw (c.disk-2-1.given.1 (sym (c.receive.ensures.borrows.2 ∙ c.in_ok-tick.ensures.borrows.2)), c.receive.ensures.disk_alone)
    (on_ok_weaker c.receive.result (λ begun. going_received _ c.tick.new.self c.receive.new.self c.in_ok-tick.ensures.going c.receive.ensures.sends_none begun) c.receive.ensures.begun)

pub returns-clause-covers : goal.returns-clause-covers
returns-clause-covers g c =
    rw (c.disk-2-1.given.1 (sym (c.receive.ensures.borrows.2 ∙ c.in_ok-tick.ensures.borrows.2)), c.receive.ensures.disk_alone)
    (covers_received _ c.tick.new.self c.receive.new.self c.in_ok-tick.ensures.going c.receive.ensures.sends_none)

pub returns-clause-any_moment : goal.returns-clause-any_moment
returns-clause-any_moment g c =
    rw (c.disk-2-1.given.1 (sym (c.receive.ensures.borrows.2 ∙ c.in_ok-tick.ensures.borrows.2)), c.receive.ensures.disk_alone) c.in_ok-tick.ensures.any_moment
