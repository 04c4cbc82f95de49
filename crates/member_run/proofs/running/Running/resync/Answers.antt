use Rattle.std.proofs.Common.{[], ap, sym, ◌∙◌, Err}
use Rattle.std.proofs.lemmas.Result.{err_from_is_err_and}
use Rattle.run_deeds.specs.Weaving.{behind_request}
use Rattle.member_run.proofs.Calling.{answers_cut, answers_fault, answers_now, answers_plain, answers_result}
use Rattle.member_run.proofs.running.Running.resync.Goals as goal

pub returns-in_err-request-clause-answers : goal.returns-in_err-request-clause-answers
returns-in_err-request-clause-answers g c =
    let p = err_from_is_err_and c.from_residual.result c.from_residual.ensures.1 in
    let o = c.in_err-request in
    let e = o.ensures in
    let b = e.borrows in
    rw (p.1, p.2, o.link-1-own.given.1 (sym b.0), o.clock-1-own.given.1 (sym b.1), o.disk-1-own.given.1 (sym b.2), o.entropy-1-own.given.1 (sym b.3), o.out-1-own.given.1 (sym b.4), o.capture-1-own.given.1 (sym b.5))
    (λ others history stands.
    answers_fault _ c.args.wait c.args.flags (behind_request c.args.wait []) history _ _ _ _ _ _ _ c.in_err-request.field-0.0 (λ is. e.never.0 (ap Err is)) (e.part others c.args.wait history stands))

pub returns-then-wait-eq0-clause-answers : goal.returns-then-wait-eq0-clause-answers
returns-then-wait-eq0-clause-answers g c =
    let b = c.in_ok-request.ensures.borrows in
    rw (c.link-then-wait-eq0-1.given.1 (sym b.0), c.clock-then-wait-eq0-1.given.1 (sym b.1), c.disk-then-wait-eq0-1.given.1 (sym b.2), c.entropy-then-wait-eq0-1.given.1 (sym b.3), c.out-then-wait-eq0-1.given.1 (sym b.4), c.capture-then-wait-eq0-1.given.1 (sym b.5))
    (λ others history stands. answers_now _ c.args.wait c.args.flags history _ _ _ _ _ _ _ c.if-wait-eq0.true (c.in_ok-request.ensures.part others c.args.wait history stands))

pub returns-in_err-result-clause-answers : goal.returns-in_err-result-clause-answers
returns-in_err-result-clause-answers g c =
    let p = err_from_is_err_and c.from_residual-in_err-result.result c.from_residual-in_err-result.ensures.1 in
    let e = c.in_err-result.ensures in
    let b = e.borrows in
    let q = c.in_ok-request.ensures.borrows in
    rw (p.1, p.2, c.link-2-1.given.1 (sym (b.0 ∙ q.0)), c.clock-2-1.given.1 (sym (b.1 ∙ q.1)), c.disk-2-1.given.1 (sym (b.2 ∙ q.2)), c.entropy-2-1.given.1 (sym (b.3 ∙ q.3)), c.out-2-1.given.1 (sym (b.4 ∙ q.4)), c.capture-2-1.given.1 (sym (b.5 ∙ q.5)))
    (λ others history stands.
    answers_cut c.args.wait c.args.flags c.args.self.now c.request.new.self c.round.new.self _ _ _ history c.if-wait-eq0.false stands (c.in_ok-request.ensures.part others 0) e.sends_none c.in_err-result.field-0.0 e.never
    (e.round others))

pub returns-then-flags-eq0-clause-answers : goal.returns-then-flags-eq0-clause-answers
returns-then-flags-eq0-clause-answers g c =
    let e = c.in_ok-result.ensures in
    let b = e.borrows in
    let q = c.in_ok-request.ensures.borrows in
    rw (c.link-2-1.given.1 (sym (b.0 ∙ q.0)), c.clock-2-1.given.1 (sym (b.1 ∙ q.1)), c.disk-2-1.given.1 (sym (b.2 ∙ q.2)), c.entropy-2-1.given.1 (sym (b.3 ∙ q.3)), c.out-2-1.given.1 (sym (b.4 ∙ q.4)), c.capture-2-1.given.1 (sym (b.5 ∙ q.5)))
    (λ others history stands.
    answers_plain c.args.wait c.args.flags c.args.self.now c.request.new.self c.round.new.self _ _ _ history c.if-wait-eq0.false stands (c.in_ok-request.ensures.part others 0) e.sends_none c.in_ok-result.result c.if-flags-eq0.true
    (e.round others))

pub returns-else-flags-eq0-clause-answers : goal.returns-else-flags-eq0-clause-answers
returns-else-flags-eq0-clause-answers g c =
    let e = c.in_ok-result.ensures in
    let b = e.borrows in
    let q = c.in_ok-request.ensures.borrows in
    rw (c.link-2-1.given.1 (sym (b.0 ∙ q.0)), c.clock-2-1.given.1 (sym (b.1 ∙ q.1)), c.disk-2-1.given.1 (sym (b.2 ∙ q.2)), c.entropy-2-1.given.1 (sym (b.3 ∙ q.3)), c.out-2-1.given.1 (sym (b.4 ∙ q.4)), c.capture-2-1.given.1 (sym (b.5 ∙ q.5)))
    (λ others history stands.
    answers_result c.args.wait c.args.flags c.args.self.now c.request.new.self c.round.new.self _ _ _ history c.if-wait-eq0.false stands (c.in_ok-request.ensures.part others 0) e.sends_none c.in_ok-result.result c.if-flags-eq0.false
    (e.round others))

pub returns-in_err-result-clause-any_moment : goal.returns-in_err-result-clause-any_moment
returns-in_err-result-clause-any_moment g c =
    rw (c.disk-2-1.given.1 (sym (c.round.ensures.borrows.2 ∙ c.in_ok-request.ensures.borrows.2)), c.round.ensures.disk_alone) c.in_ok-request.ensures.any_moment

pub returns-then-flags-eq0-clause-any_moment : goal.returns-then-flags-eq0-clause-any_moment
returns-then-flags-eq0-clause-any_moment g c =
    rw (c.disk-2-1.given.1 (sym (c.round.ensures.borrows.2 ∙ c.in_ok-request.ensures.borrows.2)), c.round.ensures.disk_alone) c.in_ok-request.ensures.any_moment

pub returns-else-flags-eq0-clause-any_moment : goal.returns-else-flags-eq0-clause-any_moment
returns-else-flags-eq0-clause-any_moment g c =
    rw (c.disk-2-1.given.1 (sym (c.round.ensures.borrows.2 ∙ c.in_ok-request.ensures.borrows.2)), c.round.ensures.disk_alone) c.in_ok-request.ensures.any_moment
