use Rattle.std.proofs.Common.{◌≡◌, refl}
use Rattle.std.proofs.lemmas.Result.{err_from_is_err_and}
use Rattle.run_deeds.specs.declared.life_end.Why.TheVariants.{Done, SinkFault}
use Rattle.member_run.proofs.Takings.{no_record, takes_all}
use Rattle.member_run.proofs.running.Running.take.Goals as goal

pub returns-in_err-outcome-clause-takes : goal.returns-in_err-outcome-clause-takes
returns-in_err-outcome-clause-takes g c =
    let p = err_from_is_err_and c.from_residual.result c.from_residual.ensures.1 in
    let fault : c.in_err-outcome.field-0.0 ≡ SinkFault = cc c.in_err-outcome.ensures.why in
    let wrote = rw fault at c.in_err-outcome.ensures.record_bytes in
    rw (p.1, p.2, fault, c.in_err-outcome.ensures.err)
    (λ others history stands.
    no_record others _ history c.args.event.now c.args.self.now.member _ _ _ _ _ _ _ _ _ _ _ _ _ c.args.self.now.totals refl stands c.requires.fits wrote)

pub returns-in_err-write_line-clause-takes : goal.returns-in_err-write_line-clause-takes
returns-in_err-write_line-clause-takes g c =
    let p = err_from_is_err_and c.from_residual-in_err-write_line.result c.from_residual-in_err-write_line.ensures.1 in
    rw (p.1, p.2, c.act.ensures.clock)
    (λ others history stands.
    let step = c.in_ok-outcome.ensures.steps history stands in
    takes_all others _ history c.args.event.now c.in_ok-outcome.outcome c.act.new.self.member _ _ _ _ _ _ _ _ _ _ _ _ _ _ _ _ _ _ _ _ _ _
    (rw c.act.ensures.same c.in_ok-outcome.ensures.conf) (rw c.act.ensures.same step.1) c.requires.fits step.0 c.in_ok-outcome.ensures.record_bytes
    c.in_ok-outcome.ensures.totals c.act.ensures.acts c.in_err-write_line.ensures.bytes (λ is. c.in_err-write_line.ensures.has_line))

pub returns-clause-takes : goal.returns-clause-takes
returns-clause-takes g c =
    rw c.act.ensures.clock
    (λ others history stands.
    let step = c.in_ok-outcome.ensures.steps history stands in
    takes_all others _ history c.args.event.now c.in_ok-outcome.outcome c.act.new.self.member _ _ _ _ _ _ _ _ _ _ _ _ _ _ _ _ _ _ _ _ _ _
    (rw c.act.ensures.same c.in_ok-outcome.ensures.conf) (rw c.act.ensures.same step.1) c.requires.fits step.0 c.in_ok-outcome.ensures.record_bytes
    c.in_ok-outcome.ensures.totals c.act.ensures.acts c.in_ok-write_line.ensures.bytes (λ is. absurd (let no : Done ≡ SinkFault = is in let bad : ⊥ = cc in bad)))
