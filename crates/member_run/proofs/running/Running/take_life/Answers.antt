use Rattle.std.proofs.Common.{◌≡◌, refl}
use Rattle.std.proofs.lemmas.Result.{err_from_is_err_and}
use Rattle.run_deeds.specs.declared.life_end.Why.TheVariants.{SinkFault}
use Rattle.member_run.proofs.Beginning.{life_last, life_totals, on_fault, on_ok_always, takes_life}
use Rattle.member_run.proofs.Takings.{no_record}
use Rattle.member_run.proofs.running.Running.take_life.Goals as goal

pub returns-in_err-outcome-clause-takes : goal.returns-in_err-outcome-clause-takes
returns-in_err-outcome-clause-takes g c =
    let p = err_from_is_err_and c.from_residual.result c.from_residual.ensures.1 in
    let fault : c.in_err-outcome.field-0.0 ≡ SinkFault = cc c.in_err-outcome.ensures.why in
    let wrote = rw fault at c.in_err-outcome.ensures.record_bytes in
    rw (p.1, p.2, fault, c.in_err-outcome.ensures.err)
    (λ others history stands.
    no_record others _ history c.args.event.now c.args.self.now.member others.link others.clock others.words _ _ _ others.link_faults others.clock_faults others.entropy_faults others.disk_faults _ _ _ c.args.self.now.totals refl stands c.requires.fits wrote)

pub returns-clause-takes : goal.returns-clause-takes
returns-clause-takes g c = λ others history stands.
    let step = c.in_ok-outcome.ensures.steps history stands in
    takes_life others _ history c.args.event.now c.in_ok-outcome.outcome c.step.new.self.member others.link others.clock others.words _ _ _ _ others.link_faults others.clock_faults others.entropy_faults others.disk_faults _ _ _ _ _ _ _
    c.requires.life c.in_ok-outcome.ensures.conf step.1 c.requires.fits step.0 c.in_ok-outcome.ensures.record_bytes c.in_ok-outcome.ensures.totals c.write_line.ensures.bytes
    (on_fault c.write_line.result c.write_line.ensures.has_line)

pub returns-clause-last : goal.returns-clause-last
returns-clause-last g c =
    on_ok_always c.write_line.result
    (λ history stands.
    life_last _ history c.args.event.now c.in_ok-outcome.outcome _ _ c.requires.life (c.in_ok-outcome.ensures.steps history stands).0 c.in_ok-outcome.ensures.last)

pub returns-clause-totals : goal.returns-clause-totals
returns-clause-totals g c = λ history stands.
    life_totals _ history c.args.event.now c.in_ok-outcome.outcome c.args.self.now.totals c.step.new.self.totals c.requires.life
    (c.in_ok-outcome.ensures.steps history stands).0 c.in_ok-outcome.ensures.totals
