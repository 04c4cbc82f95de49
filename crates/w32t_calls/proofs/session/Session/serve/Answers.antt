use Rattle.std.proofs.Common.{◌≡◌, true, List, Option, Result, Ok, Err, sym, ◌∙◌, ap, arith, subst, rules}
use Rattle.w32t_calls.specs.declared.call.Call.{Call}
use Rattle.w32t_calls.specs.declared.call.Given.{Given}
use Rattle.w32t_calls.specs.declared.end.SessionEnd.{SessionEnd}
use Rattle.w32t_calls.specs.declared.end.SessionEnd.TheVariants as end
use Rattle.w32t_calls.specs.Standing.{HasServed, Server, ServesOn}
use Rattle.w32t_calls.specs.Steps.{StepsOn}
use Rattle.w32t_calls.proofs.Going.{going_step, run_err, run_ok, run_spent, tell_last, tell_spent}
use Rattle.w32t_calls.proofs.session.Session.serve.Goals as goal

pub loop-self-preserved : goal.loop-self-preserved
loop-self-preserved g c =
    going_step c.args.self.now c.loop-self.self c.step.new.self _ _ _ _ _ _ _ _ _ _ _ _ c.step.result c.loop-self.invariant (c.in_ok-call.was ∙ ap Ok c.in_default.is)
    c.step.ensures.keeps c.step.ensures.told c.step.ensures.run (λ closed. (c.step.ensures.no_session closed).2) c.step.ensures.cause c.step.ensures.sessions c.step.ensures.open

pub returns-in_err-call-clause-run : goal.returns-in_err-call-clause-run
returns-in_err-call-clause-run g c answers is_open served =
    let why = c.in_err-call.field-0.0 in
    let same : c.from_residual.result ≡ Err why = search rules in
    subst (λ (r : Result Call SessionEnd). ServesOn r answers c.step.new.self (g.W.Wire.told c.args.wire.now) (g.W.Wire.told c.step.new.wire)) (sym same)
    (run_err c.args.self.now c.loop-self.self c.step.new.self _ _ (g.W.Wire.is_open c.step.new.wire) _ _ _ _ _ (g.W.Wire.faults c.step.new.wire) _ _ (g.W.Wire.write_faults c.step.new.wire)
    c.loop-self.invariant why c.in_err-call.ensures.run answers is_open served)

pub returns-in-Some-clause-run : goal.returns-in-Some-clause-run
returns-in-Some-clause-run g c answers is_open served =
    let runs = subst (λ (found : Option Call). (answers : List Given) → g.W.Wire.is_open c.loop-self.wire ≡ true → HasServed answers c.loop-self.self (g.W.Wire.told c.loop-self.wire)
    → StepsOn (Ok found) answers c.step.new.self (g.W.Wire.told c.loop-self.wire) (g.W.Wire.told c.step.new.wire)) c.in-Some.is c.in_ok-call.ensures.run in
    run_ok c.args.self.now c.loop-self.self c.step.new.self _ _ (g.W.Wire.is_open c.step.new.wire) _ _ _ _ _ (g.W.Wire.faults c.step.new.wire) _ _ (g.W.Wire.write_faults c.step.new.wire)
    c.loop-self.invariant c.in-Some.call runs answers is_open served

pub returns-clause-told : goal.returns-clause-told
returns-clause-told g c bytes leaves no_read no_write =
    let spent : c.loop-self.self.pdus ≡ 10000 = omega (arith, c.loop-self-test.false, c.self.invariant.2, ap (λ (s : Server). s.pdus) c.self.view_is) in
    tell_last c.args.self.now c.loop-self.self _ _ _ _ _ _ _ _ c.loop-self.invariant (Err end.Spent)
    (λ rest left. tell_spent c.loop-self.self rest c.loop-self.invariant.idle.1 spent) bytes leaves

pub returns-clause-run : goal.returns-clause-run
returns-clause-run g c answers is_open served =
    let spent : c.loop-self.self.pdus ≡ 10000 = omega (arith, c.loop-self-test.false, c.self.invariant.2, ap (λ (s : Server). s.pdus) c.self.view_is) in
    run_spent c.loop-self.self answers _ _ c.loop-self.invariant.idle.1 spent (c.loop-self.invariant.runs answers is_open served)
