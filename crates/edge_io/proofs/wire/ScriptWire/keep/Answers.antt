use Rattle.std.proofs.Common.{rules, ◌≡◌, subst, sym}
use Rattle.edge_io.specs.contracts.wire.ScriptWire.{the_view}
use Rattle.edge_io.specs.WireScript.{told_of, with_answer, WireScript}
use Rattle.edge_traits.specs.Wire.{Opens}
use Rattle.edge_io.proofs.Sessions.{keeps, opened_in-other}
use Rattle.edge_io.proofs.wire.ScriptWire.keep.Goals as goal

pub invariant_of-self : goal.invariant_of-self
invariant_of-self c = (search rules, search rules, search rules, search rules, search rules, search (rules, opened_in-other))

pub returns-else-is_err-clause-told : goal.returns-else-is_err-clause-told
returns-else-is_err-clause-told c =
    let now = c.args.self.now in
    let same : the_view (record c.self.inside { answers = c.push.new.self }) ≡ record now { earlier = with_answer now.room c.args.answer now.earlier } = search rules in
    subst (λ (w : WireScript). Opens c.args.answer (told_of now) (told_of w)) (sym same)
    (keeps _ now c.args.answer c.self.view_is c.requires.closed c.requires.other c.self.invariant.5)
