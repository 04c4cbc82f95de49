use Rattle.std.proofs.Common.{rules, ◌≡◌, ap, ◌∙◌}
use Rattle.edge_io.specs.contracts.wire.ScriptWire.{the_view}
use Rattle.edge_io.specs.WireScript.{closed_up, told_of}
use Rattle.edge_io.proofs.Sessions.{closes, opened_in-session}
use Rattle.edge_io.proofs.wire.ScriptWire.close.Goals as goal

pub invariant_of-self : goal.invariant_of-self
invariant_of-self c = (search rules, search rules, search rules, search rules, search rules, search (rules, opened_in-session))

pub returns-else-is_err-2-clause-told : goal.returns-else-is_err-2-clause-told
returns-else-is_err-2-clause-told c =
    let same : the_view c.if-self.self-inside ≡ closed_up c.args.self.now = search rules in
    ap told_of same ∙ closes _ c.args.self.now c.self.view_is c.self.invariant.5
