use Rattle.std.proofs.Common.{rules, ◌≡◌, All, Some, subst, sym}
use Rattle.std.proofs.lemmas.List.Elements.{All-drop}
use Rattle.edge_io.specs.contracts.wire.ScriptWire.{the_view}
use Rattle.edge_io.specs.SessionScript.{IsFresh}
use Rattle.edge_io.specs.WireScript.{begun, first_session}
use Rattle.edge_io.proofs.Sessions.{begins}
use Rattle.edge_io.proofs.wire.ScriptWire.begin.Goals as goal

pub invariant_of-self-2 : goal.invariant_of-self-2
invariant_of-self-2 c =
    let waiting = c.self.inside.waiting.items in
    let left : All IsFresh c.pop_front.new.self.items =
    subst (All IsFresh) (sym c.pop_front.ensures.rest) (All-drop IsFresh 1 waiting c.self.invariant.2) in
    (search rules, search rules, left, search rules, search rules, search rules)

-- the session that was the first of those waiting is open, and nothing was done with it
pub returns-clause-told : goal.returns-clause-told
returns-clause-told c =
    let now = c.args.self.now in
    let new = the_view (record c.self.inside { waiting = c.pop_front.new.self; current = Some c.in-Some.session; is_telling = c.if-self.self }) in
    let is : new ≡ begun now = search rules in
    let first : first_session now.waiting ≡ Some c.in-Some.session = search rules in
    let fresh_told : IsFresh c.in-Some.session = search rules in
    λ any. begins now new c.in-Some.session c.requires is first fresh_told
