use Rattle.std.proofs.Common.{true, refl, sym, ap}
use Rattle.std.specs.Prelude.{not}
use Rattle.partner_pick.proofs.SameNames.{distinct_after, none_has, one_has}
use Rattle.partner_pick.proofs.directory.Directory.add.Goals.{in-Ok-true, in-Ok-false, in-Err}
use Rattle.partner_pick.proofs.directory.Directory.add.Goals as goal

pub invariant_of-self : goal.invariant_of-self
invariant_of-self c =
    distinct_after c.insert.result c.self.inside.entries.keys c.insert.new.self.keys c.new.result c.self.invariant c.insert.ensures.keys c.insert.ensures.err

pub returns-clause-twice : goal.returns-clause-twice
returns-clause-twice c =
    let entries = c.self.inside.entries.keys in
    let now = c.args.self.now in
    elim c.match-insert.branch [
      | in-Ok-true w ↦
          let added = none_has entries now c.new.result c.args.entry w.in-Ok-true.field-0 c.self.view_is c.new.ensures w.in-Ok-true.field-0-test w.in-Ok-true.ensures.added in
          (λ is. absurd (cc (w.result-is, is)), λ has. absurd (added has))
      | in-Ok-false w ↦
          let has = one_has entries now c.new.result c.args.entry w.in-Ok-false.field-0 c.self.view_is c.new.ensures w.in-Ok-false.field-0-test w.in-Ok-false.ensures.added in
          (λ is. has, λ has. w.result-is)
      | in-Err w ↦
          let added = none_has entries now c.new.result c.args.entry true c.self.view_is c.new.ensures refl (sym (ap not w.in-Err.ensures.absent)) in
          (λ is. absurd (cc (w.result-is, is)), λ has. absurd (added has))
    ]
