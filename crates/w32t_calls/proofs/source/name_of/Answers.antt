use Rattle.std.proofs.Common.{◌≡◌, ℕ, ◌+◌, ◌-◌, ◌*◌, ◌≤◌, ap, arith, rules, subst}
use Rattle.std.specs.Prelude.{IfSome}
use Rattle.byte_codec.specs.Numbers.{part_at}
use Rattle.w32t_calls.specs.Replies.{SpellsUnits}
use Rattle.w32t_calls.specs.Stubs.{rounded_to_four}
use Rattle.w32t_calls.proofs.Sources.{spelled}
use Rattle.w32t_calls.proofs.source.name_of.Goals as goal

pub returns-clause-name : goal.returns-clause-name
returns-clause-name c =
    let stub = c.args.stub.now in
    let count = c.word_at.result in
    let least : 2 ≤ count = search rules in
    let most : count ≤ 64 = search rules in
    let end = 16 + c.rounded_to_four-end.result in
    let ends : end ≡ 16 + rounded_to_four (2 * count) = ap (λ (n : ℕ). 16 + n) c.rounded_to_four-end.ensures in
    let units_end : 16 + 2 * count - 16 ≡ 2 * count = omega arith in
    let units = subst (λ (n : ℕ). IfSome c.name_in.result (λ name. SpellsUnits name (part_at 16 n stub))) units_end c.name_in.ensures.name in
    let fields = c.has_fields.ensures.0 c.if-not-has_fields.false in
    spelled stub count end c.name_in.result c.word_at.ensures least most ends (omega arith)
    fields.0 fields.1 fields.2 fields.3 units
