use Rattle.std.proofs.Common.{◌≡◌, ◌++◌, List, ℕ, length, arith, sym, ap, ◌∙◌, subst}
use Rattle.std.specs.Str.{IsAscii}
use Rattle.std.proofs.lemmas.Str.{IsAscii-append}
use Rattle.hex.specs.Hex.{encode_lower}
use Rattle.line_text.proofs.Digits.{digits_ascii, length_with}
use Rattle.line_text.proofs.line.Line.add_hex.Goals as goal

pub invariant_of-self : goal.invariant_of-self
invariant_of-self g c =
    let old = c.self.inside.bytes.items in
    let items : c.add.new.bytes.items ≡ old ++ encode_lower c.args.bytes.now = c.add.ensures.items ∙ ap (λ (l : List ℕ). old ++ l) c.write_digits.ensures in
    let before = ap length c.self.view_is in
    (omega (arith, length_with old c.add.new.bytes.items c.args.bytes.now items, before), subst IsAscii (sym items) (IsAscii-append old _ c.self.invariant.1 (digits_ascii c.args.bytes.now)))

pub returns-clause-len : goal.returns-clause-len
returns-clause-len g c =
    let old = c.self.inside.bytes.items in
    let items : c.add.new.bytes.items ≡ old ++ encode_lower c.args.bytes.now = c.add.ensures.items ∙ ap (λ (l : List ℕ). old ++ l) c.write_digits.ensures in
    let before = ap length c.self.view_is in
    omega (arith, length_with old c.add.new.bytes.items c.args.bytes.now items, before)
