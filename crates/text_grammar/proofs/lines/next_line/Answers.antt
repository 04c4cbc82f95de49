use Rattle.std.proofs.Common.{◌≡◌, ◌∷◌, length, sym, ◌∙◌, ap, arith}
use Rattle.std.specs.Str.Lines.{lines}
use Rattle.text_grammar.proofs.LineLemmas.{lines_at, lines_last}
use Rattle.text_grammar.proofs.lines.next_line.Goals as goal

pub returns-in-Some-clause-line : goal.returns-in-Some-clause-line
returns-in-Some-clause-line c =
    let line = c.in-Some.line.now in
    let rest = c.in-Some.rest.now in
    ap lines c.in-Some.ensures.parts ∙ lines_at line rest c.in-Some.ensures.first ∙ ap (λ l. l ∷ lines rest) (sym c.without_carriage_return.ensures)

pub returns-in-None-clause-line : goal.returns-in-None-clause-line
returns-in-None-clause-line c =
    lines_last c.args.text.now c.in-None.ensures.none (λ empty. let len : length c.args.text.now ≡ 0 = ap length empty in grind arith)
