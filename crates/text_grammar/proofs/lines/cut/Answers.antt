use Rattle.std.proofs.Common.{◌≤◌, ◌+◌, ◌-◌, length, take, drop, sym, ◌∙◌, arith, take_all, length-drop}
use Rattle.text_grammar.specs.Bytes.{HasNo}
use Rattle.text_grammar.proofs.Cuts.{one_cut, is_there}
use Rattle.text_grammar.proofs.lines.cut.Goals as goal

-- where the byte stands, a place of it is found
pub returns-in_err-at-clause-found : goal.returns-in_err-at-clause-found
returns-in_err-at-clause-found c front back none is =
    let missing : HasNo c.args.byte c.args.text.now = c.in_err-at.ensures.none in
    absurd (is_there c.args.byte front back (rw is at missing))

-- and the cut there is the only one
pub returns-clause-found : goal.returns-clause-found
returns-clause-found c front back none is =
    let text = c.args.text.now in
    let at = c.in_ok-at.at in
    let one = one_cut c.args.byte (take at text) (drop (at + 1) text) front back c.in_ok-at.ensures.first none (sym c.in_ok-at.ensures.parts ∙ is) in
    let enough : length (drop (at + 1) text) ≤ length text - (at + 1) = omega (arith, length-drop (at + 1) text) in
    (one.0, rw take_all one.1)
