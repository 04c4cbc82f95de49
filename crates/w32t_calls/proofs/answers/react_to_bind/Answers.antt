use Rattle.std.proofs.Common.{arith, ◌∙◌, ap}
use Rattle.w32t_calls.specs.declared.reaction.Reaction.TheVariants.{Answers, Binds}
use Rattle.w32t_calls.proofs.Offered.{bind_reacts, bind_refused}
use Rattle.w32t_calls.proofs.answers.react_to_bind.Goals as goal

pub returns-then-bind-gt-OFFERED : goal.returns-then-bind-gt-OFFERED
returns-then-bind-gt-OFFERED c =
    ap Answers c.bind_nak.ensures ∙ bind_refused c.read_bind-bind.result c.args.pdu.now c.read_bind-bind.ensures (omega (arith, c.if-bind-gt-OFFERED.true))

pub returns : goal.returns
returns c =
    let ack = c.bind_ack.ensures in
    let kept = c.of-accepted.ensures in
    (λ i. Binds (ack i) (kept i)) ∙ bind_reacts c.read_bind-bind.result c.args.pdu.now c.read_bind-bind.ensures (omega (arith, c.if-bind-gt-OFFERED.false))
