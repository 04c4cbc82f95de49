use Rattle.sntp_core.proofs.Standings.{answer_stands, stands_step}
use Rattle.std.proofs.Common.{◌∙◌}
use Rattle.time_machine.proofs.Counting.{moves_first}
use Rattle.sntp_core.specs.Standing.{conf_of}
use Rattle.sntp_core.proofs.member.Member.step.Goals as goal

pub returns-clause-answer : goal.returns-clause-answer
returns-clause-answer c = λ history s. c.advance.ensures.answer ∙ answer_stands c.args.self.now history c.args.event.now s

pub returns-clause-stands : goal.returns-clause-stands
returns-clause-stands c = λ history s. stands_step c.args.self.now c.advance.new.self history c.args.event.now s c.requires.admitted c.advance.ensures.conf c.advance.ensures.words

pub returns-clause-once : goal.returns-clause-once
returns-clause-once c = λ history s.
    let first = moves_first (conf_of c.args.self.now) history c.args.event.now s.grows in
    rw (c.advance.ensures.answer ∙ answer_stands c.args.self.now history c.args.event.now s) first
