use Rattle.std.proofs.Common.{ap, rules}
use Rattle.w32t_calls.specs.Calling.{Client}
use Rattle.client_run.proofs.Endings.{bind_talks, call_talks}
use Rattle.client_run.proofs.asking.ask_in.Goals as goal

pub returns-in_err-bind-clause-talks : goal.returns-in_err-bind-clause-talks
returns-in_err-bind-clause-talks g c =
    bind_talks c.args.call c.in_err-bind.field-0.0 _ _ _ c.new-caller.result.reader c.bind.new.self.reader _
    c.requires.open (ap (λ (k : Client). k.reader.place) c.new-caller.ensures) c.in_err-bind.ensures.asks (search rules)

pub returns-clause-talks : goal.returns-clause-talks
returns-clause-talks g c =
    call_talks c.args.call c.answer_to.result _ _ _ c.new-caller.result.reader c.bind.new.self.reader _ _ _
    c.requires.open c.in_ok-bind.ensures.open (ap (λ (k : Client). k.reader.place) c.new-caller.ensures) c.in_ok-bind.ensures.asks c.answer_to.ensures.asks
