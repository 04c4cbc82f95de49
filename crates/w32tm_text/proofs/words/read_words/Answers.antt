use Rattle.std.proofs.Common.{Option, ap, ◌∙◌}
use Rattle.std.specs.Option.{ok_or}
use Rattle.w32tm_text.proofs.words.read_words.Goals as goal

pub returns-clause-found : goal.returns-clause-found
returns-clause-found c other spelled =
    c.ok_or.ensures.value ∙ ap (λ (command : Option _). ok_or command _) (c.read_command.ensures.found other spelled)
