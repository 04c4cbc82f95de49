use Rattle.w32tm_text.specs.Words.{texts}
use Rattle.w32tm_text.proofs.Givens.{flag_is}
use Rattle.w32tm_text.proofs.options.is_given.Goals as goal

pub returns : goal.returns
returns c =
    flag_is c.args.name (texts c.args.words.now.items) c.given_from.result c.is_some.result c.is_some.ensures c.given_from.ensures.gives c.given_from.ensures.none
