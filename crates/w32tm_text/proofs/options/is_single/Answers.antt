use Rattle.w32tm_text.specs.Words.{texts}
use Rattle.w32tm_text.proofs.Givens.{single_is}
use Rattle.w32tm_text.proofs.options.is_single.Goals as goal

pub returns-in-Some : goal.returns-in-Some
returns-in-Some c =
    single_is c.args.name (texts c.args.words.now.items) c.in-Some.place c.in-Some.field-0-1.now c.given_from-in-Some.result c.is_none.result c.is_none.ensures
    c.in-Some.ensures.gives c.in-Some.ensures.first c.given_from-in-Some.ensures.after c.given_from-in-Some.ensures.gives c.given_from-in-Some.ensures.none
