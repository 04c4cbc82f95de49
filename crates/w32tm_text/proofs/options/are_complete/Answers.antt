use Rattle.std.proofs.Common.{rules}
use borrow.Author.Tests.{tests}
use Rattle.std.proofs.lemmas.Iterator.{YieldsList-from_slice, cases_from_all}
use Rattle.w32tm_text.specs.declared.options.OptionName.{OptionName}
use Rattle.w32tm_text.specs.Given.{IsComplete}
use Rattle.w32tm_text.specs.Words.{texts}
use Rattle.w32tm_text.proofs.Givens.{all_decided, names}
use Rattle.w32tm_text.proofs.options.are_complete.Goals as goal

pub returns : goal.returns
returns c =
    let complete = λ (name : OptionName). IsComplete c.args.action.now (texts c.args.words.now.items) name in
    all_decided complete c.all.result
    (cases_from_all _ _ _ complete (λ name. complete name → ⊥) c.all.ensures.ran (YieldsList-from_slice names c.iter.ensures.rest) (λ x q k. search (rules, tests)) (λ x q k. search (rules, tests)))
