use Rattle.std.proofs.Common.{rules}
use borrow.Author.Tests.{tests}
use Rattle.std.proofs.lemmas.Iterator.{YieldsList-from_slice, cases_from_any}
use Rattle.w32tm_text.specs.declared.options.OptionName.{OptionName}
use Rattle.w32tm_text.specs.Given.{TakesOption}
use Rattle.w32tm_text.proofs.Givens.{any_decided, names}
use Rattle.w32tm_text.proofs.words.Action.has_word.Goals as goal

pub returns : goal.returns
returns c =
    let takes = λ (name : OptionName). TakesOption c.args.self.now c.args.word.now name in
    let both = any_decided takes c.any.result
    (cases_from_any _ _ _ takes (λ name. takes name → ⊥) c.any.ensures.ran (YieldsList-from_slice names c.iter.ensures.rest) (λ x q k. search (rules, tests)) (λ x q k. search (rules, tests))) in (
      λ yes. let (name, took) = both.0 yes in record { name = name; value = took.value; has = took.has; gives = took.gives },
      λ one. both.1 one.name record { value = one.value; has = one.has; gives = one.gives },
    )
