use Rattle.std.proofs.lemmas.Bool.Decides.{Decides-eqb}
use Rattle.std.proofs.lemmas.Slice.Eq.{strip_prefix_is}
use Rattle.w32tm_text.proofs.Spelling.{stripped, stripped_found}
use Rattle.w32tm_text.proofs.words.behind.Goals as goal

pub returns-clause-read : goal.returns-clause-read
returns-clause-read c =
    stripped c.args.word.now c.args.name.now c.strip_prefix.result (strip_prefix_is Decides-eqb c.args.word.now c.args.name.now c.strip_prefix.result c.strip_prefix.ensures.cases)

pub returns-clause-found : goal.returns-clause-found
returns-clause-found c text is =
    stripped_found c.args.word.now c.args.name.now c.strip_prefix.result (strip_prefix_is Decides-eqb c.args.word.now c.args.name.now c.strip_prefix.result c.strip_prefix.ensures.cases) text is
