use Rattle.std.proofs.Common.{◌≡◌, ◌<◌, length, false, arith}
use Rattle.w32tm_text.specs.Words.{texts}
use Rattle.w32tm_text.proofs.Givens.{path_is}
use Rattle.w32tm_text.proofs.options.path_of.Goals as goal

pub returns-in-Some-clause-found : goal.returns-in-Some-clause-found
returns-in-Some-clause-found c place single spells =
    let is = path_is c.args.name (texts c.args.words.now.items) c.in-Some.place c.in-Some.path.now place c.in-Some.ensures.gives single spells in
    let some : 0 < length c.in-Some.path.now = is.1 in
    let full : c.is_empty.result ≡ false = grind (arith, c.is_empty.ensures, some) in
    cc (c.then_some.ensures, full, is.0)
