use Rattle.std.proofs.Common.{inr, refl}
use Rattle.w32tm_text.specs.Words.{texts}
use Rattle.w32tm_text.proofs.Givens.{target_named}
use Rattle.w32tm_text.proofs.options.target_of.Goals as goal

pub returns-in-Some-clause-found : goal.returns-in-Some-clause-found
returns-in-Some-clause-found c addr single spells =
    c.read_target.ensures.found addr (target_named (texts c.args.words.now.items) c.in-Some.field-0-0 c.in-Some.target.now addr single c.in-Some.ensures.gives spells)

pub returns-in-None-clause-read : goal.returns-in-None-clause-read
returns-in-None-clause-read c = inr record { missing = λ place value gives. c.in-None.ensures.none place value gives.behind gives; own = refl }
