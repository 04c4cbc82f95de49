use Rattle.std.proofs.Common.{◌∙◌, [], ◌∷◌, rules}
use Rattle.std.specs.Int.{w64}
use Rattle.std.proofs.lemmas.Int.{to_z-of_z}
use Rattle.std.proofs.lemmas.Result.{err_from_is_err_and}
use Rattle.capture_fmt.specs.Record as layout
use Rattle.capture_fmt.proofs.Fields.{first_here}
use Rattle.capture_fmt.proofs.Records.{cut_number, past_reading, read_tick}
use Rattle.capture_fmt.proofs.decode.tick_at.Goals as goal

pub returns-in_err-word-clause-flaw : goal.returns-in_err-word-clause-flaw
returns-in_err-word-clause-flaw c =
    let p = err_from_is_err_and c.from_residual-in_err-word.result c.from_residual-in_err-word.ensures.1 in
    let reading = c.in_ok-now.ensures.found in
    rw (p.1, p.2)
    (past_reading (layout.word ∷ []) c.in_ok-now.now c.args.bytes.now c.in_ok-now.rest.now reading.0 reading.1
    ∙ first_here layout.word [] c.in_ok-now.rest.now _ (cut_number layout.word c.in_ok-now.rest.now _ c.in_err-word.ensures.flaw))

pub returns-clause-found : goal.returns-clause-found
returns-clause-found c =
    let same = to_z-of_z w64 c.in_ok-now.now (search rules) in
    let reading = c.in_ok-now.ensures.found in
    let word = c.in_ok-word.ensures.found in
    rw same
    ((reading.0, word.0), read_tick c.in_ok-now.now c.in_ok-word.word c.args.bytes.now c.in_ok-now.rest.now c.in_ok-word.rest.now reading.1 word.1)
