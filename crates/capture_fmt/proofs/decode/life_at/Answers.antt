use Rattle.std.proofs.Common.{◌∙◌, [], ◌∷◌, rules}
use Rattle.std.specs.Int.{w64}
use Rattle.std.proofs.lemmas.Int.{to_z-of_z}
use Rattle.std.proofs.lemmas.Result.{err_from_is_err_and}
use Rattle.capture_fmt.specs.Record as layout
use Rattle.capture_fmt.proofs.Fields.{first_here}
use Rattle.capture_fmt.proofs.Records.{cut_number, past_magic, past_reading, read_life}
use Rattle.capture_fmt.proofs.decode.life_at.Goals as goal

pub returns-in_err-now-clause-flaw : goal.returns-in_err-now-clause-flaw
returns-in_err-now-clause-flaw c =
    let p = err_from_is_err_and c.from_residual-in_err-now.result c.from_residual-in_err-now.ensures.1 in
    let magic = c.in_ok-rest.ensures.found in
    rw (p.1, p.2)
    (past_magic (layout.reading ∷ layout.word ∷ []) c.args.bytes.now c.in_ok-rest.rest.now magic
    ∙ first_here layout.reading (layout.word ∷ []) c.in_ok-rest.rest.now _ c.in_err-now.ensures.flaw)

pub returns-in_err-mark-clause-flaw : goal.returns-in_err-mark-clause-flaw
returns-in_err-mark-clause-flaw c =
    let p = err_from_is_err_and c.from_residual-in_err-mark.result c.from_residual-in_err-mark.ensures.1 in
    let magic = c.in_ok-rest.ensures.found in
    let reading = c.in_ok-now.ensures.found in
    rw (p.1, p.2)
    (past_magic (layout.reading ∷ layout.word ∷ []) c.args.bytes.now c.in_ok-rest.rest.now magic
    ∙ past_reading (layout.word ∷ []) c.in_ok-now.now c.in_ok-rest.rest.now c.in_ok-now.rest.now reading.0 reading.1
    ∙ first_here layout.word [] c.in_ok-now.rest.now _ (cut_number layout.word c.in_ok-now.rest.now _ c.in_err-mark.ensures.flaw))

pub returns-clause-found : goal.returns-clause-found
returns-clause-found c =
    let same = to_z-of_z w64 c.in_ok-now.now (search rules) in
    let reading = c.in_ok-now.ensures.found in
    let mark = c.in_ok-mark.ensures.found in
    rw same (
      (reading.0, mark.0),
      read_life c.in_ok-now.now c.in_ok-mark.mark c.args.bytes.now c.in_ok-rest.rest.now c.in_ok-now.rest.now c.in_ok-mark.rest.now c.in_ok-rest.ensures.found reading.1 mark.1,
    )
