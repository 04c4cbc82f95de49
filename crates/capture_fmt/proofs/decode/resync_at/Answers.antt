use Rattle.std.proofs.Common.{◌∙◌, [], ◌∷◌, rules}
use Rattle.std.specs.Int.{w64}
use Rattle.std.proofs.lemmas.Int.{to_z-of_z}
use Rattle.std.proofs.lemmas.Result.{err_from_is_err_and}
use Rattle.capture_fmt.specs.Record as layout
use Rattle.capture_fmt.proofs.Fields.{first_here}
use Rattle.capture_fmt.proofs.Records.{cut_number, past_reading, past_word, read_resync}
use Rattle.capture_fmt.proofs.decode.resync_at.Goals as goal

pub returns-in_err-word-clause-flaw : goal.returns-in_err-word-clause-flaw
returns-in_err-word-clause-flaw c =
    let p = err_from_is_err_and c.from_residual-in_err-word.result c.from_residual-in_err-word.ensures.1 in
    let reading = c.in_ok-now.ensures.found in
    rw (p.1, p.2)
    (past_reading (layout.word ∷ layout.word ∷ []) c.in_ok-now.now c.args.bytes.now c.in_ok-now.rest.now reading.0 reading.1
    ∙ first_here layout.word (layout.word ∷ []) c.in_ok-now.rest.now _ (cut_number layout.word c.in_ok-now.rest.now _ c.in_err-word.ensures.flaw))

pub returns-in_err-flags-clause-flaw : goal.returns-in_err-flags-clause-flaw
returns-in_err-flags-clause-flaw c =
    let p = err_from_is_err_and c.from_residual-in_err-flags.result c.from_residual-in_err-flags.ensures.1 in
    let reading = c.in_ok-now.ensures.found in
    let word = c.in_ok-word.ensures.found in
    rw (p.1, p.2)
    (past_reading (layout.word ∷ layout.word ∷ []) c.in_ok-now.now c.args.bytes.now c.in_ok-now.rest.now reading.0 reading.1
    ∙ past_word (layout.word ∷ []) c.in_ok-word.word c.in_ok-now.rest.now c.in_ok-word.rest.now word.0 word.1
    ∙ first_here layout.word [] c.in_ok-word.rest.now _ (cut_number layout.word c.in_ok-word.rest.now _ c.in_err-flags.ensures.flaw))

pub returns-clause-found : goal.returns-clause-found
returns-clause-found c =
    let same = to_z-of_z w64 c.in_ok-now.now (search rules) in
    let reading = c.in_ok-now.ensures.found in
    let word = c.in_ok-word.ensures.found in
    let flags = c.in_ok-flags.ensures.found in
    rw same (
      (reading.0, word.0, flags.0),
      read_resync c.in_ok-now.now c.in_ok-word.word c.in_ok-flags.flags c.args.bytes.now c.in_ok-now.rest.now c.in_ok-word.rest.now c.in_ok-flags.rest.now reading.1 word.1 flags.1,
    )
