use Rattle.std.proofs.Common.{◌≡◌, [], Ok, Err, refl, ◌∙◌, ap, arith}
use Rattle.std.specs.Str.Lines.{lines}
use Rattle.std.proofs.lemmas.Result.{err_from_is_err_and}
use Rattle.text_grammar.proofs.Progress.{read_all}
use Rattle.key_book.specs.AccountText.{account_text}
use Rattle.key_book.proofs.Parsings.{exact_from, read_more, bad_answer}
use Rattle.key_book.proofs.parse.parse_accounts.Goals as goal

pub loop-line-preserved : goal.loop-line-preserved
loop-line-preserved c =
    let read = rw c.in-Some.ensures.line at c.loop-line.invariant.read in
    record {
      read = read_more _ c.loop-line.number c.in-Some.line.now (lines c.in-Some.rest.now) c.loop-line.book c.add_line.new.book _ read c.in_ok-add_line.ensures;
      few = omega (arith, c.in-Some.ensures.shorter, c.loop-line.invariant.few);
    }

pub returns-in_err-add_line-clause-exact : goal.returns-in_err-add_line-clause-exact
returns-in_err-add_line-clause-exact c answer true_of some =
    let read = rw c.in-Some.ensures.line at c.loop-line.invariant.read in
    let bad = bad_answer _ c.loop-line.number c.in-Some.line.now (lines c.in-Some.rest.now) c.loop-line.book c.add_line.new.book _ read c.in_err-add_line.ensures in
    let err = err_from_is_err_and c.from_residual.result c.from_residual.ensures.1 in
    let same : c.from_residual.result ≡ Err c.in_err-add_line.field-0.0 = err.1 ∙ ap Err err.2 in
    exact_from (lines c.args.text.now) c.from_residual.result answer (rw same bad) true_of some

pub returns-clause-exact : goal.returns-clause-exact
returns-clause-exact c answer true_of some =
    let empty : lines c.loop-line.left.now ≡ [] = ap lines (c.in_default.ensures.none.0 refl) in
    let read = rw empty at c.loop-line.invariant.read in
    exact_from (lines c.args.text.now) (Ok c.loop-line.book) answer (read_all account_text _ _ _ read) true_of some
