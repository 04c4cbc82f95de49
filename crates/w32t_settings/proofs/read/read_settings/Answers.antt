use Rattle.std.proofs.Common.{◌≡◌, [], Err, refl, ◌∙◌, ap, arith}
use Rattle.std.specs.Str.Lines.{lines}
use Rattle.std.proofs.lemmas.Result.{err_from_is_err_and}
use Rattle.w32t_settings.specs.declared.settings.SettingsFault.TheVariants.{BadConfig}
use Rattle.w32t_settings.proofs.Amounts.{all_fit}
use Rattle.w32t_settings.proofs.Exact.{exact_from}
use Rattle.w32t_settings.proofs.Reading.{kept_more, bad_answer, kept_all, long_answer, end_answer}
use Rattle.w32t_settings.proofs.read.read_settings.Goals as goal

pub loop-line-preserved : goal.loop-line-preserved
loop-line-preserved c =
    let kept = rw c.in-Some.ensures.line at c.loop-line.invariant.kept in
    record {
      kept = kept_more _ c.loop-line.number c.in-Some.line.now (lines c.in-Some.rest.now) c.loop-line.draft c.take.new.self _ kept (c.in_ok-take.ensures kept.items kept.holds);
      few = omega (arith, c.in-Some.ensures.shorter, c.loop-line.invariant.few);
    }

pub returns-in_err-take-clause-answer : goal.returns-in_err-take-clause-answer
returns-in_err-take-clause-answer c =
    let kept = rw c.in-Some.ensures.line at c.loop-line.invariant.kept in
    let bad = bad_answer c.args.text.now c.loop-line.number c.in-Some.line.now (lines c.in-Some.rest.now) c.loop-line.draft c.take.new.self _ c.requires kept (c.in_err-take.ensures kept.items kept.holds) in
    let err = err_from_is_err_and c.from_residual.result c.from_residual.ensures.1 in
    let same : c.from_residual.result ≡ Err c.in_err-take.field-0.0 = err.1 ∙ ap Err err.2 in
    rw same bad

pub returns-in_err-take-clause-exact : goal.returns-in_err-take-clause-exact
returns-in_err-take-clause-exact c answer true_of some =
    let kept = rw c.in-Some.ensures.line at c.loop-line.invariant.kept in
    let bad = bad_answer c.args.text.now c.loop-line.number c.in-Some.line.now (lines c.in-Some.rest.now) c.loop-line.draft c.take.new.self _ c.requires kept (c.in_err-take.ensures kept.items kept.holds) in
    let err = err_from_is_err_and c.from_residual.result c.from_residual.ensures.1 in
    let same : c.from_residual.result ≡ Err c.in_err-take.field-0.0 = err.1 ∙ ap Err err.2 in
    exact_from c.args.text.now c.from_residual.result answer (rw same bad) true_of some

pub returns-then-text-gt-LONGEST-clause-answer : goal.returns-then-text-gt-LONGEST-clause-answer
returns-then-text-gt-LONGEST-clause-answer c =
    let empty : lines c.loop-line.left.now ≡ [] = ap lines (c.in_default.ensures.none.0 refl) in
    long_answer c.args.text.now c.loop-line.number c.loop-line.draft c.requires c.if-text-gt-LONGEST.true (rw empty at c.loop-line.invariant.kept)

pub returns-then-text-gt-LONGEST-clause-exact : goal.returns-then-text-gt-LONGEST-clause-exact
returns-then-text-gt-LONGEST-clause-exact c answer true_of some =
    let empty : lines c.loop-line.left.now ≡ [] = ap lines (c.in_default.ensures.none.0 refl) in
    let long = long_answer c.args.text.now c.loop-line.number c.loop-line.draft c.requires c.if-text-gt-LONGEST.true (rw empty at c.loop-line.invariant.kept) in
    exact_from c.args.text.now (Err (BadConfig c.loop-line.number)) answer long true_of some

pub finish-requires : goal.finish-requires
finish-requires c =
    let empty : lines c.loop-line.left.now ≡ [] = ap lines (c.in_default.ensures.none.0 refl) in
    let all = kept_all c.args.text.now c.loop-line.number c.loop-line.draft (rw empty at c.loop-line.invariant.kept) in
    rw all.holds.settings (all_fit all.items _ all.said.spelled)

pub returns-clause-answer : goal.returns-clause-answer
returns-clause-answer c =
    let empty : lines c.loop-line.left.now ≡ [] = ap lines (c.in_default.ensures.none.0 refl) in
    let all = kept_all c.args.text.now c.loop-line.number c.loop-line.draft (rw empty at c.loop-line.invariant.kept) in
    rw c.ok_or.ensures.value
    (end_answer c.args.text.now c.loop-line.number c.loop-line.draft all c.if-text-gt-LONGEST.false c.finish.result (c.finish.ensures.settings all.items all.holds) (c.finish.ensures.none all.items all.holds))

pub returns-clause-exact : goal.returns-clause-exact
returns-clause-exact c answer true_of some =
    let empty : lines c.loop-line.left.now ≡ [] = ap lines (c.in_default.ensures.none.0 refl) in
    let all = kept_all c.args.text.now c.loop-line.number c.loop-line.draft (rw empty at c.loop-line.invariant.kept) in
    let end = end_answer c.args.text.now c.loop-line.number c.loop-line.draft all c.if-text-gt-LONGEST.false c.finish.result (c.finish.ensures.settings all.items all.holds) (c.finish.ensures.none all.items all.holds) in
    exact_from c.args.text.now c.ok_or.result answer (rw c.ok_or.ensures.value end) true_of some
