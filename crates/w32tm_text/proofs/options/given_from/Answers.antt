use Rattle.std.proofs.Common.{◌<◌, ◌≤◌, length, Some, sym, ◌∙◌, ap, arith}
use Rattle.w32tm_text.specs.Words.{texts}
use Rattle.w32tm_text.proofs.Givens.{none_left, none_more, texts_len, word_at}
use Rattle.w32tm_text.proofs.options.given_from.Goals as goal

pub loop-place-preserved : goal.loop-place-preserved
loop-place-preserved c =
    let below : c.loop-place.place < length c.args.words.now.items = omega (arith, c.loop-place-test.true, c.len-place-end.ensures) in
    let word = word_at c.args.words.now.items c.loop-place.place c.index.result.now below c.index.ensures ∙ ap Some (sym c.as_bytes.ensures.value) in
    none_more c.args.name (texts c.args.words.now.items) c.args.from c.loop-place.place c.as_bytes.result.now word
    (λ value gives. absurd (c.in_default.ensures.found value gives)) c.loop-place.invariant

pub returns-clause-none : goal.returns-clause-none
returns-clause-none c =
    let all : length (texts c.args.words.now.items) ≤ c.loop-place.place = omega (arith, c.loop-place-test.false, c.len-place-end.ensures, texts_len c.args.words.now.items) in
    none_left c.args.name (texts c.args.words.now.items) c.args.from c.loop-place.place all c.loop-place.invariant
