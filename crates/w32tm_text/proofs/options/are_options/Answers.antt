use Rattle.std.proofs.Common.{◌≡◌, ◌<◌, ◌≤◌, length, false, true, Some, sym, ◌∙◌, ap, refl, arith}
use Rattle.w32tm_text.specs.Words.{texts}
use Rattle.w32tm_text.proofs.Givens.{all_below, one_below, texts_len, word_at}
use Rattle.w32tm_text.proofs.options.are_options.Goals as goal

pub loop-place-preserved : goal.loop-place-preserved
loop-place-preserved c =
    let below : c.loop-place.place < length c.args.words.now.items = omega (arith, c.loop-place-test.true, c.len-place-end.ensures) in
    let word = word_at c.args.words.now.items c.loop-place.place c.index.result.now below c.index.ensures ∙ ap Some (sym c.as_bytes.ensures.value) in
    one_below c.args.action.now (texts c.args.words.now.items) c.loop-place.place c.as_bytes.result.now word (c.has_word.ensures.0 c.if-not-has_word.false) c.loop-place.invariant

pub returns-then-not-has_word : goal.returns-then-not-has_word
returns-then-not-has_word c =
    let below : c.loop-place.place < length c.args.words.now.items = omega (arith, c.loop-place-test.true, c.len-place-end.ensures) in
    let word = word_at c.args.words.now.items c.loop-place.place c.index.result.now below c.index.ensures ∙ ap Some (sym c.as_bytes.ensures.value) in (
      λ no. absurd (let wrong : false ≡ true = no in cc),
      λ all. let yes = c.has_word.ensures.1 (all c.loop-place.place c.as_bytes.result.now c.loop-place.auto.place word) in let no = c.if-not-has_word.true in cc,
    )

pub returns : goal.returns
returns c =
    let all : length (texts c.args.words.now.items) ≤ c.loop-place.place = omega (arith, c.loop-place-test.false, c.len-place-end.ensures, texts_len c.args.words.now.items) in
    (λ yes. all_below c.args.action.now (texts c.args.words.now.items) c.loop-place.place all c.loop-place.invariant, λ each. refl)
