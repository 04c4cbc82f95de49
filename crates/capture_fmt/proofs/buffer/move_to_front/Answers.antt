use Rattle.std.proofs.Common.{◌≡◌, ◌+◌, ◌-◌, length, take, drop, sym, ap, ◌∙◌, arith, length-drop}
use lib.Seq.{paste}
use Rattle.std.proofs.lemmas.List.{drop-take}
use Rattle.std.proofs.lemmas.List.Edits.{take-paste}
use Rattle.capture_fmt.proofs.buffer.move_to_front.Goals as goal

pub returns : goal.returns
returns c =
    let all = c.args.bytes.now in
    let from = c.args.from in
    let len = c.args.to - from in
    let same : len ≡ 0 + len = omega arith in
    let whole : from + len ≡ c.args.to = omega (arith, c.requires.order) in
    ap (take len) c.copy_within.ensures.after ∙ ap (λ k. take k (paste all 0 (drop from all) len)) same
    ∙ take-paste all 0 (drop from all) len (omega arith) (omega (arith, c.requires.bound, length-drop from all))
    ∙ sym (drop-take from len all) ∙ ap (λ k. drop from (take k all)) whole
