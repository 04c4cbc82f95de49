use Rattle.std.proofs.Common.{◌≡◌, ◌+◌, ◌%◌, arith, sym, ◌∙◌}
use Rattle.std.proofs.lemmas.List.{take_more_set}
use Rattle.sntp_world.proofs.Drawn.{bytes_drawn-push}
use Rattle.sntp_world.proofs.draws.Draws.fill.Goals as goal

pub loop-byte-preserved : goal.loop-byte-preserved
loop-byte-preserved c seed n is =
    let i = c.loop-byte.byte-index in
    let so_far = c.loop-byte.invariant seed n is in
    let drawn = c.draw.ensures.drawn seed (n + i) so_far.1 in
    let state = c.draw.ensures.state seed (n + i) so_far.1 in
    let e : n + i + 1 ≡ n + (i + 1) = omega arith in
    let push = bytes_drawn-push seed (n + 1) i (n + i + 1) (omega arith) in
    let more = take_more_set c.loop-byte.byte-items i (c.draw.result % 256) (omega arith) in
    (more ∙ (rw (so_far.0, drawn) (sym push)), rw (← e) state)
