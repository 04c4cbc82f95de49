use Rattle.std.proofs.Common.{◌≢◌, ◌+◌, ◌%◌, ap, ◌∙◌, sym}
use Rattle.sntp_world.specs.declared.op.Op.TheVariants as Op
use Rattle.sntp_world.specs.Draws.{draw}
use Rattle.sntp_world.proofs.Drawn.{asked, restart_or_ask_at-ask}
use Rattle.sntp_world.proofs.draws.Draws.restart_or_ask.Goals as goal

pub returns-clause-op : goal.returns-clause-op
returns-clause-op c seed n is =
    let drawn = c.draw.ensures.drawn seed n is in
    let at = c.draw.ensures.state seed n is in
    let no : draw seed (n + 1) % 8 ≢ 0 = rw (← drawn) c.if-draw-eq0.false in
    let filled = c.fill.ensures.drawn seed (n + 1) at in
    ap Op.Ask (c.from_slice.ensures ∙ asked seed (n + 1 + 1) c.fill.new.bytes filled)
    ∙ sym (restart_or_ask_at-ask seed (n + 1) no)
