use Rattle.std.proofs.Common.{◌≡◌, ◌+◌, ◌%◌, ◌<◌, ◌≤◌, ℕ, arith, sym, ◌∙◌, ap}
use Rattle.sntp_world.specs.declared.op.Op.TheVariants as Op
use Rattle.sntp_world.specs.Draws.{draw, draws_of_restart_or_ask}
use Rattle.sntp_world.proofs.Drawn.{op_at-pass, op_at-poll, op_at-deliver, op_at-craft, op_at-rest, datagram_of_drawn, draws_at-pass, draws_at-poll, draws_at-deliver, draws_at-craft, draws_at-rest}
use Rattle.sntp_world.proofs.draws.Draws.op.Goals as goal

pub returns-in-0-to-5-clause-op : goal.returns-in-0-to-5-clause-op
returns-in-0-to-5-clause-op c seed n is =
    let drawn = c.draw.ensures.drawn seed n is in
    let kind : draw seed (n + 1) % 16 < 6 = rw (← drawn) (omega arith) in
    c.pass.ensures.op seed (n + 1) (c.draw.ensures.state seed n is) ∙ sym (op_at-pass seed (n + 1) kind)

pub returns-in-0-to-5-clause-state : goal.returns-in-0-to-5-clause-state
returns-in-0-to-5-clause-state c seed n is =
    let drawn = c.draw.ensures.drawn seed n is in
    let kind : draw seed (n + 1) % 16 < 6 = rw (← drawn) (omega arith) in
    let e : n + 1 + 3 ≡ n + 4 = omega arith in
    rw (draws_at-pass seed (n + 1) kind, ← e) (c.pass.ensures.state seed (n + 1) (c.draw.ensures.state seed n is))

pub returns-in-6-to-8-clause-op : goal.returns-in-6-to-8-clause-op
returns-in-6-to-8-clause-op c seed n is =
    let drawn = c.draw.ensures.drawn seed n is in
    let low : 6 ≤ draw seed (n + 1) % 16 = rw (← drawn) (omega arith) in
    let high : draw seed (n + 1) % 16 < 9 = rw (← drawn) (omega arith) in
    c.poll.ensures.op seed (n + 1) (c.draw.ensures.state seed n is) ∙ sym (op_at-poll seed (n + 1) low high)

pub returns-in-6-to-8-clause-state : goal.returns-in-6-to-8-clause-state
returns-in-6-to-8-clause-state c seed n is =
    let drawn = c.draw.ensures.drawn seed n is in
    let low : 6 ≤ draw seed (n + 1) % 16 = rw (← drawn) (omega arith) in
    let high : draw seed (n + 1) % 16 < 9 = rw (← drawn) (omega arith) in
    let e : n + 1 + 2 ≡ n + 3 = omega arith in
    rw (draws_at-poll seed (n + 1) low high, ← e) (c.poll.ensures.state seed (n + 1) (c.draw.ensures.state seed n is))

pub returns-in-9-to-13-clause-op : goal.returns-in-9-to-13-clause-op
returns-in-9-to-13-clause-op c seed n is =
    let drawn = c.draw.ensures.drawn seed n is in
    let low : 9 ≤ draw seed (n + 1) % 16 = rw (← drawn) (omega arith) in
    let high : draw seed (n + 1) % 16 < 14 = rw (← drawn) (omega arith) in
    let back = c.draw-in-9-to-13.ensures.drawn seed (n + 1) (c.draw.ensures.state seed n is) in
    ap (λ (d : ℕ). Op.Deliver (d % 8)) back ∙ sym (op_at-deliver seed (n + 1) low high)

pub returns-in-9-to-13-clause-state : goal.returns-in-9-to-13-clause-state
returns-in-9-to-13-clause-state c seed n is =
    let drawn = c.draw.ensures.drawn seed n is in
    let low : 9 ≤ draw seed (n + 1) % 16 = rw (← drawn) (omega arith) in
    let high : draw seed (n + 1) % 16 < 14 = rw (← drawn) (omega arith) in
    let e : n + 1 + 1 ≡ n + 2 = omega arith in
    rw (draws_at-deliver seed (n + 1) low high, ← e)
    (c.draw-in-9-to-13.ensures.state seed (n + 1) (c.draw.ensures.state seed n is))

pub returns-in-14-clause-op : goal.returns-in-14-clause-op
returns-in-14-clause-op c seed n is =
    let drawn = c.draw.ensures.drawn seed n is in
    let kind : draw seed (n + 1) % 16 ≡ 14 = rw (← drawn) (omega arith) in
    let bytes = c.bytes.ensures.drawn seed (n + 1) (c.draw.ensures.state seed n is) in
    ap Op.Craft (c.from_slice.ensures ∙ rw bytes (datagram_of_drawn seed (n + 1 + 1) 68 (omega arith)))
    ∙ sym (op_at-craft seed (n + 1) kind)

pub returns-in-14-clause-state : goal.returns-in-14-clause-state
returns-in-14-clause-state c seed n is =
    let drawn = c.draw.ensures.drawn seed n is in
    let kind : draw seed (n + 1) % 16 ≡ 14 = rw (← drawn) (omega arith) in
    let e : n + 1 + 68 ≡ n + 69 = omega arith in
    rw (draws_at-craft seed (n + 1) kind, ← e) (c.bytes.ensures.state seed (n + 1) (c.draw.ensures.state seed n is))

pub returns-in_default-clause-op : goal.returns-in_default-clause-op
returns-in_default-clause-op c seed n is =
    let drawn = c.draw.ensures.drawn seed n is in
    let kind : 14 < draw seed (n + 1) % 16 = rw (← drawn) (omega arith) in
    c.restart_or_ask.ensures.op seed (n + 1) (c.draw.ensures.state seed n is) ∙ sym (op_at-rest seed (n + 1) kind)

pub returns-in_default-clause-state : goal.returns-in_default-clause-state
returns-in_default-clause-state c seed n is =
    let drawn = c.draw.ensures.drawn seed n is in
    let kind : 14 < draw seed (n + 1) % 16 = rw (← drawn) (omega arith) in
    let more = draws_of_restart_or_ask seed (n + 1 + 1) in
    let e : (n + 1) + more ≡ n + (1 + more) = omega arith in
    rw (draws_at-rest seed (n + 1) kind, ← e)
    (c.restart_or_ask.ensures.state seed (n + 1) (c.draw.ensures.state seed n is))
