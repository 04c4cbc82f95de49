use Rattle.std.proofs.Common.{◌≡◌, ◌+◌, ◌*◌, ℕ, ℤ, arith, rules, ◌∙◌, w32}
use Rattle.std.proofs.lemmas.Int.{to_z-of_z}
use Rattle.sntp_world.specs.declared.op.Op.TheVariants.{Pass}
use Rattle.sntp_world.proofs.draws.Draws.pass.Goals as goal

made : (d d' : ℕ) (e e' f f' : ℤ) → d ≡ d' → e ≡ e' → f ≡ f'
    → Pass (10000 * (1 + d)) e f ≡ Pass (10000 * (1 + d')) e' f'
made d d' e e' f f' p q r = cc

pub returns-clause-op : goal.returns-clause-op
returns-clause-op c seed n is =
    let at = c.draw.ensures.state seed n is in
    let at_second = c.small-e.ensures.state seed (n + 1) at in
    let two : n + 1 + 1 ≡ n + 2 = omega arith in
    let three : n + 1 + 1 + 1 ≡ n + 3 = omega arith in
    made _ _ _ _ _ _ (c.draw.ensures.drawn seed n is)
    (to_z-of_z w32 c.small-e.result (search rules) ∙ (rw (← two) (c.small-e.ensures.drawn seed (n + 1) at)))
    (to_z-of_z w32 c.small-f.result (search rules) ∙ (rw (← three) (c.small-f.ensures.drawn seed (n + 1 + 1) at_second)))

pub returns-clause-state : goal.returns-clause-state
returns-clause-state c seed n is =
    let at = c.draw.ensures.state seed n is in
    let at_second = c.small-e.ensures.state seed (n + 1) at in
    let three : n + 1 + 1 + 1 ≡ n + 3 = omega arith in
    rw (← three) (c.small-f.ensures.state seed (n + 1 + 1) at_second)
