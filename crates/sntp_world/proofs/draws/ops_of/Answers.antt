use Rattle.std.proofs.Common.{◌+◌, ◌-◌, arith}
use Rattle.sntp_world.specs.Draws.{draws_at}
use Rattle.sntp_world.proofs.Drawn.{script-more}
use Rattle.sntp_world.proofs.draws.ops_of.Goals as goal

pub loop-preserved : goal.loop-preserved
loop-preserved c =
    let seed = c.args.seed in let drawn = c.loop.invariant.0 in let at = c.loop.invariant.1 in (
      drawn + draws_at seed (drawn + 1),
      c.op.ensures.state seed drawn at,
      rw c.in_ok-push.ensures.items
          (script-more c.loop.ops.items _ seed drawn (c.args.n - c.loop.counter) _ _ c.loop.invariant.2 (c.op.ensures.op seed drawn at) (omega arith)),
    )
