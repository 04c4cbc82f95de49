use Rattle.std.proofs.Common.{arith}
use Rattle.w32t_calls.proofs.Lists.{accepted_more}
use Rattle.w32t_calls.proofs.accepted.Accepted.of.Goals as goal

pub loop-i-preserved : goal.loop-i-preserved
loop-i-preserved c = record {
  kept = accepted_more c.args.contexts.now c.loop-i.i c.at.result.now c.loop-i.ids.items c.add_accepted.new.ids.items c.at.ensures c.loop-i.invariant.kept c.add_accepted.ensures.items;
  few = omega (arith, c.add_accepted.ensures.length, c.loop-i.invariant.few);
}
