use Rattle.std.proofs.Common.{arith}
use Rattle.w32t_calls.specs.Answers.{result_bytes}
use Rattle.w32t_calls.proofs.Lists.{parts_more}
use Rattle.w32t_calls.proofs.answers.add_results.Goals as goal

pub loop-i-preserved : goal.loop-i-preserved
loop-i-preserved c = record {
  items = parts_more result_bytes c.args.contexts.now c.loop-i.i c.at.result.now c.args.body.now.items c.loop-i.body.items c.add_result.new.body.items
      c.at.ensures c.loop-i.invariant.items c.add_result.ensures.items;
  size = omega (arith, c.add_result.ensures.length, c.loop-i.invariant.size);
}
