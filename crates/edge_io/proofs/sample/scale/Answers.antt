use Rattle.std.proofs.Common.{◌<◌, ◌+◌, ◌*◌, ◌^◌, arith, rules}
use Rattle.std.specs.Int.Count.{count_leading_zeros}
use Rattle.edge_io.proofs.Samples.{one_more_place, scaled_of}
use Rattle.edge_io.proofs.sample.scale.Goals as goal

pub returns-then-scaled : goal.returns-then-scaled
returns-then-scaled c =
    let ticks = c.args.ticks in
    let zeros = count_leading_zeros 64 ticks in
    let fits : ticks < 2 ^ 64 = search rules in
    let moved = scaled_of ticks c.from.result c.requires fits c.from.ensures in
    let less = c.if-scaled.true in
    record {
      is = one_more_place ticks _ (12 + zeros) moved.1;
      least = omega (arith, moved.2);
      most = omega (arith, moved.3, less);
      even = (2 * (ticks * 2 ^ zeros), omega (arith, moved.4));
      some = omega arith;
      few = omega (arith, moved.0);
    }

pub returns-else-scaled : goal.returns-else-scaled
returns-else-scaled c =
    let ticks = c.args.ticks in
    let zeros = count_leading_zeros 64 ticks in
    let fits : ticks < 2 ^ 64 = search rules in
    let moved = scaled_of ticks c.from.result c.requires fits c.from.ensures in
    let enough = c.if-scaled.false in
    record {
      is = moved.1;
      least = omega (arith, enough);
      most = omega (arith, moved.3);
      even = (ticks * 2 ^ zeros, moved.4);
      some = omega arith;
      few = omega (arith, moved.0);
    }
