use Rattle.std.proofs.Common.{◌≡◌, ◌<◌, ◌+◌, ◌-◌, ◌*◌, ◌%◌, ◌^◌, arith, rules}
use Rattle.edge_io.proofs.Samples.{size_of}
use Rattle.edge_io.proofs.sample.size_bits.Goals as goal

pub returns-clause-double : goal.returns-clause-double
returns-clause-double c =
    let scaled = c.scale-scaled.result in
    let seconds = c.round-mantissa.result in
    let some : 0 < c.args.ticks = search rules in
    let exponent : c.from.result * 2 ^ 52 % 2 ^ 64 ≡ (1074 - scaled.places) * 2 ^ 52 = omega (arith, c.from.ensures) in
    let is : c.from.result * 2 ^ 52 % 2 ^ 64 + seconds ≡ (1074 - scaled.places) * 2 ^ 52 + seconds = omega (arith, exponent) in
    size_of c.args.ticks scaled.ticks scaled.places seconds _ some c.scale-scaled.ensures c.round-mantissa.ensures is
