use Rattle.std.proofs.Common.{◌≡◌, pos, ◌∙◌, ap, arith, w64, unsigned_abs}
use Rattle.std.proofs.lemmas.Int.{ints, to_z-of_z}
use Rattle.ntp_wire.proofs.Moments.{stamp_made, one_stamp}
use Rattle.ntp_wire.proofs.stamp.to_ntp.Goals as goal

pub returns-clause-stamp : goal.returns-clause-stamp
returns-clause-stamp c =
    let n = c.unsigned_abs-ticks.result in
    let size : n ≡ unsigned_abs c.args.ticks = c.unsigned_abs-ticks.ensures.value ∙ ap unsigned_abs (to_z-of_z w64 c.args.ticks c.ranges.ticks) in
    let low = c.requires.0 in
    let same : c.args.ticks ≡ pos n = omega (arith, ints, size, low) in
    (n, same, stamp_made n c.fraction_of.result c.fraction_of.ensures.enough c.fraction_of.ensures.least)

pub returns-clause-only : goal.returns-clause-only
returns-clause-only c s stamp = one_stamp c.args.ticks s _ stamp (returns-clause-stamp c)
