use Rattle.std.proofs.Common.{length}
use Rattle.slot_disk.proofs.Tearing.{tears_freely}
use Rattle.slot_disk.proofs.ranges.write.Goals as goal

pub returns-clause-torn : goal.returns-clause-torn
returns-clause-torn c = tears_freely c.args.at (length c.args.piece.now) c.args.moment.now _ c.put.ensures.rest c.touch.ensures
