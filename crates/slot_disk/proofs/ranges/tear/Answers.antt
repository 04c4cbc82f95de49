use Rattle.slot_disk.proofs.Tearing.{same_bytes, tears_freely}
use Rattle.slot_disk.proofs.ranges.tear.Goals as goal

pub returns-clause-torn : goal.returns-clause-torn
returns-clause-torn c = tears_freely c.args.at c.args.count c.args.moment.now _ (same_bytes c.args.at c.args.count _) c.touch.ensures
