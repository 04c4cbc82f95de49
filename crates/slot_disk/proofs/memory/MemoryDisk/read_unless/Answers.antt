use Rattle.slot_disk.proofs.Keeping.{elapses_within}
use Rattle.slot_disk.proofs.memory.MemoryDisk.read_unless.Goals as goal

pub returns-in-Passes-clause-elapses : goal.returns-in-Passes-clause-elapses
returns-in-Passes-clause-elapses c = elapses_within c.args.self.now c.begin.new.self _ c.in-Passes.ensures.moment

pub returns-in-Fails-clause-elapses : goal.returns-in-Fails-clause-elapses
returns-in-Fails-clause-elapses c = elapses_within c.args.self.now c.begin.new.self _ c.in-Fails.ensures.moment
