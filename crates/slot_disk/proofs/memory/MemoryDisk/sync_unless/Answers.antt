use Rattle.std.proofs.Common.{ap}
use Rattle.slot_disk.specs.declared.moment.Moment.{Moment}
use Rattle.slot_disk.proofs.Keeping.{elapses_within}
use Rattle.slot_disk.proofs.Tearing.{none_touched, syncs_done}
use Rattle.slot_disk.proofs.memory.MemoryDisk.sync_unless.Goals as goal

pub returns-in-Passes-clause-syncs : goal.returns-in-Passes-clause-syncs
returns-in-Passes-clause-syncs c =
    syncs_done c.args.self.now.state _ c.args.self.now.past.items c.begin.new.self.past.items c.args.self.now.beyond c.begin.new.self.beyond (ap (λ (m : Moment). m.bytes) c.begin.ensures.state) (none_touched 256)

pub returns-in-Passes-clause-elapses : goal.returns-in-Passes-clause-elapses
returns-in-Passes-clause-elapses c = elapses_within c.args.self.now c.begin.new.self _ c.in-Passes.ensures.moment

pub returns-in-Fails-clause-elapses : goal.returns-in-Fails-clause-elapses
returns-in-Fails-clause-elapses c = elapses_within c.args.self.now c.begin.new.self _ c.in-Fails.ensures.moment
