-- The first part of a run.
use Rattle.std.specs.Prelude.{◌≡◌, ℕ, List, [], Option, IfSome, Result, Ok, Err, ⊤}
use Rattle.edge_traits.specs.Clock.{ClockCall}
use Rattle.slot_disk.specs.Told.{DiskTold}
use Rattle.stamp_keep.specs.Image.{mark_of_image}
use Rattle.time_machine.specs.declared.conf.Conf.{Conf}
use Rattle.run_deeds.specs.declared.life_end.Why.{Why}
use Rattle.run_deeds.specs.declared.life_end.Why.TheVariants.{Done, DiskFault, BadVersion, StampsSpent, ClockFault, EntropyFault, SinkFault}
use Rattle.run_deeds.specs.Counting.{ended}
use Rattle.time_machine.specs.Machine.{told}
use Rattle.run_deeds.specs.Deeds.{all_done, history_after}
use Rattle.edge_seen.specs.Seen.{Seen}
use Rattle.run_deeds.specs.Marks.{Reserved}
use Rattle.run_deeds.specs.Parts.{Part, Runs}
use Rattle.run_deeds.specs.Weaving.{Need, Start, Stood}
use Rattle.member_run.specs.declared.running.Running.{Running}
use Rattle.member_run.specs.Running.{kept_of, member_of, totals_of}
use Rattle.member_run.specs.Taking.{writing}

-- what the devices tell where clock, disk and the two sinks tell this
abbrev pub starting : Seen → Option (List ClockCall) → Option (List ℕ) → Option (List ℕ) → (clock_faults disk_faults capture_faults write_faults : ℕ) → Seen
starting others clock capture out clock_faults disk_faults capture_faults write_faults =
    record (writing others capture out capture_faults write_faults) { clock = clock; clock_faults = clock_faults; disk_faults = disk_faults }

-- the run began with the Life, whose mark is what the content stood for
pub record HasBegun (conf : Conf) (next : Need) (entry : DiskTold) (before now : Seen) (running : Running) : Type 0 where
  pub stood : Stood
  pub stood_for : IfSome entry.content (λ c. stood.mark ≡ mark_of_image c)
  pub kept : kept_of running ≡ stood.mark
  pub part : Part conf (Start stood next) next [] before now (member_of running) stood.mark stood.mark (ended Done) (totals_of running) Done
  pub reserved : Reserved (kept_of running) (told conf (history_after [] (all_done part.runs.deeds part.runs.ending)))

-- it ended at the disk, at the reading, or at the record or the line of the Life
pub record HasStopped (conf : Conf) (next : Need) (entry : DiskTold) (before now : Seen) (why : Why) : Type 0 where
  pub stood : Stood
  pub stood_for : IfSome entry.content (λ c. stood.mark ≡ mark_of_image c)
  pub runs : Runs conf (Start stood next) next [] before now stood.mark stood.mark (ended Done) (ended Done) why

-- what each answer says of a start
abbrev pub Begins : Conf → Need → DiskTold → Seen → Seen → Result Running Why → Type 0
Begins conf next entry before now (Ok running) = HasBegun conf next entry before now running
Begins conf next entry before now (Err why) = HasStopped conf next entry before now why

-- what a start may end with
abbrev pub IsOfStart : Why → Type 0
IsOfStart Done = ⊥
IsOfStart DiskFault = ⊤
IsOfStart BadVersion = ⊤
IsOfStart StampsSpent = ⊥
IsOfStart ClockFault = ⊤
IsOfStart EntropyFault = ⊥
IsOfStart SinkFault = ⊤
