-- So many turns, one after the other.
use Rattle.std.specs.Prelude.{ℕ, ◌+◌, ◌*◌, ◌/◌, ◌^◌, ◌<◌, ◌≤◌, List, unwrap_or, ⊤}
use Rattle.slot_disk.specs.Calls.{LeavesOnly}
use Rattle.slot_disk.specs.Told.{DiskTold}
use Rattle.time_machine.specs.Entries.{count_of, last_of}
use Rattle.time_machine.specs.Events.{History, mark_of}
use Rattle.time_machine.specs.Told.{Told, has_sent}
use Rattle.time_machine.specs.Words.{life_at}
use Rattle.time_machine.specs.Machine.{told}
use Rattle.sntp_core.specs.Standing.{conf_of}
use Rattle.run_deeds.specs.declared.life_end.Why.{Why}
use Rattle.run_deeds.specs.declared.life_end.Why.TheVariants.{Done, DiskFault, BadVersion, StampsSpent, ClockFault, EntropyFault, SinkFault}
use Rattle.run_deeds.specs.Weaving.{Turns}
use Rattle.run_deeds.specs.Deeds.{all_done, history_after}
use Rattle.edge_seen.specs.Seen.{Seen}
use Rattle.run_deeds.specs.Parts.{Part}
use Rattle.run_deeds.specs.Lives.{CallsForBlocks, StandsForBlocks}
use Rattle.run_deeds.specs.Marks.{IsDue, Reserved, blocks_of}
use Rattle.member_run.specs.declared.running.Running.{Running}
use Rattle.member_run.specs.Running.{kept_of, member_of, totals_of}

-- what the answers that speak of the disk say of all that happened
abbrev pub DueBy : Why → List Told → Type 0
DueBy Done before = ⊤
DueBy DiskFault before = IsDue (life_at before)
DueBy BadVersion before = ⊥
DueBy StampsSpent before =
    IsDue (life_at before) × (4294967231 < unwrap_or (last_of (λ t. mark_of t.event) before) 0 + count_of has_sent (life_at before))
DueBy ClockFault before = ⊤
DueBy EntropyFault before = ⊤
DueBy SinkFault before = ⊤

-- The disk is called five times at most for each block, the one among them whose reserve may have failed. No count past
-- the last one of 32 bits is reserved.
pub record CallsFor (older newer : List Told) (entry exit : DiskTold) (why : Why) : Type 0 where
  pub calls : exit.time + 5 * blocks_of (life_at older) ≤ entry.time + 5 * (1 + count_of has_sent (life_at newer) / 64)
  pub within : unwrap_or (last_of (λ t. mark_of t.event) newer) 0 + 64 * blocks_of (life_at newer) < 2 ^ 32
  pub due : DueBy why newer

-- so many turns after a history, in whose last life counts were reserved as they were due
pub record TakesTurns (turns : ℕ) (history : History) (old new : Running) (entry exit : DiskTold) (before now : Seen) (why : Why) : Type 0 where
  pub part : Part (conf_of (member_of old)) (Turns turns) (Turns 0) history before now (member_of new) (kept_of old) (kept_of new) (totals_of old) (totals_of new) why
  pub disk : Reserved (kept_of old) (told (conf_of (member_of old)) history)
      → CallsFor (told (conf_of (member_of old)) history)
      (told (conf_of (member_of old)) (history_after history (all_done part.runs.deeds part.runs.ending))) entry exit why
  pub blocks : Reserved (kept_of old) (told (conf_of (member_of old)) history)
      → CallsForBlocks why part.runs.ending part.runs.need
      (life_at (told (conf_of (member_of old)) (history_after history (all_done part.runs.deeds part.runs.ending))))
      entry.time (exit.time + 5 * blocks_of (life_at (told (conf_of (member_of old)) history)))
  pub most : Reserved (kept_of old) (told (conf_of (member_of old)) history)
      → LeavesOnly entry exit
      (StandsForBlocks why part.runs.ending part.runs.need
      (life_at (told (conf_of (member_of old)) (history_after history (all_done part.runs.deeds part.runs.ending))))
      (unwrap_or (last_of (λ t. mark_of t.event) (told (conf_of (member_of old)) (history_after history (all_done part.runs.deeds part.runs.ending)))) 0))
