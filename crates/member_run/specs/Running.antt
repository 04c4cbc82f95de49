-- What a run keeps between its calls, and what one of them says of it.
use Rattle.std.specs.Prelude.{◌≡◌, ◌⊎◌, ℕ, ◌+◌, ◌^◌, ◌≤◌, ◌<◌, IsSome, ⊤}
use Rattle.slot_disk.specs.Calls.{LeavesOnly}
use Rattle.slot_disk.specs.Told.{DiskTold}
use Rattle.stamp_keep.specs.Image.{mark_of_image}
use Rattle.stamp_keep.specs.Keep.{Fits, kept_mark}
use Rattle.time_machine.specs.Events.{History}
use Rattle.sntp_core.specs.declared.member.Member.{Member}
use Rattle.sntp_core.specs.Standing.{StandsForHistory, conf_of, words_of}
use Rattle.run_deeds.specs.declared.life_end.LifeEnd.{LifeEnd}
use Rattle.run_deeds.specs.declared.life_end.Why.{Why}
use Rattle.run_deeds.specs.declared.life_end.Why.TheVariants.{Done, DiskFault, BadVersion, StampsSpent, ClockFault, EntropyFault, SinkFault}
use Rattle.run_deeds.specs.Weaving.{Need}
use Rattle.edge_seen.specs.Seen.{Seen}
use Rattle.run_deeds.specs.Parts.{Part}
use Rattle.run_deeds.specs.Marks.{last_count}
use Rattle.member_run.specs.declared.running.Running.{Running}

-- the member of a run
abbrev pub member_of : Running → Member
member_of running = running.member

-- the mark up to which its counts are reserved
abbrev pub kept_of : Running → ℕ
kept_of running = kept_mark running.keeper

-- what it came to so far
abbrev pub totals_of : Running → LifeEnd
totals_of running = running.totals

-- the greatest count that was sent
abbrev pub greatest_of : Running → ℕ
greatest_of running = (words_of running.member).greatest

-- The member stands for a history in which a life began. The run knows its last count, and no count that was ever sent is
-- greater.
pub record IsBegun (running : Running) : Type 0 where
  pub history : History
  pub stands : StandsForHistory running.member history
  pub begun : IsSome (words_of running.member).mark
  pub last : running.last ≡ last_count (words_of running.member)
  pub greatest : greatest_of running ≤ running.last

-- A call may follow, which is so where none of the run answered an error and nobody wrote to its disk since: the keeper
-- fits the disk, and its mark, a number of 32 bits, covers the last count.
pub record IsGoing (disk : DiskTold) (running : Running) : Type 0 where
  pub begun : IsBegun running
  pub fits : Fits disk running.keeper
  pub within : running.last ≤ kept_of running
  pub below : kept_of running < 2 ^ 32

-- a call is a part of a run, after each history for which the member stands
abbrev pub IsPart : Running → Running → Need → Need → Seen → Seen → Why → Type 0
IsPart old new from next before now why =
    (history : History) → StandsForHistory (member_of old) history
    → Part (conf_of (member_of old)) from next history before now (member_of new) (kept_of old) (kept_of new)
    (totals_of old) (totals_of new) why

-- the counts that were reserved are used up
abbrev pub IsUsedUp : Running → Type 0
IsUsedUp running = running.last ≡ kept_of running

-- The disk was called five times at most, and only where the counts that were reserved are used up.
abbrev pub CallsWhereDue : Running → DiskTold → DiskTold → Type 0
CallsWhereDue running old new = (new.time ≡ old.time) ⊎ (IsUsedUp running × (new.time ≤ old.time + 5))

-- A crash at any moment of the call leaves an image that stands for no more than the mark up to which counts were
-- reserved, or than a block more where these are used up.
abbrev pub RisesWhereDue : Running → DiskTold → DiskTold → Type 0
RisesWhereDue running old new =
    LeavesOnly old new (λ image. (mark_of_image image ≤ kept_of running) ⊎ (IsUsedUp running × (mark_of_image image ≤ kept_of running + 64)))

-- neither the keeper nor the counts changed
pub record SendsNone (old new : Running) : Type 0 where
  pub keeper : new.keeper ≡ old.keeper
  pub last : new.last ≡ old.last
  pub greatest : greatest_of new ≡ greatest_of old

-- what a receipt may end with
abbrev pub IsOfReceipt : Why → Type 0
IsOfReceipt Done = ⊥
IsOfReceipt DiskFault = ⊥
IsOfReceipt BadVersion = ⊥
IsOfReceipt StampsSpent = ⊥
IsOfReceipt ClockFault = ⊤
IsOfReceipt EntropyFault = ⊥
IsOfReceipt SinkFault = ⊤
