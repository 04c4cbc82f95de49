-- What a run asks of its keeper.
use Rattle.std.specs.Prelude.{◌≡◌, ◌⊎◌, ℕ, ◌+◌, ◌<◌, List, IfSome, IsSomeAnd, Result, Ok, Err, ⊤}
use Rattle.base_specs.specs.Counts.{Fails}
use Rattle.slot_disk.specs.Told.{DiskTold}
use Rattle.stamp_keep.specs.declared.keeper.KeepFault.{KeepFault}
use Rattle.stamp_keep.specs.declared.keeper.KeepFault.TheVariants as keep
use Rattle.stamp_keep.specs.declared.keeper.Keeper.{Keeper}
use Rattle.stamp_keep.specs.Image.{mark_of_image}
use Rattle.stamp_keep.specs.Keep.{IsLoadable}
use Rattle.stamp_keep.specs.Slots.{HasOtherVersion}
use Rattle.run_deeds.specs.declared.life_end.Why.{Why}
use Rattle.run_deeds.specs.declared.life_end.Why.TheVariants.{Done, DiskFault, BadVersion, StampsSpent, ClockFault, EntropyFault, SinkFault}

-- why a run ends at a fault of the keeper
abbrev pub why_of_fault : KeepFault → Why
why_of_fault keep.DiskFault = DiskFault
why_of_fault keep.BadVersion = BadVersion
why_of_fault keep.StampsSpent = StampsSpent

-- a disk's fault is one call that failed, and with any other answer of the keeper none did
abbrev pub BlamedBy : Why → ℕ → ℕ → Type 0
BlamedBy Done before now = ⊥
BlamedBy DiskFault before now = Fails before now
BlamedBy BadVersion before now = now ≡ before
BlamedBy StampsSpent before now = now ≡ before
BlamedBy ClockFault before now = ⊥
BlamedBy EntropyFault before now = ⊥
BlamedBy SinkFault before now = ⊥

-- no call of the disk failed where there is a value, and at a fault it is as that fault says
abbrev pub DiskBlamed : {A : Type 0} → Result A Why → ℕ → ℕ → Type 0
DiskBlamed (Ok given) before now = now ≡ before
DiskBlamed (Err why) before now = BlamedBy why before now

-- another version is refused exactly where the content has it
abbrev pub RefusedBy : Why → DiskTold → Type 0
RefusedBy Done disk = ⊥
RefusedBy DiskFault disk = ⊤
RefusedBy BadVersion disk = IfSome disk.content HasOtherVersion
RefusedBy StampsSpent disk = ⊥
RefusedBy ClockFault disk = ⊥
RefusedBy EntropyFault disk = ⊥
RefusedBy SinkFault disk = ⊥

-- the content can be loaded where a keeper is, and at a fault it is as that fault says
abbrev pub LoadedBy : Result Keeper Why → DiskTold → Type 0
LoadedBy (Ok keeper) disk = IfSome disk.content IsLoadable
LoadedBy (Err why) disk = RefusedBy why disk

-- each image can be loaded, and stands for what the content stood for
pub record IsLoadedFrom (old new : DiskTold) : Type 0 where
  pub each : (image : List ℕ) → new.may_leave image
      → IsLoadable image × IsSomeAnd old.content (λ c. mark_of_image image ≡ mark_of_image c)

-- a block is reserved where the counts are used up, and none where they aren't
abbrev pub Reserves : (last kept kept' : ℕ) → Type 0
Reserves last kept kept' = ((last ≡ kept) × (kept' ≡ kept + 64)) ⊎ ((last < kept) × (kept' ≡ kept))
