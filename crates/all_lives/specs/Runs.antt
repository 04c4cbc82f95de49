-- Runs of members on one disk, one after the other: what each kept there, and what the next one may find.
use Rattle.std.specs.Prelude.{◌≡◌, ◌⊎◌, ℕ, ◌-◌, ◌^◌, ◌<◌, List, [], ◌∷◌, ◌++◌, reverse, Some, IfSome, ⊤}
use Rattle.std.specs.List.{AllByRecursion}
use Rattle.edge_seen.specs.Seen.{Seen}
use Rattle.edge_traits.specs.declared.link.Tried.{Tried}
use Rattle.edge_traits.specs.Link.{sends_among}
use Rattle.ntp_wire.specs.Fields.{transmit_of}
use Rattle.slot_disk.specs.Told.{DiskTold}
use Rattle.stamp_keep.specs.Image.{mark_of_image}
use Rattle.time_machine.specs.declared.conf.Conf.{Conf}
use Rattle.time_machine.specs.Entries.{gather}
use Rattle.time_machine.specs.Events.{History}
use Rattle.time_machine.specs.Machine.{told}
use Rattle.time_machine.specs.Told.{Told}
use Rattle.run_deeds.specs.declared.life_end.Why.{Why}
use Rattle.run_deeds.specs.declared.life_end.Why.TheVariants.{DiskFault}
use Rattle.run_deeds.specs.Weaving.{Need, Stood, Turns, Calls}
use Rattle.run_deeds.specs.Lives.{Woven, Effects, Kept}

-- what a run needs behind its Life: turns, or calls that ask for requests
abbrev pub IsOfRun : Need → Type 0
IsOfRun (Turns left) = ⊤
IsOfRun (Calls left) = ⊤
IsOfRun _ = ⊥

-- A run on a disk, whichever command it is of and however it ended: its settings, what the disk's content stood for at
-- entry, the events that were woven, what was done about them, and what was kept.
pub record Run {D : Type 0} (tells : D → DiskTold) : Type 0 where
  pub conf : Conf
  pub next : Need
  pub of_run : IsOfRun next
  pub stood : Stood
  pub woven : Woven conf next stood
  pub before : Seen
  pub now : Seen
  pub effects : Effects conf woven before now
  pub entry : D
  pub exit : D
  pub stood_for : IfSome (tells entry).content (λ c. stood.mark ≡ mark_of_image c)
  pub why : Why
  pub kept : Kept conf woven (tells entry) (tells exit) why

-- its events, the last one first
abbrev pub history_of : {D : Type 0} {tells : D → DiskTold} → Run tells → History
history_of run = reverse run.woven.events

-- What the next run may find: an image that a crash leaves at the end of this one; or, where the disk failed, just before
-- that call or within it. So a stop between two calls of the disk, or within one, is the end of the run whose next call of
-- the disk fails, and a stop behind the last one is the end of the run itself.
abbrev pub MayFind : {D : Type 0} {tells : D → DiskTold} → Run tells → List ℕ → Type 0
MayFind {D} {tells} run image =
    (tells run.exit).may_leave image
    ⊎ ((run.why ≡ DiskFault) × ((tells run.exit).time < 2 ^ 64 - 1) × (tells run.exit).left_since ((tells run.exit).time - 1) image)

-- A run begins with what the one before may have left: its disk's content, which is told, and each image of it.
pub record Finds {D : Type 0} {tells : D → DiskTold} (earlier later : Run tells) : Type 0 where
  pub content : List ℕ
  pub read : (tells later.entry).content ≡ Some content
  pub was_left : MayFind earlier content
  pub images : (image : List ℕ) → (tells later.entry).may_leave image → MayFind earlier image

-- Runs on one disk, the last one first. Each begins with what the one before it may have left.
abbrev pub AreSuccessive : {D : Type 0} {tells : D → DiskTold} → List (Run tells) → Type 0
AreSuccessive [] = ⊤
AreSuccessive (run ∷ []) = ⊤
AreSuccessive (later ∷ earlier ∷ runs) = Finds earlier later × AreSuccessive (earlier ∷ runs)

-- all events of all runs with what came of them, each under its own run's settings, the last one first
abbrev pub all_told : {D : Type 0} {tells : D → DiskTold} → List (Run tells) → List Told
all_told [] = []
all_told (run ∷ earlier) = told run.conf (history_of run) ++ all_told earlier

-- the sends that all runs tried, whatever their answer, in their order
abbrev pub all_tried : {D : Type 0} {tells : D → DiskTold} → List (Run tells) → List Tried
all_tried runs = gather (λ run. sends_among run.woven.given.link) runs

-- the seconds of the transmit timestamp of a send, which are the count of a request
abbrev pub seconds_of : Tried → ℕ
seconds_of tried = (transmit_of tried.bytes).seconds

-- the histories of all runs, joined, the last event first
abbrev pub joined_history : {D : Type 0} {tells : D → DiskTold} → List (Run tells) → History
joined_history [] = []
joined_history (run ∷ earlier) = history_of run ++ joined_history earlier

-- all runs have these settings
abbrev pub HaveConf : {D : Type 0} {tells : D → DiskTold} → Conf → List (Run tells) → Type 0
HaveConf conf runs = AllByRecursion (λ run. run.conf ≡ conf) runs
