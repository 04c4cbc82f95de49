-- What the calls of a keeper leave on its disk.
use Rattle.std.proofs.Common.{◌≡◌, ◌⊎◌, inl, inr, ⊎_elim, ◌+◌, ◌-◌, ◌^◌, ◌<◌, ◌≤◌, ℕ, true, false, List, Option, Some, None, IfSome, is_some, refl, sym, ◌∙◌, arith}
use Rattle.std.specs.Prelude.{Err, IsErrOf, IsSomeAnd}
use Rattle.slot_disk.specs.Calls.{LeavesAtLast, LeavesOnly, WasCalled}
use Rattle.slot_disk.specs.Told.{DiskTold, IsDisk}
use Rattle.stamp_keep.specs.Image.{mark_of_image}
use Rattle.stamp_keep.specs.declared.keeper.KeepFault.{KeepFault}
use Rattle.stamp_keep.specs.declared.keeper.KeepFault.TheVariants as keep
use Rattle.stamp_keep.specs.declared.keeper.Keeper.{Keeper}
use Rattle.stamp_keep.specs.Keep.{Fits, IsLoadable, KeepsMarks, KeepsUnused, RefusedAsBefore, StandsAsBefore, StandsForEither, kept_mark}
use Rattle.stamp_keep.proofs.Moments.{and_then, started, weaker}
use Rattle.run_deeds.specs.Marks.{KeepsLoadable, StopCovers}
use Rattle.member_run.specs.declared.running.Running.{Running}
use Rattle.run_deeds.specs.declared.life_end.Why.{Why}
use Rattle.run_deeds.specs.declared.life_end.Why.TheVariants.{DiskFault, StampsSpent}
use Rattle.member_run.specs.Reserving.{IsLoadedFrom, why_of_fault}
use Rattle.member_run.specs.Running.{IsGoing, IsUsedUp, RisesWhereDue, greatest_of, kept_of}

-- ---- Loads

-- an image of this moment is one of those since the first call
pub left_now : (old new : DiskTold) (P : List ℕ → Type 0) → IsDisk new → LeavesOnly old new P → (image : List ℕ) → new.may_leave image → P image
left_now old new P disk run image left = run.each image (disk.counts_now old.time image run.later left)

pub loaded_loads : (old new : DiskTold) → IsDisk new → LeavesOnly old new (RefusedAsBefore old) → KeepsLoadable old new
loaded_loads old new disk run = record { each = left_now old new (RefusedAsBefore old) disk run }

pub reserved_loads : (old new : DiskTold) → IsDisk new → LeavesOnly old new IsLoadable → KeepsLoadable old new
reserved_loads old new disk run = record {
  each = λ image left. record { from = λ other. absurd (left_now old new IsLoadable disk run image left other) };
}

-- ---- Marks

-- a reserve may leave a block more
either_rises : (running : Running) (image : List ℕ) → IsUsedUp running → StandsForEither (kept_of running) (kept_of running + 64) image
    → (mark_of_image image ≤ kept_of running) ⊎ (IsUsedUp running × (mark_of_image image ≤ kept_of running + 64))
either_rises running image used (inl old) = inl (omega (arith, old))
either_rises running image used (inr new) = inr (used, omega (arith, new))

pub reserved_rises : (running : Running) (old new : DiskTold) → IsUsedUp running → LeavesOnly old new (StandsForEither (kept_of running) (kept_of running + 64))
    → RisesWhereDue running old new
reserved_rises running old new used run = weaker run (λ image either. either_rises running image used either)

-- a disk that isn't called leaves none
pub still_rises : (running : Running) (disk : DiskTold) → IsDisk disk → IsGoing disk running → RisesWhereDue running disk disk
still_rises running disk is going = started disk _ is (λ image left. inl (omega (arith, going.fits.stands image left)))

-- ---- The unused bytes

pub unused_same : (disk : DiskTold) → IsDisk disk → LeavesOnly disk disk (KeepsUnused disk)
unused_same disk is = started disk (KeepsUnused disk) is (λ image left. record { from = image; was = left; same = record { same = λ at unused. refl } })

pub unused_then : {entry mid exit : DiskTold} → IsDisk mid → LeavesOnly entry mid (KeepsUnused entry) → LeavesOnly mid exit (KeepsUnused mid) → LeavesOnly entry exit (KeepsUnused entry)
unused_then {entry = entry} {mid = mid} disk first next =
    and_then first next (λ image kept. kept)
    (λ image kept.
    let was = left_now entry mid (KeepsUnused entry) disk first kept.from kept.was in
    record { from = was.from; was = was.was; same = record { same = λ at unused. kept.same.same at unused ∙ was.same.same at unused } })

-- ---- A keeper that was loaded

told_mark : (content : Option (List ℕ)) (image : List ℕ) (mark : ℕ) → is_some content ≡ true → mark_of_image image ≡ mark → IfSome content (λ c. mark ≡ mark_of_image c)
    → IsSomeAnd content (λ c. mark_of_image image ≡ mark_of_image c)
told_mark None image mark is stands same = absurd (let no : false ≡ true = is in let bad : ⊥ = cc in bad)
told_mark (Some c) image mark is stands same = stands ∙ same

pub loaded_from : (old new : DiskTold) (keeper : Keeper) (P : List ℕ → Type 0) → IsDisk new → LeavesOnly old new P → Fits new keeper → IfSome old.content (λ c. kept_mark keeper ≡ mark_of_image c)
    → IsLoadedFrom old new
loaded_from old new keeper P disk run fits mark = record {
  each = λ image left.
      let is : is_some new.content ≡ true = disk.tells image left in
      let was : is_some old.content ≡ true = cc (is, run.tells) in
      (fits.loads image left, told_mark old.content image (kept_mark keeper) was (fits.stands image left) mark);
}

-- ---- Between two calls

-- what is left just before the last call was left since the first one
pub since_first : {old new : DiskTold} {P : List ℕ → Type 0} → IsDisk new → LeavesOnly old new P → WasCalled old new → LeavesAtLast new P
since_first {old = old} {new = new} is run called = record {
  each = λ room image left.
      let made = called room in
      run.each image (is.longer old.time (new.time - 1) image (omega (arith, made)) left);
}

kept_low : (kept mark : ℕ) → ((mark ≡ kept) ⊎ (mark ≡ kept + 64)) → kept ≤ mark
kept_low kept mark either = ⊎_elim (λ e. omega (arith, e)) (λ e. omega (arith, e)) either

-- at each moment of a reserve each image stands for the old mark or for more
pub reserved_low : (running : Running) (old new : DiskTold) → LeavesOnly old new (StandsForEither (kept_of running) (kept_of running + 64))
    → LeavesOnly old new (λ image. kept_of running ≤ mark_of_image image)
reserved_low running old new run = weaker run (λ image either. kept_low (kept_of running) (mark_of_image image) either)

pub still_low : (running : Running) (disk : DiskTold) → IsDisk disk → IsGoing disk running → LeavesOnly disk disk (λ image. kept_of running ≤ mark_of_image image)
still_low running disk is going = started disk _ is (λ image left. omega (arith, going.fits.stands image left))

-- a reserve that failed leaves what covers each count sent, just before the last call too
pub reserved_stops : (running : Running) (old new : DiskTold) → IsDisk new → IsGoing old running
    → LeavesOnly old new (StandsForEither (kept_of running) (kept_of running + 64)) → LeavesOnly old new (KeepsUnused old) → WasCalled old new
    → StopCovers old new (greatest_of running)
reserved_stops running old new is going run unused called = record {
  each = λ room image left.
      let low = (since_first is (reserved_low running old new run) called).each room image left in
      let from = (since_first is unused called).each room image left in
      (omega (arith, low, going.within, going.begun.greatest), (from.from, from.was, omega (arith, low, going.fits.stands from.from from.was)));
}

-- a load that failed leaves what stands for marks at entry
pub loaded_stops : (old new : DiskTold) → IsDisk new → LeavesOnly old new (StandsAsBefore old) → WasCalled old new → StopCovers old new 0
loaded_stops old new is run called = record {
  each = λ room image left.
      let as_before = (since_first is run called).each room image left in
      (omega arith, (as_before.from, as_before.was, omega (arith, as_before.same)));
}

-- the same after what came before
pub stops_then : {entry mid exit : DiskTold} (count : ℕ) → KeepsMarks entry mid → StopCovers mid exit count → StopCovers entry exit count
stops_then count first next = record {
  each = λ room image left.
      let stop = next.each room image left in
      let was = first.least stop.1.0 stop.1.1 in
      (stop.0, (was.0, was.1, omega (arith, stop.1.2, was.2)));
}

-- a reserve at which the disk failed has called it
pub called_of : {T : Type 0} (fault : KeepFault) (ended : Why) (old new : DiskTold) → ended ≡ why_of_fault fault → ended ≡ DiskFault → IsErrOf {T = T} (Err fault) keep.StampsSpent ⊎ WasCalled old new → WasCalled old new
called_of fault ended old new gives is (inr called) = called
called_of keep.StampsSpent ended old new gives is (inl spent) = absurd (let no : StampsSpent ≡ DiskFault = sym gives ∙ is in let bad : ⊥ = cc in bad)
called_of keep.DiskFault ended old new gives is (inl spent) = absurd (let bad : ⊥ = cc in bad)
called_of keep.BadVersion ended old new gives is (inl spent) = absurd (let bad : ⊥ = cc in bad)
