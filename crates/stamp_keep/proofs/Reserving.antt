-- What a reserve leaves, once its two halves are done.
use Rattle.std.proofs.Common.{inl, inr, ⊎_elim, ℕ, ◌≤◌, List, ◌∙◌, arith}
use Rattle.slot_disk.specs.Told.{DiskTold, IsDisk}
use Rattle.slot_disk.specs.Calls.{LeavesOnly}
use Rattle.stamp_keep.specs.Keep.{Fits, IsLoadable, KeepsMarks, KeepsUnused, StandsForEither}
use Rattle.stamp_keep.specs.Steps.{IsMadeOr, IsStaging, KeepsSettled}
use Rattle.stamp_keep.specs.declared.keeper.Keeper.{Keeper}
use Rattle.stamp_keep.proofs.Moments.{and_then, weaker}
use Rattle.stamp_keep.proofs.Slots.{ours_loads, remembers_stands}

-- a moment of the first half
module _ (k : Keeper) (old : DiskTold) where
  stands : (mark : ℕ) (c : List ℕ) → IsStaging k old c → StandsForEither k.mark mark c
  stands mark c is = inl (remembers_stands k c is.settled.remembers)

  loads : (c : List ℕ) → IsStaging k old c → IsLoadable c
  loads c is = ours_loads k c is.settled.remembers is.settled.version

  unused : (c : List ℕ) → IsStaging k old c → KeepsUnused old c
  unused c is = record { from = is.from; was = is.was; same = is.unused }

  module _ (new : DiskTold) (first : KeepsSettled k old new) where
    pub stage_marks : (mark : ℕ) → LeavesOnly old new (StandsForEither k.mark mark)
    stage_marks mark = weaker first.run (stands mark)

    pub stage_loads : LeavesOnly old new IsLoadable
    stage_loads = weaker first.run loads

    pub stage_unused : LeavesOnly old new (KeepsUnused old)
    stage_unused = weaker first.run unused

    pub stage_least : IsDisk new → Fits old k → KeepsMarks old new
    stage_least disk fits = record {
      least = λ c left.
          let is = first.run.each c (disk.counts_now old.time c first.run.later left) in
          (is.from, is.was, omega (arith, fits.stands is.from is.was, remembers_stands k c is.settled.remembers));
    }

  -- a moment of both halves
  module _ (mark : ℕ) (mid new : DiskTold) (disk : IsDisk mid) (first : KeepsSettled k old mid) (second : LeavesOnly mid new (IsMadeOr mark mid)) where
    -- an image after the first half
    after_first : (c : List ℕ) → mid.may_leave c → IsStaging k old c
    after_first c left = first.run.each c (disk.counts_now old.time c first.run.later left)

    pub reserve_marks : LeavesOnly old new (StandsForEither k.mark mark)
    reserve_marks = and_then first.run second (stands mark) (λ c made. ⊎_elim
        (λ e. inl (e ∙ remembers_stands k made.from (after_first made.from made.was).settled.remembers))
        (λ e. inr e)
        made.either)

    pub reserve_loads : LeavesOnly old new IsLoadable
    reserve_loads = and_then first.run second loads (λ c made. made.loads)

    pub reserve_unused : LeavesOnly old new (KeepsUnused old)
    reserve_unused = and_then first.run second unused (λ c made.
        let half = after_first made.from made.was in
        record { from = half.from; was = half.was; same = record { same = λ at free. made.unused.same at free ∙ half.unused.same at free } })

    pub reserve_least : IsDisk new → Fits old k → k.mark ≤ mark → KeepsMarks old new
    reserve_least after fits le = record {
      least = λ c left.
          let made = second.each c (after.counts_now mid.time c second.later left) in
          let half = after_first made.from made.was in
          let from = fits.stands half.from half.was in
          let mid = remembers_stands k made.from half.settled.remembers in
          (half.from, half.was, ⊎_elim (λ e. omega (arith, e, mid, from)) (λ e. omega (arith, e, from, le)) made.either);
    }
