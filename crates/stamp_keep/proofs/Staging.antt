-- What the two halves of a reserve leave on the disk.
use Rattle.std.proofs.Common.{◌≡◌, inl, inr, ⊎_elim, ℕ, ◌+◌, ◌^◌, ◌<◌, List, length, Option, Some, None, IfSome, sym, ◌∙◌, subst, refl, arith}
use Rattle.slot_disk.specs.Told.{DiskTold, IsDisk}
use Rattle.slot_disk.specs.Calls.{Holds, Written, IsSynced, LeavesOnly}
use Rattle.stamp_keep.specs.Image.{mark_of_image}
use Rattle.stamp_keep.specs.Slots.{place, Settles}
use Rattle.stamp_keep.specs.Keep.{Fits, IsLoadable}
use Rattle.stamp_keep.specs.Steps.{AllStaged, HasTurned, IsMadeOr, IsStaging, IsTornFrom, KeepsSettled, LeavesTorn, Turns, TurnedContent, body, closing, next}
use Rattle.stamp_keep.specs.declared.keeper.Keeper.{Keeper}
use Rattle.stamp_keep.proofs.Moments.{weaker}
use Rattle.stamp_keep.proofs.Slots.{behind_unused, body_holds, either, ours_loads, remembers_stands, settled_next, staged, torn_loads, turned_unused}

pub if_some : {A : Type 0} (o : Option A) (P : A → Type 0) → ((a : A) → o ≡ Some a → P a) → IfSome o P
if_some (Some a) P h = h a refl
if_some None P h = tt

pub written_some : (at : ℕ) (piece : List ℕ) (old new : Option (List ℕ)) (c : List ℕ) → Written at piece old new → new ≡ Some c → (d : List ℕ) × (old ≡ Some d) × Holds at piece d c
written_some at piece (Some d) (Some e) c holds is = (d, refl, let same : e ≡ c = cc in subst (λ x. Holds at piece d x) same holds)
written_some at piece None None c holds is = absurd (cc)
written_some at piece (Some d) None c holds is = absurd holds
written_some at piece None (Some e) c holds is = absurd holds

turned_some : (gate : ℕ) (other : Option ℕ) (old new : Option (List ℕ)) (c : List ℕ) → TurnedContent gate other old new → new ≡ Some c → (d : List ℕ) × (old ≡ Some d) × Turns gate other d c
turned_some gate other (Some d) (Some e) c turns is = (d, refl, let same : e ≡ c = cc in subst (λ x. Turns gate other d x) same turns)
turned_some gate other None None c turns is = absurd (cc)
turned_some gate other (Some d) None c turns is = absurd turns
turned_some gate other None (Some e) c turns is = absurd turns

-- a keeper whose images are all settled fits
pub fits_all : (k : Keeper) (disk : DiskTold) → IsDisk disk → ((c : List ℕ) → disk.may_leave c → Settles k c) → Fits disk k
fits_all k disk is settled = record {
  settled = settled;
  stands = stands;
  loads = loads;
  content = if_some disk.content _ (λ c at. stands c (is.reads_as c at));
  content_loads = if_some disk.content _ (λ c at. loads c (is.reads_as c at));
}
  where
    loads : (c : List ℕ) → disk.may_leave c → IsLoadable c
    loads c left = let is = settled c left in ours_loads k c is.remembers is.version

    stands : (c : List ℕ) → disk.may_leave c → mark_of_image c ≡ k.mark
    stands c left = remembers_stands k c (settled c left).remembers

-- a torn body leaves what the keeper remembers
stage_leaves : (k : Keeper) (old : DiskTold) → Fits old k → (c : List ℕ) → IsTornFrom old (place k.target + 1) 7 c → IsStaging k old c
stage_leaves k old fits c torn = record {
  from = torn.from;
  was = torn.was;
  settled = staged k torn.from c (fits.settled torn.from torn.was) torn.same;
  unused = behind_unused k.target torn.from c torn.same;
}

pub stage_moments : (k : Keeper) (piece : List ℕ) (old new : DiskTold) → Fits old k → LeavesTorn (place k.target + 1) piece old new → length piece ≡ 7 → KeepsSettled k old new
stage_moments k piece old new fits torn is = record { run = weaker (rw is at torn.run) (stage_leaves k old fits) }

pub stage_holds : (k : Keeper) (mark : ℕ) (old new : DiskTold) → IsDisk old → Fits old k → mark < 2 ^ 32 → Written (place k.target + 1) (body mark) old.content new.content → IsSynced new → AllStaged new k mark
stage_holds k mark old new disk fits range written synced = record {
  each = λ c left.
      let from = written_some _ _ old.content new.content c written (synced.reads c left) in
      let was = fits.settled from.0 (disk.reads_as from.0 from.1) in
      let e : place k.target + 1 + 0 ≡ place k.target + 1 = omega arith in
      record {
        settled = staged k from.0 c was from.2.rest;
        version = rw e at (from.2.here 0 (omega arith));
        holds = body_holds mark (place k.target) c range from.2.here;
      };
}

-- gates that are turned, done or not, leave what an image stood for or the new mark
turn_leaves : (k : Keeper) (mark : ℕ) (old : DiskTold) → AllStaged old k mark → k.mark < mark → (c : List ℕ) → HasTurned old (place k.target) (closing k) c → IsMadeOr mark old c
turn_leaves k mark old all lt c turned =
    let was = all.each turned.from turned.was in
    let stood = remembers_stands k turned.from was.settled.remembers in
    record {
      from = turned.from;
      was = turned.was;
      either = ⊎_elim (λ e. inl (e ∙ sym stood)) (λ e. inr e) (either k turned.from c was.settled turned.same mark lt was.holds);
      loads = torn_loads k turned.from c was.settled turned.same was.version;
      unused = turned_unused k turned.from c was.settled turned.same;
    }

pub turn_moments : (k : Keeper) (mark : ℕ) (old new : DiskTold) → AllStaged old k mark → k.mark < mark → LeavesOnly old new (HasTurned old (place k.target) (closing k)) → LeavesOnly old new (IsMadeOr mark old)
turn_moments k mark old new all lt run = weaker run (turn_leaves k mark old all lt)

pub turn_fits : (k : Keeper) (mark : ℕ) (old new : DiskTold) → IsDisk old → IsDisk new → AllStaged old k mark → k.mark < mark → TurnedContent (place k.target) (closing k) old.content new.content → IsSynced new → Fits new (next k mark)
turn_fits k mark old new disk after all lt turned synced = fits_all (next k mark) new after settled
  where
    settled : (c : List ℕ) → new.may_leave c → Settles (next k mark) c
    settled c left =
        let from = turned_some _ _ old.content new.content c turned (synced.reads c left) in
        let was = all.each from.0 (disk.reads_as from.0 from.1) in
        settled_next k from.0 c was.settled from.2.same mark lt was.version was.holds from.2
