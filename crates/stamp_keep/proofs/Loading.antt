-- What a load leaves on the disk at each step.
use Rattle.std.proofs.Common.{◌≡◌, ⊎_elim, ℕ, ◌+◌, ◌-◌, ◌^◌, ◌≤◌, ◌<◌, List, [], ◌∷◌, Option, Some, None, IfSome, sym, ◌∙◌, ap, subst, refl, arith}
use Rattle.slot_disk.specs.Told.{DiskTold, IsDisk}
use Rattle.slot_disk.specs.Calls.{NoOther, Holds, IsSynced, LeavesOnly, SameOutside, Written}
use Rattle.stamp_keep.specs.Image.{HasClosedGate, HasOpenGate, mark_of_image}
use Rattle.stamp_keep.specs.Slots.{place, IsOurs, Remembers, Settles}
use Rattle.stamp_keep.specs.Keep.{Fits, KeepsUnused, LeavesFromFirst, RefusedAsBefore, StandsAsBefore, StandsAsRead}
use Rattle.stamp_keep.specs.Steps.{HasRead, IsContent, IsMadeFrom, IsOnlyImage, IsTornFrom}
use Rattle.stamp_keep.specs.declared.keeper.Keeper.{Keeper}
use Rattle.stamp_keep.proofs.Gates.{first_byte}
use Rattle.stamp_keep.proofs.Moments.{and_then, started, weaker}
use Rattle.stamp_keep.proofs.Slots.{gate_unused, ours_loads, remembers_stands}
use Rattle.stamp_keep.proofs.Staging.{fits_all, written_some}
use Rattle.stamp_keep.proofs.Surveys.{torn_ours, torn_remembers}

-- an image of the disk was made from itself
still : (disk : DiskTold) (c : List ℕ) → disk.may_leave c → IsMadeFrom disk c
still disk c left = record { from = c; was = left; mark = refl; refused = λ other. other; unused = record { same = λ at free. refl } }

module _ (k : Keeper) (image : List ℕ) (old : DiskTold) (remembers : Remembers k image) (ours : IsOurs k image) (all : IsOnlyImage image old) (disk : IsDisk old) where
  -- nothing is written where the target is closed
  pub closed_fits : HasClosedGate image (place k.target) → Fits old k
  closed_fits shut = fits_all k old disk (λ c left. subst (λ d. Settles k d) (sym (all.only c left)) (record { remembers = remembers; version = ours; target = shut }))

  pub closed_moments : LeavesOnly old old (IsMadeFrom old)
  closed_moments = started old (IsMadeFrom old) disk (still old)

  torn_stands : HasOpenGate image (place k.target) → (c : List ℕ) → IsTornFrom old (place k.target) 1 c → IsMadeFrom old c
  torn_stands is_open c torn =
      let same = all.only torn.from torn.was in
      let tears = subst (λ d. SameOutside (place k.target) 1 d c) same torn.same in
      let is = torn_remembers k image c remembers tears is_open in
      record {
        from = torn.from;
        was = torn.was;
        mark = remembers_stands k c is ∙ sym (ap mark_of_image same ∙ remembers_stands k image remembers);
        refused = λ other. absurd (ours_loads k c is (torn_ours k image c remembers tears ours) other);
        unused = gate_unused k.target torn.from c torn.same;
      }

  -- the gate of an open target is torn
  pub shut_moments : (new : DiskTold) → HasOpenGate image (place k.target) → LeavesOnly old new (IsTornFrom old (place k.target) 1) → LeavesOnly old new (IsMadeFrom old)
  shut_moments new is_open run = weaker run (torn_stands is_open)

  -- .. and then closed
  pub shut_fits : (new : DiskTold) → IsDisk new → HasOpenGate image (place k.target) → Written (place k.target) (0 ∷ []) old.content new.content → IsSynced new → Fits new k
  shut_fits new after is_open written synced = fits_all k new after settled
    where
      settled : (c : List ℕ) → new.may_leave c → Settles k c
      settled c left =
          let from = written_some _ _ old.content new.content c written (synced.reads c left) in
          let same = all.only from.0 (disk.reads_as from.0 from.1) in
          let holds = subst (λ d. Holds (place k.target) (0 ∷ []) d c) same from.2 in
          let shut : HasClosedGate c (place k.target) = λ e. absurd (omega (arith, e, first_byte (place k.target) 0 image c holds)) in
          record {
            remembers = torn_remembers k image c remembers holds.rest is_open;
            version = torn_ours k image c remembers holds.rest ours;
            target = shut;
          }

module _ (old : DiskTold) where
  as_before : (c : List ℕ) → IsMadeFrom old c → StandsAsBefore old c
  as_before c made = record { from = made.from; was = made.was; same = made.mark }

  refused_as_before : (c : List ℕ) → IsMadeFrom old c → RefusedAsBefore old c
  refused_as_before c made = record { from = λ other. (made.from, made.was, made.refused other) }

  keeps_unused : (c : List ℕ) → IsMadeFrom old c → KeepsUnused old c
  keeps_unused c made = record { from = made.from; was = made.was; same = made.unused }

  -- the disk was read, and not written
  module _ (new : DiskTold) (run : LeavesOnly old new old.may_leave) where
    read_made : LeavesOnly old new (IsMadeFrom old)
    read_made = weaker run (still old)

    pub read_marks : LeavesOnly old new (StandsAsBefore old)
    read_marks = weaker read_made as_before

    pub read_refuses : LeavesOnly old new (RefusedAsBefore old)
    read_refuses = weaker read_made refused_as_before

    pub read_unused : LeavesOnly old new (KeepsUnused old)
    read_unused = weaker read_made keeps_unused

  -- .. and then a gate was closed
  module _ (mid new : DiskTold) (crash : NoOther old mid) (first : LeavesOnly old mid old.may_leave) (second : LeavesOnly mid new (IsMadeFrom mid)) where
    load_made : LeavesOnly old new (IsMadeFrom old)
    load_made = and_then first second (still old) (λ c made. record { from = made.from; was = crash.was made.from made.was; mark = made.mark; refused = made.refused; unused = made.unused })

    pub load_marks : LeavesOnly old new (StandsAsBefore old)
    load_marks = weaker load_made as_before

    pub load_refuses : LeavesOnly old new (RefusedAsBefore old)
    load_refuses = weaker load_made refused_as_before

    pub load_unused : LeavesOnly old new (KeepsUnused old)
    load_unused = weaker load_made keeps_unused

-- the content stands for what it stands for
content_stands : (content : Option (List ℕ)) (image : List ℕ) → IfSome content (λ c. image ≡ c) → IfSome content (λ c. mark_of_image image ≡ mark_of_image c)
content_stands (Some c) image same = ap mark_of_image same
content_stands None image same = tt

pub read_begins : (old new : DiskTold) → LeavesFromFirst old new (IsContent old) → LeavesFromFirst old new (StandsAsRead old)
read_begins old new first = record { each = λ room calls c left. record { same = content_stands old.content c (first.each room calls c left).same } }

pub load_begins : (image : List ℕ) (old mid new : DiskTold) → LeavesFromFirst old mid (IsContent old) → HasRead image old mid → LeavesOnly mid new (IsMadeFrom mid) → LeavesFromFirst old new (StandsAsRead old)
load_begins image old mid new first read second = record { each = stands }
  where
    made_stands : (c : List ℕ) → IsMadeFrom mid c → StandsAsRead old c
    made_stands c made =
        let same : mark_of_image c ≡ mark_of_image image = made.mark ∙ ap mark_of_image (read.one.only made.from made.was) in
        record { same = rw same (content_stands old.content image read.bytes) }

    stands : old.time < 2 ^ 64 - 2 → old.time + 2 ≤ new.time → (c : List ℕ) → new.left_since (old.time + 1) c → StandsAsRead old c
    stands room calls c left =
        let made = read.calls room in
        ⊎_elim
        (λ was. record { same = content_stands old.content c (first.each room (omega (arith, made)) c was).same })
        (made_stands c)
        (second.before (old.time + 1) c (omega (arith, made)) left)

pub ruleset load_rules = (load_begins, load_marks, load_refuses, load_unused, read_begins, read_marks, read_refuses, read_unused)
