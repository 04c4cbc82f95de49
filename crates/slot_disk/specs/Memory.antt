-- What a disk in memory tells, which of its calls fail, and what they leave.
use Rattle.std.specs.Prelude.{slice_index, Bool, true, false, ◌==◌}
use Rattle.std.specs.List.{list_any}
use Rattle.std.proofs.Common.{◌≡◌, ◌⊎◌, inl, inr, ℕ, zero, suc, ◌+◌, ◌≤◌, ◌<◌, Some, ap, refl, sym, ◌∙◌, arith}
use Rattle.std.proofs.Common.{List, [], ◌∷◌, ◌++◌, length, drop}
use Rattle.edge_traits.specs.declared.sink.Put.{Put}
use Rattle.edge_traits.specs.declared.sink.Put.TheVariants as put
use Rattle.slot_disk.specs.declared.moment.Moment.{Moment}
use Rattle.slot_disk.specs.declared.memory.MemoryDisk.{MemoryDisk}
use Rattle.slot_disk.specs.declared.memory.Turn.{Turn}
use Rattle.slot_disk.specs.declared.memory.Turn.TheVariants as turn
use Rattle.slot_disk.specs.Told.{DiskTold, IsDisk}
use Rattle.base_specs.specs.Counts.{Fails}
use Rattle.slot_disk.specs.Calls.{IsUnchanged, SameOutside, Ticks}
use Rattle.slot_disk.specs.Moments.{IsImage, HadImage}

-- what is told of a moment after these, and after so many calls past the room
abbrev pub tells_of : Moment → List Moment → ℕ → DiskTold
tells_of now past beyond = record {
  content = Some now.bytes;
  may_leave = IsImage now;
  time = length past + beyond;
  left_since = λ t image. IsImage now image ⊎ HadImage (drop t past) image;
}

-- what a disk in memory tells now
abbrev pub memory_tells : MemoryDisk → DiskTold
memory_tells m = tells_of m.state m.past.items m.beyond

-- how many calls have failed
abbrev pub memory_faults : MemoryDisk → ℕ
memory_faults m = m.faults

-- the numbers of the calls that fail, counted from 1, and for how many calls there is room
pub record Plan : Type 0 where
  pub fails : List ℕ
  pub room : ℕ

-- the plan that a disk in memory goes by
abbrev pub plan_of : MemoryDisk → Plan
plan_of m = record { fails = m.fails.items; room = m.room }

-- whether the call of this number fails
abbrev pub is_listed : Plan → ℕ → Bool
is_listed plan number = list_any (λ listed. listed == number) plan.fails

-- The call after so many is done where there is room for it and it is neither listed nor stopped. In each
-- other case it fails.
abbrev pub GoesByPlan : Plan → Bool → ℕ → Put → Type 0
GoesByPlan plan stopped time put.Done = (time < plan.room) × (is_listed plan (time + 1) ≡ false) × (stopped ≡ false)
GoesByPlan plan stopped time put.Failed = (plan.room ≤ time) ⊎ (is_listed plan (time + 1) ≡ true) ⊎ (stopped ≡ true)

-- What a write may leave at the least: within the room each image before with any bytes in the n from at on.
-- Past the room a write changes nothing.
pub record TearsByPlan (plan : Plan) (at n : ℕ) (old new : DiskTold) : Type 0 where
  pub within : old.time < plan.room → (d c : List ℕ) → old.may_leave d → SameOutside at n d c → new.may_leave c
  pub past_room : plan.room ≤ old.time → IsUnchanged old new

-- within the room a call keeps what the disk was before it
abbrev pub KeepsMoment : Turn → MemoryDisk → MemoryDisk → Type 0
KeepsMoment turn.Passes old new =
    (old.beyond ≡ 0) × (new.beyond ≡ 0) × (new.past.items ≡ old.past.items ++ old.state ∷ [])
KeepsMoment turn.Fails old new =
    (old.beyond ≡ 0) × (new.beyond ≡ 0) × (new.past.items ≡ old.past.items ++ old.state ∷ [])
KeepsMoment turn.Beyond old new = (new.past.items ≡ old.past.items) × Ticks old.beyond new.beyond

-- why a call passes, fails or is beyond the room
abbrev pub TurnsByPlan : Plan → Bool → ℕ → Turn → Type 0
TurnsByPlan plan stopped time turn.Passes = (time < plan.room) × (is_listed plan (time + 1) ≡ false) × (stopped ≡ false)
TurnsByPlan plan stopped time turn.Fails = (time < plan.room) × ((is_listed plan (time + 1) ≡ true) ⊎ (stopped ≡ true))
TurnsByPlan plan stopped time turn.Beyond = plan.room ≤ time

-- a call that does not pass raises the count of faults
abbrev pub TurnCounts : Turn → ℕ → ℕ → Type 0
TurnCounts turn.Passes before now = now ≡ before
TurnCounts turn.Fails before now = Fails before now
TurnCounts turn.Beyond before now = Fails before now

none_left : (past : List Moment) (t : ℕ) (image : List ℕ) → length past ≤ t → HadImage (drop t past) image → ⊥
none_left [] zero image le had = had
none_left [] (suc t) image le had = had
none_left (m ∷ past) zero image le had = absurd (omega arith)
none_left (m ∷ past) (suc t) image le had = none_left past t image (omega arith) had

-- since this moment there is no other
only_image : (m : MemoryDisk) (image : List ℕ)
    → IsImage m.state image ⊎ HadImage (drop (length m.past.items + m.beyond) m.past.items) image
    → IsImage m.state image
only_image m image (inl now) = now
only_image m image (inr had) = absurd (none_left m.past.items (length m.past.items + m.beyond) image (omega arith) had)

-- an image of these moments but for the first t is one of them but for fewer
had_longer : (past : List Moment) (s t : ℕ) (image : List ℕ) → s ≤ t → HadImage (drop t past) image → HadImage (drop s past) image
had_longer [] zero zero image le had = had
had_longer [] zero (suc t) image le had = had
had_longer [] (suc s) zero image le had = had
had_longer [] (suc s) (suc t) image le had = had
had_longer (m ∷ past) zero zero image le had = had
had_longer (m ∷ past) zero (suc t) image le had = inr (had_longer past zero t image (omega arith) had)
had_longer (m ∷ past) (suc s) zero image le had = absurd (omega (arith, le))
had_longer (m ∷ past) (suc s) (suc t) image le had = had_longer past s t image (omega (arith, le)) had

longer_ago : (m : MemoryDisk) (s t : ℕ) (image : List ℕ) → s ≤ t → IsImage m.state image ⊎ HadImage (drop t m.past.items) image
    → IsImage m.state image ⊎ HadImage (drop s m.past.items) image
longer_ago m s t image le (inl now) = inl now
longer_ago m s t image le (inr had) = inr (had_longer m.past.items s t image le had)

pub memory_is_disk : (m : MemoryDisk) → IsDisk (memory_tells m)
memory_is_disk m = record {
  reads_as = λ c is.
      let same : m.state.bytes ≡ c = cc in
      record { size = ap length (sym same); rest = λ k free. ap (λ (l : List ℕ). slice_index l k) (sym same) };
  tells = λ c left. refl;
  size = λ c left. left.size ∙ m.state.size;
  counts_now = λ t c le left. inl left;
  only_now = only_image m;
  longer = longer_ago m;
}
