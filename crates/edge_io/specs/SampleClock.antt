-- A clock whose corrections are samples for chronyd.
use Rattle.std.specs.Prelude.{◌≡◌, ℕ, Bool, true, false, ℤ, pos, List, Option, Some, None, ⊤}
use Rattle.std.specs.Io.KnownBytes.{Appends}
use Rattle.base_specs.specs.Counts.{next_count}
use Rattle.base_specs.specs.Time.{IsReading}
use Rattle.edge_traits.specs.declared.clock.Reading.{Reading}
use Rattle.edge_traits.specs.declared.clock.Reading.TheVariants as clock
use Rattle.edge_io.specs.Sample.{SpellsSample}
use Rattle.edge_io.specs.declared.sample_clock.Samples.{Samples}
use Rattle.edge_io.specs.declared.sample_clock.Samples.TheVariants.{Unopened, Open, Stopped}

-- where the samples of a clock go, and how many of its readings failed
pub record SampledClock (File : Type 0) : Type 0 where
  pub samples : Samples File
  pub faults : ℕ

-- a sample could not be written
abbrev pub is_stopped : {File : Type 0} → Samples File → Bool
is_stopped Unopened = false
is_stopped (Open file) = false
is_stopped Stopped = true

-- one more reading failed
abbrev pub with_failure : {File : Type 0} → SampledClock File → SampledClock File
with_failure c = record c { faults = next_count c.faults }

-- A reading is the machine's, where that is a reading and each sample so far was written. Else it fails, and so it does where
-- the machine's clock can't be had.
abbrev pub ReadsMachine : {File : Type 0} → Option ℕ → Reading → SampledClock File → SampledClock File → Type 0
ReadsMachine (Some machine) (clock.At t) old new = (t ≡ pos machine) × (is_stopped old.samples ≡ false) × (new ≡ old)
ReadsMachine (Some machine) clock.Failed old new =
    (is_stopped old.samples ≡ false → IsReading (pos machine) → ⊥) × (new ≡ with_failure old)
ReadsMachine None (clock.At t) old new = ⊥
ReadsMachine None clock.Failed old new = new ≡ with_failure old

-- the sample of an offset was added to the bytes, as it was measured at some moment
abbrev pub AddsSample : ℤ → Option (List ℕ) → Option (List ℕ) → Type 0
AddsSample offset old new = (nanos : ℕ) × (bytes : List ℕ) × SpellsSample nanos offset bytes × Appends old new bytes

-- A correction opens the file if it is the first, and adds its sample to it. Where it could not, no later one does.
abbrev pub TakesSample : {File : Type 0} → ℤ → (File → Option (List ℕ)) → Samples File → Samples File → Type 0
TakesSample offset contents (Open old) (Open new) = AddsSample offset (contents old) (contents new)
TakesSample offset contents Unopened (Open new) = (opened : _) × AddsSample offset (contents opened) (contents new)
TakesSample offset contents Stopped (Open new) = ⊥
TakesSample offset contents old Unopened = ⊥
TakesSample offset contents old Stopped = ⊤
