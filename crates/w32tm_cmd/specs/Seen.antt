-- What a run did with each device, by what they tell before and after.
use Rattle.std.specs.Prelude.{◌≡◌, ◌⊎◌, ◌<◌, ◌≤◌, ℕ, List, length, ⊤}
use Rattle.base_specs.specs.Counts.{Rose}
use Rattle.base_specs.specs.Told.{Took, IsUsedUp}
use Rattle.edge_seen.specs.Seen.{Seen}
use Rattle.w32tm_text.specs.declared.status.Status.{Status}
use Rattle.w32tm_text.specs.declared.status.Status.TheVariants.{ReadFault, WriteFault, DiskFault, ClockFault, EntropyFault}

-- these bytes were read: all there were, or as many as the limit
pub record ReadsInput (limit : ℕ) (before now : Seen) (input : List ℕ) : Type 0 where
  pub took : Took before.left now.left input
  pub most : length input ≤ limit
  pub all : length input < limit → IsUsedUp now.left
  pub no_fault : now.read_faults ≡ before.read_faults

-- nothing was written
pub record IsOutIdle (before now : Seen) : Type 0 where
  pub bytes : now.written ≡ before.written
  pub no_fault : now.write_faults ≡ before.write_faults

-- the clock was neither read nor corrected
pub record IsClockIdle (before now : Seen) : Type 0 where
  pub told : now.clock ≡ before.clock
  pub no_fault : now.clock_faults ≡ before.clock_faults

-- no call of the input, the output or the clock failed
pub record HasNoFault (before now : Seen) : Type 0 where
  pub read : Rose before.read_faults now.read_faults → ⊥
  pub write : Rose before.write_faults now.write_faults → ⊥
  pub clock : Rose before.clock_faults now.clock_faults → ⊥

-- no count falls
pub record NeverFalls (before now : Seen) : Type 0 where
  pub config : before.config_faults ≤ now.config_faults
  pub read : before.read_faults ≤ now.read_faults
  pub write : before.write_faults ≤ now.write_faults
  pub capture : before.capture_faults ≤ now.capture_faults
  pub link : before.link_faults ≤ now.link_faults
  pub clock : before.clock_faults ≤ now.clock_faults
  pub disk : before.disk_faults ≤ now.disk_faults
  pub entropy : before.entropy_faults ≤ now.entropy_faults
  pub wire : before.wire_faults ≤ now.wire_faults
  pub wire_write : before.wire_write_faults ≤ now.wire_write_faults

-- a fault that is answered raised the count of a call that it speaks of
abbrev pub HasCause : Status → Seen → Seen → Type 0
HasCause ReadFault before now =
    Rose before.config_faults now.config_faults ⊎ Rose before.read_faults now.read_faults
HasCause WriteFault before now =
    Rose before.write_faults now.write_faults ⊎ Rose before.capture_faults now.capture_faults
HasCause DiskFault before now = Rose before.disk_faults now.disk_faults
HasCause ClockFault before now = Rose before.clock_faults now.clock_faults
HasCause EntropyFault before now = Rose before.entropy_faults now.entropy_faults
HasCause _ before now = ⊤

-- no count falls, and each fault has its cause
pub record FaultsHaveCauses (before now : Seen) (result : Status) : Type 0 where
  pub counts : NeverFalls before now
  pub cause : HasCause result before now
