-- A run of a script in a new world: what it writes, and how it ends.
use Rattle.std.specs.Prelude.{◌≡◌, ◌≤◌, ◌⊎◌, ℕ, List, All, length, take, reverse, Option}
use Rattle.base_specs.specs.Counts.{Fails}
use Rattle.base_specs.specs.Told.{Added}
use Rattle.capture_fmt.specs.Capture.{SpellsEvents}
use Rattle.sntp_world.specs.declared.run.SimEnd.{SimEnd}
use Rattle.sntp_world.specs.declared.run.SimEnd.TheVariants.{Done, WriteFault, NoMemory}
use Rattle.sntp_world.specs.Accuracy.{IsNotNegative, IsWithinBound}
use Rattle.sntp_world.specs.Draws.{script_of}
use Rattle.sntp_world.specs.State.{State}
use Rattle.sntp_world.specs.Steps.{WorldAfter}
use Rattle.sntp_world.specs.Summary.{IsSummary}

-- What a whole run writes: the records of the member's events, and the summary. Each correction is within its bound, and
-- the slack that is printed isn't negative, whatever the seed and however many operations there are.
pub record WritesWhole (seed n : ℕ) (captured printed : List ℕ) : Type 0 where
  pub state : State
  pub after : WorldAfter (reverse (script_of seed n)) state
  pub capture : SpellsEvents (reverse state.history) captured
  pub summary : IsSummary n state printed
  pub accurate : All IsWithinBound state.corrections
  pub never_negative : IsNotNegative summary.slack

-- what output and capture tell, and how often a write of each has failed
pub record Sinks : Type 0 where
  pub out : Option (List ℕ)
  pub out_faults : ℕ
  pub capture : Option (List ℕ)
  pub capture_faults : ℕ

-- the two, by what each tells
abbrev pub sinks : Option (List ℕ) → ℕ → Option (List ℕ) → ℕ → Sinks
sinks out out_faults capture capture_faults =
    record { out = out; out_faults = out_faults; capture = capture; capture_faults = capture_faults }

-- all of it was written
pub record IsDone (captured printed : List ℕ) (before now : Sinks) : Type 0 where
  pub capture : Added before.capture now.capture captured
  pub out : Added before.out now.out printed
  pub no_capture_fault : now.capture_faults ≡ before.capture_faults
  pub no_out_fault : now.out_faults ≡ before.out_faults

-- A front of it was written. Nothing was printed before the capture was whole.
pub record BreaksOff (captured printed : List ℕ) (before now : Sinks) : Type 0 where
  pub front : ℕ
  pub lines : ℕ
  pub most : front ≤ length captured
  pub most_lines : lines ≤ length printed
  pub in_order : (front ≡ length captured) ⊎ (lines ≡ 0)
  pub capture : Added before.capture now.capture (take front captured)
  pub out : Added before.out now.out (take lines printed)

-- the write of one of the two failed, and of the other none
abbrev pub OneFails : Sinks → Sinks → Type 0
OneFails before now =
    (Fails before.capture_faults now.capture_faults × (now.out_faults ≡ before.out_faults))
    ⊎ (Fails before.out_faults now.out_faults × (now.capture_faults ≡ before.capture_faults))

-- what each end says
abbrev pub EndsBy : (captured printed : List ℕ) → Sinks → Sinks → SimEnd → Type 0
EndsBy captured printed before now Done = IsDone captured printed before now
EndsBy captured printed before now WriteFault = BreaksOff captured printed before now × OneFails before now
EndsBy captured printed before now NoMemory = BreaksOff captured printed before now
    × (now.capture_faults ≡ before.capture_faults) × (now.out_faults ≡ before.out_faults) × (now.out ≡ before.out)

-- the first operations of a seed were run, and it ended so
pub record Simulates (seed n : ℕ) (end : SimEnd) (before now : Sinks) : Type 0 where
  pub captured : List ℕ
  pub printed : List ℕ
  pub whole : WritesWhole seed n captured printed
  pub ends : EndsBy captured printed before now end

-- all that a whole run writes is determined by its seed and its number
abbrev pub LawOfOneRun : Type 0
LawOfOneRun = (seed n : ℕ) (captured recorded printed written : List ℕ) →
    WritesWhole seed n captured printed → WritesWhole seed n recorded written → (captured ≡ recorded) × (printed ≡ written)
