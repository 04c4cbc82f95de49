-- The command `/simulate`: a member, its controller and a hostile net are run by a script.
use Rattle.std.specs.Prelude.{◌≡◌, ◌⊎◌, ◌<◌, ℕ}
use Rattle.base_specs.specs.Counts.{Rose}
use Rattle.sntp_world.specs.declared.run.SimEnd.{SimEnd}
use Rattle.sntp_world.specs.declared.run.SimEnd.TheVariants as end
use Rattle.sntp_world.specs.Simulation.{Simulates, Sinks, sinks}
use Rattle.w32tm_text.specs.declared.status.Status.{Status}
use Rattle.w32tm_text.specs.declared.status.Status.TheVariants.{Done, WriteFault, NoMemory}
use Rattle.edge_seen.specs.Seen.{Seen}

-- output and capture, by what they tell
abbrev pub sinks_of : Seen → Sinks
sinks_of seen = sinks seen.written seen.write_faults seen.capture seen.capture_faults

-- So many operations of the seed were run in a new world, and the run ended so. Nothing was read, sent or taken, the
-- clock was neither read nor moved, and no word was drawn.
pub record SimulatesUntil (seed operations : ℕ) (before now : Seen) (end : SimEnd) : Type 0 where
  pub simulates : Simulates seed operations end (sinks_of before) (sinks_of now)
  pub others : now ≡ record before {
    written = now.written;
    write_faults = now.write_faults;
    capture = now.capture;
    capture_faults = now.capture_faults;
  }

-- what each answer of `/simulate` says
abbrev pub RunsSimulate : (seed operations : ℕ) → Seen → Seen → Status → Type 0
RunsSimulate seed operations before now Done = SimulatesUntil seed operations before now end.Done
RunsSimulate seed operations before now WriteFault = SimulatesUntil seed operations before now end.WriteFault
RunsSimulate seed operations before now NoMemory = SimulatesUntil seed operations before now end.NoMemory
RunsSimulate seed operations before now _ = ⊥

-- the count of failed writes of the output or that of the capture went up
abbrev pub IsWriteCounted : Seen → Seen → Type 0
IsWriteCounted before now = (before.write_faults < now.write_faults) ⊎ (before.capture_faults < now.capture_faults)

-- no write of the output or of the capture failed
pub record IsSimulateFaultless (before now : Seen) : Type 0 where
  pub write : ¬ Rose before.write_faults now.write_faults
  pub capture : ¬ Rose before.capture_faults now.capture_faults

-- all that `/simulate` promises of what is told: where a failed write was counted, that is the answer, and where none failed,
-- it is done, unless memory was wanted
pub record SimulatePromise (seed operations : ℕ) (before now : Seen) (result : Status) : Type 0 where
  pub runs : RunsSimulate seed operations before now result
  pub exact : IsWriteCounted before now → result ≡ WriteFault
  pub complete : IsSimulateFaultless before now → (result ≡ Done) ⊎ (result ≡ NoMemory)
