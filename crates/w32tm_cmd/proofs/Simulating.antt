-- What follows from a run of `/simulate` for each answer.
use Rattle.std.proofs.Common.{◌≡◌, ◌⊎◌, ℕ, inl, inr, refl, arith}
use Rattle.edge_seen.specs.Seen.{Seen}
use Rattle.sntp_world.specs.Simulation.{OneFails}
use Rattle.w32tm_cmd.proofs.Configuring.{rose}
use Rattle.w32tm_cmd.specs.Seen.{HasCause}
use Rattle.w32tm_cmd.specs.Simulate.{IsSimulateFaultless, IsWriteCounted, RunsSimulate, SimulatePromise, sinks_of}
use Rattle.w32tm_text.specs.declared.status.Status.{Status}
use Rattle.w32tm_text.specs.declared.status.Status.TheVariants.{Done, WriteFault, NoMemory}

-- a failed write is the cause of the answer
write_cause : (before now : Seen) → OneFails (sinks_of before) (sinks_of now) → HasCause WriteFault before now
write_cause before now (inl captured) = inr (rose _ _ captured.0)
write_cause before now (inr printed) = inl (rose _ _ printed.0)

pub causes : (seed operations : ℕ) (before now : Seen) (result : Status) → RunsSimulate seed operations before now result → HasCause result before now
causes seed operations before now Done runs = tt
causes seed operations before now WriteFault runs = write_cause before now runs.simulates.ends.1
causes seed operations before now NoMemory runs = tt
causes seed operations before now _ runs = absurd runs

-- where both counts stood still, no failed write was counted
none_counted : (before now : Seen) → now.write_faults ≡ before.write_faults → now.capture_faults ≡ before.capture_faults → IsWriteCounted before now → ⊥
none_counted before now out capture (inl more) = omega (arith, out, more)
none_counted before now out capture (inr more) = omega (arith, capture, more)

exactly : (seed operations : ℕ) (before now : Seen) (result : Status) → RunsSimulate seed operations before now result → IsWriteCounted before now → result ≡ WriteFault
exactly seed operations before now Done runs more =
    let done = runs.simulates.ends in
    absurd (none_counted before now done.no_out_fault done.no_capture_fault more)
exactly seed operations before now WriteFault runs more = refl
exactly seed operations before now NoMemory runs more =
    let stopped = runs.simulates.ends in
    absurd (none_counted before now stopped.2 stopped.1 more)
exactly seed operations before now _ runs more = absurd runs

completely : (seed operations : ℕ) (before now : Seen) (result : Status) → RunsSimulate seed operations before now result → IsSimulateFaultless before now
    → (result ≡ Done) ⊎ (result ≡ NoMemory)
completely seed operations before now Done runs none = inl refl
completely seed operations before now WriteFault runs none = elim (write_cause before now runs.simulates.ends.1) [
  | inl printed ↦ absurd (none.write printed)
  | inr captured ↦ absurd (none.capture captured)
]
completely seed operations before now NoMemory runs none = inr refl
completely seed operations before now _ runs none = absurd runs

pub promises : (seed operations : ℕ) (before now : Seen) (result : Status) → RunsSimulate seed operations before now result → SimulatePromise seed operations before now result
promises seed operations before now result runs = record {
  runs = runs;
  exact = exactly seed operations before now result runs;
  complete = completely seed operations before now result runs;
}
