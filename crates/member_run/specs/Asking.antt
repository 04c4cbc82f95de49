-- What a run asks of one device, with its failure as the answer of the run.
use Rattle.std.specs.Prelude.{◌≡◌, ◌<◌, ◌^◌, ℕ, ℤ, List, [], ◌∷◌, take, Option, Result, Ok, Err}
use Rattle.base_specs.specs.Counts.{Fails}
use Rattle.base_specs.specs.Told.{Added}
use Rattle.edge_traits.specs.declared.sink.Put.{Put}
use Rattle.edge_traits.specs.declared.sink.Put.TheVariants as write
use Rattle.edge_traits.specs.Clock.{ClockCall, GaveReadings}
use Rattle.run_deeds.specs.declared.life_end.Why.{Why}
use Rattle.run_deeds.specs.declared.life_end.Why.TheVariants.{Done, DiskFault, BadVersion, StampsSpent, ClockFault, EntropyFault, SinkFault}

-- a reading was given, or the clock failed and gave none
abbrev pub ReadBy : Result ℤ Why → Option (List ClockCall) → Option (List ClockCall) → ℕ → ℕ → Type 0
ReadBy (Ok time) old new before now = GaveReadings old new (time ∷ []) × (now ≡ before)
ReadBy (Err why) old new before now = (why ≡ ClockFault) × (new ≡ old) × Fails before now

-- a word was given, or the draw failed
abbrev pub DrawnBy : Result ℕ Why → Option (List ℕ) → Option (List ℕ) → ℕ → ℕ → Type 0
DrawnBy (Ok word) old new before now = (word < 2 ^ 32) × Added old new (word ∷ []) × (now ≡ before)
DrawnBy (Err why) old new before now = (why ≡ EntropyFault) × (new ≡ old) × Fails before now

-- a failed write is a fault of the sink
abbrev pub ended_by : Put → Result (Unit {0}) Why
ended_by write.Done = Ok tt
ended_by write.Failed = Err SinkFault

-- a piece was written, or a front of it where the write failed; nothing but a failed write ends it
abbrev pub WrittenBy : Why → List ℕ → Option (List ℕ) → Option (List ℕ) → ℕ → ℕ → Type 0
WrittenBy Done piece old new before now = Added old new piece × (now ≡ before)
WrittenBy SinkFault piece old new before now = (front : ℕ) × Added old new (take front piece) × Fails before now
WrittenBy DiskFault piece old new before now = ⊥
WrittenBy BadVersion piece old new before now = ⊥
WrittenBy StampsSpent piece old new before now = ⊥
WrittenBy ClockFault piece old new before now = ⊥
WrittenBy EntropyFault piece old new before now = ⊥
