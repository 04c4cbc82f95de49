-- How the replay of bytes ends, where no read and no write fails.
use Rattle.std.specs.Prelude.{◌≡◌, ◌<◌, ◌⊎◌, ℕ, List, [], ◌++◌, length}
use Rattle.capture_fmt.specs.declared.event.Event.{Event}
use Rattle.capture_fmt.specs.declared.fault.CaptureFault.{CaptureFault}
use Rattle.capture_fmt.specs.Capture.{SpellsEvents, BeginBelow, IsFault, place_limit}
use Rattle.time_machine.specs.declared.conf.Conf.{Conf}
use Rattle.time_machine.specs.Events.{History}
use Rattle.time_machine.specs.Growing.{Grows}
use Rattle.replay_run.specs.declared.end.ReplayWhy.{ReplayWhy}
use Rattle.replay_run.specs.declared.end.ReplayWhy.TheVariants.{Done, BadCapture, ReadFault, WriteFault}
use Rattle.replay_run.specs.Replay.{IsRefused, history_of}

-- The bytes from this place on begin with a record that is outside the grammar, or whose event may not follow this
-- history. One past the limit is outside the grammar though no byte is there.
abbrev pub IsBadRecord : Conf → History → ℕ → List ℕ → Type 0
IsBadRecord conf history place bytes =
    ((wrong : CaptureFault) × IsFault place bytes wrong) ⊎ IsRefused conf history place bytes

-- what stands behind the records that are taken: the end below the limit, or a bad record
abbrev pub EndsAt : Conf → History → ℕ → List ℕ → ReplayWhy → Type 0
EndsAt conf history place bytes Done = (place < place_limit) × (bytes ≡ [])
EndsAt conf history place bytes (BadCapture at) = (at ≡ place) × IsBadRecord conf history place bytes
EndsAt conf history place bytes ReadFault = ⊥
EndsAt conf history place bytes WriteFault = ⊥

-- The bytes are the records of a history that grows, each of which begins below the limit, and then what ends the
-- replay.
pub record ReplaysTo (conf : Conf) (bytes : List ℕ) (why : ReplayWhy) : Type 0 where
  pub events : List Event
  pub front : List ℕ
  pub rest : List ℕ
  pub cut : bytes ≡ front ++ rest
  pub before : SpellsEvents events front
  pub below : BeginBelow 0 events
  pub grows : Grows conf (history_of events)
  pub here : EndsAt conf (history_of events) (length front) rest why

-- the bytes are the records of a history that grows, and end below the limit
pub record SpellsGrowing (conf : Conf) (bytes : List ℕ) : Type 0 where
  pub events : List Event
  pub spells : SpellsEvents events bytes
  pub short : length bytes < place_limit
  pub grows : Grows conf (history_of events)
