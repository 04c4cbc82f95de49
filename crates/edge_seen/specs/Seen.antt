-- What the devices tell at a moment.
use Rattle.std.specs.Prelude.{ℕ, List, Option, None}
use Rattle.edge_traits.specs.Clock.{ClockCall}
use Rattle.edge_traits.specs.Link.{LinkCall}
use Rattle.edge_traits.specs.Wire.{Entry}

-- the bytes left of the settings and of the input, the bytes written to the output and to the capture, the calls of the
-- link and of the clock in their order, the random words given, the sessions of the wire with what was answered to each
-- request for one, and the counts of failed calls, of which a wire has one for its writes and one for all others
pub record Seen : Type 0 where
  pub config : Option (List ℕ)
  pub config_faults : ℕ
  pub left : Option (List ℕ)
  pub read_faults : ℕ
  pub written : Option (List ℕ)
  pub write_faults : ℕ
  pub capture : Option (List ℕ)
  pub capture_faults : ℕ
  pub link : Option (List LinkCall)
  pub link_faults : ℕ
  pub clock : Option (List ClockCall)
  pub clock_faults : ℕ
  pub disk_faults : ℕ
  pub words : Option (List ℕ)
  pub entropy_faults : ℕ
  pub wire : Option (List Entry)
  pub wire_faults : ℕ
  pub wire_write_faults : ℕ

-- no device tells anything, and no call has failed
abbrev pub silent : Seen
silent = record {
  config = None;
  config_faults = 0;
  left = None;
  read_faults = 0;
  written = None;
  write_faults = 0;
  capture = None;
  capture_faults = 0;
  link = None;
  link_faults = 0;
  clock = None;
  clock_faults = 0;
  disk_faults = 0;
  words = None;
  entropy_faults = 0;
  wire = None;
  wire_faults = 0;
  wire_write_faults = 0;
}
