-- What the commands open.
use Rattle.std.specs.Prelude.{◌≡◌, ℕ, Bool, true, false, List, ◌++◌, slice_get, Option, Some, None, String, is_some, option_map, unwrap_or}
use Rattle.std.specs.declared.alloc.Global.{Global}
use Rattle.edge_io.specs.declared.random.RandomFile.{RandomFile}
use Rattle.edge_io.specs.declared.udp_link.UdpLink.{UdpLink}
use Rattle.w32tm_text.specs.declared.words.Action.{Action}
use Rattle.w32tm_text.specs.declared.words.Action.TheVariants.{Dc, Member, Monitor, Replay, Simulate, Service}
use Rattle.w32tm_text.specs.declared.words.Command.{Command}
use Rattle.w32tm_text.specs.Words.{texts}

-- the word at this place is the name of an option and then this path
abbrev pub HasPathAt : List ℕ → List (String Global) → ℕ → List ℕ → Type 0
HasPathAt name words place path = slice_get (texts words) place ≡ Some (name ++ path)

-- the local port of a command's link where the words name none: 123 for a controller, which answers there, and any
-- free one, 0, for one that asks; the others have no link
abbrev pub default_port : Action → Option ℕ
default_port (Dc turns) = Some 123
default_port (Member turns) = Some 0
default_port Monitor = Some 0
default_port (Service sessions) = Some 0
default_port _ = None

-- the local port of a command's link, if there is a command with one: that which the words name, and else its own
abbrev pub port_by : Option Command → Option ℕ
port_by None = None
port_by (Some command) = option_map (λ port. unwrap_or command.port port) (default_port command.action)

-- which commands draw random words
abbrev pub draws : Action → Bool
draws (Member turns) = true
draws Monitor = true
draws (Service sessions) = true
draws _ = false

-- whether there is a command that draws them
abbrev pub draws_by : Option Command → Bool
draws_by None = false
draws_by (Some command) = draws command.action

-- whether a link has a socket
abbrev pub has_socket : UdpLink → Bool
has_socket link = is_some link.socket

-- whether there is a file of random words
abbrev pub has_words : {F : Type 0} → RandomFile F → Bool
has_words words = is_some words.reader

-- the word of the capture that a command reads: `/replay` reads it, and no other command does
abbrev pub capture_read : Action → Option ℕ → Option ℕ
capture_read Replay place = place
capture_read action place = None

-- the word of the capture that a command records: `/member`, `/service` and `/simulate` record it, and no other command
-- does
abbrev pub capture_recorded : Action → Option ℕ → Option ℕ
capture_recorded (Member turns) place = place
capture_recorded (Simulate seed operations) place = place
capture_recorded (Service sessions) place = place
capture_recorded action place = None

-- the words that name a file of this command, if there is a command: its settings, its keeper, the samples of its clock,
-- and the capture that it reads or records
abbrev pub config_by : Option Command → Option ℕ
config_by None = None
config_by (Some command) = command.config

abbrev pub keeper_by : Option Command → Option ℕ
keeper_by None = None
keeper_by (Some command) = command.keeper

abbrev pub samples_by : Option Command → Option ℕ
samples_by None = None
samples_by (Some command) = command.clock

abbrev pub read_by : Option Command → Option ℕ
read_by None = None
read_by (Some command) = capture_read command.action command.capture

abbrev pub recorded_by : Option Command → Option ℕ
recorded_by None = None
recorded_by (Some command) = capture_recorded command.action command.capture
