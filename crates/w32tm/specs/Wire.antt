-- What the wire of a command does: it accepts sessions, or has one with a service.
use Rattle.std.specs.Prelude.{◌≡◌, ◌⊎◌, ℕ, Bool, true, false, if◌then◌else◌, Option, Some, None, unwrap_or}
use Rattle.edge_io.specs.declared.tcp_wire.Side.{Side}
use Rattle.edge_io.specs.declared.tcp_wire.Side.TheVariants.{Closed}
use Rattle.edge_io.specs.TcpWire.{is_accepting}
use Rattle.edge_traits.specs.declared.datagram.Addr.{Addr}
use Rattle.w32tm_text.specs.declared.words.Action.{Action}
use Rattle.w32tm_text.specs.declared.words.Action.TheVariants.{Resync, QuerySource, QueryBits, Service}
use Rattle.w32tm_text.specs.declared.words.Command.{Command}

-- which commands call a service
abbrev pub calls : Action → Bool
calls (Resync wait rediscover) = true
calls QuerySource = true
calls QueryBits = true
calls _ = false

-- the service that is called, if there is a command that calls one: that which the words name
abbrev pub target_by : Option Command → Option Addr
target_by None = None
target_by (Some command) = if calls command.action then Some command.computer else None

-- which commands are called
abbrev pub is_called : Action → Bool
is_called (Service sessions) = true
is_called _ = false

-- the local port of remote calls, if there is a command that is called: that which the words name, and else 49152
abbrev pub rpc_port_by : Option Command → Option ℕ
rpc_port_by None = None
rpc_port_by (Some command) = if is_called command.action then Some (unwrap_or command.rpc_port 49152) else None

-- the wire accepts sessions, or the port was not to be had
abbrev pub IsListening : {L : Type 0} → Side L → Type 0
IsListening side = (is_accepting side ≡ true) ⊎ (side ≡ Closed)
