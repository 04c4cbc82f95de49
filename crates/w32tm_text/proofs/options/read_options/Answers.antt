use Rattle.w32tm_text.specs.declared.options.OptionName.TheVariants.{Config, Keeper, Capture, Port, Clock, RpcPort, Computer}
use Rattle.w32tm_text.proofs.Givens.{command_is}
use Rattle.w32tm_text.proofs.options.read_options.Goals as goal

pub returns-in_err-target_of-clause-found : goal.returns-in_err-target_of-clause-found
returns-in_err-target_of-clause-found c other same spelled =
    let wrong = c.in_err-target_of.ensures.found other.computer (spelled.once Computer) spelled.computer in
    cc wrong

pub returns-clause-found : goal.returns-clause-found
returns-clause-found c other same spelled =
    command_is other c.args.action _ _ _ _ _ _ _ same (c.in_ok-path_of.ensures.found other.config (spelled.once Config) spelled.config)
    (c.in_ok-path_of-2.ensures.found other.keeper (spelled.once Keeper) spelled.keeper)
    (c.in_ok-path_of-3.ensures.found other.capture (spelled.once Capture) spelled.capture)
    (c.in_ok-port_of.ensures.found other.port (spelled.once Port) spelled.port)
    (c.in_ok-path_of-4.ensures.found other.clock (spelled.once Clock) spelled.clock)
    (c.in_ok-port_of-2.ensures.found other.rpc_port (spelled.once RpcPort) spelled.rpc_port)
    (c.in_ok-target_of.ensures.found other.computer (spelled.once Computer) spelled.computer)
