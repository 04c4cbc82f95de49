use Rattle.text_grammar.proofs.Dotted.{address_no_colon}
use Rattle.text_grammar.proofs.addresses.read_socket_address.Goals as goal

pub returns-in_err-address-clause-found : goal.returns-in_err-address-clause-found
returns-in_err-address-clause-found c ip port spells =
    absurd (c.in_err-address.ensures.found spells.address spells.digits (address_no_colon ip _ spells.address_spelled) spells.written)

pub returns-in_err-read_address-clause-found : goal.returns-in_err-read_address-clause-found
returns-in_err-read_address-clause-found c ip port spells =
    let parts = c.in_ok-address.ensures.found spells.address spells.digits (address_no_colon ip _ spells.address_spelled) spells.written in
    let wrong = c.in_err-read_address.ensures.found ip (rw parts.0 spells.address_spelled) in
    absurd cc

pub returns-in_err-read_port-clause-found : goal.returns-in_err-read_port-clause-found
returns-in_err-read_port-clause-found c ip port spells =
    let parts = c.in_ok-address.ensures.found spells.address spells.digits (address_no_colon ip _ spells.address_spelled) spells.written in
    let wrong = c.in_err-read_port.ensures.found port (rw parts.1 spells.port_spelled) in
    absurd cc

pub returns-clause-found : goal.returns-clause-found
returns-clause-found c ip port spells =
    let parts = c.in_ok-address.ensures.found spells.address spells.digits (address_no_colon ip _ spells.address_spelled) spells.written in
    let first = c.in_ok-read_address.ensures.found ip (rw parts.0 spells.address_spelled) in
    let second = c.in_ok-read_port.ensures.found port (rw parts.1 spells.port_spelled) in
    cc
