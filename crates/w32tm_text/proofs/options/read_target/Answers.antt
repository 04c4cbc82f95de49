use Rattle.std.proofs.Common.{Some, ap, sym}
use Rattle.w32tm_text.proofs.Targets.{is_host, is_socket, target_is}
use Rattle.w32tm_text.proofs.options.read_target.Goals as goal

pub returns-in_err-read_address-in-None-clause-found : goal.returns-in_err-read_address-in-None-clause-found
returns-in_err-read_address-in-None-clause-found c addr spells =
    let host = is_host addr c.args.text.now c.in-None.ensures.none spells in
    let wrong = c.in_err-read_address-in-None.ensures.found addr.ip host.ip in
    cc wrong

pub returns-in_err-read_address-in-Some-clause-found : goal.returns-in_err-read_address-in-Some-clause-found
returns-in_err-read_address-in-Some-clause-found c addr spells =
    let parts = is_socket addr c.args.text.now c.in-Some.address.now c.in-Some.port.now c.in-Some.ensures.parts c.in-Some.ensures.first spells in
    let wrong = c.in_err-read_address-in-Some.ensures.found addr.ip parts.0 in
    cc wrong

pub returns-in_err-read_port-in-Some-clause-found : goal.returns-in_err-read_port-in-Some-clause-found
returns-in_err-read_port-in-Some-clause-found c addr spells =
    let parts = is_socket addr c.args.text.now c.in-Some.address.now c.in-Some.port.now c.in-Some.ensures.parts c.in-Some.ensures.first spells in
    let wrong = c.in_err-read_port-in-Some.ensures.found addr.port parts.1 in
    cc wrong

pub returns-in_ok-read_address-in-None-clause-found : goal.returns-in_ok-read_address-in-None-clause-found
returns-in_ok-read_address-in-None-clause-found c addr spells =
    let host = is_host addr c.args.text.now c.in-None.ensures.none spells in
    target_is addr _ _ (c.in_ok-read_address-in-None.ensures.found addr.ip host.ip) (sym (ap Some host.port))

pub returns-in_ok-read_port-in-Some-clause-found : goal.returns-in_ok-read_port-in-Some-clause-found
returns-in_ok-read_port-in-Some-clause-found c addr spells =
    let parts = is_socket addr c.args.text.now c.in-Some.address.now c.in-Some.port.now c.in-Some.ensures.parts c.in-Some.ensures.first spells in
    target_is addr _ _ (c.in_ok-read_address-in-Some.ensures.found addr.ip parts.0) (c.in_ok-read_port-in-Some.ensures.found addr.port parts.1)
