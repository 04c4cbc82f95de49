use Rattle.std.proofs.Common.{◌∙◌, [], ◌∷◌, rules}
use Rattle.std.specs.Int.{w64}
use Rattle.std.proofs.lemmas.Int.{to_z-of_z}
use Rattle.std.proofs.lemmas.Result.{err_from_is_err_and}
use Rattle.capture_fmt.specs.Record as layout
use Rattle.capture_fmt.proofs.Fields.{first_here}
use Rattle.capture_fmt.proofs.Records.{cut_number, past_reading, past_word, past_port, read_arrive}
use Rattle.capture_fmt.proofs.decode.arrive_at.Goals as goal

pub returns-in_err-ip-clause-flaw : goal.returns-in_err-ip-clause-flaw
returns-in_err-ip-clause-flaw c =
    let p = err_from_is_err_and c.from_residual-in_err-ip.result c.from_residual-in_err-ip.ensures.1 in
    let reading = c.in_ok-now.ensures.found in
    rw (p.1, p.2)
    (past_reading (layout.word ∷ layout.port ∷ layout.datagram ∷ []) c.in_ok-now.now c.args.bytes.now c.in_ok-now.rest.now reading.0 reading.1
    ∙ first_here layout.word (layout.port ∷ layout.datagram ∷ []) c.in_ok-now.rest.now _ (cut_number layout.word c.in_ok-now.rest.now _ c.in_err-ip.ensures.flaw))

pub returns-in_err-port-clause-flaw : goal.returns-in_err-port-clause-flaw
returns-in_err-port-clause-flaw c =
    let p = err_from_is_err_and c.from_residual-in_err-port.result c.from_residual-in_err-port.ensures.1 in
    let reading = c.in_ok-now.ensures.found in
    let ip = c.in_ok-ip.ensures.found in
    rw (p.1, p.2)
    (past_reading (layout.word ∷ layout.port ∷ layout.datagram ∷ []) c.in_ok-now.now c.args.bytes.now c.in_ok-now.rest.now reading.0 reading.1
    ∙ past_word (layout.port ∷ layout.datagram ∷ []) c.in_ok-ip.ip c.in_ok-now.rest.now c.in_ok-ip.rest.now ip.0 ip.1
    ∙ first_here layout.port (layout.datagram ∷ []) c.in_ok-ip.rest.now _ (cut_number layout.port c.in_ok-ip.rest.now _ c.in_err-port.ensures.flaw))

pub returns-in_err-bytes-clause-flaw : goal.returns-in_err-bytes-clause-flaw
returns-in_err-bytes-clause-flaw c =
    let p = err_from_is_err_and c.from_residual-in_err-bytes.result c.from_residual-in_err-bytes.ensures.1 in
    let reading = c.in_ok-now.ensures.found in
    let ip = c.in_ok-ip.ensures.found in
    let port = c.in_ok-port.ensures.found in
    rw (p.1, p.2)
    (past_reading (layout.word ∷ layout.port ∷ layout.datagram ∷ []) c.in_ok-now.now c.args.bytes.now c.in_ok-now.rest.now reading.0 reading.1
    ∙ past_word (layout.port ∷ layout.datagram ∷ []) c.in_ok-ip.ip c.in_ok-now.rest.now c.in_ok-ip.rest.now ip.0 ip.1
    ∙ past_port (layout.datagram ∷ []) c.in_ok-port.port c.in_ok-ip.rest.now c.in_ok-port.rest.now port.0 port.1
    ∙ first_here layout.datagram [] c.in_ok-port.rest.now _ c.in_err-bytes.ensures.flaw)

pub returns-clause-found : goal.returns-clause-found
returns-clause-found c =
    let same = to_z-of_z w64 c.in_ok-now.now (search rules) in
    let reading = c.in_ok-now.ensures.found in
    let ip = c.in_ok-ip.ensures.found in
    let port = c.in_ok-port.ensures.found in
    let datagram = c.in_ok-bytes.ensures.found in
    rw same (
      (reading.0, ip.0, port.0, datagram.0),
      read_arrive c.in_ok-now.now (record { ip = c.in_ok-ip.ip; port = c.in_ok-port.port }) c.in_ok-bytes.bytes
          c.args.bytes.now c.in_ok-now.rest.now c.in_ok-ip.rest.now c.in_ok-port.rest.now c.in_ok-bytes.rest.now reading.1 ip.1 port.1 datagram.1,
    )
