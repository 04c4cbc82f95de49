use Rattle.std.proofs.Common.{◌-◌, sym, arith}
use Rattle.std.proofs.lemmas.List.{length-take-le}
use Rattle.rpc_pdu.proofs.Flaws.{header_bounds}
use Rattle.rpc_pdu.proofs.reader.read_rest.Goals as goal

pub overflow_sub-len : goal.overflow_sub-len
overflow_sub-len g c = (header_bounds c.args.header c.requires.sound).0

pub slice_bounds-read_body-end : goal.slice_bounds-read_body-end
slice_bounds-read_body-end g c =
    let bounds = header_bounds c.args.header c.requires.sound in
    omega (arith, bounds.1, c.requires.room)

pub slice_bounds-read_body-end-2 : goal.slice_bounds-read_body-end-2
slice_bounds-read_body-end-2 g c =
    let bounds = header_bounds c.args.header c.requires.sound in
    sym (length-take-le (c.args.header.fragment_len - 16) c.args.room.now (omega (arith, bounds.1, c.requires.room)))

pub read_body-requires-clause-room : goal.read_body-requires-clause-room
read_body-requires-clause-room g c =
    let bounds = header_bounds c.args.header c.requires.sound in
    let size = length-take-le (c.args.header.fragment_len - 16) c.args.room.now (omega (arith, bounds.1, c.requires.room)) in
    omega (arith, bounds.0, size)
