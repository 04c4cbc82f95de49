use Rattle.std.proofs.Common.{◌++◌, ◌≤◌, length, take, arith, rules}
use Rattle.std.proofs.lemmas.List.{length-append, length-take}
use Rattle.base_specs.proofs.Telling.{took_more}
use Rattle.settings_source.proofs.read.read_text.Goals as goal

-- the piece that there was no memory for is taken all the same
pub returns-then-is_err-clause-fault : goal.returns-then-is_err-clause-fault
returns-then-is_err-clause-fault g c =
    let read = c.in-Bytes.ensures.bytes in
    let text = c.loop-piece.text.items in
    let piece = take c.in-Bytes.count c.read.new.buf in
    let most : length (text ++ piece) ≤ 16777217 =
    omega (arith, c.read.auto.buf, length-append text piece, length-take c.in-Bytes.count c.read.new.buf, length-take c.min-room.result c.loop-piece.piece) in
    record {
      text = text ++ piece;
      took = took_more _ _ _ _ _ c.loop-piece.invariant.took read.2;
      most = most;
      no_fault = search rules;
    }
