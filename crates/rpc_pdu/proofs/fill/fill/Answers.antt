use Rattle.std.proofs.Common.{◌<◌, List, ℕ, length, take, subst, sym, arith, rules}
use Rattle.std.proofs.lemmas.List.{length-take}
use Rattle.edge_traits.specs.Wire.{WireTook}
use Rattle.edge_traits.proofs.Wires.{wire_took_more}
use Rattle.rpc_pdu.proofs.Fronts.{fills_more}
use Rattle.rpc_pdu.proofs.Wires.{took_then_failed}
use Rattle.rpc_pdu.proofs.fill.fill.Goals as goal

pub loop-filled-preserved : goal.loop-filled-preserved
loop-filled-preserved g c =
    let read = c.in-Bytes.ensures.bytes in
    let more = wire_took_more _ _ _ _ _ c.loop-filled.invariant.took read.3 in
    let front = fills_more c.loop-filled.buf c.read.new.buf _ c.loop-filled.filled c.in-Bytes.count c.loop-filled.invariant.within read.2 in
    record {
      within = search rules;
      took = subst (λ (l : List ℕ). WireTook l (g.W.Wire.told c.args.wire.now) (g.W.Wire.told c.read.new.self)) (sym front) more;
      closed = λ closed. absurd cc;
      same = search rules;
      opened = search rules;
      writes = search rules;
    }

pub returns-in-Failed-clause-bytes : goal.returns-in-Failed-clause-bytes
returns-in-Failed-clause-bytes g c =
    let front = take c.loop-filled.filled c.loop-filled.buf in
    let failed = c.in-Failed.ensures.bytes in
    let within : length front < length c.loop-filled.buf = omega (arith, length-take c.loop-filled.filled c.loop-filled.buf) in
    (front, search rules, took_then_failed _ _ _ front c.loop-filled.invariant.took failed.1, search rules)
