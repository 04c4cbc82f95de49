use Rattle.std.proofs.Common.{List, ℕ, Option, ◌<◌, length, subst, sym, take, arith, rules}
use Rattle.std.proofs.lemmas.List.{length-take}
use Rattle.base_specs.specs.Told.{Took}
use Rattle.base_specs.proofs.Telling.{took_more}
use Rattle.edge_traits.proofs.Fronts.{fills_more}
use Rattle.edge_traits.proofs.fill.fill_front.Goals as goal

pub loop-filled-preserved : goal.loop-filled-preserved
loop-filled-preserved g c =
    let read = c.in-Bytes.ensures.bytes in
    let more = took_more _ _ _ _ _ c.loop-filled.invariant.took read.2 in
    let front = fills_more c.loop-filled.buf c.read.new.buf _ c.loop-filled.filled c.in-Bytes.count c.loop-filled.invariant.within read.1 in
    record {
      within = search rules;
      took = subst (λ (l : List ℕ). Took (g.S.Source.left c.args.source.now) (g.S.Source.left c.read.new.self) l) (sym front) more;
      same = search rules;
    }

pub returns-in-Failed-clause-bytes : goal.returns-in-Failed-clause-bytes
returns-in-Failed-clause-bytes g c =
    let front = take c.loop-filled.filled c.loop-filled.buf in
    let left = c.in-Failed.ensures.bytes in
    let within : length front < length c.loop-filled.buf = omega (arith, length-take c.loop-filled.filled c.loop-filled.buf) in
    let took = subst (λ (l : Option (List ℕ)). Took (g.S.Source.left c.args.source.now) l front) (sym left) c.loop-filled.invariant.took in
    (front, search rules, took)
