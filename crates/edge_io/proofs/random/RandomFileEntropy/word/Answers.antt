use Rattle.std.proofs.Common.{rules, Some, sym, subst}
use Rattle.std.specs.Io.KnownBytes.{Consumes}
use Rattle.edge_traits.specs.declared.entropy.Drawn.TheVariants as drawn
use Rattle.edge_io.specs.Held.{TakesFour, TakesWord}
use Rattle.edge_io.proofs.random.RandomFileEntropy.word.Goals as goal

pub returns-clause-content : goal.returns-clause-content
returns-clause-content g c =
    let took : Consumes (g.F.Read.remaining c.in-Some.reader) (g.F.Read.remaining c.read_exact.new.self) c.read_exact.new.buf = search rules in
    let four : TakesFour c.from_le_bytes.result (g.F.Read.remaining c.in-Some.reader) (g.F.Read.remaining c.read_exact.new.self) =
    record { bytes = c.read_exact.new.buf; four = c.read_exact.auto.buf; taken = took; is = c.from_le_bytes.ensures } in
    subst (λ old. TakesWord (drawn.Word c.from_le_bytes.result) g.F.Read.remaining old (Some c.read_exact.new.self)) (sym c.in-Some.is) four
