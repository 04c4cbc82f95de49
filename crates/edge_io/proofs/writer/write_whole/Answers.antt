use Rattle.std.proofs.Common.{List, ℕ, subst, sym, rules}
use Rattle.std.specs.Io.KnownBytes.{Appends}
use Rattle.std.proofs.KnownBytes.{Appends-trans}
use Rattle.edge_io.proofs.Fronts.{front_more}
use Rattle.edge_io.proofs.writer.write_whole.Goals as goal

-- what was written, and the bytes behind it that the writer took
pub loop-done-preserved : goal.loop-done-preserved
loop-done-preserved g c =
    let more = Appends-trans _ _ _ _ _ c.loop-done.invariant.written c.in-Ok.ensures.content in
    let front = front_more c.args.piece.now c.loop-done.done c.in-Ok.count in
    record {
      within = search rules;
      written = subst (λ (l : List ℕ). Appends (g.W.Write.contents c.args.writer.now) (g.W.Write.contents c.write_again.new.writer) l) (sym front) more;
    }
