use Rattle.std.specs.Io.KnownBytes.{Keeps}
use Rattle.edge_io.proofs.writer.flush_again.Given as goal

-- a call that was cut short wrote nothing
abbrev pub invariant-loop : goal.invariant-loop
invariant-loop g l = Keeps (g.W.Write.contents l.initial.writer) (g.W.Write.contents l.writer)
