use Rattle.std.proofs.Common.{◌≡◌, ◌∙◌, ℕ, List, rules, subst}
use Rattle.base_specs.specs.Told.{Added}
use Rattle.w32tm_cmd.proofs.Asking.{printed}
use Rattle.w32tm_cmd.proofs.ask.ask_computer.Goals as goal

-- the line was printed
pub returns-in-Done-clause-ask : goal.returns-in-Done-clause-ask
returns-in-Done-clause-ask g c = printed c.args.call _ _ c.in-Ok.given c.status_of.result c.status_of.ensures (record {
  asked = c.in-Ok.ensures.asks;
  printed = subst (λ (l : List ℕ). Added (g.O.Sink.written c.args.outside.now.out) (g.O.Sink.written c.write.new.self) l) (c.as_slice.ensures.bytes ∙ c.answer_line.ensures.line) c.in-Done.ensures.bytes;
  no_fault = record { wire = search rules; wire_write = search rules; write = c.in-Done.ensures.cause };
})
