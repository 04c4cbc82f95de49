use Rattle.std.proofs.Common.{List, ℕ, subst}
use Rattle.base_specs.specs.Told.{Added}
use Rattle.line_text.specs.Text.{BreaksOff, joined}
use Rattle.w32tm_cmd.proofs.show.show_message.Goals as goal

pub returns-in-Done-clause-show : goal.returns-in-Done-clause-show
returns-in-Done-clause-show g c = record {
  message = c.in-Ok.message;
  spelled = c.in-Ok.ensures.read;
  written = subst (λ (lines : List (List ℕ)). Added (g.O.Sink.written c.args.outside.now.out) (g.O.Sink.written c.write_lines.new.out) (joined lines)) c.show_lines.ensures.lines c.in-Done.ensures.bytes;
  no_fault = c.in-Done.ensures.cause;
}

pub returns-in-Failed-clause-show : goal.returns-in-Failed-clause-show
returns-in-Failed-clause-show g c =
    let bytes = c.in-Failed.ensures.bytes in
    record {
      message = c.in-Ok.message;
      spelled = c.in-Ok.ensures.read;
      text = bytes.0;
      breaks_off = subst (λ (lines : List (List ℕ)). BreaksOff lines bytes.0) c.show_lines.ensures.lines bytes.1;
      written = bytes.2;
      cause = c.in-Failed.ensures.cause;
    }
