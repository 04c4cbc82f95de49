use Rattle.std.proofs.Common.{◌≡◌, Err, refl, ap, ◌∙◌}
use Rattle.std.proofs.lemmas.Result.{err_from_is_err_and}
use Rattle.edge_seen.specs.Seen.{Seen, silent}
use Rattle.monitor_run.specs.Asking.{asking}
use Rattle.monitor_run.specs.Monitoring.{monitoring}
use Rattle.monitor_run.proofs.Reports.{broke_off, cut_short, reported}
use Rattle.monitor_run.proofs.run.report.Goals as goal

pub returns-in_err-ask-clause-stops : goal.returns-in_err-ask-clause-stops
returns-in_err-ask-clause-stops g c =
    let why = c.in_err-ask.field-0.0 in
    let err = err_from_is_err_and c.from_residual.result c.from_residual.ensures.1 in
    let same : c.from_residual.result ≡ Err why = err.1 ∙ ap Err err.2 in
    let before : Seen → Seen = λ others. monitoring others (g.L.Link.told c.args.link.now) (g.L.Link.faults c.args.link.now) (g.C.Clock.told c.args.clock.now) (g.C.Clock.faults c.args.clock.now) (g.E.Entropy.words c.args.entropy.now) (g.E.Entropy.faults c.args.entropy.now) (g.O.Sink.written c.args.out.now) (g.O.Sink.faults c.args.out.now) in
    let stops = λ (others : Seen). cut_short c.args.entry.now (before others) _ why (c.in_err-ask.ensures.cut_short (before others)) refl refl in
    rw same stops

pub returns-clause-reports : goal.returns-clause-reports
returns-clause-reports g c =
    let before : Seen → Seen = λ others. monitoring others (g.L.Link.told c.args.link.now) (g.L.Link.faults c.args.link.now) (g.C.Clock.told c.args.clock.now) (g.C.Clock.faults c.args.clock.now) (g.E.Entropy.words c.args.entropy.now) (g.E.Entropy.faults c.args.entropy.now) (g.O.Sink.written c.args.out.now) (g.O.Sink.faults c.args.out.now) in
    λ others. reported c.args.entry.now c.in_ok-ask.ask c.finding-finding.result c.line_of.result (before others)
    (asking (before others) (g.L.Link.told c.ask_computer.new.link) (g.L.Link.faults c.ask_computer.new.link) (g.C.Clock.told c.ask_computer.new.clock) (g.C.Clock.faults c.ask_computer.new.clock) (g.E.Entropy.words c.ask_computer.new.entropy) (g.E.Entropy.faults c.ask_computer.new.entropy))
    (g.O.Sink.written c.write_line.new.out) (g.O.Sink.faults c.write_line.new.out)
    (c.in_ok-ask.ensures.asked (before others)) c.finding-finding.ensures c.line_of.ensures.text c.in_ok-write_line.ensures.wrote c.in_ok-write_line.ensures.no_fault

pub finding-finding-requires-clause-sent : goal.finding-finding-requires-clause-sent
finding-finding-requires-clause-sent g c = (c.in_ok-ask.ensures.asked silent).reading

pub finding-finding-requires-clause-heard : goal.finding-finding-requires-clause-heard
finding-finding-requires-clause-heard g c = (c.in_ok-ask.ensures.asked silent).fits

pub returns-in_err-write_line-clause-stops : goal.returns-in_err-write_line-clause-stops
returns-in_err-write_line-clause-stops g c =
    let why = c.in_err-write_line.field-0.0 in
    let err = err_from_is_err_and c.from_residual-in_err-write_line.result c.from_residual-in_err-write_line.ensures.1 in
    let same : c.from_residual-in_err-write_line.result ≡ Err why = err.1 ∙ ap Err err.2 in
    let before : Seen → Seen = λ others. monitoring others (g.L.Link.told c.args.link.now) (g.L.Link.faults c.args.link.now) (g.C.Clock.told c.args.clock.now) (g.C.Clock.faults c.args.clock.now) (g.E.Entropy.words c.args.entropy.now) (g.E.Entropy.faults c.args.entropy.now) (g.O.Sink.written c.args.out.now) (g.O.Sink.faults c.args.out.now) in
    let stops = λ (others : Seen). broke_off c.args.entry.now c.in_ok-ask.ask c.finding-finding.result c.line_of.result (before others)
    (asking (before others) (g.L.Link.told c.ask_computer.new.link) (g.L.Link.faults c.ask_computer.new.link) (g.C.Clock.told c.ask_computer.new.clock) (g.C.Clock.faults c.ask_computer.new.clock) (g.E.Entropy.words c.ask_computer.new.entropy) (g.E.Entropy.faults c.ask_computer.new.entropy))
    (g.O.Sink.written c.write_line.new.out) (g.O.Sink.faults c.write_line.new.out) why
    (c.in_ok-ask.ensures.asked (before others)) c.finding-finding.ensures c.line_of.ensures.text c.in_err-write_line.ensures.broke_off in
    rw same stops
