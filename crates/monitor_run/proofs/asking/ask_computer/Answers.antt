use Rattle.std.proofs.Common.{◌≡◌, Err, rules, w64, refl, ap, ◌∙◌}
use Rattle.std.proofs.lemmas.Int.{to_z-of_z}
use Rattle.std.proofs.lemmas.Result.{err_from_is_err_and}
use Rattle.edge_seen.specs.Seen.{Seen}
use Rattle.monitor_run.specs.Asking.{asking}
use Rattle.monitor_run.proofs.Asks.{asked, undrawn, unheard, unread}
use Rattle.monitor_run.proofs.Requests.{plain_whole}
use Rattle.monitor_run.proofs.asking.ask_computer.Goals as goal

pub returns-in_default-clause-cut_short : goal.returns-in_default-clause-cut_short
returns-in_default-clause-cut_short g c = λ others. unread c.args.to _ _ _ c.in_default.ensures.gives c.in_default.ensures.cause

pub returns-in_err-stamp-clause-cut_short : goal.returns-in_err-stamp-clause-cut_short
returns-in_err-stamp-clause-cut_short g c =
    let why = c.in_err-stamp.field-0.0 in
    let err = err_from_is_err_and c.from_residual.result c.from_residual.ensures.1 in
    let same : c.from_residual.result ≡ Err why = err.1 ∙ ap Err err.2 in
    let stops = λ (others : Seen). undrawn c.args.to why c.in-At.at
    (asking others (g.L.Link.told c.args.link.now) (g.L.Link.faults c.args.link.now) (g.C.Clock.told c.args.clock.now) (g.C.Clock.faults c.args.clock.now) (g.E.Entropy.words c.args.entropy.now) (g.E.Entropy.faults c.args.entropy.now))
    (asking others (g.L.Link.told c.args.link.now) (g.L.Link.faults c.args.link.now) (g.C.Clock.told c.now.new.self) (g.C.Clock.faults c.now.new.self) (g.E.Entropy.words c.draw_stamp.new.entropy) (g.E.Entropy.faults c.draw_stamp.new.entropy))
    c.in-At.ensures.gives.1 c.in-At.ensures.cause refl refl c.in_err-stamp.ensures.fewer in
    rw same stops

pub returns-in_err-heard-clause-cut_short : goal.returns-in_err-heard-clause-cut_short
returns-in_err-heard-clause-cut_short g c =
    let why = c.in_err-heard.field-0.0 in
    let err = err_from_is_err_and c.from_residual-in_err-heard.result c.from_residual-in_err-heard.ensures.1 in
    let same : c.from_residual-in_err-heard.result ≡ Err why = err.1 ∙ ap Err err.2 in
    let stamp = c.in_ok-stamp.stamp in
    let sends = rw (c.plain_request.ensures, plain_whole stamp) at c.send-put.ensures.sends in
    let stops = λ (others : Seen). unheard c.args.to why c.in-At.at stamp c.send-put.result
    (asking others (g.L.Link.told c.args.link.now) (g.L.Link.faults c.args.link.now) (g.C.Clock.told c.args.clock.now) (g.C.Clock.faults c.args.clock.now) (g.E.Entropy.words c.args.entropy.now) (g.E.Entropy.faults c.args.entropy.now))
    (asking others (g.L.Link.told c.hear.new.link) (g.L.Link.faults c.hear.new.link) (g.C.Clock.told c.hear.new.clock) (g.C.Clock.faults c.hear.new.clock) (g.E.Entropy.words c.draw_stamp.new.entropy) (g.E.Entropy.faults c.draw_stamp.new.entropy))
    (g.L.Link.told c.send-put.new.self) (g.L.Link.faults c.send-put.new.self) (g.C.Clock.told c.now.new.self)
    c.in-At.ensures.gives.1 c.in_ok-stamp.ensures.drew c.in_ok-stamp.ensures.no_fault sends c.send-put.ensures.cause
    (rw c.in-At.ensures.cause at c.in_err-heard.ensures.unread) in
    rw same stops

pub returns-clause-asked : goal.returns-clause-asked
returns-clause-asked g c =
    let stamp = c.in_ok-stamp.stamp in
    let sends = rw (c.plain_request.ensures, plain_whole stamp) at c.send-put.ensures.sends in
    let reading = to_z-of_z w64 c.in-At.at (search rules) in
    let asks = λ (others : Seen). asked c.args.to c.in-At.at stamp c.send-put.result c.in_ok-heard.heard
    (asking others (g.L.Link.told c.args.link.now) (g.L.Link.faults c.args.link.now) (g.C.Clock.told c.args.clock.now) (g.C.Clock.faults c.args.clock.now) (g.E.Entropy.words c.args.entropy.now) (g.E.Entropy.faults c.args.entropy.now))
    (asking others (g.L.Link.told c.hear.new.link) (g.L.Link.faults c.hear.new.link) (g.C.Clock.told c.hear.new.clock) (g.C.Clock.faults c.hear.new.clock) (g.E.Entropy.words c.draw_stamp.new.entropy) (g.E.Entropy.faults c.draw_stamp.new.entropy))
    (g.L.Link.told c.send-put.new.self) (g.L.Link.faults c.send-put.new.self) (g.C.Clock.told c.now.new.self)
    c.in-At.ensures.gives.0 c.in-At.ensures.gives.1 c.in_ok-stamp.ensures.drew c.in_ok-stamp.ensures.no_fault sends c.send-put.ensures.cause
    (rw c.in-At.ensures.cause at c.in_ok-heard.ensures.heard) in
    rw reading asks
