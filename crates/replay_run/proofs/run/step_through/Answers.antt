use Rattle.std.proofs.Common.{◌∙◌, ℕ, ap, refl}
use Rattle.capture_fmt.specs.Reader.{Reader}
use Rattle.edge_seen.specs.Seen.{Seen, silent}
use Rattle.replay_run.specs.declared.end.ReplayEnd.{ReplayEnd}
use Rattle.replay_run.specs.declared.end.ReplayWhy.{ReplayWhy}
use Rattle.replay_run.specs.declared.end.ReplayWhy.TheVariants as why
use Rattle.replay_run.specs.Replay.{history_of}
use Rattle.replay_run.proofs.Steps.{runs_none, runs_more, room_at, gives_of, ends_of, has_read, nearer, grown, not_grown, led_to}
use Rattle.replay_run.proofs.Ends.{stopped, refused, closed, broke_off}
use Rattle.replay_run.proofs.run.step_through.Goals as goal

pub loop-event-init : goal.loop-event-init
loop-event-init g c =
    λ others. runs_none c.args.conf c.new-reader.result c.new-member.result c.nothing-end.result _
    (ap (λ (r : Reader). r.alive) c.new-reader.ensures.fresh) (c.new-reader.ensures.read _) c.new-member.ensures.conf c.new-member.ensures.stands
    (ap (λ (e : ReplayEnd). e.sent) c.nothing-end.ensures) (ap (λ (e : ReplayEnd). e.moved) c.nothing-end.ensures) (ap (λ (e : ReplayEnd). e.refused) c.nothing-end.ensures)

pub next-requires : goal.next-requires
next-requires g c = (c.loop-event.invariant silent).alive

pub returns-in-Ok-None : goal.returns-in-Ok-None
returns-in-Ok-None g c =
    λ others.
    let runs = c.loop-event.invariant others in
    closed c.args.conf c.loop-event.reader c.next.new.self c.loop-event.member c.loop-event.end c.close.result _ _ _ runs
    (has_read _ _ runs.events c.next.new.self (g.S.Source.left c.args.source.now) (g.S.Source.left c.next.new.source) c.in-Ok-None.field-0-is (c.in-Ok-None.ensures.run runs.events (g.S.Source.left c.args.source.now) runs.read)).read
    (ends_of _ c.loop-event.reader c.next.new.self (g.S.Source.left c.loop-event.source) (g.S.Source.left c.next.new.source) c.in-Ok-None.field-0-is c.in-Ok-None.ensures.next)
    c.in-Ok-None.ensures.cause c.close.ensures

pub returns-in-Err : goal.returns-in-Err
returns-in-Err g c =
    λ others.
    let runs = c.loop-event.invariant others in
    stopped c.args.conf c.loop-event.reader c.next.new.self c.loop-event.member c.loop-event.end c.ended.result _ _ _ c.in-Err.fault runs
    (c.in-Err.ensures.run runs.events (g.S.Source.left c.args.source.now) runs.read).read c.in-Err.ensures.next c.in-Err.ensures.cause refl refl
    (c.ended.ensures ∙ ap (λ (w : ReplayWhy). record c.loop-event.end { why = w }) c.why_of.ensures)

pub returns-then-not-admits : goal.returns-then-not-admits
returns-then-not-admits g c =
    λ others.
    let runs = c.loop-event.invariant others in
    let history = history_of runs.events in
    refused c.args.conf c.loop-event.reader c.next.new.self c.loop-event.member c.loop-event.end c.ended-then-not-admits.result _ _ _ c.in-Ok-Some.event runs
    (gives_of _ _ c.loop-event.reader c.next.new.self (g.S.Source.left c.loop-event.source) (g.S.Source.left c.next.new.source) c.in-Ok-Some.field-0-is c.in-Ok-Some.ensures.next)
    (not_grown c.args.conf c.loop-event.member history c.in-Ok-Some.event c.admits.result runs.conf_is (c.admits.ensures.grows history runs.stands) c.if-not-admits.true)
    c.in-Ok-Some.ensures.cause refl refl
    (c.ended-then-not-admits.ensures ∙ ap (λ (n : ℕ). record c.loop-event.end { why = why.BadCapture n }) c.place-place.ensures)

pub count-requires : goal.count-requires
count-requires g c =
    let runs = c.loop-event.invariant silent in
    let history = history_of runs.events in
    record {
      room = room_at c.args.conf c.loop-event.reader c.next.new.self c.loop-event.member c.loop-event.end _ _ _ c.in-Ok-Some.event c.step-outcome.result runs
          (gives_of _ _ c.loop-event.reader c.next.new.self (g.S.Source.left c.loop-event.source) (g.S.Source.left c.next.new.source) c.in-Ok-Some.field-0-is c.in-Ok-Some.ensures.next)
          (grown c.args.conf c.loop-event.member history c.in-Ok-Some.event c.admits.result runs.conf_is (c.admits.ensures.grows history runs.stands) c.if-not-admits.false)
          (led_to c.args.conf c.loop-event.member history c.in-Ok-Some.event c.step-outcome.result runs.conf_is (c.step-outcome.ensures.answer history runs.stands));
    }

pub returns-in-Failed : goal.returns-in-Failed
returns-in-Failed g c =
    λ others.
    let runs = c.loop-event.invariant others in
    let history = history_of runs.events in
    broke_off c.args.conf c.loop-event.reader c.next.new.self c.loop-event.member c.loop-event.end c.ended-in-Failed.result _ _ _ c.in-Ok-Some.event c.step-outcome.result c.line_of.result runs
    (has_read _ _ runs.events c.next.new.self (g.S.Source.left c.args.source.now) (g.S.Source.left c.next.new.source) c.in-Ok-Some.field-0-is (c.in-Ok-Some.ensures.run runs.events (g.S.Source.left c.args.source.now) runs.read)).read
    (grown c.args.conf c.loop-event.member history c.in-Ok-Some.event c.admits.result runs.conf_is (c.admits.ensures.grows history runs.stands) c.if-not-admits.false)
    (led_to c.args.conf c.loop-event.member history c.in-Ok-Some.event c.step-outcome.result runs.conf_is (c.step-outcome.ensures.answer history runs.stands))
    c.line_of.ensures c.in-Failed.ensures.bytes c.in-Failed.ensures.cause (c.in-Failed.ensures.tried refl) c.in-Ok-Some.ensures.cause
    (c.ended-in-Failed.ensures ∙ ap (λ (e : ReplayEnd). record e { why = why.WriteFault }) c.count.ensures)

pub loop-event-smaller : goal.loop-event-smaller
loop-event-smaller g c =
    nearer c.in-Ok-Some.event c.loop-event.reader c.next.new.self (g.S.Source.left c.loop-event.source) (g.S.Source.left c.next.new.source)
    (gives_of _ _ c.loop-event.reader c.next.new.self (g.S.Source.left c.loop-event.source) (g.S.Source.left c.next.new.source) c.in-Ok-Some.field-0-is c.in-Ok-Some.ensures.next)

pub loop-event-preserved : goal.loop-event-preserved
loop-event-preserved g c =
    λ others.
    let runs = c.loop-event.invariant others in
    let history = history_of runs.events in
    let gives = gives_of _ _ c.loop-event.reader c.next.new.self (g.S.Source.left c.loop-event.source) (g.S.Source.left c.next.new.source) c.in-Ok-Some.field-0-is c.in-Ok-Some.ensures.next in
    runs_more c.args.conf c.loop-event.reader c.next.new.self c.loop-event.member c.step-outcome.new.self c.loop-event.end c.count.new.self _ _ _
    c.in-Ok-Some.event c.step-outcome.result c.line_of.result runs
    (has_read _ _ runs.events c.next.new.self (g.S.Source.left c.args.source.now) (g.S.Source.left c.next.new.source) c.in-Ok-Some.field-0-is (c.in-Ok-Some.ensures.run runs.events (g.S.Source.left c.args.source.now) runs.read)).read gives.alive
    c.step-outcome.ensures.conf (c.step-outcome.ensures.stands history runs.stands)
    (led_to c.args.conf c.loop-event.member history c.in-Ok-Some.event c.step-outcome.result runs.conf_is (c.step-outcome.ensures.answer history runs.stands))
    c.line_of.ensures c.in_default.ensures.bytes c.in-Ok-Some.ensures.cause c.in_default.ensures.cause c.count.ensures
