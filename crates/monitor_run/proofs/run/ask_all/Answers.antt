use Rattle.std.proofs.Common.{◌≡◌, ℕ, arith, subst, take, length}
use Rattle.edge_seen.specs.Seen.{Seen}
use Rattle.monitor_run.specs.Monitoring.{monitoring}
use Rattle.monitor_run.specs.Progress.{HasAsked}
use Rattle.monitor_run.proofs.Runs.{asked_next, asked_none, broke_off_total, closed, stopped}
use Rattle.monitor_run.proofs.run.ask_all.Goals as goal

pub loop-place-init : goal.loop-place-init
loop-place-init g c = (λ others. asked_none _, omega arith)

pub returns-in-Err : goal.returns-in-Err
returns-in-Err g c =
    λ others. stopped c.args.directory.now c.loop-place.place c.at.result.now _ _ _ c.loop-place.answered c.in-Err.why c.at.ensures (c.loop-place.invariant.0 others) (c.in-Err.ensures.stops others)

pub loop-place-preserved : goal.loop-place-preserved
loop-place-preserved g c =
    let next = λ (others : Seen). asked_next c.args.directory.now c.loop-place.place c.at.result.now _ _ _ c.loop-place.answered c.in-Ok.finding c.at.ensures (c.loop-place.invariant.0 others) (c.in-Ok.ensures.reports others) in (
      rw c.answers-answered.ensures.one next,
      omega (arith, c.loop-place.invariant.1, c.answers-answered.ensures.few),
    )

pub returns-in-Ok-write_line : goal.returns-in-Ok-write_line
returns-in-Ok-write_line g c =
    let all : c.loop-place.place ≡ length c.args.directory.now = omega (arith, c.loop-place.auto.place-end, c.loop-place-test.false, c.len-place-end.ensures.len) in
    λ others.
    let before = monitoring others (g.L.Link.told c.args.link.now) (g.L.Link.faults c.args.link.now) (g.C.Clock.told c.args.clock.now) (g.C.Clock.faults c.args.clock.now) (g.E.Entropy.words c.args.entropy.now) (g.E.Entropy.faults c.args.entropy.now) (g.O.Sink.written c.args.out.now) (g.O.Sink.faults c.args.out.now) in
    let mid = monitoring others (g.L.Link.told c.loop-place.link) (g.L.Link.faults c.loop-place.link) (g.C.Clock.told c.loop-place.clock) (g.C.Clock.faults c.loop-place.clock) (g.E.Entropy.words c.loop-place.entropy) (g.E.Entropy.faults c.loop-place.entropy) (g.O.Sink.written c.loop-place.out) (g.O.Sink.faults c.loop-place.out) in
    let Has : ℕ → Type 0 = λ (n : ℕ). HasAsked (take n c.args.directory.now) before mid c.loop-place.answered in
    closed c.args.directory.now before mid (g.O.Sink.written c.write_line.new.out) (g.O.Sink.faults c.write_line.new.out) c.loop-place.answered c.computers_line.result
    (subst Has all (c.loop-place.invariant.0 others)) (rw c.len.ensures.len at c.computers_line.ensures.text) c.in-Ok-write_line.ensures.wrote c.in-Ok-write_line.ensures.no_fault

pub returns-in-Err-write_line : goal.returns-in-Err-write_line
returns-in-Err-write_line g c =
    let all : c.loop-place.place ≡ length c.args.directory.now = omega (arith, c.loop-place.auto.place-end, c.loop-place-test.false, c.len-place-end.ensures.len) in
    λ others.
    let before = monitoring others (g.L.Link.told c.args.link.now) (g.L.Link.faults c.args.link.now) (g.C.Clock.told c.args.clock.now) (g.C.Clock.faults c.args.clock.now) (g.E.Entropy.words c.args.entropy.now) (g.E.Entropy.faults c.args.entropy.now) (g.O.Sink.written c.args.out.now) (g.O.Sink.faults c.args.out.now) in
    let mid = monitoring others (g.L.Link.told c.loop-place.link) (g.L.Link.faults c.loop-place.link) (g.C.Clock.told c.loop-place.clock) (g.C.Clock.faults c.loop-place.clock) (g.E.Entropy.words c.loop-place.entropy) (g.E.Entropy.faults c.loop-place.entropy) (g.O.Sink.written c.loop-place.out) (g.O.Sink.faults c.loop-place.out) in
    let Has : ℕ → Type 0 = λ (n : ℕ). HasAsked (take n c.args.directory.now) before mid c.loop-place.answered in
    broke_off_total c.args.directory.now before mid (g.O.Sink.written c.write_line.new.out) (g.O.Sink.faults c.write_line.new.out) c.loop-place.answered c.computers_line.result c.in-Err-write_line.why
    (subst Has all (c.loop-place.invariant.0 others)) (rw c.len.ensures.len at c.computers_line.ensures.text) c.in-Err-write_line.ensures.broke_off
