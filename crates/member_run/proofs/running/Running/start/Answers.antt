use Rattle.std.proofs.Common.{◌≡◌, [], ◌∙◌, ap, arith, rules, w64}
use Rattle.std.proofs.lemmas.Int.{to_z-of_z}
use Rattle.std.proofs.lemmas.Result.{err_from_is_err_and}
use Rattle.stamp_keep.specs.Keep.{kept_mark}
use Rattle.run_deeds.specs.declared.life_end.Why.TheVariants.{SinkFault}
use Rattle.member_run.proofs.Starts.{fresh_greatest, going_begun, life_cut, life_taken, no_keeper, no_life}
use Rattle.member_run.proofs.running.Running.start.Goals as goal

pub returns-in_err-keeper-clause-begins : goal.returns-in_err-keeper-clause-begins
returns-in_err-keeper-clause-begins g c =
    let p = err_from_is_err_and c.from_residual.result c.from_residual.ensures.1 in
    let e = c.in_err-keeper.ensures in
    rw (p.1, p.2)
    (λ others next.
    no_keeper others c.args.conf next _ others.link _ others.words _ _ others.link_faults _ others.entropy_faults _ _ _ _ _ e.cause (λ is. e.never_spent (cc is)))

pub returns-in_err-now-clause-begins : goal.returns-in_err-now-clause-begins
returns-in_err-now-clause-begins g c =
    let p = err_from_is_err_and c.from_residual-in_err-now.result c.from_residual-in_err-now.ensures.1 in
    let gives = c.in_err-now.ensures.gives in
    let kept = c.in_ok-keeper.ensures in
    rw (p.1, p.2)
    (λ others next.
    no_life others c.args.conf next _ (kept_mark c.in_ok-keeper.keeper) others.link _ _ others.words _ _ others.link_faults _ _ others.entropy_faults _ _ _ _ _ kept.mark gives.0 gives.1 gives.2 kept.cause)

pub take_life-requires-clause-admitted : goal.take_life-requires-clause-admitted
take_life-requires-clause-admitted g c = omega (arith, fresh_greatest c.new.result c.new.ensures.stands)

pub returns-in_err-take_life-clause-begins : goal.returns-in_err-take_life-clause-begins
returns-in_err-take_life-clause-begins g c =
    let p = err_from_is_err_and c.from_residual-in_err-take_life.result c.from_residual-in_err-take_life.ensures.1 in
    let time = to_z-of_z w64 c.in_ok-now.now (search rules) in
    let gives = c.in_ok-now.ensures.gives in
    let kept = c.in_ok-keeper.ensures in
    let sink : c.in_err-take_life.field-0.0 ≡ SinkFault = cc c.in_err-take_life.ensures.why in
    let uncounted = c.take_life.ensures.totals [] c.new.ensures.stands ∙ c.nothing.ensures in
    rw (p.1, p.2)
    (λ others next.
    let takes = rw (time, c.mark-mark.ensures, c.nothing.ensures) at c.in_err-take_life.ensures.takes
    (record others { clock = g.C.Clock.told c.read.new.clock; clock_faults = g.C.Clock.faults c.read.new.clock; disk_faults = g.D.Disk.faults c.load.new.disk }) [] c.new.ensures.stands in
    life_cut others _ c.args.conf next _ c.in_ok-now.now (kept_mark c.in_ok-keeper.keeper) others.link _ _ others.words _ _ others.link_faults _ _ others.entropy_faults _ _ _ _ _ c.take_life.new.self.member _ _
    c.new.ensures.conf kept.mark gives.0 gives.1 kept.cause sink uncounted takes)

pub returns-clause-begins : goal.returns-clause-begins
returns-clause-begins g c =
    let time = to_z-of_z w64 c.in_ok-now.now (search rules) in
    let gives = c.in_ok-now.ensures.gives in
    let kept = c.in_ok-keeper.ensures in
    λ others next.
    let takes = rw (time, c.mark-mark.ensures, c.nothing.ensures) at c.in_ok-take_life.ensures.takes
    (record others { clock = g.C.Clock.told c.read.new.clock; clock_faults = g.C.Clock.faults c.read.new.clock; disk_faults = g.D.Disk.faults c.load.new.disk }) [] c.new.ensures.stands in
    life_taken others _ c.args.conf next _ c.in_ok-now.now (kept_mark c.in_ok-keeper.keeper) others.link _ _ others.words _ _ others.link_faults _ _ others.entropy_faults _ _ _ _ _ c.take_life.new.self
    c.new.ensures.conf kept.mark (ap kept_mark c.take_life.ensures.keeper) gives.0 gives.1 kept.cause takes

pub returns-clause-going : goal.returns-clause-going
returns-clause-going g c =
    let time = to_z-of_z w64 c.in_ok-now.now (search rules) in
    let e = c.in_ok-take_life.ensures in
    let stands = rw (time, c.mark-mark.ensures) at e.stands [] c.new.ensures.stands in
    let last = rw c.mark-mark.ensures at e.last [] c.new.ensures.stands in
    going_begun _ c.new.result c.take_life.new.self c.in_ok-now.now (kept_mark c.in_ok-keeper.keeper) (search rules) c.new.ensures.stands e.conf stands last
    (rw e.keeper c.in_ok-keeper.ensures.fits) (ap kept_mark e.keeper)
