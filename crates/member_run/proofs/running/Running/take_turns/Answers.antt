use Rattle.std.proofs.Common.{Err, ap, arith}
use Rattle.std.proofs.lemmas.Result.{err_from_is_err_and}
use Rattle.member_run.proofs.Leaving.{stops_then, unused_then}
use Rattle.member_run.proofs.Turning.{goes_none, goes_on, goes_stop, goes_whole, going_covers, loads_then, marks_then}
use Rattle.member_run.proofs.running.Running.take_turns.Goals as goal

pub loop-init : goal.loop-init
loop-init g c = goes_none c.args.turns c.args.self.now (g.D.Disk.told c.args.disk.now) _ (g.D.Disk.is_disk c.args.disk.now) c.requires.going

pub loop-preserved : goal.loop-preserved
loop-preserved g c =
    goes_on c.args.turns c.loop.counter c.args.self.now c.loop.self c.turn.new.self _ _ _ _ _ _ c.loop-test.true c.loop.invariant
    c.in_ok-turn.ensures.part c.in_ok-turn.ensures.going c.in_ok-turn.ensures.calls c.in_ok-turn.ensures.most c.in_ok-turn.ensures.least c.in_ok-turn.ensures.still_loads
    (g.D.Disk.is_disk c.loop.disk) c.in_ok-turn.ensures.unused

pub returns-in_err-turn-clause-turns : goal.returns-in_err-turn-clause-turns
returns-in_err-turn-clause-turns g c =
    let p = err_from_is_err_and c.from_residual.result c.from_residual.ensures.1 in
    rw (p.1, p.2)
    (goes_stop c.args.turns c.loop.counter c.args.self.now c.loop.self c.turn.new.self _ _ _ _ _ _ c.in_err-turn.field-0.0 c.loop-test.true c.loop.invariant
    (λ is. c.in_err-turn.ensures.never.0 (ap Err is)) (λ is. c.in_err-turn.ensures.never.1 (ap Err is)) c.in_err-turn.ensures.part c.in_err-turn.ensures.calls
    (λ is. c.in_err-turn.ensures.disk (ap Err is)) (λ is. c.in_err-turn.ensures.spent.0 (ap Err is), λ spent. let same = c.in_err-turn.ensures.spent.1 spent in cc same) c.in_err-turn.ensures.most
    (λ is. ap g.D.Disk.told (c.in_err-turn.ensures.spent_still (ap Err is))))

pub returns-clause-turns : goal.returns-clause-turns
returns-clause-turns g c =
    goes_whole c.args.turns c.loop.counter c.args.self.now c.loop.self _ _ _ _ (omega arith) c.loop.invariant

pub returns-clause-covers : goal.returns-clause-covers
returns-clause-covers g c = going_covers (g.D.Disk.told c.loop.disk) c.loop.self c.loop.invariant.going

pub returns-in_err-turn-clause-least : goal.returns-in_err-turn-clause-least
returns-in_err-turn-clause-least g c = marks_then c.loop.invariant.least c.in_err-turn.ensures.least

pub returns-in_err-turn-clause-still_loads : goal.returns-in_err-turn-clause-still_loads
returns-in_err-turn-clause-still_loads g c = loads_then c.loop.invariant.loads c.in_err-turn.ensures.still_loads

pub returns-in_err-turn-clause-unused : goal.returns-in_err-turn-clause-unused
returns-in_err-turn-clause-unused g c = unused_then (g.D.Disk.is_disk c.loop.disk) c.loop.invariant.unused c.in_err-turn.ensures.unused

pub returns-in_err-turn-clause-stopped : goal.returns-in_err-turn-clause-stopped
returns-in_err-turn-clause-stopped g c =
    let p = err_from_is_err_and c.from_residual.result c.from_residual.ensures.1 in
    rw (p.1, p.2) (λ is. stops_then _ c.loop.invariant.least (c.in_err-turn.ensures.stopped is))
