use Rattle.std.proofs.Common.{sym, ◌∙◌, refl, subst, arith}
use Rattle.std.proofs.lemmas.Result.{err_from_is_err_and}
use Rattle.member_run.specs.Running.{IsOfReceipt, totals_of}
use Rattle.member_run.proofs.Borrows.{borrows_then}
use Rattle.member_run.proofs.Rounding.{results_big, results_other, round_fault, round_moved, round_over, round_quiet_at, rounds_got, rounds_lost, rounds_none}
use Rattle.member_run.proofs.running.Running.round.Goals as goal
use Rattle.member_run.proofs.running.Running.round.Goals.{in-Got+in_ok-outcome-in-Got+else-is_moved+then-is_too_big, in-Got+in_ok-outcome-in-Got+else-is_moved+else-is_too_big, in-Failed}

pub loop-init : goal.loop-init
loop-init g c = (rounds_none c.args.self.now _ _ _ _ _ _ _ _ _ _ _ c.requires.begun, refl, refl, (refl, refl, refl, refl, refl, refl))

pub loop-preserved : goal.loop-preserved
loop-preserved g c =
    elim c.match-recv.branch [
      | in-Got+in_ok-outcome-in-Got+else-is_moved+then-is_too_big w ↦
          let e = w.in_ok-outcome-in-Got.ensures in
          let outcome = w.in_ok-outcome-in-Got.outcome in
          let moved = sym w.is_moved.ensures ∙ w.if-is_moved.false in
          let big = sym w.is_too_big.ensures ∙ w.if-is_too_big.true in
          rw (w.self-is, w.devices-is, w.result-is) (
            rounds_got c.loop.counter c.args.self.now c.loop.self c.loop.result _ _ _ _ _ _ _ _ _ _ _ _ _ _ _ _ _ _ _ _ _ c.loop-test.true c.loop.invariant.0
                w.arrive.new.self 3 w.in-Got.from w.in-Got.bytes outcome _ _ _ _ _ _ _ _ w.in-Got.ensures.gives w.in-Got.ensures.cause (λ others history stands. rw (e.disk_alone, e.entropy_alone, c.loop.invariant.1, c.loop.invariant.2) at e.outcome others history stands) e.begun e.sends_none moved
                (λ came results. results_big came outcome c.loop.result results moved big),
            e.disk_alone ∙ c.loop.invariant.1,
            e.entropy_alone ∙ c.loop.invariant.2,
            borrows_then c.args.devices.now c.loop.devices w.arrive.new.devices c.loop.invariant.3 e.borrows,
          )
      | in-Got+in_ok-outcome-in-Got+else-is_moved+else-is_too_big w ↦
          let e = w.in_ok-outcome-in-Got.ensures in
          let outcome = w.in_ok-outcome-in-Got.outcome in
          let moved = sym w.is_moved.ensures ∙ w.if-is_moved.false in
          let other = sym w.is_too_big.ensures ∙ w.if-is_too_big.false in
          rw (w.self-is, w.devices-is, w.result-is) (
            rounds_got c.loop.counter c.args.self.now c.loop.self c.loop.result _ _ _ _ _ _ _ _ _ _ _ _ _ _ _ _ _ _ _ _ _ c.loop-test.true c.loop.invariant.0
                w.arrive.new.self c.loop.result w.in-Got.from w.in-Got.bytes outcome _ _ _ _ _ _ _ _ w.in-Got.ensures.gives w.in-Got.ensures.cause (λ others history stands. rw (e.disk_alone, e.entropy_alone, c.loop.invariant.1, c.loop.invariant.2) at e.outcome others history stands) e.begun e.sends_none moved
                (λ came results. results_other came outcome c.loop.result results moved other),
            e.disk_alone ∙ c.loop.invariant.1,
            e.entropy_alone ∙ c.loop.invariant.2,
            borrows_then c.args.devices.now c.loop.devices w.arrive.new.devices c.loop.invariant.3 e.borrows,
          )
      | in-Failed w ↦
          rw (w.self-is, w.devices-is, w.result-is, w.count_lost.ensures) (
            rounds_lost c.loop.counter c.args.self.now c.loop.self c.loop.result _ _ _ _ _ _ _ _ _ _ _ _ _ _ _ _ _ _ _ _ _ c.loop-test.true c.loop.invariant.0
                w.in-Failed.ensures.gives w.in-Failed.ensures.cause,
            c.loop.invariant.1,
            c.loop.invariant.2,
            c.loop.invariant.3,
          )
    ]

pub returns-in_err-outcome-in-Got-clause-round : goal.returns-in_err-outcome-in-Got-clause-round
returns-in_err-outcome-in-Got-clause-round g c =
    let p = err_from_is_err_and c.from_residual.result c.from_residual.ensures.1 in
    let e = c.in_err-outcome-in-Got.ensures in
    rw (p.1, p.2, e.disk_alone, e.entropy_alone, c.loop.invariant.1, c.loop.invariant.2)
    (round_fault c.loop.counter c.args.self.now c.loop.self c.loop.result _ _ _ _ _ _ _ _ _ _ _ _ _ _ _ _ _ _ _ _ _ c.loop-test.true c.loop.invariant.0
    c.arrive.new.self.member (totals_of c.arrive.new.self) c.in_err-outcome-in-Got.field-0.0 c.in-Got.from c.in-Got.bytes _ _ _ _ _ _ _ _ (λ is. subst IsOfReceipt is e.never)
    c.in-Got.ensures.gives c.in-Got.ensures.cause (λ others history stands. rw (e.disk_alone, e.entropy_alone, c.loop.invariant.1, c.loop.invariant.2) at e.takes others history stands))

pub returns-then-is_moved-clause-round : goal.returns-then-is_moved-clause-round
returns-then-is_moved-clause-round g c =
    let e = c.in_ok-outcome-in-Got.ensures in
    rw (e.disk_alone, e.entropy_alone, c.loop.invariant.1, c.loop.invariant.2)
    (round_moved c.loop.counter c.args.self.now c.loop.self c.loop.result _ _ _ _ _ _ _ _ _ _ _ _ _ _ _ _ _ _ _ _ _ c.loop-test.true c.loop.invariant.0
    c.arrive.new.self.member (totals_of c.arrive.new.self) c.in-Got.from c.in-Got.bytes c.in_ok-outcome-in-Got.outcome _ _ _ _ _ _ _ _
    c.in-Got.ensures.gives c.in-Got.ensures.cause (λ others history stands. rw (e.disk_alone, e.entropy_alone, c.loop.invariant.1, c.loop.invariant.2) at e.outcome others history stands) (sym c.is_moved.ensures ∙ c.if-is_moved.true))

pub returns-in-Quiet-clause-round : goal.returns-in-Quiet-clause-round
returns-in-Quiet-clause-round g c =
    rw (c.count_quiet.ensures, c.loop.invariant.1, c.loop.invariant.2)
    (round_quiet_at c.loop.counter c.args.self.now c.loop.self c.loop.result _ _ _ _ _ _ _ _ _ _ _ _ _ _ _ _ _ _ _ _ _ c.loop-test.true c.loop.invariant.0
    c.in-Quiet.ensures.gives c.in-Quiet.ensures.cause)

pub returns-clause-round : goal.returns-clause-round
returns-clause-round g c =
    rw (c.loop.invariant.1, c.loop.invariant.2)
    (round_over c.loop.counter c.args.self.now c.loop.self c.loop.result _ _ _ _ _ _ _ _ _ _ _ _ _ _ _ _ _ _ _ (omega arith) c.loop.invariant.0)
