use Rattle.std.proofs.Common.{◌≤◌, ◌-ℤ◌, ◌≤ℤ◌, arith, pos, subst, sym, w64, ℤ}
use Rattle.std.proofs.lemmas.Int.{ints, to_z-of_z}
use mir.Val.{SFits}
use Rattle.ntp_wire.specs.Stamp.{ticks_of}
use Rattle.time_machine.specs.Verdict.{delay_of}
use Rattle.sntp_world.specs.State.{Correction}
use Rattle.sntp_world.proofs.Slacks.{slack_as}
use Rattle.sntp_world.proofs.correction.slack_of.Goals as goal

pub overflow_sub-result : goal.overflow_sub-result
overflow_sub-result c =
    let low : pos 0 ≤ℤ c.delay_between.result = subst (λ (z : ℤ). pos 0 ≤ℤ z) (sym c.delay_between.ensures) c.requires.delayed in
    let high : c.delay_between.result ≤ℤ pos 100000000 = subst (λ (z : ℤ). z ≤ℤ pos 100000000) (sym c.delay_between.ensures) c.requires.soon in
    let fits : c.twice_error.result ≤ 8200000000000000000 = c.twice_error.ensures.fits in
    let uneven : c.args.came.uneven ≤ 1000000000000000000 = c.requires.clocks.uneven in
    omega (arith, ints)

pub returns : goal.returns
returns c =
    let low : pos 0 ≤ℤ c.delay_between.result = subst (λ (z : ℤ). pos 0 ≤ℤ z) (sym c.delay_between.ensures) c.requires.delayed in
    let high : c.delay_between.result ≤ℤ pos 100000000 = subst (λ (z : ℤ). z ≤ℤ pos 100000000) (sym c.delay_between.ensures) c.requires.soon in
    let fits : c.twice_error.result ≤ 8200000000000000000 = c.twice_error.ensures.fits in
    let uneven : c.args.came.uneven ≤ 1000000000000000000 = c.requires.clocks.uneven in
    let offset : SFits w64 c.args.offset = c.ranges.offset in
    let error = simp to_z-of_z at c.twice_error.ensures.is in
    let by : Correction = record {
      offset = c.args.offset;
      ahead = c.args.came.controller -ℤ c.args.came.member;
      delay = delay_of c.args.left.member
          (ticks_of c.args.reply.now.receive c.args.came.member) (ticks_of c.args.reply.now.transmit c.args.came.member) c.args.came.member;
      sent = c.args.left.uneven;
      came = c.args.came.uneven;
    } in
    slack_as by _ _ _ c.delay_between.ensures error (omega (arith, ints))
