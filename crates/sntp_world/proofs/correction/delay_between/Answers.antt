use Rattle.std.proofs.Common.{rules, w64}
use Rattle.std.proofs.lemmas.Int.{to_z-of_z}
use mir.Val.{SFits}
use Rattle.sntp_world.proofs.correction.delay_between.Goals as goal

pub returns : goal.returns
returns c =
    let left : SFits w64 c.args.left.member = search rules in
    let came : SFits w64 c.args.came.member = search rules in
    let received_fits : SFits w64 c.to_ticks-received.result = search rules in
    let sent_fits : SFits w64 c.to_ticks-sent.result = search rules in
    let result_fits : SFits w64 c.delay_of.result = search rules in
    let received = simp to_z-of_z at c.to_ticks-received.ensures.value in
    let sent = simp to_z-of_z at c.to_ticks-sent.ensures.value in
    let by_parts = simp to_z-of_z at c.delay_of.ensures in
    let same = to_z-of_z w64 _ result_fits in
    cc
