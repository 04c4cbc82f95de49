use Rattle.std.proofs.Common.{w64, ◌∙◌, sym}
use Rattle.std.proofs.lemmas.Int.{to_z-of_z}
use Rattle.sntp_core.proofs.Signed.{found_window}
use Rattle.sntp_core.proofs.member.Member.server_verdict.Goals as goal

pub reply_verdict-requires-clause-before : goal.reply_verdict-requires-clause-before
reply_verdict-requires-clause-before c =
    let e = rw (to_z-of_z w64 c.args.now c.ranges.now) at c.answered.ensures in
    rw (to_z-of_z w64 c.args.now c.ranges.now) (found_window c.args.now c.args.packet.now.header.originate c.args.self.now.open_requests c.in-Some.request (sym e ∙ c.in-Some.is)).0

pub reply_verdict-requires-clause-window : goal.reply_verdict-requires-clause-window
reply_verdict-requires-clause-window c =
    let e = rw (to_z-of_z w64 c.args.now c.ranges.now) at c.answered.ensures in
    rw (to_z-of_z w64 c.args.now c.ranges.now) (found_window c.args.now c.args.packet.now.header.originate c.args.self.now.open_requests c.in-Some.request (sym e ∙ c.in-Some.is)).1
