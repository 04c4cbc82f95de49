use Rattle.std.proofs.Common.{w64, ◌∙◌, refl, sym}
use Rattle.std.proofs.lemmas.Int.{to_z-of_z}
use Rattle.sntp_core.specs.Standing.{words_of}
use Rattle.sntp_core.proofs.Reading.{verdict_is, no_message}
use Rattle.sntp_core.proofs.member.Member.verdict.Goals as goal

pub returns-in-Ok-clause-same : goal.returns-in-Ok-clause-same
returns-in-Ok-clause-same c =
    let same = rw (to_z-of_z w64 c.args.now c.ranges.now) at c.packet_verdict.ensures.same in
    same ∙ sym (verdict_is c.args.self.now.conf (words_of c.args.self.now) c.args.now c.args.from c.args.bytes.now c.in-Ok.packet c.in-Ok.ensures.places)

pub returns-in-Err-clause-same : goal.returns-in-Err-clause-same
returns-in-Err-clause-same c =
    sym (no_message c.args.self.now.conf (words_of c.args.self.now) c.args.now c.args.from c.args.bytes.now (c.in-Err.ensures.bad_length.0 refl))
