use Rattle.std.proofs.Common.{rules, w64}
use Rattle.std.proofs.lemmas.Int.{to_z-of_z}
use Rattle.time_machine.specs.declared.outcome.How.TheVariants.{Slew, Step}
use Rattle.member_run.proofs.Sends.{acts_moved, acts_sent}
use Rattle.member_run.proofs.running.Running.act.Goals as goal

pub returns-in-Sent-clause-acts : goal.returns-in-Sent-clause-acts
returns-in-Sent-clause-acts g c =
    rw c.in-Sent.is (acts_sent c.in-Sent.to c.in-Sent.count _ _ _ _ _ _ _ _ c.send.ensures.sent)

pub returns-in-Step-clause-acts : goal.returns-in-Step-clause-acts
returns-in-Step-clause-acts g c =
    let moved = rw (to_z-of_z w64 c.in-Moved.offset (search rules)) at c.step.ensures.moves in
    rw (c.in-Moved.is, c.in-Step.is) (acts_moved _ c.in-Moved.offset Step _ _ _ _ _ moved)

pub returns-in-Slew-clause-acts : goal.returns-in-Slew-clause-acts
returns-in-Slew-clause-acts g c =
    let moved = rw (to_z-of_z w64 c.in-Moved.offset (search rules)) at c.slew.ensures.moves in
    rw (c.in-Moved.is, c.in-Slew.is) (acts_moved _ c.in-Moved.offset Slew _ _ _ _ _ moved)
