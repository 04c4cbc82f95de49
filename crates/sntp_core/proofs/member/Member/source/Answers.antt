use Rattle.std.proofs.Common.{ap}
use Rattle.time_machine.specs.Machine.{source_of}
use Rattle.sntp_core.proofs.member.Member.source.Goals as goal

pub returns-clause-last : goal.returns-clause-last
unfolding source_of
returns-clause-last c = λ history s. ap (λ w. w.source) s.keeps
