use Rattle.partner_pick.proofs.Parsings.{one_answer, some_answer}
use Rattle.partner_pick.proofs.laws.laws_of_directories.Goals as goal

pub returns : goal.returns
returns c = record { one_answer = one_answer; some_answer = some_answer }
