use Rattle.w32t_settings.proofs.Exact.{one_answer, some_answer}
use Rattle.w32t_settings.proofs.laws.laws_of_settings.Goals as goal

pub returns : goal.returns
returns c = record { one_answer = one_answer; some_answer = some_answer }
