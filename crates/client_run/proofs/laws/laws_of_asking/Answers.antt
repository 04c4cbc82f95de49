use Rattle.client_run.proofs.OneAnswer.{tells_one}
use Rattle.client_run.proofs.laws.laws_of_asking.Goals as goal

pub returns : goal.returns
returns c = record { one_answer = tells_one }
