use Rattle.run_deeds.proofs.ServiceWeaves.{is_service}
use Rattle.run_deeds.proofs.Weaves.{is_weave}
use Rattle.run_deeds.proofs.laws.laws_of_weaving.Goals as goal

pub returns-clause-turns : goal.returns-clause-turns
returns-clause-turns c = λ turns conf stood cs ws ls es need weaves. is_weave weaves

pub returns-clause-services : goal.returns-clause-services
returns-clause-services c = λ conf stood calls cs ws ls es need weaves. is_service weaves
