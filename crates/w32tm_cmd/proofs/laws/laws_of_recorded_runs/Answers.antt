use Rattle.w32tm_cmd.proofs.Again.{same_lines, replay_done}
use Rattle.w32tm_cmd.proofs.laws.laws_of_recorded_runs.Goals as goal

pub returns : goal.returns
returns g c = record { same_lines = λ turns. same_lines turns _ _; done = λ turns. replay_done turns _ _ }
