use Rattle.edge_io.proofs.Servo.{arrives, settles}
use Rattle.edge_io.proofs.laws.laws_of_corrections.Goals as goal

pub returns : goal.returns
returns c = record { arrives = arrives; settles = settles }
