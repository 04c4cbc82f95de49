use Rattle.sntp_world.proofs.Messages.{asks, names}
use Rattle.sntp_world.proofs.due.asks_for_member.Goals as goal

pub returns-in-Ok : goal.returns-in-Ok
returns-in-Ok c = (
  λ t. asks _ _ c.in-Ok.ensures.places.tail (c.names_account.ensures.0 t),
  λ a. c.names_account.ensures.1 (names _ _ c.in-Ok.ensures.places.tail a),
)
