use Rattle.sntp_world.proofs.Messages.{has_digest_of, signed}
use Rattle.sntp_world.proofs.due.is_signed.Goals as goal

pub returns-in-Ok : goal.returns-in-Ok
returns-in-Ok c = (
  λ t. signed _ _ c.in-Ok.ensures.places (c.check.ensures.0 t),
  λ s. c.check.ensures.1 (has_digest_of _ _ c.in-Ok.ensures.places s),
)
