use Rattle.sntp_world.proofs.Asked.{known_by}
use Rattle.sntp_world.proofs.due.is_known.Goals as goal

pub returns-in-Ok : goal.returns-in-Ok
returns-in-Ok c =
    known_by _ _ _ _ _ c.in-Ok.ensures.fields c.find_request.ensures.found c.find_request.ensures.is c.find_request.ensures.none c.is_some.ensures
