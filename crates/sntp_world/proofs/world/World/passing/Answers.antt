use Rattle.sntp_world.proofs.Keeping.{reached_clocks}
use Rattle.sntp_world.proofs.world.World.passing.Goals as goal

pub after-requires-clause-member : goal.after-requires-clause-member
after-requires-clause-member c = (reached_clocks _ c.self.invariant.0).member

pub after-requires-clause-controller : goal.after-requires-clause-controller
after-requires-clause-controller c = (reached_clocks _ c.self.invariant.0).controller

pub after-requires-clause-uneven : goal.after-requires-clause-uneven
after-requires-clause-uneven c = (reached_clocks _ c.self.invariant.0).uneven
