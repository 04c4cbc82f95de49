use Rattle.std.proofs.Common.{List, [], ◌∷◌, Option, subst, sym, arith}
use Rattle.edge_traits.specs.Clock.{ClockCall, GaveReadings}
use Rattle.dc_sign.proofs.readings.two_readings.Goals as goal

-- the second reading failed, and the first one was given
pub returns-in_default-now-clause-fewer : goal.returns-in_default-now-clause-fewer
returns-in_default-now-clause-fewer g c = record {
  given = c.in-At.first ∷ [];
  fewer = omega arith;
  readings = subst (λ (told : Option (List ClockCall)). GaveReadings (g.C.Clock.told c.args.clock.now) told (c.in-At.first ∷ [])) (sym c.in_default-now.ensures.gives) c.in-At.ensures.gives.1;
}
