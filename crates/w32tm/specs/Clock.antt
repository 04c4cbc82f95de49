-- Clocks by their kind.
use Rattle.std.specs.Prelude.{Bool, true, false}
use Rattle.w32tm.specs.declared.clock.MachineClock.{MachineClock}
use Rattle.w32tm.specs.declared.clock.MachineClock.TheVariants as clock

-- what f or g says of the clock that it is
abbrev pub of_clock : {M S T : Type 0} → (M → T) → (S → T) → MachineClock M S → T
of_clock f g (clock.Corrected machine) = f machine
of_clock f g (clock.Sampled machine) = g machine

-- whether the corrections are samples
abbrev pub is_sampled : {M S : Type 0} → MachineClock M S → Bool
is_sampled c = of_clock (λ _. false) (λ _. true) c
