-- Inputs by their kind.
use Rattle.std.specs.Prelude.{Bool, true, false}
use Rattle.edge_io.specs.declared.closed.ClosedSource.{ClosedSource}
use Rattle.w32tm.specs.declared.input.Input.{Input}
use Rattle.w32tm.specs.declared.input.Input.TheVariants as input

-- what f, g or h says of the source that the input is
abbrev pub of_source : {I F T : Type 0} → (I → T) → (F → T) → (ClosedSource → T) → Input I F → T
of_source f g h (input.Standard source) = f source
of_source f g h (input.File source) = g source
of_source f g h (input.Closed source) = h source

-- whether the input is standard input
abbrev pub is_standard : {I F : Type 0} → Input I F → Bool
is_standard i = of_source (λ _. true) (λ _. false) (λ _. false) i

-- whether the input is no file
abbrev pub is_closed : {I F : Type 0} → Input I F → Bool
is_closed i = of_source (λ _. false) (λ _. false) (λ _. true) i
