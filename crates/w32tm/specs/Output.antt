-- Outputs by their kind.
use Rattle.std.specs.Prelude.{Bool, true, false}
use Rattle.edge_io.specs.declared.sink.NullSink.{NullSink}
use Rattle.w32tm.specs.declared.output.Output.{Output}
use Rattle.w32tm.specs.declared.output.Output.TheVariants as output

-- what f, g or h says of the sink that the output is
abbrev pub of_sink : {O F T : Type 0} → (O → T) → (F → T) → (NullSink → T) → Output O F → T
of_sink f g h (output.Standard sink) = f sink
of_sink f g h (output.File sink) = g sink
of_sink f g h (output.Null sink) = h sink

-- whether the output is a file
abbrev pub is_file : {O F : Type 0} → Output O F → Bool
is_file o = of_sink (λ _. false) (λ _. true) (λ _. false) o

-- whether the output keeps nothing
abbrev pub is_null : {O F : Type 0} → Output O F → Bool
is_null o = of_sink (λ _. false) (λ _. false) (λ _. true) o
