use Rattle.std.proofs.Common.{◌≡◌, ℕ, ◌+◌, List, [], ◌∷◌, length, get_or, not, eqb, inl, inr, sym, ◌∙◌, ap, arith}
use Rattle.std.specs.Cmp.Lexicographic.{pointwise}
use Rattle.std.proofs.lemmas.Bool.{true≢false}
use Rattle.w32t_calls.proofs.Sources.{next_unit}
use Rattle.w32t_calls.proofs.source.name_in.Goals as goal
use Rattle.w32t_calls.proofs.source.name_in.Goals.{in_default, in_default-2, in_default-3, in_default-4}

pub returns-then-ne-clause-none : goal.returns-then-ne-clause-none
returns-then-ne-clause-none c none name spells =
    let units = c.loop-left.invariant in
    let next = next_unit c.loop-left.name.items name c.loop-left.left.now units.printed spells.printed (sym units.read ∙ spells.units) in
    elim next [
      | inl closing ↦ true≢false (sym c.if-ne.true ∙ c.ne.ensures
          ∙ ap (λ (l : List ℕ). not (pointwise eqb l c.as_slice.result.now)) closing
          ∙ ap (λ (l : List ℕ). not (pointwise eqb (0 ∷ 0 ∷ []) l)) c.as_slice.ensures)
      | inr more ↦
          let size : length c.loop-left.left.now ≡ length more.rest + 2 = omega (arith, ap length more.is) in
          let byte : get_or c.loop-left.left.now 0 0 ≡ more.byte = ap (λ (l : List ℕ). get_or l 0 0) more.is in
          let high : get_or c.loop-left.left.now 1 0 ≡ 0 = ap (λ (l : List ℕ). get_or l 1 0) more.is in
          elim c.if-left-lt2.branch [
            | in_default w ↦ omega arith
            | in_default-2 w ↦ omega arith
            | in_default-3 w ↦ omega arith
            | in_default-4 w ↦ omega arith
          ]
    ]
