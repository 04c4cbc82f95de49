-- What was copied to the front of the buffer are the first of the bytes left.
use Rattle.std.proofs.Common.{◌≡◌, ◌≤◌, List, ◌++◌, ℕ, length, refl, take, drop, ap, ◌∙◌, sym, arith, rules, length-drop}
use Rattle.edge_io.specs.Pieces.{InPieces, pieces_after}
use Rattle.edge_io.proofs.Fronts.{given_and_left, part_and_rest}
use Rattle.edge_io.proofs.pieces.Pieces.give.Goals as goal

pub returns-clause-front : goal.returns-clause-front
returns-clause-front c =
    let count = c.min-count.result in
    let left = drop c.self.inside.at c.self.inside.bytes.items in
    let copied : c.copy_from_slice.new.self ≡ take count left = search rules in
    let fits : count ≤ length left = omega (arith, length-drop c.self.inside.at c.self.inside.bytes.items) in
    part_and_rest _ _ _ _ _ _ (ap (λ (p : InPieces). p.left) (sym c.self.view_is)) copied fits

pub returns-clause-script : goal.returns-clause-script
returns-clause-script c =
    let at = c.self.inside.at in
    let bytes = c.self.inside.bytes.items in
    let count = c.min-count.result in
    given_and_left bytes c.take.new.self at count _ refl
    ∙ ap (λ (sizes : List ℕ). record { given = take at bytes ++ take count (drop at bytes); left = drop count (drop at bytes); sizes = sizes }) c.take.ensures
    ∙ ap (pieces_after count) c.self.view_is
