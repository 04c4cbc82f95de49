use Rattle.std.proofs.Common.{◌≡◌, All, [], ◌∷◌, ◌++◌, rules, arith, subst, sym}
use Rattle.std.proofs.lemmas.Grind.{common_steps}
use Rattle.std.proofs.lemmas.List.Elements.{All-append, All-cons, All-nil}
use Rattle.edge_io.specs.SessionScript.{IsFresh}
use Rattle.edge_io.proofs.wire.waiting_of.Goals as goal

-- one more session waits, and nothing was done with it
pub loop-pieces-preserved : goal.loop-pieces-preserved
loop-pieces-preserved c =
    let waiting = c.loop-pieces.waiting.items in
    let session = c.in_ok-session.session in
    let pushed : c.push_back.new.self.items ≡ waiting ++ session ∷ [] = search rules in
    let one : All IsFresh (session ∷ []) = All-cons IsFresh session [] c.in_ok-session.ensures.fresh (All-nil IsFresh) in
    record {
      sessions = grind (arith, common_steps);
      fresh = subst (All IsFresh) (sym pushed) (All-append IsFresh waiting (session ∷ []) c.loop-pieces.invariant.fresh one);
    }
