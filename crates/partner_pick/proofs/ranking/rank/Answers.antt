use Rattle.std.proofs.Common.{◌≡◌, Result, Ok, Err, IfOk, subst}
use Rattle.std.specs.Result.{MatchResult, IsErrAnd}
use Rattle.partner_pick.proofs.ranking.rank.Goals as goal

-- what holds of a value holds of it where only the error is another
kept_ok : {T E F : Type 0} (a : Result T E) (b : Result T F) (P : T → Type 0) (R : E → F → Type 0)
    → MatchResult a (λ x. b ≡ Ok x) (λ e. IsErrAnd b (R e)) → IfOk a P → IfOk b P
kept_ok (Ok x) (Ok y) P R same holds = let e : x ≡ y = cc in subst P e holds
kept_ok (Ok x) (Err f) P R same holds = tt
kept_ok (Err e) (Ok y) P R same holds = absurd same
kept_ok (Err e) (Err f) P R same holds = tt

pub returns-clause-only : goal.returns-clause-only
returns-clause-only c = kept_ok c.places_in_rank.result c.map_err.result _ _ c.map_err.ensures.cases c.places_in_rank.ensures.only
