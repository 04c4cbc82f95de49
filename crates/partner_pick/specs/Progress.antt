-- How far a ranking has come.
use Rattle.std.specs.Prelude.{◌≡◌, ◌≢◌, ◌↔◌, ◌⊎◌, ℕ, ◌<◌, List, AllPairs, Contains, Option, None, Some}
use Rattle.partner_pick.specs.declared.entry.Entry.{Entry}
use Rattle.partner_pick.specs.declared.entry.Role.{Role}
use Rattle.partner_pick.specs.Ranking.{IsCandidateAt, StandsBefore, score_at}

-- the score at a place is above this one, or it is this one and the place is below the end
abbrev pub IsTaken : List Entry → ℕ → ℕ → ℕ → Type 0
IsTaken entries score end place =
    (score < score_at entries place) ⊎ ((score_at entries place ≡ score) × (place < end))

-- the places of the candidates that are taken, each once, in rank
pub record IsRankedTo (role : Role) (own : List ℕ) (entries : List Entry) (score end : ℕ) (places : List ℕ) : Type 0 where
  pub candidates : (place : ℕ)
      → Contains places place ↔ (IsCandidateAt role own entries place × IsTaken entries score end place)
  pub order : AllPairs (StandsBefore role entries) places

-- the candidate of a place below the end before which no other below the end stands
pub record IsFirstBelow (role : Role) (own : List ℕ) (entries : List Entry) (end place : ℕ) : Type 0 where
  pub below : place < end
  pub candidate : IsCandidateAt role own entries place
  pub before : (other : ℕ) → other < end → IsCandidateAt role own entries other → other ≢ place
      → StandsBefore role entries place other

-- the first of the candidates below the end, if there is one
abbrev pub IsBestBelow : Role → List ℕ → List Entry → ℕ → Option ℕ → Type 0
IsBestBelow role own entries end None = (place : ℕ) → place < end → ¬ IsCandidateAt role own entries place
IsBestBelow role own entries end (Some best) = IsFirstBelow role own entries end best
