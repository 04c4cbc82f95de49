-- The candidates of a directory, and their rank.
use Rattle.std.specs.Prelude.{◌≡◌, ◌≢◌, ◌↔◌, ◌⊎◌, ℕ, ◌<◌, List, AllPairs, Contains, IsSome, IsSomeAnd, slice_get, unwrap_or, option_map, option_and_then}
use Rattle.partner_pick.specs.declared.entry.Entry.{Entry}
use Rattle.partner_pick.specs.declared.entry.Role.{Role}
use Rattle.partner_pick.specs.Queries.{first_query, score_of}

-- An entry that is not the computer itself, and that matches a query of its role.
abbrev pub IsCandidate : Role → List ℕ → Entry → Type 0
IsCandidate role own e = (e.name ≢ own) × IsSome (first_query role e)

-- a place in the directory that has a candidate
abbrev pub IsCandidateAt : Role → List ℕ → List Entry → ℕ → Type 0
IsCandidateAt role own entries place = IsSomeAnd (slice_get entries place) (IsCandidate role own)

-- the score of the entry at a place
abbrev pub score_at : List Entry → ℕ → ℕ
score_at entries place = unwrap_or (option_map score_of (slice_get entries place)) 0

-- the lowest query that the entry at a place matches
abbrev pub query_at : Role → List Entry → ℕ → ℕ
query_at role entries place = unwrap_or (option_and_then (first_query role) (slice_get entries place)) 0

-- One place stands before another by its higher score, then by its lower query, then as the earlier line.
abbrev pub StandsBefore : Role → List Entry → ℕ → ℕ → Type 0
StandsBefore role entries i j =
    (score_at entries j < score_at entries i)
    ⊎ ((score_at entries i ≡ score_at entries j)
    × ((query_at role entries i < query_at role entries j)
    ⊎ ((query_at role entries i ≡ query_at role entries j) × (i < j))))

-- the places of the candidates, each once, in rank
pub record IsRanked (role : Role) (own : List ℕ) (entries : List Entry) (places : List ℕ) : Type 0 where
  pub candidates : (place : ℕ) → Contains places place ↔ IsCandidateAt role own entries place
  pub order : AllPairs (StandsBefore role entries) places

-- the candidate before which no other stands
pub record IsFirst (role : Role) (own : List ℕ) (entries : List Entry) (place : ℕ) : Type 0 where
  pub candidate : IsCandidateAt role own entries place
  pub before : (other : ℕ) → IsCandidateAt role own entries other → other ≢ place
      → StandsBefore role entries place other
