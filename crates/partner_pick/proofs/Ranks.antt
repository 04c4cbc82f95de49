-- Equal scores are those of equal flags, and no two places stand before each other.
use Rattle.std.proofs.Common.{◌≡◌, ◌+◌, ◌<◌, ◌≤◌, ℕ, zero, suc, Bool, true, false, inl, inr, List, [], ◌∷◌, length, refl, sym, ap, subst, arith}
use Rattle.std.specs.Prelude.{Option, Some, None, IsSomeAnd, slice_get, option_map, option_and_then, unwrap_or}
use Rattle.partner_pick.specs.declared.entry.Entry.{Entry}
use Rattle.partner_pick.specs.declared.entry.Role.{Role}
use Rattle.partner_pick.specs.declared.entry.Role.TheVariants.{Member, Controller, Pdc}
use Rattle.partner_pick.specs.Queries.{first_query, points, score_of}
use Rattle.partner_pick.specs.Ranking.{IsCandidate, IsCandidateAt, StandsBefore, score_at, query_at}

points_most : (worth : ℕ) (flag : Bool) → points worth flag ≤ worth
points_most worth true = omega arith
points_most worth false = omega arith

-- a flag that is worth more than all that is added to it
same_flag : (worth : ℕ) (a b : Bool) (m n : ℕ) → m < worth → n < worth → points worth a + m ≡ points worth b + n → (a ≡ b) × (m ≡ n)
same_flag worth true true m n low high same = (refl, omega arith)
same_flag worth true false m n low high same = absurd (omega arith)
same_flag worth false true m n low high same = absurd (omega arith)
same_flag worth false false m n low high same = (refl, omega arith)

-- the flags of an entry decide its score, and the score its flags
pub record SameFlags (a b : Entry) : Type 0 where
  pub in_site : a.in_site ≡ b.in_site
  pub reliable : a.reliable ≡ b.reliable
  pub parent : a.parent ≡ b.parent
  pub pdc : a.pdc ≡ b.pdc

pub same_flags : (a b : Entry) → score_of a ≡ score_of b → SameFlags a b
same_flags a b same =
    let r_a = points_most 4 a.reliable in
    let r_b = points_most 4 b.reliable in
    let p_a = points_most 2 a.parent in
    let p_b = points_most 2 b.parent in
    let c_a = points_most 1 a.pdc in
    let c_b = points_most 1 b.pdc in
    let s = same_flag 8 a.in_site b.in_site (points 4 a.reliable + points 2 a.parent + points 1 a.pdc) (points 4 b.reliable + points 2 b.parent + points 1 b.pdc) (omega arith) (omega arith) (omega arith) in
    let r = same_flag 4 a.reliable b.reliable (points 2 a.parent + points 1 a.pdc) (points 2 b.parent + points 1 b.pdc) (omega arith) (omega arith) (omega arith) in
    let p = same_flag 2 a.parent b.parent (points 1 a.pdc) (points 1 b.pdc) (omega arith) (omega arith) (omega arith) in
    let c = same_flag 1 a.pdc b.pdc 0 0 (omega arith) (omega arith) (omega arith) in
    record { in_site = s.0; reliable = r.0; parent = p.0; pdc = c.0 }

-- equal scores match the same queries
pub same_query : (role : Role) (a b : Entry) → score_of a ≡ score_of b → first_query role a ≡ first_query role b
same_query Member a b same = let flags = same_flags a b same in cc
same_query Controller a b same = let flags = same_flags a b same in cc
same_query Pdc a b same = let flags = same_flags a b same in cc

-- of two candidates of equal scores
pub same_query_at : (role : Role) (own : List ℕ) (entries : List Entry) (i j : ℕ) → IsCandidateAt role own entries i → IsCandidateAt role own entries j
    → score_at entries i ≡ score_at entries j → query_at role entries i ≡ query_at role entries j
same_query_at role own entries i j = same_of (slice_get entries i) (slice_get entries j)
  where
    same_of : (a b : Option Entry) → IsSomeAnd a (IsCandidate role own) → IsSomeAnd b (IsCandidate role own)
        → unwrap_or (option_map score_of a) 0 ≡ unwrap_or (option_map score_of b) 0
        → unwrap_or (option_and_then (first_query role) a) 0 ≡ unwrap_or (option_and_then (first_query role) b) 0
    same_of None b g h same = absurd g
    same_of (Some a) None g h same = absurd h
    same_of (Some a) (Some b) g h same = let e = same_query role a b same in ap (λ q. unwrap_or q 0) e

-- no two places stand before each other
pub stand_apart : (role : Role) (entries : List Entry) (i j : ℕ) → StandsBefore role entries i j → StandsBefore role entries j i → ⊥
stand_apart role entries i j (inl a) (inl b) = omega arith
stand_apart role entries i j (inl a) (inr (e, b)) = omega arith
stand_apart role entries i j (inr (e, a)) (inl b) = omega arith
stand_apart role entries i j (inr (e, inl a)) (inr (f, inl b)) = omega arith
stand_apart role entries i j (inr (e, inl a)) (inr (f, inr (g, b))) = omega arith
stand_apart role entries i j (inr (e, inr (g, a))) (inr (f, inl b)) = omega arith
stand_apart role entries i j (inr (e, inr (g, a))) (inr (f, inr (h, b))) = omega arith

pub score_most : (e : Entry) → score_of e ≤ 15
score_most e =
    let s = points_most 8 e.in_site in
    let r = points_most 4 e.reliable in
    let p = points_most 2 e.parent in
    let c = points_most 1 e.pdc in
    omega arith

-- a candidate's place is one of the list, and its score is below 16
pub within_list : (role : Role) (own : List ℕ) (entries : List Entry) (place : ℕ) → IsCandidateAt role own entries place → place < length entries
within_list role own [] place h = absurd h
within_list role own (e ∷ es) zero h = omega arith
within_list role own (e ∷ es) (suc place) h = let there = within_list role own es place h in omega arith

pub score_at_most : (entries : List Entry) (place : ℕ) → score_at entries place < 16
score_at_most entries place = most_of (slice_get entries place)
  where
    most_of : (a : Option Entry) → unwrap_or (option_map score_of a) 0 < 16
    most_of None = omega arith
    most_of (Some e) = let most = score_most e in omega arith

-- what is known of the entry at a place
pub candidate_at : (role : Role) (own : List ℕ) (entries : List Entry) (place : ℕ) (e : Entry) → slice_get entries place ≡ Some e
    → IsCandidate role own e → IsCandidateAt role own entries place
candidate_at role own entries place e is h = subst (λ (o : Option Entry). IsSomeAnd o (IsCandidate role own)) (sym is) h

pub score_at-entry : (entries : List Entry) (place : ℕ) (e : Entry) → slice_get entries place ≡ Some e → score_at entries place ≡ score_of e
score_at-entry entries place e is = ap (λ (o : Option Entry). unwrap_or (option_map score_of o) 0) is
