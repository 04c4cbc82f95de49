-- A ranking, one place further.
use Rattle.std.proofs.Common.{◌≡◌, ◌≢◌, ◌+◌, ◌<◌, ◌≤◌, ◌⊎◌, ℕ, inl, inr, List, [], ◌∷◌, ◌++◌, length, refl, sym, ap, subst, ◌∙◌, arith}
use Rattle.std.specs.Prelude.{Contains, Option, Some, None, slice_get}
use Rattle.std.proofs.lemmas.Bool.{cases_lt, cases_eq}
use Rattle.std.proofs.lemmas.List.Elements.{Contains-push, Contains-push_cases, Contains-append_left}
use Rattle.partner_pick.specs.declared.entry.Entry.{Entry}
use Rattle.partner_pick.specs.declared.entry.Role.{Role}
use Rattle.partner_pick.specs.Ranking.{IsCandidateAt, IsRanked, StandsBefore, score_at}
use Rattle.partner_pick.specs.Progress.{IsTaken, IsRankedTo, IsFirstBelow, IsBestBelow}
use Rattle.partner_pick.proofs.Orders.{AllPairs-push, AllPairs-head, Contains-head, Contains-cons_cases, one_order}
use Rattle.partner_pick.proofs.Ranks.{same_query_at, score_at_most, stand_apart, within_list}

module _ (role : Role) (own : List ℕ) (entries : List Entry) where
  -- what is taken below a place is taken below the next
  taken_later : (score end place : ℕ) → IsTaken entries score end place → IsTaken entries score (end + 1) place
  taken_later score end place (inl above) = inl above
  taken_later score end place (inr (same, below)) = inr (same, omega arith)

  -- what is taken below the next place is taken below this one, or is this one with that score
  taken_cases : (score end place : ℕ) → IsTaken entries score (end + 1) place → IsTaken entries score end place ⊎ ((place ≡ end) × (score_at entries place ≡ score))
  taken_cases score end place (inl above) = inl (inl above)
  taken_cases score end place (inr (same, below)) =
      elim (cases_lt place end) [ inl earlier ↦ inl (inr (same, earlier)) | inr at_end ↦ inr (omega arith, same) ]

  -- the next candidate of the score comes last
  pub ranked_push : (score end : ℕ) (places : List ℕ) → IsRankedTo role own entries score end places
      → IsCandidateAt role own entries end → score_at entries end ≡ score → IsRankedTo role own entries score (end + 1) (places ++ end ∷ [])
  ranked_push score end places so_far candidate same = record { candidates = λ place. (there place, back place); order = AllPairs-push (StandsBefore role entries) places end so_far.order behind }
    where
      there : (place : ℕ) → Contains (places ++ end ∷ []) place → IsCandidateAt role own entries place × IsTaken entries score (end + 1) place
      there place at = elim (Contains-push_cases places end place at) [
        | inl earlier ↦ let old = (so_far.candidates place).0 earlier in (old.0, taken_later score end place old.1)
        | inr is ↦ (subst (IsCandidateAt role own entries) is candidate, inr (ap (score_at entries) (sym is) ∙ same, omega arith))
      ]

      back : (place : ℕ) → IsCandidateAt role own entries place × IsTaken entries score (end + 1) place → Contains (places ++ end ∷ []) place
      back place (is_candidate, taken) = elim (taken_cases score end place taken) [
        | inl earlier ↦ Contains-append_left places (end ∷ []) place ((so_far.candidates place).1 (is_candidate, earlier))
        | inr (is, _) ↦ subst (Contains (places ++ end ∷ [])) (sym is) (Contains-push places end)
      ]

      behind : (place : ℕ) → Contains places place → StandsBefore role entries place end
      behind place at = let old = (so_far.candidates place).0 at in elim old.1 [
        | inl above ↦ inl (omega arith)
        | inr (level, below) ↦ inr (omega arith, inr (same_query_at role own entries place end old.0 candidate (omega arith), below))
      ]

  -- a place that is no candidate of the score is passed over
  pub ranked_skip : (score end : ℕ) (places : List ℕ) → IsRankedTo role own entries score end places
      → (IsCandidateAt role own entries end → score_at entries end ≡ score → ⊥) → IsRankedTo role own entries score (end + 1) places
  ranked_skip score end places so_far none = record { candidates = λ place. (there place, back place); order = so_far.order }
    where
      there : (place : ℕ) → Contains places place → IsCandidateAt role own entries place × IsTaken entries score (end + 1) place
      there place at = let old = (so_far.candidates place).0 at in (old.0, taken_later score end place old.1)

      back : (place : ℕ) → IsCandidateAt role own entries place × IsTaken entries score (end + 1) place → Contains places place
      back place (is_candidate, taken) = elim (taken_cases score end place taken) [
        | inl earlier ↦ (so_far.candidates place).1 (is_candidate, earlier)
        | inr (is, same) ↦ absurd (none (subst (IsCandidateAt role own entries) is is_candidate) (ap (score_at entries) (sym is) ∙ same))
      ]

  -- after the whole list comes the next lower score
  pub ranked_lower : (score : ℕ) (places : List ℕ) → IsRankedTo role own entries (score + 1) (length entries) places → IsRankedTo role own entries score 0 places
  ranked_lower score places so_far = record { candidates = λ place. (there place, back place); order = so_far.order }
    where
      there : (place : ℕ) → Contains places place → IsCandidateAt role own entries place × IsTaken entries score 0 place
      there place at = let old = (so_far.candidates place).0 at in (old.0, inl (elim old.1 [ inl above ↦ omega arith | inr (level, _) ↦ omega arith ]))

      back : (place : ℕ) → IsCandidateAt role own entries place × IsTaken entries score 0 place → Contains places place
      back place (is_candidate, inr (level, below)) = absurd (omega arith)
      back place (is_candidate, inl above) = (so_far.candidates place).1 (
        is_candidate,
        elim (cases_lt (score + 1) (score_at entries place)) [
          | inl higher ↦ inl higher
          | inr level ↦ inr (omega arith, within_list role own entries place is_candidate)
        ],
      )

  -- no score is above 15
  pub ranked_none : IsRankedTo role own entries 16 (length entries) []
  ranked_none = record { candidates = λ place. (λ at. let none = at.1 in absurd (omega arith), back place); order = λ i j d lt within. absurd (omega arith) }
    where
      back : (place : ℕ) → IsCandidateAt role own entries place × IsTaken entries 16 (length entries) place → Contains [] place
      back place (is_candidate, taken) = let most = score_at_most entries place in absurd (elim taken [ inl above ↦ omega arith | inr (level, _) ↦ omega arith ])

  -- after the least score the ranking is whole
  pub ranked_whole : (places : List ℕ) → IsRankedTo role own entries 0 (length entries) places → IsRanked role own entries places
  ranked_whole places so_far = record { candidates = λ place. (λ at. ((so_far.candidates place).0 at).0, back place); order = so_far.order }
    where
      back : (place : ℕ) → IsCandidateAt role own entries place → Contains places place
      back place is_candidate = (so_far.candidates place).1 (
        is_candidate,
        elim (cases_lt 0 (score_at entries place)) [
          | inl above ↦ inl above
          | inr level ↦ inr (omega arith, within_list role own entries place is_candidate)
        ],
      )

  -- any two rankings are one
  pub one_ranking : (places others : List ℕ) → IsRanked role own entries places → IsRanked role own entries others → others ≡ places
  one_ranking places others ranked also =
      one_order (StandsBefore role entries) (stand_apart role entries) others places also.order ranked.order
      (λ place at. (ranked.candidates place).1 ((also.candidates place).0 at)) (λ place at. (also.candidates place).1 ((ranked.candidates place).0 at))

  -- the first so far is kept where the next score is not above its own
  pub first_kept : (end place : ℕ) → IsFirstBelow role own entries end place → IsCandidateAt role own entries end
      → score_at entries end ≤ score_at entries place → IsFirstBelow role own entries (end + 1) place
  first_kept end place so_far candidate low = record { below = let below = so_far.below in omega arith; candidate = so_far.candidate; before = before }
    where
      behind : StandsBefore role entries place end
      behind = elim (cases_lt (score_at entries end) (score_at entries place)) [
        | inl lower ↦ inl lower
        | inr level ↦ let below = so_far.below in
            inr (omega arith, inr (same_query_at role own entries place end so_far.candidate candidate (omega arith), below))
      ]

      before : (other : ℕ) → other < end + 1 → IsCandidateAt role own entries other → other ≢ place → StandsBefore role entries place other
      before other within is_candidate apart = elim (cases_lt other end) [
        | inl earlier ↦ so_far.before other earlier is_candidate apart
        | inr at_end ↦ let e : end ≡ other = omega arith in subst (StandsBefore role entries place) e behind
      ]

  -- the next place is the first where its score is above that of the first so far
  pub first_replaced : (end place : ℕ) → IsFirstBelow role own entries end place → IsCandidateAt role own entries end
      → score_at entries place < score_at entries end → IsFirstBelow role own entries (end + 1) end
  first_replaced end place so_far candidate high = record { below = omega arith; candidate = candidate; before = before }
    where
      before : (other : ℕ) → other < end + 1 → IsCandidateAt role own entries other → other ≢ end → StandsBefore role entries end other
      before other within is_candidate apart = elim (cases_eq other place) [
        | inl same ↦ let level = ap (score_at entries) same in inl (omega arith)
        | inr differs ↦ elim (so_far.before other (omega (arith, apart)) is_candidate differs) [
          | inl higher ↦ inl (omega arith)
          | inr (level, rest) ↦ inl (omega arith)
        ]
      ]

  -- the first of all stands at the front of the ranking
  pub best_is_front : (end : ℕ) (best : Option ℕ) (places : List ℕ) → length entries ≤ end → IsBestBelow role own entries end best
      → IsRanked role own entries places → best ≡ slice_get places 0
  best_is_front end None [] whole none ranked = refl
  best_is_front end None (place ∷ places) whole none ranked =
      let candidate = (ranked.candidates place).0 (Contains-head place places) in
      let within = within_list role own entries place candidate in
      absurd (none place (omega arith) candidate)
  best_is_front end (Some best) [] whole first ranked = let none = ((ranked.candidates best).1 first.candidate).1 in absurd (omega arith)
  best_is_front end (Some best) (place ∷ places) whole first ranked =
      let candidate = (ranked.candidates place).0 (Contains-head place places) in
      let within = within_list role own entries place candidate in
      elim (cases_eq place best) [
        | inl same ↦ ap Some (sym same)
        | inr apart ↦ elim (Contains-cons_cases place places best ((ranked.candidates best).1 first.candidate)) [
          | inl same ↦ ap Some (sym same)
          | inr later ↦ absurd (stand_apart role entries best place (first.before place (omega arith) candidate apart)
              (AllPairs-head (StandsBefore role entries) place places best ranked.order later))
        ]
      ]
