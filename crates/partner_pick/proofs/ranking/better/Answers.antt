use Rattle.std.proofs.Common.{◌≡◌, ◌≤◌, ◌<◌, ℕ, true, false, inl, inr, refl, arith}
use Rattle.std.proofs.lemmas.Bool.{cases_lt}
use Rattle.partner_pick.specs.Queries.{score_of}
use Rattle.partner_pick.specs.Ranking.{score_at}
use Rattle.partner_pick.proofs.Ranks.{candidate_at, score_at-entry}
use Rattle.partner_pick.proofs.Steps.{first_kept, first_replaced}
use Rattle.partner_pick.proofs.ranking.better.Goals as goal

-- what is not at most a number is above it
not_low : (a b : ℕ) → (b ≤ a → false ≡ true) → a < b
not_low a b never = elim (cases_lt a b) [ inl high ↦ high | inr low ↦ let wrong = never low in absurd (cc wrong) ]

pub returns-then-stays_first : goal.returns-then-stays_first
returns-then-stays_first c =
    let entries = c.args.directory.now in
    let here = score_at-entry entries c.args.place c.at-entry.result.now c.at-entry.ensures in
    let low : score_of c.at-entry.result.now ≤ score_at entries c.in-Some.first = c.if-stays_first.ensures.0 refl in
    first_kept c.args.role c.args.own.now entries c.args.place c.in-Some.first
    (rw c.in-Some.is at c.requires.so_far)
    (candidate_at c.args.role c.args.own.now entries c.args.place c.at-entry.result.now c.at-entry.ensures (c.if-not-is_candidate.ensures.0 refl))
    (omega arith)

pub returns-else-stays_first : goal.returns-else-stays_first
returns-else-stays_first c =
    let entries = c.args.directory.now in
    let here = score_at-entry entries c.args.place c.at-entry.result.now c.at-entry.ensures in
    let high : score_at entries c.in-Some.first < score_of c.at-entry.result.now = not_low _ _ c.if-stays_first.ensures.1 in
    first_replaced c.args.role c.args.own.now entries c.args.place c.in-Some.first
    (rw c.in-Some.is at c.requires.so_far)
    (candidate_at c.args.role c.args.own.now entries c.args.place c.at-entry.result.now c.at-entry.ensures (c.if-not-is_candidate.ensures.0 refl))
    (omega arith)
