use Rattle.std.proofs.Common.{ℕ, List, sym, subst, slice_index_or}
use Rattle.std.proofs.lemmas.List.Elements.{Contains-get_or}
use Rattle.partner_pick.specs.Ranking.{IsRanked}
use Rattle.w32tm_text.proofs.Confs.{stands_within}
use Rattle.w32tm_text.proofs.conf.partners_of.Goals as goal

pub addresses_at-requires : goal.addresses_at-requires
addresses_at-requires c k d within =
    let s = c.args.settings.now in
    let places = c.deref.result.now in
    let ranked = subst (λ (l : List ℕ). IsRanked s.role s.name s.directory l) (sym c.deref.ensures.value) c.in_ok-places.ensures.ranked in
    stands_within s.role s.name s.directory _ ((ranked.candidates (slice_index_or places k d)).0 (Contains-get_or places k d within))
