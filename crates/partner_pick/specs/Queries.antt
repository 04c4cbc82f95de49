-- The queries that a computer asks a directory, and the score of an entry.
use Rattle.std.specs.Prelude.{ℕ, ◌+◌, ◌-◌, Bool, not, ◌&&◌, ◌==◌, if◌then◌else◌, [], ◌∷◌, find, Option}
use Rattle.partner_pick.specs.declared.entry.Entry.{Entry}
use Rattle.partner_pick.specs.declared.entry.Role.{Role}
use Rattle.partner_pick.specs.declared.entry.Role.TheVariants.{Member, Controller, Pdc}

-- Of the three queries of a controller, 1 asks for the parent domain, 2 for a reliable source of the own
-- domain, and 3 for the own domain's PDC emulator.
abbrev pub has_flags : ℕ → Entry → Bool
has_flags query e =
    if query == 1 then e.parent
    else (if query == 2 then not e.parent && e.reliable else query == 3 && not e.parent && e.pdc)

-- A controller asks its three queries in its site, and then, as 4, 5 and 6, out of it.
abbrev pub matches_in_turn : ℕ → Entry → Bool
matches_in_turn query e = if e.in_site then has_flags query e else has_flags (query - 3) e

-- A member's first query asks for its own domain in its site, and the second out of it. The PDC emulator
-- asks what a controller asks, but skips 3 and 6.
abbrev pub matches_query : Role → ℕ → Entry → Bool
matches_query Member query e = not e.parent && (if e.in_site then query == 1 else query == 2)
matches_query Controller query e = matches_in_turn query e
matches_query Pdc query e = not (query == 3) && not (query == 6) && matches_in_turn query e

-- the lowest query of the role that an entry matches
abbrev pub first_query : Role → Entry → Option ℕ
first_query role e = find (λ query. matches_query role query e) (1 ∷ 2 ∷ 3 ∷ 4 ∷ 5 ∷ 6 ∷ [])

-- so many points for a flag that is set
abbrev pub points : ℕ → Bool → ℕ
points worth flag = if flag then worth else 0

-- 8 in the site, 4 for a reliable source, 2 for the parent domain, 1 for a PDC emulator
abbrev pub score_of : Entry → ℕ
score_of e = points 8 e.in_site + points 4 e.reliable + points 2 e.parent + points 1 e.pdc
