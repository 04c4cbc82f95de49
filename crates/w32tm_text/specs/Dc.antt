-- The lines with which `/dc` ends.
use Rattle.std.specs.Prelude.{ℕ, List, [], ◌∷◌, ◌++◌, codes, decimal, slice_index}
use Rattle.dc_sign.specs.Numbers.{place_of}
use Rattle.dc_sign.specs.declared.outcome.Refusal.{Refusal}
use Rattle.dc_sign.specs.declared.outcome.Refusal.TheVariants.{BadLength, BadVersion, BadMode, UnknownAccount, NoOldKey}
use Rattle.dc_sign.specs.declared.tally.ServeEnd.{ServeEnd}

-- how many requests were refused for a reason
abbrev pub refused_for : Refusal → ServeEnd → ℕ
refused_for reason e = slice_index e.refused (place_of reason)

-- the replies, signed and plain
unfoldable pub replies_line : ServeEnd → List ℕ
replies_line e =
    codes "signed=" ++ decimal e.signed
    ++ codes " plain=" ++ decimal e.plain
    ++ 10 ∷ []

-- the refused requests, by their reasons
unfoldable pub refused_line : ServeEnd → List ℕ
refused_line e =
    codes "refused BadLength=" ++ decimal (refused_for BadLength e)
    ++ codes " BadVersion=" ++ decimal (refused_for BadVersion e)
    ++ codes " BadMode=" ++ decimal (refused_for BadMode e)
    ++ codes " UnknownAccount=" ++ decimal (refused_for UnknownAccount e)
    ++ codes " NoOldKey=" ++ decimal (refused_for NoOldKey e)
    ++ 10 ∷ []

-- what the link did
unfoldable pub link_line : ServeEnd → List ℕ
link_line e =
    codes "link quiet=" ++ decimal e.quiet
    ++ codes " lost=" ++ decimal e.lost
    ++ codes " unsent=" ++ decimal e.unsent
    ++ 10 ∷ []

-- the three lines
abbrev pub dc_lines : ServeEnd → List (List ℕ)
dc_lines e = replies_line e ∷ refused_line e ∷ link_line e ∷ []
