-- Names of entries.
use Rattle.std.specs.Prelude.{◌≡◌, ◌≢◌, ℕ, List, AllPairs, Any}
use Rattle.partner_pick.specs.declared.entry.Entry.{Entry}

-- no two entries have one name
abbrev pub AreDistinct : List Entry → Type 0
AreDistinct entries = AllPairs (λ a b. a.name ≢ b.name) entries

-- an entry has this name
abbrev pub HasName : List Entry → List ℕ → Type 0
HasName entries name = Any (λ e. e.name ≡ name) entries
