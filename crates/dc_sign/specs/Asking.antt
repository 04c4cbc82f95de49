-- What was decided of a request that was read.
use Rattle.std.specs.Prelude.{◌≡◌, ℕ, List, Option, Some, None, Result, Ok, Err, ⊤}
use Rattle.key_book.specs.declared.account.Account.{Account}
use Rattle.key_book.specs.AccountBook.{key_of}
use Rattle.dc_sign.specs.declared.keys.Asked.{Asked}
use Rattle.dc_sign.specs.declared.outcome.Refusal.{Refusal}
use Rattle.dc_sign.specs.Reply.{first_refusal}

-- the key that was asked for, and none where none was
abbrev pub IsKeyFor : List Account → Option Asked → Option (List ℕ) → Type 0
IsKeyFor accounts None None = ⊤
IsKeyFor accounts None (Some key) = ⊥
IsKeyFor accounts (Some asked) None = ⊥
IsKeyFor accounts (Some asked) (Some key) = key_of accounts asked.rid asked.old ≡ Some key

-- the key that a request of this version and mode asks for, or the first refusal that applies
abbrev pub Decides : List Account → ℕ → ℕ → Option Asked → Result (Option (List ℕ)) Refusal → Type 0
Decides accounts version mode asked (Ok key) = (first_refusal accounts version mode asked ≡ None) × IsKeyFor accounts asked key
Decides accounts version mode asked (Err reason) = first_refusal accounts version mode asked ≡ Some reason
