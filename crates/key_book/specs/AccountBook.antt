-- Accounts in their order, and the keys that stand in them.
use Rattle.std.specs.Prelude.{◌≢◌, ◌==◌, ℕ, List, All, Bool, true, false, Option, Some, find, option_and_then}
use Rattle.key_book.specs.declared.account.Account.{Account}

-- the account with this RID: the first of those that have it
abbrev pub account_of : List Account → ℕ → Option Account
account_of accounts rid = find (λ (account : Account). account.rid == rid) accounts

-- no account has this RID
abbrev pub NoneHas : List Account → ℕ → Type 0
NoneHas accounts rid = All (λ (account : Account). account.rid ≢ rid) accounts

-- the previous key of an account where the old one is asked for, and its current key where it isn't
abbrev pub key_in : Account → Bool → Option (List ℕ)
key_in account true = account.previous
key_in account false = Some account.current

-- the old or the current key of the account with this RID; none where there is no such account or no such key
abbrev pub key_of : List Account → ℕ → Bool → Option (List ℕ)
key_of accounts rid old = option_and_then (λ (account : Account). key_in account old) (account_of accounts rid)
