-- What a book holds.
use Rattle.std.specs.Prelude.{◌≡◌, ◌≢◌, ◌<◌, ◌^◌, ℕ, List, length, slice_index, All, AllPairs, IfSome}
use Rattle.key_book.specs.declared.account.Account.{Account}

-- the 16 bytes of a key
pub record IsKey (key : List ℕ) : Type 0 where
  pub long : length key ≡ 16
  pub bytes : (i : ℕ) → slice_index key i < 256

-- a number of 32 bits, and keys
pub record IsAccount (account : Account) : Type 0 where
  pub rid : account.rid < 2 ^ 32
  pub current : IsKey account.current
  pub previous : IfSome account.previous IsKey

-- what a book holds: accounts with distinct numbers
pub record IsBook (accounts : List Account) : Type 0 where
  pub fit : All IsAccount accounts
  pub distinct : AllPairs (λ (a b : Account). a.rid ≢ b.rid) accounts

-- each account stands at its own number
abbrev pub AreKeyed : List (ℕ × Account) → Type 0
AreKeyed entries = All (λ (entry : ℕ × Account). entry.0 ≡ entry.1.rid) entries
