-- Accounts that stand at their numbers.
use Rattle.std.proofs.Common.{◌≡◌, ◌≢◌, ◌==◌, ℕ, Bool, cond, List, [], ◌∷◌, ◌++◌, Option, Some, None, refl, ◌∙◌, ap}
use Rattle.std.specs.Prelude.{IsNone, nat_eq}
use Rattle.std.specs.List.{AllByRecursion}
use Rattle.std.specs.Cmp.{nat_eq_equiv}
use Rattle.std.specs.Map.{lookup, values_of}
use Rattle.std.proofs.lemmas.List.Elements.{recursion_from_All, All-push}
use Rattle.std.proofs.lemmas.List.Quantifiers.{all_pairs_push}
use Rattle.indexmap.specs.IndexMap.{IndexMap, insert_entry}
use Rattle.indexmap.proofs.CallerLemmas.{insert_entry-new}
use Rattle.key_book.specs.declared.account.Account.{Account}
use Rattle.key_book.specs.AccountBook.{account_of, NoneHas}
use Rattle.key_book.specs.Book.{AreKeyed, IsAccount, IsBook}
use Rattle.key_book.proofs.Finding.{missing}

-- an account at its number
abbrev IsKeyed : ℕ × Account → Type 0
IsKeyed entry = entry.0 ≡ entry.1.rid

keyed : (entries : List (ℕ × Account)) (rid : ℕ) → AllByRecursion IsKeyed entries
    → lookup (nat_eq rid) entries ≡ account_of (values_of entries) rid
keyed [] rid all = refl
keyed (e ∷ es) rid all =
    let test : nat_eq rid e.0 ≡ (e.1.rid == rid) = ap (nat_eq rid) all.0 ∙ nat_eq_equiv.symm rid e.1.rid in
    let more = keyed es rid all.1 in
    λ i. cond (test i) (Some e.1) (more i)

-- a look-up by a number finds the account with this number
pub looked_up : (entries : List (ℕ × Account)) (rid : ℕ) → AreKeyed entries
    → lookup (nat_eq rid) entries ≡ account_of (values_of entries) rid
looked_up entries rid all = keyed entries rid (recursion_from_All IsKeyed entries all)

is_none : (o : Option Account) → IsNone o → o ≡ None
is_none None none = refl
is_none (Some account) none = absurd (cc none)

-- an account with a new number stands behind the others
pub grown : {S : Type 0} (map : IndexMap ℕ Account S) (account : Account) → AreKeyed map.entries
    → NoneHas (values_of map.entries) account.rid
    → insert_entry nat_eq map.entries account.rid account ≡ map.entries ++ (account.rid, account) ∷ []
grown map account all none =
    let rid = account.rid in
    insert_entry-new nat_eq map rid account (looked_up map.entries rid all ∙ is_none _ ((missing (values_of map.entries) rid).1 none))

pub values_more : (entries : List (ℕ × Account)) (rid : ℕ) (account : Account)
    → values_of (entries ++ (rid, account) ∷ []) ≡ values_of entries ++ account ∷ []
values_more [] rid account = refl
values_more (e ∷ es) rid account = ap (λ (l : List Account). e.1 ∷ l) (values_more es rid account)

-- what a map of accounts keeps
abbrev pub IsKept : List (ℕ × Account) → Type 0
IsKept entries = IsBook (values_of entries) × AreKeyed entries

-- it still does with an account of a new number
pub kept_more : (entries : List (ℕ × Account)) (account : Account) → IsKept entries → IsAccount account
    → NoneHas (values_of entries) account.rid → IsKept (entries ++ (account.rid, account) ∷ [])
kept_more entries account kept fits none =
    let accounts = values_of entries in
    let book : IsBook (accounts ++ account ∷ []) = record {
      fit = All-push IsAccount accounts account kept.0.fit fits;
      distinct = all_pairs_push (λ (a b : Account). a.rid ≢ b.rid) accounts account kept.0.distinct none;
    } in
    (rw (values_more entries account.rid account) book, All-push IsKeyed entries (account.rid, account) kept.1 refl)
