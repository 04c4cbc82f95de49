-- What was found in a list of accounts, or not found.
use Rattle.std.proofs.Common.{◌≡◌, ◌≢◌, ◌==◌, ℕ, zero, suc, Bool, true, false, cond, List, [], ◌∷◌, Option, Some, None, refl, eq-eqb, arith, rules}
use Rattle.std.proofs.lemmas.Bool.{eqb-true}
use Rattle.std.specs.Prelude.{Contains, IfSome, IsNone, ◌↔◌}
use Rattle.key_book.specs.declared.account.Account.{Account}
use Rattle.key_book.specs.AccountBook.{account_of, NoneHas}

-- what a look-up says of what it found
abbrev IsFound : List Account → ℕ → Account → Type 0
IsFound accounts rid account = Contains accounts account × (account.rid ≡ rid)

further : (x : Account) (xs : List Account) (rid : ℕ) (o : Option Account) → IfSome o (IsFound xs rid) → IfSome o (IsFound (x ∷ xs) rid)
further x xs rid None h = h
further x xs rid (Some account) h = ((suc h.0.0, omega arith, h.0.2), h.1)

found_first : (x : Account) (xs : List Account) (rid : ℕ) (is : Bool) → (x.rid == rid) ≡ is → IfSome (account_of xs rid) (IsFound xs rid)
    → IfSome (cond is (Some x) (account_of xs rid)) (IsFound (x ∷ xs) rid)
found_first x xs rid true same h = ((0, omega arith, refl), eqb-true x.rid rid same)
found_first x xs rid false other h = further x xs rid (account_of xs rid) h

-- what is found is an account of the list, and has the RID
pub found : (accounts : List Account) (rid : ℕ) → IfSome (account_of accounts rid) (λ (account : Account). Contains accounts account × (account.rid ≡ rid))
found [] rid = search rules
found (x ∷ xs) rid = found_first x xs rid (x.rid == rid) refl (found xs rid)

none_more : (x : Account) (xs : List Account) (rid : ℕ) → x.rid ≢ rid → NoneHas xs rid → NoneHas (x ∷ xs) rid
none_more x xs rid other none zero d within = other
none_more x xs rid other none (suc k) d within = none k d (omega arith)

missing_first : (x : Account) (xs : List Account) (rid : ℕ) (is : Bool) → (x.rid == rid) ≡ is → (IsNone (account_of xs rid) ↔ NoneHas xs rid)
    → IsNone (cond is (Some x) (account_of xs rid)) ↔ NoneHas (x ∷ xs) rid
missing_first x xs rid true same h = ((λ none. absurd cc), (λ none. absurd (none 0 x (omega arith) (eqb-true x.rid rid same))))
missing_first x xs rid false other h =
    let differs : x.rid ≢ rid = λ e. let test = eq-eqb x.rid rid e in absurd cc in
    ((λ none. none_more x xs rid differs (h.0 none)), (λ none. h.1 (λ k d within. none (suc k) d (omega arith))))

-- nothing is found exactly where no account has the RID
pub missing : (accounts : List Account) (rid : ℕ) → IsNone (account_of accounts rid) ↔ NoneHas accounts rid
missing [] rid = search rules
missing (x ∷ xs) rid = missing_first x xs rid (x.rid == rid) refl (missing xs rid)
