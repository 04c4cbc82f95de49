-- What lines said, one line further.
use Rattle.std.proofs.Common.{◌≡◌, ◌⊎◌, inl, inr, ℕ, zero, suc, true, List, [], ◌∷◌, ◌++◌, Option, Some, None, refl, sym, ◌∙◌, ap, subst, arith, append-nil}
use Rattle.std.specs.Prelude.{IfSome, IsSomeAnd, Contains, filter_map, is_some}
use Rattle.std.specs.List.{Any, cons_option}
use Rattle.std.proofs.lemmas.List.Elements.{filter_map-append}
use Rattle.key_book.specs.declared.account.Account.{Account}
use Rattle.key_book.specs.AccountBook.{NoneHas}
use Rattle.partner_pick.specs.declared.entry.Entry.{Entry}
use Rattle.partner_pick.specs.Names.{HasName}
use Rattle.w32t_settings.specs.declared.draft.Draft.{Draft}
use Rattle.w32t_settings.specs.declared.setting.Setting.{Setting}
use Rattle.w32t_settings.specs.SettingText.{Item, account, computer, setting, label, Repeats}
use Rattle.w32t_settings.specs.Values.{account_in, computer_in, setting_in, accounts_of, computers_of, settings_of}
use Rattle.w32t_settings.specs.Progress.{Holds}

module _ {X : Type 0} (P : X → Type 0) where
  any_head : (x : X) (xs : List X) → P x → Any P (x ∷ xs)
  any_head x xs p = (0, x, omega arith, refl, p)

  any_tail : (x : X) (xs : List X) → Any P xs → Any P (x ∷ xs)
  any_tail x xs (k, y, within, is, p) = (suc k, y, omega arith, is, p)

  any_cases : (x : X) (xs : List X) → Any P (x ∷ xs) → P x ⊎ Any P xs
  any_cases x xs (zero, y, within, is, p) = inl (subst P (sym is) p)
  any_cases x xs (suc k, y, within, is, p) = inr (k, y, omega arith, is, p)

  any_none : Any P [] → ⊥
  any_none (k, y, within, is, p) = omega arith

  found_now : (o : Option X) (xs : List X) → IsSomeAnd o P → Any P (cons_option o xs)
  found_now None xs h = absurd h
  found_now (Some x) xs h = any_head x xs h

  found_later : (o : Option X) (xs : List X) → Any P xs → Any P (cons_option o xs)
  found_later None xs h = h
  found_later (Some x) xs h = any_tail x xs h

  found_cases : (o : Option X) (xs : List X) → Any P (cons_option o xs) → IsSomeAnd o P ⊎ Any P xs
  found_cases None xs h = inr h
  found_cases (Some x) xs h = any_cases x xs h

-- an item of one kind is found among the items where it is found among those of its kind
module _ {X : Type 0} (f : Item → Option X) (P : X → Type 0) (R : Item → Type 0) where
  any_of_kind : ((x : Item) → R x → IsSomeAnd (f x) P) → (items : List Item) → Any R items → Any P (filter_map f items)
  any_of_kind leads [] any = absurd (any_none R any)
  any_of_kind leads (x ∷ xs) any =
      elim (any_cases R x xs any) [
        | inl here ↦ found_now P (f x) (filter_map f xs) (leads x here)
        | inr there ↦ found_later P (f x) (filter_map f xs) (any_of_kind leads xs there)
      ]

  any_of_all : ((x : Item) → IsSomeAnd (f x) P → R x) → (items : List Item) → Any P (filter_map f items) → Any R items
  any_of_all leads [] any = absurd (any_none P any)
  any_of_all leads (x ∷ xs) any =
      elim (found_cases P (f x) (filter_map f xs) any) [
        | inl here ↦ any_head R x xs (leads x here)
        | inr there ↦ any_tail R x xs (any_of_all leads xs there)
      ]

-- an account repeats another exactly where the accounts have its RID
account_leads : (a : Account) (x : Item) → Repeats x (account a) → IsSomeAnd (account_in x) (λ b. b.rid ≡ a.rid)
account_leads a (account b) h = h
account_leads a (computer b) h = absurd h
account_leads a (setting b) h = absurd h

account_back : (a : Account) (x : Item) → IsSomeAnd (account_in x) (λ b. b.rid ≡ a.rid) → Repeats x (account a)
account_back a (account b) h = h
account_back a (computer b) h = absurd h
account_back a (setting b) h = absurd h

pub account_repeats : (a : Account) (items : List Item) → Any (λ (b : Account). b.rid ≡ a.rid) (accounts_of items) → Any (λ x. Repeats x (account a)) items
account_repeats a items any = any_of_all account_in (λ (b : Account). b.rid ≡ a.rid) (λ x. Repeats x (account a)) (account_back a) items any

pub account_fresh : (a : Account) (items : List Item) → NoneHas (accounts_of items) a.rid → Any (λ x. Repeats x (account a)) items → ⊥
account_fresh a items none again =
    let any = any_of_kind account_in (λ (b : Account). b.rid ≡ a.rid) (λ x. Repeats x (account a)) (account_leads a) items again in
    let other = none any.0 any.1 any.2 in
    let differs = rw any.3 at other in
    differs any.4

-- a computer, by its name
computer_leads : (e : Entry) (x : Item) → Repeats x (computer e) → IsSomeAnd (computer_in x) (λ b. b.name ≡ e.name)
computer_leads e (account b) h = absurd h
computer_leads e (computer b) h = h
computer_leads e (setting b) h = absurd h

computer_back : (e : Entry) (x : Item) → IsSomeAnd (computer_in x) (λ b. b.name ≡ e.name) → Repeats x (computer e)
computer_back e (account b) h = absurd h
computer_back e (computer b) h = h
computer_back e (setting b) h = absurd h

pub computer_repeats : (e : Entry) (items : List Item) → HasName (computers_of items) e.name → Any (λ x. Repeats x (computer e)) items
computer_repeats e items any = any_of_all computer_in (λ (b : Entry). b.name ≡ e.name) (λ x. Repeats x (computer e)) (computer_back e) items any

pub computer_fresh : (e : Entry) (items : List Item) → (HasName (computers_of items) e.name → ⊥) → Any (λ x. Repeats x (computer e)) items → ⊥
computer_fresh e items none again =
    none (any_of_kind computer_in (λ (b : Entry). b.name ≡ e.name) (λ x. Repeats x (computer e)) (computer_leads e) items again)

-- a setting, by its label
setting_leads : (s : Setting) (x : Item) → Repeats x (setting s) → IsSomeAnd (setting_in x) (λ b. label b ≡ label s)
setting_leads s (account b) h = absurd h
setting_leads s (computer b) h = absurd h
setting_leads s (setting b) h = h

setting_back : (s : Setting) (x : Item) → IsSomeAnd (setting_in x) (λ b. label b ≡ label s) → Repeats x (setting s)
setting_back s (account b) h = absurd h
setting_back s (computer b) h = absurd h
setting_back s (setting b) h = h

pub setting_repeats : (s : Setting) (items : List Item) → Any (λ b. label b ≡ label s) (settings_of items) → Any (λ x. Repeats x (setting s)) items
setting_repeats s items any = any_of_all setting_in (λ b. label b ≡ label s) (λ x. Repeats x (setting s)) (setting_back s) items any

pub setting_fresh : (s : Setting) (items : List Item) → (Any (λ b. label b ≡ label s) (settings_of items) → ⊥) → Any (λ x. Repeats x (setting s)) items → ⊥
setting_fresh s items none again =
    none (any_of_kind setting_in (λ b. label b ≡ label s) (λ x. Repeats x (setting s)) (setting_leads s) items again)

-- what is kept, with one more account, computer or setting
pub holds_account : (items : List Item) (a : Account) (old new : Draft) → Holds items old → new.book ≡ old.book ++ a ∷ [] → new.directory ≡ old.directory
    → new.settings.items ≡ old.settings.items → Holds (items ++ account a ∷ []) new
holds_account items a old new h book directory settings = record {
  book = book ∙ ap (λ l. l ++ a ∷ []) h.book ∙ sym (filter_map-append account_in items (account a ∷ []));
  directory = directory ∙ h.directory ∙ sym (filter_map-append computer_in items (account a ∷ []) ∙ append-nil (computers_of items));
  settings = settings ∙ h.settings ∙ sym (filter_map-append setting_in items (account a ∷ []) ∙ append-nil (settings_of items));
}

pub holds_computer : (items : List Item) (e : Entry) (old new : Draft) → Holds items old → new.book ≡ old.book → new.directory ≡ old.directory ++ e ∷ []
    → new.settings.items ≡ old.settings.items → Holds (items ++ computer e ∷ []) new
holds_computer items e old new h book directory settings = record {
  book = book ∙ h.book ∙ sym (filter_map-append account_in items (computer e ∷ []) ∙ append-nil (accounts_of items));
  directory = directory ∙ ap (λ l. l ++ e ∷ []) h.directory ∙ sym (filter_map-append computer_in items (computer e ∷ []));
  settings = settings ∙ h.settings ∙ sym (filter_map-append setting_in items (computer e ∷ []) ∙ append-nil (settings_of items));
}

pub holds_setting : (items : List Item) (s : Setting) (old new : Draft) → Holds items old → new.book ≡ old.book → new.directory ≡ old.directory
    → new.settings.items ≡ old.settings.items ++ s ∷ [] → Holds (items ++ setting s ∷ []) new
holds_setting items s old new h book directory settings = record {
  book = book ∙ h.book ∙ sym (filter_map-append account_in items (setting s ∷ []) ∙ append-nil (accounts_of items));
  directory = directory ∙ h.directory ∙ sym (filter_map-append computer_in items (setting s ∷ []) ∙ append-nil (computers_of items));
  settings = settings ∙ ap (λ l. l ++ s ∷ []) h.settings ∙ sym (filter_map-append setting_in items (setting s ∷ []));
}

-- what was found is there
pub found_any : (o : Option Account) (accounts : List Account) (rid : ℕ) → is_some o ≡ true
    → IfSome o (λ (a : Account). Contains accounts a × (a.rid ≡ rid)) → Any (λ (a : Account). a.rid ≡ rid) accounts
found_any None accounts rid some h = absurd (cc some)
found_any (Some a) accounts rid some h = (h.0.0, a, h.0.1, h.0.2, h.1)
