-- What stands before the `=` of a setting, and that a line says one thing.
use Rattle.std.proofs.Common.{◌≡◌, ◌<◌, ◌^◌, ℕ, true, false, List, ◌∷◌, ◌++◌, get_or, refl, sym, ◌∙◌, ap, arith, eq-eqb}
use Rattle.std.specs.Prelude.{◌==◌, codes, nat_eq}
use Rattle.std.specs.List.{list_any, starts_with}
use Rattle.std.specs.Str.{bytes_eq}
use Rattle.std.proofs.lemmas.Fmt.{decimal_injective}
use Rattle.std.proofs.lemmas.Slice.Eq.{bytes_eq-Decides}
use Rattle.std.proofs.lemmas.List.Folds.{list_any_at}
use Rattle.text_grammar.specs.Bytes.{HasNo}
use Rattle.text_grammar.proofs.Cuts.{one_cut}
use Rattle.text_grammar.proofs.Forms.{SaysOne}
use Rattle.ms_auth.specs.declared.packet.Kind.{Kind}
use Rattle.ms_auth.specs.declared.packet.Kind.TheVariants.{Short, Extended}
use Rattle.key_book.specs.AccountText.{SpellsAccount}
use Rattle.key_book.specs.declared.account.Account.{Account}
use Rattle.key_book.proofs.Parsings.{one_account}
use Rattle.partner_pick.specs.ComputerText.{SpellsEntry}
use Rattle.partner_pick.specs.declared.entry.Entry.{Entry}
use Rattle.partner_pick.specs.declared.entry.Role.{Role}
use Rattle.partner_pick.specs.declared.entry.Role.TheVariants.{Member, Controller, Pdc}
use Rattle.partner_pick.proofs.Parsings.{one_entry}
use Rattle.w32t_settings.specs.declared.setting.Number.{Number}
use Rattle.w32t_settings.specs.declared.setting.Number.TheVariants.{MaxPosPhaseCorrection, MaxNegPhaseCorrection, MaxAllowedPhaseOffset, MinPollInterval, MaxPollInterval, AnnounceFlags}
use Rattle.w32t_settings.specs.declared.setting.Setting.{Setting}
use Rattle.w32t_settings.specs.declared.setting.Setting.TheVariants.{Name, Role as RoleIs, Rid, Auth, Number as NumberIs}
use Rattle.w32t_settings.specs.SettingText.{Item, account, computer, setting, label, number_label, role_text, kind_text, greatest, SpellsValue, SpellsSetting, SpellsItem, settings_text}

-- a byte that a test doesn't find isn't there
missing : (byte : ℕ) (xs : List ℕ) → list_any (λ x. x == byte) xs ≡ false → HasNo byte xs
missing byte xs none i within is =
    let found = list_any_at (λ x. x == byte) xs i 0 within (eq-eqb (get_or xs i 0) byte is) in
    absurd (cc (none, found))

-- texts that a test tells apart
apart : (xs ys : List ℕ) → bytes_eq xs ys ≡ false → xs ≡ ys → ⊥
apart xs ys differ same =
    let told = (bytes_eq-Decides xs ys).1 same in
    absurd (cc (differ, told))

number_no_equals : (number : Number) → HasNo 61 (number_label number)
number_no_equals MaxPosPhaseCorrection = missing 61 (codes "MaxPosPhaseCorrection") refl
number_no_equals MaxNegPhaseCorrection = missing 61 (codes "MaxNegPhaseCorrection") refl
number_no_equals MaxAllowedPhaseOffset = missing 61 (codes "MaxAllowedPhaseOffset") refl
number_no_equals MinPollInterval = missing 61 (codes "MinPollInterval") refl
number_no_equals MaxPollInterval = missing 61 (codes "MaxPollInterval") refl
number_no_equals AnnounceFlags = missing 61 (codes "AnnounceFlags") refl

-- no label has an equals sign in it
pub label_no_equals : (s : Setting) → HasNo 61 (label s)
label_no_equals (Name name) = missing 61 (codes "Name") refl
label_no_equals (RoleIs role) = missing 61 (codes "Role") refl
label_no_equals (Rid rid) = missing 61 (codes "Rid") refl
label_no_equals (Auth kind) = missing 61 (codes "Auth") refl
label_no_equals (NumberIs number value) = number_no_equals number

-- a label that is none of those that are asked for is no label
pub none_of_them : (s : Setting) (text : List ℕ) → text ≡ label s → (text ≡ codes "Name" → ⊥) → (text ≡ codes "Role" → ⊥)
    → (text ≡ codes "Rid" → ⊥) → (text ≡ codes "Auth" → ⊥) → ((number : Number) → text ≡ number_label number → ⊥) → ⊥
none_of_them (Name name) text is a b c d e = a is
none_of_them (RoleIs role) text is a b c d e = b is
none_of_them (Rid rid) text is a b c d e = c is
none_of_them (Auth kind) text is a b c d e = d is
none_of_them (NumberIs number value) text is a b c d e = e number is

-- labels tell numbers apart, and a number from other settings
pub one_number : (a b : Number) → number_label a ≡ number_label b → a ≡ b
one_number MaxPosPhaseCorrection MaxPosPhaseCorrection same = refl
one_number MaxPosPhaseCorrection MaxNegPhaseCorrection same = absurd (apart (codes "MaxPosPhaseCorrection") (codes "MaxNegPhaseCorrection") refl same)
one_number MaxPosPhaseCorrection MaxAllowedPhaseOffset same = absurd (apart (codes "MaxPosPhaseCorrection") (codes "MaxAllowedPhaseOffset") refl same)
one_number MaxPosPhaseCorrection MinPollInterval same = absurd (apart (codes "MaxPosPhaseCorrection") (codes "MinPollInterval") refl same)
one_number MaxPosPhaseCorrection MaxPollInterval same = absurd (apart (codes "MaxPosPhaseCorrection") (codes "MaxPollInterval") refl same)
one_number MaxPosPhaseCorrection AnnounceFlags same = absurd (apart (codes "MaxPosPhaseCorrection") (codes "AnnounceFlags") refl same)
one_number MaxNegPhaseCorrection MaxPosPhaseCorrection same = absurd (apart (codes "MaxNegPhaseCorrection") (codes "MaxPosPhaseCorrection") refl same)
one_number MaxNegPhaseCorrection MaxNegPhaseCorrection same = refl
one_number MaxNegPhaseCorrection MaxAllowedPhaseOffset same = absurd (apart (codes "MaxNegPhaseCorrection") (codes "MaxAllowedPhaseOffset") refl same)
one_number MaxNegPhaseCorrection MinPollInterval same = absurd (apart (codes "MaxNegPhaseCorrection") (codes "MinPollInterval") refl same)
one_number MaxNegPhaseCorrection MaxPollInterval same = absurd (apart (codes "MaxNegPhaseCorrection") (codes "MaxPollInterval") refl same)
one_number MaxNegPhaseCorrection AnnounceFlags same = absurd (apart (codes "MaxNegPhaseCorrection") (codes "AnnounceFlags") refl same)
one_number MaxAllowedPhaseOffset MaxPosPhaseCorrection same = absurd (apart (codes "MaxAllowedPhaseOffset") (codes "MaxPosPhaseCorrection") refl same)
one_number MaxAllowedPhaseOffset MaxNegPhaseCorrection same = absurd (apart (codes "MaxAllowedPhaseOffset") (codes "MaxNegPhaseCorrection") refl same)
one_number MaxAllowedPhaseOffset MaxAllowedPhaseOffset same = refl
one_number MaxAllowedPhaseOffset MinPollInterval same = absurd (apart (codes "MaxAllowedPhaseOffset") (codes "MinPollInterval") refl same)
one_number MaxAllowedPhaseOffset MaxPollInterval same = absurd (apart (codes "MaxAllowedPhaseOffset") (codes "MaxPollInterval") refl same)
one_number MaxAllowedPhaseOffset AnnounceFlags same = absurd (apart (codes "MaxAllowedPhaseOffset") (codes "AnnounceFlags") refl same)
one_number MinPollInterval MaxPosPhaseCorrection same = absurd (apart (codes "MinPollInterval") (codes "MaxPosPhaseCorrection") refl same)
one_number MinPollInterval MaxNegPhaseCorrection same = absurd (apart (codes "MinPollInterval") (codes "MaxNegPhaseCorrection") refl same)
one_number MinPollInterval MaxAllowedPhaseOffset same = absurd (apart (codes "MinPollInterval") (codes "MaxAllowedPhaseOffset") refl same)
one_number MinPollInterval MinPollInterval same = refl
one_number MinPollInterval MaxPollInterval same = absurd (apart (codes "MinPollInterval") (codes "MaxPollInterval") refl same)
one_number MinPollInterval AnnounceFlags same = absurd (apart (codes "MinPollInterval") (codes "AnnounceFlags") refl same)
one_number MaxPollInterval MaxPosPhaseCorrection same = absurd (apart (codes "MaxPollInterval") (codes "MaxPosPhaseCorrection") refl same)
one_number MaxPollInterval MaxNegPhaseCorrection same = absurd (apart (codes "MaxPollInterval") (codes "MaxNegPhaseCorrection") refl same)
one_number MaxPollInterval MaxAllowedPhaseOffset same = absurd (apart (codes "MaxPollInterval") (codes "MaxAllowedPhaseOffset") refl same)
one_number MaxPollInterval MinPollInterval same = absurd (apart (codes "MaxPollInterval") (codes "MinPollInterval") refl same)
one_number MaxPollInterval MaxPollInterval same = refl
one_number MaxPollInterval AnnounceFlags same = absurd (apart (codes "MaxPollInterval") (codes "AnnounceFlags") refl same)
one_number AnnounceFlags MaxPosPhaseCorrection same = absurd (apart (codes "AnnounceFlags") (codes "MaxPosPhaseCorrection") refl same)
one_number AnnounceFlags MaxNegPhaseCorrection same = absurd (apart (codes "AnnounceFlags") (codes "MaxNegPhaseCorrection") refl same)
one_number AnnounceFlags MaxAllowedPhaseOffset same = absurd (apart (codes "AnnounceFlags") (codes "MaxAllowedPhaseOffset") refl same)
one_number AnnounceFlags MinPollInterval same = absurd (apart (codes "AnnounceFlags") (codes "MinPollInterval") refl same)
one_number AnnounceFlags MaxPollInterval same = absurd (apart (codes "AnnounceFlags") (codes "MaxPollInterval") refl same)
one_number AnnounceFlags AnnounceFlags same = refl

no_name : (number : Number) → number_label number ≡ codes "Name" → ⊥
no_name MaxPosPhaseCorrection same = apart (codes "MaxPosPhaseCorrection") (codes "Name") refl same
no_name MaxNegPhaseCorrection same = apart (codes "MaxNegPhaseCorrection") (codes "Name") refl same
no_name MaxAllowedPhaseOffset same = apart (codes "MaxAllowedPhaseOffset") (codes "Name") refl same
no_name MinPollInterval same = apart (codes "MinPollInterval") (codes "Name") refl same
no_name MaxPollInterval same = apart (codes "MaxPollInterval") (codes "Name") refl same
no_name AnnounceFlags same = apart (codes "AnnounceFlags") (codes "Name") refl same

no_role : (number : Number) → number_label number ≡ codes "Role" → ⊥
no_role MaxPosPhaseCorrection same = apart (codes "MaxPosPhaseCorrection") (codes "Role") refl same
no_role MaxNegPhaseCorrection same = apart (codes "MaxNegPhaseCorrection") (codes "Role") refl same
no_role MaxAllowedPhaseOffset same = apart (codes "MaxAllowedPhaseOffset") (codes "Role") refl same
no_role MinPollInterval same = apart (codes "MinPollInterval") (codes "Role") refl same
no_role MaxPollInterval same = apart (codes "MaxPollInterval") (codes "Role") refl same
no_role AnnounceFlags same = apart (codes "AnnounceFlags") (codes "Role") refl same

no_rid : (number : Number) → number_label number ≡ codes "Rid" → ⊥
no_rid MaxPosPhaseCorrection same = apart (codes "MaxPosPhaseCorrection") (codes "Rid") refl same
no_rid MaxNegPhaseCorrection same = apart (codes "MaxNegPhaseCorrection") (codes "Rid") refl same
no_rid MaxAllowedPhaseOffset same = apart (codes "MaxAllowedPhaseOffset") (codes "Rid") refl same
no_rid MinPollInterval same = apart (codes "MinPollInterval") (codes "Rid") refl same
no_rid MaxPollInterval same = apart (codes "MaxPollInterval") (codes "Rid") refl same
no_rid AnnounceFlags same = apart (codes "AnnounceFlags") (codes "Rid") refl same

no_auth : (number : Number) → number_label number ≡ codes "Auth" → ⊥
no_auth MaxPosPhaseCorrection same = apart (codes "MaxPosPhaseCorrection") (codes "Auth") refl same
no_auth MaxNegPhaseCorrection same = apart (codes "MaxNegPhaseCorrection") (codes "Auth") refl same
no_auth MaxAllowedPhaseOffset same = apart (codes "MaxAllowedPhaseOffset") (codes "Auth") refl same
no_auth MinPollInterval same = apart (codes "MinPollInterval") (codes "Auth") refl same
no_auth MaxPollInterval same = apart (codes "MaxPollInterval") (codes "Auth") refl same
no_auth AnnounceFlags same = apart (codes "AnnounceFlags") (codes "Auth") refl same

one_role : (a b : Role) → role_text a ≡ role_text b → a ≡ b
one_role Member Member same = refl
one_role Member Controller same = absurd (apart (codes "Member") (codes "Controller") refl same)
one_role Member Pdc same = absurd (apart (codes "Member") (codes "Pdc") refl same)
one_role Controller Member same = absurd (apart (codes "Controller") (codes "Member") refl same)
one_role Controller Controller same = refl
one_role Controller Pdc same = absurd (apart (codes "Controller") (codes "Pdc") refl same)
one_role Pdc Member same = absurd (apart (codes "Pdc") (codes "Member") refl same)
one_role Pdc Controller same = absurd (apart (codes "Pdc") (codes "Controller") refl same)
one_role Pdc Pdc same = refl

one_kind : (a b : Kind) → kind_text a ≡ kind_text b → a ≡ b
one_kind Short Short same = refl
one_kind Short Extended same = absurd (apart (codes "Short") (codes "Extended") refl same)
one_kind Extended Short same = absurd (apart (codes "Extended") (codes "Short") refl same)
one_kind Extended Extended same = refl

-- a number that a line can say has 32 bits
greatest_fits : (number : Number) → greatest number < 2 ^ 32
greatest_fits MaxPosPhaseCorrection = omega arith
greatest_fits MaxNegPhaseCorrection = omega arith
greatest_fits MaxAllowedPhaseOffset = omega arith
greatest_fits MinPollInterval = omega arith
greatest_fits MaxPollInterval = omega arith
greatest_fits AnnounceFlags = omega arith

-- a label and a value are those of one setting
one_value : (s t : Setting) (text : List ℕ) → label s ≡ label t → SpellsValue s text → SpellsValue t text → s ≡ t
one_value (Name a) (Name b) text same p q = ap Name (sym p.written ∙ q.written)
one_value (Name a) (RoleIs b) text same p q = absurd (apart (codes "Name") (codes "Role") refl same)
one_value (Name a) (Rid b) text same p q = absurd (apart (codes "Name") (codes "Rid") refl same)
one_value (Name a) (Auth b) text same p q = absurd (apart (codes "Name") (codes "Auth") refl same)
one_value (Name a) (NumberIs b vb) text same p q = absurd (no_name b (sym same))
one_value (RoleIs a) (Name b) text same p q = absurd (apart (codes "Role") (codes "Name") refl same)
one_value (RoleIs a) (RoleIs b) text same p q = ap RoleIs (one_role a b (sym p ∙ q))
one_value (RoleIs a) (Rid b) text same p q = absurd (apart (codes "Role") (codes "Rid") refl same)
one_value (RoleIs a) (Auth b) text same p q = absurd (apart (codes "Role") (codes "Auth") refl same)
one_value (RoleIs a) (NumberIs b vb) text same p q = absurd (no_role b (sym same))
one_value (Rid a) (Name b) text same p q = absurd (apart (codes "Rid") (codes "Name") refl same)
one_value (Rid a) (RoleIs b) text same p q = absurd (apart (codes "Rid") (codes "Role") refl same)
one_value (Rid a) (Rid b) text same p q = ap Rid (decimal_injective a b (omega (arith, p.0)) (omega (arith, q.0)) (sym p.1 ∙ q.1))
one_value (Rid a) (Auth b) text same p q = absurd (apart (codes "Rid") (codes "Auth") refl same)
one_value (Rid a) (NumberIs b vb) text same p q = absurd (no_rid b (sym same))
one_value (Auth a) (Name b) text same p q = absurd (apart (codes "Auth") (codes "Name") refl same)
one_value (Auth a) (RoleIs b) text same p q = absurd (apart (codes "Auth") (codes "Role") refl same)
one_value (Auth a) (Rid b) text same p q = absurd (apart (codes "Auth") (codes "Rid") refl same)
one_value (Auth a) (Auth b) text same p q = ap Auth (one_kind a b (sym p ∙ q))
one_value (Auth a) (NumberIs b vb) text same p q = absurd (no_auth b (sym same))
one_value (NumberIs a va) (Name b) text same p q = absurd (no_name a same)
one_value (NumberIs a va) (RoleIs b) text same p q = absurd (no_role a same)
one_value (NumberIs a va) (Rid b) text same p q = absurd (no_rid a same)
one_value (NumberIs a va) (Auth b) text same p q = absurd (no_auth a same)
one_value (NumberIs a va) (NumberIs b vb) text same p q =
    let number = one_number a b same in
    let value = decimal_injective va vb (omega (arith, p.0, greatest_fits a)) (omega (arith, q.0, greatest_fits b)) (sym p.1 ∙ q.1) in
    λ i. NumberIs (number i) (value i)

one_setting : (s t : Setting) (line : List ℕ) → SpellsSetting s line → SpellsSetting t line → s ≡ t
one_setting s t line p q =
    let cut = one_cut 61 (label s) p.value (label t) q.value (label_no_equals s) (label_no_equals t) (sym p.written ∙ q.written) in
    one_value s t q.value cut.0 (rw cut.1 at p.value_spelled) q.value_spelled

-- an account line begins as one, and no other line does
pub account_begins : (a : Account) (line : List ℕ) → SpellsAccount a line → starts_with nat_eq line (codes "account ") ≡ true
account_begins a line p = rw p.words refl

pub computer_begins : (e : Entry) (line : List ℕ) → SpellsEntry e line → starts_with nat_eq line (codes "computer ") ≡ true
computer_begins e line p = rw p.words refl

pub computer_no_account : (e : Entry) (line : List ℕ) → SpellsEntry e line → starts_with nat_eq line (codes "account ") ≡ false
computer_no_account e line p = rw p.words refl

number_no_account : (number : Number) (value : List ℕ) → starts_with nat_eq (number_label number ++ 61 ∷ value) (codes "account ") ≡ false
number_no_account MaxPosPhaseCorrection value = refl
number_no_account MaxNegPhaseCorrection value = refl
number_no_account MaxAllowedPhaseOffset value = refl
number_no_account MinPollInterval value = refl
number_no_account MaxPollInterval value = refl
number_no_account AnnounceFlags value = refl

number_no_computer : (number : Number) (value : List ℕ) → starts_with nat_eq (number_label number ++ 61 ∷ value) (codes "computer ") ≡ false
number_no_computer MaxPosPhaseCorrection value = refl
number_no_computer MaxNegPhaseCorrection value = refl
number_no_computer MaxAllowedPhaseOffset value = refl
number_no_computer MinPollInterval value = refl
number_no_computer MaxPollInterval value = refl
number_no_computer AnnounceFlags value = refl

label_no_account : (s : Setting) (value : List ℕ) → starts_with nat_eq (label s ++ 61 ∷ value) (codes "account ") ≡ false
label_no_account (Name name) value = refl
label_no_account (RoleIs role) value = refl
label_no_account (Rid rid) value = refl
label_no_account (Auth kind) value = refl
label_no_account (NumberIs number v) value = number_no_account number value

pub setting_no_account : (s : Setting) (line : List ℕ) → SpellsSetting s line → starts_with nat_eq line (codes "account ") ≡ false
setting_no_account s line p = rw p.written (label_no_account s p.value)

label_no_computer : (s : Setting) (value : List ℕ) → starts_with nat_eq (label s ++ 61 ∷ value) (codes "computer ") ≡ false
label_no_computer (Name name) value = refl
label_no_computer (RoleIs role) value = refl
label_no_computer (Rid rid) value = refl
label_no_computer (Auth kind) value = refl
label_no_computer (NumberIs number v) value = number_no_computer number value

pub setting_no_computer : (s : Setting) (line : List ℕ) → SpellsSetting s line → starts_with nat_eq line (codes "computer ") ≡ false
setting_no_computer s line p = rw p.written (label_no_computer s p.value)

-- a line says one thing
one_item : (x y : Item) (line : List ℕ) → SpellsItem x line → SpellsItem y line → x ≡ y
one_item (account a) (account b) line p q = ap account (one_account a b line p q)
one_item (account a) (computer b) line p q = absurd (cc (account_begins a line p, computer_no_account b line q))
one_item (account a) (setting b) line p q = absurd (cc (account_begins a line p, setting_no_account b line q))
one_item (computer a) (account b) line p q = absurd (cc (account_begins b line q, computer_no_account a line p))
one_item (computer a) (computer b) line p q = ap computer (one_entry a b line p q)
one_item (computer a) (setting b) line p q = absurd (cc (computer_begins a line p, setting_no_computer b line q))
one_item (setting a) (account b) line p q = absurd (cc (account_begins b line q, setting_no_account a line p))
one_item (setting a) (computer b) line p q = absurd (cc (computer_begins b line q, setting_no_computer a line p))
one_item (setting a) (setting b) line p q = ap setting (one_setting a b line p q)

pub says_one : SaysOne settings_text
says_one = record { one = one_item }
