-- How great the values are.
use Rattle.std.proofs.Common.{◌≡◌, ◌≤◌, ℕ, Bool, true, false, cond, List, [], ◌∷◌, Option, Some, None, refl, subst, arith}
use Rattle.std.specs.Prelude.{IfSome, unwrap_or}
use Rattle.std.specs.Str.{bytes_eq}
use Rattle.std.specs.List.{AllZip}
use Rattle.std.proofs.lemmas.Slice.Eq.{bytes_eq-Decides}
use Rattle.partner_pick.specs.declared.entry.Role.{Role}
use Rattle.partner_pick.specs.declared.entry.Role.TheVariants.{Member, Controller, Pdc}
use Rattle.w32t_settings.specs.declared.setting.Number.{Number}
use Rattle.w32t_settings.specs.declared.setting.Number.TheVariants.{MaxPosPhaseCorrection, MaxNegPhaseCorrection, MaxAllowedPhaseOffset, MinPollInterval, MaxPollInterval, AnnounceFlags}
use Rattle.w32t_settings.specs.declared.setting.Setting.{Setting}
use Rattle.w32t_settings.specs.declared.setting.Setting.TheVariants.{Name, Role as RoleIs, Rid, Auth, Number as NumberIs}
use Rattle.w32t_settings.specs.SettingText.{Item, account, computer, setting, greatest, number_label, SpellsItem, SpellsSetting}
use Rattle.w32t_settings.specs.Values.{settings_of, given, first_of, number_in, default_of, value_of, Fits, AllFit}
use Rattle.w32t_settings.proofs.Labels.{one_number}

abbrev IsWithin : Number → ℕ → Type 0
IsWithin wanted v = v ≤ greatest wanted

-- the value of a number that is told by its label
number_within : (wanted number : Number) (value : ℕ) (rest : Option ℕ) (is : Bool) → bytes_eq (number_label number) (number_label wanted) ≡ is
    → value ≤ greatest number → IfSome rest (IsWithin wanted)
    → IfSome (first_of (cond is (Some value) None) rest) (IsWithin wanted)
number_within wanted number value rest true told fits more =
    let same = one_number number wanted ((bytes_eq-Decides (number_label number) (number_label wanted)).0 told) in
    subst (λ (n : Number). value ≤ greatest n) same fits
number_within wanted number value rest false told fits more = more

given_within : (wanted : Number) (settings : List Setting) → AllFit settings → IfSome (given (number_in wanted) settings) (IsWithin wanted)
given_within wanted [] fit = tt
given_within wanted (Name name ∷ ss) fit = given_within wanted ss fit.1
given_within wanted (RoleIs role ∷ ss) fit = given_within wanted ss fit.1
given_within wanted (Rid rid ∷ ss) fit = given_within wanted ss fit.1
given_within wanted (Auth kind ∷ ss) fit = given_within wanted ss fit.1
given_within wanted (NumberIs number value ∷ ss) fit =
    number_within wanted number value (given (number_in wanted) ss) (bytes_eq (number_label number) (number_label wanted)) refl fit.0 (given_within wanted ss fit.1)

default_within : (number : Number) (role : Role) → default_of number role ≤ greatest number
default_within MaxPosPhaseCorrection Member = omega arith
default_within MaxPosPhaseCorrection Controller = omega arith
default_within MaxPosPhaseCorrection Pdc = omega arith
default_within MaxNegPhaseCorrection Member = omega arith
default_within MaxNegPhaseCorrection Controller = omega arith
default_within MaxNegPhaseCorrection Pdc = omega arith
default_within MaxAllowedPhaseOffset role = omega arith
default_within MinPollInterval Member = omega arith
default_within MinPollInterval Controller = omega arith
default_within MinPollInterval Pdc = omega arith
default_within MaxPollInterval Member = omega arith
default_within MaxPollInterval Controller = omega arith
default_within MaxPollInterval Pdc = omega arith
default_within AnnounceFlags role = omega arith

or_within : (wanted : Number) (o : Option ℕ) (d : ℕ) → IfSome o (IsWithin wanted) → d ≤ greatest wanted → unwrap_or o d ≤ greatest wanted
or_within wanted None d some default = default
or_within wanted (Some v) d some default = some

-- a value is at most the greatest of its number
pub value_within : (number : Number) (role : Role) (settings : List Setting) → AllFit settings → value_of number role settings ≤ greatest number
value_within number role settings fit = or_within number (given (number_in number) settings) (default_of number role) (given_within number settings fit) (default_within number role)

-- what lines spell fits
setting_fits : (s : Setting) (line : List ℕ) → SpellsSetting s line → Fits s
setting_fits (Name name) line p = tt
setting_fits (RoleIs role) line p = tt
setting_fits (Rid rid) line p = p.value_spelled.0
setting_fits (Auth kind) line p = tt
setting_fits (NumberIs number value) line p = p.value_spelled.0

pub all_fit : (items : List Item) (lines : List (List ℕ)) → AllZip SpellsItem items lines → AllFit (settings_of items)
all_fit [] [] p = tt
all_fit [] (l ∷ ls) p = absurd p
all_fit (x ∷ xs) [] p = absurd p
all_fit (account a ∷ xs) (l ∷ ls) p = all_fit xs ls p.1
all_fit (computer e ∷ xs) (l ∷ ls) p = all_fit xs ls p.1
all_fit (setting s ∷ xs) (l ∷ ls) p = (setting_fits s l p.0, all_fit xs ls p.1)
