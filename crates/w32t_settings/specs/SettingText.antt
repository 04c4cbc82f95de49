-- What the lines of a settings text say.
use Rattle.std.specs.Prelude.{◌≡◌, ◌≤◌, ◌<◌, ◌^◌, ◌++◌, ◌∷◌, ℕ, not, List, codes, decimal}
use Rattle.text_grammar.specs.Name.{SpellsName}
use Rattle.text_grammar.specs.Lines.{TextForm, is_skipped}
use Rattle.ms_auth.specs.declared.packet.Kind.{Kind}
use Rattle.ms_auth.specs.declared.packet.Kind.TheVariants.{Short, Extended}
use Rattle.key_book.specs.declared.account.Account.{Account}
use Rattle.key_book.specs.AccountText.{SpellsAccount}
use Rattle.partner_pick.specs.declared.entry.Entry.{Entry}
use Rattle.partner_pick.specs.declared.entry.Role.{Role}
use Rattle.partner_pick.specs.declared.entry.Role.TheVariants.{Member, Controller, Pdc}
use Rattle.partner_pick.specs.ComputerText.{SpellsEntry}
use Rattle.w32t_settings.specs.declared.setting.Number.{Number}
use Rattle.w32t_settings.specs.declared.setting.Number.TheVariants.{MaxPosPhaseCorrection, MaxNegPhaseCorrection, MaxAllowedPhaseOffset, MinPollInterval, MaxPollInterval, AnnounceFlags}
use Rattle.w32t_settings.specs.declared.setting.Setting.{Setting}
use Rattle.w32t_settings.specs.declared.setting.Setting.TheVariants.{Name, Role as RoleIs, Rid, Auth, Number as NumberIs}

-- the numbers that have a default, by their names
abbrev pub number_label : Number → List ℕ
number_label MaxPosPhaseCorrection = codes "MaxPosPhaseCorrection"
number_label MaxNegPhaseCorrection = codes "MaxNegPhaseCorrection"
number_label MaxAllowedPhaseOffset = codes "MaxAllowedPhaseOffset"
number_label MinPollInterval = codes "MinPollInterval"
number_label MaxPollInterval = codes "MaxPollInterval"
number_label AnnounceFlags = codes "AnnounceFlags"

-- the greatest value of each: a number of 32 bits in seconds, a poll exponent, and four flags
abbrev pub greatest : Number → ℕ
greatest MaxPosPhaseCorrection = 4294967295
greatest MaxNegPhaseCorrection = 4294967295
greatest MaxAllowedPhaseOffset = 4294967295
greatest MinPollInterval = 17
greatest MaxPollInterval = 17
greatest AnnounceFlags = 15

-- what stands before the `=`
abbrev pub label : Setting → List ℕ
label (Name name) = codes "Name"
label (RoleIs role) = codes "Role"
label (Rid rid) = codes "Rid"
label (Auth kind) = codes "Auth"
label (NumberIs number value) = number_label number

-- the values of Role
abbrev pub role_text : Role → List ℕ
role_text Member = codes "Member"
role_text Controller = codes "Controller"
role_text Pdc = codes "Pdc"

-- the values of Auth
abbrev pub kind_text : Kind → List ℕ
kind_text Short = codes "Short"
kind_text Extended = codes "Extended"

-- what stands behind the `=`
abbrev pub SpellsValue : Setting → List ℕ → Type 0
SpellsValue (Name name) text = SpellsName name text
SpellsValue (RoleIs role) text = text ≡ role_text role
SpellsValue (Rid rid) text = (rid < 2 ^ 32) × (text ≡ decimal rid)
SpellsValue (Auth kind) text = text ≡ kind_text kind
SpellsValue (NumberIs number value) text = (value ≤ greatest number) × (text ≡ decimal value)

-- `SETTING=VALUE`
pub record SpellsSetting (setting : Setting) (line : List ℕ) : Type 0 where
  pub value : List ℕ
  pub written : line ≡ label setting ++ 61 ∷ value
  pub value_spelled : SpellsValue setting value

-- what a line says: an account, a computer, or a setting
pub data Item : Type 0 where
  account : Account → Item
  computer : Entry → Item
  setting : Setting → Item

-- a line has one of three forms
abbrev pub SpellsItem : Item → List ℕ → Type 0
SpellsItem (account a) line = SpellsAccount a line
SpellsItem (computer e) line = SpellsEntry e line
SpellsItem (setting s) line = SpellsSetting s line

-- two lines repeat each other: accounts of one RID, computers of one name, or one setting twice
abbrev pub Repeats : Item → Item → Type 0
Repeats (account a) (account b) = a.rid ≡ b.rid
Repeats (computer a) (computer b) = a.name ≡ b.name
Repeats (setting a) (setting b) = label a ≡ label b
Repeats (account a) (computer b) = ⊥
Repeats (account a) (setting b) = ⊥
Repeats (computer a) (account b) = ⊥
Repeats (computer a) (setting b) = ⊥
Repeats (setting a) (account b) = ⊥
Repeats (setting a) (computer b) = ⊥

-- the settings text: each line that isn't skipped says something, and no two repeat each other
abbrev pub settings_text : TextForm Item
settings_text = record { is_seen = λ line. not (is_skipped line); Spells = SpellsItem; AreSame = Repeats }
