-- What the lines of a settings text set, and what holds where they set nothing.
use Rattle.std.specs.Prelude.{◌≡◌, ◌≤◌, ◌<◌, ◌^◌, ◌⊎◌, ⊤, ℕ, List, [], ◌∷◌, Option, Some, None, if◌then◌else◌, filter_map, unwrap_or}
use Rattle.std.specs.Str.{bytes_eq}
use Rattle.ms_auth.specs.declared.packet.Kind.{Kind}
use Rattle.ms_auth.specs.declared.packet.Kind.TheVariants.{Short}
use Rattle.key_book.specs.declared.account.Account.{Account}
use Rattle.key_book.specs.AccountBook.{NoneHas}
use Rattle.partner_pick.specs.declared.entry.Entry.{Entry}
use Rattle.partner_pick.specs.declared.entry.Role.{Role}
use Rattle.partner_pick.specs.declared.entry.Role.TheVariants.{Member, Controller, Pdc}
use Rattle.w32t_settings.specs.declared.settings.Settings.{Settings}
use Rattle.w32t_settings.specs.declared.setting.Number.{Number}
use Rattle.w32t_settings.specs.declared.setting.Number.TheVariants.{MaxPosPhaseCorrection, MaxNegPhaseCorrection, MaxAllowedPhaseOffset, MinPollInterval, MaxPollInterval, AnnounceFlags}
use Rattle.w32t_settings.specs.declared.setting.Setting.{Setting}
use Rattle.w32t_settings.specs.declared.setting.Setting.TheVariants.{Name, Role as RoleIs, Rid, Auth, Number as NumberIs}
use Rattle.w32t_settings.specs.SettingText.{Item, account, computer, setting, greatest, number_label}

-- the accounts, the computers and the settings of the lines, in their order
abbrev pub account_in : Item → Option Account
account_in (account a) = Some a
account_in (computer e) = None
account_in (setting s) = None

abbrev pub computer_in : Item → Option Entry
computer_in (account a) = None
computer_in (computer e) = Some e
computer_in (setting s) = None

abbrev pub setting_in : Item → Option Setting
setting_in (account a) = None
setting_in (computer e) = None
setting_in (setting s) = Some s

abbrev pub accounts_of : List Item → List Account
accounts_of items = filter_map account_in items

abbrev pub computers_of : List Item → List Entry
computers_of items = filter_map computer_in items

abbrev pub settings_of : List Item → List Setting
settings_of items = filter_map setting_in items

-- the value that a setting has, of each kind
abbrev pub name_in : Setting → Option (List ℕ)
name_in (Name name) = Some name
name_in (RoleIs role) = None
name_in (Rid rid) = None
name_in (Auth kind) = None
name_in (NumberIs number value) = None

abbrev pub role_in : Setting → Option Role
role_in (Name name) = None
role_in (RoleIs role) = Some role
role_in (Rid rid) = None
role_in (Auth kind) = None
role_in (NumberIs number value) = None

abbrev pub rid_in : Setting → Option ℕ
rid_in (Name name) = None
rid_in (RoleIs role) = None
rid_in (Rid rid) = Some rid
rid_in (Auth kind) = None
rid_in (NumberIs number value) = None

abbrev pub kind_in : Setting → Option Kind
kind_in (Name name) = None
kind_in (RoleIs role) = None
kind_in (Rid rid) = None
kind_in (Auth kind) = Some kind
kind_in (NumberIs number value) = None

abbrev pub number_in : Number → Setting → Option ℕ
number_in wanted (Name name) = None
number_in wanted (RoleIs role) = None
number_in wanted (Rid rid) = None
number_in wanted (Auth kind) = None
number_in wanted (NumberIs number value) =
    if bytes_eq (number_label number) (number_label wanted) then Some value else None

-- the first of two values that is there
abbrev pub first_of : {X : Type 0} → Option X → Option X → Option X
first_of (Some x) other = Some x
first_of None other = other

-- the value that is set, where one is
abbrev pub given : {X : Type 0} → (Setting → Option X) → List Setting → Option X
given f [] = None
given f (s ∷ ss) = first_of (f s) (given f ss)

-- A member takes any correction and asks from every 17 minutes to every 9 hours. A controller takes two days, and
-- asks from every minute to every 17 minutes.
abbrev pub default_of : Number → Role → ℕ
default_of MaxPosPhaseCorrection Member = 4294967295
default_of MaxPosPhaseCorrection Controller = 172800
default_of MaxPosPhaseCorrection Pdc = 172800
default_of MaxNegPhaseCorrection Member = 4294967295
default_of MaxNegPhaseCorrection Controller = 172800
default_of MaxNegPhaseCorrection Pdc = 172800
default_of MaxAllowedPhaseOffset role = 300
default_of MinPollInterval Member = 10
default_of MinPollInterval Controller = 6
default_of MinPollInterval Pdc = 6
default_of MaxPollInterval Member = 15
default_of MaxPollInterval Controller = 10
default_of MaxPollInterval Pdc = 10
default_of AnnounceFlags role = 10

-- the value of a number for a role: as it is set, and else the default
abbrev pub value_of : Number → Role → List Setting → ℕ
value_of number role settings = unwrap_or (given (number_in number) settings) (default_of number role)

-- which messages are sent: short ones where Auth isn't set
abbrev pub auth_of : List Setting → Kind
auth_of settings = unwrap_or (given kind_in settings) Short

-- The settings that these lines say. Name, Role and Rid are set, and the others are set or have their defaults.
pub record AreSettings (items : List Item) (s : Settings) : Type 0 where
  pub name : given name_in (settings_of items) ≡ Some s.name
  pub role : given role_in (settings_of items) ≡ Some s.role
  pub rid : given rid_in (settings_of items) ≡ Some s.rid
  pub kind : s.kind ≡ auth_of (settings_of items)
  pub max_pos : s.limits.max_pos ≡ value_of MaxPosPhaseCorrection s.role (settings_of items)
  pub max_neg : s.limits.max_neg ≡ value_of MaxNegPhaseCorrection s.role (settings_of items)
  pub max_allowed : s.limits.max_allowed ≡ value_of MaxAllowedPhaseOffset s.role (settings_of items)
  pub min_poll : s.limits.min_poll ≡ value_of MinPollInterval s.role (settings_of items)
  pub max_poll : s.limits.max_poll ≡ value_of MaxPollInterval s.role (settings_of items)
  pub announce : s.announce ≡ value_of AnnounceFlags s.role (settings_of items)
  pub book : s.book ≡ accounts_of items
  pub directory : s.directory ≡ computers_of items

-- Rid is set, and no account line has it.
pub record HasNoAccount (items : List Item) : Type 0 where
  pub rid : ℕ
  pub set : given rid_in (settings_of items) ≡ Some rid
  pub none : NoneHas (accounts_of items) rid

-- The least poll exponent of the role is above the greatest.
pub record PollsCross (settings : List Setting) : Type 0 where
  pub role : Role
  pub set : given role_in settings ≡ Some role
  pub cross : value_of MaxPollInterval role settings < value_of MinPollInterval role settings

-- Messages are short, and Rid has more than 31 bits.
pub record HasLongRid (settings : List Setting) : Type 0 where
  pub rid : ℕ
  pub set : given rid_in settings ≡ Some rid
  pub short : auth_of settings ≡ Short
  pub long : 2 ^ 31 ≤ rid

-- The text as a whole is bad: Name, Role or Rid isn't set, or what is set doesn't fit together.
abbrev pub IsBadWhole : List Item → Type 0
IsBadWhole items =
    (given name_in (settings_of items) ≡ None)
    ⊎ ((given role_in (settings_of items) ≡ None)
    ⊎ ((given rid_in (settings_of items) ≡ None)
    ⊎ (HasNoAccount items
    ⊎ (PollsCross (settings_of items)
    ⊎ HasLongRid (settings_of items)))))

-- each number is at most the greatest that a line can say
abbrev pub Fits : Setting → Type 0
Fits (Name name) = ⊤
Fits (RoleIs role) = ⊤
Fits (Rid rid) = rid < 2 ^ 32
Fits (Auth kind) = ⊤
Fits (NumberIs number value) = value ≤ greatest number

-- each number of these settings is at most its greatest
abbrev pub AllFit : List Setting → Type 0
AllFit [] = ⊤
AllFit (s ∷ ss) = Fits s × AllFit ss
