-- How far the reading of a settings text has come.
use Rattle.std.specs.Prelude.{◌≡◌, ◌<◌, ◌⊎◌, ◌++◌, ◌∷◌, ⊤, ℕ, List, [], true, false, Any, Option, Some, None, Result, Ok, Err}
use Rattle.text_grammar.specs.Lines.{is_skipped}
use Rattle.phase_rule.specs.declared.limits.Limits.{Limits}
use Rattle.partner_pick.specs.declared.entry.Role.{Role}
use Rattle.w32t_settings.specs.declared.draft.Draft.{Draft}
use Rattle.w32t_settings.specs.declared.setting.Number.TheVariants.{MaxPosPhaseCorrection, MaxNegPhaseCorrection, MaxAllowedPhaseOffset, MinPollInterval, MaxPollInterval}
use Rattle.w32t_settings.specs.declared.setting.Setting.{Setting}
use Rattle.w32t_settings.specs.declared.settings.SettingsFault.{SettingsFault}
use Rattle.w32t_settings.specs.declared.settings.SettingsFault.TheVariants.{BadConfig, NoMemory}
use Rattle.w32t_settings.specs.SettingText.{Item, SpellsItem, Repeats}
use Rattle.w32t_settings.specs.Values.{accounts_of, computers_of, settings_of, value_of}
use Rattle.w32t_settings.specs.Answer.{IsBadLine}

-- what lines said is kept in three lists
pub record Holds (items : List Item) (draft : Draft) : Type 0 where
  pub book : draft.book ≡ accounts_of items
  pub directory : draft.directory ≡ computers_of items
  pub settings : draft.settings.items ≡ settings_of items

-- a line that says something new
pub record SaysNew (items : List Item) (line : List ℕ) (new : Draft) : Type 0 where
  pub item : Item
  pub seen : is_skipped line ≡ false
  pub spelled : SpellsItem item line
  pub fresh : ¬ Any (λ x. Repeats x item) items
  pub holds : Holds (items ++ item ∷ []) new

-- What is done with line n: it is skipped, or what it says is kept, or it is bad beside the lines before it.
abbrev pub Takes : ℕ → List ℕ → List Item → Draft → Result (Unit {0}) SettingsFault → Type 0
Takes n line items new (Ok done) = ((is_skipped line ≡ true) × Holds items new) ⊎ SaysNew items line new
Takes n line items new (Err (BadConfig m)) = (m ≡ n) × IsBadLine items line
Takes n line items new (Err NoMemory) = ⊤

-- the limits that are set or are the role's defaults
pub record AreLimitsOf (role : Role) (settings : List Setting) (limits : Limits) : Type 0 where
  pub max_pos : limits.max_pos ≡ value_of MaxPosPhaseCorrection role settings
  pub max_neg : limits.max_neg ≡ value_of MaxNegPhaseCorrection role settings
  pub max_allowed : limits.max_allowed ≡ value_of MaxAllowedPhaseOffset role settings
  pub min_poll : limits.min_poll ≡ value_of MinPollInterval role settings
  pub max_poll : limits.max_poll ≡ value_of MaxPollInterval role settings

-- those limits, or none where the least poll exponent is above the greatest
abbrev pub AreLimits : Role → List Setting → Option Limits → Type 0
AreLimits role settings (Some limits) = AreLimitsOf role settings limits
AreLimits role settings None = value_of MaxPollInterval role settings < value_of MinPollInterval role settings
