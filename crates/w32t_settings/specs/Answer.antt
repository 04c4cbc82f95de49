-- The settings of a text, or its least bad line.
use Rattle.std.specs.Prelude.{◌≡◌, ◌+◌, ◌<◌, ◌≤◌, ◌⊎◌, ◌==◌, ⊤, ℕ, List, length, take, count_by, Result, Ok, Err}
use Rattle.std.specs.Str.Lines.{lines}
use Rattle.text_grammar.specs.Lines.{Say, IsFirstBad, SpellsNothing, SaysAgain}
use Rattle.w32t_settings.specs.declared.settings.Settings.{Settings}
use Rattle.w32t_settings.specs.declared.settings.SettingsFault.{SettingsFault}
use Rattle.w32t_settings.specs.declared.settings.SettingsFault.TheVariants.{BadConfig, NoMemory}
use Rattle.w32t_settings.specs.SettingText.{Item, settings_text}
use Rattle.w32t_settings.specs.Values.{AreSettings, IsBadWhole}

-- a line that has none of the three forms, or repeats an earlier one
abbrev pub IsBadLine : List Item → List ℕ → Type 0
IsBadLine earlier line = SpellsNothing settings_text earlier line ⊎ SaysAgain settings_text earlier line

-- Line n has no form or repeats an earlier one, and the lines before it are good. No byte behind number 16,777,217 is
-- looked at.
abbrev pub HasBadLine : List ℕ → ℕ → Type 0
HasBadLine text n = IsFirstBad settings_text IsBadLine (lines (take 16777217 text)) n

-- The longest text has 16,777,216 bytes. Byte number 16,777,217 stands in line n: so many line feeds are before it, and
-- one fewer. No line before n is bad.
pub record IsTooLong (text : List ℕ) (n : ℕ) : Type 0 where
  pub long : 16777216 < length text
  pub stands : n ≡ count_by (λ byte. byte == 10) (take 16777216 text) + 1
  pub before : (m : ℕ) → m < n → HasBadLine text m → ⊥

-- The text isn't too long and each line is good, and these are what they say.
pub record IsGood (text : List ℕ) (items : List Item) : Type 0 where
  pub fits : length text ≤ 16777216
  pub said : Say settings_text (lines text) items

-- The text as a whole is bad: at the number of its lines, skipped ones counted, and one more.
pub record IsBadAtEnd (text : List ℕ) (n : ℕ) : Type 0 where
  pub items : List Item
  pub good : IsGood text items
  pub whole : IsBadWhole items
  pub number : n ≡ length (lines text) + 1

-- the settings of the lines of a good text
pub record AreSettingsOf (text : List ℕ) (settings : Settings) : Type 0 where
  pub items : List Item
  pub good : IsGood text items
  pub are : AreSettings items settings

-- An answer that is true of a text: its settings, or its least bad line. Want of memory says nothing of it.
abbrev pub IsAnswer : List ℕ → Result Settings SettingsFault → Type 0
IsAnswer text (Ok settings) = AreSettingsOf text settings
IsAnswer text (Err (BadConfig n)) = HasBadLine text n ⊎ (IsTooLong text n ⊎ IsBadAtEnd text n)
IsAnswer text (Err NoMemory) = ⊤
