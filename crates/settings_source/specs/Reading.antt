-- What reading the settings takes of a source, and what each answer says.
use Rattle.std.specs.Prelude.{◌≡◌, ◌<◌, ◌≤◌, ℕ, List, length, Option, Result, Ok, Err}
use Rattle.base_specs.specs.Counts.{Fails}
use Rattle.base_specs.specs.Told.{Took, IsUsedUp}
use Rattle.w32t_settings.specs.Answer.{IsAnswer, AreSettingsOf}
use Rattle.w32t_settings.specs.declared.settings.Settings.{Settings}
use Rattle.w32t_settings.specs.declared.settings.SettingsFault.TheVariants as settings
use Rattle.settings_source.specs.declared.read.ConfigFault.{ConfigFault}
use Rattle.settings_source.specs.declared.read.ConfigFault.TheVariants.{BadConfig, ReadFault, NoMemory}

-- the most bytes that are read of a text, one more than the longest has
abbrev pub text_limit : ℕ
text_limit = 16777217

-- this was read: all there was, or as many bytes as the limit
pub record ReadsText (old new : Option (List ℕ)) (before now : ℕ) (text : List ℕ) : Type 0 where
  pub took : Took old new text
  pub most : length text ≤ text_limit
  pub all : length text < text_limit → IsUsedUp new
  pub no_fault : now ≡ before

-- the text was read, and these are its settings
pub record ReadsSettings (old new : Option (List ℕ)) (before now : ℕ) (settings : Settings) : Type 0 where
  pub text : List ℕ
  pub read : ReadsText old new before now text
  pub says : AreSettingsOf text settings

-- the text was read, and this is its least bad line
pub record ReadsBadText (old new : Option (List ℕ)) (before now line : ℕ) : Type 0 where
  pub text : List ℕ
  pub read : ReadsText old new before now text
  pub bad : IsAnswer text (Err (settings.BadConfig line))

-- a read that was due failed, whatever the bytes before it say
pub record FailsToReadText (old new : Option (List ℕ)) (before now : ℕ) : Type 0 where
  pub text : List ℕ
  pub took : Took old new text
  pub due : length text < text_limit
  pub cause : Fails before now

-- there was no memory for the text, or for its settings
pub record ReadsInVain (old new : Option (List ℕ)) (before now : ℕ) : Type 0 where
  pub text : List ℕ
  pub took : Took old new text
  pub most : length text ≤ text_limit
  pub no_fault : now ≡ before

-- what each fault says
abbrev pub FailsToConfigure : ConfigFault → Option (List ℕ) → Option (List ℕ) → ℕ → ℕ → Type 0
FailsToConfigure (BadConfig line) old new before now = ReadsBadText old new before now line
FailsToConfigure ReadFault old new before now = FailsToReadText old new before now
FailsToConfigure NoMemory old new before now = ReadsInVain old new before now

-- what each answer says
abbrev pub ReadsConfig : Result Settings ConfigFault → Option (List ℕ) → Option (List ℕ) → ℕ → ℕ → Type 0
ReadsConfig (Ok settings) old new before now = ReadsSettings old new before now settings
ReadsConfig (Err fault) old new before now = FailsToConfigure fault old new before now
