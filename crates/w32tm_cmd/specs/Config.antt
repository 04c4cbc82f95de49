-- How a command reads its settings, and how one ends that gets none.
use Rattle.std.specs.Prelude.{◌≡◌, ◌⊎◌, ℕ, List, take, Some, Err}
use Rattle.settings_source.specs.Reading.{FailsToReadText, ReadsBadText, ReadsInVain, ReadsSettings, text_limit}
use Rattle.settings_source.specs.declared.read.ConfigFault.{ConfigFault}
use Rattle.settings_source.specs.declared.read.ConfigFault.TheVariants as config
use Rattle.w32t_settings.specs.Answer.{IsAnswer}
use Rattle.w32t_settings.specs.declared.settings.Settings.{Settings}
use Rattle.w32t_settings.specs.declared.settings.SettingsFault.TheVariants as settings
use Rattle.w32tm_text.specs.declared.status.Status.{Status}
use Rattle.w32tm_text.specs.declared.status.Status.TheVariants.{BadConfig, ReadFault, NoMemory}
use Rattle.edge_seen.specs.Seen.{Seen}

-- the settings were read, and these are they
abbrev pub Configures : Seen → Seen → Settings → Type 0
Configures before now settings = ReadsSettings before.config now.config before.config_faults now.config_faults settings

-- the devices when the settings were read, and nothing else was done
abbrev pub after_settings : Seen → Seen → Seen
after_settings before now = record before { config = now.config; config_faults = now.config_faults }

-- no device but the settings' was touched
abbrev pub TouchesConfigAlone : Seen → Seen → Type 0
TouchesConfigAlone before now = now ≡ after_settings before now

-- what each answer says of a command that got no settings
abbrev pub StopsAtConfig : Seen → Seen → Status → Type 0
StopsAtConfig before now (BadConfig line) =
    ReadsBadText before.config now.config before.config_faults now.config_faults line × TouchesConfigAlone before now
StopsAtConfig before now ReadFault =
    FailsToReadText before.config now.config before.config_faults now.config_faults × TouchesConfigAlone before now
StopsAtConfig before now NoMemory =
    ReadsInVain before.config now.config before.config_faults now.config_faults × TouchesConfigAlone before now
StopsAtConfig before now _ = ⊥

-- the answer of a command whose settings gave this fault
abbrev pub status_of : ConfigFault → Status
status_of (config.BadConfig line) = BadConfig line
status_of config.ReadFault = ReadFault
status_of config.NoMemory = NoMemory

-- Where the text is told and has a bad line, the answer is that line, unless a read failed or memory was wanted first.
abbrev pub IsBadConfigExact : Seen → Status → Type 0
IsBadConfigExact before result = (bytes : List ℕ) (line : ℕ) → before.config ≡ Some bytes
    → IsAnswer (take text_limit bytes) (Err (settings.BadConfig line))
    → (result ≡ BadConfig line) ⊎ ((result ≡ ReadFault) ⊎ (result ≡ NoMemory))
