-- How a command ends whose settings have no candidate for their role.
use Rattle.std.specs.Prelude.{◌≡◌, ◌⊎◌, ℕ, List, take, Some}
use Rattle.settings_source.specs.Reading.{text_limit}
use Rattle.w32t_settings.specs.Answer.{AreSettingsOf}
use Rattle.w32t_settings.specs.declared.settings.Settings.{Settings}
use Rattle.w32tm_text.specs.Conf.{HasNoCandidate}
use Rattle.w32tm_text.specs.declared.status.Status.{Status}
use Rattle.w32tm_text.specs.declared.status.Status.TheVariants.{ReadFault, NoPartner, NoMemory}
use Rattle.edge_seen.specs.Seen.{Seen}
use Rattle.w32tm_cmd.specs.Config.{Configures, TouchesConfigAlone}

-- the settings were read, and none of their computers is a candidate for their role; no other device was touched
pub record HasNoPartner (before now : Seen) : Type 0 where
  pub settings : Settings
  pub configured : Configures before now settings
  pub none : HasNoCandidate settings
  pub alone : TouchesConfigAlone before now

-- Where the text is told and its settings have no candidate, the answer is that, unless a read failed or memory was
-- wanted first.
abbrev pub IsNoPartnerExact : Seen → Status → Type 0
IsNoPartnerExact before result = (bytes : List ℕ) (settings : Settings) → before.config ≡ Some bytes
    → AreSettingsOf (take text_limit bytes) settings → HasNoCandidate settings
    → (result ≡ NoPartner) ⊎ ((result ≡ ReadFault) ⊎ (result ≡ NoMemory))
