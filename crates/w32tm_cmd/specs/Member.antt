-- The command `/member`: a member keeps its clock by its domain, for so many turns.
use Rattle.std.specs.Prelude.{◌≡◌, ◌⊎◌, ◌+◌, ◌<◌, ◌≤◌, ℕ, List, take, Some}
use Rattle.base_specs.specs.Counts.{Rose}
use Rattle.run_deeds.specs.Lives.{Lives}
use Rattle.run_deeds.specs.declared.life_end.LifeEnd.{LifeEnd}
use Rattle.run_deeds.specs.declared.life_end.Why.{Why}
use Rattle.run_deeds.specs.declared.life_end.Why.TheVariants as why
use Rattle.settings_source.specs.Reading.{text_limit}
use Rattle.slot_disk.specs.Told.{DiskTold}
use Rattle.stamp_keep.specs.Image.{mark_of_image}
use Rattle.stamp_keep.specs.Keep.{IsLoadable}
use Rattle.stamp_keep.specs.Slots.{HasOtherVersion}
use Rattle.time_machine.specs.declared.conf.Conf.{Conf}
use Rattle.w32t_settings.specs.Answer.{AreSettingsOf}
use Rattle.w32t_settings.specs.declared.settings.Settings.{Settings}
use Rattle.w32tm_text.specs.Conf.{HasCandidate, IsConfOf}
use Rattle.w32tm_text.specs.declared.status.Status.{Status}
use Rattle.w32tm_text.specs.declared.status.Status.TheVariants.{Done, ReadFault, WriteFault, DiskFault, BadKeeper, StampsSpent, ClockFault, EntropyFault, NoPartner, NoMemory}
use Rattle.edge_seen.specs.Seen.{Seen}
use Rattle.w32tm_cmd.specs.Config.{Configures, after_settings, StopsAtConfig, IsBadConfigExact}
use Rattle.w32tm_cmd.specs.Partners.{HasNoPartner, IsNoPartnerExact}

-- The settings were read, and their member lived so many turns, until its run ended so. Its requests, corrections, capture
-- and report are the time machine's over the events that were woven of what was given (`Lives`). The input was not read.
pub record LivesUntil (turns : ℕ) (entry exit : DiskTold) (before now : Seen) (why : Why) : Type 0 where
  pub settings : Settings
  pub conf : Conf
  pub end : LifeEnd
  pub configured : Configures before now settings
  pub is_conf : IsConfOf settings conf
  pub lives : Lives conf turns entry exit (after_settings before now) now end
  pub ended : end.why ≡ why
  pub input : now.left ≡ before.left
  pub no_read_fault : now.read_faults ≡ before.read_faults

-- what each answer of `/member` says
abbrev pub RunsMember : ℕ → DiskTold → DiskTold → Seen → Seen → Status → Type 0
RunsMember turns entry exit before now Done = LivesUntil turns entry exit before now why.Done
RunsMember turns entry exit before now WriteFault = LivesUntil turns entry exit before now why.SinkFault
RunsMember turns entry exit before now DiskFault = LivesUntil turns entry exit before now why.DiskFault
RunsMember turns entry exit before now BadKeeper = LivesUntil turns entry exit before now why.BadVersion
RunsMember turns entry exit before now StampsSpent = LivesUntil turns entry exit before now why.StampsSpent
RunsMember turns entry exit before now ClockFault = LivesUntil turns entry exit before now why.ClockFault
RunsMember turns entry exit before now EntropyFault = LivesUntil turns entry exit before now why.EntropyFault
RunsMember turns entry exit before now NoPartner = HasNoPartner before now
RunsMember turns entry exit before now status = StopsAtConfig before now status

-- no call failed but those of the link
pub record IsMemberFaultless (before now : Seen) : Type 0 where
  pub config : ¬ Rose before.config_faults now.config_faults
  pub write : ¬ Rose before.write_faults now.write_faults
  pub capture : ¬ Rose before.capture_faults now.capture_faults
  pub clock : ¬ Rose before.clock_faults now.clock_faults
  pub disk : ¬ Rose before.disk_faults now.disk_faults
  pub entropy : ¬ Rose before.entropy_faults now.entropy_faults

-- Where the text is told and its settings have a candidate, the disk's content is told and of this version, and no call
-- failed but those of the link, it is done, unless memory was wanted for the settings or the counts were used up, which
-- comes exactly as `Lives` says.
abbrev pub IsMemberComplete : DiskTold → Seen → Seen → Status → Type 0
IsMemberComplete entry before now result = (bytes content : List ℕ) (settings : Settings) → before.config ≡ Some bytes
    → AreSettingsOf (take text_limit bytes) settings → HasCandidate settings
    → entry.content ≡ Some content → IsLoadable content → IsMemberFaultless before now
    → (result ≡ Done) ⊎ ((result ≡ NoMemory) ⊎ (result ≡ StampsSpent))

-- Where the text is told and its settings have a candidate, and the disk's content is told and of another version, the
-- answer is that, unless a call of the disk or a read failed or memory was wanted first.
abbrev pub IsBadKeeperExact : DiskTold → Seen → Status → Type 0
IsBadKeeperExact entry before result = (bytes content : List ℕ) (settings : Settings) → before.config ≡ Some bytes
    → AreSettingsOf (take text_limit bytes) settings → HasCandidate settings
    → entry.content ≡ Some content → HasOtherVersion content
    → (result ≡ BadKeeper) ⊎ ((result ≡ DiskFault) ⊎ ((result ≡ ReadFault) ⊎ (result ≡ NoMemory)))

-- Where a turn is asked for, the text is told and its settings have a candidate, the disk's content is told, of this
-- version and past the last mark from which a block fits, and no call failed but those of the link, the answer is that,
-- unless memory was wanted for the settings.
abbrev pub IsStampsSpentExact : ℕ → DiskTold → Seen → Seen → Status → Type 0
IsStampsSpentExact turns entry before now result = (bytes content : List ℕ) (settings : Settings) → 0 < turns
    → before.config ≡ Some bytes → AreSettingsOf (take text_limit bytes) settings → HasCandidate settings
    → entry.content ≡ Some content → IsLoadable content → 4294967231 < mark_of_image content
    → IsMemberFaultless before now → (result ≡ StampsSpent) ⊎ (result ≡ NoMemory)

-- Where text and disk are told so, and the mark and the turns together are 4,294,967,232 at most, so that each block
-- that may be due fits, and no call failed but those of the link, it is done, unless memory was wanted for the settings.
abbrev pub IsMemberDoneWithin : ℕ → DiskTold → Seen → Seen → Status → Type 0
IsMemberDoneWithin turns entry before now result = (bytes content : List ℕ) (settings : Settings)
    → before.config ≡ Some bytes → AreSettingsOf (take text_limit bytes) settings → HasCandidate settings
    → entry.content ≡ Some content → IsLoadable content → mark_of_image content + turns ≤ 4294967232
    → IsMemberFaultless before now → (result ≡ Done) ⊎ (result ≡ NoMemory)

-- all that `/member` promises of what is told
pub record MemberPromise (turns : ℕ) (entry exit : DiskTold) (before now : Seen) (result : Status) : Type 0 where
  pub runs : RunsMember turns entry exit before now result
  pub exact : IsBadConfigExact before result
  pub no_partner : IsNoPartnerExact before result
  pub bad_keeper : IsBadKeeperExact entry before result
  pub complete : IsMemberComplete entry before now result
  pub stamps_spent : IsStampsSpentExact turns entry before now result
  pub enough : IsMemberDoneWithin turns entry before now result
