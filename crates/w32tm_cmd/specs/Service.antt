-- The command `/service`: a member whose requests are asked for by the calls of so many sessions at most.
use Rattle.std.specs.Prelude.{◌≡◌, ◌≢◌, ◌⊎◌, ℕ, List, [], ◌∷◌, ◌++◌, take, Some}
use Rattle.base_specs.specs.Counts.{Rose}
use Rattle.edge_seen.specs.Seen.{Seen}
use Rattle.edge_traits.specs.Wire.{Entry, Failed}
use Rattle.partner_pick.specs.Ranking.{IsRanked}
use Rattle.run_deeds.specs.Devices.{NeedsCount, NoneRose, faults_of}
use Rattle.service_run.specs.Profile.{profile_of}
use Rattle.service_run.specs.Serving.{Serves}
use Rattle.settings_source.specs.Reading.{text_limit}
use Rattle.slot_disk.specs.Calls.{IsUnchanged}
use Rattle.slot_disk.specs.Told.{DiskTold}
use Rattle.stamp_keep.specs.Keep.{IsLoadable}
use Rattle.time_machine.specs.declared.conf.Conf.{Conf}
use Rattle.w32t_settings.specs.Answer.{AreSettingsOf}
use Rattle.w32t_settings.specs.declared.settings.Settings.{Settings}
use Rattle.w32tm_text.specs.Conf.{HasCandidate, IsConfOf}
use Rattle.w32tm_text.specs.Words.{IsService}
use Rattle.w32tm_text.specs.declared.status.Status.{Status}
use Rattle.w32tm_text.specs.declared.status.Status.TheVariants.{Done, ReadFault, WriteFault, DiskFault, BadKeeper, StampsSpent, ClockFault, EntropyFault, NoPartner, NoMemory}
use Rattle.w32tm_cmd.specs.Ask.{IsAsk}
use Rattle.w32tm_cmd.specs.Config.{Configures, IsBadConfigExact, StopsAtConfig, after_settings}
use Rattle.w32tm_cmd.specs.Member.{IsBadKeeperExact, IsMemberFaultless}
use Rattle.w32tm_cmd.specs.Partners.{HasNoPartner, IsNoPartnerExact}
use Rattle.w32tm_cmd.specs.Seen.{HasCause}

-- ---- What a run does

-- The settings were read, and a service of theirs served so many sessions of the wire at most, until it ended so. The calls
-- of the sessions, the answers written to them, the events woven of the calls, the requests, corrections, capture, lines and
-- marks are as `Serves` says. The input was not read.
pub record ServesUntil (sessions : ℕ) (entry exit : DiskTold) (before now : Seen) (status : Status) : Type 0 where
  pub settings : Settings
  pub conf : Conf
  -- the places of the partners in the settings' directory, in rank
  pub ranked : List ℕ
  pub configured : Configures before now settings
  pub is_conf : IsConfOf settings conf
  pub is_ranked : IsRanked settings.role settings.name settings.directory ranked
  pub serves : Serves conf (profile_of settings ranked) sessions entry exit (after_settings before now) now status
  -- no mark is left exactly where a call for a request is next, the Life was taken, no call failed but those of the link and
  -- of sessions, and the counts are used up, which `serves` says of this answer
  pub spent : serves.woven.events ≢ [] → NoneRose (faults_of before) (faults_of now) → NeedsCount serves.woven.need → status ≡ StampsSpent
  pub input : now.left ≡ before.left
  pub no_read_fault : now.read_faults ≡ before.read_faults

-- what each answer of `/service` says; where a read of the settings failed, the disk stays
abbrev pub RunsService : ℕ → DiskTold → DiskTold → Seen → Seen → Status → Type 0
RunsService sessions entry exit before now Done = ServesUntil sessions entry exit before now Done
RunsService sessions entry exit before now WriteFault = ServesUntil sessions entry exit before now WriteFault
RunsService sessions entry exit before now DiskFault = ServesUntil sessions entry exit before now DiskFault
RunsService sessions entry exit before now BadKeeper = ServesUntil sessions entry exit before now BadKeeper
RunsService sessions entry exit before now StampsSpent = ServesUntil sessions entry exit before now StampsSpent
RunsService sessions entry exit before now ClockFault = ServesUntil sessions entry exit before now ClockFault
RunsService sessions entry exit before now EntropyFault = ServesUntil sessions entry exit before now EntropyFault
RunsService sessions entry exit before now ReadFault = (StopsAtConfig before now ReadFault × IsUnchanged entry exit) ⊎ ServesUntil sessions entry exit before now ReadFault
RunsService sessions entry exit before now NoPartner = HasNoPartner before now
RunsService sessions entry exit before now status = StopsAtConfig before now status

-- ---- Which answer comes

-- No request for a session failed, by the count of the wire, or by what the wire tells of the last one.
abbrev pub IsOpenedWell : Seen → Seen → Type 0
IsOpenedWell before now = (¬ Rose before.wire_faults now.wire_faults)
    ⊎ ((entries : List Entry) × (now.wire ≡ Some entries) × ((earlier : List Entry) → entries ≢ earlier ++ Failed ∷ []))

-- no call failed but those of the link, and reads and writes of sessions
pub record IsServiceFaultless (before now : Seen) : Type 0 where
  pub devices : IsMemberFaultless before now
  pub opened : IsOpenedWell before now

-- Where the text is told and its settings have a candidate, the disk's content is told and of this version, and no call
-- failed but those of the link and of sessions, it is done, whatever the peers send, unless memory was wanted for the
-- settings or the counts were used up, which comes exactly as `ServesUntil` says.
abbrev pub IsServiceComplete : DiskTold → Seen → Seen → Status → Type 0
IsServiceComplete entry before now result = (bytes content : List ℕ) (settings : Settings) → before.config ≡ Some bytes
    → AreSettingsOf (take text_limit bytes) settings → HasCandidate settings
    → entry.content ≡ Some content → IsLoadable content → IsServiceFaultless before now
    → (result ≡ Done) ⊎ ((result ≡ NoMemory) ⊎ (result ≡ StampsSpent))

-- A fault that is answered raised the count of a call that it speaks of. A failed read is one of the settings, or a request
-- for a session that failed. A session's failed write is no failed write of the command.
abbrev pub HasServiceCause : Status → Seen → Seen → Type 0
HasServiceCause ReadFault before now =
    Rose before.config_faults now.config_faults ⊎ Rose before.wire_faults now.wire_faults
HasServiceCause status before now = HasCause status before now

-- all that `/service` promises of what is told
pub record ServicePromise (sessions : ℕ) (entry exit : DiskTold) (before now : Seen) (result : Status) : Type 0 where
  pub runs : RunsService sessions entry exit before now result
  pub exact : IsBadConfigExact before result
  pub no_partner : IsNoPartnerExact before result
  pub bad_keeper : IsBadKeeperExact entry before result
  pub complete : IsServiceComplete entry before now result
  pub cause : HasServiceCause result before now

-- ---- The commands over the wire

-- the words spell a command whose faults may be the wire's
abbrev pub IsOverWire : List (List ℕ) → Type 0
IsOverWire words = IsAsk words ⊎ ((sessions : ℕ) × IsService sessions words)
