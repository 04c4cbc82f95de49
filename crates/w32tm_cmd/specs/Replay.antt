-- The command `/replay`: a member is stepped through a capture.
use Rattle.std.specs.Prelude.{◌≡◌, ◌⊎◌, ◌<◌, ℕ, List, length, take, Some}
use Rattle.base_specs.specs.Counts.{Rose}
use Rattle.capture_fmt.specs.declared.event.Event.{Event}
use Rattle.capture_fmt.specs.Capture.{SpellsEvents, place_limit}
use Rattle.time_machine.specs.declared.conf.Conf.{Conf}
use Rattle.time_machine.specs.Growing.{Grows}
use Rattle.replay_run.specs.Judged.{ReplaysTo}
use Rattle.replay_run.specs.Replay.{Replays, ReportsAll, history_of}
use Rattle.replay_run.specs.declared.end.ReplayEnd.{ReplayEnd}
use Rattle.replay_run.specs.declared.end.ReplayWhy.{ReplayWhy}
use Rattle.replay_run.specs.declared.end.ReplayWhy.TheVariants as why
use Rattle.settings_source.specs.Reading.{text_limit}
use Rattle.w32t_settings.specs.Answer.{AreSettingsOf}
use Rattle.w32t_settings.specs.declared.settings.Settings.{Settings}
use Rattle.w32tm_text.specs.Conf.{HasCandidate, IsConfOf}
use Rattle.w32tm_text.specs.declared.status.Status.{Status}
use Rattle.w32tm_text.specs.declared.status.Status.TheVariants.{Done, BadCapture, ReadFault, WriteFault, NoPartner, NoMemory}
use Rattle.edge_seen.specs.Seen.{Seen}
use Rattle.w32tm_cmd.specs.Config.{Configures, after_settings, StopsAtConfig, IsBadConfigExact}
use Rattle.w32tm_cmd.specs.Partners.{HasNoPartner, IsNoPartnerExact}

-- The settings were read, and a new member of theirs was stepped through the capture, until the replay ended so. No
-- datagram was sent or taken, the clock was neither read nor moved, and no word was drawn.
pub record ReplaysUntil (before now : Seen) (why : ReplayWhy) : Type 0 where
  pub settings : Settings
  pub conf : Conf
  pub end : ReplayEnd
  pub configured : Configures before now settings
  pub is_conf : IsConfOf settings conf
  pub replays : Replays conf (after_settings before now) now end
  pub ended : end.why ≡ why
  pub others : now ≡ record before {
    config = now.config;
    config_faults = now.config_faults;
    left = now.left;
    read_faults = now.read_faults;
    written = now.written;
    write_faults = now.write_faults;
  }

-- what each answer of `/replay` says
abbrev pub RunsReplay : Seen → Seen → Status → Type 0
RunsReplay before now Done = ReplaysUntil before now why.Done
RunsReplay before now (BadCapture at) = ReplaysUntil before now (why.BadCapture at)
RunsReplay before now ReadFault = StopsAtConfig before now ReadFault ⊎ ReplaysUntil before now why.ReadFault
RunsReplay before now WriteFault = ReplaysUntil before now why.WriteFault
RunsReplay before now NoPartner = HasNoPartner before now
RunsReplay before now status = StopsAtConfig before now status

-- no call of the settings, the capture or the output failed
pub record IsReplayFaultless (before now : Seen) : Type 0 where
  pub config : ¬ Rose before.config_faults now.config_faults
  pub read : ¬ Rose before.read_faults now.read_faults
  pub write : ¬ Rose before.write_faults now.write_faults

-- Where text and capture are told, they decide on where the capture is bad, unless a call failed or memory was wanted
-- first.
abbrev pub IsBadCaptureExact : Seen → Status → Type 0
IsBadCaptureExact before result = (bytes capture : List ℕ) (settings : Settings) (conf : Conf) (at : ℕ)
    → before.config ≡ Some bytes → AreSettingsOf (take text_limit bytes) settings → IsConfOf settings conf
    → before.left ≡ Some capture → ReplaysTo conf capture (why.BadCapture at)
    → (result ≡ BadCapture at) ⊎ ((result ≡ ReadFault) ⊎ ((result ≡ WriteFault) ⊎ (result ≡ NoMemory)))

-- Where the text has settings with a candidate, the capture is below 2^40 bytes and spells a history that grows, and no
-- call failed, it is done, unless memory was wanted for the settings.
abbrev pub IsReplayComplete : Seen → Seen → Status → Type 0
IsReplayComplete before now result = (bytes capture : List ℕ) (settings : Settings) (events : List Event)
    → before.config ≡ Some bytes → AreSettingsOf (take text_limit bytes) settings → HasCandidate settings
    → before.left ≡ Some capture → SpellsEvents events capture → length capture < place_limit
    → ((conf : Conf) → IsConfOf settings conf → Grows conf (history_of events)) → IsReplayFaultless before now
    → (result ≡ Done) ⊎ (result ≡ NoMemory)

-- The same of settings whose member is this one.
abbrev pub IsReplayDoneOf : Seen → Seen → Status → Type 0
IsReplayDoneOf before now result = (bytes capture : List ℕ) (settings : Settings) (conf : Conf) (events : List Event)
    → before.config ≡ Some bytes → AreSettingsOf (take text_limit bytes) settings → IsConfOf settings conf
    → before.left ≡ Some capture → SpellsEvents events capture → length capture < place_limit
    → Grows conf (history_of events) → IsReplayFaultless before now
    → (result ≡ Done) ⊎ (result ≡ NoMemory)

-- Where the text has settings and the capture spells events, and it is done, the report of exactly their history was
-- written, and the total line.
abbrev pub IsReplayWhole : Seen → Seen → Status → Type 0
IsReplayWhole before now result = (bytes capture : List ℕ) (settings : Settings) (conf : Conf) (events : List Event)
    → before.config ≡ Some bytes → AreSettingsOf (take text_limit bytes) settings → IsConfOf settings conf
    → before.left ≡ Some capture → SpellsEvents events capture → result ≡ Done
    → (end : ReplayEnd) × ReportsAll conf (history_of events) end before.written now.written

-- all that `/replay` promises of what is told
pub record ReplayPromise (before now : Seen) (result : Status) : Type 0 where
  pub runs : RunsReplay before now result
  pub exact : IsBadConfigExact before result
  pub no_partner : IsNoPartnerExact before result
  pub bad_capture : IsBadCaptureExact before result
  pub complete : IsReplayComplete before now result
  pub done_of : IsReplayDoneOf before now result
  pub whole : IsReplayWhole before now result
