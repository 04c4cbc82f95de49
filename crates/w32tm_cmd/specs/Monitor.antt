-- The command `/monitor`: each computer of the settings is asked how far its clock is.
use Rattle.std.specs.Prelude.{◌≡◌, ◌⊎◌, ℕ, List, take, Some}
use Rattle.base_specs.specs.Counts.{Rose}
use Rattle.monitor_run.specs.Monitoring.{Monitors}
use Rattle.monitor_run.specs.declared.why.MonitorWhy.{MonitorWhy}
use Rattle.monitor_run.specs.declared.why.MonitorWhy.TheVariants as why
use Rattle.settings_source.specs.Reading.{text_limit}
use Rattle.w32t_settings.specs.Answer.{AreSettingsOf}
use Rattle.w32t_settings.specs.declared.settings.Settings.{Settings}
use Rattle.w32tm_text.specs.declared.status.Status.{Status}
use Rattle.w32tm_text.specs.declared.status.Status.TheVariants.{Done, WriteFault, ClockFault, EntropyFault, NoMemory}
use Rattle.edge_seen.specs.Seen.{Seen}
use Rattle.w32tm_cmd.specs.Config.{Configures, after_settings, StopsAtConfig, IsBadConfigExact}

-- The settings were read, and the computers of their directory were asked in its order, until the run ended so. The
-- input was not read, and nothing was recorded or reserved.
pub record MonitorsUntil (before now : Seen) (why : MonitorWhy) : Type 0 where
  pub settings : Settings
  pub configured : Configures before now settings
  pub monitors : Monitors settings.directory (after_settings before now) now why
  pub others : now ≡ record before {
    config = now.config;
    config_faults = now.config_faults;
    written = now.written;
    write_faults = now.write_faults;
    link = now.link;
    link_faults = now.link_faults;
    clock = now.clock;
    clock_faults = now.clock_faults;
    words = now.words;
    entropy_faults = now.entropy_faults;
  }

-- what each answer of `/monitor` says
abbrev pub RunsMonitor : Seen → Seen → Status → Type 0
RunsMonitor before now Done = MonitorsUntil before now why.Done
RunsMonitor before now WriteFault = MonitorsUntil before now why.WriteFault
RunsMonitor before now ClockFault = MonitorsUntil before now why.ClockFault
RunsMonitor before now EntropyFault = MonitorsUntil before now why.EntropyFault
RunsMonitor before now status = StopsAtConfig before now status

-- Where the text is told and has settings, and no call but the link's failed, it is done, unless memory was wanted for
-- the settings.
abbrev pub IsMonitorComplete : Seen → Seen → Status → Type 0
IsMonitorComplete before now result = (bytes : List ℕ) (settings : Settings) → before.config ≡ Some bytes
    → AreSettingsOf (take text_limit bytes) settings
    → ¬ Rose before.config_faults now.config_faults → ¬ Rose before.write_faults now.write_faults
    → ¬ Rose before.clock_faults now.clock_faults → ¬ Rose before.entropy_faults now.entropy_faults
    → (result ≡ Done) ⊎ (result ≡ NoMemory)

-- all that `/monitor` promises of what is told
pub record MonitorPromise (before now : Seen) (result : Status) : Type 0 where
  pub runs : RunsMonitor before now result
  pub exact : IsBadConfigExact before result
  pub complete : IsMonitorComplete before now result
