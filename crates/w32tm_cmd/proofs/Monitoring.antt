-- What follows from a run of `/monitor` for each answer.
use Rattle.std.proofs.Common.{◌≡◌, inl, inr, refl, sym, subst}
use Rattle.base_specs.specs.Counts.{Rose}
use Rattle.monitor_run.specs.Monitoring.{Monitors, monitoring}
use Rattle.monitor_run.specs.declared.why.MonitorWhy.{MonitorWhy}
use Rattle.w32t_settings.specs.declared.settings.Settings.{Settings}
use Rattle.w32tm_cmd.specs.Monitor.{MonitorPromise, MonitorsUntil, RunsMonitor, IsMonitorComplete}
use Rattle.w32tm_cmd.specs.Config.{Configures, IsBadConfigExact, StopsAtConfig, after_settings}
use Rattle.edge_seen.specs.Seen.{Seen}
use Rattle.w32tm_cmd.proofs.Configuring.{settings_exact, stops_exact, stops_for_memory}
use Rattle.w32tm_text.specs.declared.status.Status.{Status}
use Rattle.w32tm_text.specs.declared.status.Status.TheVariants.{Done, WriteFault, ClockFault, EntropyFault}

-- the run over the settings' directory, which is the same whatever the other devices tell
abbrev pub monitored : (before now : Seen) (why : MonitorWhy) (settings : Settings) → Configures before now settings
    → ((others : Seen) → Monitors settings.directory
    (monitoring others before.link before.link_faults before.clock before.clock_faults before.words before.entropy_faults before.written before.write_faults)
    (monitoring others now.link now.link_faults now.clock now.clock_faults now.words now.entropy_faults now.written now.write_faults) why)
    → now ≡ record before {
      config = now.config;
      config_faults = now.config_faults;
      written = now.written;
      write_faults = now.write_faults;
      link = now.link;
      link_faults = now.link_faults;
      clock = now.clock;
      clock_faults = now.clock_faults;
      words = now.words;
      entropy_faults = now.entropy_faults;
    } → MonitorsUntil before now why
monitored before now why settings configured monitors others = record {
  settings = settings;
  configured = configured;
  monitors = subst (λ (s : Seen). Monitors settings.directory (after_settings before now) s why) (sym others) (monitors (after_settings before now));
  others = others;
}

-- each fault of a run raised its count
pub record Causes (before now : Seen) (result : Status) : Type 0 where
  pub write : result ≡ WriteFault → Rose before.write_faults now.write_faults
  pub clock : result ≡ ClockFault → Rose before.clock_faults now.clock_faults
  pub entropy : result ≡ EntropyFault → Rose before.entropy_faults now.entropy_faults

exact : (before now : Seen) (result : Status) → RunsMonitor before now result → IsBadConfigExact before result
exact before now Done runs = settings_exact before now runs.settings Done runs.configured
exact before now WriteFault runs = settings_exact before now runs.settings WriteFault runs.configured
exact before now ClockFault runs = settings_exact before now runs.settings ClockFault runs.configured
exact before now EntropyFault runs = settings_exact before now runs.settings EntropyFault runs.configured
exact before now status runs = stops_exact before now status runs

complete : (before now : Seen) (result : Status) → RunsMonitor before now result → Causes before now result → IsMonitorComplete before now result
complete before now Done runs causes bytes settings told says config write clock entropy = inl refl
complete before now WriteFault runs causes bytes settings told says config write clock entropy = absurd (write (causes.write refl))
complete before now ClockFault runs causes bytes settings told says config write clock entropy = absurd (clock (causes.clock refl))
complete before now EntropyFault runs causes bytes settings told says config write clock entropy = absurd (entropy (causes.entropy refl))
complete before now status runs causes bytes settings told says config write clock entropy = inr (stops_for_memory before now settings status bytes told says config runs)

pub promises : (before now : Seen) (result : Status) → RunsMonitor before now result → Causes before now result → MonitorPromise before now result
promises before now result runs causes = record { runs = runs; exact = exact before now result runs; complete = complete before now result runs causes }

-- a command that got no settings
pub stopped : (before now : Seen) (result : Status) → StopsAtConfig before now result → MonitorPromise before now result
stopped before now Done stops = absurd stops
stopped before now WriteFault stops = absurd stops
stopped before now ClockFault stops = absurd stops
stopped before now EntropyFault stops = absurd stops
stopped before now status stops = promises before now status stops (record { write = λ is. cc is; clock = λ is. cc is; entropy = λ is. cc is })
