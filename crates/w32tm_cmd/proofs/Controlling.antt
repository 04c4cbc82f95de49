-- What follows from a run of `/dc` for each answer.
use Rattle.std.proofs.Common.{◌≡◌, ℕ, inl, inr, refl, sym, subst}
use Rattle.base_specs.specs.Counts.{Rose}
use Rattle.dc_sign.specs.Serving.{Serves, serving}
use Rattle.dc_sign.specs.declared.tally.ServeEnd.{ServeEnd}
use Rattle.dc_sign.specs.declared.tally.ServeWhy.{ServeWhy}
use Rattle.w32t_settings.specs.declared.settings.Settings.{Settings}
use Rattle.w32tm_cmd.specs.Dc.{DcPromise, RunsDc, IsDcComplete, ServesUntil, before_lines}
use Rattle.w32tm_cmd.specs.Config.{Configures, IsBadConfigExact, StopsAtConfig, after_settings}
use Rattle.edge_seen.specs.Seen.{Seen}
use Rattle.w32tm_cmd.proofs.Configuring.{rose, settings_exact, stops_exact, stops_for_memory}
use Rattle.w32tm_text.specs.declared.status.Status.{Status}
use Rattle.w32tm_text.specs.declared.status.Status.TheVariants.{Done, WriteFault, ClockFault}

-- the turns of the settings' controller, which are the same whatever the other devices tell
abbrev pub served : (turns : ℕ) (before now : Seen) (why : ServeWhy) (end : ServeEnd) (settings : Settings) → Configures before now settings
    → ((others : Seen) → Serves settings.book turns (serving others before.link before.link_faults before.clock before.clock_faults)
    (serving others now.link now.link_faults now.clock now.clock_faults) end)
    → end.why ≡ why → now ≡ record before {
      config = now.config;
      config_faults = now.config_faults;
      written = now.written;
      write_faults = now.write_faults;
      link = now.link;
      link_faults = now.link_faults;
      clock = now.clock;
      clock_faults = now.clock_faults;
    } → ServesUntil turns before now why end
served turns before now why end settings configured serves ended others = record {
  settings = settings;
  configured = configured;
  serves = subst (λ (s : Seen). Serves settings.book turns (after_settings before now) (before_lines before s) end) (sym others) (serves (after_settings before now));
  ended = ended;
  others = others;
}

exact : (turns : ℕ) (before now : Seen) (result : Status) → RunsDc turns before now result → IsBadConfigExact before result
exact turns before now Done runs = settings_exact before now runs.served.settings Done runs.served.configured
exact turns before now WriteFault runs = settings_exact before now runs.served.settings WriteFault runs.served.configured
exact turns before now ClockFault runs = settings_exact before now runs.served.settings ClockFault runs.served.configured
exact turns before now status runs = stops_exact before now status runs

complete : (turns : ℕ) (before now : Seen) (result : Status) → RunsDc turns before now result
    → (result ≡ ClockFault → Rose before.clock_faults now.clock_faults) → IsDcComplete before now result
complete turns before now Done runs cause bytes settings told says config write clock = inl refl
complete turns before now WriteFault runs cause bytes settings told says config write clock = absurd (write (rose _ _ runs.cause))
complete turns before now ClockFault runs cause bytes settings told says config write clock = absurd (clock (cause refl))
complete turns before now status runs cause bytes settings told says config write clock = inr (stops_for_memory before now settings status bytes told says config runs)

pub promises : (turns : ℕ) (before now : Seen) (result : Status) → RunsDc turns before now result
    → (result ≡ ClockFault → Rose before.clock_faults now.clock_faults) → DcPromise turns before now result
promises turns before now result runs cause =
    record { runs = runs; exact = exact turns before now result runs; complete = complete turns before now result runs cause }

-- a command that got no settings
pub stopped : (turns : ℕ) (before now : Seen) (result : Status) → StopsAtConfig before now result → DcPromise turns before now result
stopped turns before now Done stops = absurd stops
stopped turns before now WriteFault stops = absurd stops
stopped turns before now ClockFault stops = absurd stops
stopped turns before now status stops = promises turns before now status stops (λ is. cc is)
