-- The command `/dc`: a controller serves so many turns.
use Rattle.std.specs.Prelude.{◌≡◌, ◌⊎◌, ℕ, List, take, Some}
use Rattle.base_specs.specs.Counts.{Fails, Rose}
use Rattle.base_specs.specs.Told.{Added}
use Rattle.dc_sign.specs.Serving.{Serves}
use Rattle.dc_sign.specs.declared.tally.ServeEnd.{ServeEnd}
use Rattle.dc_sign.specs.declared.tally.ServeWhy.{ServeWhy}
use Rattle.dc_sign.specs.declared.tally.ServeWhy.TheVariants as why
use Rattle.line_text.specs.Text.{joined, BreaksOff}
use Rattle.w32t_settings.specs.Answer.{AreSettingsOf}
use Rattle.w32t_settings.specs.declared.settings.Settings.{Settings}
use Rattle.w32tm_text.specs.Dc.{dc_lines}
use Rattle.w32tm_text.specs.declared.status.Status.{Status}
use Rattle.w32tm_text.specs.declared.status.Status.TheVariants.{Done, WriteFault, ClockFault, NoMemory}
use Rattle.edge_seen.specs.Seen.{Seen}
use Rattle.w32tm_cmd.specs.Seen.{IsOutIdle}
use Rattle.settings_source.specs.Reading.{text_limit}
use Rattle.w32tm_cmd.specs.Config.{Configures, after_settings, StopsAtConfig, IsBadConfigExact}

-- the devices when nothing was written yet, and all else was done
abbrev pub before_lines : Seen → Seen → Seen
before_lines before now = record now { written = before.written; write_faults = before.write_faults }

-- The settings were read, and a controller with their accounts served, until it ended so. The input was not read, and
-- no word was drawn.
pub record ServesUntil (turns : ℕ) (before now : Seen) (why : ServeWhy) (end : ServeEnd) : Type 0 where
  pub settings : Settings
  pub configured : Configures before now settings
  pub serves : Serves settings.book turns (after_settings before now) (before_lines before now) end
  pub ended : end.why ≡ why
  pub others : now ≡ record before {
    config = now.config;
    config_faults = now.config_faults;
    written = now.written;
    write_faults = now.write_faults;
    link = now.link;
    link_faults = now.link_faults;
    clock = now.clock;
    clock_faults = now.clock_faults;
  }

-- all turns were taken, and the closing lines were written
pub record ServesAll (turns : ℕ) (before now : Seen) : Type 0 where
  pub end : ServeEnd
  pub served : ServesUntil turns before now why.Done end
  pub closed : Added before.written now.written (joined (dc_lines end))
  pub no_fault : now.write_faults ≡ before.write_faults

-- all turns were taken, and the write of a closing line failed, in which the text broke off
pub record ServesUnclosed (turns : ℕ) (before now : Seen) : Type 0 where
  pub end : ServeEnd
  pub text : List ℕ
  pub served : ServesUntil turns before now why.Done end
  pub breaks_off : BreaksOff (dc_lines end) text
  pub written : Added before.written now.written text
  pub cause : Fails before.write_faults now.write_faults

-- a reading failed that was due for a datagram, and nothing was written
pub record ServesUnread (turns : ℕ) (before now : Seen) : Type 0 where
  pub end : ServeEnd
  pub served : ServesUntil turns before now why.ClockFault end
  pub out : IsOutIdle before now

-- what each answer of `/dc` says
abbrev pub RunsDc : ℕ → Seen → Seen → Status → Type 0
RunsDc turns before now Done = ServesAll turns before now
RunsDc turns before now WriteFault = ServesUnclosed turns before now
RunsDc turns before now ClockFault = ServesUnread turns before now
RunsDc turns before now status = StopsAtConfig before now status

-- Where the text is told and has settings, and no call of the settings, the output or the clock failed, it is done,
-- unless memory was wanted for the settings.
abbrev pub IsDcComplete : Seen → Seen → Status → Type 0
IsDcComplete before now result = (bytes : List ℕ) (settings : Settings) → before.config ≡ Some bytes
    → AreSettingsOf (take text_limit bytes) settings
    → ¬ Rose before.config_faults now.config_faults → ¬ Rose before.write_faults now.write_faults
    → ¬ Rose before.clock_faults now.clock_faults
    → (result ≡ Done) ⊎ (result ≡ NoMemory)

-- all that `/dc` promises of what is told
pub record DcPromise (turns : ℕ) (before now : Seen) (result : Status) : Type 0 where
  pub runs : RunsDc turns before now result
  pub exact : IsBadConfigExact before result
  pub complete : IsDcComplete before now result
