-- A run that asks every computer of a directory how far its clock is.
use Rattle.std.specs.Prelude.{◌≡◌, ℕ, List, ◌++◌, Option}
use Rattle.base_specs.specs.Told.{Added}
use Rattle.edge_traits.specs.Clock.{ClockCall}
use Rattle.edge_traits.specs.Link.{LinkCall}
use Rattle.edge_seen.specs.Seen.{Seen}
use Rattle.partner_pick.specs.declared.entry.Entry.{Entry}
use Rattle.line_text.specs.Text.{joined}
use Rattle.monitor_run.specs.declared.why.MonitorWhy.{MonitorWhy}
use Rattle.monitor_run.specs.Asking.{Asked, Deed, Did, asking, deeds_of, entries_of, lines_of, then}
use Rattle.monitor_run.specs.Ending.{FailsIf, MonitorEndsBy, is_clock_fault, is_entropy_fault, is_write_fault}

-- what the devices tell where link, clock, entropy and sink tell this
abbrev pub monitoring : Seen → Option (List LinkCall) → ℕ → Option (List ClockCall) → ℕ → Option (List ℕ) → ℕ → Option (List ℕ) → ℕ → Seen
monitoring others link link_faults clock clock_faults words entropy_faults written write_faults =
    record (asking others link link_faults clock clock_faults words entropy_faults) { written = written; write_faults = write_faults }

-- A run over these entries. Those in front were asked in their order, each once, and their lines were written; then it
-- ended so. That is all that the devices gave and took, and no call failed but the one that ended the run and those of
-- the link.
pub record Monitors (entries : List Entry) (before now : Seen) (why : MonitorWhy) : Type 0 where
  pub asked : List Asked
  pub rest : List Entry
  pub last : Deed
  pub text : List ℕ
  pub are : entries ≡ entries_of asked ++ rest
  pub ends : MonitorEndsBy why asked rest last text
  pub did : Did (then (deeds_of asked) last) before now
  pub wrote : Added before.written now.written (joined (lines_of asked) ++ text)
  pub clock_count : FailsIf (is_clock_fault why) before.clock_faults now.clock_faults
  pub entropy_count : FailsIf (is_entropy_fault why) before.entropy_faults now.entropy_faults
  pub write_count : FailsIf (is_write_fault why) before.write_faults now.write_faults
