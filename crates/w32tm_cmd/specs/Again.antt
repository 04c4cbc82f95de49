-- A run of `/member`, and a replay of what it recorded.
use Rattle.std.specs.Prelude.{◌≡◌, ◌≤◌, ◌++◌, ℕ, List, take, Some}
use Rattle.base_specs.specs.Told.{Added}
use Rattle.run_deeds.specs.Closing.{link_line}
use Rattle.run_deeds.specs.declared.life_end.Why.TheVariants as why
use Rattle.settings_source.specs.Reading.{text_limit}
use Rattle.slot_disk.specs.Told.{DiskTold}
use Rattle.w32t_settings.specs.Answer.{AreSettingsOf}
use Rattle.w32t_settings.specs.declared.settings.Settings.{Settings}
use Rattle.w32tm_text.specs.declared.status.Status.{Status}
use Rattle.w32tm_cmd.specs.Member.{LivesUntil}
use Rattle.w32tm_cmd.specs.Replay.{ReplayPromise}
use Rattle.edge_seen.specs.Seen.{Seen}

-- in a run that ended well this capture was recorded, and its sink tells
pub record Records (turns : ℕ) (entry exit : DiskTold) (before now : Seen) (capture : List ℕ) : Type 0 where
  pub lived : LivesUntil turns entry exit before now why.Done
  pub few : turns ≤ 1000000
  pub old : List ℕ
  pub told : before.capture ≡ Some old
  pub grew : now.capture ≡ Some (old ++ capture)

-- a replay of exactly this capture under a text with these settings
pub record ReplaysAgain (settings : Settings) (capture : List ℕ) (before now : Seen) (result : Status) : Type 0 where
  pub bytes : List ℕ
  pub told : before.config ≡ Some bytes
  pub says : AreSettingsOf (take text_limit bytes) settings
  pub given : before.left ≡ Some capture
  pub promise : ReplayPromise before now result

-- the replay wrote the lines of the run, but for the last one, which says what the link did
pub record WritesSameLines (quiet lost : ℕ) (before now later last : Seen) : Type 0 where
  pub lines : List ℕ
  pub run : Added before.written now.written (lines ++ link_line quiet lost)
  pub replay : Added later.written last.written lines
