-- What the private functions do, and what was done after some of the entries.
use Rattle.std.specs.Prelude.{◌≡◌, ◌<◌, ℕ, List, [], ◌∷◌, length, Option, ⊤}
use Rattle.base_specs.specs.Counts.{Fails}
use Rattle.base_specs.specs.Time.{IsReading}
use Rattle.base_specs.specs.Told.{Added, Grew}
use Rattle.edge_traits.specs.Clock.{ClockCall, GaveReadings}
use Rattle.edge_traits.specs.Link.{LinkCall, Receive, ReceiptCounts}
use Rattle.edge_traits.specs.Sink.{Writes}
use Rattle.edge_traits.specs.declared.datagram.Addr.{Addr}
use Rattle.edge_traits.specs.declared.link.Receipt.TheVariants as receipt
use Rattle.edge_traits.specs.declared.sink.Put.TheVariants as write
use Rattle.edge_seen.specs.Seen.{Seen}
use Rattle.partner_pick.specs.declared.entry.Entry.{Entry}
use Rattle.line_text.specs.Text.{joined}
use Rattle.monitor_run.specs.declared.asking.Ask.{Ask}
use Rattle.monitor_run.specs.declared.asking.Heard.{Heard}
use Rattle.monitor_run.specs.declared.asking.Heard.TheVariants.{Came, Quiet, Lost}
use Rattle.monitor_run.specs.declared.finding.Finding.{Finding}
use Rattle.monitor_run.specs.declared.why.MonitorWhy.{MonitorWhy}
use Rattle.monitor_run.specs.declared.why.MonitorWhy.TheVariants.{ClockFault, EntropyFault, WriteFault}
use Rattle.monitor_run.specs.Asking.{Asked, Deed, Did, answered_of, deed_of, deeds_of, entries_of, finding_at, lines_of, readings_heard, receipt_heard}
use Rattle.monitor_run.specs.Ending.{FailsIf, StopsAsking, StopsAt, is_clock_fault, is_entropy_fault, is_write_fault}
use Rattle.monitor_run.specs.Lines.{line_of}

-- ---- One entry

-- the reading at the arrival of a datagram is one
abbrev pub HeardFits : Heard → Type 0
HeardFits (Came from bytes at) = IsReading at
HeardFits Quiet = ⊤
HeardFits Lost = ⊤

-- a receipt was taken, the clock was read behind a datagram, and this came of it
pub record Hears (heard : Heard) (old new : Option (List LinkCall)) (faults now : ℕ) (told later : Option (List ClockCall)) (before after : ℕ) : Type 0 where
  pub fits : HeardFits heard
  pub gave : Grew old new (Receive (receipt_heard heard) ∷ [])
  pub counts : ReceiptCounts (receipt_heard heard) faults now
  pub read : GaveReadings told later (readings_heard heard)
  pub no_clock_fault : after ≡ before

-- a datagram came, and the reading behind it failed
pub record HearsUnread (why : MonitorWhy) (old new : Option (List LinkCall)) (faults now : ℕ) (told later : Option (List ClockCall)) (before after : ℕ) : Type 0 where
  pub is : why ≡ ClockFault
  pub from : Addr
  pub bytes : List ℕ
  pub gave : Grew old new (Receive (receipt.Got from bytes) ∷ [])
  pub no_link_fault : now ≡ faults
  pub unread : later ≡ told
  pub clock_failed : Fails before after

-- the first or the second word was not given
pub record DrawsFewer (why : MonitorWhy) (old new : Option (List ℕ)) (before now : ℕ) : Type 0 where
  pub is : why ≡ EntropyFault
  pub words : List ℕ
  pub fewer : length words < 2
  pub drew : Added old new words
  pub failed : Fails before now

-- the computer at this address was asked, and this came of it; no call failed but those of the link
pub record Asks (to : Addr) (before now : Seen) (ask : Ask) : Type 0 where
  pub reading : IsReading ask.at
  pub fits : HeardFits ask.heard
  pub did : Did (deed_of to ask) before now
  pub no_clock_fault : now.clock_faults ≡ before.clock_faults
  pub no_entropy_fault : now.entropy_faults ≡ before.entropy_faults

-- asking was cut short by a call of clock or entropy that failed
pub record StopsShort (to : Addr) (before now : Seen) (why : MonitorWhy) : Type 0 where
  pub deed : Deed
  pub stops : StopsAsking why to deed
  pub did : Did deed before now
  pub clock_count : FailsIf (is_clock_fault why) before.clock_faults now.clock_faults
  pub entropy_count : FailsIf (is_entropy_fault why) before.entropy_faults now.entropy_faults

-- a line broke off
pub record FailsToWrite (line : List ℕ) (old new : Option (List ℕ)) (before now : ℕ) (why : MonitorWhy) : Type 0 where
  pub is : why ≡ WriteFault
  pub wrote : Writes write.Failed line old new
  pub failed : Fails before now

-- an entry was asked and its line was written, and this was found; no call failed but those of the link
pub record Reports (entry : Entry) (before now : Seen) (finding : Finding) : Type 0 where
  pub asked : Asked
  pub of_entry : asked.entry ≡ entry
  pub found : finding ≡ finding_at asked
  pub did : Did (deed_of entry.addr asked.ask) before now
  pub wrote : Added before.written now.written (line_of entry.name finding)
  pub no_clock_fault : now.clock_faults ≡ before.clock_faults
  pub no_entropy_fault : now.entropy_faults ≡ before.entropy_faults
  pub no_write_fault : now.write_faults ≡ before.write_faults

-- a run stopped at an entry
pub record Stops (entry : Entry) (before now : Seen) (why : MonitorWhy) : Type 0 where
  pub deed : Deed
  pub text : List ℕ
  pub stops : StopsAt why entry deed text
  pub did : Did deed before now
  pub wrote : Added before.written now.written text
  pub clock_count : FailsIf (is_clock_fault why) before.clock_faults now.clock_faults
  pub entropy_count : FailsIf (is_entropy_fault why) before.entropy_faults now.entropy_faults
  pub write_count : FailsIf (is_write_fault why) before.write_faults now.write_faults

-- ---- The entries in front

-- each of these entries was asked and its line was written, so many of them without an error
pub record HasAsked (front : List Entry) (before now : Seen) (answered : ℕ) : Type 0 where
  pub asked : List Asked
  pub are : front ≡ entries_of asked
  pub counted : answered ≡ answered_of asked
  pub did : Did (deeds_of asked) before now
  pub wrote : Added before.written now.written (joined (lines_of asked))
  pub no_clock_fault : now.clock_faults ≡ before.clock_faults
  pub no_entropy_fault : now.entropy_faults ≡ before.entropy_faults
  pub no_write_fault : now.write_faults ≡ before.write_faults
