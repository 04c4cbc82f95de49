-- A replay that goes on: what it keeps, and how it closes.
use Rattle.std.specs.Prelude.{◌≡◌, ◌+◌, ◌<◌, ◌^◌, ℕ, true, List, Option}
use Rattle.base_specs.specs.Told.{Added}
use Rattle.edge_traits.specs.Sink.{PutCounts, Writes}
use Rattle.edge_traits.specs.declared.sink.Put.{Put}
use Rattle.edge_traits.specs.declared.sink.Put.TheVariants as write
use Rattle.capture_fmt.specs.declared.event.Event.{Event}
use Rattle.capture_fmt.specs.declared.fault.CaptureFault.{CaptureFault}
use Rattle.capture_fmt.specs.declared.fault.CaptureFault.TheVariants as fault
use Rattle.capture_fmt.specs.Reader.{Reader, HasRead}
use Rattle.time_machine.specs.declared.conf.Conf.{Conf}
use Rattle.time_machine.specs.declared.outcome.Outcome.{Outcome}
use Rattle.time_machine.specs.declared.outcome.Outcome.TheVariants.{Started, Idle, Sent, Moved, Refused}
use Rattle.time_machine.specs.Report.{report_of, total_line}
use Rattle.sntp_core.specs.declared.member.Member.{Member}
use Rattle.sntp_core.specs.Standing.{conf_of, StandsForHistory}
use Rattle.replay_run.specs.declared.end.ReplayEnd.{ReplayEnd}
use Rattle.replay_run.specs.declared.end.ReplayWhy.{ReplayWhy}
use Rattle.replay_run.specs.declared.end.ReplayWhy.TheVariants as why
use Rattle.edge_seen.specs.Seen.{Seen}
use Rattle.replay_run.specs.Totals.{AreTotals}
use Rattle.replay_run.specs.Replay.{history_of}

-- the numbers with this outcome counted
abbrev pub counted : Outcome → ReplayEnd → ReplayEnd
counted (Sent to count bytes) e = record e { sent = e.sent + 1 }
counted (Moved count offset how) e = record e { moved = e.moved + 1 }
counted (Refused reason) e = record e { refused = e.refused + 1 }
counted (Started mark) e = e
counted Idle e = e

-- each number is within its type
pub record FitsNumbers (e : ReplayEnd) : Type 0 where
  pub sent : e.sent < 2 ^ 32
  pub moved : e.moved < 2 ^ 64
  pub refused : e.refused < 2 ^ 64

-- why a replay ends at a fault of its capture
abbrev pub why_of : CaptureFault → ReplayWhy
why_of (fault.BadKind at) = why.BadCapture at
why_of (fault.BadReading at) = why.BadCapture at
why_of (fault.BadLength at) = why.BadCapture at
why_of (fault.Torn at) = why.BadCapture at
why_of (fault.TooLong at) = why.BadCapture at
why_of fault.ReadFault = why.ReadFault

-- why a replay ends whose total line was written, or not
abbrev pub why_of_put : Put → ReplayWhy
why_of_put write.Done = why.Done
why_of_put write.Failed = why.WriteFault

-- the total line was written, or broke off where its write failed
pub record Closes (end result : ReplayEnd) (old new : Option (List ℕ)) (before now : ℕ) : Type 0 where
  pub put : Put
  pub is : result ≡ record end { why = why_of_put put }
  pub bytes : Writes put (total_line end.sent end.moved end.refused) old new
  pub counts : PutCounts put before now

-- Events were read, which make a history that grows. The member stands for it, its lines were written and its numbers
-- counted.
pub record Runs (conf : Conf) (reader : Reader) (member : Member) (end : ReplayEnd) (before now : Seen) : Type 0 where
  pub events : List Event
  pub alive : reader.alive ≡ true
  pub read : HasRead events reader before.left now.left
  pub conf_is : conf_of member ≡ conf
  pub stands : StandsForHistory member (history_of events)
  pub totals : AreTotals conf (history_of events) end
  pub written : Added before.written now.written (report_of conf (history_of events))
  pub no_read_fault : now.read_faults ≡ before.read_faults
  pub no_write_fault : now.write_faults ≡ before.write_faults
