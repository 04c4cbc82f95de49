-- What one entry's report does: the computer is asked, and its line is written.
use Rattle.std.proofs.Common.{◌≡◌, ◌∙◌, ℕ, List, [], take, Option, refl, sym, ap, subst}
use Rattle.base_specs.specs.Told.{Added}
use Rattle.base_specs.proofs.Telling.{added_none}
use Rattle.edge_traits.specs.Sink.{Writes}
use Rattle.edge_traits.specs.declared.datagram.Addr.{Addr}
use Rattle.edge_traits.specs.declared.sink.Put.TheVariants as write
use Rattle.partner_pick.specs.declared.entry.Entry.{Entry}
use Rattle.edge_seen.specs.Seen.{Seen}
use Rattle.monitor_run.specs.declared.asking.Ask.{Ask}
use Rattle.monitor_run.specs.declared.finding.Finding.{Finding}
use Rattle.monitor_run.specs.declared.why.MonitorWhy.{MonitorWhy}
use Rattle.monitor_run.specs.declared.why.MonitorWhy.TheVariants.{Done, ClockFault, EntropyFault, WriteFault}
use Rattle.monitor_run.specs.Asking.{Deed, deed_of, finding_by}
use Rattle.monitor_run.specs.Ending.{FailsIf, StopsAsking, StopsAt, is_write_fault}
use Rattle.monitor_run.specs.Lines.{line_of}
use Rattle.monitor_run.specs.Progress.{Asks, FailsToWrite, Reports, Stops, StopsShort}
use Rattle.monitor_run.proofs.Deeds.{did_beside}

stops_there : (why : MonitorWhy) (entry : Entry) (deed : Deed) → StopsAsking why entry.addr deed → StopsAt why entry deed []
stops_there Done entry deed stops = absurd stops
stops_there ClockFault entry deed stops = (stops, refl)
stops_there EntropyFault entry deed stops = (stops, refl)
stops_there WriteFault entry deed stops = absurd stops

no_write : (why : MonitorWhy) (to : Addr) (deed : Deed) (count : ℕ) → StopsAsking why to deed → FailsIf (is_write_fault why) count count
no_write Done to deed count stops = absurd stops
no_write ClockFault to deed count stops = refl
no_write EntropyFault to deed count stops = refl
no_write WriteFault to deed count stops = absurd stops

-- asking was cut short, and nothing was written
pub cut_short : (entry : Entry) (before now : Seen) (why : MonitorWhy) → StopsShort entry.addr before now why
    → now.written ≡ before.written → now.write_faults ≡ before.write_faults → Stops entry before now why
cut_short entry before now why short written faults = record {
  deed = short.deed;
  text = [];
  stops = stops_there why entry short.deed short.stops;
  did = short.did;
  wrote = subst (λ (w : Option (List ℕ)). Added before.written w []) (sym written) (added_none before.written);
  clock_count = short.clock_count;
  entropy_count = short.entropy_count;
  write_count = subst (FailsIf (is_write_fault why) before.write_faults) (sym faults) (no_write why entry.addr short.deed before.write_faults short.stops);
}

-- the line was written
pub reported : (entry : Entry) (ask : Ask) (finding : Finding) (line : List ℕ) (before mid : Seen) (written : Option (List ℕ)) (write_faults : ℕ) → Asks entry.addr before mid ask
    → finding ≡ finding_by entry.addr ask.stamp ask.at ask.heard → line ≡ line_of entry.name finding
    → Added before.written written line → write_faults ≡ before.write_faults
    → Reports entry before (record mid { written = written; write_faults = write_faults }) finding
reported entry ask finding line before mid written write_faults asks found is wrote no_fault = record {
  asked = record { entry = entry; ask = ask };
  of_entry = refl;
  found = found;
  did = did_beside _ before mid written write_faults asks.did;
  wrote = subst (λ (l : List ℕ). Added before.written written l) is wrote;
  no_clock_fault = asks.no_clock_fault;
  no_entropy_fault = asks.no_entropy_fault;
  no_write_fault = no_fault;
}

-- the line broke off
pub broke_off : (entry : Entry) (ask : Ask) (finding : Finding) (line : List ℕ) (before mid : Seen) (written : Option (List ℕ)) (write_faults : ℕ) (why : MonitorWhy) → Asks entry.addr before mid ask
    → finding ≡ finding_by entry.addr ask.stamp ask.at ask.heard → line ≡ line_of entry.name finding
    → FailsToWrite line before.written written before.write_faults write_faults why
    → Stops entry before (record mid { written = written; write_faults = write_faults }) why
broke_off entry ask finding line before mid written write_faults why asks found is fails =
    let whole = line_of entry.name (finding_by entry.addr ask.stamp ask.at ask.heard) in
    let Wrote : List ℕ → Type 0 = λ (l : List ℕ). Writes write.Failed l before.written written in
    let wrote : Wrote whole = subst Wrote (is ∙ ap (line_of entry.name) found) fails.wrote in
    subst (λ (w : MonitorWhy). Stops entry before (record mid { written = written; write_faults = write_faults }) w) (sym fails.is)
    (record {
      deed = deed_of entry.addr ask;
      text = take wrote.0 whole;
      stops = record { ask = ask; front = wrote.0; did = refl; most = wrote.1; written = refl };
      did = did_beside (deed_of entry.addr ask) before mid written write_faults asks.did;
      wrote = wrote.2;
      clock_count = asks.no_clock_fault;
      entropy_count = asks.no_entropy_fault;
      write_count = fails.failed;
    })
