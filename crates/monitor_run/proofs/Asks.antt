-- What asking one computer does.
use Rattle.std.proofs.Common.{◌≡◌, ℕ, ℤ, List, [], ◌∷◌, Option, refl, sym, subst, inl, inr}
use Rattle.base_specs.specs.Counts.{Fails, FailsTimes}
use Rattle.base_specs.specs.Time.{IsReading}
use Rattle.base_specs.specs.Told.{Added, Grew}
use Rattle.base_specs.proofs.Counting.{fails_more, fails_none}
use Rattle.base_specs.proofs.Telling.{added_none, grew_more, grew_none}
use Rattle.edge_traits.specs.Clock.{ClockCall, GaveReadings}
use Rattle.edge_traits.specs.Link.{LinkCall, Receive, ReceiptCounts, Send, failed_calls}
use Rattle.edge_traits.specs.Sink.{PutCounts}
use Rattle.edge_traits.specs.declared.datagram.Addr.{Addr}
use Rattle.edge_traits.specs.declared.link.Receipt.{Receipt}
use Rattle.edge_traits.specs.declared.link.Receipt.TheVariants as receipt
use Rattle.edge_traits.specs.declared.sink.Put.{Put}
use Rattle.edge_traits.proofs.Clocks.{gave_more, gave_none}
use Rattle.edge_traits.proofs.Links.{failed_calls-append, receive_counts, send_counts}
use Rattle.ntp_wire.specs.declared.stamp.Stamp.{Stamp}
use Rattle.monitor_run.specs.declared.asking.Heard.{Heard}
use Rattle.monitor_run.specs.declared.why.MonitorWhy.{MonitorWhy}
use Rattle.monitor_run.specs.declared.why.MonitorWhy.TheVariants.{ClockFault}
use Rattle.edge_seen.specs.Seen.{Seen}
use Rattle.monitor_run.specs.Asking.{Did, no_deed, readings_heard, receipt_heard, request_sent, words_of}
use Rattle.monitor_run.specs.Progress.{Asks, DrawsFewer, Hears, HearsUnread, StopsShort}

-- ---- One computer

-- the request was sent and a receipt was taken
did_ask : (to : Addr) (at : ℤ) (stamp : Stamp) (put : Put) (readings : List ℤ) (given : Receipt) (before now : Seen) (link : Option (List LinkCall)) (faults : ℕ) (clock : Option (List ClockCall))
    → GaveReadings before.clock clock (at ∷ []) → Added before.words now.words (words_of stamp)
    → Grew before.link link (Send (request_sent to stamp put) ∷ []) → PutCounts put before.link_faults faults
    → Grew link now.link (Receive given ∷ []) → ReceiptCounts given faults now.link_faults → GaveReadings clock now.clock readings
    → Did (record { readings = at ∷ readings; words = words_of stamp; link = Send (request_sent to stamp put) ∷ Receive given ∷ [] }) before now
did_ask to at stamp put readings given before now link faults clock first drew tried sent gave received read = record {
  told = grew_more before.link link now.link (Send (request_sent to stamp put) ∷ []) (Receive given ∷ []) tried gave;
  read = gave_more before.clock clock now.clock (at ∷ []) readings first read;
  drew = drew;
  link_failed = subst (λ (n : ℕ). FailsTimes n before.link_faults now.link_faults) (sym (failed_calls-append (Send (request_sent to stamp put) ∷ []) (Receive given ∷ [])))
      (fails_more (failed_calls (Send (request_sent to stamp put) ∷ [])) (failed_calls (Receive given ∷ [])) before.link_faults faults now.link_faults
      (send_counts (request_sent to stamp put) before.link_faults faults sent) (receive_counts given faults now.link_faults received));
}

pub asked : (to : Addr) (at : ℤ) (stamp : Stamp) (put : Put) (heard : Heard) (before now : Seen) (link : Option (List LinkCall)) (faults : ℕ) (clock : Option (List ClockCall))
    → IsReading at → GaveReadings before.clock clock (at ∷ []) → Added before.words now.words (words_of stamp) → now.entropy_faults ≡ before.entropy_faults
    → Grew before.link link (Send (request_sent to stamp put) ∷ []) → PutCounts put before.link_faults faults
    → Hears heard link now.link faults now.link_faults clock now.clock before.clock_faults now.clock_faults
    → Asks to before now (record { at = at; stamp = stamp; put = put; heard = heard })
asked to at stamp put heard before now link faults clock reading first drew no_fault tried sent hears = record {
  reading = reading;
  fits = hears.fits;
  did = did_ask to at stamp put (readings_heard heard) (receipt_heard heard) before now link faults clock first drew tried sent hears.gave hears.counts hears.read;
  no_clock_fault = hears.no_clock_fault;
  no_entropy_fault = no_fault;
}

-- the first reading failed
pub unread : (to : Addr) (before : Seen) (clock : Option (List ClockCall)) (faults : ℕ) → clock ≡ before.clock → Fails before.clock_faults faults
    → StopsShort to before (record before { clock = clock; clock_faults = faults }) ClockFault
unread to before clock faults same failed = record {
  deed = no_deed;
  stops = inl refl;
  did = record {
    told = grew_none before.link;
    read = subst (λ (c : Option (List ClockCall)). GaveReadings before.clock c []) (sym same) (gave_none before.clock);
    drew = added_none before.words;
    link_failed = fails_none before.link_faults;
  };
  clock_count = failed;
  entropy_count = refl;
}

-- a word was not given
pub undrawn : (to : Addr) (why : MonitorWhy) (at : ℤ) (before now : Seen)
    → GaveReadings before.clock now.clock (at ∷ []) → now.clock_faults ≡ before.clock_faults → now.link ≡ before.link → now.link_faults ≡ before.link_faults
    → DrawsFewer why before.words now.words before.entropy_faults now.entropy_faults → StopsShort to before now why
undrawn to why at before now read no_clock_fault link link_faults draws =
    subst (λ (w : MonitorWhy). StopsShort to before now w) (sym draws.is)
    (record {
      deed = record { readings = at ∷ []; words = draws.words; link = [] };
      stops = record { t1 = at; words = draws.words; fewer = draws.fewer; did = refl };
      did = record {
        told = subst (λ (l : Option (List LinkCall)). Grew before.link l []) (sym link) (grew_none before.link);
        read = read;
        drew = draws.drew;
        link_failed = subst (λ (n : ℕ). FailsTimes 0 before.link_faults n) (sym link_faults) (fails_none before.link_faults);
      };
      clock_count = no_clock_fault;
      entropy_count = draws.failed;
    })

-- a datagram came, and the reading behind it failed
pub unheard : (to : Addr) (why : MonitorWhy) (at : ℤ) (stamp : Stamp) (put : Put) (before now : Seen) (link : Option (List LinkCall)) (faults : ℕ) (clock : Option (List ClockCall))
    → GaveReadings before.clock clock (at ∷ []) → Added before.words now.words (words_of stamp) → now.entropy_faults ≡ before.entropy_faults
    → Grew before.link link (Send (request_sent to stamp put) ∷ []) → PutCounts put before.link_faults faults
    → HearsUnread why link now.link faults now.link_faults clock now.clock before.clock_faults now.clock_faults
    → StopsShort to before now why
unheard to why at stamp put before now link faults clock first drew no_fault tried sent hears =
    let got = receipt.Got hears.from hears.bytes in
    subst (λ (w : MonitorWhy). StopsShort to before now w) (sym hears.is)
    (record {
      deed = record { readings = at ∷ []; words = words_of stamp; link = Send (request_sent to stamp put) ∷ Receive got ∷ [] };
      stops = inr (record { t1 = at; stamp = stamp; put = put; from = hears.from; bytes = hears.bytes; did = refl });
      did = did_ask to at stamp put [] got before now link faults clock first drew tried sent hears.gave
          hears.no_link_fault (subst (λ (c : Option (List ClockCall)). GaveReadings clock c []) (sym hears.unread) (gave_none clock));
      clock_count = hears.clock_failed;
      entropy_count = no_fault;
    })
