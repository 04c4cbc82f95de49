-- One computer after the other is asked: what link, clock and entropy gave and took for it.
use Rattle.std.specs.Prelude.{ℕ, ℤ, List, [], ◌∷◌, ◌++◌, map, flat_map, Option}
use Rattle.std.specs.List.{count_by}
use Rattle.base_specs.specs.Counts.{FailsTimes}
use Rattle.base_specs.specs.Told.{Added, Grew}
use Rattle.edge_traits.specs.Clock.{ClockCall, GaveReadings}
use Rattle.edge_traits.specs.Link.{LinkCall, Receive, Send, failed_calls}
use Rattle.edge_traits.specs.declared.datagram.Addr.{Addr}
use Rattle.edge_traits.specs.declared.link.Receipt.{Receipt}
use Rattle.edge_traits.specs.declared.link.Receipt.TheVariants as receipt
use Rattle.edge_traits.specs.declared.link.Tried.{Tried}
use Rattle.edge_traits.specs.declared.sink.Put.{Put}
use Rattle.edge_seen.specs.Seen.{Seen}
use Rattle.ntp_wire.specs.declared.stamp.Stamp.{Stamp}
use Rattle.partner_pick.specs.declared.entry.Entry.{Entry}
use Rattle.monitor_run.specs.declared.asking.Ask.{Ask}
use Rattle.monitor_run.specs.declared.asking.Heard.{Heard}
use Rattle.monitor_run.specs.declared.asking.Heard.TheVariants.{Came, Quiet, Lost}
use Rattle.monitor_run.specs.declared.finding.Finding.{Finding}
use Rattle.monitor_run.specs.declared.finding.Finding.TheVariants.{Wrong}
use Rattle.monitor_run.specs.declared.finding.Word.TheVariants.{NoAnswer}
use Rattle.monitor_run.specs.Finding.{finding_of}
use Rattle.monitor_run.specs.Lines.{is_answered, line_of}
use Rattle.monitor_run.specs.Request.{plain_request}

-- ---- What three devices did

-- what the devices tell where link, clock and entropy tell this
abbrev pub asking : Seen → Option (List LinkCall) → ℕ → Option (List ClockCall) → ℕ → Option (List ℕ) → ℕ → Seen
asking others link link_faults clock clock_faults words entropy_faults = record others {
  link = link;
  link_faults = link_faults;
  clock = clock;
  clock_faults = clock_faults;
  words = words;
  entropy_faults = entropy_faults;
}

-- the readings and the words that were given, and the calls of the link in their order
pub record Deed : Type 0 where
  pub readings : List ℤ
  pub words : List ℕ
  pub link : List LinkCall

-- nothing was given, and nothing was tried
abbrev pub no_deed : Deed
no_deed = record { readings = []; words = []; link = [] }

-- one after the other
abbrev pub then : Deed → Deed → Deed
then first next = record {
  readings = first.readings ++ next.readings;
  words = first.words ++ next.words;
  link = first.link ++ next.link;
}

-- This is all that the devices gave and took. The clock was not corrected, and the link failed as often as its calls
-- say.
pub record Did (deed : Deed) (before now : Seen) : Type 0 where
  pub told : Grew before.link now.link deed.link
  pub read : GaveReadings before.clock now.clock deed.readings
  pub drew : Added before.words now.words deed.words
  pub link_failed : FailsTimes (failed_calls deed.link) before.link_faults now.link_faults

-- ---- One ask

-- the receipt that was taken
abbrev pub receipt_heard : Heard → Receipt
receipt_heard (Came from bytes at) = receipt.Got from bytes
receipt_heard Quiet = receipt.Quiet
receipt_heard Lost = receipt.Failed

-- the reading behind a datagram, and none where none came
abbrev pub readings_heard : Heard → List ℤ
readings_heard (Came from bytes at) = at ∷ []
readings_heard Quiet = []
readings_heard Lost = []

-- the two words of a timestamp: its seconds, then its fraction
abbrev pub words_of : Stamp → List ℕ
words_of stamp = stamp.seconds ∷ stamp.fraction ∷ []

-- the plain request with a timestamp was sent to an address, and this came of it
abbrev pub request_sent : Addr → Stamp → Put → Tried
request_sent to stamp put = record { to = to; bytes = plain_request stamp; put = put }

-- A reading, two words, the request with these as its timestamp, behind it one receipt, and behind a datagram a reading.
abbrev pub deed_of : Addr → Ask → Deed
deed_of to ask = record {
  readings = ask.at ∷ readings_heard ask.heard;
  words = words_of ask.stamp;
  link = Send (request_sent to ask.stamp ask.put) ∷ Receive (receipt_heard ask.heard) ∷ [];
}

-- what was found by it
abbrev pub finding_by : Addr → Stamp → ℤ → Heard → Finding
finding_by to stamp t1 (Came from bytes t4) = finding_of to stamp t1 from bytes t4
finding_by to stamp t1 Quiet = Wrong NoAnswer
finding_by to stamp t1 Lost = Wrong NoAnswer

-- ---- Asks, one after the other

-- an entry, and how it was asked
pub record Asked : Type 0 where
  pub entry : Entry
  pub ask : Ask

-- what was found of an entry
abbrev pub finding_at : Asked → Finding
finding_at a = finding_by a.entry.addr a.ask.stamp a.ask.at a.ask.heard

-- the entries that were asked
abbrev pub entries_of : List Asked → List Entry
entries_of asked = map (λ (a : Asked). a.entry) asked

-- all that was given and tried for them
abbrev pub deeds_of : List Asked → Deed
deeds_of asked = record {
  readings = flat_map (λ (a : Asked). (deed_of a.entry.addr a.ask).readings) asked;
  words = flat_map (λ (a : Asked). (deed_of a.entry.addr a.ask).words) asked;
  link = flat_map (λ (a : Asked). (deed_of a.entry.addr a.ask).link) asked;
}

-- their lines
abbrev pub lines_of : List Asked → List (List ℕ)
lines_of asked = map (λ (a : Asked). line_of a.entry.name (finding_at a)) asked

-- how many of these lines have no error
abbrev pub answered_of : List Asked → ℕ
answered_of asked = count_by (λ (a : Asked). is_answered (finding_at a)) asked
