-- How a run ends: behind the last entry, or at the first call of clock, entropy or sink that fails.
use Rattle.std.specs.Prelude.{◌≡◌, ◌<◌, ◌≤◌, ◌⊎◌, ℕ, ℤ, Bool, true, false, List, [], ◌∷◌, length, take}
use Rattle.base_specs.specs.Counts.{Fails}
use Rattle.edge_traits.specs.Link.{Receive, Send}
use Rattle.edge_traits.specs.declared.datagram.Addr.{Addr}
use Rattle.edge_traits.specs.declared.link.Receipt.TheVariants as receipt
use Rattle.edge_traits.specs.declared.sink.Put.{Put}
use Rattle.ntp_wire.specs.declared.stamp.Stamp.{Stamp}
use Rattle.partner_pick.specs.declared.entry.Entry.{Entry}
use Rattle.monitor_run.specs.declared.asking.Ask.{Ask}
use Rattle.monitor_run.specs.declared.why.MonitorWhy.{MonitorWhy}
use Rattle.monitor_run.specs.declared.why.MonitorWhy.TheVariants.{Done, ClockFault, EntropyFault, WriteFault}
use Rattle.monitor_run.specs.Asking.{Asked, Deed, answered_of, deed_of, finding_by, no_deed, request_sent, words_of}
use Rattle.monitor_run.specs.Lines.{computers_line, line_of}

-- ---- The counts

-- a call failed, or none did
abbrev pub FailsIf : Bool → ℕ → ℕ → Type 0
FailsIf true before now = Fails before now
FailsIf false before now = now ≡ before

-- a reading of the clock failed
abbrev pub is_clock_fault : MonitorWhy → Bool
is_clock_fault Done = false
is_clock_fault ClockFault = true
is_clock_fault EntropyFault = false
is_clock_fault WriteFault = false

-- a draw of a random word failed
abbrev pub is_entropy_fault : MonitorWhy → Bool
is_entropy_fault Done = false
is_entropy_fault ClockFault = false
is_entropy_fault EntropyFault = true
is_entropy_fault WriteFault = false

-- a write failed
abbrev pub is_write_fault : MonitorWhy → Bool
is_write_fault Done = false
is_write_fault ClockFault = false
is_write_fault EntropyFault = false
is_write_fault WriteFault = true

-- ---- At an entry

-- A datagram came for this entry, and the reading at its arrival failed.
pub record StopsAtArrival (to : Addr) (deed : Deed) : Type 0 where
  pub t1 : ℤ
  pub stamp : Stamp
  pub put : Put
  pub from : Addr
  pub bytes : List ℕ
  pub did : deed ≡ record {
    readings = t1 ∷ [];
    words = words_of stamp;
    link = Send (request_sent to stamp put) ∷ Receive (receipt.Got from bytes) ∷ [];
  }

-- The clock was read, and the first or the second word was not given. Nothing was sent.
pub record StopsAtDraw (deed : Deed) : Type 0 where
  pub t1 : ℤ
  pub words : List ℕ
  pub fewer : length words < 2
  pub did : deed ≡ record { readings = t1 ∷ []; words = words; link = [] }

-- The first reading or the one at the arrival of a datagram failed; or a word was not given. This is what was done
-- for the entry until then.
abbrev pub StopsAsking : MonitorWhy → Addr → Deed → Type 0
StopsAsking Done to deed = ⊥
StopsAsking ClockFault to deed = (deed ≡ no_deed) ⊎ StopsAtArrival to deed
StopsAsking EntropyFault to deed = StopsAtDraw deed
StopsAsking WriteFault to deed = ⊥

-- An entry was asked, and its line broke off: some front of it was written.
pub record BreaksOffLine (entry : Entry) (deed : Deed) (text : List ℕ) : Type 0 where
  pub ask : Ask
  pub front : ℕ
  pub did : deed ≡ deed_of entry.addr ask
  pub most : front ≤ length (line_of entry.name (finding_by entry.addr ask.stamp ask.at ask.heard))
  pub written : text ≡ take front (line_of entry.name (finding_by entry.addr ask.stamp ask.at ask.heard))

-- what was done and written for the entry at which a run stops
abbrev pub StopsAt : MonitorWhy → Entry → Deed → List ℕ → Type 0
StopsAt Done entry deed text = ⊥
StopsAt ClockFault entry deed text = StopsAsking ClockFault entry.addr deed × (text ≡ [])
StopsAt EntropyFault entry deed text = StopsAsking EntropyFault entry.addr deed × (text ≡ [])
StopsAt WriteFault entry deed text = BreaksOffLine entry deed text

-- a run stops at the first of the entries that are left
pub record StopsIn (why : MonitorWhy) (rest : List Entry) (deed : Deed) (text : List ℕ) : Type 0 where
  pub entry : Entry
  pub later : List Entry
  pub are : rest ≡ entry ∷ later
  pub stops : StopsAt why entry deed text

-- ---- Behind the last entry

-- no entry is left, and the last line was written
pub record Closes (asked : List Asked) (rest : List Entry) (deed : Deed) (text : List ℕ) : Type 0 where
  pub none : rest ≡ []
  pub did : deed ≡ no_deed
  pub written : text ≡ computers_line (length asked) (answered_of asked)

-- no entry is left, and the last line broke off: some front of it was written
pub record BreaksOffTotal (asked : List Asked) (rest : List Entry) (deed : Deed) (text : List ℕ) : Type 0 where
  pub none : rest ≡ []
  pub did : deed ≡ no_deed
  pub front : ℕ
  pub most : front ≤ length (computers_line (length asked) (answered_of asked))
  pub written : text ≡ take front (computers_line (length asked) (answered_of asked))

-- ---- Each end

-- What was done behind the lines of the entries that were asked, the rest being left, and what was written there.
abbrev pub MonitorEndsBy : MonitorWhy → List Asked → List Entry → Deed → List ℕ → Type 0
MonitorEndsBy Done asked rest deed text = Closes asked rest deed text
MonitorEndsBy ClockFault asked rest deed text = StopsIn ClockFault rest deed text
MonitorEndsBy EntropyFault asked rest deed text = StopsIn EntropyFault rest deed text
MonitorEndsBy WriteFault asked rest deed text = StopsIn WriteFault rest deed text ⊎ BreaksOffTotal asked rest deed text
