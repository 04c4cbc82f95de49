-- What the devices of a run tell, and what a part of a run was given and did.
use Rattle.std.specs.Prelude.{◌≡◌, ℕ, zero, ◌<◌, List, [], ◌∷◌, ◌++◌, map, Option, ⊤}
use Rattle.std.specs.List.{AllByRecursion}
use Rattle.base_specs.specs.Counts.{Fails, FailsTimes, Rose}
use Rattle.base_specs.specs.Told.{Added, Grew}
use Rattle.edge_traits.specs.Clock.{ClockCall, moves_among}
use Rattle.edge_traits.specs.declared.link.Receipt.TheVariants.{Got}
use Rattle.edge_traits.specs.declared.link.Tried.{Tried}
use Rattle.edge_traits.specs.Link.{LinkCall, Receive, Send, failed_calls, sends_among}
use Rattle.edge_seen.specs.Seen.{Seen}
use Rattle.capture_fmt.specs.declared.event.Event.{Event}
use Rattle.capture_fmt.specs.declared.event.Event.TheVariants.{Life, Tick, Resync, Arrive}
use Rattle.capture_fmt.specs.Event.{EventFits}
use Rattle.time_machine.specs.declared.conf.Conf.{Conf}
use Rattle.time_machine.specs.Events.{History}
use Rattle.run_deeds.specs.declared.life_end.Why.{Why}
use Rattle.run_deeds.specs.declared.life_end.Why.TheVariants.{Done, DiskFault, BadVersion, StampsSpent, ClockFault, EntropyFault, SinkFault}
use Rattle.run_deeds.specs.Weaving.{Need, Start, Turns, WordFor, ReceiptNow, ReadingFor, Calls, CallWord, Round, RoundReading, Act, posted_of}
use Rattle.run_deeds.specs.Deeds.{Deed, Take, Print, Ending, Whole, NoRecord, NoLine, HasLine, IsWhole, along, posted_in, moves_in, all_done, events_given, captured, printed}

-- how often a call has failed, of each object whose fault ends a run
pub record Faults : Type 0 where
  pub clock : ℕ
  pub entropy : ℕ
  pub disk : ℕ
  pub capture : ℕ
  pub out : ℕ

-- these five put together
abbrev pub faults : (clock entropy disk capture out : ℕ) → Faults
faults clock entropy disk capture out =
    record { clock = clock; entropy = entropy; disk = disk; capture = capture; out = out }

-- those that are told at a moment
abbrev pub faults_of : Seen → Faults
faults_of seen = faults seen.clock_faults seen.entropy_faults seen.disk_faults seen.capture_faults seen.write_faults

-- what the devices tell where those of a run tell this
abbrev pub living : Seen → Option (List LinkCall) → Option (List ClockCall) → Option (List ℕ) → Option (List ℕ) → Option (List ℕ) → ℕ → Faults → Seen
living others link clock words capture out link_faults faults = record others {
  link = link;
  clock = clock;
  words = words;
  capture = capture;
  written = out;
  link_faults = link_faults;
  clock_faults = faults.clock;
  entropy_faults = faults.entropy;
  disk_faults = faults.disk;
  capture_faults = faults.capture;
  write_faults = faults.out;
}

-- ---- What was given and done

-- the calls of clock and link, each with what it gave or took, and the words that were drawn
pub record Given : Type 0 where
  pub clock : List ClockCall
  pub words : List ℕ
  pub link : List LinkCall

-- no device gave or took anything
abbrev pub nothing : Given
nothing = record { clock = []; words = []; link = [] }

-- All that the devices gave and took from one moment to another: these are their calls, and of these deeds, after this
-- history, each record was written, each request sent, each correction made and each line printed.
pub record Does (conf : Conf) (history : History) (given : Given) (deeds : List Deed) (ending : Ending) (before now : Seen) : Type 0 where
  pub link : Grew before.link now.link given.link
  pub requests : map posted_of (sends_among given.link) ≡ along (posted_in conf) history (all_done deeds ending)
  pub clock : Grew before.clock now.clock given.clock
  pub moves : moves_among given.clock ≡ along (moves_in conf) history (all_done deeds ending)
  pub words : Added before.words now.words given.words
  pub fit : AllByRecursion EventFits (events_given deeds ending)
  pub capture : Added before.capture now.capture (captured deeds ending)
  pub out : Added before.written now.written (printed conf history deeds ending)
  pub has_line : HasLine conf history deeds ending
  pub link_failed : FailsTimes (failed_calls given.link) before.link_faults now.link_faults

-- ---- Why a part of a run ended

-- a reading is needed next, for the Life, in a turn that is left, or in a call
abbrev pub NeedsReading : Need → Type 0
NeedsReading (Start stood next) = ⊤
NeedsReading (Turns left) = 0 < left
NeedsReading (ReadingFor left from bytes) = ⊤
NeedsReading (Calls (call ∷ left)) = ⊤
NeedsReading (RoundReading receipts from bytes left) = ⊤
NeedsReading _ = ⊥

-- a word is needed next
abbrev pub NeedsWord : Need → Type 0
NeedsWord (WordFor left now) = ⊤
NeedsWord (CallWord call now left) = ⊤
NeedsWord _ = ⊥

-- a Tick or a Resync comes next, for which a count has to be reserved
abbrev pub NeedsCount : Need → Type 0
NeedsCount (Turns left) = 0 < left
NeedsCount (Calls (call ∷ left)) = ⊤
NeedsCount _ = ⊥

-- the Life comes next, for which the disk has to be read
abbrev pub NeedsMark : Need → Type 0
NeedsMark (Start stood next) = ⊤
NeedsMark _ = ⊥

-- the disk is called next
abbrev pub NeedsDisk : Need → Type 0
NeedsDisk (Start stood next) = ⊤
NeedsDisk (Turns left) = 0 < left
NeedsDisk (Calls (call ∷ left)) = ⊤
NeedsDisk _ = ⊥

-- the Tick of a turn, or the Resync of a call, was not taken: its reading or its word is needed next, or its record could
-- not be written
abbrev pub IsBeforeRequest : Ending → Need → Type 0
IsBeforeRequest Whole (Turns left) = 0 < left
IsBeforeRequest Whole (WordFor left now) = ⊤
IsBeforeRequest Whole (Calls (call ∷ left)) = ⊤
IsBeforeRequest Whole (CallWord call now left) = ⊤
IsBeforeRequest (NoRecord (Tick now word) front) need = ⊤
IsBeforeRequest (NoRecord (Resync now word flags) front) need = ⊤
IsBeforeRequest _ _ = ⊥

-- one call of one object failed, and no call of another one
abbrev pub ClockFailed : Faults → Faults → Type 0
ClockFailed before now = Fails before.clock now.clock × (now ≡ record before { clock = now.clock })

-- the same of the entropy
abbrev pub EntropyFailed : Faults → Faults → Type 0
EntropyFailed before now = Fails before.entropy now.entropy × (now ≡ record before { entropy = now.entropy })

-- the same of the disk
abbrev pub DiskFailed : Faults → Faults → Type 0
DiskFailed before now = Fails before.disk now.disk × (now ≡ record before { disk = now.disk })

-- the same of the capture
abbrev pub CaptureFailed : Faults → Faults → Type 0
CaptureFailed before now = Fails before.capture now.capture × (now ≡ record before { capture = now.capture })

-- the same of the output
abbrev pub OutFailed : Faults → Faults → Type 0
OutFailed before now = Fails before.out now.out × (now ≡ record before { out = now.out })

-- no call failed that ends a run
pub record NoneRose (before now : Faults) : Type 0 where
  pub clock : ¬ Rose before.clock now.clock
  pub entropy : ¬ Rose before.entropy now.entropy
  pub disk : ¬ Rose before.disk now.disk
  pub capture : ¬ Rose before.capture now.capture
  pub out : ¬ Rose before.out now.out

-- the write that failed is that of the record or of the line that is not whole
abbrev pub SinkFailed : Ending → Faults → Faults → Type 0
SinkFailed Whole before now = ⊥
SinkFailed (NoRecord event front) before now = CaptureFailed before now
SinkFailed (NoLine deed front) before now = OutFailed before now

-- the receipt of a turn is needed next
abbrev pub NeedsReceipt : Need → Type 0
NeedsReceipt (ReceiptNow left) = ⊤
NeedsReceipt _ = ⊥

-- a call, or a receipt of its round, is needed next
abbrev pub IsInCalls : Need → Type 0
IsInCalls (Calls left) = ⊤
IsInCalls (Round receipts left) = ⊤
IsInCalls _ = ⊥

-- a turn, a call, or a receipt of its round, is needed next
abbrev pub IsBetween : Need → Type 0
IsBetween (Turns left) = ⊤
IsBetween (Calls left) = ⊤
IsBetween (Round receipts left) = ⊤
IsBetween _ = ⊥

-- what may be needed next right behind an event
abbrev pub IsBehind : Event → Need → Type 0
IsBehind (Life now mark) need = ⊤
IsBehind (Tick now word) need = NeedsReceipt need
IsBehind (Resync now word flags) need = IsInCalls need
IsBehind (Arrive now from bytes) need = IsBetween need

-- what an event led to is needed next, its send or its correction
abbrev pub IsToDo : Event → Need → Type 0
IsToDo event (Act outcome behind) = IsBehind event behind
IsToDo event _ = ⊥

-- no turn and no call is left
abbrev pub IsOver : Need → Type 0
IsOver (Turns zero) = ⊤
IsOver (Calls []) = ⊤
IsOver _ = ⊥

-- Where a record could not be written, what its event led to was not done. Where a line could not, it was; `EndsAtLast` says
-- that no call of the link came after it. A line that is no event's comes when no turn and no call is left.
abbrev pub StopsAt : Ending → Need → Type 0
StopsAt Whole need = ⊥
StopsAt (NoRecord event front) need = IsToDo event need
StopsAt (NoLine (Take event) front) need = IsBehind event need
StopsAt (NoLine (Print line) front) need = IsOver need

-- the last one of these calls tried a send
abbrev pub IsLastSend : List LinkCall → Type 0
IsLastSend calls = (earlier : List LinkCall) × (tried : Tried) × (calls ≡ earlier ++ Send tried ∷ [])

-- The last one of these calls is the event's: its send, or the receipt that gave its datagram. Before a Life there is none.
abbrev pub IsLastCall : Event → List LinkCall → Type 0
IsLastCall (Life now mark) calls = ⊤
IsLastCall (Tick now word) calls = IsLastSend calls
IsLastCall (Resync now word flags) calls = IsLastSend calls
IsLastCall (Arrive now from bytes) calls = (earlier : List LinkCall) × (calls ≡ earlier ++ Receive (Got from bytes) ∷ [])

-- where the line of an event could not be written, no call of the link came after that event's
abbrev pub EndsAtLast : Ending → List LinkCall → Type 0
EndsAtLast (NoLine (Take event) front) calls = IsLastCall event calls
EndsAtLast _ calls = ⊤

-- What each answer says of the last deed, of what is needed next, and of the calls that failed: with a fault of a
-- device that device failed once, at the call that was due, and with any other answer no call failed.
abbrev pub LifeEndsBy : Why → Ending → Need → Faults → Faults → Type 0
LifeEndsBy Done ending need before now = IsWhole ending × (now ≡ before)
LifeEndsBy DiskFault ending need before now = IsWhole ending × NeedsDisk need × DiskFailed before now
LifeEndsBy BadVersion ending need before now = IsWhole ending × NeedsMark need × (now ≡ before)
LifeEndsBy StampsSpent ending need before now = IsWhole ending × NeedsCount need × (now ≡ before)
LifeEndsBy ClockFault ending need before now = IsWhole ending × NeedsReading need × ClockFailed before now
LifeEndsBy EntropyFault ending need before now = IsWhole ending × NeedsWord need × EntropyFailed before now
LifeEndsBy SinkFault ending need before now = StopsAt ending need × SinkFailed ending before now
