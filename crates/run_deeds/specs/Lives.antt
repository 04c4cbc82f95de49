-- A whole run, of so many turns or of calls that ask for requests: what its devices gave, the events that were woven of it,
-- and what was done about them.
use Rattle.std.specs.Prelude.{◌≡◌, ◌⊎◌, ◌≢◌, ℕ, ◌+◌, ◌-◌, ◌*◌, ◌/◌, ◌^◌, ◌<◌, ◌≤◌, ℤ, min, List, [], ◌∷◌, ◌++◌, length, map, reverse, take, flat_map, IfSome, ⊤}
use Rattle.std.specs.List.{count_by}
use Rattle.base_specs.specs.Counts.{FailsTimes}
use Rattle.base_specs.specs.Told.{Added, Grew}
use Rattle.line_text.specs.Text.{joined}
use Rattle.edge_traits.specs.declared.link.Receipt.{Receipt}
use Rattle.edge_traits.specs.declared.link.Tried.{Tried}
use Rattle.edge_traits.specs.Clock.{Read, moves_among, readings_among}
use Rattle.edge_traits.specs.Link.{LinkCall, failed_calls, receipts_among, sends_among}
use Rattle.edge_seen.specs.Seen.{Seen}
use Rattle.capture_fmt.specs.declared.event.Event.{Event}
use Rattle.capture_fmt.specs.declared.event.Event.TheVariants.{Life}
use Rattle.capture_fmt.specs.Capture.{SpellsEvents}
use Rattle.slot_disk.specs.Calls.{LeavesOnly}
use Rattle.slot_disk.specs.Told.{DiskTold}
use Rattle.stamp_keep.specs.Image.{mark_of_image}
use Rattle.stamp_keep.specs.Keep.{IsLeft, IsLoadable, KeepsUnused, StandsAsBefore}
use Rattle.stamp_keep.specs.Slots.{HasOtherVersion}
use Rattle.time_machine.specs.declared.conf.Conf.{Conf}
use Rattle.time_machine.specs.Entries.{count_of, gather}
use Rattle.time_machine.specs.Events.{History}
use Rattle.time_machine.specs.Told.{Told, has_sent}
use Rattle.time_machine.specs.Words.{life_at}
use Rattle.time_machine.specs.Laws.{MovesOnce}
use Rattle.time_machine.specs.Growing.{Grows}
use Rattle.time_machine.specs.Machine.{told, outcome_at, requests_of, moves_of}
use Rattle.time_machine.specs.Report.{line_of, report_of}
use Rattle.run_deeds.specs.declared.life_end.LifeEnd.{LifeEnd}
use Rattle.run_deeds.specs.declared.life_end.Why.{Why}
use Rattle.run_deeds.specs.declared.life_end.Why.TheVariants.{Done, DiskFault, BadVersion, StampsSpent, SinkFault}
use Rattle.run_deeds.specs.ServiceWeaving.{service_weave}
use Rattle.run_deeds.specs.Weaving.{Stood, Need, Start, Turns, Calls, Act, Weaves, clock_calls, posted_of, ticks_by, turn_calls, turn_requests, weave}
use Rattle.run_deeds.specs.Deeds.{Ending, Whole, NoRecord, NoLine, Take, Print, missing_in, cut_record, reasons_by}
use Rattle.run_deeds.specs.Devices.{Given, EndsAtLast, LifeEndsBy, IsBeforeRequest, faults_of}
use Rattle.run_deeds.specs.Parts.{is_quiet}
use Rattle.run_deeds.specs.Closing.{closing_lines, closing_by}
use Rattle.run_deeds.specs.Marks.{IsDue, KeepsLoadable, MarksBeforeSends, StopCoversSends, blocks_of}

-- What was printed. All lines of the events taken, and the closing lines where the run ended well; or all lines but
-- the last event's, which is not empty, and a front of that one; or all lines of all turns, and a front of the closing
-- lines.
abbrev pub Reports : Conf → History → LifeEnd → Ending → Need → List ℕ → Type 0
Reports conf history end Whole need text = text ≡ report_of conf history ++ joined (closing_by end.why end)
Reports conf history end (NoRecord event front) need text = text ≡ report_of conf history
Reports conf history end (NoLine (Take event) front) need text =
    (before : History) × (history ≡ event ∷ before) × (0 < length (line_of (outcome_at conf before event)))
    × (text ≡ report_of conf before ++ take front (line_of (outcome_at conf before event)))
Reports conf history end (NoLine (Print line) front) need text =
    (before after : List (List ℕ)) × (need ≡ Turns 0) × (closing_lines end ≡ before ++ line ∷ after)
    × (text ≡ report_of conf history ++ joined before ++ take front line)

-- the numbers of a run, each as far as 32 bits go
pub record Totals (conf : Conf) (events : List Event) (calls : List LinkCall) (end : LifeEnd) : Type 0 where
  pub sent : end.sent ≡ min (length (requests_of conf (reverse events))) (2 ^ 32 - 1)
  pub moved : end.moved ≡ min (length (moves_of conf (reverse events))) (2 ^ 32 - 1)
  pub refused : end.refused ≡ min (length (gather (λ t. reasons_by t.outcome) (told conf (reverse events)))) (2 ^ 32 - 1)
  pub quiet : end.quiet ≡ min (count_by is_quiet (receipts_among calls)) (2 ^ 32 - 1)
  pub lost : end.lost ≡ min (failed_calls calls) (2 ^ 32 - 1)
  pub turns : end.turns ≡ min (length (flat_map ticks_by events)) (2 ^ 32 - 1)

-- What the answers that speak of the disk say of the events taken. A disk of another version is refused before the
-- first one, and is left as it was. No mark is left exactly where a block was due, and the mark at entry and the
-- requests are past the last mark from which one fits. The disk failed before the first event, or where a block was
-- due.
abbrev pub KeptBy : Why → Stood → List Event → List Told → DiskTold → DiskTold → Type 0
KeptBy BadVersion stood events before entry exit = (events ≡ []) × IfSome entry.content HasOtherVersion × IsLeft entry exit
KeptBy StampsSpent stood events before entry exit =
    (events ≢ []) × IsDue (life_at before) × (4294967231 < stood.mark + count_of has_sent (life_at before))
KeptBy DiskFault stood events before entry exit = (events ≡ []) ⊎ IsDue (life_at before)
KeptBy _ stood events before entry exit = ⊤

-- One block more was begun than the requests of a life took: it was due, and the run ended before the Tick or the Resync
-- that asked for it was taken, but not for want of marks.
abbrev pub BeganAnother : Why → Ending → Need → List Told → Type 0
BeganAnother why ending need life = IsDue life × IsBeforeRequest ending need × (why ≢ StampsSpent)

-- the disk was called at most five times for each block that was begun in a life
abbrev pub CallsForBlocks : Why → Ending → Need → List Told → (start end : ℕ) → Type 0
CallsForBlocks why ending need life start end =
    (end ≤ start + 5 * blocks_of life) ⊎ (BeganAnother why ending need life × (end ≤ start + 5 * (1 + blocks_of life)))

-- an image stands for no more than the end of a block that was begun in a life of this mark
abbrev pub StandsForBlocks : Why → Ending → Need → List Told → (mark : ℕ) → (image : List ℕ) → Type 0
StandsForBlocks why ending need life mark image =
    (mark_of_image image ≤ mark + 64 * blocks_of life)
    ⊎ (BeganAnother why ending need life × (mark_of_image image ≤ mark + 64 * (1 + blocks_of life)))

-- what is needed behind an event, whether what it led to was done or not
abbrev pub behind_act : Need → Need
behind_act (Act outcome behind) = behind
behind_act need = need

-- ---- What comes behind the Life, so many turns or these calls

-- the events that what was given is woven into
abbrev pub events_of : Conf → Stood → Need → List ℤ → List ℕ → List Receipt → List Event
events_of conf stood (Turns turns) readings words receipts = weave stood readings words receipts
events_of conf stood (Calls calls) readings words receipts = service_weave conf stood calls readings words receipts
events_of conf stood _ readings words receipts = []

-- what is needed when none of them is left
abbrev pub need_over : Need → Need
need_over (Turns turns) = Turns 0
need_over (Calls calls) = Calls []
need_over need = need

-- ---- A run, in its parts

-- What was woven: the calls of clock and link and the words drawn, each where it was needed, the events that they give,
-- what there is of the last one, and what was needed next. All events but the one whose record could not be written
-- were taken. The history is these, the last one first.
pub record Woven (conf : Conf) (next : Need) (stood : Stood) : Type 0 where
  pub given : Given
  pub events : List Event
  pub ending : Ending
  pub need : Need
  pub woven : events ++ missing_in ending ≡ events_of conf stood next (readings_among given.clock) given.words (receipts_among given.link)
  pub weaves : Weaves conf (Start stood next) [] given.clock given.words given.link (events ++ missing_in ending) need
  pub grows : Grows conf (reverse events)
  -- after a line that could not be written no call of the link came
  pub last_call : EndsAtLast ending given.link

-- What the devices were asked for and given: requests, corrections and capture.
pub record Effects (conf : Conf) {next : Need} {stood : Stood} (w : Woven conf next stood) (before now : Seen) : Type 0 where
  -- the sends tried are the requests of the history
  pub link : Grew before.link now.link w.given.link
  pub requests : map posted_of (sends_among w.given.link) ≡ requests_of conf (reverse w.events)
  -- The corrections made are those of the history, of which no two answer one request. Each is made right behind the
  -- reading of its event. Behind the last event there is one reading more at most, which is no taken event's.
  pub clock : Grew before.clock now.clock w.given.clock
  pub moves : moves_among w.given.clock ≡ moves_of conf (reverse w.events)
  pub rest : List ℤ
  pub one : length rest ≤ 1
  pub at_once : w.given.clock ≡ clock_calls conf [] w.events ++ map Read rest
  pub once : MovesOnce (told conf (reverse w.events))
  pub words : Added before.words now.words w.given.words
  -- the capture spells the history, behind which stands a front of the record that could not be written
  pub record_bytes : List ℕ
  pub spells : SpellsEvents w.events record_bytes
  pub capture : Added before.capture now.capture (record_bytes ++ cut_record w.ending)

-- What was sent turn by turn, and the report of a run of turns.
pub record Turned (conf : Conf) {turns : ℕ} {stood : Stood} (w : Woven conf (Turns turns) stood) (before now : Seen) (end : LifeEnd) : Type 0 where
  -- turn by turn the request of the Tick is sent, and then the receipt is taken
  pub by_turn : List (List Tried)
  pub asked : map (map posted_of) by_turn ≡ turn_requests conf [] w.events
  pub in_turn : w.given.link ≡ turn_calls by_turn (receipts_among w.given.link)
  -- the report
  pub text : List ℕ
  pub reports : Reports conf (reverse w.events) end w.ending w.need text
  pub out : Added before.written now.written text

-- Why the run ended, and what it came to: exactly one call failed, or none, but for those of the link.
pub record Ended (conf : Conf) {next : Need} {stood : Stood} (w : Woven conf next stood) (before now : Seen) (end : LifeEnd) : Type 0 where
  pub ends : LifeEndsBy end.why w.ending w.need (faults_of before) (faults_of now)
  pub link_failed : FailsTimes (failed_calls w.given.link) before.link_faults now.link_faults
  pub well : end.why ≡ Done → w.need ≡ need_over next
  -- where the record or the line of the Life could not be written, the first turn or call is needed next
  pub life_last : end.why ≡ SinkFault → (now : ℤ) → w.events ++ missing_in w.ending ≡ Life now stood.mark ∷ [] → behind_act w.need ≡ next
  pub totals : Totals conf w.events w.given.link end

-- What the disk was called for, and what it stands for.
pub record Kept (conf : Conf) {next : Need} {stood : Stood} (w : Woven conf next stood) (entry exit : DiskTold) (why : Why) : Type 0 where
  pub kept : KeptBy why stood w.events (told conf (reverse w.events)) entry exit
  -- a load doesn't refuse the disk where an event was taken, and where the answer is none of the disk
  pub loadable : (w.events ≢ []) ⊎ ((why ≢ BadVersion) × (why ≢ DiskFault)) → IfSome entry.content IsLoadable
  -- what the run leaves can be loaded again, where each image at entry could
  pub loads : KeepsLoadable entry exit
  -- marks before sends, no count reserved past the last one of 32 bits, at most five calls for each block and four before
  -- the Life
  pub marks : MarksBeforeSends entry exit stood.mark (told conf (reverse w.events))
  -- Where the disk failed, they hold just before that call too: a stop between two calls of the disk, or within one, is
  -- the end of the run whose next call of the disk fails.
  pub stopped : why ≡ DiskFault → StopCoversSends entry exit (told conf (reverse w.events))
  pub within : w.events ≢ [] → stood.mark + 64 * blocks_of (life_at (told conf (reverse w.events))) < 2 ^ 32
  pub calls : exit.time ≤ entry.time + 4 + 5 * (1 + length (sends_among w.given.link) / 64)
  pub blocks : CallsForBlocks why w.ending w.need (life_at (told conf (reverse w.events))) (entry.time + 4) exit.time
  -- What a crash at any moment of the run leaves stands for a mark that an image at entry stood for, or for no more than
  -- the end of a block that was begun; and the bytes that belong to no slot are those of an image at entry.
  pub most : LeavesOnly entry exit (λ image. StandsAsBefore entry image
      ⊎ StandsForBlocks why w.ending w.need (life_at (told conf (reverse w.events))) stood.mark image)
  pub unused : LeavesOnly entry exit (KeepsUnused entry)
  -- where the disk was loaded, what is left stands for no more than that, and can be loaded
  pub loaded : (w.events ≢ []) ⊎ ((why ≢ BadVersion) × (why ≢ DiskFault)) → (image : List ℕ) → exit.may_leave image
      → IsLoadable image × StandsForBlocks why w.ending w.need (life_at (told conf (reverse w.events))) stood.mark image
  -- the mark at the end
  pub reserved : why ≡ Done → IfSome exit.content (λ c. mark_of_image c ≡ stood.mark + 64 * blocks_of (life_at (told conf (reverse w.events))))

-- a run of so many turns: what the disk's content stood for at entry, and the parts
pub record Lives (conf : Conf) (turns : ℕ) (entry exit : DiskTold) (before now : Seen) (end : LifeEnd) : Type 0 where
  pub stood : Stood
  pub stood_for : IfSome entry.content (λ c. stood.mark ≡ mark_of_image c)
  pub woven : Woven conf (Turns turns) stood
  pub effects : Effects conf woven before now
  pub turned : Turned conf woven before now end
  pub ended : Ended conf woven before now end
  pub kept : Kept conf woven entry exit end.why
