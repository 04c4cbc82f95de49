-- Calls of `/member` and of `/service` on one disk, one after the other.
use Rattle.std.specs.Prelude.{◌≡◌, ◌≢◌, ◌⊎◌, ◌<◌, ◌++◌, ℕ, ℤ, List, [], ◌∷◌, flat_map, length, map, take, Some, ⊤}
use Rattle.std.proofs.Common.{inl, inr}
use Rattle.std.specs.List.{Contains}
use Rattle.base_specs.specs.Told.{Added}
use Rattle.capture_fmt.specs.Capture.{place_limit}
use Rattle.edge_traits.specs.declared.datagram.Addr.{Addr}
use Rattle.ntp_wire.specs.Fields.{originate_of}
use Rattle.edge_seen.specs.Seen.{Seen}
use Rattle.replay_run.specs.declared.end.ReplayEnd.{ReplayEnd}
use Rattle.run_deeds.specs.declared.life_end.Why.{Why}
use Rattle.run_deeds.specs.declared.life_end.Why.TheVariants as why
use Rattle.run_deeds.specs.Weaving.{Calls, Turns}
use Rattle.service_run.specs.Serving.{Serves}
use Rattle.service_run.specs.Sessions.{calls_in, session_calls}
use Rattle.settings_source.specs.Reading.{text_limit}
use Rattle.slot_disk.specs.Told.{DiskTold}
use Rattle.time_machine.specs.declared.conf.Conf.{Conf}
use Rattle.time_machine.specs.declared.outcome.Request.{Request}
use Rattle.time_machine.specs.Entries.{gather}
use Rattle.time_machine.specs.Events.{History}
use Rattle.time_machine.specs.Laws.{AnswersNone, CountsRise, MovesOnce}
use Rattle.time_machine.specs.Words.{all_sent}
use Rattle.time_machine.specs.Report.{report_of, total_line}
use Rattle.w32t_settings.specs.Answer.{AreSettingsOf}
use Rattle.w32t_settings.specs.declared.settings.Settings.{Settings}
use Rattle.w32tm_text.specs.Conf.{IsConfOf}
use Rattle.w32tm_text.specs.declared.status.Status.{Status}
use Rattle.w32tm_text.specs.declared.status.Status.TheVariants.{Done, ReadFault, WriteFault, DiskFault, BadKeeper, StampsSpent, ClockFault, EntropyFault, NoMemory}
use Rattle.all_lives.specs.Laws.{Joins, Rise}
use Rattle.all_lives.specs.Runs.{HaveConf, MayFind, Run, all_told, all_tried, history_of, seconds_of}
use Rattle.w32tm_cmd.specs.declared.outside.Outside.{Outside}
use Rattle.w32tm_cmd.specs.Config.{after_settings}
use Rattle.w32tm_cmd.specs.Member.{LivesUntil, MemberPromise, RunsMember}
use Rattle.w32tm_cmd.specs.Replay.{IsReplayFaultless, ReplayPromise}
use Rattle.w32tm_cmd.specs.Service.{RunsService, ServesUntil, ServicePromise}
use Rattle.w32tm_cmd.specs.Touching.{MemberTouches, ServiceTouches}

-- A call of the program's top call on `/member`: its devices at entry and at exit, its answer, and what is promised of
-- these.
pub record MemberCall {S O L C D E W : Type 0} (seen : Outside S O L C D E W → Seen) (tells : D → DiskTold) : Type 0 where
  pub turns : ℕ
  pub old : Outside S O L C D E W
  pub new : Outside S O L C D E W
  pub result : Status
  pub promise : MemberPromise turns (tells old.disk) (tells new.disk) (seen old) (seen new) result
  pub touches : MemberTouches old new result

-- the run that lived so, on its disk
abbrev pub run_of : {D : Type 0} {tells : D → DiskTold} (turns : ℕ) (entry exit : D) (before now : Seen) (why : Why)
    → LivesUntil turns (tells entry) (tells exit) before now why → Run tells
run_of turns entry exit before now why lived = record {
  conf = lived.conf;
  next = Turns turns;
  of_run = tt;
  stood = lived.lives.stood;
  woven = lived.lives.woven;
  before = after_settings before now;
  now = now;
  effects = lived.lives.effects;
  entry = entry;
  exit = exit;
  stood_for = lived.lives.stood_for;
  why = lived.end.why;
  kept = lived.lives.kept;
}

-- the run that was made, by the answer, if it is one of a run
abbrev pub runs_by : {D : Type 0} {tells : D → DiskTold} (turns : ℕ) (entry exit : D) (before now : Seen) (result : Status)
    → RunsMember turns (tells entry) (tells exit) before now result → List (Run tells)
runs_by turns entry exit before now Done lived = run_of turns entry exit before now why.Done lived ∷ []
runs_by turns entry exit before now WriteFault lived = run_of turns entry exit before now why.SinkFault lived ∷ []
runs_by turns entry exit before now DiskFault lived = run_of turns entry exit before now why.DiskFault lived ∷ []
runs_by turns entry exit before now BadKeeper lived = run_of turns entry exit before now why.BadVersion lived ∷ []
runs_by turns entry exit before now StampsSpent lived = run_of turns entry exit before now why.StampsSpent lived ∷ []
runs_by turns entry exit before now ClockFault lived = run_of turns entry exit before now why.ClockFault lived ∷ []
runs_by turns entry exit before now EntropyFault lived = run_of turns entry exit before now why.EntropyFault lived ∷ []
runs_by turns entry exit before now _ other = []

-- A call of the top call on `/service`, in the same way.
pub record ServiceCall {S O L C D E W : Type 0} (seen : Outside S O L C D E W → Seen) (tells : D → DiskTold) : Type 0 where
  pub sessions : ℕ
  pub old : Outside S O L C D E W
  pub new : Outside S O L C D E W
  pub result : Status
  pub promise : ServicePromise sessions (tells old.disk) (tells new.disk) (seen old) (seen new) result
  pub touches : ServiceTouches old new result

-- the run that served so, on its disk
abbrev pub run_served : {D : Type 0} {tells : D → DiskTold} (sessions : ℕ) (entry exit : D) (before now : Seen) (result : Status)
    → ServesUntil sessions (tells entry) (tells exit) before now result → Run tells
run_served sessions entry exit before now result served = record {
  conf = served.conf;
  next = Calls (session_calls served.serves.served ++ calls_in served.serves.last);
  of_run = tt;
  stood = served.serves.stood;
  woven = served.serves.woven;
  before = after_settings before now;
  now = now;
  effects = served.serves.effects;
  entry = entry;
  exit = exit;
  stood_for = served.serves.stood_for;
  why = served.serves.end.why;
  kept = served.serves.kept;
}

-- the run that was made, by the answer, if it is one of a run
abbrev pub served_by : {D : Type 0} {tells : D → DiskTold} (sessions : ℕ) (entry exit : D) (before now : Seen) (result : Status)
    → RunsService sessions (tells entry) (tells exit) before now result → List (Run tells)
served_by sessions entry exit before now Done served = run_served sessions entry exit before now Done served ∷ []
served_by sessions entry exit before now WriteFault served = run_served sessions entry exit before now WriteFault served ∷ []
served_by sessions entry exit before now DiskFault served = run_served sessions entry exit before now DiskFault served ∷ []
served_by sessions entry exit before now BadKeeper served = run_served sessions entry exit before now BadKeeper served ∷ []
served_by sessions entry exit before now StampsSpent served = run_served sessions entry exit before now StampsSpent served ∷ []
served_by sessions entry exit before now ClockFault served = run_served sessions entry exit before now ClockFault served ∷ []
served_by sessions entry exit before now EntropyFault served = run_served sessions entry exit before now EntropyFault served ∷ []
served_by sessions entry exit before now ReadFault (inl stops) = []
served_by sessions entry exit before now ReadFault (inr served) = run_served sessions entry exit before now ReadFault served ∷ []
served_by sessions entry exit before now _ other = []

-- ---- Calls of either command

-- a call of one of the two commands that keep marks on the disk
pub data KeeperCall {S O L C D E W : Type 0} (seen : Outside S O L C D E W → Seen) (tells : D → DiskTold) : Type 0 where
  OfMember : (call : MemberCall seen tells) → KeeperCall seen tells
  OfService : (call : ServiceCall seen tells) → KeeperCall seen tells

-- its devices at entry, and at exit
abbrev pub old_of : {S O L C D E W : Type 0} {seen : Outside S O L C D E W → Seen} {tells : D → DiskTold} → KeeperCall seen tells → Outside S O L C D E W
old_of (OfMember call) = call.old
old_of (OfService call) = call.old

abbrev pub new_of : {S O L C D E W : Type 0} {seen : Outside S O L C D E W → Seen} {tells : D → DiskTold} → KeeperCall seen tells → Outside S O L C D E W
new_of (OfMember call) = call.new
new_of (OfService call) = call.new

-- its answer
abbrev pub result_of : {S O L C D E W : Type 0} {seen : Outside S O L C D E W → Seen} {tells : D → DiskTold} → KeeperCall seen tells → Status
result_of (OfMember call) = call.result
result_of (OfService call) = call.result

-- the run of a call, if it made one
abbrev pub runs_in : {S O L C D E W : Type 0} {seen : Outside S O L C D E W → Seen} {tells : D → DiskTold} → KeeperCall seen tells → List (Run tells)
runs_in {seen = seen} (OfMember call) = runs_by call.turns call.old.disk call.new.disk (seen call.old) (seen call.new) call.result call.promise.runs
runs_in {seen = seen} (OfService call) =
    served_by call.sessions call.old.disk call.new.disk (seen call.old) (seen call.new) call.result call.promise.runs

-- the runs of all calls, the last one first
abbrev pub runs_of : {S O L C D E W : Type 0} {seen : Outside S O L C D E W → Seen} {tells : D → DiskTold} → List (KeeperCall seen tells) → List (Run tells)
runs_of calls = flat_map runs_in calls

-- what the next call may find: what the run may have left, or, where there was none, what a crash leaves of the disk
abbrev pub LeftBy : {D : Type 0} {tells : D → DiskTold} → List (Run tells) → D → List ℕ → Type 0
LeftBy {tells = tells} [] exit image = (tells exit).may_leave image
LeftBy (run ∷ earlier) exit image = MayFind run image

-- A call begins with what the one before may have left: its disk's content, which is told, and each image of it.
pub record FindsAfter {S O L C D E W : Type 0} {seen : Outside S O L C D E W → Seen} {tells : D → DiskTold} (earlier later : KeeperCall seen tells) : Type 0 where
  pub content : List ℕ
  pub read : (tells (old_of later).disk).content ≡ Some content
  pub was_left : LeftBy (runs_in earlier) (new_of earlier).disk content
  pub images : (image : List ℕ) → (tells (old_of later).disk).may_leave image → LeftBy (runs_in earlier) (new_of earlier).disk image

-- Calls on one disk, the last one first. Each begins with what the one before it may have left.
abbrev pub AreOnOneDisk : {S O L C D E W : Type 0} {seen : Outside S O L C D E W → Seen} {tells : D → DiskTold} → List (KeeperCall seen tells) → Type 0
AreOnOneDisk [] = ⊤
AreOnOneDisk (call ∷ []) = ⊤
AreOnOneDisk (later ∷ earlier ∷ calls) = FindsAfter earlier later × AreOnOneDisk (earlier ∷ calls)

-- ---- What holds of all of them

-- no timestamp is sent twice: over all calls the transmit timestamps of the sends that were tried rise
abbrev pub SendsNoneTwice : {S O L C D E W : Type 0} {seen : Outside S O L C D E W → Seen} {tells : D → DiskTold} → List (KeeperCall seen tells) → Type 0
SendsNoneTwice calls = Rise (map seconds_of (all_tried (runs_of calls)))

-- each request corrects the clock at most once, whatever the settings of each call
abbrev pub MovesOnceInAll : {S O L C D E W : Type 0} {seen : Outside S O L C D E W → Seen} {tells : D → DiskTold} → List (KeeperCall seen tells) → Type 0
MovesOnceInAll calls = MovesOnce (all_told (runs_of calls))

-- A reply to a request of an earlier run, with whatever word, is refused in a later one, and moves and changes nothing.
abbrev pub RefusesEarlier : {S O L C D E W : Type 0} {seen : Outside S O L C D E W → Seen} {tells : D → DiskTold} → List (KeeperCall seen tells) → Type 0
RefusesEarlier {tells = tells} calls = (newer earlier : List (Run tells)) (run : Run tells) → runs_of calls ≡ newer ++ run ∷ earlier
    → (later before : History) → history_of run ≡ later ++ before → before ≢ []
    → (now : ℤ) (from : Addr) (bytes : List ℕ) (r : Request)
    → Contains (all_sent (all_told earlier)) r → (originate_of bytes).seconds ≡ r.count
    → AnswersNone run.conf before now from bytes

-- ---- Their captures

-- in a call that ended well this capture was recorded, and its sink tells
pub record IsRecordOf {S O L C D E W : Type 0} {seen : Outside S O L C D E W → Seen} {tells : D → DiskTold} (call : KeeperCall seen tells) (capture : List ℕ) : Type 0 where
  pub done : result_of call ≡ Done
  pub old : List ℕ
  pub told : (seen (old_of call)).capture ≡ Some old
  pub grew : (seen (new_of call)).capture ≡ Some (old ++ capture)

-- these are the captures of all calls, joined, the oldest one first
abbrev pub AreRecords : {S O L C D E W : Type 0} {seen : Outside S O L C D E W → Seen} {tells : D → DiskTold} → List (KeeperCall seen tells) → List ℕ → Type 0
AreRecords [] bytes = bytes ≡ []
AreRecords (call ∷ earlier) bytes =
    (own before : List ℕ) × (bytes ≡ before ++ own) × IsRecordOf call own × AreRecords earlier before

-- a replay of exactly these bytes under a text with settings of this member
pub record ReplaysAll (conf : Conf) (capture : List ℕ) (before now : Seen) (result : Status) : Type 0 where
  pub settings : Settings
  pub is_conf : IsConfOf settings conf
  pub bytes : List ℕ
  pub told : before.config ≡ Some bytes
  pub says : AreSettingsOf (take text_limit bytes) settings
  pub given : before.left ≡ Some capture
  pub promise : ReplayPromise before now result

-- it wrote the report lines of all runs, one run's after the other's, and then the total line
pub record WritesAllLines {D : Type 0} {tells : D → DiskTold} (conf : Conf) (runs : List (Run tells)) (before now : Seen) : Type 0 where
  pub end : ReplayEnd
  pub written : Added before.written now.written
      (gather (λ run. report_of conf (history_of run)) runs ++ total_line end.sent end.moved end.refused)

-- It does so where it is done. It is done where the bytes are few and no call failed, unless memory was wanted.
pub record ReplaysJoined {S O L C D E W : Type 0} {seen : Outside S O L C D E W → Seen} {tells : D → DiskTold} (conf : Conf) (calls : List (KeeperCall seen tells)) : Type 0 where
  pub lines : (capture : List ℕ) (before now : Seen) → AreRecords calls capture → ReplaysAll conf capture before now Done
      → WritesAllLines conf (runs_of calls) before now
  pub done : (capture : List ℕ) (before now : Seen) (result : Status) → AreRecords calls capture
      → ReplaysAll conf capture before now result → length capture < place_limit → IsReplayFaultless before now
      → (result ≡ Done) ⊎ (result ≡ NoMemory)
