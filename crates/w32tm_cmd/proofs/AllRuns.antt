-- Calls of `/member` and `/service` on one disk: their runs follow one another.
use Rattle.std.proofs.Common.{◌≡◌, ◌≢◌, ◌⊎◌, ◌<◌, ℕ, ℤ, List, [], ◌∷◌, ◌++◌, length, map, reverse, flat_map, Some, inl, inr, refl, sym, ap, subst, ◌∙◌, arith}
use Rattle.std.specs.Prelude.{⊤}
use Rattle.std.specs.List.{AllByRecursion, Contains}
use Rattle.std.proofs.lemmas.List.{reverse-append}
use Rattle.base_specs.specs.Told.{Added}
use Rattle.capture_fmt.specs.declared.event.Event.{Event}
use Rattle.capture_fmt.specs.Capture.{SpellsEvents, place_limit}
use Rattle.capture_fmt.proofs.Histories.{joined_histories}
use Rattle.edge_seen.specs.Seen.{Seen}
use Rattle.edge_traits.specs.declared.datagram.Addr.{Addr}
use Rattle.ntp_wire.specs.Fields.{originate_of}
use Rattle.run_deeds.specs.Devices.{LifeEndsBy, faults_of}
use Rattle.run_deeds.specs.declared.life_end.Why.{Why}
use Rattle.run_deeds.specs.declared.life_end.Why.TheVariants as why
use Rattle.service_run.specs.Serving.{status_of}
use Rattle.service_run.specs.Sessions.{Last}
use Rattle.slot_disk.specs.Calls.{NoOther}
use Rattle.slot_disk.specs.Told.{DiskTold}
use Rattle.time_machine.specs.declared.conf.Conf.{Conf}
use Rattle.time_machine.specs.declared.outcome.Request.{Request}
use Rattle.time_machine.specs.Entries.{gather}
use Rattle.time_machine.specs.Events.{History}
use Rattle.time_machine.specs.Growing.{Grows}
use Rattle.time_machine.specs.Laws.{AnswersNone, CountsRise, MovesOnce}
use Rattle.time_machine.specs.Report.{report_of, total_line}
use Rattle.w32tm_text.specs.declared.status.Status.{Status}
use Rattle.w32tm_text.specs.declared.status.Status.TheVariants.{Done, BadWords, BadConfig, BadCapture, ReadFault, WriteFault, DiskFault, BadKeeper, StampsSpent, ClockFault, EntropyFault, NoPartner, NotResynced, PeerRefused, BadRequest, NoMemory}
use Rattle.all_lives.specs.Laws.{Joins}
use Rattle.all_lives.specs.Runs.{AreSuccessive, Finds, HaveConf, MayFind, Run, all_told, history_of, joined_history}
use Rattle.all_lives.proofs.Chains.{chain_counts, chain_earlier, chain_joins, chain_moves}
use Rattle.all_lives.proofs.Wire.{chain_stamps}
use Rattle.w32tm_cmd.specs.declared.outside.Outside.{Outside}
use Rattle.w32tm_cmd.specs.AllRuns.{AreOnOneDisk, AreRecords, FindsAfter, IsRecordOf, KeeperCall, LeftBy, MemberCall, MovesOnceInAll, OfMember, OfService, RefusesEarlier, ReplaysAll, ReplaysJoined, SendsNoneTwice, ServiceCall, WritesAllLines, new_of, old_of, result_of, runs_by, runs_in, runs_of, served_by}
use Rattle.w32tm_cmd.specs.Member.{LivesUntil, RunsMember}
use Rattle.w32tm_cmd.specs.Replay.{IsReplayFaultless}
use Rattle.w32tm_cmd.specs.Config.{after_settings}
use Rattle.w32tm_cmd.specs.Service.{RunsService, ServesUntil}
use Rattle.w32tm_cmd.specs.Touching.{MemberTouches, ServiceTouches}
use Rattle.w32tm_cmd.proofs.Again.{lived_capture, whole_capture}

-- what a call leaves on its disk: the run's end, or where it made none, no image that was not there
abbrev IsMade : {D : Type 0} {tells : D → DiskTold} → List (Run tells) → D → D → Type 0
IsMade {tells = tells} [] entry exit = NoOther (tells entry) (tells exit)
IsMade (run ∷ []) entry exit = (run.entry ≡ entry) × (run.exit ≡ exit)
IsMade (run ∷ other ∷ more) entry exit = ⊥

untouched : {D : Type 0} (tells : D → DiskTold) (entry exit : D) → exit ≡ entry → NoOther (tells entry) (tells exit)
untouched tells entry exit same = record { was = λ image left. subst (λ (d : _). (tells d).may_leave image) same left }

-- a command that touched the settings alone
settings_alone : {S O L C D E W : Type 0} (tells : D → DiskTold) (old new : Outside S O L C D E W) → new ≡ record old { config = new.config } → NoOther (tells old.disk) (tells new.disk)
settings_alone tells old new touches = untouched tells old.disk new.disk (ap (λ (o : Outside _ _ _ _ _ _ _). o.disk) touches)

made_member : {S O L C D E W : Type 0} (tells : D → DiskTold) (turns : ℕ) (old new : Outside S O L C D E W) (before now : Seen) (result : Status) (promised : RunsMember turns (tells old.disk) (tells new.disk) before now result)
    → MemberTouches old new result → IsMade {tells = tells} (runs_by {tells = tells} turns old.disk new.disk before now result promised) old.disk new.disk
made_member tells turns old new before now Done promised touches = (refl, refl)
made_member tells turns old new before now BadWords promised touches = settings_alone tells old new touches
made_member tells turns old new before now (BadConfig line) promised touches = settings_alone tells old new touches
made_member tells turns old new before now (BadCapture at) promised touches = settings_alone tells old new touches
made_member tells turns old new before now ReadFault promised touches = settings_alone tells old new touches
made_member tells turns old new before now WriteFault promised touches = (refl, refl)
made_member tells turns old new before now DiskFault promised touches = (refl, refl)
made_member tells turns old new before now BadKeeper promised touches = (refl, refl)
made_member tells turns old new before now StampsSpent promised touches = (refl, refl)
made_member tells turns old new before now ClockFault promised touches = (refl, refl)
made_member tells turns old new before now EntropyFault promised touches = (refl, refl)
made_member tells turns old new before now NoPartner promised touches = settings_alone tells old new touches
made_member tells turns old new before now (NotResynced n) promised touches = settings_alone tells old new touches
made_member tells turns old new before now PeerRefused promised touches = settings_alone tells old new touches
made_member tells turns old new before now (BadRequest reason) promised touches = settings_alone tells old new touches
made_member tells turns old new before now NoMemory promised touches = settings_alone tells old new touches

made_service : {S O L C D E W : Type 0} (tells : D → DiskTold) (sessions : ℕ) (old new : Outside S O L C D E W) (before now : Seen) (result : Status) (promised : RunsService sessions (tells old.disk) (tells new.disk) before now result)
    → ServiceTouches old new result → IsMade {tells = tells} (served_by {tells = tells} sessions old.disk new.disk before now result promised) old.disk new.disk
made_service tells sessions old new before now Done promised touches = (refl, refl)
made_service tells sessions old new before now BadWords promised touches = settings_alone tells old new touches
made_service tells sessions old new before now (BadConfig line) promised touches = settings_alone tells old new touches
made_service tells sessions old new before now (BadCapture at) promised touches = settings_alone tells old new touches
made_service tells sessions old new before now ReadFault (inl stops) touches = record { was = stops.1.was }
made_service tells sessions old new before now ReadFault (inr served) touches = (refl, refl)
made_service tells sessions old new before now WriteFault promised touches = (refl, refl)
made_service tells sessions old new before now DiskFault promised touches = (refl, refl)
made_service tells sessions old new before now BadKeeper promised touches = (refl, refl)
made_service tells sessions old new before now StampsSpent promised touches = (refl, refl)
made_service tells sessions old new before now ClockFault promised touches = (refl, refl)
made_service tells sessions old new before now EntropyFault promised touches = (refl, refl)
made_service tells sessions old new before now NoPartner promised touches = settings_alone tells old new touches
made_service tells sessions old new before now (NotResynced n) promised touches = settings_alone tells old new touches
made_service tells sessions old new before now PeerRefused promised touches = settings_alone tells old new touches
made_service tells sessions old new before now (BadRequest reason) promised touches = settings_alone tells old new touches
made_service tells sessions old new before now NoMemory promised touches = settings_alone tells old new touches

-- a call that ended well made one run, whose events its capture spells
abbrev IsSpelled : {D : Type 0} {tells : D → DiskTold} → List (Run tells) → List ℕ → Type 0
IsSpelled [] own = ⊥
IsSpelled (run ∷ []) own = SpellsEvents run.woven.events own
IsSpelled (run ∷ other ∷ more) own = ⊥

spelled_member : {D : Type 0} (tells : D → DiskTold) (turns : ℕ) (entry exit : D) (before now : Seen) (result : Status) (promised : RunsMember turns (tells entry) (tells exit) before now result) (old own : List ℕ)
    → result ≡ Done → before.capture ≡ Some old → now.capture ≡ Some (old ++ own) → IsSpelled {tells = tells} (runs_by {tells = tells} turns entry exit before now result promised) own
spelled_member tells turns entry exit before now Done promised old own done told grew = lived_capture promised old own told grew
spelled_member tells turns entry exit before now BadWords promised old own done told grew = absurd (let bad : ⊥ = cc done in bad)
spelled_member tells turns entry exit before now (BadConfig line) promised old own done told grew = absurd (let bad : ⊥ = cc done in bad)
spelled_member tells turns entry exit before now (BadCapture at) promised old own done told grew = absurd (let bad : ⊥ = cc done in bad)
spelled_member tells turns entry exit before now ReadFault promised old own done told grew = absurd (let bad : ⊥ = cc done in bad)
spelled_member tells turns entry exit before now WriteFault promised old own done told grew = absurd (let bad : ⊥ = cc done in bad)
spelled_member tells turns entry exit before now DiskFault promised old own done told grew = absurd (let bad : ⊥ = cc done in bad)
spelled_member tells turns entry exit before now BadKeeper promised old own done told grew = absurd (let bad : ⊥ = cc done in bad)
spelled_member tells turns entry exit before now StampsSpent promised old own done told grew = absurd (let bad : ⊥ = cc done in bad)
spelled_member tells turns entry exit before now ClockFault promised old own done told grew = absurd (let bad : ⊥ = cc done in bad)
spelled_member tells turns entry exit before now EntropyFault promised old own done told grew = absurd (let bad : ⊥ = cc done in bad)
spelled_member tells turns entry exit before now NoPartner promised old own done told grew = absurd (let bad : ⊥ = cc done in bad)
spelled_member tells turns entry exit before now (NotResynced n) promised old own done told grew = absurd (let bad : ⊥ = cc done in bad)
spelled_member tells turns entry exit before now PeerRefused promised old own done told grew = absurd (let bad : ⊥ = cc done in bad)
spelled_member tells turns entry exit before now (BadRequest reason) promised old own done told grew = absurd (let bad : ⊥ = cc done in bad)
spelled_member tells turns entry exit before now NoMemory promised old own done told grew = absurd (let bad : ⊥ = cc done in bad)

-- a service that is done ended well
well_served : (is : Why) (last : Last) → Done ≡ status_of is last → is ≡ why.Done
well_served why.Done last same = refl
well_served why.DiskFault last same = absurd (let bad : ⊥ = cc same in bad)
well_served why.BadVersion last same = absurd (let bad : ⊥ = cc same in bad)
well_served why.StampsSpent last same = absurd (let bad : ⊥ = cc same in bad)
well_served why.ClockFault last same = absurd (let bad : ⊥ = cc same in bad)
well_served why.EntropyFault last same = absurd (let bad : ⊥ = cc same in bad)
well_served why.SinkFault last same = absurd (let bad : ⊥ = cc same in bad)

served_capture : (sessions : ℕ) (entry exit : DiskTold) (before now : Seen) (served : ServesUntil sessions entry exit before now Done) (old own : List ℕ)
    → before.capture ≡ Some old → now.capture ≡ Some (old ++ own) → SpellsEvents served.serves.woven.events own
served_capture sessions entry exit before now served old own told grew =
    let s = served.serves in
    let ends = subst (λ (w : Why). LifeEndsBy w s.woven.ending s.woven.need (faults_of (after_settings before now)) (faults_of now)) (well_served s.end.why s.last s.is_status) s.ended.ends in
    whole_capture s.woven (after_settings before now) now s.effects ends.0 old own told grew

spelled_service : {D : Type 0} (tells : D → DiskTold) (sessions : ℕ) (entry exit : D) (before now : Seen) (result : Status) (promised : RunsService sessions (tells entry) (tells exit) before now result) (old own : List ℕ)
    → result ≡ Done → before.capture ≡ Some old → now.capture ≡ Some (old ++ own) → IsSpelled {tells = tells} (served_by {tells = tells} sessions entry exit before now result promised) own
spelled_service tells sessions entry exit before now Done promised old own done told grew = served_capture sessions (tells entry) (tells exit) before now promised old own told grew
spelled_service tells sessions entry exit before now BadWords promised old own done told grew = absurd (let bad : ⊥ = cc done in bad)
spelled_service tells sessions entry exit before now (BadConfig line) promised old own done told grew = absurd (let bad : ⊥ = cc done in bad)
spelled_service tells sessions entry exit before now (BadCapture at) promised old own done told grew = absurd (let bad : ⊥ = cc done in bad)
spelled_service tells sessions entry exit before now ReadFault promised old own done told grew = absurd (let bad : ⊥ = cc done in bad)
spelled_service tells sessions entry exit before now WriteFault promised old own done told grew = absurd (let bad : ⊥ = cc done in bad)
spelled_service tells sessions entry exit before now DiskFault promised old own done told grew = absurd (let bad : ⊥ = cc done in bad)
spelled_service tells sessions entry exit before now BadKeeper promised old own done told grew = absurd (let bad : ⊥ = cc done in bad)
spelled_service tells sessions entry exit before now StampsSpent promised old own done told grew = absurd (let bad : ⊥ = cc done in bad)
spelled_service tells sessions entry exit before now ClockFault promised old own done told grew = absurd (let bad : ⊥ = cc done in bad)
spelled_service tells sessions entry exit before now EntropyFault promised old own done told grew = absurd (let bad : ⊥ = cc done in bad)
spelled_service tells sessions entry exit before now NoPartner promised old own done told grew = absurd (let bad : ⊥ = cc done in bad)
spelled_service tells sessions entry exit before now (NotResynced n) promised old own done told grew = absurd (let bad : ⊥ = cc done in bad)
spelled_service tells sessions entry exit before now PeerRefused promised old own done told grew = absurd (let bad : ⊥ = cc done in bad)
spelled_service tells sessions entry exit before now (BadRequest reason) promised old own done told grew = absurd (let bad : ⊥ = cc done in bad)
spelled_service tells sessions entry exit before now NoMemory promised old own done told grew = absurd (let bad : ⊥ = cc done in bad)

none_spelled : SpellsEvents [] []
none_spelled = record { fits = tt; written = refl }

module _ {D : Type 0} {tells : D → DiskTold} where
  -- what a disk has is what the last of these runs may have left
  abbrev Begins : List (Run tells) → D → Type 0
  Begins [] disk = ⊤
  Begins (run ∷ earlier) disk =
      (content : List ℕ) × ((tells disk).content ≡ Some content) × MayFind run content × ((image : List ℕ) → (tells disk).may_leave image → MayFind run image)

  one_more : (run : Run tells) (older : List (Run tells)) → Begins older run.entry → AreSuccessive older → AreSuccessive (run ∷ older)
  one_more run [] begins s = tt
  one_more run (earlier ∷ rest) begins s = (record { content = begins.0; read = begins.1; was_left = begins.2; images = begins.3 }, s)

  -- the run of a call, if it made one, follows those before it
  with_runs : (runs older : List (Run tells)) (entry exit : D) → IsMade runs entry exit → Begins older entry → AreSuccessive older → AreSuccessive (runs ++ older)
  with_runs [] older entry exit made begins s = s
  with_runs (run ∷ []) older entry exit made begins s = one_more run older (subst (Begins older) (sym made.0) begins) s
  with_runs (run ∷ other ∷ more) older entry exit made begins s = absurd made

  -- a call that made no run leaves what it found
  none_more : (entry exit disk : D) (older : List (Run tells)) → NoOther (tells entry) (tells exit) → Begins older entry
      → (content : List ℕ) → (tells disk).content ≡ Some content → (tells exit).may_leave content → ((image : List ℕ) → (tells disk).may_leave image → (tells exit).may_leave image)
      → Begins older disk
  none_more entry exit disk [] still begins content read left images = tt
  none_more entry exit disk (run ∷ rest) still begins content read left images =
      let back : (image : List ℕ) → (tells exit).may_leave image → MayFind run image = λ image was. begins.3 image (still.was image was) in
      (content, read, back content left, λ image now. back image (images image now))

  -- what is found behind a call
  found_after : (runs older : List (Run tells)) (entry exit disk : D) → IsMade runs entry exit → Begins older entry
      → (content : List ℕ) → (tells disk).content ≡ Some content → LeftBy {tells = tells} runs exit content
      → ((image : List ℕ) → (tells disk).may_leave image → LeftBy {tells = tells} runs exit image) → Begins (runs ++ older) disk
  found_after [] older entry exit disk made begins content read left images = none_more entry exit disk older made begins content read left images
  found_after (run ∷ []) older entry exit disk made begins content read left images = (content, read, left, images)
  found_after (run ∷ other ∷ more) older entry exit disk made begins content read left images = absurd made

  later_dropped : (newer earlier : List (Run tells)) → AreSuccessive (newer ++ earlier) → AreSuccessive earlier
  later_dropped [] earlier s = s
  later_dropped (run ∷ []) [] s = tt
  later_dropped (run ∷ []) (next ∷ rest) s = s.1
  later_dropped (run ∷ next ∷ newer) earlier s = later_dropped (next ∷ newer) earlier s.1

  -- the events of all runs, in their order
  abbrev events_of : List (Run tells) → List Event
  events_of runs = gather (λ run. run.woven.events) runs

  events_joined : (runs : List (Run tells)) → reverse (events_of runs) ≡ joined_history runs
  events_joined [] = refl
  events_joined (run ∷ earlier) =
      reverse-append (events_of earlier) run.woven.events ∙ ap (λ (h : History). history_of run ++ h) (events_joined earlier)

  -- the records of a call that ended well are those of its events
  call_spells : (runs older : List (Run tells)) (bytes own : List ℕ) → IsSpelled runs own → SpellsEvents (events_of older) bytes → SpellsEvents (events_of (runs ++ older)) (bytes ++ own)
  call_spells [] older bytes own spelled spells = absurd spelled
  call_spells (run ∷ []) older bytes own spelled spells = joined_histories (events_of older) run.woven.events bytes own spells spelled
  call_spells (run ∷ other ∷ more) older bytes own spelled spells = absurd spelled

module _ {S O L C D E W : Type 0} {seen : Outside S O L C D E W → Seen} {tells : D → DiskTold} where
  -- so the runs of calls on one disk follow one another
  abbrev After : KeeperCall seen tells → List (KeeperCall seen tells) → Type 0
  After call older = AreSuccessive (runs_of (call ∷ older))
      × ((disk : D) (content : List ℕ) → (tells disk).content ≡ Some content → LeftBy {tells = tells} (runs_in call) (new_of call).disk content
      → ((image : List ℕ) → (tells disk).may_leave image → LeftBy {tells = tells} (runs_in call) (new_of call).disk image) → Begins (runs_of (call ∷ older)) disk)

  made : (call : KeeperCall seen tells) → IsMade {tells = tells} (runs_in call) (old_of call).disk (new_of call).disk
  made (OfMember call) = made_member tells call.turns call.old call.new (seen call.old) (seen call.new) call.result call.promise.runs call.touches
  made (OfService call) = made_service tells call.sessions call.old call.new (seen call.old) (seen call.new) call.result call.promise.runs call.touches

  spelled : (call : KeeperCall seen tells) (old own : List ℕ) → result_of call ≡ Done → (seen (old_of call)).capture ≡ Some old → (seen (new_of call)).capture ≡ Some (old ++ own)
      → IsSpelled {tells = tells} (runs_in call) own
  spelled (OfMember call) old own done told grew = spelled_member tells call.turns call.old.disk call.new.disk (seen call.old) (seen call.new) call.result call.promise.runs old own done told grew
  spelled (OfService call) old own done told grew = spelled_service tells call.sessions call.old.disk call.new.disk (seen call.old) (seen call.new) call.result call.promise.runs old own done told grew

  after_call : (call : KeeperCall seen tells) (older : List (KeeperCall seen tells)) → Begins (runs_of older) (old_of call).disk → AreSuccessive (runs_of older) → After call older
  after_call call older begins s = (
    with_runs (runs_in call) (runs_of older) (old_of call).disk (new_of call).disk (made call) begins s,
    λ disk. found_after (runs_in call) (runs_of older) (old_of call).disk (new_of call).disk disk (made call) begins,
  )

  after_all : (call : KeeperCall seen tells) (older : List (KeeperCall seen tells)) → AreOnOneDisk (call ∷ older) → After call older
  after_all call [] s = after_call call [] tt tt
  after_all call (earlier ∷ older) s =
      let rest = after_all earlier older s.1 in
      let finds = s.0 in
      after_call call (earlier ∷ older) (rest.1 (old_of call).disk finds.content finds.read finds.was_left finds.images) rest.0

  succeed : (calls : List (KeeperCall seen tells)) → AreOnOneDisk calls → AreSuccessive (runs_of calls)
  succeed [] s = tt
  succeed (call ∷ older) s = (after_all call older s).0

  pub calls_stamps : (calls : List (KeeperCall seen tells)) → AreOnOneDisk calls → SendsNoneTwice calls
  calls_stamps calls s = chain_stamps (runs_of calls) (succeed calls s)

  pub calls_counts : (calls : List (KeeperCall seen tells)) → AreOnOneDisk calls → CountsRise (all_told (runs_of calls))
  calls_counts calls s = chain_counts (runs_of calls) (succeed calls s)

  pub calls_moves : (calls : List (KeeperCall seen tells)) → AreOnOneDisk calls → MovesOnceInAll calls
  calls_moves calls s = chain_moves (runs_of calls) (succeed calls s)

  pub calls_earlier : (calls : List (KeeperCall seen tells)) → AreOnOneDisk calls → RefusesEarlier calls
  calls_earlier calls s newer earlier run place later before is some now from bytes r sent answers =
      let all = later_dropped newer (run ∷ earlier) (subst (λ (l : List (Run tells)). AreSuccessive l) place (succeed calls s)) in
      chain_earlier run earlier all later before is some now from bytes r sent answers

  pub calls_joined : (conf : Conf) (calls : List (KeeperCall seen tells)) → AreOnOneDisk calls → HaveConf conf (runs_of calls) → Joins conf (runs_of calls)
  calls_joined conf calls s same = chain_joins conf (runs_of calls) (succeed calls s) same

  -- ---- Captures

  records_spell : (calls : List (KeeperCall seen tells)) (capture : List ℕ) → AreRecords calls capture → SpellsEvents (events_of (runs_of calls)) capture
  records_spell [] capture is = subst (λ (l : List ℕ). SpellsEvents [] l) (sym is) none_spelled
  records_spell (call ∷ older) capture (own, before, is, recorded, rest) =
      subst (λ (l : List ℕ). SpellsEvents (events_of (runs_of (call ∷ older))) l) (sym is)
      (call_spells (runs_in call) (runs_of older) before own (spelled call recorded.old own recorded.done recorded.told recorded.grew) (records_spell older before rest))

  pub calls_replayed : (conf : Conf) (calls : List (KeeperCall seen tells)) → AreOnOneDisk calls → HaveConf conf (runs_of calls) → ReplaysJoined conf calls
  calls_replayed conf calls s same =
      let runs = runs_of calls in
      let joins = calls_joined conf calls s same in
      let history = events_joined runs in
      record {
        lines = λ capture before now records again.
            let whole = again.promise.whole again.bytes capture again.settings conf (events_of runs) again.told again.says again.is_conf again.given (records_spell calls capture records) refl in
            let end = whole.0 in
            let report : report_of conf (reverse (events_of runs)) ≡ gather (λ run. report_of conf (history_of run)) runs = ap (report_of conf) history ∙ joins.report in
            record {
              end = end;
              written = subst (λ (l : List ℕ). Added before.written now.written (l ++ total_line end.sent end.moved end.refused)) report whole.1.written;
            };
        done = λ capture before now result records again few faultless.
            again.promise.done_of again.bytes capture again.settings conf (events_of runs) again.told again.says again.is_conf again.given (records_spell calls capture records) few
            (subst (Grows conf) (sym history) joins.grows) faultless;
      }
