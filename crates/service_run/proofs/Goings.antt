-- A session, call by call.
use Rattle.std.proofs.Common.{◌≡◌, ◌≢◌, ◌<◌, ◌↔◌, ℕ, List, [], ◌∷◌, ◌++◌, Option, Some, None, Result, Ok, Err, refl, sym, subst}
use Rattle.edge_traits.specs.Wire.{Entry, Session, NoMore, Failed, SessionChanged, SessionTold, fresh}
use Rattle.edge_traits.proofs.Wires.{open_session_more}
use Rattle.base_specs.specs.Told.{LastTold}
use Rattle.edge_seen.specs.Seen.{Seen}
use Rattle.capture_fmt.specs.declared.event.Event.{Event}
use Rattle.slot_disk.specs.Calls.{LeavesOnly}
use Rattle.slot_disk.specs.Told.{DiskTold, IsDisk}
use Rattle.stamp_keep.specs.Keep.{KeepsMarks, KeepsUnused}
use Rattle.time_machine.specs.declared.conf.Conf.{Conf}
use Rattle.time_machine.specs.Events.{History}
use Rattle.time_machine.specs.Machine.{told}
use Rattle.sntp_core.specs.declared.member.Member.{Member}
use Rattle.sntp_core.specs.Standing.{StandsForHistory, conf_of}
use Rattle.run_deeds.specs.Deeds.{all_done, history_after}
use Rattle.run_deeds.specs.declared.life_end.LifeEnd.{LifeEnd}
use Rattle.run_deeds.specs.declared.life_end.Why.{Why}
use Rattle.run_deeds.specs.declared.life_end.Why.TheVariants.{DiskFault, BadVersion, StampsSpent}
use Rattle.run_deeds.specs.Marks.{KeepsLoadable, Reserved}
use Rattle.run_deeds.specs.Parts.{Part, why_of}
use Rattle.run_deeds.specs.Weaving.{Calls, SyncCall, followed_by}
use Rattle.member_run.specs.declared.running.Running.{Running}
use Rattle.member_run.specs.Running.{CallsWhereDue, IsGoing, IsUsedUp, RisesWhereDue, kept_of, member_of, totals_of}
use Rattle.member_run.proofs.Leaving.{unused_same, unused_then}
use Rattle.member_run.proofs.Turning.{Counted, last_is, loads_stay, loads_then, marks_stay, marks_then, runs_none}
use Rattle.w32t_calls.specs.declared.asked.Asked.{Asked}
use Rattle.w32t_calls.specs.declared.call.Call.{Call}
use Rattle.w32t_calls.specs.declared.call.Call.TheVariants as call
use Rattle.w32t_calls.specs.declared.call.Given.{Given}
use Rattle.w32t_calls.specs.declared.end.SessionEnd.{SessionEnd}
use Rattle.w32t_calls.specs.declared.end.SessionEnd.TheVariants as end
use Rattle.w32t_calls.proofs.Sessions.{last_changed_as}
use Rattle.w32t_calls.specs.declared.call.Given.TheVariants as given
use Rattle.w32t_calls.specs.Standing.{Awaits, HasServed, IsIdle, Replied, Replies, Serves, ServesOn, Server}
use Rattle.w32t_calls.specs.Stubs.{AnswersCall}
use Rattle.service_run.specs.Profile.{Profile}
use Rattle.service_run.specs.Answering.{AnswersOne, ArePartsOf, IsSync, part_of, sync_calls}
use Rattle.service_run.specs.One.{Cut, IsFresh, KeepsOne, ServesOne, WasServed, WasTold}
use Rattle.service_run.specs.Sessions.{IsStoppedAs, IsToldAs, SessionRun, joined_parts}
use Rattle.service_run.proofs.Answered.{AnsweredSo, answered_more, answered_none, answered_stopped}
use Rattle.service_run.proofs.Kept.{KeptSo, kept_more, kept_none, kept_stopped, kept_whole}
use Rattle.service_run.proofs.Wired.{IsAsked, IsWired, Wired, asked_by, served_by, told_cut, told_ended, told_stopped, wired_next, wired_none, wired_reply}

-- After a history: the calls of a session that were answered so far, what the wire tells of them, and what they did to the
-- disk.
pub record GoesSo (profile : Profile) (history : History) (old now : Running) (server : Server) (entry exit : DiskTold) (before after : Seen) (opened wire : Option (List Entry)) : Type 0 where
  pub calls : List Call
  pub answers : List Given
  pub parts : List (List Event)
  pub answered : AnsweredSo (conf_of (member_of old)) profile history before after (member_of now) (kept_of old) (kept_of now) (totals_of old) (totals_of now) calls answers parts
  pub wired : Wired server calls answers opened wire
  pub kept : KeptSo (conf_of (member_of old)) history (history_after history (all_done answered.part.runs.deeds answered.part.runs.ending)) (kept_of old) entry exit

so_none : (profile : Profile) (history : History) (running : Running) (server : Server) (disk : DiskTold) (now : Seen) (wire : Option (List Entry))
    → IsDisk disk → IsGoing disk running → IsFresh wire → HasServed [] server wire → StandsForHistory (member_of running) history
    → GoesSo profile history running running server disk disk now now wire wire
unfolding answered_none runs_none
so_none profile history running server disk now wire is going is_fresh served stands = record {
  calls = [];
  answers = [];
  parts = [];
  answered = answered_none profile history now (member_of running) (kept_of running) (totals_of running) stands;
  wired = wired_none server wire is_fresh served;
  kept = kept_none (conf_of (member_of running)) history running disk is going;
}

-- the session goes on, whatever the devices tell that are not asked
pub record Goes (profile : Profile) (old now : Running) (server : Server) (entry exit : DiskTold) (before after : Seen → Seen) (opened wire : Option (List Entry)) : Type 0 where
  pub idle : IsIdle server
  pub going : IsGoing exit now
  pub so : (others : Seen) (history : History) → StandsForHistory (member_of old) history → GoesSo profile history old now server entry exit (before others) (after others) opened wire
  pub least : KeepsMarks entry exit
  pub loads : KeepsLoadable entry exit
  pub unused : LeavesOnly entry exit (KeepsUnused entry)

-- the counts of the run between two calls, in the words of the history
pub counted_so : (profile : Profile) (history : History) (old now : Running) (server : Server) (entry exit : DiskTold) (before after : Seen) (opened wire : Option (List Entry))
    (so : GoesSo profile history old now server entry exit before after opened wire) → IsGoing exit now → Reserved (kept_of old) (told (conf_of (member_of old)) history)
    → Counted now (conf_of (member_of old)) (history_after history (all_done so.answered.part.runs.deeds so.answered.part.runs.ending))
counted_so profile history old now server entry exit before after opened wire so going reserved =
    let part = so.answered.part in
    record {
      last = last_is now (conf_of (member_of old)) (history_after history (all_done part.runs.deeds part.runs.ending)) part.is_set part.stands going.begun.last;
      reserved = part.runs.reserved refl reserved;
    }

-- ---- Nothing was asked for yet

pub goes_none : (profile : Profile) (running : Running) (server : Server) (disk : DiskTold) (now : Seen → Seen) (wire : Option (List Entry))
    → IsDisk disk → IsGoing disk running → IsIdle server → IsFresh wire → HasServed [] server wire → Goes profile running running server disk disk now now wire wire
goes_none profile running server disk now wire is going idle is_fresh served = record {
  idle = idle;
  going = going;
  so = λ others history stands. so_none profile history running server disk (now others) wire is going is_fresh served stands;
  least = marks_stay disk;
  loads = loads_stay disk;
  unused = unused_same disk is;
}

-- ---- One call more was answered

-- what it did to the disk, whether it asked for a request or not
kept_call : (conf : Conf) (history between : History) (kept : ℕ) (one_call : Call) (events : List Event) (mid : Running) (e m x : DiskTold)
    → KeptSo conf history between kept e m → (Reserved kept (told conf history) → Counted mid conf between)
    → ArePartsOf (sync_calls (one_call ∷ [])) (part_of one_call events) → (sync_calls (one_call ∷ []) ≡ [] → events ≡ [])
    → CallsWhereDue mid m x → RisesWhereDue mid m x → ((IsSync one_call → ⊥) → x ≡ m)
    → KeptSo conf history (followed_by between events) kept e x
kept_call conf history between kept (call.Sync wait flags) events mid e m x was counted own idle due rises still =
    kept_more conf history between kept (record { wait = wait; flags = flags }) events mid e m x was counted own.0 due rises
kept_call conf history between kept call.Bits events mid e m x was counted own idle due rises still = rw (idle refl, still (λ no. no)) was
kept_call conf history between kept call.Source events mid e m x was counted own idle due rises still = rw (idle refl, still (λ no. no)) was

so_more : (profile : Profile) (history : History) (old mid new : Running) (server asking now : Server) (e m x : DiskTold) (a b c : Seen) (opened w0 w1 w2 : Option (List Entry)) (one_call : Call) (given : Given) (asked : Asked)
    → GoesSo profile history old mid server e m a b opened w0 → IsGoing m mid
    → ((answers : List Given) → HasServed answers server w0 → ServesOn (Ok one_call) answers asking w0 w1) → asking.waiting ≡ Some asked
    → ((later : History) → StandsForHistory (member_of mid) later
    → AnswersOne (conf_of (member_of mid)) profile one_call later b c (member_of new) (kept_of mid) (kept_of new) (totals_of mid) (totals_of new) (Ok given))
    → CallsWhereDue mid m x → RisesWhereDue mid m x → ((IsSync one_call → ⊥) → x ≡ m)
    → ((answers : List Given) → HasServed answers asking w1 → Replied (Ok tt) (answers ++ given ∷ []) now w1 w2)
    → GoesSo profile history old new now e x a c opened w2
so_more profile history old mid new server asking now e m x a b c opened w0 w1 w2 one_call given asked was going next waits answers due rises still reply =
    let conf = conf_of (member_of old) in
    let between = history_after history (all_done was.answered.part.runs.deeds was.answered.part.runs.ending) in
    let more = answered_more conf profile history a b c (member_of mid) (member_of new) (kept_of old) (kept_of mid) (kept_of new) (totals_of old) (totals_of mid) (totals_of new)
    was.calls was.answers was.parts one_call given was.answered answers in
    let handed = wired_next server asking was.calls was.answers one_call opened w0 w1 was.wired (next was.answers (served_by server was.calls was.answers opened w0 was.wired)) in
    let behind = was.calls ++ one_call ∷ [] in
    record {
      calls = behind;
      answers = was.answers ++ given ∷ [];
      parts = was.parts ++ part_of one_call more.events;
      answered = more.so;
      wired = wired_reply asking now asked behind was.answers given one_call opened w1 w2 waits handed (reply was.answers (asked_by asking behind was.answers one_call opened w1 handed));
      kept = subst (λ (h : History). KeptSo conf history h (kept_of old) e x) (sym more.ends)
          (kept_call conf history between (kept_of old) one_call more.events mid e m x was.kept
          (λ reserved. counted_so profile history old mid server e m a b opened w0 was going reserved) more.own more.idle due rises still);
    }

pub goes_on : (profile : Profile) (old mid new : Running) (server asking now : Server) (e m x : DiskTold) (a b c : Seen → Seen) (opened w0 w1 w2 : Option (List Entry)) (one_call : Call) (given : Given) (asked : Asked)
    → Goes profile old mid server e m a b opened w0
    → ((answers : List Given) → HasServed answers server w0 → ServesOn (Ok one_call) answers asking w0 w1) → asking.waiting ≡ Some asked
    → ((others : Seen) (later : History) → StandsForHistory (member_of mid) later
    → AnswersOne (conf_of (member_of mid)) profile one_call later (b others) (c others) (member_of new) (kept_of mid) (kept_of new) (totals_of mid) (totals_of new) (Ok given))
    → IsGoing x new → CallsWhereDue mid m x → RisesWhereDue mid m x → KeepsMarks m x → KeepsLoadable m x → IsDisk m → LeavesOnly m x (KeepsUnused m)
    → ((IsSync one_call → ⊥) → x ≡ m)
    → ((answers : List Given) → HasServed answers asking w1 → Replied (Ok tt) (answers ++ given ∷ []) now w1 w2) → IsIdle now
    → Goes profile old new now e x a c opened w2
goes_on profile old mid new server asking now e m x a b c opened w0 w1 w2 one_call given asked was next waits answers going due rises least loads is unused still reply idle = record {
  idle = idle;
  going = going;
  so = λ others history stands.
      so_more profile history old mid new server asking now e m x (a others) (b others) (c others) opened w0 w1 w2 one_call given asked (was.so others history stands) was.going
      next waits (answers others) due rises still reply;
  least = marks_then was.least least;
  loads = loads_then was.loads loads;
  unused = unused_then is was.unused unused;
}

-- ---- The session comes to its end

-- what the session told at last, where the wire tells it
told_entry : (h : SessionTold → SessionTold → Type 0) (before now : Entry) → SessionChanged h before now → (t : SessionTold) × SessionChanged (λ x y. (y ≡ t) × h x y) before now
told_entry h (Session x) (Session y) changed = (y, (refl, changed))
told_entry h (Session x) NoMore changed = absurd changed
told_entry h (Session x) Failed changed = absurd changed
told_entry h NoMore now changed = absurd changed
told_entry h Failed now changed = absurd changed

told_at_last : (h : SessionTold → SessionTold → Type 0) (opened now : Option (List Entry)) → LastTold (SessionChanged h) opened now
    → (t : SessionTold) × LastTold (SessionChanged (λ x y. (y ≡ t) × h x y)) opened now
told_at_last h None None changed = (fresh [], tt)
told_at_last h None (Some now) changed = absurd changed
told_at_last h (Some opened) None changed = absurd changed
told_at_last h (Some opened) (Some now) changed =
    let one = told_entry h changed.before changed.now changed.changed in
    (one.0, record { earlier = changed.earlier; before = changed.before; now = changed.now; was = changed.was; is = changed.is; changed = one.1 })

-- the same part, by the calls of the session
part_by : (conf : Conf) (history : History) (a b : Seen) (member : Member) (kept kept' : ℕ) (old new : LifeEnd) (why : Why) (asked cs : List SyncCall) (taken : List Event) (e x : DiskTold)
    → asked ≡ cs → (part : Part conf (Calls asked) (Calls []) history a b member kept kept' old new why) → part.runs.taken ≡ taken → KeepsOne conf history part e x
    → (part : Part conf (Calls cs) (Calls []) history a b member kept kept' old new why) × (part.runs.taken ≡ taken) × KeepsOne conf history part e x
part_by conf history a b member kept kept' old new why asked cs taken e x is part same keeps =
    subst (λ (l : List SyncCall). (part : Part conf (Calls l) (Calls []) history a b member kept kept' old new why) × (part.runs.taken ≡ taken) × KeepsOne conf history part e x) is (part, same, keeps)

-- one session was served, whatever ended it
serves_by : (conf : Conf) (profile : Profile) (history : History) (a b : Seen) (member : Member) (kept kept' : ℕ) (old new : LifeEnd) (opened now : Option (List Entry)) (e x : DiskTold)
    (calls : List Call) (answers : List Given) (parts : List (List Event)) (cut : Cut) (asked : List SyncCall) (taken : List Event) (result : Result SessionEnd Why)
    → asked ≡ sync_calls calls → (part : Part conf (Calls asked) (Calls []) history a b member kept kept' old new (why_of result)) → part.runs.taken ≡ taken → KeepsOne conf history part e x
    → ((t : SessionTold) → WasServed conf profile history (record { told = t; calls = calls; answers = answers; parts = parts }) cut taken result)
    → LastTold (SessionChanged (λ first s. WasTold (record { told = s; calls = calls; answers = answers; parts = parts }) cut result)) opened now
    → (one : ServesOne conf profile history a b member kept kept' old new opened now result) × KeepsOne conf history one.part e x
serves_by conf profile history a b member kept kept' old new opened now e x calls answers parts cut asked taken result is part same keeps was tells =
    let last = told_at_last (λ first s. WasTold (record { told = s; calls = calls; answers = answers; parts = parts }) cut result) opened now tells in
    let by = part_by conf history a b member kept kept' old new (why_of result) asked (sync_calls calls) taken e x is part same keeps in
    let run : SessionRun = record { told = last.0; calls = calls; answers = answers; parts = parts } in (
      record {
        run = run;
        cut = cut;
        part = by.0;
        was = subst (λ (es : List Event). WasServed conf profile history run cut es result) (sym by.1) (was last.0);
        told = last_changed_as _ _ (λ first s holds. (holds.0, subst (λ (t : SessionTold). WasTold (record { told = t; calls = calls; answers = answers; parts = parts }) cut result) holds.0 holds.1)) opened now last.1;
      },
      by.2,
    )

no_cut : Cut
no_cut = record { at = record { wait = 0; flags = 0 }; events = [] }

-- no further call is asked for
pub ended_so : (profile : Profile) (history : History) (old mid : Running) (server now : Server) (e m : DiskTold) (a b : Seen) (opened w0 w1 : Option (List Entry)) (why : SessionEnd)
    → GoesSo profile history old mid server e m a b opened w0 → IsGoing m mid
    → ((answers : List Given) → HasServed answers server w0 → ServesOn (Err why) answers now w0 w1)
    → (one : ServesOne (conf_of (member_of old)) profile history a b (member_of mid) (kept_of old) (kept_of mid) (totals_of old) (totals_of mid) opened w1 (Ok why))
    × KeepsOne (conf_of (member_of old)) history one.part e m
ended_so profile history old mid server now e m a b opened w0 w1 why was going next =
    let conf = conf_of (member_of old) in
    let part = was.answered.part in
    let keeps = kept_whole conf history was.answered.asked a b mid (kept_of old) (totals_of old) (totals_of mid) e m part was.kept going in
    let tells = open_session_more (λ first s. IsWired server was.calls was.answers s) (Serves (Err why) was.answers now)
    (λ first s. IsToldAs (record { told = s; calls = was.calls; answers = was.answers; parts = was.parts }) why)
    (λ x y z wired serves. told_ended server now was.calls was.answers was.parts why y z wired serves) opened w0 w1 was.wired
    (next was.answers (served_by server was.calls was.answers opened w0 was.wired)) in
    serves_by conf profile history a b (member_of mid) (kept_of old) (kept_of mid) (totals_of old) (totals_of mid) opened w1 e m was.calls was.answers was.parts no_cut was.answered.asked (joined_parts was.parts) (Ok why)
    was.answered.is_asked part was.answered.taken keeps
    (λ t. (record { parts = subst (λ (cs : List SyncCall). ArePartsOf cs was.parts) was.answered.is_asked was.answered.are; answers = was.answered.given }, refl)) tells

-- the response of the last call could not be written
pub cut_so : (profile : Profile) (history : History) (old mid new : Running) (server asking now : Server) (e m x : DiskTold) (a b c : Seen) (opened w0 w1 w2 : Option (List Entry)) (one_call : Call) (given : Given) (asked : Asked)
    → GoesSo profile history old mid server e m a b opened w0 → IsGoing m mid → IsGoing x new
    → ((answers : List Given) → HasServed answers server w0 → ServesOn (Ok one_call) answers asking w0 w1) → asking.waiting ≡ Some asked
    → ((later : History) → StandsForHistory (member_of mid) later
    → AnswersOne (conf_of (member_of mid)) profile one_call later b c (member_of new) (kept_of mid) (kept_of new) (totals_of mid) (totals_of new) (Ok given))
    → CallsWhereDue mid m x → RisesWhereDue mid m x → ((IsSync one_call → ⊥) → x ≡ m)
    → ((answers : List Given) → HasServed answers asking w1 → Replied (Err end.WriteFault) (answers ++ given ∷ []) now w1 w2)
    → (one : ServesOne (conf_of (member_of old)) profile history a c (member_of new) (kept_of old) (kept_of new) (totals_of old) (totals_of new) opened w2 (Ok end.WriteFault))
    × KeepsOne (conf_of (member_of old)) history one.part e x
cut_so profile history old mid new server asking now e m x a b c opened w0 w1 w2 one_call given asked was going goes next waits answers due rises still reply =
    let conf = conf_of (member_of old) in
    let between = history_after history (all_done was.answered.part.runs.deeds was.answered.part.runs.ending) in
    let more = answered_more conf profile history a b c (member_of mid) (member_of new) (kept_of old) (kept_of mid) (kept_of new) (totals_of old) (totals_of mid) (totals_of new)
    was.calls was.answers was.parts one_call given was.answered answers in
    let behind = was.calls ++ one_call ∷ [] in
    let gave = was.answers ++ given ∷ [] in
    let parts = was.parts ++ part_of one_call more.events in
    let handed = wired_next server asking was.calls was.answers one_call opened w0 w1 was.wired (next was.answers (served_by server was.calls was.answers opened w0 was.wired)) in
    let kept = subst (λ (h : History). KeptSo conf history h (kept_of old) e x) (sym more.ends)
    (kept_call conf history between (kept_of old) one_call more.events mid e m x was.kept
    (λ reserved. counted_so profile history old mid server e m a b opened w0 was going reserved) more.own more.idle due rises still) in
    let keeps = kept_whole conf history more.so.asked a c new (kept_of old) (totals_of old) (totals_of new) e x more.so.part kept goes in
    let tells = open_session_more (λ first s. IsAsked asking behind was.answers one_call s) (Replies (Err end.WriteFault) gave now)
    (λ first s. IsToldAs (record { told = s; calls = behind; answers = gave; parts = parts }) end.WriteFault)
    (λ y z t asks replies. told_cut asking now asked behind was.answers given parts one_call z t waits asks replies) opened w1 w2 handed
    (reply was.answers (asked_by asking behind was.answers one_call opened w1 handed)) in
    serves_by conf profile history a c (member_of new) (kept_of old) (kept_of new) (totals_of old) (totals_of new) opened w2 e x behind gave parts no_cut more.so.asked (joined_parts parts) (Ok end.WriteFault)
    more.so.is_asked more.so.part more.so.taken keeps
    (λ t. (record { parts = subst (λ (cs : List SyncCall). ArePartsOf cs parts) more.so.is_asked more.so.are; answers = more.so.given }, refl)) tells

-- a fault of the run stopped the last call
pub stopped_so : (profile : Profile) (history : History) (old mid new : Running) (server asking : Server) (e m x : DiskTold) (a b c : Seen) (opened w0 w1 : Option (List Entry)) (at : SyncCall) (asked : Asked) (why : Why)
    → GoesSo profile history old mid server e m a b opened w0 → IsGoing m mid
    → ((answers : List Given) → HasServed answers server w0 → ServesOn (Ok (call.Sync at.wait at.flags)) answers asking w0 w1) → asking.waiting ≡ Some asked
    → ((later : History) → StandsForHistory (member_of mid) later
    → AnswersOne (conf_of (member_of mid)) profile (call.Sync at.wait at.flags) later b c (member_of new) (kept_of mid) (kept_of new) (totals_of mid) (totals_of new) (Err why))
    → CallsWhereDue mid m x → RisesWhereDue mid m x → why ≢ BadVersion
    → (why ≡ DiskFault → IsUsedUp mid) → why ≡ StampsSpent ↔ (IsUsedUp mid × (4294967231 < kept_of mid)) → (why ≡ StampsSpent → x ≡ m)
    → (one : ServesOne (conf_of (member_of old)) profile history a c (member_of new) (kept_of old) (kept_of new) (totals_of old) (totals_of new) opened w1 (Err why))
    × KeepsOne (conf_of (member_of old)) history one.part e x
stopped_so profile history old mid new server asking e m x a b c opened w0 w1 at asked why was going next waits answers due rises never used spent still =
    let conf = conf_of (member_of old) in
    let between = history_after history (all_done was.answered.part.runs.deeds was.answered.part.runs.ending) in
    let so = answered_stopped conf profile history a b c (member_of mid) (member_of new) (kept_of old) (kept_of mid) (kept_of new) (totals_of old) (totals_of mid) (totals_of new)
    was.calls was.answers was.parts at why was.answered answers in
    let behind = was.calls ++ call.Sync at.wait at.flags ∷ [] in
    let handed = wired_next server asking was.calls was.answers (call.Sync at.wait at.flags) opened w0 w1 was.wired (next was.answers (served_by server was.calls was.answers opened w0 was.wired)) in
    let keeps = kept_stopped conf profile history between a c (member_of new) (kept_of old) (kept_of new) (totals_of old) (totals_of new) was.calls was.answers was.parts at why so mid e m x was.kept
    (λ reserved. counted_so profile history old mid server e m a b opened w0 was going reserved) due rises never used spent going.within going.below still in
    let cut : Cut = record { at = at; events = so.events } in
    let tells = last_changed_as (λ first s. IsAsked asking behind was.answers (call.Sync at.wait at.flags) s)
    (λ first s. IsStoppedAs (record { told = s; calls = behind; answers = was.answers; parts = was.parts }) at)
    (λ first s asks. told_stopped asking asked behind was.answers was.parts at s waits asks) opened w1 handed in
    serves_by conf profile history a c (member_of new) (kept_of old) (kept_of new) (totals_of old) (totals_of new) opened w1 e x behind was.answers was.parts cut so.asked (joined_parts was.parts ++ so.events) (Err why)
    so.is_asked so.part so.taken keeps
    (λ t. (record { calls = was.calls; made = refl; parts = so.are; answers = so.given; begins = so.begins }, refl)) tells

-- whichever call it was, it asked for a request
pub stopped_call : (profile : Profile) (history : History) (old mid new : Running) (server asking : Server) (e m x : DiskTold) (a b c : Seen) (opened w0 w1 : Option (List Entry)) (one_call : Call) (why : Why)
    → GoesSo profile history old mid server e m a b opened w0 → IsGoing m mid
    → ((answers : List Given) → HasServed answers server w0 → ServesOn (Ok one_call) answers asking w0 w1) → ((given : Given) → AnswersCall given one_call → Awaits given asking)
    → ((later : History) → StandsForHistory (member_of mid) later
    → AnswersOne (conf_of (member_of mid)) profile one_call later b c (member_of new) (kept_of mid) (kept_of new) (totals_of mid) (totals_of new) (Err why))
    → CallsWhereDue mid m x → RisesWhereDue mid m x → why ≢ BadVersion
    → (why ≡ DiskFault → IsUsedUp mid) → why ≡ StampsSpent ↔ (IsSync one_call × IsUsedUp mid × (4294967231 < kept_of mid)) → (why ≡ StampsSpent → x ≡ m)
    → (one : ServesOne (conf_of (member_of old)) profile history a c (member_of new) (kept_of old) (kept_of new) (totals_of old) (totals_of new) opened w1 (Err why))
    × KeepsOne (conf_of (member_of old)) history one.part e x
stopped_call profile history old mid new server asking e m x a b c opened w0 w1 (call.Sync wait flags) why was going next waits answers due rises never used spent still =
    let awaits = waits (given.Synced 0) tt in
    stopped_so profile history old mid new server asking e m x a b c opened w0 w1 (record { wait = wait; flags = flags }) awaits.1.0 why was going next awaits.1.1 answers due rises never used
    (λ is. let s = spent.0 is in (s.1, s.2), λ full. spent.1 (tt, full.0, full.1)) still
stopped_call profile history old mid new server asking e m x a b c opened w0 w1 call.Bits why was going next waits answers due rises never used spent still =
    absurd (answers (history_after history (all_done was.answered.part.runs.deeds was.answered.part.runs.ending)) was.answered.part.stands).came
stopped_call profile history old mid new server asking e m x a b c opened w0 w1 call.Source why was going next waits answers due rises never used spent still =
    absurd (answers (history_after history (all_done was.answered.part.runs.deeds was.answered.part.runs.ending)) was.answered.part.stands).came
