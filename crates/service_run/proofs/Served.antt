-- Sessions that were served, one after the other.
use Rattle.std.proofs.Common.{◌≡◌, inl, inr, ◌<◌, ◌≤◌, ◌+◌, ◌*◌, ◌^◌, ℕ, cond, List, [], ◌∷◌, ◌++◌, length, map, take, Option, Some, None, IfSome, unwrap_or, Result, Ok, Err, refl, sym, ◌∙◌, ap, subst, append_assoc, arith}
use Rattle.std.specs.List.{count_by}
use Rattle.std.specs.Prelude.{⊤}
use Rattle.std.proofs.lemmas.List.{append-nil}
use Rattle.base_specs.specs.Counts.{Fails, FailsTimes}
use Rattle.base_specs.specs.Told.{Added, Grew, LastChanged, LastTold}
use Rattle.base_specs.proofs.Counting.{fails_more, fails_none, fails_once, fails_still}
use Rattle.base_specs.proofs.Telling.{grew_more, grew_none, last_changed_behind}
use Rattle.edge_seen.specs.Seen.{Seen}
use Rattle.edge_traits.specs.Clock.{ClockCall}
use Rattle.edge_traits.specs.Link.{LinkCall}
use Rattle.edge_traits.specs.Wire.{Entry, Session, NoMore, Failed, SessionChanged, SessionTold, fresh}
use Rattle.capture_fmt.specs.declared.event.Event.{Event}
use Rattle.slot_disk.specs.Calls.{LeavesOnly}
use Rattle.slot_disk.specs.Told.{DiskTold, IsDisk}
use Rattle.stamp_keep.specs.Image.{mark_of_image}
use Rattle.stamp_keep.specs.Keep.{KeepsMarks, KeepsUnused}
use Rattle.stamp_keep.proofs.Moments.{and_then, started, weaker}
use Rattle.time_machine.specs.declared.conf.Conf.{Conf}
use Rattle.time_machine.specs.Events.{History}
use Rattle.time_machine.specs.Machine.{told}
use Rattle.time_machine.specs.Words.{life_at}
use Rattle.time_machine.specs.Told.{Told}
use Rattle.sntp_core.specs.declared.member.Member.{Member}
use Rattle.sntp_core.specs.Standing.{StandsForHistory, conf_of}
use Rattle.run_deeds.specs.declared.life_end.LifeEnd.{LifeEnd}
use Rattle.run_deeds.specs.declared.life_end.Why.{Why}
use Rattle.run_deeds.specs.declared.life_end.Why.TheVariants.{Done, SinkFault}
use Rattle.run_deeds.specs.Deeds.{Deed, Take, Print, Ending, Whole, NoRecord, NoLine, IsWhole, all_done, history_after, missing_in}
use Rattle.run_deeds.specs.Devices.{IsBeforeRequest, faults, living, nothing}
use Rattle.run_deeds.specs.Lives.{CallsForBlocks, StandsForBlocks}
use Rattle.run_deeds.specs.Marks.{KeepsLoadable, Reserved, blocks_of}
use Rattle.run_deeds.specs.Parts.{Part}
use Rattle.run_deeds.specs.Weaving.{Calls, Need, SyncCall, followed_by}
use Rattle.run_deeds.proofs.Doing.{given_then}
use Rattle.run_deeds.proofs.Deeding.{all_done-append, history_after-append}
use Rattle.member_run.specs.declared.running.Running.{Running}
use Rattle.member_run.specs.Running.{IsGoing, kept_of, member_of, totals_of}
use Rattle.member_run.specs.Turning.{DueBy}
use Rattle.member_run.proofs.Blocks.{NoLife, blocks_in, blocks_low, blocks_stay, mark_in, mark_stays}
use Rattle.member_run.proofs.Leaving.{unused_same}
use Rattle.member_run.proofs.Ordered.{events_of, given_are, history_of}
use Rattle.member_run.proofs.Parting.{no_print}
use Rattle.member_run.proofs.Turning.{block_end, loads_stay, marks_stay, taken_history}
use Rattle.time_machine.proofs.Lists.{all_split}
use Rattle.w32t_calls.specs.declared.end.SessionEnd.{SessionEnd}
use Rattle.w32t_calls.specs.declared.end.SessionEnd.TheVariants as end
use Rattle.service_run.specs.Profile.{Profile}
use Rattle.service_run.specs.Answering.{sync_calls}
use Rattle.service_run.specs.One.{EndCounts, KeepsOne, ServesOne}
use Rattle.service_run.specs.Sessions.{AreServed, AreToldAs, IsLast, IsLastToldAs, IsServed, IsStopped, IsStoppedAs, IsToldAs, Last, Nothing, Over, SessionRun, Stopped, Unopened, calls_in, deeds_of, entries_in, events_of_last, is_read_fault, is_write_fault, joined_parts, session_calls, session_entries, session_events, session_line, unopened_in}
use Rattle.service_run.specs.Serving.{FailsIn, IsAtPrint, KeepsAll, Ran, ServesAll, StopsSo, why_of_stop}
use Rattle.service_run.specs.declared.serving.Stop.{Stop}
use Rattle.service_run.specs.declared.serving.Stop.TheVariants as stop
use Rattle.service_run.proofs.Works.{Works, ran_line, ran_of, ran_then, ran_works, works_line, works_more, works_none, works_of, works_then}
use Rattle.service_run.proofs.Clocked.{later_from}
use Rattle.service_run.proofs.Listed.{calls_push, count_push, deeds_push, entries_push, history_served, served_push, size_push, told_push}

-- ---- The disk

-- between two histories, the first of which reserved its counts as they were due, the disk was called for the blocks that
-- were begun between them, and no image stands for more than these
pub record Held (conf : Conf) (history later : History) (kept : ℕ) (entry exit : DiskTold) : Type 0 where
  pub calls : Reserved kept (told conf history) → exit.time + 5 * blocks_in conf history ≤ entry.time + 5 * blocks_in conf later
  pub most : Reserved kept (told conf history) → LeavesOnly entry exit (λ image. mark_of_image image ≤ block_end conf later)

held_none : (conf : Conf) (history : History) (running : Running) (disk : DiskTold) → IsDisk disk → IsGoing disk running → Held conf history history (kept_of running) disk disk
held_none conf history running disk is going = record {
  calls = λ was. omega arith;
  most = λ was. started disk (λ image. mark_of_image image ≤ block_end conf history) is
      (λ image left. let blocks = was.blocks in omega (arith, going.fits.stands image left, blocks));
}

few_whole : (why : Why) (ending : Ending) (need : Need) (life : List Told) (start end : ℕ) → IsWhole ending → need ≡ Calls [] → CallsForBlocks why ending need life start end → end ≤ start + 5 * blocks_of life
few_whole why Whole need life start end whole over (inl few) = few
few_whole why Whole need life start end whole over (inr (another, few)) = absurd (let no : IsBeforeRequest Whole (Calls []) = rw over at another.1 in no)
few_whole why (NoRecord event front) need life start end whole over few = absurd whole
few_whole why (NoLine deed front) need life start end whole over few = absurd whole

low_whole : (why : Why) (ending : Ending) (need : Need) (life : List Told) (mark : ℕ) (image : List ℕ) → IsWhole ending → need ≡ Calls [] → StandsForBlocks why ending need life mark image
    → mark_of_image image ≤ mark + 64 * blocks_of life
low_whole why Whole need life mark image whole over (inl low) = low
low_whole why Whole need life mark image whole over (inr (another, low)) = absurd (let no : IsBeforeRequest Whole (Calls []) = rw over at another.1 in no)
low_whole why (NoRecord event front) need life mark image whole over low = absurd whole
low_whole why (NoLine deed front) need life mark image whole over low = absurd whole

-- what was done whole held it so
pub held_of : (conf : Conf) (history later : History) (kept : ℕ) (why : Why) (ending : Ending) (need : Need) (entry exit : DiskTold) → IsWhole ending → need ≡ Calls []
    → KeepsAll conf history later kept why ending need entry exit → Held conf history later kept entry exit
held_of conf history later kept why ending need entry exit whole over keeps = record {
  calls = λ was. few_whole why ending need (life_at (told conf later)) entry.time (exit.time + 5 * blocks_in conf history) whole over (keeps.blocks was);
  most = λ was. weaker (keeps.most was) (λ image stands. low_whole why ending need (life_at (told conf later)) (unwrap_or (mark_in conf later) 0) image whole over stands);
}

-- and says so whatever ends the run without a call of the disk
pub keeps_held : (conf : Conf) (history later : History) (kept kept' : ℕ) (why : Why) (ending : Ending) (need : Need) (entry exit : DiskTold) → DueBy why (told conf later) → kept' < 2 ^ 32
    → (Reserved kept (told conf history) → Reserved kept' (told conf later)) → Held conf history later kept entry exit → KeepsAll conf history later kept why ending need entry exit
keeps_held conf history later kept kept' why ending need entry exit due below reserved held = record {
  disk = λ was. record {
    calls = omega (arith, held.calls was, blocks_low (life_at (told conf later)));
    within = let blocks = (reserved was).blocks in omega (arith, below, blocks);
    due = due;
  };
  blocks = λ was. inl (held.calls was);
  most = λ was. weaker (held.most was) (λ image low. inl low);
}

blocks_then : (why : Why) (ending : Ending) (need : Need) (life : List Told) (start mid end first between : ℕ) → mid + first ≤ start + between
    → CallsForBlocks why ending need life mid (end + between) → CallsForBlocks why ending need life start (end + first)
blocks_then why ending need life start mid end first between was (inl few) = inl (omega (arith, was, few))
blocks_then why ending need life start mid end first between was (inr (another, few)) = inr (another, omega (arith, was, few))

-- what was held, and then what the next part keeps
pub keeps_then : (conf : Conf) (history between later : History) (events : List Event) (kept kept' : ℕ) (why : Why) (ending : Ending) (need : Need) (e m x : DiskTold)
    → Held conf history between kept e m → (Reserved kept (told conf history) → Reserved kept' (told conf between)) → NoLife events → later ≡ followed_by between events
    → KeepsAll conf between later kept' why ending need m x → KeepsAll conf history later kept why ending need e x
keeps_then conf history between later events kept kept' why ending need e m x held reserved none is keeps = record {
  disk = λ was.
      let first = held.calls was in
      let next = keeps.disk (reserved was) in
      record { calls = omega (arith, first, next.calls); within = next.within; due = next.due };
  blocks = λ was. blocks_then why ending need (life_at (told conf later)) e.time m.time x.time (5 * blocks_in conf history) (5 * blocks_in conf between) (held.calls was) (keeps.blocks (reserved was));
  most = λ was.
      let more : blocks_in conf between ≤ blocks_in conf later = rw is (blocks_stay conf between events none) in
      let same : mark_in conf later ≡ mark_in conf between = ap (mark_in conf) is ∙ mark_stays conf between events none in
      let marks = ap (λ (o : Option ℕ). unwrap_or o 0) same in
      and_then (held.most was) (keeps.most (reserved was)) (λ image low. inl (omega (arith, low, more, marks))) (λ image stands. stands);
}

pub held_then : (conf : Conf) (history between later : History) (events : List Event) (kept kept' : ℕ) (e m x : DiskTold)
    → Held conf history between kept e m → (Reserved kept (told conf history) → Reserved kept' (told conf between)) → NoLife events → later ≡ followed_by between events
    → Held conf between later kept' m x → Held conf history later kept e x
held_then conf history between later events kept kept' e m x held reserved none is next = record {
  calls = λ was. omega (arith, held.calls was, next.calls (reserved was));
  most = λ was.
      let more : blocks_in conf between ≤ blocks_in conf later = rw is (blocks_stay conf between events none) in
      let same : mark_in conf later ≡ mark_in conf between = ap (mark_in conf) is ∙ mark_stays conf between events none in
      let marks = ap (λ (o : Option ℕ). unwrap_or o 0) same in
      and_then (held.most was) (next.most (reserved was)) (λ image low. omega (arith, low, more, marks)) (λ image low. low);
}

-- ---- The wire

-- a session that was just opened was changed so: the wire has one entry more
pub entry_more : (P : SessionTold → Type 0) (left : List ℕ) (run : SessionTold) (old mid new : Option (List Entry)) → Grew old mid (Session (fresh left) ∷ [])
    → LastTold (SessionChanged (λ opened at_last. (at_last ≡ run) × P at_last)) mid new → Grew old new (Session run ∷ []) × IfSome new (λ entries. P run)
entry_more P left run old None None grew told = (tt, tt)
entry_more P left run old None (Some new) grew told = absurd told
entry_more P left run old (Some mid) None grew told = absurd told
entry_more P left run None (Some mid) (Some new) grew told = absurd grew
entry_more P left run (Some old) (Some mid) (Some new) grew told =
    let Change : Entry → Entry → Type 0 = SessionChanged (λ (opened at_last : SessionTold). (at_last ≡ run) × P at_last) in
    let last = last_changed_behind Change old [] (Session (fresh left)) new (subst (λ (l : List Entry). LastChanged Change l new) grew told) in
    by_entry last.0 last.1 last.2
  where
    by_entry : (now : Entry) → new ≡ old ++ now ∷ [] → SessionChanged (λ opened at_last. (at_last ≡ run) × P at_last) (Session (fresh left)) now
        → (new ≡ old ++ Session run ∷ []) × P run
    by_entry (Session now) is changed = (is ∙ ap (λ (t : SessionTold). old ++ Session t ∷ []) changed.0, subst P changed.0 changed.1)
    by_entry NoMore is changed = absurd changed
    by_entry Failed is changed = absurd changed

-- what was told still holds where the wire tells on
pub tells_on : {P Q R : Type 0} (old new : Option (List Entry)) (xs : List Entry) → Grew old new xs → IfSome old (λ entries. P) → IfSome new (λ entries. Q) → (P → Q → R) → IfSome new (λ entries. R)
tells_on old None xs grew was is both = tt
tells_on None (Some new) xs grew was is both = absurd grew
tells_on (Some old) (Some new) xs grew was is both = both was is

-- ---- The counts

end_reads : (why : SessionEnd) (before now writes writes' : ℕ) → EndCounts (Ok why) before now writes writes' → FailsTimes (cond (is_read_fault why) 1 0) before now
end_reads end.ReadFault before now writes writes' counts = fails_once before now (counts.read refl)
end_reads end.WriteFault before now writes writes' counts = fails_still 0 before before now (fails_none before) (counts.no_read (λ is. let bad : ⊥ = cc is in bad))
end_reads end.Ended before now writes writes' counts = fails_still 0 before before now (fails_none before) (counts.no_read (λ is. let bad : ⊥ = cc is in bad))
end_reads end.BadPdu before now writes writes' counts = fails_still 0 before before now (fails_none before) (counts.no_read (λ is. let bad : ⊥ = cc is in bad))
end_reads end.Torn before now writes writes' counts = fails_still 0 before before now (fails_none before) (counts.no_read (λ is. let bad : ⊥ = cc is in bad))
end_reads end.Spent before now writes writes' counts = fails_still 0 before before now (fails_none before) (counts.no_read (λ is. let bad : ⊥ = cc is in bad))

end_writes : (why : SessionEnd) (reads reads' before now : ℕ) → EndCounts (Ok why) reads reads' before now → FailsTimes (cond (is_write_fault why) 1 0) before now
end_writes end.WriteFault reads reads' before now counts = fails_once before now (counts.write refl)
end_writes end.ReadFault reads reads' before now counts = fails_still 0 before before now (fails_none before) (counts.no_write (λ is. let bad : ⊥ = cc is in bad))
end_writes end.Ended reads reads' before now counts = fails_still 0 before before now (fails_none before) (counts.no_write (λ is. let bad : ⊥ = cc is in bad))
end_writes end.BadPdu reads reads' before now counts = fails_still 0 before before now (fails_none before) (counts.no_write (λ is. let bad : ⊥ = cc is in bad))
end_writes end.Torn reads reads' before now counts = fails_still 0 before before now (fails_none before) (counts.no_write (λ is. let bad : ⊥ = cc is in bad))
end_writes end.Spent reads reads' before now counts = fails_still 0 before before now (fails_none before) (counts.no_write (λ is. let bad : ⊥ = cc is in bad))

-- ---- So many sessions were served

pub record ServedSo (profile : Profile) (history : History) (old now : Running) (count : ℕ) (entry exit : DiskTold) (before after : Seen) (wire wire_now : Option (List Entry)) (reads reads_now writes writes_now : ℕ) : Type 0 where
  pub served : List (SessionRun × SessionEnd)
  pub size : length served ≡ count
  pub works : Works (conf_of (member_of old)) (Calls (session_calls served)) (Calls []) history before after (kept_of old) (kept_of now) (totals_of old) (totals_of now) (deeds_of 1 served)
  pub is_set : conf_of (member_of now) ≡ conf_of (member_of old)
  pub stands : StandsForHistory (member_of now) (history_after history (deeds_of 1 served))
  pub each : AreServed (conf_of (member_of old)) profile history served
  pub held : Held (conf_of (member_of old)) history (history_after history (deeds_of 1 served)) (kept_of old) entry exit
  pub wire_grew : Grew wire wire_now (session_entries served)
  pub told : IfSome wire_now (λ entries. AreToldAs served)
  pub read : FailsTimes (count_by (λ s. is_read_fault s.1) served) reads reads_now
  pub write : FailsTimes (count_by (λ s. is_write_fault s.1) served) writes writes_now

told_none : (wire : Option (List Entry)) → IfSome wire (λ entries. AreToldAs [])
told_none None = tt
told_none (Some entries) = tt

pub served_none : (profile : Profile) (history : History) (running : Running) (disk : DiskTold) (now : Seen) (wire : Option (List Entry)) (reads writes : ℕ)
    → IsDisk disk → IsGoing disk running → StandsForHistory (member_of running) history
    → ServedSo profile history running running 0 disk disk now now wire wire reads reads writes writes
served_none profile history running disk now wire reads writes is going stands = record {
  served = [];
  size = refl;
  works = works_none (conf_of (member_of running)) (Calls []) history now (kept_of running) (totals_of running) stands.grows;
  is_set = refl;
  stands = stands;
  each = tt;
  held = held_none (conf_of (member_of running)) history running disk is going;
  wire_grew = grew_none wire;
  told = told_none wire;
  read = fails_none reads;
  write = fails_none writes;
}

-- ---- One session

-- what the disk was called for in a part of a run
keeps_one : (conf : Conf) (history : History) (calls : List SyncCall) (a b : Seen) (member : Member) (kept kept' : ℕ) (old new : LifeEnd) (why : Why)
    (part : Part conf (Calls calls) (Calls []) history a b member kept kept' old new why) (entry exit : DiskTold) → KeepsOne conf history part entry exit
    → KeepsAll conf history (history_after history (all_done part.runs.deeds part.runs.ending)) kept why part.runs.ending part.runs.need entry exit
keeps_one conf history calls a b member kept kept' old new why part entry exit keeps = record { disk = keeps.disk; blocks = keeps.blocks; most = keeps.most }

-- it was served to its end
pub record OneServed (conf : Conf) (profile : Profile) (history : History) (a b : Seen) (member : Member) (kept kept' : ℕ) (old new : LifeEnd) (entry exit : DiskTold) (wire wire_now : Option (List Entry)) (why : SessionEnd) : Type 0 where
  pub run : SessionRun
  pub works : Works conf (Calls (sync_calls run.calls)) (Calls []) history a b kept kept' old new (map Take (joined_parts run.parts))
  pub is_set : conf_of member ≡ conf
  pub stands : StandsForHistory member (history_after history (map Take (joined_parts run.parts)))
  pub is : IsServed conf profile history run
  pub held : Held conf history (history_after history (map Take (joined_parts run.parts))) kept entry exit
  pub told : LastTold (SessionChanged (λ opened at_last. (at_last ≡ run.told) × IsToldAs run why)) wire wire_now

one_served : (conf : Conf) (profile : Profile) (history : History) (a b : Seen) (member : Member) (kept kept' : ℕ) (old new : LifeEnd) (entry exit : DiskTold) (wire wire_now : Option (List Entry)) (why : SessionEnd)
    → (one : ServesOne conf profile history a b member kept kept' old new wire wire_now (Ok why)) × KeepsOne conf history one.part entry exit
    → OneServed conf profile history a b member kept kept' old new entry exit wire wire_now why
one_served conf profile history a b member kept kept' old new entry exit wire wire_now why (one, keeps) =
    let r = one.part.runs in
    let asked = Calls (sync_calls one.run.calls) in
    let deeds : all_done r.deeds r.ending ≡ map Take (joined_parts one.run.parts) = r.takes ∙ ap (map Take) one.was.1 in
    record {
      run = one.run;
      works = subst (λ (ds : List Deed). Works conf asked (Calls []) history a b kept kept' old new ds) deeds
          (works_of conf asked history a b kept kept' old new r.given r.deeds r.ending r.need (ran_of conf asked history a b kept kept' old new Done r));
      is_set = one.part.is_set;
      stands = subst (λ (ds : List Deed). StandsForHistory member (history_after history ds)) deeds one.part.stands;
      is = one.was.0;
      held = subst (λ (ds : List Deed). Held conf history (history_after history ds) kept entry exit) deeds
          (held_of conf history (history_after history (all_done r.deeds r.ending)) kept Done r.ending r.need entry exit r.ends.0 (r.well refl)
          (keeps_one conf history (sync_calls one.run.calls) a b member kept kept' old new Done one.part entry exit keeps));
      told = one.told;
    }

-- so many sessions were served, and another one to its end, but for its line
pub record BeforeLine (profile : Profile) (history : History) (old now : Running) (entry exit : DiskTold) (before after : Seen) (wire wire_now : Option (List Entry)) (reads reads_now writes writes_now : ℕ) (number : ℕ) (why : SessionEnd) : Type 0 where
  pub served : List (SessionRun × SessionEnd)
  pub one : SessionRun
  pub size : length (served ++ (one, why) ∷ []) ≡ number
  pub works : Works (conf_of (member_of old)) (Calls (session_calls (served ++ (one, why) ∷ []))) (Calls []) history before after (kept_of old) (kept_of now) (totals_of old) (totals_of now)
      (deeds_of 1 served ++ map Take (joined_parts one.parts))
  pub deeds : deeds_of 1 (served ++ (one, why) ∷ []) ≡ (deeds_of 1 served ++ map Take (joined_parts one.parts)) ++ Print (session_line number why) ∷ []
  pub is_set : conf_of (member_of now) ≡ conf_of (member_of old)
  pub stands : StandsForHistory (member_of now) (history_after history (deeds_of 1 served ++ map Take (joined_parts one.parts)))
  pub each : AreServed (conf_of (member_of old)) profile history (served ++ (one, why) ∷ [])
  pub held : Held (conf_of (member_of old)) history (history_after history (deeds_of 1 served ++ map Take (joined_parts one.parts))) (kept_of old) entry exit
  pub wire_grew : Grew wire wire_now (session_entries (served ++ (one, why) ∷ []))
  pub told : IfSome wire_now (λ entries. AreToldAs (served ++ (one, why) ∷ []))
  pub read : FailsTimes (count_by (λ s. is_read_fault s.1) (served ++ (one, why) ∷ [])) reads reads_now
  pub write : FailsTimes (count_by (λ s. is_write_fault s.1) (served ++ (one, why) ∷ [])) writes writes_now

-- what a session that was opened comes to, under the configuration of the run
abbrev pub Sessions : (profile : Profile) (old new : Running) (entry exit : DiskTold) (before now : Seen) (wire wire_now : Option (List Entry)) → Result SessionEnd Why → Type 0
Sessions profile old new entry exit before now wire wire_now result =
    (history : History) → StandsForHistory (member_of old) history
    → (one : ServesOne (conf_of (member_of old)) profile history before now (member_of new) (kept_of old) (kept_of new) (totals_of old) (totals_of new) wire wire_now result)
    × KeepsOne (conf_of (member_of old)) history one.part entry exit

sessions_at : (conf : Conf) (profile : Profile) (old new : Running) (entry exit : DiskTold) (a b : Seen) (wire wire_now : Option (List Entry)) (result : Result SessionEnd Why) → conf_of (member_of old) ≡ conf
    → Sessions profile old new entry exit a b wire wire_now result → (history : History) → StandsForHistory (member_of old) history
    → (one : ServesOne conf profile history a b (member_of new) (kept_of old) (kept_of new) (totals_of old) (totals_of new) wire wire_now result) × KeepsOne conf history one.part entry exit
sessions_at conf profile old new entry exit a b wire wire_now result is session history stands =
    let P : Conf → Type 0 = λ (c : Conf). (one : ServesOne c profile history a b (member_of new) (kept_of old) (kept_of new) (totals_of old) (totals_of new) wire wire_now result) × KeepsOne c history one.part entry exit in
    subst P is (session history stands)

pub before_line : (profile : Profile) (history : History) (old mid new : Running) (count : ℕ) (e m x : DiskTold) (a b c : Seen) (w0 w1 w2 w3 : Option (List Entry)) (r0 r1 r2 r3 s0 s1 s2 s3 : ℕ) (why : SessionEnd)
    → ServedSo profile history old mid count e m a b w0 w1 r0 r1 s0 s1
    → (left : List ℕ) × Grew w1 w2 (Session (fresh left) ∷ []) → r2 ≡ r1 → s2 ≡ s1
    → Sessions profile mid new m x b c w2 w3 (Ok why) → EndCounts (Ok why) r2 r3 s2 s3
    → BeforeLine profile history old new e x a c w0 w3 r0 r3 s0 s3 (count + 1) why
before_line profile history old mid new count e m x a b c w0 w1 w2 w3 r0 r1 r2 r3 s0 s1 s2 s3 why was (left, opened) reads writes session counts =
    let conf = conf_of (member_of old) in
    let served = was.served in
    let later = history_after history (deeds_of 1 served) in
    let one = one_served conf profile later b c (member_of new) (kept_of mid) (kept_of new) (totals_of mid) (totals_of new) m x w2 w3 why
    (sessions_at conf profile mid new m x b c w2 w3 (Ok why) was.is_set session later was.stands) in
    let run = one.run in
    let mine = map Take (joined_parts run.parts) in
    let front = deeds_of 1 served in
    let pair : SessionRun × SessionEnd = (run, why) in
    let asked = sync_calls run.calls in
    let all = works_then conf (Calls (session_calls served ++ asked)) (Calls asked) (Calls []) history a b c (kept_of old) (kept_of mid) (kept_of new) (totals_of old) (totals_of mid) (totals_of new) front mine
    (works_more conf asked (session_calls served) history a b (kept_of old) (kept_of mid) (totals_of old) (totals_of mid) front was.works) one.works in
    let none : NoLife (joined_parts run.parts) = subst NoLife (events_of (joined_parts run.parts)) (later_from one.works.weaves tt) in
    let entry = entry_more (λ (t : SessionTold). IsToldAs run why) left run.told w1 w2 w3 opened one.told in
    let size : 1 + length served ≡ count + 1 = let same = was.size in omega (arith, same) in
    record {
      served = served;
      one = run;
      size = let same = was.size in size_push served pair ∙ ap (λ (n : ℕ). n + 1) same;
      works = subst (λ (cs : List SyncCall). Works conf (Calls cs) (Calls []) history a c (kept_of old) (kept_of new) (totals_of old) (totals_of new) (front ++ mine)) (sym (calls_push served pair)) all;
      deeds = deeds_push 1 (count + 1) served pair size ∙ sym (append_assoc front mine (Print (session_line (count + 1) why) ∷ []));
      is_set = one.is_set;
      stands = subst (λ (h : History). StandsForHistory (member_of new) h) (sym (history_after-append history front mine)) one.stands;
      each = served_push conf profile history served pair was.each (subst (λ (h : History). IsServed conf profile h run) (history_served history served) one.is);
      held = subst (λ (h : History). Held conf history h (kept_of old) e x) (sym (history_after-append history front mine))
          (held_then conf history later (history_after later mine) (joined_parts run.parts) (kept_of old) (kept_of mid) e m x was.held was.works.reserved none (history_of later (joined_parts run.parts)) one.held);
      wire_grew = subst (λ (es : List Entry). Grew w0 w3 es) (sym (entries_push served pair)) (grew_more w0 w1 w3 (session_entries served) (Session run.told ∷ []) was.wire_grew entry.0);
      told = tells_on w1 w3 (Session run.told ∷ []) entry.0 was.told entry.1 (λ are is. told_push served pair are is);
      read = subst (λ (n : ℕ). FailsTimes n r0 r3) (sym (count_push (λ s. is_read_fault s.1) served pair (is_read_fault why) refl))
          (fails_more (count_by (λ s. is_read_fault s.1) served) (cond (is_read_fault why) 1 0) r0 r2 r3 (fails_still _ r0 r1 r2 was.read reads) (end_reads why r2 r3 s2 s3 counts));
      write = subst (λ (n : ℕ). FailsTimes n s0 s3) (sym (count_push (λ s. is_write_fault s.1) served pair (is_write_fault why) refl))
          (fails_more (count_by (λ s. is_write_fault s.1) served) (cond (is_write_fault why) 1 0) s0 s2 s3 (fails_still _ s0 s1 s2 was.write writes) (end_writes why r2 r3 s2 s3 counts));
    }

-- and its line was written
pub served_more : (others : Seen) (profile : Profile) (history : History) (old now : Running) (number : ℕ) (e x : DiskTold) (a : Seen) (link : Option (List LinkCall)) (clock : Option (List ClockCall)) (words capture out out' : Option (List ℕ)) (lf cf ef df kf of of' : ℕ) (w w' : Option (List Entry)) (r r' s s' : ℕ) (why : SessionEnd)
    → BeforeLine profile history old now e x a (living others link clock words capture out lf (faults cf ef df kf of)) w w' r r' s s' number why
    → Added out out' (session_line number why) → of' ≡ of
    → ServedSo profile history old now number e x a (living others link clock words capture out' lf (faults cf ef df kf of')) w w' r r' s s'
served_more others profile history old now number e x a link clock words capture out out' lf cf ef df kf of of' w w' r r' s s' why b added same =
    let conf = conf_of (member_of old) in
    let before = living others link clock words capture out lf (faults cf ef df kf of) in
    let after = living others link clock words capture out' lf (faults cf ef df kf of') in
    let line = Print (session_line number why) in
    let front = deeds_of 1 b.served ++ map Take (joined_parts b.one.parts) in
    let all = b.served ++ (b.one, why) ∷ [] in
    let history' : history_after history (deeds_of 1 all) ≡ history_after history front = ap (history_after history) b.deeds ∙ history_after-append history front (line ∷ []) in
    let works = works_then conf (Calls (session_calls all)) (Calls []) (Calls []) history a before after (kept_of old) (kept_of now) (kept_of now) (totals_of old) (totals_of now) (totals_of now) front (line ∷ [])
    b.works (works_line others conf (Calls []) (history_after history front) link clock words capture out out' lf cf ef df kf of of' (kept_of now) (totals_of now) (session_line number why) b.works.grows added same) in
    record {
      served = all;
      size = b.size;
      works = subst (λ (ds : List Deed). Works conf (Calls (session_calls all)) (Calls []) history a after (kept_of old) (kept_of now) (totals_of old) (totals_of now) ds) (sym b.deeds) works;
      is_set = b.is_set;
      stands = subst (λ (h : History). StandsForHistory (member_of now) h) (sym history') b.stands;
      each = b.each;
      held = subst (λ (h : History). Held conf history h (kept_of old) e x) (sym history') b.held;
      wire_grew = b.wire_grew;
      told = b.told;
      read = b.read;
      write = b.write;
    }

-- ---- The line could not be written

zero_more : (n before now : ℕ) → FailsTimes n before now → FailsTimes (0 + n) before now
zero_more n before now fails = let same : n ≡ 0 + n = omega arith in subst (λ (k : ℕ). FailsTimes k before now) same fails

fails_at_line : (sessions : ℕ) (served : List (SessionRun × SessionEnd)) (one : SessionRun × SessionEnd) (line : List ℕ) (front : ℕ) (end : LifeEnd)
    → FailsIn sessions (served ++ one ∷ []) Nothing [] end (NoLine (Print line) front)
fails_at_line sessions [] one line front end = tt
fails_at_line sessions (s ∷ later) one line front end = tt

pair_told : (wire : Option (List Entry)) (P Q : Type 0) → IfSome wire (λ entries. P) → Q → IfSome wire (λ entries. P × Q)
pair_told None P Q p q = tt
pair_told (Some entries) P Q p q = (p, q)

pub all_cut : (others : Seen) (profile : Profile) (sessions : ℕ) (history : History) (old now : Running) (number : ℕ) (e x : DiskTold) (a : Seen) (link : Option (List LinkCall)) (clock : Option (List ClockCall)) (words capture out out' : Option (List ℕ)) (lf cf ef df kf of of' : ℕ) (w w' : Option (List Entry)) (r r' s s' : ℕ) (why : SessionEnd) (front : ℕ)
    → BeforeLine profile history old now e x a (living others link clock words capture out lf (faults cf ef df kf of)) w w' r r' s s' number why → number ≤ sessions → IsGoing x now
    → Added out out' (take front (session_line number why)) → Fails of of'
    → ServesAll (conf_of (member_of old)) profile sessions history a (living others link clock words capture out' lf (faults cf ef df kf of')) (member_of now) (kept_of old) (kept_of now) (totals_of old) (totals_of now) e x w w' r r' s s' (Err (stop.Fault SinkFault))
all_cut others profile sessions history old now number e x a link clock words capture out out' lf cf ef df kf of of' w w' r r' s s' why front b within going added fails =
    let conf = conf_of (member_of old) in
    let before = living others link clock words capture out lf (faults cf ef df kf of) in
    let after = living others link clock words capture out' lf (faults cf ef df kf of') in
    let line = session_line number why in
    let done = deeds_of 1 b.served ++ map Take (joined_parts b.one.parts) in
    let all = b.served ++ (b.one, why) ∷ [] in
    let ending = NoLine (Print line) front in
    let cut = ran_then conf (Calls (session_calls all)) (Calls []) history a before after (kept_of old) (kept_of now) (kept_of now) (totals_of old) (totals_of now) (totals_of now) SinkFault done nothing [] ending (Calls [])
    b.works (ran_line others conf (history_after history done) link clock words capture out out' lf cf ef df kf of of' (kept_of now) (totals_of now) line front b.works.grows added fails) in
    let deeds : (done ++ []) ++ Print line ∷ [] ≡ deeds_of 1 all = ap (λ (l : List Deed). l ++ Print line ∷ []) (append-nil done) ∙ sym b.deeds in
    let history' : history_after history ((done ++ []) ++ Print line ∷ []) ≡ history_after history done =
    ap (λ (l : List Deed). history_after history (l ++ Print line ∷ [])) (append-nil done) ∙ history_after-append history done (Print line ∷ []) in
    record {
      served = all;
      last = Nothing;
      within = let size = b.size in omega (arith, size, within);
      given = given_then b.works.given nothing;
      deeds = done ++ [];
      ending = ending;
      need = Calls [];
      ran = subst (λ (cs : List SyncCall). Ran conf (Calls cs) history a after (kept_of old) (kept_of now) (totals_of old) (totals_of now) SinkFault (given_then b.works.given nothing) (done ++ []) ending (Calls []))
          (sym (append-nil (session_calls all))) cut;
      are = deeds ∙ sym (append-nil (deeds_of 1 all));
      is_set = b.is_set;
      stands = subst (λ (h : History). StandsForHistory (member_of now) h) (sym history') b.stands;
      stops = fails_at_line sessions b.served (b.one, why) line front;
      keeps = subst (λ (h : History). KeepsAll conf history h (kept_of old) SinkFault ending (Calls []) e x) (sym history')
          (keeps_held conf history (history_after history done) (kept_of old) (kept_of now) SinkFault ending (Calls []) e x tt going.below b.works.reserved b.held);
      each = b.each;
      at_last = tt;
      wire_grew = subst (λ (es : List Entry). Grew w w' es) (sym (append-nil (session_entries all))) b.wire_grew;
      told = pair_told w' _ _ b.told tt;
      read = zero_more _ r r' b.read;
      write = b.write;
    }

-- ---- No further session is served, or one is stopped

-- no session was stopped
abbrev IsBetween : Last → Type 0
IsBetween Nothing = ⊤
IsBetween Over = ⊤
IsBetween Unopened = ⊤
IsBetween (Stopped session at events) = ⊥

calls_between : (last : Last) → IsBetween last → calls_in last ≡ []
calls_between Nothing is = refl
calls_between Over is = refl
calls_between Unopened is = refl
calls_between (Stopped session at events) is = absurd is

events_between : (last : Last) → IsBetween last → events_of_last last ≡ []
events_between Nothing is = refl
events_between Over is = refl
events_between Unopened is = refl
events_between (Stopped session at events) is = absurd is

last_between : (conf : Conf) (profile : Profile) (history : History) (last : Last) → IsBetween last → IsLast conf profile history last
last_between conf profile history Nothing is = tt
last_between conf profile history Over is = tt
last_between conf profile history Unopened is = tt
last_between conf profile history (Stopped session at events) is = absurd is

told_between : (last : Last) → IsBetween last → IsLastToldAs last
told_between Nothing is = tt
told_between Over is = tt
told_between Unopened is = tt
told_between (Stopped session at events) is = absurd is

more_told : (served : List (SessionRun × SessionEnd)) (last : Last) (mid now : Option (List Entry)) (xs : List Entry) → IsBetween last → Grew mid now xs → IfSome mid (λ entries. AreToldAs served)
    → IfSome now (λ entries. AreToldAs served × IsLastToldAs last)
more_told served last mid None xs is grew told = tt
more_told served last None (Some now) xs is grew told = absurd grew
more_told served last (Some mid) (Some now) xs is grew told = (told, told_between last is)

pub all_ended : (profile : Profile) (sessions : ℕ) (history : History) (old now : Running) (count : ℕ) (e x : DiskTold) (a b : Seen) (w0 w1 w2 : Option (List Entry)) (r0 r1 r2 s0 s1 s2 : ℕ) (last : Last) (result : Result (Unit {0}) Stop)
    → ServedSo profile history old now count e x a b w0 w1 r0 r1 s0 s1 → IsGoing x now → IsBetween last → why_of_stop result ≡ Done
    → count + length (entries_in last) ≤ sessions
    → ((served : List (SessionRun × SessionEnd)) → length served ≡ count → StopsSo sessions result served last Whole)
    → Grew w1 w2 (entries_in last) → FailsTimes (unopened_in last) r1 r2 → s2 ≡ s1
    → ServesAll (conf_of (member_of old)) profile sessions history a b (member_of now) (kept_of old) (kept_of now) (totals_of old) (totals_of now) e x w0 w2 r0 r2 s0 s2 result
all_ended profile sessions history old now count e x a b w0 w1 w2 r0 r1 r2 s0 s1 s2 last result was going is done within stops opened reads writes =
    let conf = conf_of (member_of old) in
    let deeds = deeds_of 1 was.served in
    let calls : session_calls was.served ++ calls_in last ≡ session_calls was.served = ap (λ (l : List SyncCall). session_calls was.served ++ l) (calls_between last is) ∙ append-nil (session_calls was.served) in
    let order : count_by (λ s. is_read_fault s.1) was.served + unopened_in last ≡ unopened_in last + count_by (λ s. is_read_fault s.1) was.served = omega arith in
    record {
      served = was.served;
      last = last;
      within = let size = was.size in omega (arith, size, within);
      given = was.works.given;
      deeds = deeds;
      ending = Whole;
      need = Calls [];
      ran = subst (λ (why : Why). Ran conf (Calls (session_calls was.served ++ calls_in last)) history a b (kept_of old) (kept_of now) (totals_of old) (totals_of now) why was.works.given deeds Whole (Calls [])) (sym done)
          (subst (λ (cs : List SyncCall). Ran conf (Calls cs) history a b (kept_of old) (kept_of now) (totals_of old) (totals_of now) Done was.works.given deeds Whole (Calls [])) (sym calls)
          (ran_works conf (Calls (session_calls was.served)) history a b (kept_of old) (kept_of now) (totals_of old) (totals_of now) deeds was.works));
      are = sym (ap (λ (l : List Event). deeds ++ map Take l) (events_between last is) ∙ append-nil deeds);
      is_set = was.is_set;
      stands = was.stands;
      stops = stops was.served was.size;
      keeps = subst (λ (why : Why). KeepsAll conf history (history_after history deeds) (kept_of old) why Whole (Calls []) e x) (sym done)
          (keeps_held conf history (history_after history deeds) (kept_of old) (kept_of now) Done Whole (Calls []) e x tt going.below was.works.reserved was.held);
      each = was.each;
      at_last = last_between conf profile (followed_by history (session_events was.served)) last is;
      wire_grew = grew_more w0 w1 w2 (session_entries was.served) (entries_in last) was.wire_grew opened;
      told = more_told was.served last w1 w2 (entries_in last) is opened was.told;
      read = subst (λ (n : ℕ). FailsTimes n r0 r2) order (fails_more (count_by (λ s. is_read_fault s.1) was.served) (unopened_in last) r0 r1 r2 was.read reads);
      write = fails_still _ s0 s1 s2 was.write writes;
    }

-- an event's deed is no line
pub not_print : (deeds : List Deed) (ending : Ending) (taken : List Event) → all_done deeds ending ≡ map Take taken → IsAtPrint ending → ⊥
not_print deeds Whole taken takes is = is
not_print deeds (NoRecord event front) taken takes is = is
not_print deeds (NoLine (Take event) front) taken takes is = is
not_print deeds (NoLine (Print line) front) taken takes is = no_print deeds line taken takes

pub all_stopped : (profile : Profile) (sessions : ℕ) (history : History) (old mid new : Running) (count : ℕ) (e m x : DiskTold) (a b c : Seen) (w0 w1 w2 w3 : Option (List Entry)) (r0 r1 r2 r3 s0 s1 s2 s3 : ℕ) (why : Why)
    → ServedSo profile history old mid count e m a b w0 w1 r0 r1 s0 s1 → count < sessions
    → (left : List ℕ) × Grew w1 w2 (Session (fresh left) ∷ []) → r2 ≡ r1 → s2 ≡ s1
    → Sessions profile mid new m x b c w2 w3 (Err why) → EndCounts (Err why) r2 r3 s2 s3
    → ServesAll (conf_of (member_of old)) profile sessions history a c (member_of new) (kept_of old) (kept_of new) (totals_of old) (totals_of new) e x w0 w3 r0 r3 s0 s3 (Err (stop.Fault why))
all_stopped profile sessions history old mid new count e m x a b c w0 w1 w2 w3 r0 r1 r2 r3 s0 s1 s2 s3 why was below (left, opened) reads writes session counts =
    let conf = conf_of (member_of old) in
    let served = was.served in
    let front = deeds_of 1 served in
    let later = history_after history front in
    let both = sessions_at conf profile mid new m x b c w2 w3 (Err why) was.is_set session later was.stands in
    let one = both.0 in
    let run = one.run in
    let at = one.cut.at in
    let events = one.cut.events in
    let r = one.part.runs in
    let asked = sync_calls run.calls in
    let last = Stopped run at events in
    let earlier = works_more conf asked (session_calls served) history a b (kept_of old) (kept_of mid) (totals_of old) (totals_of mid) front was.works in
    let all = ran_then conf (Calls (session_calls served ++ asked)) (Calls asked) history a b c (kept_of old) (kept_of mid) (kept_of new) (totals_of old) (totals_of mid) (totals_of new) why front r.given r.deeds r.ending r.need
    earlier (ran_of conf (Calls asked) later b c (kept_of mid) (kept_of new) (totals_of mid) (totals_of new) why r) in
    let done = all_done-append front r.deeds r.ending in
    let after : history_after history (all_done (front ++ r.deeds) r.ending) ≡ history_after later (all_done r.deeds r.ending) =
    ap (history_after history) done ∙ history_after-append history front (all_done r.deeds r.ending) in
    let given : NoLife (r.taken ++ missing_in r.ending) = subst NoLife (given_are r.deeds r.ending r.taken r.takes) (later_from r.weaves tt) in
    let none : NoLife r.taken = (all_split _ r.taken (missing_in r.ending) given).0 in
    let entry = entry_more (λ (t : SessionTold). IsStoppedAs run at) left run.told w1 w2 w3 opened one.told in
    record {
      served = served;
      last = last;
      within = let size = was.size in omega (arith, size, below);
      given = given_then earlier.given r.given;
      deeds = front ++ r.deeds;
      ending = r.ending;
      need = r.need;
      ran = all;
      are = done ∙ ap (λ (l : List Deed). front ++ l) (r.takes ∙ ap (map Take) one.was.1);
      is_set = one.part.is_set;
      stands = subst (λ (h : History). StandsForHistory (member_of new) h) (sym after) one.part.stands;
      stops = λ end. (refl, not_print r.deeds r.ending r.taken r.takes);
      keeps = subst (λ (h : History). KeepsAll conf history h (kept_of old) why r.ending r.need e x) (sym after)
          (keeps_then conf history later (history_after later (all_done r.deeds r.ending)) r.taken (kept_of old) (kept_of mid) why r.ending r.need e m x was.held was.works.reserved none
          (taken_history later r.deeds r.ending r.taken r.takes)
          (keeps_one conf later asked b c (member_of new) (kept_of mid) (kept_of new) (totals_of mid) (totals_of new) why one.part m x both.1));
      each = was.each;
      at_last = subst (λ (h : History). IsStopped conf profile h run at events) (history_served history served) one.was.0;
      wire_grew = grew_more w0 w1 w3 (session_entries served) (Session run.told ∷ []) was.wire_grew entry.0;
      told = tells_on w1 w3 (Session run.told ∷ []) entry.0 was.told entry.1 (λ are is. (are, is));
      read = zero_more _ r0 r3 (fails_still _ r0 r1 r3 was.read (counts.no_read (λ is. let bad : ⊥ = cc is in bad) ∙ reads));
      write = fails_still _ s0 s1 s3 was.write (counts.no_write (λ is. let bad : ⊥ = cc is in bad) ∙ writes);
    }

-- ---- The loop

-- so many sessions were served, whatever the devices tell that are not asked
pub record GoesAll (profile : Profile) (old now : Running) (count : ℕ) (entry exit : DiskTold) (before after : Seen → Seen) (wire wire_now : Option (List Entry)) (reads reads_now writes writes_now : ℕ) : Type 0 where
  pub going : IsGoing exit now
  pub so : (others : Seen) (history : History) → StandsForHistory (member_of old) history → ServedSo profile history old now count entry exit (before others) (after others) wire wire_now reads reads_now writes writes_now
  pub least : KeepsMarks entry exit
  pub loads : KeepsLoadable entry exit
  pub unused : LeavesOnly entry exit (KeepsUnused entry)

pub all_none : (profile : Profile) (running : Running) (disk : DiskTold) (now : Seen → Seen) (wire : Option (List Entry)) (reads writes : ℕ)
    → IsDisk disk → IsGoing disk running → GoesAll profile running running 0 disk disk now now wire wire reads reads writes writes
all_none profile running disk now wire reads writes is going = record {
  going = going;
  so = λ others history stands. served_none profile history running disk (now others) wire reads writes is going stands;
  least = marks_stay disk;
  loads = loads_stay disk;
  unused = unused_same disk is;
}
