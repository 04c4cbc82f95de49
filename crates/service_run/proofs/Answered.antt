-- The calls of a session that were answered so far.
use Rattle.std.proofs.Common.{◌≡◌, ℕ, List, [], ◌∷◌, ◌++◌, Ok, Err, ◌⊎◌, refl, sym, ◌∙◌, ap, subst}
use Rattle.std.proofs.lemmas.List.{append-nil}
use Rattle.edge_traits.specs.Clock.{ClockCall}
use Rattle.edge_traits.specs.Link.{LinkCall}
use Rattle.edge_seen.specs.Seen.{Seen}
use Rattle.capture_fmt.specs.declared.event.Event.{Event}
use Rattle.time_machine.specs.declared.conf.Conf.{Conf}
use Rattle.time_machine.specs.Events.{History}
use Rattle.sntp_core.specs.declared.member.Member.{Member}
use Rattle.sntp_core.specs.Standing.{StandsForHistory, conf_of}
use Rattle.run_deeds.specs.declared.life_end.LifeEnd.{LifeEnd}
use Rattle.run_deeds.specs.declared.life_end.Why.{Why}
use Rattle.run_deeds.specs.declared.life_end.Why.TheVariants.{Done, DiskFault, StampsSpent}
use Rattle.run_deeds.specs.Deeds.{all_done, events_given, history_after}
use Rattle.run_deeds.specs.Devices.{IsBeforeRequest, LifeEndsBy, faults_of}
use Rattle.run_deeds.specs.Parts.{Part}
use Rattle.run_deeds.specs.Rounds.{result_of}
use Rattle.run_deeds.specs.Weaving.{Calls, Need, SyncCall, Weaves, followed_by, none}
use Rattle.run_deeds.proofs.Composing.{runs_then}
use Rattle.member_run.proofs.Rounding.{followed-append, same_taken}
use Rattle.member_run.proofs.Turning.{runs_none, taken_history, whole_given}
use Rattle.w32t_calls.specs.declared.call.Call.{Call}
use Rattle.w32t_calls.specs.declared.call.Call.TheVariants as call
use Rattle.w32t_calls.specs.declared.call.Given.{Given}
use Rattle.w32t_calls.specs.declared.call.Given.TheVariants as given
use Rattle.service_run.specs.Answering.{AnswersOne, ArePartsOf, IsPartOf, answers_to, outcomes_of, part_of, sync_calls}
use Rattle.service_run.specs.Profile.{Profile, source_name}
use Rattle.service_run.specs.Sessions.{joined_parts}
use Rattle.service_run.proofs.Asked.{before_request, not_begun, not_counted}
use Rattle.service_run.proofs.More.{part_more, runs_more}

-- ---- Lists of calls, of parts and of answers

pub sync_append : (xs ys : List Call) → sync_calls (xs ++ ys) ≡ sync_calls xs ++ sync_calls ys
sync_append [] ys = refl
sync_append (call.Sync wait flags ∷ xs) ys = ap (λ (cs : List SyncCall). record { wait = wait; flags = flags } ∷ cs) (sync_append xs ys)
sync_append (call.Bits ∷ xs) ys = sync_append xs ys
sync_append (call.Source ∷ xs) ys = sync_append xs ys

pub parts_append : (xs ys : List SyncCall) (ps qs : List (List Event)) → ArePartsOf xs ps → ArePartsOf ys qs → ArePartsOf (xs ++ ys) (ps ++ qs)
parts_append [] ys [] qs are more = more
parts_append [] ys (p ∷ ps) qs are more = absurd are
parts_append (x ∷ xs) ys [] qs are more = absurd are
parts_append (x ∷ xs) ys (p ∷ ps) qs are more = (are.0, parts_append xs ys ps qs are.1 more)

append_four : (xs ys zs : List Event) → (xs ++ ys) ++ zs ≡ xs ++ (ys ++ zs)
append_four [] ys zs = refl
append_four (x ∷ xs) ys zs = ap (λ (l : List Event). x ∷ l) (append_four xs ys zs)

pub joined_append : (ps qs : List (List Event)) → joined_parts (ps ++ qs) ≡ joined_parts ps ++ joined_parts qs
joined_append [] qs = refl
joined_append (p ∷ ps) qs = ap (λ (l : List Event). p ++ l) (joined_append ps qs) ∙ sym (append_four p (joined_parts ps) (joined_parts qs))

pub answers_append : (conf : Conf) (profile : Profile) (history : History) (xs ys : List Call) (ps qs : List (List Event)) → ArePartsOf (sync_calls xs) ps
    → answers_to conf profile history (xs ++ ys) (ps ++ qs) ≡ answers_to conf profile history xs ps ++ answers_to conf profile (followed_by history (joined_parts ps)) ys qs
answers_append conf profile history [] ys [] qs are = refl
answers_append conf profile history [] ys (p ∷ ps) qs are = absurd are
answers_append conf profile history (call.Bits ∷ xs) ys ps qs are = ap (λ (l : List Given). given.Bits profile.bits ∷ l) (answers_append conf profile history xs ys ps qs are)
answers_append conf profile history (call.Source ∷ xs) ys ps qs are = ap (λ (l : List Given). given.Source (source_name conf profile history) ∷ l) (answers_append conf profile history xs ys ps qs are)
answers_append conf profile history (call.Sync wait flags ∷ xs) ys [] qs are = absurd are
answers_append conf profile history (call.Sync wait flags ∷ xs) ys (p ∷ ps) qs are =
    ap (λ (l : List Given). given.Synced (result_of wait flags (outcomes_of conf history p)) ∷ l)
    (answers_append conf profile (followed_by history p) xs ys ps qs are.1
    ∙ ap (λ (h : History). answers_to conf profile (followed_by history p) xs ps ++ answers_to conf profile h ys qs) (sym (followed-append history p (joined_parts ps))))

-- the part of one call, if it has one, is its events
one_part : (c : Call) (events : List Event) (profile : Profile) (conf : Conf) (history : History) (given : Given)
    → given ∷ [] ≡ answers_to conf profile history (c ∷ []) (part_of c events) → (sync_calls (c ∷ []) ≡ [] → events ≡ []) → joined_parts (part_of c events) ≡ events
one_part (call.Sync wait flags) events profile conf history given is idle = append-nil events
one_part call.Bits events profile conf history given is idle = sym (idle refl)
one_part call.Source events profile conf history given is idle = sym (idle refl)

-- ---- The calls so far

-- After a history these calls were made and answered so, each call for a request with its part.
pub record AnsweredSo (conf : Conf) (profile : Profile) (history : History) (before now : Seen) (member : Member) (kept kept' : ℕ) (old new : LifeEnd) (calls : List Call) (answers : List Given) (parts : List (List Event)) : Type 0 where
  pub asked : List SyncCall
  pub is_asked : asked ≡ sync_calls calls
  pub part : Part conf (Calls asked) (Calls []) history before now member kept kept' old new Done
  pub are : ArePartsOf asked parts
  pub given : answers ≡ answers_to conf profile history calls parts
  pub taken : part.runs.taken ≡ joined_parts parts

unfoldable pub answered_none : (profile : Profile) (history : History) (now : Seen) (member : Member) (kept : ℕ) (end : LifeEnd) → StandsForHistory member history
    → AnsweredSo (conf_of member) profile history now now member kept kept end end [] [] []
unfolding runs_none
answered_none profile history now member kept end stands = record {
  asked = [];
  is_asked = refl;
  part = record {
    runs = runs_none (conf_of member) (Calls []) history now kept end stands.grows;
    is_set = refl;
    stands = stands;
  };
  are = tt;
  given = refl;
  taken = refl;
}

-- where no call is left nothing is woven
nothing_asked : {conf : Conf} {history : History} {cs : List ClockCall} {ws : List ℕ} {ls : List LinkCall} {es : List Event} {need : Need}
    → Weaves conf (Calls []) history cs ws ls es need → es ≡ []
nothing_asked none = refl

idle_part : (conf : Conf) (asked : List SyncCall) (history : History) (a b : Seen) (member : Member) (kept kept' : ℕ) (old new : LifeEnd)
    → (part : Part conf (Calls asked) (Calls []) history a b member kept kept' old new Done) → asked ≡ [] → part.runs.taken ≡ []
idle_part conf asked history a b member kept kept' old new part is =
    let r = part.runs in
    let weaves = subst (λ (cs : List SyncCall). Weaves conf (Calls cs) history r.given.clock r.given.words r.given.link (events_given r.deeds r.ending) r.need) is r.weaves in
    sym (whole_given r.deeds r.ending r.taken r.ends.0 r.takes) ∙ nothing_asked weaves

-- One call more was answered, with these events behind the history so far.
pub record AnsweredMore (conf : Conf) (profile : Profile) (history later : History) (before now : Seen) (member : Member) (kept kept' : ℕ) (old new : LifeEnd) (calls : List Call) (answers : List Given) (parts : List (List Event)) (one_call : Call) : Type 0 where
  pub events : List Event
  pub so : AnsweredSo conf profile history before now member kept kept' old new calls answers (parts ++ part_of one_call events)
  pub ends : history_after history (all_done so.part.runs.deeds so.part.runs.ending) ≡ followed_by later events
  pub own : ArePartsOf (sync_calls (one_call ∷ [])) (part_of one_call events)
  pub idle : sync_calls (one_call ∷ []) ≡ [] → events ≡ []

pub answered_more : (conf : Conf) (profile : Profile) (history : History) (a b c : Seen) (m m' : Member) (k0 k1 k2 : ℕ) (old between new : LifeEnd)
    (calls : List Call) (answers : List Given) (parts : List (List Event)) (one_call : Call) (given : Given)
    → (one : AnsweredSo conf profile history a b m k0 k1 old between calls answers parts)
    → ((later : History) → StandsForHistory m later → AnswersOne (conf_of m) profile one_call later b c m' k1 k2 between new (Ok given))
    → AnsweredMore conf profile history (history_after history (all_done one.part.runs.deeds one.part.runs.ending)) a c m' k0 k2 old new (calls ++ one_call ∷ []) (answers ++ given ∷ []) parts one_call
unfolding part_more runs_more
answered_more conf profile history a b c m m' k0 k1 k2 old between new calls answers parts one_call given one next =
    let first = one.part.runs in
    let later = history_after history (all_done first.deeds first.ending) in
    let two = subst (λ (set : Conf). AnswersOne set profile one_call later b c m' k1 k2 between new (Ok given)) one.part.is_set (next later one.part.stands) in
    let more = sync_calls (one_call ∷ []) in
    let lifted = part_more conf more (Calls one.asked) (Calls []) history a b m k0 k1 old between one.part in
    let all = runs_then conf (Calls (one.asked ++ more)) (Calls more) (Calls []) history a b c k0 k1 k2 old between new Done lifted.runs two.part.runs in
    let events = two.part.runs.taken in
    let before : later ≡ followed_by history first.taken = taken_history history first.deeds first.ending first.taken first.takes in
    let whole : all.0.taken ≡ first.taken ++ events = same_taken history all.0.taken (first.taken ++ events)
    (sym (taken_history history all.0.deeds all.0.ending all.0.taken all.0.takes) ∙ all.1
    ∙ taken_history later two.part.runs.deeds two.part.runs.ending events two.part.runs.takes
    ∙ ap (λ (h : History). followed_by h events) before ∙ sym (followed-append history first.taken events)) in
    let idle = idle_part conf more later b c m' k1 k2 between new two.part in
    let own : joined_parts (part_of one_call events) ≡ events = one_part one_call events profile conf later given two.came.1 idle in
    let now : later ≡ followed_by history (joined_parts parts) = before ∙ ap (followed_by history) one.taken in
    let are = subst (λ (cs : List SyncCall). ArePartsOf cs parts) one.is_asked one.are in
    record {
      events = events;
      so = record {
        asked = one.asked ++ more;
        is_asked = ap (λ (cs : List SyncCall). cs ++ more) one.is_asked ∙ sym (sync_append calls (one_call ∷ []));
        part = record {
          runs = all.0;
          is_set = two.part.is_set;
          stands = subst (λ (h : History). StandsForHistory m' h) (sym all.1) two.part.stands;
        };
        are = parts_append one.asked more parts (part_of one_call events) one.are two.came.0;
        given =
            ap (λ (l : List Given). l ++ given ∷ []) one.given
            ∙ ap (λ (l : List Given). answers_to conf profile history calls parts ++ l)
            (two.came.1 ∙ ap (λ (h : History). answers_to conf profile h (one_call ∷ []) (part_of one_call events)) now)
            ∙ sym (answers_append conf profile history calls (one_call ∷ []) parts (part_of one_call events) are);
        taken = whole ∙ ap (λ (l : List Event). l ++ events) one.taken ∙ ap (λ (l : List Event). joined_parts parts ++ l) (sym own)
            ∙ sym (joined_append parts (part_of one_call events));
      };
      ends = all.1 ∙ taken_history later two.part.runs.deeds two.part.runs.ending events two.part.runs.takes;
      own = two.came.0;
      idle = idle;
    }

-- A call that a fault of the run stopped, behind those that were answered.
pub record StoppedSo (conf : Conf) (profile : Profile) (history : History) (before now : Seen) (member : Member) (kept kept' : ℕ) (old new : LifeEnd) (calls : List Call) (answers : List Given) (parts : List (List Event)) (at : SyncCall) (why : Why) (later : History) : Type 0 where
  pub asked : List SyncCall
  pub is_asked : asked ≡ sync_calls (calls ++ call.Sync at.wait at.flags ∷ [])
  pub part : Part conf (Calls asked) (Calls []) history before now member kept kept' old new why
  pub are : ArePartsOf (sync_calls calls) parts
  pub given : answers ≡ answers_to conf profile history calls parts
  pub events : List Event
  pub begins : (events ≡ []) ⊎ IsPartOf at events
  pub taken : part.runs.taken ≡ joined_parts parts ++ events
  pub ends : history_after history (all_done part.runs.deeds part.runs.ending) ≡ followed_by later events
  -- nothing was taken where the disk failed or no mark is left
  pub disk : why ≡ DiskFault → events ≡ []
  pub spent : why ≡ StampsSpent → events ≡ []
  pub first : events ≡ [] → IsBeforeRequest part.runs.ending part.runs.need

pub answered_stopped : (conf : Conf) (profile : Profile) (history : History) (a b c : Seen) (m m' : Member) (k0 k1 k2 : ℕ) (old between new : LifeEnd)
    (calls : List Call) (answers : List Given) (parts : List (List Event)) (at : SyncCall) (why : Why)
    → (one : AnsweredSo conf profile history a b m k0 k1 old between calls answers parts)
    → ((later : History) → StandsForHistory m later → AnswersOne (conf_of m) profile (call.Sync at.wait at.flags) later b c m' k1 k2 between new (Err why))
    → StoppedSo conf profile history a c m' k0 k2 old new calls answers parts at why (history_after history (all_done one.part.runs.deeds one.part.runs.ending))
unfolding part_more runs_more
answered_stopped conf profile history a b c m m' k0 k1 k2 old between new calls answers parts at why one next =
    let first = one.part.runs in
    let later = history_after history (all_done first.deeds first.ending) in
    let two = subst (λ (set : Conf). AnswersOne set profile (call.Sync at.wait at.flags) later b c m' k1 k2 between new (Err why)) one.part.is_set (next later one.part.stands) in
    let more = at ∷ [] in
    let lifted = part_more conf more (Calls one.asked) (Calls []) history a b m k0 k1 old between one.part in
    let all = runs_then conf (Calls (one.asked ++ more)) (Calls more) (Calls []) history a b c k0 k1 k2 old between new why lifted.runs two.part.runs in
    let events = two.part.runs.taken in
    let before : later ≡ followed_by history first.taken = taken_history history first.deeds first.ending first.taken first.takes in
    let whole : all.0.taken ≡ first.taken ++ events = same_taken history all.0.taken (first.taken ++ events)
    (sym (taken_history history all.0.deeds all.0.ending all.0.taken all.0.takes) ∙ all.1
    ∙ taken_history later two.part.runs.deeds two.part.runs.ending events two.part.runs.takes
    ∙ ap (λ (h : History). followed_by h events) before ∙ sym (followed-append history first.taken events)) in
    record {
      asked = one.asked ++ more;
      is_asked = ap (λ (cs : List SyncCall). cs ++ more) one.is_asked ∙ sym (sync_append calls (call.Sync at.wait at.flags ∷ []));
      part = record {
        runs = all.0;
        is_set = two.part.is_set;
        stands = subst (λ (h : History). StandsForHistory m' h) (sym all.1) two.part.stands;
      };
      are = subst (λ (cs : List SyncCall). ArePartsOf cs parts) one.is_asked one.are;
      given = one.given;
      events = events;
      begins = two.came;
      taken = whole ∙ ap (λ (l : List Event). l ++ events) one.taken;
      ends = all.1 ∙ taken_history later two.part.runs.deeds two.part.runs.ending events two.part.runs.takes;
      disk = λ is.
          let ends = subst (λ (w : Why). LifeEndsBy w two.part.runs.ending two.part.runs.need (faults_of b) (faults_of c)) is two.part.runs.ends in
          sym (whole_given two.part.runs.deeds two.part.runs.ending events ends.0 two.part.runs.takes) ∙ not_begun two.part.runs.weaves ends.1;
      spent = λ is.
          let ends = subst (λ (w : Why). LifeEndsBy w two.part.runs.ending two.part.runs.need (faults_of b) (faults_of c)) is two.part.runs.ends in
          sym (whole_given two.part.runs.deeds two.part.runs.ending events ends.0 two.part.runs.takes) ∙ not_counted two.part.runs.weaves ends.1;
      first = λ nothing. rw (all.2, all.3) (before_request two.part.runs.deeds two.part.runs.ending events two.part.runs.takes two.part.runs.weaves nothing);
    }
