-- How a service came to its end, from what its start and its sessions answered.
use Rattle.std.proofs.Common.{◌≡◌, ◌⊎◌, inl, inr, ⊎_elim, ◌<◌, ℕ, List, [], ◌∷◌, length, Option, Some, None, Result, Ok, Err, refl, ◌∙◌, ap, subst}
use Rattle.std.specs.List.{All, slice_get}
use Rattle.std.specs.Prelude.{IsSomeAnd}
use Rattle.std.proofs.lemmas.List.Elements.{All-contains_itself}
use Rattle.std.proofs.lemmas.Option.{slice_get_within}
use Rattle.edge_seen.specs.Seen.{Seen}
use Rattle.edge_traits.specs.Clock.{ClockCall}
use Rattle.edge_traits.specs.Link.{LinkCall}
use Rattle.edge_traits.specs.Wire.{Entry}
use Rattle.partner_pick.specs.declared.entry.Entry.{Entry as Computer}
use Rattle.partner_pick.specs.declared.entry.Role.{Role}
use Rattle.partner_pick.specs.Ranking.{IsRanked}
use Rattle.capture_fmt.specs.declared.event.Event.TheVariants.{Life}
use Rattle.slot_disk.specs.Told.{DiskTold}
use Rattle.time_machine.specs.declared.conf.Conf.{Conf}
use Rattle.time_machine.specs.Events.{History}
use Rattle.sntp_core.specs.Standing.{StandsForHistory, conf_of}
use Rattle.run_deeds.specs.declared.life_end.Why.{Why}
use Rattle.run_deeds.specs.declared.life_end.Why.TheVariants.{Done, DiskFault, BadVersion, StampsSpent, ClockFault, EntropyFault, SinkFault}
use Rattle.run_deeds.specs.Devices.{NoneRose, faults, faults_of, living}
use Rattle.run_deeds.specs.Marks.{Covers, StopCovers}
use Rattle.run_deeds.specs.Weaving.{Calls}
use Rattle.member_run.specs.Closing.{Closes}
use Rattle.member_run.specs.declared.running.Running.{Running}
use Rattle.member_run.specs.Running.{IsGoing, greatest_of, kept_of, member_of, totals_of}
use Rattle.member_run.specs.Starting.{HasBegun}
use Rattle.member_run.proofs.Causes.{NoneFell, none_blamed, none_fell}
use Rattle.member_run.proofs.Living.{OnDisk}
use Rattle.w32tm_text.specs.declared.status.Status.{Status}
use Rattle.w32tm_text.specs.declared.status.Status.TheVariants as answer
use Rattle.service_run.specs.Profile.{Profile}
use Rattle.service_run.specs.Serving.{Serves, ServesAll, status_of, status_of_stop, why_of_stop}
use Rattle.service_run.specs.Sessions.{Last, Nothing, Over, Stopped, Unopened}
use Rattle.service_run.specs.declared.serving.Stop.{Stop}
use Rattle.service_run.specs.declared.serving.Stop.TheVariants as stop
use Rattle.service_run.proofs.Begun.{Began, began_of}
use Rattle.service_run.proofs.Behind.{behind_closed, behind_stopped}
use Rattle.service_run.proofs.Whole.{serves_begun, with_wire}

within_list : {X : Type 0} (P : X → Type 0) (xs : List X) (place : ℕ) (found : Option X) → slice_get xs place ≡ found → IsSomeAnd found P → place < length xs
within_list P xs place None is there = absurd there
within_list P xs place (Some x) is there = slice_get_within xs place x is

-- the places of ranked partners are places of the directory
pub places_within : (role : Role) (own : List ℕ) (directory : List Computer) (ranked : List ℕ) → IsRanked role own directory ranked → All (λ place. place < length directory) ranked
places_within role own directory ranked is k d below = within_list _ directory _ _ refl ((is.candidates _).0 (All-contains_itself ranked k d below))

-- what the sessions of a run come to, under its configuration
abbrev pub AllServed : (profile : Profile) (sessions : ℕ) (old new : Running) (entry exit : DiskTold) (before now : Seen) (wire wire_now : Option (List Entry)) (reads reads_now writes writes_now : ℕ) → Result (Unit {0}) Stop → Type 0
AllServed profile sessions old new entry exit before now wire wire_now reads reads_now writes writes_now result =
    (history : History) → StandsForHistory (member_of old) history
    → ServesAll (conf_of (member_of old)) profile sessions history before now (member_of new) (kept_of old) (kept_of new) (totals_of old) (totals_of new) entry exit wire wire_now reads reads_now writes writes_now result

-- behind its Life
all_behind : (conf : Conf) (profile : Profile) (sessions : ℕ) (entry mid exit : DiskTold) (before between now : Seen) (old new : Running) (w w' : Option (List Entry)) (n n' m m' : ℕ) (result : Result (Unit {0}) Stop)
    → (began : Began conf entry before between old) → AllServed profile sessions old new mid exit between now w w' n n' m m' result
    → ServesAll conf profile sessions (Life began.life began.stood.mark ∷ []) between now (member_of new) began.stood.mark (kept_of new) (totals_of old) (totals_of new) mid exit w w' n n' m m' result
all_behind conf profile sessions entry mid exit before between now old new w w' n n' m m' result began all =
    let history = Life began.life began.stood.mark ∷ [] in
    let Set : Conf → Type 0 = λ (c : Conf). ServesAll c profile sessions history between now (member_of new) (kept_of old) (kept_of new) (totals_of old) (totals_of new) mid exit w w' n n' m m' result in
    let Kept : ℕ → Type 0 = λ (k : ℕ). ServesAll conf profile sessions history between now (member_of new) k (kept_of new) (totals_of old) (totals_of new) mid exit w w' n n' m m' result in
    subst Kept began.kept (subst Set began.is_set (all history began.stands))

disk_stop : (at : Stop) {P : Type 0} → (at ≡ stop.Fault DiskFault → P) → why_of_stop (Err at) ≡ DiskFault → P
disk_stop stop.Unopened stops is = absurd (let bad : ⊥ = cc is in bad)
disk_stop (stop.Fault why) stops is = stops (ap stop.Fault is)

-- a session, or the request for one, ended it
pub serves_stopped : (conf : Conf) (profile : Profile) (sessions : ℕ) (entry mid exit : DiskTold) (before between now : Seen) (old new : Running) (w w' : Option (List Entry)) (n n' m m' : ℕ) (at : Stop)
    → HasBegun conf (Calls []) entry before between old → IsGoing mid old → AllServed profile sessions old new mid exit between now w w' n n' m m' (Err at) → (at ≡ stop.Fault Done → ⊥)
    → OnDisk entry mid exit → Covers exit (greatest_of new) → (at ≡ stop.Fault DiskFault → StopCovers mid exit (greatest_of new)) → (why_of_stop (Err at) ≡ Done → IsGoing exit new)
    → Serves conf profile sessions entry exit (with_wire before w n m) (with_wire now w' n' m') (status_of_stop at)
serves_stopped conf profile sessions entry mid exit before between now old new w w' n n' m m' at begun going all never disk covers stops goes =
    let began = began_of conf entry before between old begun in
    let history = Life began.life began.stood.mark ∷ [] in
    serves_begun conf profile sessions entry mid exit before between now old new w w' n n' m m' (why_of_stop (Err at)) (status_of_stop at) began
    (behind_stopped conf profile sessions history between now new began.stood.mark (totals_of old) mid exit w w' n n' m m' at never
    (all_behind conf profile sessions entry mid exit before between now old new w w' n n' m m' (Err at) began all))
    going disk covers (disk_stop at stops) goes

-- the closing lines did, or none was left
pub serves_closed : (others : Seen) (conf : Conf) (profile : Profile) (sessions : ℕ) (entry mid exit : DiskTold) (before between : Seen) (link : Option (List LinkCall)) (clock : Option (List ClockCall)) (words capture out out' : Option (List ℕ)) (lf cf ef df kf of of' : ℕ)
    (old new : Running) (w w' : Option (List Entry)) (n n' m m' : ℕ) (why : Why)
    → HasBegun conf (Calls []) entry before between old → IsGoing mid old
    → AllServed profile sessions old new mid exit between (living others link clock words capture out lf (faults cf ef df kf of)) w w' n n' m m' (Ok tt)
    → OnDisk entry mid exit → Covers exit (greatest_of new) → IsGoing exit new → Closes (totals_of new) why out out' of of'
    → Serves conf profile sessions entry exit (with_wire before w n m) (with_wire (living others link clock words capture out' lf (faults cf ef df kf of')) w' n' m') (status_of why Nothing)
serves_closed others conf profile sessions entry mid exit before between link clock words capture out out' lf cf ef df kf of of' old new w w' n n' m m' why begun going all disk covers goes closes =
    let began = began_of conf entry before between old begun in
    let history = Life began.life began.stood.mark ∷ [] in
    let told = living others link clock words capture out lf (faults cf ef df kf of) in
    let now = living others link clock words capture out' lf (faults cf ef df kf of') in
    serves_begun conf profile sessions entry mid exit before between now old new w w' n n' m m' why (status_of why Nothing) began
    (behind_closed others conf profile sessions history between link clock words capture out out' lf cf ef df kf of of' new began.stood.mark (totals_of old) mid exit w w' n n' m m' why
    (all_behind conf profile sessions entry mid exit before between told old new w w' n n' m m' (Ok tt) began all) goes closes)
    going disk covers (λ is. absurd (subst (λ (y : Why). Closes (totals_of new) y out out' of of') is closes)) (λ is. goes)

-- ---- What the answers say

done_or_read : (last : Last) → (status_of Done last ≡ answer.Done) ⊎ (status_of Done last ≡ answer.ReadFault)
done_or_read Nothing = inl refl
done_or_read Over = inl refl
done_or_read Unopened = inr refl
done_or_read (Stopped session at events) = inl refl

none_failed : (status : Status) (why : Why) (last : Last) → status ≡ status_of why last → (why ≡ Done) ⊎ (why ≡ BadVersion) ⊎ (why ≡ StampsSpent)
    → (status ≡ answer.Done) ⊎ (status ≡ answer.ReadFault) ⊎ (status ≡ answer.BadKeeper) ⊎ (status ≡ answer.StampsSpent)
none_failed status why last is (inl done) =
    let same : status ≡ status_of Done last = is ∙ ap (λ (y : Why). status_of y last) done in
    ⊎_elim (λ so. inl (same ∙ so)) (λ so. inr (inl (same ∙ so))) (done_or_read last)
none_failed status why last is (inr (inl version)) = inr (inr (inl (is ∙ ap (λ (y : Why). status_of y last) version)))
none_failed status why last is (inr (inr spent)) = inr (inr (inr (is ∙ ap (λ (y : Why). status_of y last) spent)))

pub completes : (conf : Conf) (profile : Profile) (sessions : ℕ) (entry exit : DiskTold) (before now : Seen) (status : Status) → Serves conf profile sessions entry exit before now status
    → NoneRose (faults_of before) (faults_of now) → (status ≡ answer.Done) ⊎ (status ≡ answer.ReadFault) ⊎ (status ≡ answer.BadKeeper) ⊎ (status ≡ answer.StampsSpent)
completes conf profile sessions entry exit before now status s none =
    none_failed status s.end.why s.last s.is_status (none_blamed s.end.why s.woven.ending s.woven.need (faults_of before) (faults_of now) s.ended.ends none)

pub fell : (conf : Conf) (profile : Profile) (sessions : ℕ) (entry exit : DiskTold) (before now : Seen) (status : Status) → Serves conf profile sessions entry exit before now status
    → NoneFell (faults_of before) (faults_of now)
fell conf profile sessions entry exit before now status s = none_fell s.end.why s.woven.ending s.woven.need (faults_of before) (faults_of now) s.ended.ends

pub bad_version : (why : Why) → status_of why Nothing ≡ answer.BadKeeper → why ≡ BadVersion
bad_version BadVersion is = refl
bad_version Done is = absurd (let bad : ⊥ = cc is in bad)
bad_version DiskFault is = absurd (let bad : ⊥ = cc is in bad)
bad_version StampsSpent is = absurd (let bad : ⊥ = cc is in bad)
bad_version ClockFault is = absurd (let bad : ⊥ = cc is in bad)
bad_version EntropyFault is = absurd (let bad : ⊥ = cc is in bad)
bad_version SinkFault is = absurd (let bad : ⊥ = cc is in bad)

pub bad_stop : (at : Stop) → status_of_stop at ≡ answer.BadKeeper → at ≡ stop.Fault BadVersion
bad_stop stop.Unopened is = absurd (let bad : ⊥ = cc is in bad)
bad_stop (stop.Fault why) is = ap stop.Fault (bad_version why is)
