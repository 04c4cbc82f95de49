-- What follows from a run of `/service` for each answer.
use Rattle.std.proofs.Common.{◌≡◌, ◌≢◌, ◌⊎◌, ◌<◌, ◌≤◌, ℕ, ◌+◌, List, [], ◌∷◌, ◌++◌, length, reverse, Option, Some, None, IfSome, inl, inr, refl, sym, ◌∙◌, ap, subst, arith}
use Rattle.std.proofs.lemmas.List.{append_assoc}
use Rattle.base_specs.specs.Counts.{FailsTimes, Rose}
use Rattle.base_specs.specs.Told.{Grew}
use Rattle.base_specs.proofs.Counting.{fails_rose}
use Rattle.edge_seen.specs.Seen.{Seen}
use Rattle.edge_traits.specs.Wire.{Entry, Failed}
use Rattle.partner_pick.specs.Ranking.{IsRanked}
use Rattle.run_deeds.specs.Deeds.{Ending, Whole, NoRecord, NoLine}
use Rattle.run_deeds.specs.Devices.{LifeEndsBy, NeedsCount, NoneRose, SinkFailed, faults_of}
use Rattle.run_deeds.specs.Lives.{KeptBy, Woven}
use Rattle.run_deeds.specs.Weaving.{Need, Stood}
use Rattle.run_deeds.specs.declared.life_end.Why.{Why}
use Rattle.run_deeds.specs.declared.life_end.Why.TheVariants as why
use Rattle.service_run.specs.Profile.{Profile, profile_of}
use Rattle.service_run.specs.Serving.{Serves, serving, status_of}
use Rattle.service_run.specs.Sessions.{Last, Nothing, Over, Stopped, Unopened, entries_in, session_entries, unopened_in}
use Rattle.slot_disk.specs.Calls.{IsUnchanged}
use Rattle.slot_disk.specs.Told.{DiskTold}
use Rattle.stamp_keep.specs.Keep.{IsLoadable}
use Rattle.stamp_keep.specs.Slots.{HasOtherVersion}
use Rattle.time_machine.specs.declared.conf.Conf.{Conf}
use Rattle.time_machine.specs.Machine.{told}
use Rattle.w32t_settings.specs.declared.settings.Settings.{Settings}
use Rattle.w32tm_cmd.specs.Config.{Configures, StopsAtConfig, after_settings}
use Rattle.w32tm_cmd.specs.Member.{IsBadKeeperExact}
use Rattle.w32tm_cmd.specs.Partners.{HasNoPartner}
use Rattle.w32tm_cmd.specs.declared.outside.Outside.{Outside}
use Rattle.w32tm_cmd.specs.Touching.{ServiceTouches}
use Rattle.w32tm_cmd.specs.Service.{HasServiceCause, IsOpenedWell, IsServiceComplete, IsServiceFaultless, RunsService, ServesUntil, ServicePromise}
use Rattle.w32tm_cmd.proofs.Configuring.{rose, same_settings, settings_exact, stops_cause, stops_else, stops_exact, stops_for_memory}
use Rattle.w32tm_text.specs.Conf.{HasNoCandidate, IsConfOf}
use Rattle.w32tm_text.specs.declared.status.Status.{Status}
use Rattle.w32tm_text.specs.declared.status.Status.TheVariants.{Done, BadConfig, ReadFault, WriteFault, DiskFault, BadKeeper, StampsSpent, ClockFault, EntropyFault, NoPartner, NoMemory}

-- ---- A service that was begun

-- a sink that failed raised its count
none_sunk : (ending : Ending) (before now : Seen) → NoneRose (faults_of before) (faults_of now) → SinkFailed ending (faults_of before) (faults_of now) → ⊥
none_sunk Whole before now none failed = failed
none_sunk (NoRecord event front) before now none failed = none.capture (rose _ _ failed.0)
none_sunk (NoLine deed front) before now none failed = none.out (rose _ _ failed.0)

-- no mark is left exactly where a call for a request is next
pub spent_at : {conf : Conf} {next : Need} {stood : Stood} (w : Woven conf next stood) (entry exit : DiskTold) (before now : Seen) (is : Why) (last : Last)
    → LifeEndsBy is w.ending w.need (faults_of before) (faults_of now) → (is ≡ why.Done → NeedsCount w.need → ⊥)
    → KeptBy is stood w.events (told conf (reverse w.events)) entry exit
    → w.events ≢ [] → NoneRose (faults_of before) (faults_of now) → NeedsCount w.need → status_of is last ≡ StampsSpent
spent_at w entry exit before now why.Done last ends over kept some none needs = absurd (over refl needs)
spent_at w entry exit before now why.DiskFault last ends over kept some none needs = absurd (none.disk (rose _ _ (ends.2).0))
spent_at w entry exit before now why.BadVersion last ends over kept some none needs = absurd (some kept.0)
spent_at w entry exit before now why.StampsSpent last ends over kept some none needs = refl
spent_at w entry exit before now why.ClockFault last ends over kept some none needs = absurd (none.clock (rose _ _ (ends.2).0))
spent_at w entry exit before now why.EntropyFault last ends over kept some none needs = absurd (none.entropy (rose _ _ (ends.2).0))
spent_at w entry exit before now why.SinkFault last ends over kept some none needs = absurd (none_sunk w.ending before now none ends.1)

-- the service of the settings' member, which is one whatever the other devices tell
abbrev pub served : (sessions : ℕ) (entry exit : DiskTold) (before now : Seen) (settings : Settings) (conf : Conf) (ranked : List ℕ) (status : Status) → Configures before now settings
    → IsConfOf settings conf → IsRanked settings.role settings.name settings.directory ranked
    → ((others : Seen) → Serves conf (profile_of settings ranked) sessions entry exit
    (serving others before.link before.clock before.words before.capture before.written before.link_faults (faults_of before) before.wire before.wire_faults before.wire_write_faults)
    (serving others now.link now.clock now.words now.capture now.written now.link_faults (faults_of now) now.wire now.wire_faults now.wire_write_faults) status)
    → now.left ≡ before.left → now.read_faults ≡ before.read_faults
    → serving (after_settings before now) now.link now.clock now.words now.capture now.written now.link_faults (faults_of now) now.wire now.wire_faults now.wire_write_faults ≡ now
    → ServesUntil sessions entry exit before now status
served sessions entry exit before now settings conf ranked status configured is_conf is_ranked serves input no_read_fault others =
    let s : Serves conf (profile_of settings ranked) sessions entry exit (after_settings before now) now status =
    subst (λ (n : Seen). Serves conf (profile_of settings ranked) sessions entry exit (after_settings before now) n status) others (serves (after_settings before now)) in
    record {
      settings = settings;
      conf = conf;
      ranked = ranked;
      configured = configured;
      is_conf = is_conf;
      is_ranked = is_ranked;
      serves = s;
      spent = λ some none needs. s.is_status ∙ spent_at s.woven entry exit before now s.end.why s.last s.ended.ends
          (λ done left. subst NeedsCount (s.ended.well done) left) s.kept.kept some none needs;
      input = input;
      no_read_fault = no_read_fault;
    }

-- what is known of the settings' member and of its run
pub record Judges (settings : Settings) (entry : DiskTold) (before now : Seen) (status : Status) : Type 0 where
  pub some : HasNoCandidate settings → ⊥
  pub version : status ≡ BadKeeper → IfSome entry.content HasOtherVersion
  pub complete : NoneRose (faults_of before) (faults_of now)
      → (status ≡ Done) ⊎ (status ≡ ReadFault) ⊎ (status ≡ BadKeeper) ⊎ (status ≡ StampsSpent)

runs_at : (sessions : ℕ) (entry exit : DiskTold) (before now : Seen) (is : Why) (last : Last) → ServesUntil sessions entry exit before now (status_of is last)
    → RunsService sessions entry exit before now (status_of is last)
runs_at sessions entry exit before now why.Done Unopened runs = inr runs
runs_at sessions entry exit before now why.Done Nothing runs = runs
runs_at sessions entry exit before now why.Done Over runs = runs
runs_at sessions entry exit before now why.Done (Stopped session at events) runs = runs
runs_at sessions entry exit before now why.DiskFault last runs = runs
runs_at sessions entry exit before now why.BadVersion last runs = runs
runs_at sessions entry exit before now why.StampsSpent last runs = runs
runs_at sessions entry exit before now why.ClockFault last runs = runs
runs_at sessions entry exit before now why.EntropyFault last runs = runs
runs_at sessions entry exit before now why.SinkFault last runs = runs

runs_of : (sessions : ℕ) (entry exit : DiskTold) (before now : Seen) (status : Status) → ServesUntil sessions entry exit before now status
    → RunsService sessions entry exit before now status
runs_of sessions entry exit before now status runs =
    let s = runs.serves in
    subst (RunsService sessions entry exit before now) (sym s.is_status)
    (runs_at sessions entry exit before now s.end.why s.last (subst (ServesUntil sessions entry exit before now) s.is_status runs))

-- ---- A request for a session that failed

-- it alone is answered with a failed read
unopened : (is : Why) (last : Last) → ReadFault ≡ status_of is last → last ≡ Unopened
unopened why.Done Unopened same = refl
unopened why.Done Nothing same = absurd (cc same)
unopened why.Done Over same = absurd (cc same)
unopened why.Done (Stopped session at events) same = absurd (cc same)
unopened why.DiskFault last same = absurd (cc same)
unopened why.BadVersion last same = absurd (cc same)
unopened why.StampsSpent last same = absurd (cc same)
unopened why.ClockFault last same = absurd (cc same)
unopened why.EntropyFault last same = absurd (cc same)
unopened why.SinkFault last same = absurd (cc same)

-- a told wire tells it last
told_last : (old new : Option (List Entry)) (served : List Entry) (entries : List Entry) → Grew old new (served ++ Failed ∷ []) → new ≡ Some entries
    → (earlier : List Entry) × (entries ≡ earlier ++ Failed ∷ [])
told_last old None served entries grew is = absurd (cc is)
told_last None (Some new) served entries grew is = absurd grew
told_last (Some old) (Some new) served entries grew is =
    let same : new ≡ entries = cc is in
    (old ++ served, sym same ∙ grew ∙ sym (append_assoc old served (Failed ∷ [])))

-- its count rose
wire_rose : (last : Last) (others before now : ℕ) → last ≡ Unopened → FailsTimes (unopened_in last + others) before now → Rose before now
wire_rose last others before now is fails =
    fails_rose (1 + others) before now (omega arith) (subst (λ (l : Last). FailsTimes (unopened_in l + others) before now) is fails)

-- so it did not fail where the wire says that none did
well_opened : (sessions : ℕ) (entry exit : DiskTold) (before now : Seen) (runs : ServesUntil sessions entry exit before now ReadFault) → IsOpenedWell before now → ⊥
well_opened sessions entry exit before now runs (inl none) =
    let s = runs.serves in
    none (wire_rose s.last _ _ _ (unopened s.end.why s.last s.is_status) s.reads)
well_opened sessions entry exit before now runs (inr (entries, told, no_failed)) =
    let s = runs.serves in
    let grew = subst (λ (l : Last). Grew before.wire now.wire (session_entries s.served ++ entries_in l)) (unopened s.end.why s.last s.is_status) s.wire in
    let failed = told_last before.wire now.wire (session_entries s.served) entries grew told in
    no_failed failed.0 failed.1

-- ---- Which answer comes

none_rose : (before now : Seen) → IsServiceFaultless before now → NoneRose (faults_of before) (faults_of now)
none_rose before now none = record {
  clock = none.devices.clock;
  entropy = none.devices.entropy;
  disk = none.devices.disk;
  capture = none.devices.capture;
  out = none.devices.write;
}

-- a told disk of this version is not refused
loads : (entry : DiskTold) (content : List ℕ) → entry.content ≡ Some content → IsLoadable content → IfSome entry.content HasOtherVersion → ⊥
loads entry content told loadable other = loadable (subst (λ (o : Option (List ℕ)). IfSome o HasOtherVersion) told other)

complete_of : (sessions : ℕ) (entry exit : DiskTold) (before now : Seen) (status : Status) (runs : ServesUntil sessions entry exit before now status)
    → Judges runs.settings entry before now status → IsServiceComplete entry before now status
complete_of sessions entry exit before now status runs j bytes content settings given says some disk loadable none =
    elim (j.complete (none_rose before now none)) [
      | inl done ↦ inl done
      | inr (inl read) ↦ absurd (well_opened sessions entry exit before now (subst (ServesUntil sessions entry exit before now) read runs) none.opened)
      | inr (inr (inl version)) ↦ absurd (loads entry content disk loadable (j.version version))
      | inr (inr (inr spent)) ↦ inr (inr spent)
    ]

-- a run that ended for no reason of the disk found one of this version
bad_keeper_at : (is : Why) (last : Last) (entry : DiskTold) (before : Seen) → ((is ≢ why.BadVersion) × (is ≢ why.DiskFault) → IfSome entry.content IsLoadable)
    → IsBadKeeperExact entry before (status_of is last)
bad_keeper_at why.BadVersion last entry before loadable bytes content settings given says some disk other = inl refl
bad_keeper_at why.DiskFault last entry before loadable bytes content settings given says some disk other = inr (inl refl)
bad_keeper_at why.Done last entry before loadable bytes content settings given says some disk other =
    absurd (subst (λ (o : Option (List ℕ)). IfSome o IsLoadable) disk (loadable (λ is. cc is, λ is. cc is)) other)
bad_keeper_at why.StampsSpent last entry before loadable bytes content settings given says some disk other =
    absurd (subst (λ (o : Option (List ℕ)). IfSome o IsLoadable) disk (loadable (λ is. cc is, λ is. cc is)) other)
bad_keeper_at why.ClockFault last entry before loadable bytes content settings given says some disk other =
    absurd (subst (λ (o : Option (List ℕ)). IfSome o IsLoadable) disk (loadable (λ is. cc is, λ is. cc is)) other)
bad_keeper_at why.EntropyFault last entry before loadable bytes content settings given says some disk other =
    absurd (subst (λ (o : Option (List ℕ)). IfSome o IsLoadable) disk (loadable (λ is. cc is, λ is. cc is)) other)
bad_keeper_at why.SinkFault last entry before loadable bytes content settings given says some disk other =
    absurd (subst (λ (o : Option (List ℕ)). IfSome o IsLoadable) disk (loadable (λ is. cc is, λ is. cc is)) other)

bad_keeper_of : (sessions : ℕ) (entry exit : DiskTold) (before now : Seen) (status : Status) → ServesUntil sessions entry exit before now status → IsBadKeeperExact entry before status
bad_keeper_of sessions entry exit before now status runs =
    let s = runs.serves in
    subst (IsBadKeeperExact entry before) (sym s.is_status) (bad_keeper_at s.end.why s.last entry before (λ others. s.kept.loadable (inr others)))

-- each fault is that of a call that failed
cause_at : (is : Why) (last : Last) (ending : Ending) (need : Need) (before now : Seen) → (last ≡ Unopened → Rose before.wire_faults now.wire_faults)
    → LifeEndsBy is ending need (faults_of before) (faults_of now) → HasServiceCause (status_of is last) before now
cause_at why.Done Unopened ending need before now wire ends = inr (wire refl)
cause_at why.Done Nothing ending need before now wire ends = tt
cause_at why.Done Over ending need before now wire ends = tt
cause_at why.Done (Stopped session at events) ending need before now wire ends = tt
cause_at why.DiskFault last ending need before now wire (whole, needs, failed) = rose before.disk_faults now.disk_faults failed.0
cause_at why.BadVersion last ending need before now wire ends = tt
cause_at why.StampsSpent last ending need before now wire ends = tt
cause_at why.ClockFault last ending need before now wire (whole, needs, failed) = rose before.clock_faults now.clock_faults failed.0
cause_at why.EntropyFault last ending need before now wire (whole, needs, failed) = rose before.entropy_faults now.entropy_faults failed.0
cause_at why.SinkFault last Whole need before now wire (stops, failed) = absurd failed
cause_at why.SinkFault last (NoRecord event front) need before now wire (stops, failed) = inr (rose before.capture_faults now.capture_faults failed.0)
cause_at why.SinkFault last (NoLine deed front) need before now wire (stops, failed) = inl (rose before.write_faults now.write_faults failed.0)

cause_of : (sessions : ℕ) (entry exit : DiskTold) (before now : Seen) (status : Status) → ServesUntil sessions entry exit before now status → HasServiceCause status before now
cause_of sessions entry exit before now status runs =
    let s = runs.serves in
    subst (λ (r : Status). HasServiceCause r before now) (sym s.is_status)
    (cause_at s.end.why s.last s.woven.ending s.woven.need before now (λ is. wire_rose s.last _ _ _ is s.reads) s.ended.ends)

pub judged : (sessions : ℕ) (entry exit : DiskTold) (before now : Seen) (status : Status) (runs : ServesUntil sessions entry exit before now status)
    → Judges runs.settings entry before now status → ServicePromise sessions entry exit before now status
judged sessions entry exit before now status runs j = record {
  runs = runs_of sessions entry exit before now status runs;
  exact = settings_exact before now runs.settings status runs.configured;
  no_partner = λ bytes settings given says none.
      absurd (j.some (subst HasNoCandidate (sym (same_settings before now runs.settings settings bytes given says runs.configured)) none));
  bad_keeper = bad_keeper_of sessions entry exit before now status runs;
  complete = complete_of sessions entry exit before now status runs j;
  cause = cause_of sessions entry exit before now status runs;
}

-- a failed read of a run is a request for a session
pub opened_well : {conf : Conf} {profile : Profile} {sessions : ℕ} {entry exit : DiskTold} {before now : Seen} (status : Status) → Serves conf profile sessions entry exit before now status
    → status ≡ ReadFault → ¬ Rose before.wire_faults now.wire_faults → ⊥
opened_well status s is none = none (wire_rose s.last _ _ _ (unopened s.end.why s.last (sym is ∙ s.is_status)) s.reads)

-- ---- The devices

touched_at : {S O L C D E W : Type 0} (old new : Outside S O L C D E W) (is : Why) (last : Last) → new.capture_in ≡ old.capture_in
    → (status_of is last ≡ BadKeeper → new ≡ record old { config = new.config; disk = new.disk }) → ServiceTouches old new (status_of is last)
touched_at old new why.Done Unopened input version = λ i. record new { capture_in = input i }
touched_at old new why.Done Nothing input version = λ i. record new { capture_in = input i }
touched_at old new why.Done Over input version = λ i. record new { capture_in = input i }
touched_at old new why.Done (Stopped session at events) input version = λ i. record new { capture_in = input i }
touched_at old new why.DiskFault last input version = λ i. record new { capture_in = input i }
touched_at old new why.BadVersion last input version = version refl
touched_at old new why.StampsSpent last input version = λ i. record new { capture_in = input i }
touched_at old new why.ClockFault last input version = λ i. record new { capture_in = input i }
touched_at old new why.EntropyFault last input version = λ i. record new { capture_in = input i }
touched_at old new why.SinkFault last input version = λ i. record new { capture_in = input i }

-- the devices of a run
pub touched : {S O L C D E W : Type 0} (old new : Outside S O L C D E W) {conf : Conf} {profile : Profile} {sessions : ℕ} {entry exit : DiskTold} {before now : Seen} (status : Status)
    → Serves conf profile sessions entry exit before now status → new.capture_in ≡ old.capture_in
    → (status ≡ BadKeeper → new ≡ record old { config = new.config; disk = new.disk }) → ServiceTouches old new status
touched old new status s input version =
    subst (ServiceTouches old new) (sym s.is_status) (touched_at old new s.end.why s.last input (λ is. version (s.is_status ∙ is)))

-- ---- A service that was not begun

pub partnerless : (sessions : ℕ) (entry exit : DiskTold) (before now : Seen) (runs : HasNoPartner before now) → ServicePromise sessions entry exit before now NoPartner
partnerless sessions entry exit before now runs = record {
  runs = runs;
  exact = settings_exact before now runs.settings NoPartner runs.configured;
  no_partner = λ bytes settings given says other. inl refl;
  bad_keeper = λ bytes content settings given says some disk other.
      absurd (subst HasNoCandidate (same_settings before now runs.settings settings bytes given says runs.configured) runs.none some.0 some.1);
  complete = λ bytes content settings given says some disk loadable none.
      absurd (subst HasNoCandidate (same_settings before now runs.settings settings bytes given says runs.configured) runs.none some.0 some.1);
  cause = tt;
}

promises : (sessions : ℕ) (entry exit : DiskTold) (before now : Seen) (result : Status) → RunsService sessions entry exit before now result → HasServiceCause result before now
    → StopsAtConfig before now result → ServicePromise sessions entry exit before now result
promises sessions entry exit before now result runs cause stops = record {
  runs = runs;
  exact = stops_exact before now result stops;
  no_partner = λ bytes settings given says none. inr (stops_else before now settings result bytes given says stops);
  bad_keeper = λ bytes content settings given says some disk other. inr (inr (stops_else before now settings result bytes given says stops));
  complete = λ bytes content settings given says some disk loadable none.
      inr (inl (stops_for_memory before now settings result bytes given says none.devices.config stops));
  cause = cause;
}

-- a command that got no settings, and left the disk as it was
pub stopped : (sessions : ℕ) (entry exit : DiskTold) (before now : Seen) (result : Status) → IsUnchanged entry exit → StopsAtConfig before now result → ServicePromise sessions entry exit before now result
stopped sessions entry exit before now (BadConfig line) still stops = promises sessions entry exit before now (BadConfig line) stops tt stops
stopped sessions entry exit before now ReadFault still stops = promises sessions entry exit before now ReadFault (inl (stops, still)) (inl (rose _ _ (stops.0).cause)) stops
stopped sessions entry exit before now NoMemory still stops = promises sessions entry exit before now NoMemory stops tt stops
stopped sessions entry exit before now _ still stops = absurd stops

pub unchanged : (disk : DiskTold) → IsUnchanged disk disk
unchanged disk = record { content = refl; was = λ image left. left; still = λ image left. left }
