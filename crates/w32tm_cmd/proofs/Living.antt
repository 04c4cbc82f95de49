-- What follows from a run of `/member` for each answer.
use Rattle.std.proofs.Common.{◌≡◌, ◌≢◌, ◌⊎◌, ◌<◌, ◌≤◌, ℕ, List, [], ◌++◌, reverse, Option, Some, IfSome, inl, inr, refl, sym, ◌∙◌, ap, subst, arith}
use Rattle.std.proofs.lemmas.List.{append-nil}
use Rattle.capture_fmt.specs.declared.event.Event.{Event}
use Rattle.member_run.proofs.Blocks.{blocks_in}
use Rattle.member_run.proofs.Enough.{had_few, none_missing}
use Rattle.member_run.proofs.Ordered.{followed_none}
use Rattle.member_run.proofs.Turning.{whole_reserves}
use Rattle.run_deeds.specs.Deeds.{Ending, Whole, NoRecord, NoLine, missing_in}
use Rattle.run_deeds.specs.Devices.{LifeEndsBy, NoneRose, faults_of, living}
use Rattle.run_deeds.specs.Weaving.{Need}
use Rattle.run_deeds.specs.Lives.{KeptBy, Lives}
use Rattle.run_deeds.specs.declared.life_end.LifeEnd.{LifeEnd}
use Rattle.run_deeds.specs.declared.life_end.Why.{Why}
use Rattle.run_deeds.specs.declared.life_end.Why.TheVariants as why
use Rattle.slot_disk.specs.Told.{DiskTold}
use Rattle.stamp_keep.specs.Image.{mark_of_image}
use Rattle.stamp_keep.specs.Keep.{IsLoadable}
use Rattle.stamp_keep.specs.Slots.{HasOtherVersion}
use Rattle.time_machine.specs.declared.conf.Conf.{Conf}
use Rattle.time_machine.specs.Machine.{told}
use Rattle.w32t_settings.specs.declared.settings.Settings.{Settings}
use Rattle.w32tm_cmd.specs.declared.outside.Outside.{Outside}
use Rattle.w32tm_cmd.specs.Config.{Configures, StopsAtConfig, after_settings}
use Rattle.w32tm_cmd.specs.Member.{IsBadKeeperExact, IsMemberComplete, IsMemberFaultless, IsMemberDoneWithin, IsStampsSpentExact, LivesUntil, MemberPromise, RunsMember}
use Rattle.w32tm_cmd.specs.Partners.{HasNoPartner}
use Rattle.edge_seen.specs.Seen.{Seen}
use Rattle.w32tm_cmd.specs.Seen.{FaultsHaveCauses, HasCause, NeverFalls}
use Rattle.w32tm_cmd.proofs.Configuring.{rose, same_settings, settings_exact, stops_exact, stops_for_memory, stops_else}
use Rattle.w32tm_text.specs.Conf.{HasNoCandidate, IsConfOf}
use Rattle.w32tm_text.specs.declared.status.Status.{Status}
use Rattle.w32tm_text.specs.declared.status.Status.TheVariants.{Done, WriteFault, DiskFault, BadKeeper, StampsSpent, ClockFault, EntropyFault, NoPartner}

-- ---- The devices

-- devices that stayed as they were, but for the settings' and the disk
pub disk_alone : {S O L C D E W : Type 0} (old new : Outside S O L C D E W) → new.capture_in ≡ old.capture_in → new.link ≡ old.link → new.clock ≡ old.clock
    → new.entropy ≡ old.entropy → new.out ≡ old.out → new.capture_out ≡ old.capture_out → new.wire ≡ old.wire → new ≡ record old { config = new.config; disk = new.disk }
disk_alone old new input link clock entropy out capture wire = λ i. record {
  config = new.config;
  capture_in = input i;
  out = out i;
  capture_out = capture i;
  link = link i;
  clock = clock i;
  disk = new.disk;
  entropy = entropy i;
  wire = wire i;
}

-- ---- A life that was begun

-- the life of the settings' member, which is one whatever the other devices tell
abbrev pub lived : (turns : ℕ) (entry exit : DiskTold) (before now : Seen) (is : Why) (settings : Settings) (conf : Conf) (end : LifeEnd) → Configures before now settings → IsConfOf settings conf
    → ((others : Seen) → Lives conf turns entry exit (living others before.link before.clock before.words before.capture before.written before.link_faults (faults_of before))
    (living others now.link now.clock now.words now.capture now.written now.link_faults (faults_of now)) end)
    → end.why ≡ is → now.left ≡ before.left → now.read_faults ≡ before.read_faults
    → living (after_settings before now) now.link now.clock now.words now.capture now.written now.link_faults (faults_of now) ≡ now
    → LivesUntil turns entry exit before now is
lived turns entry exit before now is settings conf end configured is_conf lives ended input no_read_fault others = record {
  settings = settings;
  conf = conf;
  end = end;
  configured = configured;
  is_conf = is_conf;
  lives = subst (λ (s : Seen). Lives conf turns entry exit (after_settings before now) s end) others (lives (after_settings before now));
  ended = ended;
  input = input;
  no_read_fault = no_read_fault;
}

-- what is known of the settings' member and of its run
pub record Judges (settings : Settings) (before now : Seen) (end : LifeEnd) : Type 0 where
  pub some : HasNoCandidate settings → ⊥
  pub complete : NoneRose (faults_of before) (faults_of now)
      → (end.why ≡ why.Done) ⊎ (end.why ≡ why.BadVersion) ⊎ (end.why ≡ why.StampsSpent)

-- the answer of a life that ended so
abbrev answer_of : Why → Status
answer_of why.Done = Done
answer_of why.DiskFault = DiskFault
answer_of why.BadVersion = BadKeeper
answer_of why.StampsSpent = StampsSpent
answer_of why.ClockFault = ClockFault
answer_of why.EntropyFault = EntropyFault
answer_of why.SinkFault = WriteFault

runs_of : (turns : ℕ) (entry exit : DiskTold) (before now : Seen) (is : Why) → LivesUntil turns entry exit before now is → RunsMember turns entry exit before now (answer_of is)
runs_of turns entry exit before now why.Done runs = runs
runs_of turns entry exit before now why.DiskFault runs = runs
runs_of turns entry exit before now why.BadVersion runs = runs
runs_of turns entry exit before now why.StampsSpent runs = runs
runs_of turns entry exit before now why.ClockFault runs = runs
runs_of turns entry exit before now why.EntropyFault runs = runs
runs_of turns entry exit before now why.SinkFault runs = runs

none_rose : (before now : Seen) → IsMemberFaultless before now → NoneRose (faults_of before) (faults_of now)
none_rose before now none = record { clock = none.clock; entropy = none.entropy; disk = none.disk; capture = none.capture; out = none.write }

-- a told disk of this version is not refused
loads : (entry : DiskTold) (content : List ℕ) → entry.content ≡ Some content → IsLoadable content → IfSome entry.content HasOtherVersion → ⊥
loads entry content told loadable other = loadable (subst (λ (o : Option (List ℕ)). IfSome o HasOtherVersion) told other)

-- a fault is none of the three ends without one
no_end : (end : LifeEnd) (is : Why) → end.why ≡ is → is ≢ why.Done → is ≢ why.BadVersion → is ≢ why.StampsSpent
    → (end.why ≡ why.Done) ⊎ (end.why ≡ why.BadVersion) ⊎ (end.why ≡ why.StampsSpent) → ⊥
no_end end is ended done version spent (inl e) = done (cc (e, ended))
no_end end is ended done version spent (inr (inl e)) = version (cc (e, ended))
no_end end is ended done version spent (inr (inr e)) = spent (cc (e, ended))

complete_of : (turns : ℕ) (entry exit : DiskTold) (before now : Seen) (is : Why) (runs : LivesUntil turns entry exit before now is)
    → Judges runs.settings before now runs.end → IsMemberComplete entry before now (answer_of is)
complete_of turns entry exit before now why.Done runs j bytes content settings given says some disk loadable none = inl refl
complete_of turns entry exit before now why.StampsSpent runs j bytes content settings given says some disk loadable none = inr (inr refl)
complete_of turns entry exit before now why.BadVersion runs j bytes content settings given says some disk loadable none =
    let kept = subst (λ (w : Why). KeptBy w runs.lives.stood runs.lives.woven.events (told runs.conf (reverse runs.lives.woven.events)) entry exit) runs.ended runs.lives.kept.kept in
    absurd (loads entry content disk loadable kept.1)
complete_of turns entry exit before now why.DiskFault runs j bytes content settings given says some disk loadable none =
    absurd (no_end runs.end why.DiskFault runs.ended (λ is. cc is) (λ is. cc is) (λ is. cc is) (j.complete (none_rose before now none)))
complete_of turns entry exit before now why.ClockFault runs j bytes content settings given says some disk loadable none =
    absurd (no_end runs.end why.ClockFault runs.ended (λ is. cc is) (λ is. cc is) (λ is. cc is) (j.complete (none_rose before now none)))
complete_of turns entry exit before now why.EntropyFault runs j bytes content settings given says some disk loadable none =
    absurd (no_end runs.end why.EntropyFault runs.ended (λ is. cc is) (λ is. cc is) (λ is. cc is) (j.complete (none_rose before now none)))
complete_of turns entry exit before now why.SinkFault runs j bytes content settings given says some disk loadable none =
    absurd (no_end runs.end why.SinkFault runs.ended (λ is. cc is) (λ is. cc is) (λ is. cc is) (j.complete (none_rose before now none)))

-- a run that ended otherwise found a disk of this version
fits_version : (turns : ℕ) (entry exit : DiskTold) (before now : Seen) (is : Why) (runs : LivesUntil turns entry exit before now is) (content : List ℕ)
    → entry.content ≡ Some content → HasOtherVersion content → is ≢ why.BadVersion → is ≢ why.DiskFault → ⊥
fits_version turns entry exit before now is runs content disk other no_version no_fault =
    let ended = runs.ended in
    let loadable = runs.lives.kept.loadable (inr (λ e. no_version (cc (e, ended)), λ e. no_fault (cc (e, ended)))) in
    subst (λ (o : Option (List ℕ)). IfSome o IsLoadable) disk loadable other

bad_keeper_of : (turns : ℕ) (entry exit : DiskTold) (before now : Seen) (is : Why) (runs : LivesUntil turns entry exit before now is)
    → IsBadKeeperExact entry before (answer_of is)
bad_keeper_of turns entry exit before now why.BadVersion runs bytes content settings given says some disk other = inl refl
bad_keeper_of turns entry exit before now why.DiskFault runs bytes content settings given says some disk other = inr (inl refl)
bad_keeper_of turns entry exit before now why.Done runs bytes content settings given says some disk other =
    absurd (fits_version turns entry exit before now why.Done runs content disk other (λ is. cc is) (λ is. cc is))
bad_keeper_of turns entry exit before now why.StampsSpent runs bytes content settings given says some disk other =
    absurd (fits_version turns entry exit before now why.StampsSpent runs content disk other (λ is. cc is) (λ is. cc is))
bad_keeper_of turns entry exit before now why.ClockFault runs bytes content settings given says some disk other =
    absurd (fits_version turns entry exit before now why.ClockFault runs content disk other (λ is. cc is) (λ is. cc is))
bad_keeper_of turns entry exit before now why.EntropyFault runs bytes content settings given says some disk other =
    absurd (fits_version turns entry exit before now why.EntropyFault runs content disk other (λ is. cc is) (λ is. cc is))
bad_keeper_of turns entry exit before now why.SinkFault runs bytes content settings given says some disk other =
    absurd (fits_version turns entry exit before now why.SinkFault runs content disk other (λ is. cc is) (λ is. cc is))

-- a run whose turns were all taken had a block left
had_room : (turns : ℕ) (entry exit : DiskTold) (before now : Seen) (runs : LivesUntil turns entry exit before now why.Done) (content : List ℕ)
    → 0 < turns → entry.content ≡ Some content → 4294967231 < mark_of_image content → ⊥
unfolding told
had_room turns entry exit before now runs content some disk above =
    let l = runs.lives in
    let w = l.woven in
    let ends = subst (λ (why : Why). LifeEndsBy why w.ending w.need (faults_of before) (faults_of now)) runs.ended l.ended.ends in
    let given : w.events ++ missing_in w.ending ≡ w.events = ap (λ (es : List Event). w.events ++ es) (none_missing w.ending ends.0) ∙ append-nil w.events in
    let P : List Event → Type 0 = λ (es : List Event). 1 ≤ blocks_in runs.conf es in
    let all : P (reverse w.events) = subst P (followed_none (w.events ++ missing_in w.ending) ∙ ap reverse given) (whole_reserves w.weaves some (l.ended.well runs.ended)) in
    let mark : l.stood.mark ≡ mark_of_image content = subst (λ (o : Option (List ℕ)). IfSome o (λ c. l.stood.mark ≡ mark_of_image c)) disk l.stood_for in
    let taken : w.events ≢ [] = λ none.
    let nothing : P [] = subst P (ap reverse none) all in
    omega (arith, nothing) in
    omega (arith, l.kept.within taken, mark, above, all)

spent_by : {A B C : Type 0} → (A → ⊥) → A ⊎ (B ⊎ C) → C ⊎ B
spent_by never (inl done) = absurd (never done)
spent_by never (inr (inl memory)) = inr memory
spent_by never (inr (inr spent)) = inl spent

spent_of : (turns : ℕ) (entry exit : DiskTold) (before now : Seen) (is : Why) → LivesUntil turns entry exit before now is → IsMemberComplete entry before now (answer_of is)
    → IsStampsSpentExact turns entry before now (answer_of is)
spent_of turns entry exit before now why.Done runs complete bytes content settings more given says some disk loadable above none =
    absurd (had_room turns entry exit before now runs content more disk above)
spent_of turns entry exit before now why.StampsSpent runs complete bytes content settings more given says some disk loadable above none = inl refl
spent_of turns entry exit before now why.DiskFault runs complete bytes content settings more given says some disk loadable above none =
    spent_by (λ is. cc is) (complete bytes content settings given says some disk loadable none)
spent_of turns entry exit before now why.BadVersion runs complete bytes content settings more given says some disk loadable above none =
    spent_by (λ is. cc is) (complete bytes content settings given says some disk loadable none)
spent_of turns entry exit before now why.ClockFault runs complete bytes content settings more given says some disk loadable above none =
    spent_by (λ is. cc is) (complete bytes content settings given says some disk loadable none)
spent_of turns entry exit before now why.EntropyFault runs complete bytes content settings more given says some disk loadable above none =
    spent_by (λ is. cc is) (complete bytes content settings given says some disk loadable none)
spent_of turns entry exit before now why.SinkFault runs complete bytes content settings more given says some disk loadable above none =
    spent_by (λ is. cc is) (complete bytes content settings given says some disk loadable none)

done_by : {A B C : Type 0} → (C → ⊥) → A ⊎ (B ⊎ C) → A ⊎ B
done_by never (inl done) = inl done
done_by never (inr (inl memory)) = inr memory
done_by never (inr (inr spent)) = absurd (never spent)

enough_of : (turns : ℕ) (entry exit : DiskTold) (before now : Seen) (is : Why) → LivesUntil turns entry exit before now is → IsMemberComplete entry before now (answer_of is)
    → IsMemberDoneWithin turns entry before now (answer_of is)
enough_of turns entry exit before now why.StampsSpent runs complete bytes content settings given says some disk loadable fits none =
    absurd (had_few runs.conf turns entry exit (after_settings before now) now runs.end content runs.lives runs.ended disk fits)
enough_of turns entry exit before now why.Done runs complete bytes content settings given says some disk loadable fits none = inl refl
enough_of turns entry exit before now why.DiskFault runs complete bytes content settings given says some disk loadable fits none =
    done_by (λ is. cc is) (complete bytes content settings given says some disk loadable none)
enough_of turns entry exit before now why.BadVersion runs complete bytes content settings given says some disk loadable fits none =
    done_by (λ is. cc is) (complete bytes content settings given says some disk loadable none)
enough_of turns entry exit before now why.ClockFault runs complete bytes content settings given says some disk loadable fits none =
    done_by (λ is. cc is) (complete bytes content settings given says some disk loadable none)
enough_of turns entry exit before now why.EntropyFault runs complete bytes content settings given says some disk loadable fits none =
    done_by (λ is. cc is) (complete bytes content settings given says some disk loadable none)
enough_of turns entry exit before now why.SinkFault runs complete bytes content settings given says some disk loadable fits none =
    done_by (λ is. cc is) (complete bytes content settings given says some disk loadable none)

pub judged : (turns : ℕ) (entry exit : DiskTold) (before now : Seen) (is : Why) (runs : LivesUntil turns entry exit before now is)
    → Judges runs.settings before now runs.end → MemberPromise turns entry exit before now (answer_of is)
judged turns entry exit before now is runs j = record {
  runs = runs_of turns entry exit before now is runs;
  exact = settings_exact before now runs.settings (answer_of is) runs.configured;
  no_partner = λ bytes settings given says none.
      absurd (j.some (subst HasNoCandidate (sym (same_settings before now runs.settings settings bytes given says runs.configured)) none));
  bad_keeper = bad_keeper_of turns entry exit before now is runs;
  complete = complete_of turns entry exit before now is runs j;
  stamps_spent = spent_of turns entry exit before now is runs (complete_of turns entry exit before now is runs j);
  enough = enough_of turns entry exit before now is runs (complete_of turns entry exit before now is runs j);
}

-- each fault is that of a call that failed
cause_of : (is : Why) (ending : Ending) (need : Need) (before now : Seen) → LifeEndsBy is ending need (faults_of before) (faults_of now) → HasCause (answer_of is) before now
cause_of why.Done ending need before now ends = tt
cause_of why.DiskFault ending need before now (whole, needs, failed) = rose before.disk_faults now.disk_faults failed.0
cause_of why.BadVersion ending need before now ends = tt
cause_of why.StampsSpent ending need before now ends = tt
cause_of why.ClockFault ending need before now (whole, needs, failed) = rose before.clock_faults now.clock_faults failed.0
cause_of why.EntropyFault ending need before now (whole, needs, failed) = rose before.entropy_faults now.entropy_faults failed.0
cause_of why.SinkFault Whole need before now (stops, failed) = absurd failed
cause_of why.SinkFault (NoRecord event front) need before now (stops, failed) = inr (rose before.capture_faults now.capture_faults failed.0)
cause_of why.SinkFault (NoLine deed front) need before now (stops, failed) = inl (rose before.write_faults now.write_faults failed.0)

pub causes : (turns : ℕ) (entry exit : DiskTold) (before now : Seen) (is : Why) → LivesUntil turns entry exit before now is → NeverFalls before now → FaultsHaveCauses before now (answer_of is)
causes turns entry exit before now is runs counts =
    let w = runs.lives.woven in
    let ends = subst (λ (why : Why). LifeEndsBy why w.ending w.need (faults_of before) (faults_of now)) runs.ended runs.lives.ended.ends in
    record { counts = counts; cause = cause_of is w.ending w.need before now ends }

-- ---- A life that was not begun

pub partnerless : (turns : ℕ) (entry exit : DiskTold) (before now : Seen) (runs : HasNoPartner before now) → MemberPromise turns entry exit before now NoPartner
partnerless turns entry exit before now runs = record {
  runs = runs;
  exact = settings_exact before now runs.settings NoPartner runs.configured;
  no_partner = λ bytes settings given says other. inl refl;
  bad_keeper = λ bytes content settings given says some disk other.
      absurd (subst HasNoCandidate (same_settings before now runs.settings settings bytes given says runs.configured) runs.none some.0 some.1);
  complete = λ bytes content settings given says some disk loadable none.
      absurd (subst HasNoCandidate (same_settings before now runs.settings settings bytes given says runs.configured) runs.none some.0 some.1);
  stamps_spent = λ bytes content settings more given says some disk loadable above none.
      absurd (subst HasNoCandidate (same_settings before now runs.settings settings bytes given says runs.configured) runs.none some.0 some.1);
  enough = λ bytes content settings given says some disk loadable fits none.
      absurd (subst HasNoCandidate (same_settings before now runs.settings settings bytes given says runs.configured) runs.none some.0 some.1);
}

promises : (turns : ℕ) (entry exit : DiskTold) (before now : Seen) (result : Status) → RunsMember turns entry exit before now result → StopsAtConfig before now result
    → MemberPromise turns entry exit before now result
promises turns entry exit before now result runs stops = record {
  runs = runs;
  exact = stops_exact before now result stops;
  no_partner = λ bytes settings given says none. inr (stops_else before now settings result bytes given says stops);
  bad_keeper = λ bytes content settings given says some disk other. inr (inr (stops_else before now settings result bytes given says stops));
  complete = λ bytes content settings given says some disk loadable none.
      inr (inl (stops_for_memory before now settings result bytes given says none.config stops));
  stamps_spent = λ bytes content settings more given says some disk loadable above none.
      inr (stops_for_memory before now settings result bytes given says none.config stops);
  enough = λ bytes content settings given says some disk loadable fits none.
      inr (stops_for_memory before now settings result bytes given says none.config stops);
}

-- a command that got no settings
pub stopped : (turns : ℕ) (entry exit : DiskTold) (before now : Seen) (result : Status) → StopsAtConfig before now result → MemberPromise turns entry exit before now result
stopped turns entry exit before now Done stops = absurd stops
stopped turns entry exit before now WriteFault stops = absurd stops
stopped turns entry exit before now DiskFault stops = absurd stops
stopped turns entry exit before now BadKeeper stops = absurd stops
stopped turns entry exit before now StampsSpent stops = absurd stops
stopped turns entry exit before now ClockFault stops = absurd stops
stopped turns entry exit before now EntropyFault stops = absurd stops
stopped turns entry exit before now NoPartner stops = absurd stops
stopped turns entry exit before now status stops = promises turns entry exit before now status stops stops
