-- What follows from a run of `/replay` for each answer.
use Rattle.std.proofs.Common.{◌≡◌, ◌≢◌, ◌<◌, ℕ, List, length, take, Some, inl, inr, refl, sym, subst}
use Rattle.base_specs.specs.Counts.{Rose}
use Rattle.capture_fmt.specs.declared.event.Event.{Event}
use Rattle.capture_fmt.specs.Capture.{SpellsEvents, place_limit}
use Rattle.replay_run.specs.Judged.{ReplaysTo}
use Rattle.replay_run.specs.Replay.{Replays, ReportsAll, history_of, replaying}
use Rattle.replay_run.specs.declared.end.ReplayEnd.{ReplayEnd}
use Rattle.replay_run.specs.declared.end.ReplayWhy.{ReplayWhy}
use Rattle.replay_run.specs.declared.end.ReplayWhy.TheVariants as why
use Rattle.settings_source.specs.Reading.{text_limit}
use Rattle.time_machine.specs.declared.conf.Conf.{Conf}
use Rattle.time_machine.specs.Growing.{Grows}
use Rattle.w32t_settings.specs.Answer.{AreSettingsOf}
use Rattle.w32t_settings.specs.declared.settings.Settings.{Settings}
use Rattle.w32tm_cmd.specs.Partners.{HasNoPartner, IsNoPartnerExact}
use Rattle.w32tm_cmd.specs.Replay.{ReplayPromise, ReplaysUntil, RunsReplay, IsBadCaptureExact, IsReplayComplete, IsReplayDoneOf, IsReplayWhole}
use Rattle.w32tm_cmd.specs.Config.{Configures, IsBadConfigExact, StopsAtConfig, after_settings}
use Rattle.edge_seen.specs.Seen.{Seen}
use Rattle.w32tm_cmd.proofs.Configuring.{same_settings, settings_exact, stops_exact, stops_for_memory, stops_else}
use Rattle.w32tm_text.specs.Conf.{HasNoCandidate, IsConfOf}
use Rattle.w32tm_text.specs.declared.status.Status.{Status}
use Rattle.w32tm_text.specs.declared.status.Status.TheVariants.{Done, BadCapture, ReadFault, WriteFault, NoPartner}

-- ---- A replay that was begun

-- the replay of the settings' member, which is the same whatever the other devices tell
abbrev pub replayed : (before now : Seen) (why : ReplayWhy) (settings : Settings) (conf : Conf) (end : ReplayEnd) → Configures before now settings → IsConfOf settings conf
    → ((others : Seen) → Replays conf (replaying others before.left before.read_faults before.written before.write_faults)
    (replaying others now.left now.read_faults now.written now.write_faults) end)
    → end.why ≡ why → now ≡ record before {
      config = now.config;
      config_faults = now.config_faults;
      left = now.left;
      read_faults = now.read_faults;
      written = now.written;
      write_faults = now.write_faults;
    } → ReplaysUntil before now why
replayed before now why settings conf end configured is_conf replays ended others = record {
  settings = settings;
  conf = conf;
  end = end;
  configured = configured;
  is_conf = is_conf;
  replays = subst (λ (s : Seen). Replays conf (after_settings before now) s end) (sym others) (replays (after_settings before now));
  ended = ended;
  others = others;
}

-- what is known of the settings' member and of its replay
pub record Judges (settings : Settings) (conf : Conf) (before now : Seen) (end : ReplayEnd) : Type 0 where
  pub some : HasNoCandidate settings → ⊥
  pub one : (other : Conf) → IsConfOf settings other → conf ≡ other
  pub exact : (bytes : List ℕ) (is : ReplayWhy) → before.left ≡ Some bytes → ReplaysTo conf bytes is
      → end.why ≢ why.ReadFault → end.why ≢ why.WriteFault → end.why ≡ is
  pub complete : (bytes : List ℕ) (events : List Event) → before.left ≡ Some bytes → SpellsEvents events bytes
      → length bytes < place_limit → Grows conf (history_of events)
      → ¬ Rose before.read_faults now.read_faults → ¬ Rose before.write_faults now.write_faults → end.why ≡ why.Done
  pub whole : (bytes : List ℕ) (events : List Event) → before.left ≡ Some bytes → SpellsEvents events bytes
      → end.why ≡ why.Done → ReportsAll conf (history_of events) end before.written now.written
  pub read_cause : end.why ≡ why.ReadFault → Rose before.read_faults now.read_faults
  pub write_cause : end.why ≡ why.WriteFault → Rose before.write_faults now.write_faults

-- the answer of a replay that ended so
abbrev answer_of : ReplayWhy → Status
answer_of why.Done = Done
answer_of (why.BadCapture at) = BadCapture at
answer_of why.ReadFault = ReadFault
answer_of why.WriteFault = WriteFault

runs_of : (before now : Seen) (is : ReplayWhy) → ReplaysUntil before now is → RunsReplay before now (answer_of is)
runs_of before now why.Done runs = runs
runs_of before now (why.BadCapture at) runs = runs
runs_of before now why.ReadFault runs = inr runs
runs_of before now why.WriteFault runs = runs

no_partner_of : (before now : Seen) (is : ReplayWhy) (runs : ReplaysUntil before now is) → Judges runs.settings runs.conf before now runs.end
    → IsNoPartnerExact before (answer_of is)
no_partner_of before now is runs j bytes settings told says none =
    let same = same_settings before now runs.settings settings bytes told says runs.configured in
    absurd (j.some (subst HasNoCandidate (sym same) none))

-- a bad capture that the bytes show is how the replay ended, if no call failed
bad_end : (before now : Seen) (is : ReplayWhy) (runs : ReplaysUntil before now is) → Judges runs.settings runs.conf before now runs.end
    → (bytes capture : List ℕ) (settings : Settings) (conf : Conf) (at : ℕ) → before.config ≡ Some bytes → AreSettingsOf (take text_limit bytes) settings → IsConfOf settings conf
    → before.left ≡ Some capture → ReplaysTo conf capture (why.BadCapture at) → is ≢ why.ReadFault → is ≢ why.WriteFault → is ≡ why.BadCapture at
bad_end before now is runs j bytes capture settings conf at told says is_conf left to no_read no_write =
    let same = same_settings before now runs.settings settings bytes told says runs.configured in
    let own = j.one conf (subst (λ (s : Settings). IsConfOf s conf) (sym same) is_conf) in
    let ended = runs.ended in
    let here = j.exact capture (why.BadCapture at) left (subst (λ (c : Conf). ReplaysTo c capture (why.BadCapture at)) (sym own) to)
    (λ r. no_read (cc (r, ended))) (λ w. no_write (cc (w, ended))) in
    cc (here, ended)

bad_capture_of : (before now : Seen) (is : ReplayWhy) (runs : ReplaysUntil before now is) → Judges runs.settings runs.conf before now runs.end
    → IsBadCaptureExact before (answer_of is)
bad_capture_of before now why.Done runs j bytes capture settings conf at told says is_conf left to =
    let wrong = bad_end before now why.Done runs j bytes capture settings conf at told says is_conf left to (λ is. cc is) (λ is. cc is) in
    absurd (cc wrong)
bad_capture_of before now (why.BadCapture n) runs j bytes capture settings conf at told says is_conf left to =
    let same = bad_end before now (why.BadCapture n) runs j bytes capture settings conf at told says is_conf left to (λ is. cc is) (λ is. cc is) in
    inl (cc same)
bad_capture_of before now why.ReadFault runs j bytes capture settings conf at told says is_conf left to = inr (inl refl)
bad_capture_of before now why.WriteFault runs j bytes capture settings conf at told says is_conf left to = inr (inr (inl refl))

exact_of : (before now : Seen) (is : ReplayWhy) → ReplaysUntil before now is → IsBadConfigExact before (answer_of is)
exact_of before now is runs = settings_exact before now runs.settings (answer_of is) runs.configured

complete_of : (before now : Seen) (is : ReplayWhy) (runs : ReplaysUntil before now is) → Judges runs.settings runs.conf before now runs.end
    → IsReplayComplete before now (answer_of is)
complete_of before now why.Done runs j bytes capture settings events told says some left spells short grows none = inl refl
complete_of before now (why.BadCapture n) runs j bytes capture settings events told says some left spells short grows none =
    let same = same_settings before now runs.settings settings bytes told says runs.configured in
    let own = grows runs.conf (subst (λ (s : Settings). IsConfOf s runs.conf) same runs.is_conf) in
    let done = j.complete capture events left spells short own none.read none.write in
    let ended = runs.ended in
    absurd (cc (done, ended))
complete_of before now why.ReadFault runs j bytes capture settings events told says some left spells short grows none = absurd (none.read (j.read_cause runs.ended))
complete_of before now why.WriteFault runs j bytes capture settings events told says some left spells short grows none = absurd (none.write (j.write_cause runs.ended))

done_of : (before now : Seen) (is : ReplayWhy) (runs : ReplaysUntil before now is) → Judges runs.settings runs.conf before now runs.end
    → IsReplayDoneOf before now (answer_of is)
done_of before now why.Done runs j bytes capture settings conf events told says is_conf left spells short grows none = inl refl
done_of before now (why.BadCapture n) runs j bytes capture settings conf events told says is_conf left spells short grows none =
    let same = same_settings before now runs.settings settings bytes told says runs.configured in
    let own = j.one conf (subst (λ (s : Settings). IsConfOf s conf) (sym same) is_conf) in
    let done = j.complete capture events left spells short (subst (λ (c : Conf). Grows c (history_of events)) (sym own) grows) none.read none.write in
    let ended = runs.ended in
    absurd (cc (done, ended))
done_of before now why.ReadFault runs j bytes capture settings conf events told says is_conf left spells short grows none = absurd (none.read (j.read_cause runs.ended))
done_of before now why.WriteFault runs j bytes capture settings conf events told says is_conf left spells short grows none = absurd (none.write (j.write_cause runs.ended))

whole_of : (before now : Seen) (is : ReplayWhy) (runs : ReplaysUntil before now is) → Judges runs.settings runs.conf before now runs.end
    → IsReplayWhole before now (answer_of is)
whole_of before now why.Done runs j bytes capture settings conf events told says is_conf left spells is =
    let same = same_settings before now runs.settings settings bytes told says runs.configured in
    let own = j.one conf (subst (λ (s : Settings). IsConfOf s conf) (sym same) is_conf) in
    (runs.end, subst (λ (c : Conf). ReportsAll c (history_of events) runs.end before.written now.written) own (j.whole capture events left spells runs.ended))
whole_of before now (why.BadCapture n) runs j bytes capture settings conf events told says is_conf left spells is = cc is
whole_of before now why.ReadFault runs j bytes capture settings conf events told says is_conf left spells is = cc is
whole_of before now why.WriteFault runs j bytes capture settings conf events told says is_conf left spells is = cc is

pub judged : (before now : Seen) (is : ReplayWhy) (runs : ReplaysUntil before now is) → Judges runs.settings runs.conf before now runs.end
    → ReplayPromise before now (answer_of is)
judged before now is runs j = record {
  runs = runs_of before now is runs;
  exact = exact_of before now is runs;
  no_partner = no_partner_of before now is runs j;
  bad_capture = bad_capture_of before now is runs j;
  complete = complete_of before now is runs j;
  done_of = done_of before now is runs j;
  whole = whole_of before now is runs j;
}

-- ---- A replay that was not begun

pub partnerless : (before now : Seen) (runs : HasNoPartner before now) → ((conf : Conf) → IsConfOf runs.settings conf → ⊥) → ReplayPromise before now NoPartner
partnerless before now runs none = record {
  runs = runs;
  exact = settings_exact before now runs.settings NoPartner runs.configured;
  no_partner = λ bytes settings told says other. inl refl;
  bad_capture = λ bytes capture settings conf at told says is_conf left to.
      absurd (none conf (subst (λ (s : Settings). IsConfOf s conf) (sym (same_settings before now runs.settings settings bytes told says runs.configured)) is_conf));
  complete = λ bytes capture settings events told says some left spells short grows faultless.
      absurd (subst HasNoCandidate (same_settings before now runs.settings settings bytes told says runs.configured) runs.none some.0 some.1);
  done_of = λ bytes capture settings conf events told says is_conf left spells short grows faultless.
      absurd (none conf (subst (λ (s : Settings). IsConfOf s conf) (sym (same_settings before now runs.settings settings bytes told says runs.configured)) is_conf));
  whole = λ bytes capture settings conf events told says is_conf left spells is. cc is;
}

-- a command that got no settings is not done
not_done : (before now : Seen) (result : Status) → StopsAtConfig before now result → result ≡ Done → ⊥
not_done before now result stops is = absurd (subst (StopsAtConfig before now) is stops)

promises : (before now : Seen) (result : Status) → RunsReplay before now result → StopsAtConfig before now result → ReplayPromise before now result
promises before now result runs stops = record {
  runs = runs;
  exact = stops_exact before now result stops;
  no_partner = λ bytes settings told says none. inr (stops_else before now settings result bytes told says stops);
  bad_capture = λ bytes capture settings conf at told says is_conf left to.
      elim (stops_else before now settings result bytes told says stops) [
        | inl read ↦ inr (inl read)
        | inr memory ↦ inr (inr (inr memory))
      ];
  complete = λ bytes capture settings events told says some left spells short grows none.
      inr (stops_for_memory before now settings result bytes told says none.config stops);
  done_of = λ bytes capture settings conf events told says is_conf left spells short grows none.
      inr (stops_for_memory before now settings result bytes told says none.config stops);
  whole = λ bytes capture settings conf events told says is_conf left spells is. absurd (not_done before now result stops is);
}

-- a command that got no settings
pub stopped : (before now : Seen) (result : Status) → StopsAtConfig before now result → ReplayPromise before now result
stopped before now Done stops = absurd stops
stopped before now (BadCapture at) stops = absurd stops
stopped before now ReadFault stops = promises before now ReadFault (inl stops) stops
stopped before now WriteFault stops = absurd stops
stopped before now NoPartner stops = absurd stops
stopped before now status stops = promises before now status stops stops
