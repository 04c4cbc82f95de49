-- Settings that a command reads: what a told text says decides.
use Rattle.std.proofs.Common.{◌≡◌, ◌<◌, ◌≤◌, ◌⊎◌, ℕ, List, ◌++◌, length, take, Option, Some, None, Ok, Err, inl, inr, refl, sym, subst, ◌∙◌, ap, arith}
use Rattle.std.proofs.lemmas.List.{append-nil, take_all, take-append-le}
use Rattle.std.proofs.lemmas.Bool.{cases_lt}
use Rattle.base_specs.specs.Counts.{Fails, Rose}
use Rattle.base_specs.specs.Told.{Took, IsUsedUp}
use Rattle.settings_source.specs.Reading.{ReadsText, FailsToConfigure, text_limit}
use Rattle.settings_source.specs.declared.read.ConfigFault.{ConfigFault}
use Rattle.settings_source.specs.declared.read.ConfigFault.TheVariants as config
use Rattle.w32t_settings.specs.Answer.{IsAnswer, AreSettingsOf}
use Rattle.w32t_settings.specs.declared.settings.Settings.{Settings}
use Rattle.w32t_settings.specs.declared.settings.SettingsFault.TheVariants as fault
use Rattle.w32t_settings.proofs.Exact.{one_answer}
use Rattle.w32tm_cmd.specs.Config.{Configures, StopsAtConfig, TouchesConfigAlone, IsBadConfigExact, status_of}
use Rattle.edge_seen.specs.Seen.{Seen}
use Rattle.w32tm_cmd.specs.Seen.{HasCause}
use Rattle.w32tm_text.specs.declared.status.Status.{Status}
use Rattle.w32tm_text.specs.declared.status.Status.TheVariants.{BadConfig, ReadFault, NoMemory}

-- what failed raised its count
pub rose : (before now : ℕ) → Fails before now → Rose before now
rose before now fails = omega (arith, fails.once)

-- of a told text the bytes up to the limit were read
read_front : (bytes text : List ℕ) (left : Option (List ℕ)) → Took (Some bytes) left text → length text ≤ text_limit
    → (length text < text_limit → IsUsedUp left) → take text_limit bytes ≡ text
read_front bytes text None took most used = absurd took
read_front bytes text (Some rest) took most used =
    elim (cases_lt (length text) text_limit) [
      | inl short ↦
          let whole : bytes ≡ text = took ∙ ap (λ (l : List ℕ). text ++ l) (used short) ∙ append-nil text in
          subst (λ (l : List ℕ). take text_limit l ≡ text) (sym whole) (take_all text_limit text most)
      | inr long ↦
          subst (λ (l : List ℕ). take text_limit l ≡ text) (sym took)
          (take-append-le text_limit text rest (omega (arith, long)) ∙ take_all text_limit text most)
    ]

-- the text of a told source is its bytes up to the limit
pub read_told : (bytes text : List ℕ) (old new : Option (List ℕ)) (before now : ℕ) → old ≡ Some bytes → ReadsText old new before now text → take text_limit bytes ≡ text
read_told bytes text old new before now told read =
    read_front bytes text new (subst (λ (o : Option (List ℕ)). Took o new text) told read.took) read.most read.all

-- ---- What the settings' fault makes of a command

pub stops : (before now : Seen) (fault : ConfigFault) → FailsToConfigure fault before.config now.config before.config_faults now.config_faults → TouchesConfigAlone before now
    → StopsAtConfig before now (status_of fault)
stops before now (config.BadConfig line) fails alone = (fails, alone)
stops before now config.ReadFault fails alone = (fails, alone)
stops before now config.NoMemory fails alone = (fails, alone)

-- ---- A text has one answer

-- a told text with settings has no bad line
pub settings_exact : (before now : Seen) (settings : Settings) (result : Status) → Configures before now settings → IsBadConfigExact before result
settings_exact before now settings result read bytes line told bad =
    let text = read_told bytes read.text before.config now.config before.config_faults now.config_faults told read.read in
    let wrong = one_answer read.text (Ok settings) (Err (fault.BadConfig line)) read.says (subst (λ (t : List ℕ). IsAnswer t (Err (fault.BadConfig line))) text bad)
    (λ is. cc is) (λ is. cc is) in
    absurd (cc wrong)

-- of a told text the least bad line is answered
pub stops_exact : (before now : Seen) (result : Status) → StopsAtConfig before now result → IsBadConfigExact before result
stops_exact before now (BadConfig n) stops bytes line told bad =
    let read = stops.0 in
    let text = read_told bytes read.text before.config now.config before.config_faults now.config_faults told read.read in
    let same = one_answer read.text (Err (fault.BadConfig n)) (Err (fault.BadConfig line)) read.bad (subst (λ (t : List ℕ). IsAnswer t (Err (fault.BadConfig line))) text bad)
    (λ is. cc is) (λ is. cc is) in
    inl (cc same)
stops_exact before now ReadFault stops bytes line told bad = inr (inl refl)
stops_exact before now NoMemory stops bytes line told bad = inr (inr refl)
stops_exact before now _ stops bytes line told bad = absurd stops

-- a told text with settings is answered with them, and no other
pub same_settings : (before now : Seen) (settings other : Settings) (bytes : List ℕ) → before.config ≡ Some bytes → AreSettingsOf (take text_limit bytes) other
    → Configures before now settings → settings ≡ other
same_settings before now settings other bytes told says read =
    let text = read_told bytes read.text before.config now.config before.config_faults now.config_faults told read.read in
    let same = one_answer read.text (Ok settings) (Ok other) read.says (subst (λ (t : List ℕ). IsAnswer t (Ok other)) text says)
    (λ is. cc is) (λ is. cc is) in
    cc same

-- a command whose told text has settings, and whose reads did not fail, stops for want of memory alone
pub stops_for_memory : (before now : Seen) (other : Settings) (result : Status) (bytes : List ℕ) → before.config ≡ Some bytes → AreSettingsOf (take text_limit bytes) other
    → ¬ Rose before.config_faults now.config_faults → StopsAtConfig before now result → result ≡ NoMemory
stops_for_memory before now other (BadConfig n) bytes told says none stops =
    let read = stops.0 in
    let text = read_told bytes read.text before.config now.config before.config_faults now.config_faults told read.read in
    let wrong = one_answer read.text (Err (fault.BadConfig n)) (Ok other) read.bad (subst (λ (t : List ℕ). IsAnswer t (Ok other)) text says)
    (λ is. cc is) (λ is. cc is) in
    absurd (cc wrong)
stops_for_memory before now other ReadFault bytes told says none stops = absurd (none (rose _ _ (stops.0).cause))
stops_for_memory before now other NoMemory bytes told says none stops = refl
stops_for_memory before now other _ bytes told says none stops = absurd stops

-- a command whose told text has settings stops for a read that failed, or for want of memory
pub stops_else : (before now : Seen) (other : Settings) (result : Status) (bytes : List ℕ) → before.config ≡ Some bytes → AreSettingsOf (take text_limit bytes) other
    → StopsAtConfig before now result → (result ≡ ReadFault) ⊎ (result ≡ NoMemory)
stops_else before now other (BadConfig n) bytes told says stops =
    let read = stops.0 in
    let text = read_told bytes read.text before.config now.config before.config_faults now.config_faults told read.read in
    let wrong = one_answer read.text (Err (fault.BadConfig n)) (Ok other) read.bad (subst (λ (t : List ℕ). IsAnswer t (Ok other)) text says)
    (λ is. cc is) (λ is. cc is) in
    absurd (cc wrong)
stops_else before now other ReadFault bytes told says stops = inl refl
stops_else before now other NoMemory bytes told says stops = inr refl
stops_else before now other _ bytes told says stops = absurd stops

-- a read that failed raised its count
pub stops_cause : (before now : Seen) (result : Status) → StopsAtConfig before now result → HasCause result before now
stops_cause before now (BadConfig line) stops = tt
stops_cause before now ReadFault stops = inl (rose _ _ (stops.0).cause)
stops_cause before now NoMemory stops = tt
stops_cause before now _ stops = absurd stops
