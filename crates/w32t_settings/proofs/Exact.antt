-- One answer is true of a settings text.
use Rattle.std.proofs.Common.{◌≡◌, ◌≢◌, ◌≤◌, ◌⊎◌, ◌+◌, inl, inr, ℕ, List, ◌∷◌, ◌++◌, length, take, drop, Result, Ok, Err, refl, sym, ◌∙◌, ap, subst, arith, length-append, take_all}
use Rattle.std.specs.Prelude.{◌==◌, count_by}
use Rattle.std.proofs.lemmas.List.{length-take-le, take-append-drop, take-append-le}
use Rattle.std.proofs.lemmas.Bool.{cases_lt}
use Rattle.std.specs.Str.Lines.{lines}
use Rattle.text_grammar.specs.Lines.{IsFirstBad, Say, SpellsNothing, SaysAgain}
use Rattle.text_grammar.proofs.Forms.{IsRefused, Verdict, Judges, nothing_refused, again_refused, first_bad_as, bad_says_nothing, one_first_bad, good, bad_line, again, one_verdict}
use Rattle.text_grammar.proofs.Progress.{some_verdict}
use Rattle.w32t_settings.specs.declared.settings.Settings.{Settings}
use Rattle.w32t_settings.specs.declared.settings.SettingsFault.{SettingsFault}
use Rattle.w32t_settings.specs.declared.settings.SettingsFault.TheVariants.{BadConfig, NoMemory}
use Rattle.w32t_settings.specs.SettingText.{Item, settings_text}
use Rattle.w32t_settings.specs.Answer.{HasBadLine, IsBadLine, IsTooLong, IsAnswer}
use Rattle.w32t_settings.proofs.Counting.{last_line}
use Rattle.w32t_settings.proofs.Labels.{says_one}
use Rattle.w32t_settings.proofs.Amounts.{all_fit}
use Rattle.w32t_settings.proofs.Whole.{one_settings, settings_or_whole, whole_or_settings}

bad_refused : (earlier : List Item) (line : List ℕ) → IsBadLine earlier line → IsRefused settings_text earlier line
bad_refused earlier line (inl bad) = nothing_refused settings_text earlier line bad
bad_refused earlier line (inr bad) = again_refused settings_text says_one earlier line bad

-- the first bytes of a text that isn't longer are the text
whole_text : (text : List ℕ) → length text ≤ 16777217 → take 16777217 text ≡ text
whole_text text most = take_all 16777217 text most

-- the first bad line of a text that isn't longer
pub has_bad_line : (text : List ℕ) (n : ℕ) → length text ≤ 16777217 → IsFirstBad settings_text IsBadLine (lines text) n → HasBadLine text n
has_bad_line text n most bad = subst (λ (t : List ℕ). IsFirstBad settings_text IsBadLine (lines t) n) (sym (whole_text text most)) bad

-- a text with a bad line doesn't say anything
pub bad_or_said : (text : List ℕ) (n : ℕ) (items : List Item) → length text ≤ 16777217 → HasBadLine text n
    → Say settings_text (lines text) items → ⊥
bad_or_said text n items most bad said =
    let first = subst (λ (t : List ℕ). IsFirstBad settings_text IsBadLine (lines t) n) (whole_text text most) bad in
    bad_says_nothing settings_text says_one (lines text) n items (first_bad_as settings_text IsBadLine (IsRefused settings_text) (lines text) n bad_refused first) said

one_bad_line : (text : List ℕ) (n m : ℕ) → HasBadLine text n → HasBadLine text m → n ≡ m
one_bad_line text n m p q = (one_first_bad settings_text says_one IsBadLine IsBadLine bad_refused bad_refused (lines (take 16777217 text)) n m p q).number

one_said : (text : List ℕ) (xs ys : List Item) → Say settings_text (lines text) xs → Say settings_text (lines text) ys → xs ≡ ys
one_said text xs ys p q = let same = one_verdict settings_text says_one (lines text) (good xs) (good ys) p q in cc

-- a bad line is one of the lines that are looked at
bad_within : (text : List ℕ) (n : ℕ) → HasBadLine text n → n ≤ length (lines (take 16777217 text))
bad_within text n bad = omega (arith, bad.number, ap length bad.parts, length-append bad.before (bad.line ∷ bad.after))

-- fewer first bytes of the first bytes
take_less : (k : ℕ) (front back : List ℕ) → k ≤ length front → take k front ≡ take k (front ++ back)
take_less k front back within = sym (take-append-le k front back within)

-- the line of the byte behind the longest text is the last that is looked at
long_last : (text : List ℕ) (n : ℕ) → IsTooLong text n → n ≡ length (lines (take 16777217 text))
long_last text n long =
    let most : length (take 16777217 text) ≡ 16777217 = length-take-le 16777217 text (omega (arith, long.long)) in
    let less : take 16777216 (take 16777217 text) ≡ take 16777216 text =
    take_less 16777216 (take 16777217 text) (drop 16777217 text) (omega (arith, most)) ∙ ap (λ (l : List ℕ). take 16777216 l) (take-append-drop 16777217 text) in
    long.stands ∙ sym (last_line (take 16777217 text) 16777216 most ∙ ap (λ (l : List ℕ). count_by (λ byte. byte == 10) l + 1) less)

-- the bad line of a text that is too long as well
bad_and_long : (text : List ℕ) (n m : ℕ) → HasBadLine text n → IsTooLong text m → n ≡ m
bad_and_long text n m bad long =
    elim (cases_lt n m) [
      | inl earlier ↦ absurd (long.before n earlier bad)
      | inr later ↦ omega (arith, later, bad_within text n bad, long_last text m long)
    ]

fits_most : (text : List ℕ) → length text ≤ 16777216 → length text ≤ 16777217
fits_most text fits = omega (arith, fits)

-- one line is named
one_line : (text : List ℕ) (n m : ℕ) → IsAnswer text (Err (BadConfig n)) → IsAnswer text (Err (BadConfig m)) → n ≡ m
one_line text n m (inl p) (inl q) = one_bad_line text n m p q
one_line text n m (inl p) (inr (inl q)) = bad_and_long text n m p q
one_line text n m (inl p) (inr (inr q)) = absurd (bad_or_said text n q.items (fits_most text q.good.fits) p q.good.said)
one_line text n m (inr (inl p)) (inl q) = sym (bad_and_long text m n q p)
one_line text n m (inr (inl p)) (inr (inl q)) = p.stands ∙ sym q.stands
one_line text n m (inr (inl p)) (inr (inr q)) = absurd (omega (arith, p.long, q.good.fits))
one_line text n m (inr (inr p)) (inl q) = absurd (bad_or_said text m p.items (fits_most text p.good.fits) q p.good.said)
one_line text n m (inr (inr p)) (inr (inl q)) = absurd (omega (arith, q.long, p.good.fits))
one_line text n m (inr (inr p)) (inr (inr q)) = p.number ∙ sym q.number

-- settings and a bad line are not both there
line_or_settings : (text : List ℕ) (s : Settings) (n : ℕ) → IsAnswer text (Ok s) → IsAnswer text (Err (BadConfig n)) → ⊥
line_or_settings text s n p (inl q) = bad_or_said text n p.items (fits_most text p.good.fits) q p.good.said
line_or_settings text s n p (inr (inl q)) = omega (arith, q.long, p.good.fits)
line_or_settings text s n p (inr (inr q)) =
    let items = one_said text p.items q.items p.good.said q.good.said in
    whole_or_settings q.items s (rw items at p.are) q.whole

-- where two answers are true of a text, they are one, unless one of them is want of memory
pub exact_from : (text : List ℕ) (r answer : Result Settings SettingsFault)
    → IsAnswer text r → IsAnswer text answer → answer ≢ Err NoMemory → (r ≡ answer) ⊎ (r ≡ Err NoMemory)
exact_from text r (Err NoMemory) p q some = absurd (some refl)
exact_from text (Err NoMemory) answer p q some = inr refl
exact_from text (Ok a) (Ok b) p q some =
    let items = one_said text p.items q.items p.good.said q.good.said in
    inl (ap Ok (one_settings q.items a b (rw items at p.are) q.are))
exact_from text (Ok a) (Err (BadConfig m)) p q some = absurd (line_or_settings text a m p q)
exact_from text (Err (BadConfig n)) (Ok b) p q some = absurd (line_or_settings text b n q p)
exact_from text (Err (BadConfig n)) (Err (BadConfig m)) p q some = inl (ap (λ (k : ℕ). Err (BadConfig k)) (one_line text n m p q))

-- any two answers other than want of memory are one
pub one_answer : (text : List ℕ) (answer other : Result Settings SettingsFault) → IsAnswer text answer → IsAnswer text other
    → answer ≢ Err NoMemory → other ≢ Err NoMemory → answer ≡ other
one_answer text answer other p q some more = elim (exact_from text answer other p q more) [ inl same ↦ same | inr none ↦ absurd (some none) ]

-- no text is without an answer
pub some_answer : (text : List ℕ) → ((answer : Result Settings SettingsFault) → IsAnswer text answer → answer ≡ Err NoMemory) → ⊥
some_answer text none =
    elim (cases_lt 16777216 (length text)) [
      | inl long ↦ no_line _ (inr (inl record { long = long; stands = refl; before = λ m below bad. no_line m (inl bad) }))
      | inr rest ↦ some_verdict settings_text (lines text) (judged (omega (arith, rest)))
    ]
  where
    no_line : (n : ℕ) → IsAnswer text (Err (BadConfig n)) → ⊥
    no_line n is = absurd (let no = none (Err (BadConfig n)) is in cc)

    judged : length text ≤ 16777216 → (v : Verdict Item) → Judges settings_text (lines text) v → ⊥
    judged fits (good items) said =
        elim (settings_or_whole items (all_fit items _ said.spelled)) [
          | inl settings ↦ absurd (let no = none (Ok settings.0) record { items = items; good = record { fits = fits; said = said }; are = settings.1 } in cc)
          | inr whole ↦ no_line _ (inr (inr record { items = items; good = record { fits = fits; said = said }; whole = whole; number = refl }))
        ]
    judged fits (bad_line n) bad =
        no_line n (inl (has_bad_line text n (fits_most text fits) (first_bad_as settings_text (SpellsNothing settings_text) IsBadLine (lines text) n (λ earlier line is. inl is) bad)))
    judged fits (again n) bad =
        no_line n (inl (has_bad_line text n (fits_most text fits) (first_bad_as settings_text (SaysAgain settings_text) IsBadLine (lines text) n (λ earlier line is. inr is) bad)))
