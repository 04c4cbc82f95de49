-- The events of a history in the order in which they came, and what they lead to.
use Rattle.std.proofs.Common.{◌≡◌, ℕ, List, [], ◌∷◌, ◌++◌, map, flat_map, reverse, refl, sym, ◌∙◌, ap, append_assoc}
use Rattle.std.proofs.lemmas.List.{append-nil, reverse-append}
use Rattle.std.proofs.lemmas.Grind.{reverse_onto}
use Rattle.capture_fmt.specs.declared.event.Event.{Event}
use Rattle.capture_fmt.specs.Record.{event_bytes}
use Rattle.time_machine.specs.declared.conf.Conf.{Conf}
use Rattle.time_machine.specs.declared.outcome.Outcome.{Outcome}
use Rattle.time_machine.specs.Entries.{gather}
use Rattle.time_machine.specs.Events.{History}
use Rattle.time_machine.specs.Machine.{told, moves_by, moves_of, outcome_at, posted_by, requests_of}
use Rattle.time_machine.specs.Report.{line_of, report_of}
use Rattle.run_deeds.specs.Weaving.{followed_by, ticks_by}
use Rattle.run_deeds.specs.Deeds.{Deed, Take, Ending, Whole, NoRecord, NoLine, along, all_done, captured, cut_record, events_given, events_in, history_after, line_in, missing_in, moves_in, posted_in, reasons_by, reasons_in, record_in, ticks_in}

-- events that came after a history stand before it, the last one first
pub followed-reverse : (history : History) (es : List Event) → followed_by history es ≡ reverse es ++ history
followed-reverse history [] = refl
followed-reverse history (e ∷ es) =
    followed-reverse (e ∷ history) es ∙ sym (append_assoc (reverse es) (e ∷ []) history) ∙ ap (λ (l : List Event). l ++ history) (sym (reverse_onto es e []))

pub followed_none : (es : List Event) → followed_by [] es ≡ reverse es
followed_none es = followed-reverse [] es ∙ append-nil (reverse es)

-- ---- Deeds that take events

pub history_of : (history : History) (es : List Event) → history_after history (map Take es) ≡ followed_by history es
history_of history [] = refl
history_of history (e ∷ es) = history_of (e ∷ history) es

pub events_of : (es : List Event) → flat_map events_in (map Take es) ≡ es
events_of [] = refl
events_of (e ∷ es) = ap (λ (l : List Event). e ∷ l) (events_of es)

pub records_of : (es : List Event) → flat_map record_in (map Take es) ≡ flat_map event_bytes es
records_of [] = refl
records_of (e ∷ es) = ap (λ (l : List ℕ). event_bytes e ++ l) (records_of es)

pub ticks_are : (es : List Event) → flat_map ticks_in (map Take es) ≡ flat_map ticks_by es
ticks_are [] = refl
ticks_are (e ∷ es) = ap (λ (l : List Event). ticks_by e ++ l) (ticks_are es)

-- what the events lead to, after what the history led to
pub gathers : {A : Type 0} (g : Outcome → List A) (f : History → Deed → List A) (conf : Conf)
    → ((history : History) (e : Event) → f history (Take e) ≡ g (outcome_at conf history e)) → (history : History) (es : List Event)
    → gather (λ t. g t.outcome) (told conf (followed_by history es)) ≡ gather (λ t. g t.outcome) (told conf history) ++ along f history (map Take es)
unfolding told outcome_at
gathers g f conf is history [] = sym (append-nil (gather (λ t. g t.outcome) (told conf history)))
gathers g f conf is history (e ∷ es) =
    let before = gather (λ t. g t.outcome) (told conf history) in
    let rest = along f (e ∷ history) (map Take es) in
    gathers g f conf is (e ∷ history) es ∙ append_assoc before (g (outcome_at conf history e)) rest
    ∙ ap (λ (l : List _). before ++ (l ++ rest)) (sym (is history e))

pub requests_are : (conf : Conf) (es : List Event) → requests_of conf (reverse es) ≡ along (posted_in conf) [] (map Take es)
unfolding requests_of told
requests_are conf es = rw (← followed_none es) (gathers posted_by (posted_in conf) conf (λ history e. refl) [] es)

pub moves_are : (conf : Conf) (es : List Event) → moves_of conf (reverse es) ≡ along (moves_in conf) [] (map Take es)
unfolding moves_of told
moves_are conf es = rw (← followed_none es) (gathers moves_by (moves_in conf) conf (λ history e. refl) [] es)

pub lines_are : (conf : Conf) (es : List Event) → report_of conf (reverse es) ≡ along (line_in conf) [] (map Take es)
unfolding report_of told
lines_are conf es = rw (← followed_none es) (gathers line_of (line_in conf) conf (λ history e. refl) [] es)

pub reasons_are : (conf : Conf) (es : List Event) → gather (λ t. reasons_by t.outcome) (told conf (reverse es)) ≡ along (reasons_in conf) [] (map Take es)
unfolding told
reasons_are conf es = rw (← followed_none es) (gathers reasons_by (reasons_in conf) conf (λ history e. refl) [] es)

-- ---- With what there is of one more deed

-- the events given are those taken, and the one whose record could not be written
pub given_are : (deeds : List Deed) (ending : Ending) (taken : List Event) → all_done deeds ending ≡ map Take taken
    → events_given deeds ending ≡ taken ++ missing_in ending
given_are deeds Whole taken is = ap (flat_map events_in) is ∙ events_of taken ∙ sym (append-nil taken)
given_are deeds (NoRecord event front) taken is =
    ap (λ (l : List Deed). flat_map events_in l ++ event ∷ []) is ∙ ap (λ (l : List Event). l ++ event ∷ []) (events_of taken)
given_are deeds (NoLine deed front) taken is = ap (flat_map events_in) is ∙ events_of taken ∙ sym (append-nil taken)

-- the capture is the records of the events taken, and a front of that record
pub captured_is : (deeds : List Deed) (ending : Ending) (taken : List Event) → all_done deeds ending ≡ map Take taken
    → captured deeds ending ≡ flat_map event_bytes taken ++ cut_record ending
captured_is deeds Whole taken is = ap (flat_map record_in) is ∙ records_of taken ∙ sym (append-nil (flat_map event_bytes taken))
captured_is deeds (NoRecord event front) taken is =
    ap (λ (l : List Deed). flat_map record_in l ++ cut_record (NoRecord event front)) is
    ∙ ap (λ (l : List ℕ). l ++ cut_record (NoRecord event front)) (records_of taken)
captured_is deeds (NoLine deed front) taken is = ap (flat_map record_in) is ∙ records_of taken ∙ sym (append-nil (flat_map event_bytes taken))

-- a list of deeds that take events ends in one
pub record EndsTaken (deeds : List Deed) (deed : Deed) (taken : List Event) : Type 0 where
  pub before : List Event
  pub event : Event
  pub is : taken ≡ before ++ event ∷ []
  pub deeds_are : deeds ≡ map Take before
  pub deed_is : deed ≡ Take event

pub ends_taken : (deeds : List Deed) (deed : Deed) (taken : List Event) → deeds ++ deed ∷ [] ≡ map Take taken → EndsTaken deeds deed taken
ends_taken [] deed [] is = absurd (let no : deed ∷ [] ≡ [] = is in let bad : ⊥ = cc in bad)
ends_taken [] deed (t ∷ []) is = record { before = []; event = t; is = refl; deeds_are = refl; deed_is = cc }
ends_taken [] deed (t ∷ u ∷ ts) is = absurd (let no : deed ∷ [] ≡ Take t ∷ Take u ∷ map Take ts = is in let bad : ⊥ = cc in bad)
ends_taken (d ∷ ds) deed [] is = absurd (let no : d ∷ (ds ++ deed ∷ []) ≡ [] = is in let bad : ⊥ = cc in bad)
ends_taken (d ∷ ds) deed (t ∷ ts) is =
    let same : d ∷ (ds ++ deed ∷ []) ≡ Take t ∷ map Take ts = is in
    let later : ds ++ deed ∷ [] ≡ map Take ts = cc in
    let first : d ≡ Take t = cc in
    let rest = ends_taken ds deed ts later in
    record {
      before = t ∷ rest.before;
      event = rest.event;
      is = ap (λ (l : List Event). t ∷ l) rest.is;
      deeds_are = cc (first, rest.deeds_are);
      deed_is = rest.deed_is;
    }

-- the last event stands first in the history
pub reverse_last : (before : List Event) (e : Event) → reverse (before ++ e ∷ []) ≡ e ∷ reverse before
reverse_last before e = reverse-append before (e ∷ [])
