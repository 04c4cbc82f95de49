-- Deeds, one after the other.
use Rattle.std.proofs.Common.{◌≡◌, ℕ, List, [], ◌∷◌, ◌++◌, flat_map, refl, sym, ◌∙◌, ap, append_assoc, take}
use Rattle.std.specs.List.{AllByRecursion}
use Rattle.std.proofs.lemmas.Grind.{flat_map-append}
use Rattle.capture_fmt.specs.declared.event.Event.{Event}
use Rattle.capture_fmt.specs.Record.{event_bytes}
use Rattle.time_machine.specs.declared.conf.Conf.{Conf}
use Rattle.time_machine.specs.Events.{History}
use Rattle.run_deeds.specs.Weaving.{followed_by}
use Rattle.run_deeds.specs.Deeds.{Deed, Take, Print, Ending, Whole, NoRecord, NoLine, HasLine, along, all_done, captured, events_given, events_in, goes_on, history_after, line_in, printed, record_in}

pub history_after-append : (history : History) (ds es : List Deed) → history_after history (ds ++ es) ≡ history_after (history_after history ds) es
history_after-append history [] es = refl
history_after-append history (d ∷ ds) es = history_after-append (goes_on history d) ds es

pub along-append : {A : Type 0} (f : History → Deed → List A) (history : History) (ds es : List Deed)
    → along f history (ds ++ es) ≡ along f history ds ++ along f (history_after history ds) es
along-append f history [] es = refl
along-append f history (d ∷ ds) es =
    ap (λ (l : List _). f history d ++ l) (along-append f (goes_on history d) ds es)
    ∙ sym (append_assoc (f history d) (along f (goes_on history d) ds) (along f (history_after (goes_on history d) ds) es))

-- ---- The last deed

pub all_done-append : (ds es : List Deed) (ending : Ending) → all_done (ds ++ es) ending ≡ ds ++ all_done es ending
all_done-append ds es Whole = refl
all_done-append ds es (NoRecord event front) = refl
all_done-append ds es (NoLine deed front) = append_assoc ds es (deed ∷ [])

pub events_given-append : (ds es : List Deed) (ending : Ending) → events_given (ds ++ es) ending ≡ events_given ds Whole ++ events_given es ending
events_given-append ds es Whole = flat_map-append events_in ds es
events_given-append ds es (NoRecord event front) =
    ap (λ (l : List Event). l ++ event ∷ []) (flat_map-append events_in ds es) ∙ append_assoc (flat_map events_in ds) (flat_map events_in es) (event ∷ [])
events_given-append ds es (NoLine deed front) =
    ap (flat_map events_in) (append_assoc ds es (deed ∷ [])) ∙ flat_map-append events_in ds (es ++ deed ∷ [])

pub captured-append : (ds es : List Deed) (ending : Ending) → captured (ds ++ es) ending ≡ captured ds Whole ++ captured es ending
captured-append ds es Whole = flat_map-append record_in ds es
captured-append ds es (NoRecord event front) =
    ap (λ (l : List ℕ). l ++ take front (event_bytes event)) (flat_map-append record_in ds es)
    ∙ append_assoc (flat_map record_in ds) (flat_map record_in es) (take front (event_bytes event))
captured-append ds es (NoLine deed front) =
    ap (flat_map record_in) (append_assoc ds es (deed ∷ [])) ∙ flat_map-append record_in ds (es ++ deed ∷ [])

pub printed-append : (conf : Conf) (history : History) (ds es : List Deed) (ending : Ending)
    → printed conf history (ds ++ es) ending ≡ printed conf history ds Whole ++ printed conf (history_after history ds) es ending
printed-append conf history ds es Whole = along-append (line_in conf) history ds es
printed-append conf history ds es (NoRecord event front) = along-append (line_in conf) history ds es
printed-append conf history ds es (NoLine deed front) =
    rw (history_after-append, along-append) (append_assoc (along (line_in conf) history ds) (along (line_in conf) (history_after history ds) es) _)

pub has_line-append : (conf : Conf) (history : History) (ds es : List Deed) (ending : Ending) → HasLine conf (history_after history ds) es ending → HasLine conf history (ds ++ es) ending
has_line-append conf history ds es Whole has = tt
has_line-append conf history ds es (NoRecord event front) has = tt
has_line-append conf history ds es (NoLine (Take event) front) has = rw history_after-append has
has_line-append conf history ds es (NoLine (Print line) front) has = tt

-- ---- The history

pub follows : (history : History) (ds : List Deed) → history_after history ds ≡ followed_by history (flat_map events_in ds)
follows history [] = refl
follows history (Take event ∷ ds) = follows (event ∷ history) ds
follows history (Print line ∷ ds) = follows history ds

pub all-append : {A : Type 0} (P : A → Type 0) (xs ys : List A) → AllByRecursion P xs → AllByRecursion P ys → AllByRecursion P (xs ++ ys)
all-append P [] ys first next = next
all-append P (x ∷ xs) ys first next = (first.0, all-append P xs ys first.1 next)
