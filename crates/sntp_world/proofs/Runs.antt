-- A run of operations, one after the other, and what a whole run writes.
use Rattle.std.proofs.Common.{◌≡◌, ℕ, suc, ◌+◌, ◌<◌, ◌≤◌, List, [], ◌∷◌, ◌++◌, length, take, drop, refl, sym, ap, ◌∙◌, subst, arith, append_assoc, append-nil, get_or, inl, inr, ℤ}
use Rattle.std.specs.Prelude.{None, Some, ◌⊎◌, reverse, slice_get}
use Rattle.std.specs.List.{AllByRecursion, flat_map}
use Rattle.std.proofs.lemmas.List.{reverse-append, take-append-drop}
use Rattle.std.proofs.Math.Seq.{drop-cons}
use Rattle.std.proofs.lemmas.Option.{get_or_from_slice_get, slice_get_cases}
use Rattle.capture_fmt.specs.declared.event.Event.{Event}
use Rattle.capture_fmt.specs.Record.{event_bytes}
use Rattle.time_machine.specs.Events.{History}
use Rattle.sntp_world.specs.declared.due.Due.{Due}
use Rattle.sntp_world.specs.declared.due.Due.TheVariants as due
use Rattle.sntp_world.specs.declared.op.Op.{Op}
use Rattle.sntp_world.specs.declared.op.Effect.{Effect}
use Rattle.sntp_world.specs.Due.{IsDue}
use Rattle.sntp_world.specs.Running.{IsFrontOfAll, OpFits, record_due, records_of}
use Rattle.sntp_world.specs.State.{State}
use Rattle.sntp_world.specs.Steps.{Asks, Leads, MayPass, Passes, Skips, WorldAfter}
use Rattle.sntp_world.proofs.Cases.{TakesNow, led, lives_always}
use Rattle.sntp_world.proofs.Histories.{Lives, history_after}
use Rattle.sntp_world.proofs.Recording.{records_done, records_more}
use Rattle.sntp_world.proofs.Fitting.{all_reversed}
use Rattle.sntp_world.proofs.States.{leads_on, taken_on}

-- one state's history goes on from another's
pub record Extends (w now : State) : Type 0 where
  pub more : History
  pub is : now.history ≡ more ++ w.history

extends_same : (w now : State) → now.history ≡ w.history → Extends w now
extends_same w now is = record { more = []; is = is }

extends_more : (a b c : State) → Extends a b → Extends b c → Extends a c
extends_more a b c first next = record {
  more = next.more ++ first.more;
  is = next.is ∙ ap (λ (h : History). next.more ++ h) first.is ∙ sym (append_assoc next.more first.more a.history);
}

extends_led : (op : Op) (w : State) (effect : Effect) (now : State) → Lives w → Leads op w effect now → Extends w now
extends_led op w effect now lives is =
    led (Extends w) op w effect now (record {
      skips = λ (effect : Effect) (now : State) (is : Skips w effect now). extends_same w now (ap (λ (s : State). s.history) is.1);
      passes = λ (d : ℕ) (e f : ℤ) (effect : Effect) (now : State) (may : MayPass d e f w.now) (is : Passes d e f w effect now).
          extends_same w now (ap (λ (s : State). s.history) is.1);
      asks = λ (bytes : List ℕ) (effect : Effect) (now : State) (is : Asks bytes w effect now).
          extends_same w now (ap (λ (s : State). s.history) is.now_is);
      takes = λ (effect : Effect) (now : State) (is : TakesNow w effect now).
          record { more = is.event ∷ []; is = history_after w is.event _ now is.takes.1 };
    }) lives is

-- the operations that are left lead on from each world
record GoesOn (rest ops : List Op) (w : State) : Type 0 where
  last : State
  after : WorldAfter (reverse rest ++ ops) last
  extends : Extends w last

reverse_onto : (op : Op) (rest ops : List Op) → reverse rest ++ (op ∷ ops) ≡ reverse (op ∷ rest) ++ ops
reverse_onto op rest ops = sym (append_assoc (reverse rest) (op ∷ []) ops) ∙ ap (λ (l : List Op). l ++ ops) (sym (reverse-append (op ∷ []) rest))

goes_on : (rest ops : List Op) (w : State) → AllByRecursion OpFits ops → AllByRecursion OpFits rest → WorldAfter ops w → GoesOn rest ops w
goes_on [] ops w fit fits after = record { last = w; after = after; extends = extends_same w w refl }
goes_on (op ∷ rest) ops w fit fits after =
    let on = leads_on ops w op fit fits.0 after in
    let far = goes_on rest (op ∷ ops) on.1 (fits.0, fit) fits.1 (w, on.0, after, on.2) in
    record {
      last = far.last;
      after = subst (λ (l : List Op). WorldAfter l far.last) (reverse_onto op rest ops) far.after;
      extends = extends_more w on.1 far.last (extends_led op w on.0 on.1 (lives_always ops w after) on.2) far.extends;
    }

-- the records so far are a front of all
pub front_so_far : (done rest : List Op) (w : State) → AllByRecursion OpFits (reverse done) → AllByRecursion OpFits rest → WorldAfter (reverse done) w
    → IsFrontOfAll (done ++ rest) (records_of w.history)
front_so_far done rest w fit fits after =
    let far = goes_on rest (reverse done) w fit fits after in
    record {
      state = far.last;
      after = subst (λ (l : List Op). WorldAfter l far.last) (sym (reverse-append done rest)) far.after;
      rest = flat_map event_bytes (reverse far.extends.more);
      cut = ap records_of far.extends.is ∙ records_more far.extends.more w.history;
    }

-- where no event is due, no record is
front_with_none : (done rest : List Op) (op : Op) (w : State) → AllByRecursion OpFits (reverse done) → OpFits op → AllByRecursion OpFits rest
    → WorldAfter (reverse done) w → IsFrontOfAll (done ++ op ∷ rest) (records_of w.history ++ [])
front_with_none done rest op w fit fits_op fits after =
    subst (IsFrontOfAll (done ++ op ∷ rest)) (sym (append-nil (records_of w.history))) (front_so_far done (op ∷ rest) w fit (fits_op, fits) after)

-- the event that is due is taken first
front_with_event : (done rest : List Op) (op : Op) (e : Event) (w : State) → AllByRecursion OpFits (reverse done) → OpFits op → AllByRecursion OpFits rest
    → WorldAfter (reverse done) w → IsDue op (due.Take e) w → IsFrontOfAll (done ++ op ∷ rest) (records_of w.history ++ event_bytes e)
front_with_event done rest op e w fit fits_op fits after is =
    let did = taken_on (reverse done) w e fit after is.may.1 in
    let same : op ∷ reverse done ≡ reverse (done ++ op ∷ []) = sym (reverse-append done (op ∷ [])) in
    let next : WorldAfter (op ∷ reverse done) did.1 = (w, did.0, after, is.carries_out did.0 did.1 did.2) in
    let all = front_so_far (done ++ op ∷ []) rest did.1
    (subst (AllByRecursion OpFits) same (fits_op, fit)) fits
    (subst (λ (l : List Op). WorldAfter l did.1) same next) in
    subst (λ (l : List Op). IsFrontOfAll l (records_of w.history ++ event_bytes e)) (append_assoc done (op ∷ []) rest)
    (subst (IsFrontOfAll ((done ++ op ∷ []) ++ rest)) (records_done (due.Take e) w did.0 did.1 did.2) all)

-- with the record of the event that is due, where one is, they are a front too
pub front_with_due : (done rest : List Op) (op : Op) (d : Due) (w : State) → AllByRecursion OpFits (reverse done) → OpFits op → AllByRecursion OpFits rest
    → WorldAfter (reverse done) w → IsDue op d w → IsFrontOfAll (done ++ op ∷ rest) (records_of w.history ++ record_due d)
front_with_due done rest op (due.Take e) w fit fits_op fits after is = front_with_event done rest op e w fit fits_op fits after is
front_with_due done rest op due.Nothing w fit fits_op fits after is = front_with_none done rest op w fit fits_op fits after
front_with_due done rest op (due.Time at) w fit fits_op fits after is = front_with_none done rest op w fit fits_op fits after
front_with_due done rest op (due.Answer bytes) w fit fits_op fits after is = front_with_none done rest op w fit fits_op fits after

-- a front of a part behind a front is one
pub front_of_part : (ops : List Op) (a b : List ℕ) (n : ℕ) → IsFrontOfAll ops (a ++ b) → IsFrontOfAll ops (a ++ take n b)
front_of_part ops a b n all = record {
  state = all.state;
  after = all.after;
  rest = drop n b ++ all.rest;
  cut = all.cut
      ∙ ap (λ (l : List ℕ). a ++ l ++ all.rest) (sym (take-append-drop n b))
      ∙ ap (λ (l : List ℕ). l ++ all.rest) (sym (append_assoc a (take n b) (drop n b)))
      ∙ append_assoc (a ++ take n b) (drop n b) all.rest;
}

-- ---- What holds of each of some operations

-- a place that has an operation is below the length
below_of : (ops : List Op) (i : ℕ) (op : Op) → slice_get ops i ≡ Some op
    → (((x : Op) × (i < length ops) × (slice_get ops i ≡ Some x) × (get_or ops i x ≡ x)) ⊎ ((length ops ≤ i) × (slice_get ops i ≡ None))) → i < length ops
below_of ops i op at (inl is) = is.1
below_of ops i op at (inr is) = let none = is.1 in cc

pub slice_get_below : (ops : List Op) (i : ℕ) (op : Op) → slice_get ops i ≡ Some op → i < length ops
slice_get_below ops i op at = below_of ops i op at (slice_get_cases ops i).1

all_parts : (P : Op → Type 0) (xs ys : List Op) → AllByRecursion P (xs ++ ys) → AllByRecursion P xs × AllByRecursion P ys
all_parts P [] ys all = (tt, all)
all_parts P (x ∷ xs) ys all = let rest = all_parts P xs ys all.1 in ((all.0, rest.0), rest.1)

-- the operations before a place, that at it, and those behind it
pub record FitAround (ops : List Op) (i : ℕ) (op : Op) : Type 0 where
  pub before : AllByRecursion OpFits (reverse (take i ops))
  pub here : OpFits op
  pub behind : AllByRecursion OpFits (drop (i + 1) ops)
  pub whole : take i ops ++ op ∷ drop (i + 1) ops ≡ ops

pub cut_at : (ops : List Op) (i : ℕ) (op : Op) → slice_get ops i ≡ Some op → take i ops ++ op ∷ drop (i + 1) ops ≡ ops
cut_at ops i op at =
    let here : op ≡ get_or ops i op = sym (get_or_from_slice_get ops i op op at) in
    let e : i + 1 ≡ suc i = omega arith in
    let split : drop i ops ≡ get_or ops i op ∷ drop (suc i) ops = drop-cons ops i op (slice_get_below ops i op at) in
    let same : op ∷ drop (i + 1) ops ≡ drop i ops = ap (λ (k : ℕ). op ∷ drop k ops) e ∙ ap (λ (x : Op). x ∷ drop (suc i) ops) here ∙ sym split in
    ap (λ (l : List Op). take i ops ++ l) same ∙ take-append-drop i ops

pub fit_around : (ops : List Op) (i : ℕ) (op : Op) → AllByRecursion OpFits ops → slice_get ops i ≡ Some op → FitAround ops i op
fit_around ops i op fits at =
    let cut = cut_at ops i op at in
    let parts = all_parts OpFits (take i ops) (op ∷ drop (i + 1) ops) (subst (AllByRecursion OpFits) (sym cut) fits) in
    record { before = all_reversed OpFits (take i ops) parts.0; here = parts.1.0; behind = parts.1.1; whole = cut }
