-- Histories and their records, joined, and the first fault behind them.
use Rattle.std.proofs.Common.{◌≡◌, ℕ, ◌+◌, ◌<◌, ◌≤◌, List, [], ◌∷◌, ◌++◌, length, refl, sym, ◌∙◌, ap, ◌⊎◌, inl, inr, subst, arith, add-zero, zero-add, append_assoc, length-append}
use Rattle.std.specs.List.{AllByRecursion, flat_map}
use Rattle.capture_fmt.specs.declared.event.Event.{Event}
use Rattle.capture_fmt.specs.declared.fault.CaptureFault.{CaptureFault}
use Rattle.capture_fmt.specs.declared.fault.CaptureFault.TheVariants as fault
use Rattle.capture_fmt.specs.declared.fault.Flaw.{Flaw}
use Rattle.capture_fmt.specs.declared.fault.Flaw.TheVariants.{BadKind, BadReading, BadLength, Torn}
use Rattle.capture_fmt.specs.Event.{EventFits}
use Rattle.capture_fmt.specs.Record.{event_bytes}
use Rattle.capture_fmt.specs.Capture.{SpellsEvents, BeginBelow, IsFlawed, IsFault, FaultAt, fault_of, place_limit}
use Rattle.capture_fmt.proofs.OneRecord.{no_flaw_of_event, one_record, event_begins}

-- the records of a history, joined
abbrev text : List Event → List ℕ
text events = flat_map event_bytes events

-- no record is empty
pub no_event : (e : Event) (rest : List ℕ) → [] ≡ event_bytes e ++ rest → ⊥
no_event e rest same = absurd (omega (arith, ap length same, event_begins e, length-append (event_bytes e) rest))

same_histories : (H K : List Event) → AllByRecursion EventFits H → AllByRecursion EventFits K → text H ≡ text K → H ≡ K
same_histories [] [] fits also same = refl
same_histories [] (k ∷ K) fits also same = absurd (no_event k (text K) same)
same_histories (h ∷ H) [] fits also same = absurd (no_event h (text H) (sym same))
same_histories (h ∷ H) (k ∷ K) fits also same =
    let one = one_record h k (text H) (text K) fits.0 also.0 same in
    let rest = same_histories H K fits.1 also.1 one.1 in
    λ i. one.0 i ∷ rest i

pub one_history : (bytes : List ℕ) (H K : List Event) → SpellsEvents H bytes → SpellsEvents K bytes → H ≡ K
one_history bytes H K first next = same_histories H K first.fits next.fits (sym first.written ∙ next.written)

all_joined : (H K : List Event) → AllByRecursion EventFits H → AllByRecursion EventFits K → AllByRecursion EventFits (H ++ K)
all_joined [] K fits also = also
all_joined (h ∷ H) K fits also = (fits.0, all_joined H K fits.1 also)

text_joined : (H K : List Event) → text H ++ text K ≡ text (H ++ K)
text_joined [] K = refl
text_joined (h ∷ H) K = append_assoc (event_bytes h) (text H) (text K) ∙ ap (λ (l : List ℕ). event_bytes h ++ l) (text_joined H K)

pub joined_histories : (H K : List Event) (b c : List ℕ) → SpellsEvents H b → SpellsEvents K c → SpellsEvents (H ++ K) (b ++ c)
joined_histories H K b c first next = record {
  fits = all_joined H K first.fits next.fits;
  written = ap (λ (l : List ℕ). l ++ c) first.written ∙ ap (λ (l : List ℕ). text H ++ l) next.written ∙ text_joined H K;
}

-- one record more, which begins below the limit
pub begin_more : (place : ℕ) (H : List Event) (e : Event) → BeginBelow place H → place + length (text H) < place_limit → BeginBelow place (H ++ e ∷ [])
begin_more place [] e below here = (omega (arith, here), tt)
begin_more place (h ∷ H) e below here =
    (below.0, begin_more (place + length (event_bytes h)) H e below.1 (omega (arith, here, length-append (event_bytes h) (text H))))

-- a fault is a flaw below the limit, or there is no flaw to look for
fault_cases :
    (place : ℕ) (bytes : List ℕ) (wrong : CaptureFault) → IsFault place bytes wrong
    → ((place_limit ≤ place) × (wrong ≡ fault.TooLong place)) ⊎ ((flaw : Flaw) × IsFlawed place bytes place flaw × (wrong ≡ fault_of flaw place))
fault_cases place bytes (fault.BadKind at) is = inr (BadKind, record { there = refl; below = is.below; begun = is.begun; flaw = is.flaw }, ap fault.BadKind is.there)
fault_cases place bytes (fault.BadReading at) is = inr (BadReading, record { there = refl; below = is.below; begun = is.begun; flaw = is.flaw }, ap fault.BadReading is.there)
fault_cases place bytes (fault.BadLength at) is = inr (BadLength, record { there = refl; below = is.below; begun = is.begun; flaw = is.flaw }, ap fault.BadLength is.there)
fault_cases place bytes (fault.Torn at) is = inr (Torn, record { there = refl; below = is.below; begun = is.begun; flaw = is.flaw }, ap fault.Torn is.there)
fault_cases place bytes (fault.TooLong at) is = inl (is.1, ap fault.TooLong is.0)
fault_cases place bytes fault.ReadFault is = absurd is

pub same_fault : (place : ℕ) (bytes : List ℕ) (f g : CaptureFault) → IsFault place bytes f → IsFault place bytes g → f ≡ g
same_fault place bytes f g first next =
    elim (fault_cases place bytes f first) [
      | inl a ↦ elim (fault_cases place bytes g next) [
        | inl b ↦ a.1 ∙ sym b.1
        | inr b ↦ absurd (omega (arith, a.0, b.1.below))
      ]
      | inr a ↦ elim (fault_cases place bytes g next) [
        | inl b ↦ absurd (omega (arith, b.0, a.1.below))
        | inr b ↦ let same : a.0 ≡ b.0 = cc (a.1.flaw, b.1.flaw) in a.2 ∙ ap (λ (w : Flaw). fault_of w place) same ∙ sym b.2
      ]
    ]

-- a record below the limit has no fault
pub no_fault_of_event : (place : ℕ) (e : Event) (rest : List ℕ) (wrong : CaptureFault) → EventFits e → place < place_limit → IsFault place (event_bytes e ++ rest) wrong → ⊥
no_fault_of_event place e rest wrong fits below is =
    elim (fault_cases place (event_bytes e ++ rest) wrong is) [
      | inl a ↦ absurd (omega (arith, a.0, below))
      | inr a ↦ cc (a.1.flaw, no_flaw_of_event e rest fits)
    ]

-- there is none at an end below the limit
pub no_fault_of_end : (place : ℕ) (wrong : CaptureFault) → place < place_limit → IsFault place [] wrong → ⊥
no_fault_of_end place wrong below is =
    elim (fault_cases place [] wrong is) [
      | inl a ↦ absurd (omega (arith, a.0, below))
      | inr a ↦ let begun : 0 < 0 = a.1.begun in absurd (omega (arith, begun))
    ]

-- the place behind a record and those that follow it
place_behind : (place : ℕ) (e : Event) (H : List Event) → place + length (text (e ∷ H)) ≡ (place + length (event_bytes e)) + length (text H)
place_behind place e H = omega (arith, length-append (event_bytes e) (text H))

-- the same fault of the same bytes at the same place
pub same_place : (p q : ℕ) (x y : List ℕ) (f : CaptureFault) → p ≡ q → x ≡ y → IsFault p x f → IsFault q y f
same_place p q x y f place bytes is =
    subst (λ (n : ℕ). IsFault n y f) place (subst (λ (l : List ℕ). IsFault p l f) bytes is)

one_fault_from :
    (place : ℕ) (H K : List Event) (x y : List ℕ) (f g : CaptureFault)
    → AllByRecursion EventFits H → AllByRecursion EventFits K → BeginBelow place H → BeginBelow place K
    → IsFault (place + length (text H)) x f → IsFault (place + length (text K)) y g → text H ++ x ≡ text K ++ y → f ≡ g
one_fault_from place [] [] x y f g fits also below lower first next same =
    same_fault (place + 0) y f g (same_place (place + 0) (place + 0) x y f refl same first) next
one_fault_from place [] (k ∷ K) x y f g fits also below lower first next same =
    absurd (no_fault_of_event place k (text K ++ y) f also.0 lower.0
    (same_place (place + 0) place x (event_bytes k ++ (text K ++ y)) f (add-zero place) (same ∙ append_assoc (event_bytes k) (text K) y) first))
one_fault_from place (h ∷ H) [] x y f g fits also below lower first next same =
    absurd (no_fault_of_event place h (text H ++ x) g fits.0 below.0
    (same_place (place + 0) place y (event_bytes h ++ (text H ++ x)) g (add-zero place) (sym same ∙ append_assoc (event_bytes h) (text H) x) next))
one_fault_from place (h ∷ H) (k ∷ K) x y f g fits also below lower first next same =
    let one = one_record h k (text H ++ x) (text K ++ y) fits.0 also.0 (sym (append_assoc (event_bytes h) (text H) x) ∙ same ∙ append_assoc (event_bytes k) (text K) y) in
    let there = place_behind place k K ∙ ap (λ (e : Event). (place + length (event_bytes e)) + length (text K)) (sym one.0) in
    one_fault_from (place + length (event_bytes h)) H K x y f g fits.1 also.1 below.1
    (subst (λ (e : Event). BeginBelow (place + length (event_bytes e)) K) (sym one.0) lower.1)
    (same_place _ _ x x f (place_behind place h H) refl first) (same_place _ _ y y g there refl next) one.1

-- the first fault is one
pub one_fault : (bytes : List ℕ) (f g : CaptureFault) → FaultAt bytes f → FaultAt bytes g → f ≡ g
one_fault bytes f g first next =
    one_fault_from 0 first.events next.events first.rest next.rest f g first.before.fits next.before.fits first.below next.below
    (same_place _ _ first.rest first.rest f (ap length first.before.written ∙ sym (zero-add (length (text first.events)))) refl first.here)
    (same_place _ _ next.rest next.rest g (ap length next.before.written ∙ sym (zero-add (length (text next.events)))) refl next.here)
    (ap (λ (l : List ℕ). l ++ first.rest) (sym first.before.written) ∙ sym first.cut ∙ next.cut ∙ ap (λ (l : List ℕ). l ++ next.rest) next.before.written)

no_fault_from :
    (place : ℕ) (H K : List Event) (x : List ℕ) (f : CaptureFault)
    → AllByRecursion EventFits H → AllByRecursion EventFits K → BeginBelow place K
    → place + length (text H) < place_limit → IsFault (place + length (text K)) x f → text H ≡ text K ++ x → ⊥
no_fault_from place [] [] x f fits also below short is same =
    no_fault_of_end place f (omega (arith, short)) (same_place (place + 0) place x [] f (add-zero place) (sym same) is)
no_fault_from place (h ∷ H) [] x f fits also below short is same =
    no_fault_of_event place h (text H) f fits.0 (omega (arith, short))
    (same_place (place + 0) place x (text (h ∷ H)) f (add-zero place) (sym same) is)
no_fault_from place [] (k ∷ K) x f fits also below short is same =
    no_event k (text K ++ x) (same ∙ append_assoc (event_bytes k) (text K) x)
no_fault_from place (h ∷ H) (k ∷ K) x f fits also below short is same =
    let one = one_record h k (text H) (text K ++ x) fits.0 also.0 (same ∙ append_assoc (event_bytes k) (text K) x) in
    let there = place_behind place k K ∙ ap (λ (e : Event). (place + length (event_bytes e)) + length (text K)) (sym one.0) in
    no_fault_from (place + length (event_bytes h)) H K x f fits.1 also.1
    (subst (λ (e : Event). BeginBelow (place + length (event_bytes e)) K) (sym one.0) below.1)
    (omega (arith, short, place_behind place h H)) (same_place _ _ x x f there refl is) one.1

-- bytes that spell a history and end below the limit have no fault
pub no_fault : (bytes : List ℕ) (H : List Event) (f : CaptureFault) → SpellsEvents H bytes → length bytes < place_limit → FaultAt bytes f → ⊥
no_fault bytes H f spells short is =
    no_fault_from 0 H is.events is.rest f spells.fits is.before.fits is.below
    (omega (arith, short, ap length spells.written))
    (same_place _ _ is.rest is.rest f (ap length is.before.written ∙ sym (zero-add (length (text is.events)))) refl is.here)
    (sym spells.written ∙ is.cut ∙ ap (λ (l : List ℕ). l ++ is.rest) is.before.written)
