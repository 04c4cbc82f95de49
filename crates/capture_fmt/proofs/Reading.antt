-- What a call of a reader does, from what was gathered.
use Rattle.std.proofs.Common.{◌≡◌, ℕ, ◌+◌, ◌<◌, Bool, false, List, [], ◌∷◌, ◌++◌, length, Option, Some, None, refl, sym, ◌∙◌, ap, subst, arith, length-append}
use Rattle.std.proofs.lemmas.List.{nil_from_length}
use Rattle.base_specs.specs.Told.{Took, IsUsedUp}
use Rattle.capture_fmt.specs.declared.fault.CaptureFault.{CaptureFault}
use Rattle.capture_fmt.specs.declared.fault.Flaw.{Flaw}
use Rattle.capture_fmt.specs.declared.fault.Flaw.TheVariants.{BadKind, BadReading, BadLength, Torn}
use Rattle.capture_fmt.specs.declared.gather.Gathered.TheVariants as gathered
use Rattle.capture_fmt.specs.Record.{record_flaw}
use Rattle.capture_fmt.specs.Capture.{IsFlawed, fault_of, place_limit}
use Rattle.capture_fmt.specs.Gather.{Gains, Sees}
use Rattle.capture_fmt.specs.Reader.{Reader, EndsBetween, Shows, Stops}
use Rattle.capture_fmt.proofs.Growing.{flaw_stays}

-- where nothing was taken, the source has what it had
took_nothing : (left now : Option (List ℕ)) (taken : List ℕ) → taken ≡ [] → Took left now taken → now ≡ left
took_nothing None None taken none took = refl
took_nothing None (Some now) taken none took = absurd took
took_nothing (Some left) None taken none took = absurd took
took_nothing (Some left) (Some now) taken none took = ap Some (sym (took ∙ ap (λ (l : List ℕ). l ++ now) none))

-- nothing was held and nothing is left
pub ends_between :
    (alive : Bool) (place : ℕ) (before after : List ℕ) (left now : Option (List ℕ)) (old : Reader)
    → place < place_limit → record { alive = alive; place = place; held = before } ≡ old → Gains before after left now → Sees gathered.End after now
    → EndsBetween old (record { alive = alive; place = place; held = after }) left now
ends_between alive place before after left now old below view gains sees =
    let total : length after ≡ length before + length gains.taken = ap length gains.held ∙ length-append before gains.taken in
    let empty : length after ≡ 0 = ap length sees.1 in
    let nothing_held : before ≡ [] = nil_from_length before (omega (arith, total, empty)) in
    let nothing_taken : gains.taken ≡ [] = nil_from_length gains.taken (omega (arith, total, empty)) in
    let same = took_nothing left now gains.taken nothing_taken gains.took in
    record {
      below = subst (λ (r : Reader). r.place < place_limit) view below;
      held = ap (λ (r : Reader). r.held) (sym view) ∙ nothing_held;
      ended = subst (λ (l : Option (List ℕ)). IsUsedUp l) same sees.0;
      same = same;
      reader = ap (λ (l : List ℕ). record { alive = alive; place = place; held = l }) (sees.1 ∙ sym nothing_held) ∙ view;
    }

-- a record with a flaw other than a cut has begun
begun : (held : List ℕ) (flaw : Flaw) → (flaw ≡ Torn → ⊥) → record_flaw held ≡ Some flaw → 0 < length held
unfolding record_flaw
begun [] flaw not_torn is = absurd (not_torn cc)
begun (kind ∷ held) flaw not_torn is = omega arith

flawed : (place : ℕ) (held more : List ℕ) (flaw : Flaw) → place < place_limit → (flaw ≡ Torn → ⊥) → record_flaw held ≡ Some flaw → IsFlawed place (held ++ more) place flaw
flawed place held more flaw below not_torn is = record {
  there = refl;
  below = below;
  begun = omega (arith, begun held flaw not_torn is, length-append held more);
  flaw = flaw_stays held more flaw not_torn is;
}

-- a flaw that is seen shows the fault
shows_flaw : (flaw : Flaw) (place : ℕ) (held : List ℕ) (now : Option (List ℕ)) → place < place_limit → Sees (gathered.Flawed flaw) held now → Shows place held now (fault_of flaw place)
shows_flaw BadKind place held now below sees = λ more. flawed place held more BadKind below (λ same. cc) sees
shows_flaw BadReading place held now below sees = λ more. flawed place held more BadReading below (λ same. cc) sees
shows_flaw BadLength place held now below sees = λ more. flawed place held more BadLength below (λ same. cc) sees
shows_flaw Torn place held now below sees = (sees.0, record { there = refl; below = below; begun = sees.1; flaw = sees.2 })

pub stops_at :
    (flaw : Flaw) (wrong : CaptureFault) (alive : Bool) (place : ℕ) (before after : List ℕ) (left now : Option (List ℕ)) (old : Reader)
    → wrong ≡ fault_of flaw place → place < place_limit → record { alive = alive; place = place; held = before } ≡ old → Gains before after left now → Sees (gathered.Flawed flaw) after now
    → Stops wrong old (record { alive = false; place = place; held = after }) left now
stops_at flaw wrong alive place before after left now old is below view gains sees =
    let go : Stops wrong (record { alive = alive; place = place; held = before }) (record { alive = false; place = place; held = after }) left now =
    record {
      taken = gains.taken;
      took = gains.took;
      reader = ap (λ (l : List ℕ). record { alive = false; place = place; held = l }) gains.held;
      shows = subst (λ (f : CaptureFault). Shows place (before ++ gains.taken) now f) (sym is)
          (subst (λ (l : List ℕ). Shows place l now (fault_of flaw place)) gains.held (shows_flaw flaw place after now below sees));
    } in
    subst (λ (r : Reader). Stops wrong r (record { alive = false; place = place; held = after }) left now) view go
