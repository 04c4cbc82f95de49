-- What the answers of a reader say of all the bytes.
use Rattle.std.proofs.Common.{◌≡◌, ◌≢◌, ℕ, ◌<◌, true, List, [], ◌∷◌, ◌++◌, length, Option, Some, None, Result, Ok, Err, IfSome, refl, sym, ◌∙◌, ap, subst, arith, append_assoc, length-append}
use Rattle.std.proofs.lemmas.List.{append-nil}
use Rattle.std.proofs.lemmas.Option.{none-some, same_Some}
use Rattle.base_specs.specs.Told.{Took, IsUsedUp}
use Rattle.base_specs.proofs.Telling.{took_none, took_more}
use Rattle.capture_fmt.specs.declared.event.Event.{Event}
use Rattle.capture_fmt.specs.declared.fault.CaptureFault.{CaptureFault}
use Rattle.capture_fmt.specs.declared.fault.CaptureFault.TheVariants as fault
use Rattle.capture_fmt.specs.declared.fault.Flaw.{Flaw}
use Rattle.capture_fmt.specs.declared.fault.Flaw.TheVariants.{BadKind, BadReading, BadLength, Torn}
use Rattle.capture_fmt.specs.Record.{SpellsEvent, event_bytes}
use Rattle.capture_fmt.specs.Capture.{SpellsEvents, IsFlawed, IsFault, FaultAt, StandsNext, place_limit}
use Rattle.capture_fmt.specs.Reader.{Reader, GivesEvent, EndsBetween, Shows, Stops, Nexts, HasRead, Finds, ReadsOn, marked, with_answer}
use Rattle.capture_fmt.proofs.OneRecord.{one_record}
use Rattle.capture_fmt.proofs.Histories.{joined_histories, begin_more, same_fault, same_place, no_event, no_fault_of_event, no_fault_of_end}

-- where bytes were taken from a source that tells them, it tells the rest
took_some : (left now : Option (List ℕ)) (bytes taken : List ℕ) → Took left now taken → left ≡ Some bytes → (rest : List ℕ) × (now ≡ Some rest) × (bytes ≡ taken ++ rest)
took_some None None bytes taken took is = absurd (none-some bytes is)
took_some None (Some rest) bytes taken took is = absurd took
took_some (Some left) None bytes taken took is = absurd took
took_some (Some left) (Some rest) bytes taken took is = (rest, refl, sym (same_Some left bytes is) ∙ took)

used_up : (left : Option (List ℕ)) (bytes : List ℕ) → left ≡ Some bytes → IsUsedUp left → bytes ≡ []
used_up None bytes is up = absurd (none-some bytes is)
used_up (Some left) bytes is up = sym (same_Some left bytes is) ∙ up

same_flaw : (place at : ℕ) (x y : List ℕ) (flaw : Flaw) → x ≡ y → IsFlawed place x at flaw → IsFlawed place y at flaw
same_flaw place at x y flaw same is = subst (λ (l : List ℕ). IsFlawed place l at flaw) same is

-- the fault that the bytes seen and those left show
shown : (place : ℕ) (seen bytes : List ℕ) (now : Option (List ℕ)) (rest : List ℕ) (wrong : CaptureFault) → now ≡ Some rest → bytes ≡ seen ++ rest → wrong ≢ fault.ReadFault → Shows place seen now wrong → IsFault place bytes wrong
shown place seen bytes now rest (fault.BadKind at) is cut not_read shows = same_flaw place at (seen ++ rest) bytes BadKind (sym cut) (shows rest)
shown place seen bytes now rest (fault.BadReading at) is cut not_read shows = same_flaw place at (seen ++ rest) bytes BadReading (sym cut) (shows rest)
shown place seen bytes now rest (fault.BadLength at) is cut not_read shows = same_flaw place at (seen ++ rest) bytes BadLength (sym cut) (shows rest)
shown place seen bytes now rest (fault.Torn at) is cut not_read shows =
    let none = used_up now rest is shows.0 in
    same_flaw place at seen bytes Torn (sym (cut ∙ ap (λ (l : List ℕ). seen ++ l) none ∙ append-nil seen)) shows.1
shown place seen bytes now rest (fault.TooLong at) is cut not_read shows = shows
shown place seen bytes now rest fault.ReadFault is cut not_read shows = absurd (not_read refl)

pub told_by :
    (answer : Result (Option Event) CaptureFault) (old new : Reader) (left now : Option (List ℕ)) (bytes : List ℕ)
    → Nexts answer old new left now → left ≡ Some bytes → answer ≢ Err fault.ReadFault → StandsNext old.place (old.held ++ bytes) answer
told_by (Ok (Some event)) old new left now bytes nexts is not_read =
    let rest = took_some left now bytes nexts.taken nexts.took is in
    let cut : old.held ++ bytes ≡ event_bytes event ++ (new.held ++ rest.0) =
    ap (λ (l : List ℕ). old.held ++ l) rest.2 ∙ sym (append_assoc old.held nexts.taken rest.0)
    ∙ ap (λ (l : List ℕ). l ++ rest.0) (nexts.cut ∙ ap (λ (l : List ℕ). l ++ new.held) nexts.spells.written)
    ∙ append_assoc (event_bytes event) new.held rest.0 in
    (new.held ++ rest.0, nexts.below, nexts.spells.fits, cut)
told_by (Ok None) old new left now bytes nexts is not_read =
    (nexts.below, ap (λ (l : List ℕ). l ++ bytes) nexts.held ∙ used_up left bytes is nexts.ended)
told_by (Err wrong) old new left now bytes nexts is not_read =
    let rest = took_some left now bytes nexts.taken nexts.took is in
    shown old.place (old.held ++ nexts.taken) (old.held ++ bytes) now rest.0 wrong rest.1
    (ap (λ (l : List ℕ). old.held ++ l) rest.2 ∙ sym (append_assoc old.held nexts.taken rest.0))
    (λ same. not_read (ap Err same)) nexts.shows

-- one answer at most stands next
pub one_answer : (place : ℕ) (bytes : List ℕ) (a b : Result (Option Event) CaptureFault) → StandsNext place bytes a → StandsNext place bytes b → a ≡ b
one_answer place bytes (Ok (Some e)) (Ok (Some f)) first next =
    let one = one_record e f first.0 next.0 first.2 next.2 (sym first.3 ∙ next.3) in ap (λ (x : Event). Ok (Some x)) one.0
one_answer place bytes (Ok (Some e)) (Ok None) first next = absurd (no_event e first.0 (sym next.1 ∙ first.3))
one_answer place bytes (Ok (Some e)) (Err w) first next =
    absurd (no_fault_of_event place e first.0 w first.2 first.1 (same_place place place bytes _ w refl first.3 next))
one_answer place bytes (Ok None) (Ok (Some f)) first next = absurd (no_event f next.0 (sym first.1 ∙ next.3))
one_answer place bytes (Ok None) (Ok None) first next = refl
one_answer place bytes (Ok None) (Err w) first next = absurd (no_fault_of_end place w first.0 (same_place place place bytes [] w refl first.1 next))
one_answer place bytes (Err w) (Ok (Some f)) first next =
    absurd (no_fault_of_event place f next.0 w next.2 next.1 (same_place place place bytes _ w refl next.3 first))
one_answer place bytes (Err w) (Ok None) first next = absurd (no_fault_of_end place w next.0 (same_place place place bytes [] w refl next.1 first))
one_answer place bytes (Err w) (Err v) first next = ap Err (same_fault place bytes w v first next)

-- a reader that has read nothing yet
pub read_nothing : (left : Option (List ℕ)) → HasRead [] (record { alive = true; place = 0; held = [] }) left left
read_nothing left = record {
  front = [];
  spells = record { fits = tt; written = refl };
  below = tt;
  place = refl;
  took = took_none left;
}

-- the record of one event spells it
spells_one : (event : Event) (bytes : List ℕ) → SpellsEvent event bytes → SpellsEvents (event ∷ []) bytes
spells_one event bytes spells = record { fits = (spells.fits, tt); written = spells.written ∙ sym (append-nil (event_bytes event)) }

-- all the bytes, from what was read of them and what stands behind
all_bytes :
    (events : List Event) (reader : Reader) (left now : Option (List ℕ)) (bytes : List ℕ) (read : HasRead events reader left now) → left ≡ Some bytes
    → (rest : List ℕ) × (now ≡ Some rest) × (bytes ≡ read.front ++ (reader.held ++ rest))
all_bytes events reader left now bytes read is =
    let rest = took_some left now bytes (read.front ++ reader.held) read.took is in
    (rest.0, rest.1, rest.2 ∙ append_assoc read.front reader.held rest.0)

-- the first fault, behind what was read
fault_behind :
    (events : List Event) (reader : Reader) (left now : Option (List ℕ)) (bytes rest : List ℕ) (wrong : CaptureFault) (read : HasRead events reader left now)
    → bytes ≡ read.front ++ (reader.held ++ rest) → IsFault reader.place (reader.held ++ rest) wrong → FaultAt bytes wrong
fault_behind events reader left now bytes rest wrong read cut is = record {
  events = events;
  front = read.front;
  rest = reader.held ++ rest;
  cut = cut;
  before = read.spells;
  below = read.below;
  here = same_place reader.place (length read.front) _ _ wrong read.place refl is;
}

finds_fault : (wrong : CaptureFault) (events : List Event) (bytes : List ℕ) → (wrong ≢ fault.ReadFault → FaultAt bytes wrong) → Finds (Err wrong) events bytes
finds_fault (fault.BadKind at) events bytes is = is (λ same. cc)
finds_fault (fault.BadReading at) events bytes is = is (λ same. cc)
finds_fault (fault.BadLength at) events bytes is = is (λ same. cc)
finds_fault (fault.Torn at) events bytes is = is (λ same. cc)
finds_fault (fault.TooLong at) events bytes is = is (λ same. cc)
finds_fault fault.ReadFault events bytes is = tt

-- a fact of the bytes, where the source tells them
where_told : (left : Option (List ℕ)) (P : List ℕ → Type 0) → ((bytes : List ℕ) → left ≡ Some bytes → P bytes) → IfSome left P
where_told None P h = tt
where_told (Some bytes) P h = h bytes refl

reads_event :
    (event : Event) (events : List Event) (old new : Reader) (start left now : Option (List ℕ))
    → HasRead events old start left → GivesEvent event old new left now → HasRead (events ++ event ∷ []) new start now
reads_event event events old new start left now read gives =
    let behind : (read.front ++ old.held) ++ gives.taken ≡ (read.front ++ gives.bytes) ++ new.held =
    append_assoc read.front old.held gives.taken ∙ ap (λ (l : List ℕ). read.front ++ l) gives.cut ∙ sym (append_assoc read.front gives.bytes new.held) in
    record {
      front = read.front ++ gives.bytes;
      spells = joined_histories events (event ∷ []) read.front gives.bytes read.spells (spells_one event gives.bytes gives.spells);
      below = begin_more 0 events event read.below (omega (arith, gives.below, read.place, ap length read.spells.written));
      place = omega (arith, gives.place, read.place, length-append read.front gives.bytes);
      took = subst (λ (l : List ℕ). Took start now l) behind (took_more start left now (read.front ++ old.held) gives.taken read.took gives.took);
    }

reads_end :
    (events : List Event) (old new : Reader) (start left now : Option (List ℕ)) (bytes : List ℕ)
    → HasRead events old start left → EndsBetween old new left now → start ≡ Some bytes → SpellsEvents events bytes × (length bytes < place_limit)
reads_end events old new start left now bytes read ends is =
    let rest = all_bytes events old start left bytes read is in
    let none = used_up left rest.0 rest.1 ends.ended in
    let empty : old.held ++ rest.0 ≡ [] = ap (λ (l : List ℕ). l ++ rest.0) ends.held ∙ none in
    let whole : read.front ≡ bytes = sym (append-nil read.front) ∙ ap (λ (l : List ℕ). read.front ++ l) (sym empty) ∙ sym rest.2 in
    (subst (λ (l : List ℕ). SpellsEvents events l) whole read.spells, omega (arith, ends.below, read.place, ap length whole))

reads_fault :
    (wrong : CaptureFault) (events : List Event) (old new : Reader) (start left now : Option (List ℕ))
    → HasRead events old start left → Stops wrong old new left now → HasRead events new start now
reads_fault wrong events old new start left now read stops =
    let held : (read.front ++ old.held) ++ stops.taken ≡ read.front ++ new.held =
    append_assoc read.front old.held stops.taken ∙ ap (λ (r : Reader). read.front ++ r.held) (sym stops.reader) in
    record {
      front = read.front;
      spells = read.spells;
      below = read.below;
      place = ap (λ (r : Reader). r.place) stops.reader ∙ read.place;
      took = subst (λ (l : List ℕ). Took start now l) held (took_more start left now (read.front ++ old.held) stops.taken read.took stops.took);
    }

reads_next :
    (answer : Result (Option Event) CaptureFault) (events : List Event) (old new : Reader) (start left now : Option (List ℕ))
    → HasRead events old start left → Nexts answer old new left now → ReadsOn answer events new start now
reads_next (Ok (Some event)) events old new start left now read nexts =
    record { read = reads_event event events old new start left now read nexts; finds = where_told start _ (λ bytes is. tt) }
reads_next (Ok None) events old new start left now read nexts =
    record {
      read = subst (λ (r : Reader). HasRead events r start now) (sym nexts.reader) (subst (λ (l : Option (List ℕ)). HasRead events old start l) (sym nexts.same) read);
      finds = where_told start (Finds (Ok None) events) (λ bytes is. reads_end events old new start left now bytes read nexts is);
    }
reads_next (Err wrong) events old new start left now read nexts =
    record {
      read = reads_fault wrong events old new start left now read nexts;
      finds = where_told start (Finds (Err wrong) events) (λ bytes is.
          let rest = all_bytes events old start left bytes read is in
          finds_fault wrong events bytes (λ not_read.
          fault_behind events old start left bytes rest.0 wrong read rest.2
          (told_by (Err wrong) old new left now rest.0 nexts rest.1 (λ same. not_read cc))));
    }

-- what was read doesn't depend on whether the reader is alive
read_as : (events : List Event) (a b : Reader) (start now : Option (List ℕ)) → a.place ≡ b.place → a.held ≡ b.held → HasRead events a start now → HasRead events b start now
read_as events a b start now place held read = record {
  front = read.front;
  spells = read.spells;
  below = read.below;
  place = sym place ∙ read.place;
  took = subst (λ (l : List ℕ). Took start now (read.front ++ l)) held read.took;
}

marked_place : (answer : Result (Option Event) CaptureFault) (reader : Reader) → (marked answer reader).place ≡ reader.place
marked_place (Ok event) reader = refl
marked_place (Err wrong) reader = refl

marked_held : (answer : Result (Option Event) CaptureFault) (reader : Reader) → (marked answer reader).held ≡ reader.held
marked_held (Ok event) reader = refl
marked_held (Err wrong) reader = refl

pub reads_on :
    (answer : Result (Option Event) CaptureFault) (events : List Event) (old mid new : Reader) (start left now : Option (List ℕ))
    → mid.place ≡ new.place → mid.held ≡ new.held
    → HasRead events old start left → Nexts answer old (marked answer mid) left now → ReadsOn answer events new start now
reads_on answer events old mid new start left now place held read nexts =
    let on = reads_next answer events old (marked answer mid) start left now read nexts in
    record {
      read = read_as (with_answer events answer) (marked answer mid) new start now (marked_place answer mid ∙ place) (marked_held answer mid ∙ held) on.read;
      finds = on.finds;
    }
