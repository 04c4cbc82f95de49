-- The closing lines behind all sessions.
use Rattle.std.proofs.Common.{◌≡◌, ℕ, List, [], ◌∷◌, ◌++◌, length, map, flat_map, take, Option, refl, sym, ◌∙◌, ap, subst}
use Rattle.std.specs.List.{AllByRecursion}
use Rattle.std.proofs.lemmas.List.{map-append}
use Rattle.base_specs.specs.Counts.{Fails}
use Rattle.base_specs.specs.Told.{Added}
use Rattle.base_specs.proofs.Counting.{fails_none}
use Rattle.base_specs.proofs.Telling.{added_none, grew_none}
use Rattle.line_text.specs.Text.{joined}
use Rattle.edge_seen.specs.Seen.{Seen}
use Rattle.edge_traits.specs.Clock.{ClockCall}
use Rattle.edge_traits.specs.Link.{LinkCall}
use Rattle.capture_fmt.specs.declared.event.Event.{Event}
use Rattle.capture_fmt.specs.Event.{EventFits}
use Rattle.time_machine.specs.declared.conf.Conf.{Conf}
use Rattle.time_machine.specs.Events.{History}
use Rattle.time_machine.specs.Growing.{Grows}
use Rattle.time_machine.specs.Machine.{told}
use Rattle.run_deeds.specs.declared.life_end.LifeEnd.{LifeEnd}
use Rattle.run_deeds.specs.declared.life_end.Why.TheVariants.{SinkFault}
use Rattle.run_deeds.specs.Counting.{more}
use Rattle.run_deeds.specs.Deeds.{Deed, Print, NoLine, along, events_in, history_after, line_in, moves_in, posted_in, reasons_in, record_in, ticks_in}
use Rattle.run_deeds.specs.Devices.{faults, living, nothing}
use Rattle.run_deeds.specs.Marks.{Reserved}
use Rattle.run_deeds.specs.Parts.{Tallies}
use Rattle.run_deeds.specs.Weaving.{Calls, Need, Weaves, none}
use Rattle.service_run.specs.Serving.{Ran}
use Rattle.service_run.proofs.Listed.{prints_none}
use Rattle.service_run.proofs.Works.{Works}

-- ---- What lines lead to

along_prints : {A : Type 0} (f : History → Deed → List A) → ((history : History) (line : List ℕ) → f history (Print line) ≡ []) → (history : History) (lines : List (List ℕ))
    → along f history (map Print lines) ≡ []
along_prints f silent history [] = refl
along_prints f silent history (line ∷ lines) = ap (λ (l : List _). l ++ along f history (map Print lines)) (silent history line) ∙ along_prints f silent history lines

in_prints : {A : Type 0} (f : Deed → List A) → ((line : List ℕ) → f (Print line) ≡ []) → (lines : List (List ℕ)) → flat_map f (map Print lines) ≡ []
in_prints f silent [] = refl
in_prints f silent (line ∷ lines) = ap (λ (l : List _). l ++ flat_map f (map Print lines)) (silent line) ∙ in_prints f silent lines

lines_printed : (conf : Conf) (history : History) (lines : List (List ℕ)) → along (line_in conf) history (map Print lines) ≡ joined lines
lines_printed conf history [] = refl
lines_printed conf history (line ∷ lines) = ap (λ (l : List ℕ). line ++ l) (lines_printed conf history lines)

pub history_prints : (history : History) (lines : List (List ℕ)) → history_after history (map Print lines) ≡ history
history_prints history [] = refl
history_prints history (line ∷ lines) = history_prints history lines

more_none : {A : Type 0} (count : ℕ) (xs : List A) → xs ≡ [] → count ≡ more count (length xs)
more_none count xs is = subst (λ (l : List _). count ≡ more count (length l)) (sym is) refl

tallies_prints : (conf : Conf) (history : History) (lines : List (List ℕ)) (end : LifeEnd) → Tallies conf history (map Print lines) [] end end
tallies_prints conf history lines end = record {
  sent = more_none end.sent _ (along_prints (posted_in conf) (λ h line. refl) history lines);
  moved = more_none end.moved _ (along_prints (moves_in conf) (λ h line. refl) history lines);
  refused = more_none end.refused _ (along_prints (reasons_in conf) (λ h line. refl) history lines);
  quiet = refl;
  lost = refl;
  turns = more_none end.turns _ (in_prints ticks_in (λ line. refl) lines);
  why = refl;
}

-- ---- They were written

pub works_lines : (others : Seen) (conf : Conf) (need : Need) (history : History) (link : Option (List LinkCall)) (clock : Option (List ClockCall)) (words capture out out' : Option (List ℕ)) (lf cf ef df kf of of' kept : ℕ) (end : LifeEnd) (lines : List (List ℕ))
    → Grows conf history → Added out out' (joined lines) → of' ≡ of
    → Works conf need need history (living others link clock words capture out lf (faults cf ef df kf of)) (living others link clock words capture out' lf (faults cf ef df kf of')) kept kept end end (map Print lines)
works_lines others conf need history link clock words capture out out' lf cf ef df kf of of' kept end lines grows added same =
    let events = prints_none lines in
    let history' = history_prints history lines in
    record {
      given = nothing;
      weaves = subst (λ (es : List Event). Weaves conf need history [] [] [] es need) (sym events) none;
      does = record {
        link = grew_none link;
        requests = sym (along_prints (posted_in conf) (λ h line. refl) history lines);
        clock = grew_none clock;
        moves = sym (along_prints (moves_in conf) (λ h line. refl) history lines);
        words = added_none words;
        fit = subst (AllByRecursion EventFits) (sym events) tt;
        capture = subst (λ (bs : List ℕ). Added capture capture bs) (sym (in_prints record_in (λ line. refl) lines)) (added_none capture);
        out = subst (λ (bs : List ℕ). Added out out' bs) (sym (lines_printed conf history lines)) added;
        has_line = tt;
        link_failed = fails_none lf;
      };
      grows = subst (λ (h : History). Grows conf h) (sym history') grows;
      tallies = tallies_prints conf history lines end;
      same = ap (λ (n : ℕ). faults cf ef df kf n) same;
      reserved = λ was. subst (λ (h : History). Reserved kept (told conf h)) (sym history') was;
    }

-- ---- One of them was not

pub ran_lines : (others : Seen) (conf : Conf) (history : History) (link : Option (List LinkCall)) (clock : Option (List ClockCall)) (words capture out out' : Option (List ℕ)) (lf cf ef df kf of of' kept : ℕ) (end : LifeEnd) (first : List (List ℕ)) (line : List ℕ) (front : ℕ)
    → Grows conf history → Added out out' (joined first ++ take front line) → Fails of of'
    → Ran conf (Calls []) history (living others link clock words capture out lf (faults cf ef df kf of)) (living others link clock words capture out' lf (faults cf ef df kf of')) kept kept end end SinkFault nothing (map Print first) (NoLine (Print line) front) (Calls [])
ran_lines others conf history link clock words capture out out' lf cf ef df kf of of' kept end first line front grows added fails =
    let lines = first ++ line ∷ [] in
    let all : map Print lines ≡ map Print first ++ Print line ∷ [] = map-append Print first (line ∷ []) in
    let events : [] ≡ flat_map events_in (map Print first ++ Print line ∷ []) = sym (prints_none lines) ∙ ap (flat_map events_in) all in
    let history' : history ≡ history_after history (map Print first ++ Print line ∷ []) = sym (history_prints history lines) ∙ ap (history_after history) all in
    let out_is : joined first ++ take front line ≡ along (line_in conf) history (map Print first) ++ take front line = ap (λ (l : List ℕ). l ++ take front line) (sym (lines_printed conf history first)) in
    record {
      weaves = subst (λ (es : List Event). Weaves conf (Calls []) history [] [] [] es (Calls [])) events none;
      does = record {
        link = grew_none link;
        requests = sym (along_prints (posted_in conf) (λ h l. refl) history lines) ∙ ap (along (posted_in conf) history) all;
        clock = grew_none clock;
        moves = sym (along_prints (moves_in conf) (λ h l. refl) history lines) ∙ ap (along (moves_in conf) history) all;
        words = added_none words;
        fit = subst (AllByRecursion EventFits) events tt;
        capture = subst (λ (bs : List ℕ). Added capture capture bs) (sym (in_prints record_in (λ l. refl) lines) ∙ ap (flat_map record_in) all) (added_none capture);
        out = subst (λ (bs : List ℕ). Added out out' bs) out_is added;
        has_line = tt;
        link_failed = fails_none lf;
      };
      last_call = tt;
      grows = subst (λ (h : History). Grows conf h) history' grows;
      tallies = subst (λ (ds : List Deed). Tallies conf history ds [] end end) all (tallies_prints conf history lines end);
      ends = (tt, (fails, refl));
      well = λ is. refl;
      reserved = λ is was. subst (λ (h : History). Reserved kept (told conf h)) history' was;
    }
