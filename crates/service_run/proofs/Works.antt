-- What was done so far, event by event and line by line.
use Rattle.std.proofs.Common.{◌≡◌, ℕ, List, [], ◌∷◌, ◌++◌, flat_map, take, Option, refl, sym, ◌∙◌, ap, subst}
use Rattle.std.proofs.lemmas.Grind.{flat_map-append}
use Rattle.std.proofs.lemmas.List.{append-nil}
use Rattle.base_specs.specs.Counts.{Fails}
use Rattle.base_specs.specs.Told.{Added}
use Rattle.base_specs.proofs.Counting.{fails_none}
use Rattle.base_specs.proofs.Telling.{added_none, grew_none}
use Rattle.edge_seen.specs.Seen.{Seen}
use Rattle.edge_traits.specs.Clock.{ClockCall}
use Rattle.edge_traits.specs.Link.{LinkCall}
use Rattle.time_machine.specs.declared.conf.Conf.{Conf}
use Rattle.time_machine.specs.Events.{History}
use Rattle.time_machine.specs.Growing.{Grows}
use Rattle.time_machine.specs.Machine.{told}
use Rattle.run_deeds.specs.declared.life_end.LifeEnd.{LifeEnd}
use Rattle.run_deeds.specs.declared.life_end.Why.{Why}
use Rattle.run_deeds.specs.declared.life_end.Why.TheVariants.{Done, SinkFault}
use Rattle.run_deeds.specs.Deeds.{Deed, Print, Ending, Whole, NoRecord, NoLine, IsWhole, all_done, events_given, events_in, history_after}
use Rattle.run_deeds.specs.Devices.{Does, Faults, Given, LifeEndsBy, faults, faults_of, living, nothing}
use Rattle.run_deeds.specs.Marks.{Reserved}
use Rattle.run_deeds.specs.Parts.{Runs, Tallies}
use Rattle.run_deeds.specs.Weaving.{Calls, Need, SyncCall, Weaves, none}
use Rattle.run_deeds.proofs.Composing.{last_call-append, tallies_then}
use Rattle.run_deeds.proofs.Deeding.{all_done-append, events_given-append, follows, history_after-append}
use Rattle.run_deeds.proofs.Doing.{does_none, does_then, given_then}
use Rattle.run_deeds.proofs.ServiceWeaves.{lengthened}
use Rattle.run_deeds.proofs.Stopping.{tallies_none}
use Rattle.run_deeds.proofs.Weaves.{joined}
use Rattle.service_run.specs.Serving.{Ran}

-- From one need to another, after a history, these deeds were done whole. Some of them may be lines that are no event's.
pub record Works (conf : Conf) (from next : Need) (history : History) (before now : Seen) (kept kept' : ℕ) (old new : LifeEnd) (deeds : List Deed) : Type 0 where
  pub given : Given
  pub weaves : Weaves conf from history given.clock given.words given.link (flat_map events_in deeds) next
  pub does : Does conf history given deeds Whole before now
  pub grows : Grows conf (history_after history deeds)
  pub tallies : Tallies conf history deeds given.link old new
  pub same : faults_of now ≡ faults_of before
  pub reserved : Reserved kept (told conf history) → Reserved kept' (told conf (history_after history deeds))

-- ---- What was done is such a part, whichever call ends it

pub ran_of : (conf : Conf) (from : Need) (history : History) (a b : Seen) (kept kept' : ℕ) (old new : LifeEnd) (why : Why)
    → (r : Runs conf from (Calls []) history a b kept kept' old new why) → Ran conf from history a b kept kept' old new why r.given r.deeds r.ending r.need
ran_of conf from history a b kept kept' old new why r = record {
  weaves = r.weaves;
  does = r.does;
  last_call = r.last_call;
  grows = r.grows;
  tallies = r.tallies;
  ends = r.ends;
  well = r.well;
  reserved = r.reserved;
}

-- one that ended well was done whole
pub ran_whole : (conf : Conf) (from next : Need) (history : History) (a b : Seen) (kept kept' : ℕ) (old new : LifeEnd) (given : Given) (deeds : List Deed) (ending : Ending) (need : Need)
    → IsWhole ending → Weaves conf from history given.clock given.words given.link (events_given deeds ending) need → need ≡ next
    → Does conf history given deeds ending a b → Grows conf (history_after history (all_done deeds ending)) → Tallies conf history (all_done deeds ending) given.link old new
    → faults_of b ≡ faults_of a → (Reserved kept (told conf history) → Reserved kept' (told conf (history_after history (all_done deeds ending))))
    → Works conf from next history a b kept kept' old new (all_done deeds ending)
ran_whole conf from next history a b kept kept' old new given deeds Whole need whole weaves well does grows tallies same reserved =
    record { given = given; weaves = rw well at weaves; does = does; grows = grows; tallies = tallies; same = same; reserved = reserved }
ran_whole conf from next history a b kept kept' old new given deeds (NoRecord event front) need whole weaves well does grows tallies same reserved = absurd whole
ran_whole conf from next history a b kept kept' old new given deeds (NoLine deed front) need whole weaves well does grows tallies same reserved = absurd whole

pub works_of : (conf : Conf) (from : Need) (history : History) (a b : Seen) (kept kept' : ℕ) (old new : LifeEnd) (given : Given) (deeds : List Deed) (ending : Ending) (need : Need)
    → Ran conf from history a b kept kept' old new Done given deeds ending need → Works conf from (Calls []) history a b kept kept' old new (all_done deeds ending)
works_of conf from history a b kept kept' old new given deeds ending need r =
    ran_whole conf from (Calls []) history a b kept kept' old new given deeds ending need r.ends.0 r.weaves (r.well refl) r.does r.grows r.tallies r.ends.1 (r.reserved refl)

-- ---- One after the other

pub works_then : (conf : Conf) (from mid next : Need) (history : History) (a b c : Seen) (k0 k1 k2 : ℕ) (old between new : LifeEnd) (ds es : List Deed)
    → Works conf from mid history a b k0 k1 old between ds → Works conf mid next (history_after history ds) b c k1 k2 between new es
    → Works conf from next history a c k0 k2 old new (ds ++ es)
works_then conf from mid next history a b c k0 k1 k2 old between new ds es one two = record {
  given = given_then one.given two.given;
  weaves = rw (flat_map-append events_in ds es) (joined one.weaves (rw (follows history ds) at two.weaves));
  does = does_then conf history one.given two.given ds es Whole a b c one.does two.does;
  grows = rw (history_after-append history ds es) two.grows;
  tallies = tallies_then conf history ds es one.given.link two.given.link old between new one.tallies two.tallies;
  same = two.same ∙ one.same;
  reserved = λ was. rw (history_after-append history ds es) (two.reserved (one.reserved was));
}

-- and the last part may end in a fault
pub ran_then : (conf : Conf) (from mid : Need) (history : History) (a b c : Seen) (k0 k1 k2 : ℕ) (old between new : LifeEnd) (why : Why) (ds : List Deed) (given : Given) (es : List Deed) (ending : Ending) (need : Need)
    → (one : Works conf from mid history a b k0 k1 old between ds) → Ran conf mid (history_after history ds) b c k1 k2 between new why given es ending need
    → Ran conf from history a c k0 k2 old new why (given_then one.given given) (ds ++ es) ending need
ran_then conf from mid history a b c k0 k1 k2 old between new why ds given es ending need one two =
    let done = all_done-append ds es ending in
    let after : history_after history (all_done (ds ++ es) ending) ≡ history_after (history_after history ds) (all_done es ending) =
    ap (history_after history) done ∙ history_after-append history ds (all_done es ending) in
    let Ends : Faults → Type 0 = λ (f : Faults). LifeEndsBy why ending need f (faults_of c) in
    record {
      weaves = rw (events_given-append ds es ending) (joined one.weaves (rw (follows history ds) at two.weaves));
      does = does_then conf history one.given given ds es ending a b c one.does two.does;
      last_call = last_call-append ending one.given.link given.link two.last_call;
      grows = rw after two.grows;
      tallies = rw done (tallies_then conf history ds (all_done es ending) one.given.link given.link old between new one.tallies two.tallies);
      ends = subst Ends one.same two.ends;
      well = two.well;
      reserved = λ is was. rw after (two.reserved is (one.reserved was));
    }

-- ---- Nothing, a line, and a part of a line

pub works_none : (conf : Conf) (need : Need) (history : History) (now : Seen) (kept : ℕ) (end : LifeEnd) → Grows conf history
    → Works conf need need history now now kept kept end end []
works_none conf need history now kept end grows = record {
  given = nothing;
  weaves = none;
  does = does_none conf history now;
  grows = grows;
  tallies = tallies_none conf history end;
  same = refl;
  reserved = λ was. was;
}

-- so what was done whole is a part that ended well
pub ran_works : (conf : Conf) (from : Need) (history : History) (a b : Seen) (kept kept' : ℕ) (old new : LifeEnd) (ds : List Deed) (one : Works conf from (Calls []) history a b kept kept' old new ds)
    → Ran conf from history a b kept kept' old new Done one.given ds Whole (Calls [])
ran_works conf from history a b kept kept' old new ds one = record {
  weaves = one.weaves;
  does = one.does;
  last_call = tt;
  grows = one.grows;
  tallies = one.tallies;
  ends = (tt, one.same);
  well = λ is. refl;
  reserved = λ is. one.reserved;
}

-- a line that is no event's
pub works_line : (others : Seen) (conf : Conf) (need : Need) (history : History) (link : Option (List LinkCall)) (clock : Option (List ClockCall)) (words capture out out' : Option (List ℕ)) (lf cf ef df kf of of' kept : ℕ) (end : LifeEnd) (line : List ℕ)
    → Grows conf history → Added out out' line → of' ≡ of
    → Works conf need need history (living others link clock words capture out lf (faults cf ef df kf of)) (living others link clock words capture out' lf (faults cf ef df kf of')) kept kept end end (Print line ∷ [])
works_line others conf need history link clock words capture out out' lf cf ef df kf of of' kept end line grows added same = record {
  given = nothing;
  weaves = none;
  does = record {
    link = grew_none link;
    requests = refl;
    clock = grew_none clock;
    moves = refl;
    words = added_none words;
    fit = tt;
    capture = added_none capture;
    out = subst (λ (l : List ℕ). Added out out' l) (sym (append-nil line)) added;
    has_line = tt;
    link_failed = fails_none lf;
  };
  grows = grows;
  tallies = record { sent = refl; moved = refl; refused = refl; quiet = refl; lost = refl; turns = refl; why = refl };
  same = λ i. faults cf ef df kf (same i);
  reserved = λ was. was;
}

-- the write of which failed
pub ran_line : (others : Seen) (conf : Conf) (history : History) (link : Option (List LinkCall)) (clock : Option (List ClockCall)) (words capture out out' : Option (List ℕ)) (lf cf ef df kf of of' kept : ℕ) (end : LifeEnd) (line : List ℕ) (front : ℕ)
    → Grows conf history → Added out out' (take front line) → Fails of of'
    → Ran conf (Calls []) history (living others link clock words capture out lf (faults cf ef df kf of)) (living others link clock words capture out' lf (faults cf ef df kf of')) kept kept end end SinkFault nothing [] (NoLine (Print line) front) (Calls [])
ran_line others conf history link clock words capture out out' lf cf ef df kf of of' kept end line front grows added fails = record {
  weaves = none;
  does = record {
    link = grew_none link;
    requests = refl;
    clock = grew_none clock;
    moves = refl;
    words = added_none words;
    fit = tt;
    capture = added_none capture;
    out = added;
    has_line = tt;
    link_failed = fails_none lf;
  };
  last_call = tt;
  grows = grows;
  tallies = record { sent = refl; moved = refl; refused = refl; quiet = refl; lost = refl; turns = refl; why = refl };
  ends = (tt, (fails, refl));
  well = λ is. refl;
  reserved = λ is was. was;
}

-- ---- Further calls behind those that were answered

pub works_more : (conf : Conf) (later asked : List SyncCall) (history : History) (a b : Seen) (kept kept' : ℕ) (old new : LifeEnd) (ds : List Deed)
    → Works conf (Calls asked) (Calls []) history a b kept kept' old new ds → Works conf (Calls (asked ++ later)) (Calls later) history a b kept kept' old new ds
works_more conf later asked history a b kept kept' old new ds one = record {
  given = one.given;
  weaves = lengthened later one.weaves;
  does = one.does;
  grows = one.grows;
  tallies = one.tallies;
  same = one.same;
  reserved = one.reserved;
}
