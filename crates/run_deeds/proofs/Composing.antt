-- Parts of a run, one after another.
use Rattle.std.proofs.Common.{◌≡◌, ℕ, zero, suc, ◌+◌, List, [], ◌∷◌, ◌++◌, length, length-append, map, flat_map, refl, sym, ◌∙◌, ap, subst, append_assoc, arith}
use Rattle.std.specs.List.{count_by}
use Rattle.std.proofs.lemmas.Bool.Decides.{nat_tests}
use Rattle.std.proofs.lemmas.Grind.{flat_map-append}
use Rattle.std.proofs.lemmas.List.{map-append}
use Rattle.std.proofs.lemmas.List.Sums.{sum_by-append}
use Rattle.edge_traits.specs.declared.link.Receipt.TheVariants.{Got}
use Rattle.edge_traits.specs.Link.{LinkCall, Receive, Send, receipts_among}
use Rattle.edge_traits.proofs.Links.{failed_calls-append, receipts_among-append}
use Rattle.capture_fmt.specs.declared.event.Event.{Event}
use Rattle.capture_fmt.specs.declared.event.Event.TheVariants.{Life, Tick, Resync, Arrive}
use Rattle.time_machine.specs.declared.conf.Conf.{Conf}
use Rattle.time_machine.specs.Events.{History}
use Rattle.time_machine.specs.Machine.{told}
use Rattle.sntp_core.specs.declared.member.Member.{Member}
use Rattle.sntp_core.specs.Standing.{StandsForHistory, conf_of}
use Rattle.run_deeds.specs.declared.life_end.LifeEnd.{LifeEnd}
use Rattle.run_deeds.specs.declared.life_end.Why.{Why}
use Rattle.run_deeds.specs.declared.life_end.Why.TheVariants.{Done}
use Rattle.run_deeds.specs.Counting.{more}
use Rattle.run_deeds.specs.Weaving.{Need, Weaves}
use Rattle.run_deeds.specs.Deeds.{Deed, Take, Print, Ending, Whole, NoRecord, NoLine, along, all_done, events_given, history_after, moves_in, posted_in, reasons_in, ticks_in}
use Rattle.edge_seen.specs.Seen.{Seen}
use Rattle.run_deeds.specs.Devices.{Does, EndsAtLast, Faults, Given, IsLastSend, LifeEndsBy, faults_of}
use Rattle.run_deeds.specs.Marks.{Reserved}
use Rattle.run_deeds.specs.Parts.{Part, Runs, Tallies, is_quiet}
use Rattle.run_deeds.proofs.Deeding.{all_done-append, along-append, events_given-append, follows, history_after-append}
use Rattle.run_deeds.proofs.Doing.{does_then, given_then}
use Rattle.run_deeds.proofs.Weaves.{joined}

-- so many, and then so many more
pub more_more : (count m n : ℕ) → more (more count m) n ≡ more count (m + n)
more_more count zero n = let same : n ≡ 0 + n = omega arith in ap (more count) same
more_more count (suc m) zero = let same : suc m ≡ suc m + 0 = omega arith in ap (more count) same
more_more count (suc m) (suc n) = grind (arith, nat_tests)

step : (a b c x y z : ℕ) → b ≡ more a x → c ≡ more b y → x + y ≡ z → c ≡ more a z
step a b c x y z first second sum = second ∙ ap (λ (n : ℕ). more n y) first ∙ more_more a x y ∙ ap (more a) sum

length_along : {A : Type 0} (f : History → Deed → List A) (history : History) (ds es : List Deed)
    → length (along f history ds) + length (along f (history_after history ds) es) ≡ length (along f history (ds ++ es))
length_along f history ds es =
    sym (ap length (along-append f history ds es) ∙ length-append (along f history ds) (along f (history_after history ds) es))

quiet_more : (xs ys : List LinkCall) → count_by is_quiet (receipts_among xs) + count_by is_quiet (receipts_among ys) ≡ count_by is_quiet (receipts_among (xs ++ ys))
quiet_more xs ys = sym (ap (count_by is_quiet) (receipts_among-append xs ys) ∙ sum_by-append _ (receipts_among xs) (receipts_among ys))

pub tallies_then : (conf : Conf) (history : History) (ds es : List Deed) (xs ys : List LinkCall) (old mid new : LifeEnd)
    → Tallies conf history ds xs old mid → Tallies conf (history_after history ds) es ys mid new
    → Tallies conf history (ds ++ es) (xs ++ ys) old new
tallies_then conf history ds es xs ys old mid new first second = record {
  sent = step old.sent mid.sent new.sent _ _ _ first.sent second.sent (length_along (posted_in conf) history ds es);
  moved = step old.moved mid.moved new.moved _ _ _ first.moved second.moved (length_along (moves_in conf) history ds es);
  refused = step old.refused mid.refused new.refused _ _ _ first.refused second.refused (length_along (reasons_in conf) history ds es);
  quiet = step old.quiet mid.quiet new.quiet _ _ _ first.quiet second.quiet (quiet_more xs ys);
  lost = step old.lost mid.lost new.lost _ _ _ first.lost second.lost (sym (failed_calls-append xs ys));
  turns = step old.turns mid.turns new.turns _ _ _ first.turns second.turns
      (sym (ap length (flat_map-append ticks_in ds es) ∙ length-append (flat_map ticks_in ds) (flat_map ticks_in es)));
  why = second.why ∙ first.why;
}

-- ---- The last call of the link

last_send : (xs ys : List LinkCall) → IsLastSend ys → IsLastSend (xs ++ ys)
last_send xs ys (earlier, tried, is) =
    (xs ++ earlier, tried, ap (λ (l : List LinkCall). xs ++ l) is ∙ sym (append_assoc xs earlier (Send tried ∷ [])))

-- it is the last one of earlier calls and these
pub last_call-append : (ending : Ending) (xs ys : List LinkCall) → EndsAtLast ending ys → EndsAtLast ending (xs ++ ys)
last_call-append Whole xs ys last = tt
last_call-append (NoRecord event front) xs ys last = tt
last_call-append (NoLine (Print line) front) xs ys last = tt
last_call-append (NoLine (Take (Life now mark)) front) xs ys last = tt
last_call-append (NoLine (Take (Tick now word)) front) xs ys last = last_send xs ys last
last_call-append (NoLine (Take (Resync now word flags)) front) xs ys last = last_send xs ys last
last_call-append (NoLine (Take (Arrive now from bytes)) front) xs ys (earlier, is) =
    (xs ++ earlier, ap (λ (l : List LinkCall). xs ++ l) is ∙ sym (append_assoc xs earlier (Receive (Got from bytes) ∷ [])))

-- A part that ends well, and another: the whole of both, whose history is that behind the second, and whose last
-- deed is that one's. The first one's last deed is whole.
joined_runs : (conf : Conf) (from mid next : Need) (history : History) (a b c : Seen) (k0 k1 k2 : ℕ) (old between new : LifeEnd) (why : Why)
    (given : Given) (deeds : List Deed) (ending : Ending) (need : Need)
    → Weaves conf from history given.clock given.words given.link (events_given deeds ending) need
    → Does conf history given deeds ending a b
    → (taken : List Event) → all_done deeds ending ≡ map Take taken
    → Tallies conf history (all_done deeds ending) given.link old between
    → LifeEndsBy Done ending need (faults_of a) (faults_of b)
    → need ≡ mid
    → (Reserved k0 (told conf history) → Reserved k1 (told conf (history_after history (all_done deeds ending))))
    → (two : Runs conf mid next (history_after history (all_done deeds ending)) b c k1 k2 between new why)
    → (all : Runs conf from next history a c k0 k2 old new why)
    × (history_after history (all_done all.deeds all.ending) ≡ history_after (history_after history (all_done deeds ending)) (all_done two.deeds two.ending))
    × (all.ending ≡ two.ending) × (all.need ≡ two.need)
joined_runs conf from mid next history a b c k0 k1 k2 old between new why given deeds Whole need weaves does taken takes tallies ends well reserved two =
    let follow = rw (follows history deeds) at two.weaves in
    let done = all_done-append deeds two.deeds two.ending in
    let after : history_after history (all_done (deeds ++ two.deeds) two.ending) ≡ history_after (history_after history deeds) (all_done two.deeds two.ending) =
    ap (history_after history) done ∙ history_after-append history deeds (all_done two.deeds two.ending) in
    let Ends : Faults → Type 0 = λ (f : Faults). LifeEndsBy why two.ending two.need f (faults_of c) in (
      record {
        given = given_then given two.given;
        deeds = deeds ++ two.deeds;
        ending = two.ending;
        need = two.need;
        weaves = rw (events_given-append deeds two.deeds two.ending) (joined (rw well at weaves) follow);
        does = does_then conf history given two.given deeds two.deeds two.ending a b c does two.does;
        taken = taken ++ two.taken;
        takes = done ∙ ap (λ (l : List Deed). deeds ++ l) two.takes ∙ ap (λ (l : List Deed). l ++ map Take two.taken) takes ∙ sym (map-append Take taken two.taken);
        grows = rw after two.grows;
        tallies = rw done (tallies_then conf history deeds (all_done two.deeds two.ending) given.link two.given.link old between new tallies two.tallies);
        ends = subst Ends ends.1 two.ends;
        last_call = last_call-append two.ending given.link two.given.link two.last_call;
        well = two.well;
        reserved = λ is was. rw after (two.reserved is (reserved was));
      },
      after,
      refl,
      refl,
    )
joined_runs conf from mid next history a b c k0 k1 k2 old between new why given deeds (NoRecord event front) need weaves does taken takes tallies ends well reserved two = absurd ends.0
joined_runs conf from mid next history a b c k0 k1 k2 old between new why given deeds (NoLine deed front) need weaves does taken takes tallies ends well reserved two = absurd ends.0

-- a part that ends well, and another
pub runs_then : (conf : Conf) (from mid next : Need) (history : History) (a b c : Seen) (k0 k1 k2 : ℕ) (old between new : LifeEnd) (why : Why)
    (one : Runs conf from mid history a b k0 k1 old between Done)
    (two : Runs conf mid next (history_after history (all_done one.deeds one.ending)) b c k1 k2 between new why)
    → (all : Runs conf from next history a c k0 k2 old new why)
    × (history_after history (all_done all.deeds all.ending) ≡ history_after (history_after history (all_done one.deeds one.ending)) (all_done two.deeds two.ending))
    × (all.ending ≡ two.ending) × (all.need ≡ two.need)
runs_then conf from mid next history a b c k0 k1 k2 old between new why one two =
    joined_runs conf from mid next history a b c k0 k1 k2 old between new why one.given one.deeds one.ending one.need
    one.weaves one.does one.taken one.takes one.tallies one.ends (one.well refl) (one.reserved refl) two

-- the same with the member: the second part is one of each history for which the member behind the first one stands
pub part_then : (conf : Conf) (from mid next : Need) (history : History) (a b c : Seen) (m m' : Member) (k0 k1 k2 : ℕ) (old between new : LifeEnd) (why : Why)
    → Part conf from mid history a b m k0 k1 old between Done
    → ((later : History) → StandsForHistory m later → Part (conf_of m) mid next later b c m' k1 k2 between new why)
    → Part conf from next history a c m' k0 k2 old new why
part_then conf from mid next history a b c m m' k0 k1 k2 old between new why one two =
    let later = history_after history (all_done one.runs.deeds one.runs.ending) in
    let IsPart : Conf → Type 0 = λ (set : Conf). Part set mid next later b c m' k1 k2 between new why in
    let second : Part conf mid next later b c m' k1 k2 between new why = subst IsPart one.is_set (two later one.stands) in
    let all = runs_then conf from mid next history a b c k0 k1 k2 old between new why one.runs second.runs in
    record {
      runs = all.0;
      is_set = second.is_set;
      stands = subst (λ (h : History). StandsForHistory m' h) (sym all.1) second.stands;
    }
