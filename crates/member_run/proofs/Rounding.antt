-- The receipts of a round, and its result.
use Rattle.std.proofs.Common.{◌≡◌, ◌≢◌, inl, inr, ◌<◌, ◌+◌, ◌==◌, cond, ℕ, zero, suc, ℤ, Bool, true, false, List, [], ◌∷◌, ◌++◌, map, reverse, Option, Ok, Err, if◌then◌else◌, refl, sym, ◌∙◌, ap, subst, arith}
use Rattle.std.specs.List.{count_by, sum_by}
use Rattle.std.proofs.lemmas.List.{append-nil, append_cancel_right, map-append, reverse-reverse}
use Rattle.std.proofs.lemmas.List.Sums.{sum_by-append}
use Rattle.std.proofs.lemmas.Bool.Decides.{nat_tests}
use Rattle.base_specs.specs.Told.{Grew}
use Rattle.edge_traits.specs.declared.datagram.Addr.{Addr}
use Rattle.edge_traits.specs.declared.link.Receipt.TheVariants.{Got, Quiet, Failed}
use Rattle.edge_traits.specs.Clock.{ClockCall, Read}
use Rattle.edge_traits.specs.Link.{LinkCall, Receive, ReceiptCounts}
use Rattle.capture_fmt.specs.declared.event.Event.{Event}
use Rattle.capture_fmt.specs.declared.event.Event.TheVariants.{Arrive}
use Rattle.time_machine.specs.declared.conf.Conf.{Conf}
use Rattle.time_machine.specs.declared.outcome.Outcome.{Outcome}
use Rattle.time_machine.specs.Events.{History}
use Rattle.time_machine.specs.Machine.{outcome_at}
use Rattle.time_machine.specs.Told.{offset_moved}
use Rattle.std.specs.Prelude.{is_some}
use Rattle.sntp_core.specs.declared.member.Member.{Member}
use Rattle.sntp_core.specs.Standing.{StandsForHistory, conf_of}
use Rattle.run_deeds.specs.declared.life_end.LifeEnd.{LifeEnd}
use Rattle.run_deeds.specs.declared.life_end.Why.{Why}
use Rattle.run_deeds.specs.declared.life_end.Why.TheVariants.{Done, ClockFault}
use Rattle.run_deeds.specs.Counting.{with_lost, with_quiet}
use Rattle.run_deeds.specs.Weaving.{Act, Need, Calls, Round, RoundReading, Weaves, none, round_gets, round_quiet, round_lost, round_arrives, behind_arrival, followed_by, round_of}
use Rattle.run_deeds.specs.Deeds.{Deed, Take, Ending, Whole, NoRecord, NoLine, IsWhole, along, all_done, history_after}
use Rattle.edge_seen.specs.Seen.{Seen}
use Rattle.run_deeds.specs.Devices.{Faults, IsBehind, LifeEndsBy, faults, nothing, living, faults_of}
use Rattle.run_deeds.specs.Parts.{Part, Runs, Tallies}
use Rattle.run_deeds.specs.Rounds.{RoundAnswers, is_moved, is_too_big, outcomes_in, round_result}
use Rattle.run_deeds.proofs.Deeding.{along-append}
use Rattle.run_deeds.proofs.Composing.{runs_then}
use Rattle.run_deeds.proofs.Doing.{does_receive, does_then}
use Rattle.member_run.specs.declared.running.Running.{Running}
use Rattle.member_run.specs.Running.{IsBegun, SendsNone, kept_of, member_of, totals_of}
use Rattle.member_run.specs.Taking.{Takes, TakesAt, TakesTo}
use Rattle.member_run.proofs.Ordered.{followed-reverse, history_of}
use Rattle.member_run.proofs.Turning.{one_left, runs_none, taken_history, whole_given}
use Rattle.member_run.proofs.Parting.{last_arrival, part_short, part_stops, runs_takes}
use Rattle.member_run.proofs.Receiving.{arrival_reserved, lost_part, quiet_part}

-- ---- The result

one_more : (p : Outcome → Bool) (outs : List Outcome) (o : Outcome) (b : Bool) → p o ≡ b → count_by p (outs ++ o ∷ []) ≡ count_by p outs + cond b 1 0
one_more p outs o b is =
    let f : Outcome → ℕ = λ (x : Outcome). cond (p x) 1 0 in
    let last : 0 + cond (p o) 1 0 ≡ cond b 1 0 = rw is (omega arith) in
    sum_by-append f outs (o ∷ []) ∙ ap (λ (n : ℕ). sum_by f outs + n) last

-- none of these was accepted, and this is their result
pub record Results (outs : List Outcome) (result : ℕ) : Type 0 where
  pub none : count_by is_moved outs ≡ 0
  pub is : result ≡ round_result outs

pub results_none : Results [] 1
results_none = record { none = refl; is = refl }

if_moved : (m b : ℕ) → m ≡ 1 → ◌≡◌ {A = ℕ} 0 (if m == 0 then (if b == 0 then 1 else 3) else 0)
if_moved m b is = rw is refl

if_big : (m b n : ℕ) → m ≡ 0 → b ≡ n + 1 → ◌≡◌ {A = ℕ} 3 (if m == 0 then (if b == 0 then 1 else 3) else 0)
if_big m b n is more = rw is (grind (arith, nat_tests))

-- one more, which was accepted
pub results_moved : (outs : List Outcome) (o : Outcome) (result : ℕ) → Results outs result → is_moved o ≡ true → 0 ≡ round_result (outs ++ o ∷ [])
results_moved outs o result was moved =
    let one : count_by is_moved (outs ++ o ∷ []) ≡ 1 = omega (arith, one_more is_moved outs o true moved, was.none) in
    if_moved (count_by is_moved (outs ++ o ∷ [])) (count_by is_too_big (outs ++ o ∷ [])) one

-- which was too big
pub results_big : (outs : List Outcome) (o : Outcome) (result : ℕ) → Results outs result → is_moved o ≡ false → is_too_big o ≡ true → Results (outs ++ o ∷ []) 3
results_big outs o result was moved big =
    let none : count_by is_moved (outs ++ o ∷ []) ≡ 0 = omega (arith, one_more is_moved outs o false moved, was.none) in
    let more : count_by is_too_big (outs ++ o ∷ []) ≡ count_by is_too_big outs + 1 = omega (arith, one_more is_too_big outs o true big) in
    record { none = none; is = if_big (count_by is_moved (outs ++ o ∷ [])) (count_by is_too_big (outs ++ o ∷ [])) (count_by is_too_big outs) none more }

-- which was neither
pub results_other : (outs : List Outcome) (o : Outcome) (result : ℕ) → Results outs result → is_moved o ≡ false → is_too_big o ≡ false → Results (outs ++ o ∷ []) result
results_other outs o result was moved big =
    let none : count_by is_moved (outs ++ o ∷ []) ≡ count_by is_moved outs = omega (arith, one_more is_moved outs o false moved) in
    let same : count_by is_too_big (outs ++ o ∷ []) ≡ count_by is_too_big outs = omega (arith, one_more is_too_big outs o false big) in
    record { none = none ∙ was.none; is = rw (none, same) was.is }

-- ---- What came of the events of a part

-- what came of the events taken
abbrev pub outs_of : Conf → History → List Event → List Outcome
outs_of conf history taken = along (outcomes_in conf) history (map Take taken)

outs-append : (conf : Conf) (history : History) (xs ys : List Event) → outs_of conf history (xs ++ ys) ≡ outs_of conf history xs ++ outs_of conf (followed_by history xs) ys
outs-append conf history xs ys =
    ap (along (outcomes_in conf) history) (map-append Take xs ys) ∙ along-append (outcomes_in conf) history (map Take xs) (map Take ys)
    ∙ ap (λ (h : History). outs_of conf history xs ++ outs_of conf h ys) (history_of history xs)

-- events that lead from one history to another are the same
pub same_taken : (history : History) (xs ys : List Event) → followed_by history xs ≡ followed_by history ys → xs ≡ ys
same_taken history xs ys is =
    let both : reverse xs ++ history ≡ reverse ys ++ history = sym (followed-reverse history xs) ∙ is ∙ followed-reverse history ys in
    let turned : reverse xs ≡ reverse ys = append_cancel_right (reverse xs) (reverse ys) history both in
    sym (reverse-reverse xs) ∙ ap reverse turned ∙ reverse-reverse ys

pub followed-append : (history : History) (xs ys : List Event) → followed_by history (xs ++ ys) ≡ followed_by (followed_by history xs) ys
followed-append history [] ys = refl
followed-append history (x ∷ xs) ys = followed-append (x ∷ history) xs ys

-- a part, and what came of it where it ended well
pub record Stepped (conf : Conf) (from next : Need) (history : History) (before now : Seen) (member : Member) (kept kept' : ℕ) (old new : LifeEnd) (why : Why) (came : List Outcome) : Type 0 where
  pub part : Part conf from next history before now member kept kept' old new why
  pub outs : why ≡ Done → along (outcomes_in conf) history part.runs.deeds ≡ came

pub whole_deeds : (deeds : List Deed) (ending : Ending) (taken : List Event) → IsWhole ending → all_done deeds ending ≡ map Take taken → deeds ≡ map Take taken
whole_deeds deeds Whole taken whole takes = takes
whole_deeds deeds (NoRecord event front) taken whole takes = absurd whole
whole_deeds deeds (NoLine deed front) taken whole takes = absurd whole

-- one part after another, and what came of both
pub stepped_at : (conf : Conf) (from mid next : Need) (history : History) (a b c : Seen) (m m' : Member) (k0 k1 k2 : ℕ) (old between new : LifeEnd) (why : Why) (outs outs' : List Outcome)
    → (one : Stepped conf from mid history a b m k0 k1 old between Done outs)
    → Stepped conf mid next (history_after history (all_done one.part.runs.deeds one.part.runs.ending)) b c m' k1 k2 between new why outs'
    → Stepped conf from next history a c m' k0 k2 old new why (outs ++ outs')
stepped_at conf from mid next history a b c m m' k0 k1 k2 old between new why outs outs' one second =
    let r = one.part.runs in
    let later = history_after history (all_done r.deeds r.ending) in
    let s = second.part.runs in
    let all = runs_then conf from mid next history a b c k0 k1 k2 old between new why r s in
    let t = all.0 in
    record {
      part = record {
        runs = t;
        is_set = second.part.is_set;
        stands = subst (λ (h : History). StandsForHistory m' h) (sym all.1) second.part.stands;
      };
      outs = λ is.
          let whole : IsWhole t.ending = (subst (λ (w : Why). LifeEndsBy w t.ending t.need (faults_of a) (faults_of c)) is t.ends).0 in
          let whole' : IsWhole s.ending = (subst (λ (w : Why). LifeEndsBy w s.ending s.need (faults_of b) (faults_of c)) is s.ends).0 in
          let first : later ≡ followed_by history r.taken = taken_history history r.deeds r.ending r.taken r.takes in
          let led : followed_by history t.taken ≡ followed_by history (r.taken ++ s.taken) =
          sym (taken_history history t.deeds t.ending t.taken t.takes) ∙ all.1 ∙ taken_history later s.deeds s.ending s.taken s.takes
          ∙ ap (λ (h : History). followed_by h s.taken) first ∙ sym (followed-append history r.taken s.taken) in
          let taken : t.taken ≡ r.taken ++ s.taken = same_taken history t.taken (r.taken ++ s.taken) led in
          let here : outs_of conf history r.taken ≡ outs = ap (along (outcomes_in conf) history) (sym (whole_deeds r.deeds r.ending r.taken r.ends.0 r.takes)) ∙ one.outs refl in
          let there : outs_of conf (followed_by history r.taken) s.taken ≡ outs' =
          ap (λ (h : History). outs_of conf h s.taken) (sym first) ∙ ap (along (outcomes_in conf) later) (sym (whole_deeds s.deeds s.ending s.taken whole' s.takes)) ∙ second.outs is in
          ap (along (outcomes_in conf) history) (whole_deeds t.deeds t.ending t.taken whole t.takes) ∙ ap (outs_of conf history) taken ∙ outs-append conf history r.taken s.taken
          ∙ ap (λ (l : List Outcome). l ++ outs_of conf (followed_by history r.taken) s.taken) here ∙ ap (λ (l : List Outcome). outs ++ l) there;
    }

-- the same where the second is a part of each history for which the member stands
pub stepped_then : (conf : Conf) (from mid next : Need) (history : History) (a b c : Seen) (m m' : Member) (k0 k1 k2 : ℕ) (old between new : LifeEnd) (why : Why) (outs outs' : List Outcome)
    → (one : Stepped conf from mid history a b m k0 k1 old between Done outs)
    → ((later : History) → StandsForHistory m later → Stepped (conf_of m) mid next later b c m' k1 k2 between new why outs')
    → Stepped conf from next history a c m' k0 k2 old new why (outs ++ outs')
stepped_then conf from mid next history a b c m m' k0 k1 k2 old between new why outs outs' one two =
    let later = history_after history (all_done one.part.runs.deeds one.part.runs.ending) in
    let IsStep : Conf → Type 0 = λ (set : Conf). Stepped set mid next later b c m' k1 k2 between new why outs' in
    stepped_at conf from mid next history a b c m m' k0 k1 k2 old between new why outs outs' one (subst IsStep one.part.is_set (two later one.part.stands))

-- ---- One receipt

-- a round may take so many receipts still

pub quiet_step : (others : Seen) (conf : Conf) (k : ℕ) (history : History) (member : Member) (link link' : Option (List LinkCall)) (clock : Option (List ClockCall)) (words capture out : Option (List ℕ)) (lf lf' : ℕ) (f : Faults) (kept : ℕ) (old : LifeEnd)
    → conf_of member ≡ conf → StandsForHistory member history → Grew link link' (Receive Quiet ∷ []) → ReceiptCounts Quiet lf lf'
    → Stepped conf (Round (suc k) []) (Calls []) history (living others link clock words capture out lf f) (living others link' clock words capture out lf' f) member kept kept old (with_quiet old) Done []
unfolding quiet_part
quiet_step others conf k history member link link' clock words capture out lf lf' f kept old is_set stands gave counts = record {
  part = quiet_part others conf (Round (suc k) []) (Calls []) history member link link' clock words capture out lf lf' f kept old is_set stands gave counts (round_quiet none);
  outs = λ is. refl;
}

pub lost_step : (others : Seen) (conf : Conf) (k : ℕ) (history : History) (member : Member) (link link' : Option (List LinkCall)) (clock : Option (List ClockCall)) (words capture out : Option (List ℕ)) (lf lf' : ℕ) (f : Faults) (kept : ℕ) (old : LifeEnd)
    → conf_of member ≡ conf → StandsForHistory member history → Grew link link' (Receive Failed ∷ []) → ReceiptCounts Failed lf lf'
    → Stepped conf (Round (suc k) []) (round_of k []) history (living others link clock words capture out lf f) (living others link' clock words capture out lf' f) member kept kept old (with_lost old) Done []
unfolding lost_part
lost_step others conf k history member link link' clock words capture out lf lf' f kept old is_set stands gave counts = record {
  part = lost_part others conf (Round (suc k) []) (round_of k []) history member link link' clock words capture out lf lf' f kept old is_set stands gave counts (round_lost none);
  outs = λ is. refl;
}

-- a datagram came
got_tallies : (conf : Conf) (history : History) (from : Addr) (bytes : List ℕ) (end : LifeEnd) → Tallies conf history [] (Receive (Got from bytes) ∷ []) end end
got_tallies conf history from bytes end = record { sent = refl; moved = refl; refused = refl; quiet = refl; lost = refl; turns = refl; why = refl }

-- behind an arrival comes another receipt of the round, or another call
arrive_behind : (time : ℤ) (from : Addr) (bytes : List ℕ) (moved : Bool) (k : ℕ) → IsBehind (Arrive time from bytes) (if moved then Calls [] else round_of k [])
arrive_behind time from bytes true k = tt
arrive_behind time from bytes false zero = tt
arrive_behind time from bytes false (suc k) = tt

arrival_behind : (time : ℤ) (from : Addr) (bytes : List ℕ) (k : ℕ) (outcome : Outcome) → IsBehind (Arrive time from bytes) (behind_arrival k outcome [])
arrival_behind time from bytes k outcome = arrive_behind time from bytes (is_some (offset_moved outcome)) k

-- with which an arrival is taken, whichever call ends it
got_runs : (others : Seen) (conf : Conf) (k : ℕ) (history : History) (member : Member) (from : Addr) (bytes : List ℕ) (link link' : Option (List LinkCall)) (clock : Option (List ClockCall)) (words capture out : Option (List ℕ)) (lf lf' : ℕ) (f : Faults) (after : Seen) (kept : ℕ) (old new : LifeEnd) (why : Why) (time : ℤ)
    → Grew link link' (Receive (Got from bytes) ∷ []) → ReceiptCounts (Got from bytes) lf lf'
    → (takes : Takes conf history (Arrive time from bytes) (Read time ∷ []) (living others link' clock words capture out lf' f) after member old new why)
    → (next : Need) → behind_arrival k (outcome_at conf history (Arrive time from bytes)) [] ≡ next
    → Runs conf (Round (suc k) []) next history (living others link clock words capture out lf f) after kept kept old new why
got_runs others conf k history member from bytes link link' clock words capture out lf lf' f after kept old new why time gave counts takes next behind =
    let got = Receive (Got from bytes) ∷ [] in
    let a = living others link clock words capture out lf f in
    let b = living others link' clock words capture out lf' f in
    let outcome = outcome_at conf history (Arrive time from bytes) in
    let B : Need → Type 0 = λ (n : Need). IsBehind (Arrive time from bytes) n in
    runs_takes conf (Round (suc k) []) next history (Arrive time from bytes) (record { clock = []; words = []; link = got }) (Read time ∷ []) a b after member kept kept old new why
    (does_receive others conf history link link' clock words capture out lf lf' f (Got from bytes) gave counts) (got_tallies conf history from bytes old) refl takes
    (λ cs ls need s. round_gets (round_arrives (subst (λ (n : Need). Weaves conf (Act outcome n) (Arrive time from bytes ∷ history) cs [] ls [] need) (sym behind) s)))
    (subst B behind (arrival_behind time from bytes k outcome)) (last_arrival conf history time from bytes) (λ is. arrival_reserved conf history time from bytes kept)

pub got_step : (others : Seen) (conf : Conf) (k : ℕ) (history : History) (member : Member) (from : Addr) (bytes : List ℕ) (link link' : Option (List LinkCall)) (clock : Option (List ClockCall)) (words capture out : Option (List ℕ)) (lf lf' : ℕ) (f : Faults) (after : Seen) (kept : ℕ) (old new : LifeEnd) (outcome : Outcome) (next : Need)
    → Grew link link' (Receive (Got from bytes) ∷ []) → ReceiptCounts (Got from bytes) lf lf'
    → TakesTo conf history (λ time. Arrive time from bytes) (living others link' clock words capture out lf' f) after member old new outcome
    → behind_arrival k outcome [] ≡ next
    → Stepped conf (Round (suc k) []) next history (living others link clock words capture out lf f) after member kept kept old new Done (outcome ∷ [])
unfolding got_runs
got_step others conf k history member from bytes link link' clock words capture out lf lf' f after kept old new outcome next gave counts to behind =
    let t = to.takes in
    let event = Arrive to.time from bytes in
    let taken : t.taken ≡ event ∷ [] = sym (whole_given t.deeds t.ending t.taken t.ends.0 t.takes) ∙ t.events in
    record {
      part = record {
        runs = got_runs others conf k history member from bytes link link' clock words capture out lf lf' f after kept old new Done to.time gave counts t next (ap (λ (o : Outcome). behind_arrival k o []) (sym to.leads) ∙ behind);
        is_set = t.is_set;
        stands = t.stands;
      };
      outs = λ is.
          ap (along (outcomes_in conf) history) (whole_deeds t.deeds t.ending t.taken t.ends.0 t.takes) ∙ ap (outs_of conf history) taken
          ∙ ap (λ (o : Outcome). o ∷ []) (sym to.leads);
    }

-- and the run ends
pub fault_step : (others : Seen) (conf : Conf) (k : ℕ) (history : History) (member : Member) (from : Addr) (bytes : List ℕ) (link link' : Option (List LinkCall)) (clock : Option (List ClockCall)) (words capture out : Option (List ℕ)) (lf lf' : ℕ) (f : Faults) (after : Seen) (kept : ℕ) (old new : LifeEnd) (why : Why) → why ≢ Done
    → Grew link link' (Receive (Got from bytes) ∷ []) → ReceiptCounts (Got from bytes) lf lf'
    → TakesAt conf history (λ time. Arrive time from bytes) (living others link' clock words capture out lf' f) after member old new why
    → Stepped conf (Round (suc k) []) (Calls []) history (living others link clock words capture out lf f) after member kept kept old new why []
unfolding got_runs
fault_step others conf k history member from bytes link link' clock words capture out lf lf' f after kept old new why not gave counts (inl stops) =
    let got = Receive (Got from bytes) ∷ [] in
    let a = living others link clock words capture out lf f in
    let b = living others link' clock words capture out lf' f in
    record {
      part = rw (stops.is_clock, stops.totals)
          (part_stops conf (Round (suc k) []) (RoundReading k from bytes []) (Calls []) history (record { clock = []; words = []; link = got }) a after member kept kept old ClockFault
          stops.is_set stops.stands (λ is. let bad : ⊥ = cc in bad) (got_tallies conf history from bytes old) (round_gets none)
          (does_then conf history (record { clock = []; words = []; link = got }) nothing [] [] Whole a b after
          (does_receive others conf history link link' clock words capture out lf lf' f (Got from bytes) gave counts) stops.does)
          (tt, tt, stops.failed));
      outs = λ is. absurd (not is);
    }
fault_step others conf k history member from bytes link link' clock words capture out lf lf' f after kept old new why not gave counts (inr (time, takes)) =
    let next = behind_arrival k (outcome_at conf history (Arrive time from bytes)) [] in
    record {
      part = part_short conf (Round (suc k) []) next (Calls []) history (living others link clock words capture out lf f) after member kept kept old new why not
          (record {
            runs = got_runs others conf k history member from bytes link link' clock words capture out lf lf' f after kept old new why time gave counts takes next refl;
            is_set = takes.is_set;
            stands = takes.stands;
          });
      outs = λ is. absurd (not is);
    }

-- ---- A round

-- So many receipts may be taken still. None of the replies so far was accepted, and this is the result so far.
pub record Rounded (left : ℕ) (history : History) (old new : Running) (before now : Seen) (result : ℕ) : Type 0 where
  pub came : List Outcome
  pub step : Stepped (conf_of (member_of old)) (Round 16 []) (round_of left []) history before now (member_of new) (kept_of old) (kept_of old) (totals_of old) (totals_of new) Done came
  pub results : Results came result

pub rounded_none : (history : History) (running : Running) (now : Seen) → StandsForHistory (member_of running) history → Rounded 16 history running running now now 1
unfolding runs_none
rounded_none history running now stands = record {
  came = [];
  step = record {
    part = record {
      runs = runs_none (conf_of (member_of running)) (Round 16 []) history now (kept_of running) (totals_of running) stands.grows;
      is_set = refl;
      stands = stands;
    };
    outs = λ is. refl;
  };
  results = results_none;
}

-- one receipt more, whatever comes of it
pub rounded_then : (k : ℕ) (history : History) (old mid : Running) (a b c : Seen) (member : Member) (end : LifeEnd) (why : Why) (result : ℕ) (next : Need) (outs : List Outcome)
    (was : Rounded (suc k) history old mid a b result)
    → ((later : History) → StandsForHistory (member_of mid) later → Stepped (conf_of (member_of mid)) (Round (suc k) []) next later b c member (kept_of old) (kept_of old) (totals_of mid) end why outs)
    → Stepped (conf_of (member_of old)) (Round 16 []) next history a c member (kept_of old) (kept_of old) (totals_of old) end why (was.came ++ outs)
rounded_then k history old mid a b c member end why result next outs was one =
    let conf = conf_of (member_of old) in
    stepped_then conf (Round 16 []) (Round (suc k) []) next history a b c (member_of mid) member (kept_of old) (kept_of old) (kept_of old) (totals_of old) (totals_of mid) end why was.came outs
    was.step one

-- the round is over
pub answers_ok : (conf : Conf) (history : History) (before now : Seen) (member : Member) (kept : ℕ) (old new : LifeEnd) (came : List Outcome) (n : ℕ)
    → Stepped conf (Round 16 []) (Calls []) history before now member kept kept old new Done came → n ≡ round_result came
    → RoundAnswers conf history before now member kept old new (Ok n)
answers_ok conf history before now member kept old new came n step is = record { part = step.part; answer = is ∙ ap round_result (sym (step.outs refl)) }

pub answers_err : (conf : Conf) (history : History) (before now : Seen) (member : Member) (kept : ℕ) (old new : LifeEnd) (came : List Outcome) (why : Why)
    → Stepped conf (Round 16 []) (Calls []) history before now member kept kept old new why came → RoundAnswers conf history before now member kept old new (Err why)
answers_err conf history before now member kept old new came why step = record { part = step.part; answer = tt }

-- a round between two receipts
pub record Rounds (taken : ℕ) (old new : Running) (result : ℕ) (words : Option (List ℕ)) (entropy disk : ℕ) (link link' : Option (List LinkCall)) (clock clock' : Option (List ClockCall)) (capture capture' out out' : Option (List ℕ)) (lf lf' cf cf' kf kf' of of' : ℕ) : Type 0 where
  pub left : ℕ
  pub sum : taken + left ≡ 16
  pub begun : IsBegun new
  pub none : SendsNone old new
  pub round : (others : Seen) (history : History) → StandsForHistory (member_of old) history
      → Rounded left history old new (living others link clock words capture out lf (faults cf entropy disk kf of)) (living others link' clock' words capture' out' lf' (faults cf' entropy disk kf' of')) result

sends_same : (running : Running) → SendsNone running running
sends_same running = record { keeper = refl; last = refl; greatest = refl }

pub sends_then : (old mid new : Running) → SendsNone old mid → SendsNone mid new → SendsNone old new
sends_then old mid new first next = record { keeper = next.keeper ∙ first.keeper; last = next.last ∙ first.last; greatest = next.greatest ∙ first.greatest }

pub rounds_none : (running : Running) (words : Option (List ℕ)) (entropy disk : ℕ) (link : Option (List LinkCall)) (clock : Option (List ClockCall)) (capture out : Option (List ℕ)) (lf cf kf of : ℕ) → IsBegun running
    → Rounds 0 running running 1 words entropy disk link link clock clock capture capture out out lf lf cf cf kf kf of of
rounds_none running words entropy disk link clock capture out lf cf kf of begun = record {
  left = 16;
  sum = refl;
  begun = begun;
  none = sends_same running;
  round = λ others history stands. rounded_none history running (living others link clock words capture out lf (faults cf entropy disk kf of)) stands;
}

module _ (done : ℕ) (old mid : Running) (result : ℕ) (words : Option (List ℕ)) (entropy disk : ℕ) (l0 l1 l2 : Option (List LinkCall)) (c0 c1 : Option (List ClockCall)) (k0 k1 o0 o1 : Option (List ℕ)) (lf0 lf1 lf2 cf0 cf1 kf0 kf1 of0 of1 : ℕ)
    (below : done < 16) (was : Rounds done old mid result words entropy disk l0 l1 c0 c1 k0 k1 o0 o1 lf0 lf1 cf0 cf1 kf0 kf1 of0 of1) where
  -- what was said of the receipts before
  earlier : (k : ℕ) → was.left ≡ suc k → (others : Seen) (history : History) → StandsForHistory (member_of old) history
      → Rounded (suc k) history old mid (living others l0 c0 words k0 o0 lf0 (faults cf0 entropy disk kf0 of0)) (living others l1 c1 words k1 o1 lf1 (faults cf1 entropy disk kf1 of1)) result
  earlier k is others history stands =
      let P : ℕ → Type 0 = λ (left : ℕ). Rounded left history old mid (living others l0 c0 words k0 o0 lf0 (faults cf0 entropy disk kf0 of0)) (living others l1 c1 words k1 o1 lf1 (faults cf1 entropy disk kf1 of1)) result in
      subst P is (was.round others history stands)

  -- an arrival that was not accepted
  pub rounds_got : (new : Running) (result' : ℕ) (from : Addr) (bytes : List ℕ) (outcome : Outcome) (l3 : Option (List LinkCall)) (c2 : Option (List ClockCall)) (k2 o2 : Option (List ℕ)) (lf3 cf2 kf2 of2 : ℕ)
      → Grew l1 l2 (Receive (Got from bytes) ∷ []) → ReceiptCounts (Got from bytes) lf1 lf2
      → ((others : Seen) (history : History) → StandsForHistory (member_of mid) history
      → TakesTo (conf_of (member_of mid)) history (λ time. Arrive time from bytes) (living others l2 c1 words k1 o1 lf2 (faults cf1 entropy disk kf1 of1))
      (living others l3 c2 words k2 o2 lf3 (faults cf2 entropy disk kf2 of2)) (member_of new) (totals_of mid) (totals_of new) outcome)
      → IsBegun new → SendsNone mid new → is_moved outcome ≡ false → ((came : List Outcome) → Results came result → Results (came ++ outcome ∷ []) result')
      → Rounds (done + 1) old new result' words entropy disk l0 l3 c0 c2 k0 k2 o0 o2 lf0 lf3 cf0 cf2 kf0 kf2 of0 of2
  rounds_got new result' from bytes outcome l3 c2 k2 o2 lf3 cf2 kf2 of2 gave counts leads begun sends moved results =
      let one = one_left 16 done was.left below was.sum in
      let k = one.0 in
      let behind : behind_arrival k outcome [] ≡ round_of k [] = ap (λ (b : Bool). if b then Calls [] else round_of k []) moved in
      record {
        left = k;
        sum = omega (arith, was.sum, one.1);
        begun = begun;
        none = sends_then old mid new was.none sends;
        round = λ others history stands.
            let before = earlier k one.1 others history stands in
            record {
              came = before.came ++ outcome ∷ [];
              step = rounded_then k history old mid _ _ _ (member_of new) (totals_of new) Done result (round_of k []) (outcome ∷ []) before
                  (λ later stood.
                  got_step others (conf_of (member_of mid)) k later (member_of new) from bytes l1 l2 c1 words k1 o1 lf1 lf2 (faults cf1 entropy disk kf1 of1)
                  (living others l3 c2 words k2 o2 lf3 (faults cf2 entropy disk kf2 of2)) (kept_of old) (totals_of mid) (totals_of new) outcome (round_of k []) gave counts
                  (leads others later stood) behind);
              results = results before.came before.results;
            };
      }

  -- a receive that failed
  pub rounds_lost : Grew l1 l2 (Receive Failed ∷ []) → ReceiptCounts Failed lf1 lf2
      → Rounds (done + 1) old (record mid { totals = with_lost mid.totals }) result words entropy disk l0 l2 c0 c1 k0 k1 o0 o1 lf0 lf2 cf0 cf1 kf0 kf1 of0 of1
  rounds_lost gave counts =
      let one = one_left 16 done was.left below was.sum in
      let k = one.0 in
      record {
        left = k;
        sum = omega (arith, was.sum, one.1);
        begun = record { history = was.begun.history; stands = was.begun.stands; begun = was.begun.begun; last = was.begun.last; greatest = was.begun.greatest };
        none = record { keeper = was.none.keeper; last = was.none.last; greatest = was.none.greatest };
        round = λ others history stands.
            let before = earlier k one.1 others history stands in
            record {
              came = before.came ++ [];
              step = rounded_then k history old mid _ _ _ (member_of mid) (with_lost mid.totals) Done result (round_of k []) [] before
                  (λ later stood. lost_step others (conf_of (member_of mid)) k later (member_of mid) l1 l2 c1 words k1 o1 lf1 lf2 (faults cf1 entropy disk kf1 of1) (kept_of old) (totals_of mid) refl stood gave counts);
              results = rw append-nil before.results;
            };
      }

  -- an accepted arrival ends the round
  pub round_moved : (member : Member) (end : LifeEnd) (from : Addr) (bytes : List ℕ) (outcome : Outcome) (l3 : Option (List LinkCall)) (c2 : Option (List ClockCall)) (k2 o2 : Option (List ℕ)) (lf3 cf2 kf2 of2 : ℕ)
      → Grew l1 l2 (Receive (Got from bytes) ∷ []) → ReceiptCounts (Got from bytes) lf1 lf2
      → ((others : Seen) (history : History) → StandsForHistory (member_of mid) history
      → TakesTo (conf_of (member_of mid)) history (λ time. Arrive time from bytes) (living others l2 c1 words k1 o1 lf2 (faults cf1 entropy disk kf1 of1))
      (living others l3 c2 words k2 o2 lf3 (faults cf2 entropy disk kf2 of2)) member (totals_of mid) end outcome)
      → is_moved outcome ≡ true → (others : Seen) (history : History) → StandsForHistory (member_of old) history
      → RoundAnswers (conf_of (member_of old)) history (living others l0 c0 words k0 o0 lf0 (faults cf0 entropy disk kf0 of0)) (living others l3 c2 words k2 o2 lf3 (faults cf2 entropy disk kf2 of2))
      member (kept_of old) (totals_of old) end (Ok 0)
  round_moved member end from bytes outcome l3 c2 k2 o2 lf3 cf2 kf2 of2 gave counts leads moved others history stands =
      let one = one_left 16 done was.left below was.sum in
      let k = one.0 in
      let behind : behind_arrival k outcome [] ≡ Calls [] = ap (λ (b : Bool). if b then Calls [] else round_of k []) moved in
      let before = earlier k one.1 others history stands in
      answers_ok (conf_of (member_of old)) history _ _ member (kept_of old) (totals_of old) end (before.came ++ outcome ∷ []) 0
      (rounded_then k history old mid _ _ _ member end Done result (Calls []) (outcome ∷ []) before
      (λ later stood.
      got_step others (conf_of (member_of mid)) k later member from bytes l1 l2 c1 words k1 o1 lf1 lf2 (faults cf1 entropy disk kf1 of1)
      (living others l3 c2 words k2 o2 lf3 (faults cf2 entropy disk kf2 of2)) (kept_of old) (totals_of mid) end outcome (Calls []) gave counts
      (leads others later stood) behind))
      (results_moved before.came outcome result before.results moved)

  -- and so does a quiet receipt
  pub round_quiet_at : Grew l1 l2 (Receive Quiet ∷ []) → ReceiptCounts Quiet lf1 lf2 → (others : Seen) (history : History) → StandsForHistory (member_of old) history
      → RoundAnswers (conf_of (member_of old)) history (living others l0 c0 words k0 o0 lf0 (faults cf0 entropy disk kf0 of0)) (living others l2 c1 words k1 o1 lf2 (faults cf1 entropy disk kf1 of1))
      (member_of mid) (kept_of old) (totals_of old) (with_quiet (totals_of mid)) (Ok result)
  round_quiet_at gave counts others history stands =
      let one = one_left 16 done was.left below was.sum in
      let k = one.0 in
      let before = earlier k one.1 others history stands in
      answers_ok (conf_of (member_of old)) history _ _ (member_of mid) (kept_of old) (totals_of old) (with_quiet (totals_of mid)) (before.came ++ []) result
      (rounded_then k history old mid _ _ _ (member_of mid) (with_quiet (totals_of mid)) Done result (Calls []) [] before
      (λ later stood. quiet_step others (conf_of (member_of mid)) k later (member_of mid) l1 l2 c1 words k1 o1 lf1 lf2 (faults cf1 entropy disk kf1 of1) (kept_of old) (totals_of mid) refl stood gave counts))
      (rw append-nil before.results.is)

  -- an arrival whose taking ends the run
  pub round_fault : (member : Member) (end : LifeEnd) (why : Why) (from : Addr) (bytes : List ℕ) (l3 : Option (List LinkCall)) (c2 : Option (List ClockCall)) (k2 o2 : Option (List ℕ)) (lf3 cf2 kf2 of2 : ℕ) → why ≢ Done
      → Grew l1 l2 (Receive (Got from bytes) ∷ []) → ReceiptCounts (Got from bytes) lf1 lf2
      → ((others : Seen) (history : History) → StandsForHistory (member_of mid) history
      → TakesAt (conf_of (member_of mid)) history (λ time. Arrive time from bytes) (living others l2 c1 words k1 o1 lf2 (faults cf1 entropy disk kf1 of1))
      (living others l3 c2 words k2 o2 lf3 (faults cf2 entropy disk kf2 of2)) member (totals_of mid) end why)
      → (others : Seen) (history : History) → StandsForHistory (member_of old) history
      → RoundAnswers (conf_of (member_of old)) history (living others l0 c0 words k0 o0 lf0 (faults cf0 entropy disk kf0 of0)) (living others l3 c2 words k2 o2 lf3 (faults cf2 entropy disk kf2 of2))
      member (kept_of old) (totals_of old) end (Err why)
  round_fault member end why from bytes l3 c2 k2 o2 lf3 cf2 kf2 of2 not gave counts takes others history stands =
      let one = one_left 16 done was.left below was.sum in
      let k = one.0 in
      let before = earlier k one.1 others history stands in
      answers_err (conf_of (member_of old)) history _ _ member (kept_of old) (totals_of old) end (before.came ++ []) why
      (rounded_then k history old mid _ _ _ member end why result (Calls []) [] before
      (λ later stood.
      fault_step others (conf_of (member_of mid)) k later member from bytes l1 l2 c1 words k1 o1 lf1 lf2 (faults cf1 entropy disk kf1 of1)
      (living others l3 c2 words k2 o2 lf3 (faults cf2 entropy disk kf2 of2)) (kept_of old) (totals_of mid) end why not gave counts (takes others later stood)))

-- all 16 receipts were taken
pub round_over : (done : ℕ) (old new : Running) (result : ℕ) (words : Option (List ℕ)) (entropy disk : ℕ) (l0 l1 : Option (List LinkCall)) (c0 c1 : Option (List ClockCall)) (k0 k1 o0 o1 : Option (List ℕ)) (lf0 lf1 cf0 cf1 kf0 kf1 of0 of1 : ℕ) → done ≡ 16
    → Rounds done old new result words entropy disk l0 l1 c0 c1 k0 k1 o0 o1 lf0 lf1 cf0 cf1 kf0 kf1 of0 of1
    → (others : Seen) (history : History) → StandsForHistory (member_of old) history
    → RoundAnswers (conf_of (member_of old)) history (living others l0 c0 words k0 o0 lf0 (faults cf0 entropy disk kf0 of0)) (living others l1 c1 words k1 o1 lf1 (faults cf1 entropy disk kf1 of1))
    (member_of new) (kept_of old) (totals_of old) (totals_of new) (Ok result)
round_over done old new result words entropy disk l0 l1 c0 c1 k0 k1 o0 o1 lf0 lf1 cf0 cf1 kf0 kf1 of0 of1 all was others history stands =
    let P : ℕ → Type 0 = λ (left : ℕ). Rounded left history old new (living others l0 c0 words k0 o0 lf0 (faults cf0 entropy disk kf0 of0)) (living others l1 c1 words k1 o1 lf1 (faults cf1 entropy disk kf1 of1)) result in
    let last = subst P (let empty : was.left ≡ 0 = omega (arith, was.sum, all) in empty) (was.round others history stands) in
    answers_ok (conf_of (member_of old)) history _ _ (member_of new) (kept_of old) (totals_of old) (totals_of new) last.came result last.step last.results.is
