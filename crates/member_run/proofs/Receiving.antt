-- A receipt, and the arrival of what was received.
use Rattle.std.proofs.Common.{◌≡◌, inl, inr, ℕ, ℤ, Bool, List, [], ◌∷◌, map, Option, Result, Ok, Err, IfOk, refl, subst, arith}
use Rattle.base_specs.specs.Counts.{Fails}
use Rattle.base_specs.specs.Told.{Grew}
use Rattle.edge_traits.specs.declared.datagram.Addr.{Addr}
use Rattle.edge_traits.specs.declared.link.Receipt.TheVariants.{Got, Quiet, Failed}
use Rattle.edge_traits.specs.Clock.{ClockCall, GaveReadings, Read}
use Rattle.edge_traits.specs.Link.{LinkCall, Receive, ReceiptCounts, Send}
use Rattle.capture_fmt.specs.declared.event.Event.{Event}
use Rattle.capture_fmt.specs.declared.event.Event.TheVariants.{Arrive}
use Rattle.time_machine.specs.declared.conf.Conf.{Conf}
use Rattle.time_machine.specs.declared.outcome.How.{How}
use Rattle.time_machine.specs.declared.outcome.Outcome.{Outcome}
use Rattle.time_machine.specs.declared.outcome.Reason.{Reason}
use Rattle.time_machine.specs.Events.{History}
use Rattle.time_machine.specs.Growing.{Grows}
use Rattle.time_machine.specs.Machine.{outcome_at, told}
use Rattle.time_machine.specs.Verdict.{verdict_at}
use Rattle.time_machine.specs.Told.{Told}
use Rattle.time_machine.specs.Words.{words}
use Rattle.time_machine.proofs.After.{verdict_cases}
use Rattle.sntp_core.specs.declared.member.Member.{Member}
use Rattle.sntp_core.specs.Standing.{StandsForHistory, conf_of}
use Rattle.run_deeds.specs.declared.life_end.LifeEnd.{LifeEnd}
use Rattle.run_deeds.specs.declared.life_end.Why.{Why}
use Rattle.run_deeds.specs.declared.life_end.Why.TheVariants.{Done, ClockFault}
use Rattle.run_deeds.specs.Counting.{with_lost, with_quiet}
use Rattle.run_deeds.specs.Deeds.{Whole}
use Rattle.edge_seen.specs.Seen.{Seen}
use Rattle.run_deeds.specs.Devices.{Faults, IsBehind, NeedsReading, faults, nothing, living, faults_of}
use Rattle.run_deeds.specs.Marks.{Reserved}
use Rattle.run_deeds.specs.Parts.{Part, Tallies, why_of}
use Rattle.run_deeds.specs.Weaving.{Act, Need, Weaves}
use Rattle.run_deeds.proofs.Doing.{does_read, does_receive, does_then}
use Rattle.run_deeds.proofs.Stopping.{does_still}
use Rattle.member_run.specs.declared.running.Running.{Running}
use Rattle.member_run.specs.Taking.{IsTaken, TakeEnds, Takes, TakesAt, TakesTo}
use Rattle.member_run.proofs.Parting.{last_arrival, part_stops, part_takes}

-- ---- The reading of an arrival

-- the clock failed
pub unread : (others : Seen) (conf : Conf) (history : History) (event : ℤ → Event) (member : Member) (link : Option (List LinkCall)) (clock clock' : Option (List ClockCall)) (words capture out : Option (List ℕ))
    (lf cf cf' ef df kf of : ℕ) (end : LifeEnd) (why : Why)
    → conf_of member ≡ conf → StandsForHistory member history → why ≡ ClockFault → clock' ≡ clock → Fails cf cf'
    → TakesAt conf history event (living others link clock words capture out lf (faults cf ef df kf of)) (living others link clock' words capture out lf (faults cf' ef df kf of)) member end end why
unread others conf history event member link clock clock' words capture out lf cf cf' ef df kf of end why is_set stands is same fails =
    inl (record {
      is_clock = is;
      does = rw same (does_still others conf history link clock words capture out lf (faults cf ef df kf of) (faults cf' ef df kf of));
      is_set = is_set;
      stands = stands;
      totals = refl;
      failed = (fails, refl);
    })

-- the event is taken at the reading
abbrev pub read_takes : (others : Seen) (conf : Conf) (history : History) (event : Event) (link : Option (List LinkCall)) (clock clock' : Option (List ClockCall)) (words capture out : Option (List ℕ))
    (lf cf cf' ef df kf of : ℕ) (member : Member) (after : Seen) (old new : LifeEnd) (why : Why) (time : ℤ)
    → GaveReadings clock clock' (time ∷ []) → cf' ≡ cf
    → Takes conf history event [] (living others link clock' words capture out lf (faults cf' ef df kf of)) after member old new why
    → Takes conf history event (Read time ∷ []) (living others link clock words capture out lf (faults cf ef df kf of)) after member old new why
read_takes others conf history event link clock clock' words capture out lf cf cf' ef df kf of member after old new why time gave read takes =
    record {
      made = takes.made;
      tried = takes.tried;
      deeds = takes.deeds;
      ending = takes.ending;
      events = takes.events;
      taken = takes.taken;
      takes = takes.takes;
      acts = takes.acts;
      does = does_then conf history (record { clock = Read time ∷ []; words = []; link = [] }) (record { clock = takes.made; words = []; link = map Send takes.tried }) [] takes.deeds takes.ending
          (living others link clock words capture out lf (faults cf ef df kf of)) (living others link clock' words capture out lf (faults cf' ef df kf of)) after
          (does_read others conf history link clock clock' words capture out lf (faults cf ef df kf of) (faults cf' ef df kf of) time gave) takes.does;
      is_set = takes.is_set;
      stands = takes.stands;
      tallies = takes.tallies;
      ends = subst (λ (f : Faults). TakeEnds why takes.ending f (faults_of after)) (λ i. faults (read i) ef df kf of) takes.ends;
    }

pub takes_read : (others : Seen) (conf : Conf) (history : History) (event : ℤ → Event) (member : Member) (link : Option (List LinkCall)) (clock clock' : Option (List ClockCall)) (words capture out : Option (List ℕ))
    (lf cf cf' ef df kf of : ℕ) (after : Seen) (old new : LifeEnd) (why : Why) (time : ℤ)
    → GaveReadings clock clock' (time ∷ []) → cf' ≡ cf
    → Takes conf history (event time) [] (living others link clock' words capture out lf (faults cf' ef df kf of)) after member old new why
    → TakesAt conf history event (living others link clock words capture out lf (faults cf ef df kf of)) after member old new why
takes_read others conf history event member link clock clock' words capture out lf cf cf' ef df kf of after old new why time gave read takes =
    inr (time, read_takes others conf history (event time) link clock clock' words capture out lf cf cf' ef df kf of member after old new why time gave read takes)

-- and leads to this
pub takes_to : (others : Seen) (conf : Conf) (history : History) (event : ℤ → Event) (member : Member) (link : Option (List LinkCall)) (clock clock' : Option (List ClockCall)) (words capture out : Option (List ℕ))
    (lf cf cf' ef df kf of : ℕ) (after : Seen) (old new : LifeEnd) (time : ℤ) (outcome : Outcome)
    → GaveReadings clock clock' (time ∷ []) → cf' ≡ cf
    → Takes conf history (event time) [] (living others link clock' words capture out lf (faults cf' ef df kf of)) after member old new Done
    → outcome ≡ outcome_at conf history (event time)
    → TakesTo conf history event (living others link clock words capture out lf (faults cf ef df kf of)) after member old new outcome
takes_to others conf history event member link clock clock' words capture out lf cf cf' ef df kf of after old new time outcome gave read takes leads = record {
  time = time;
  takes = read_takes others conf history (event time) link clock clock' words capture out lf cf cf' ef df kf of member after old new Done time gave read takes;
  leads = leads;
}

-- ---- The receipt

-- an arrival is no reason to reserve a block
arrived_reserved : (now : ℤ) (from : Addr) (bytes : List ℕ) (changes : Bool) (partner kept : ℕ) (conf : Conf) (before : List Told)
    → Reserved kept before → Reserved kept (record { event = Arrive now from bytes; changes = changes; partner = partner; outcome = verdict_at conf (words conf before) now from bytes } ∷ before)
arrived_reserved now from bytes changes partner kept conf before was =
    verdict_cases
    (λ (o : Outcome). Reserved kept (record { event = Arrive now from bytes; changes = changes; partner = partner; outcome = o } ∷ before))
    (λ (reason : Reason). record { blocks = was.blocks; within = omega (arith, was.within); needed = omega (arith, was.needed) })
    conf (words conf before) now from bytes
    (λ r is (offset : ℤ) (how : How). record { blocks = was.blocks; within = omega (arith, was.within); needed = omega (arith, was.needed) })

pub arrival_reserved : (conf : Conf) (history : History) (now : ℤ) (from : Addr) (bytes : List ℕ) (kept : ℕ)
    → Reserved kept (told conf history) → Reserved kept (told conf (Arrive now from bytes ∷ history))
unfolding told
arrival_reserved conf history now from bytes kept was = arrived_reserved now from bytes _ _ kept conf (told conf history) was

-- nothing came
unfoldable pub quiet_part : (others : Seen) (conf : Conf) (from next : Need) (history : History) (member : Member) (link link' : Option (List LinkCall)) (clock : Option (List ClockCall)) (words capture out : Option (List ℕ))
    (lf lf' : ℕ) (f : Faults) (kept : ℕ) (old : LifeEnd)
    → conf_of member ≡ conf → StandsForHistory member history → Grew link link' (Receive Quiet ∷ []) → ReceiptCounts Quiet lf lf'
    → Weaves conf from history [] [] (Receive Quiet ∷ []) [] next
    → Part conf from next history (living others link clock words capture out lf f) (living others link' clock words capture out lf' f) member kept kept old (with_quiet old) Done
quiet_part others conf from next history member link link' clock words capture out lf lf' f kept old is_set stands gave counts weaves = record {
  runs = record {
    given = record { clock = []; words = []; link = Receive Quiet ∷ [] };
    deeds = [];
    ending = Whole;
    need = next;
    weaves = weaves;
    does = does_receive others conf history link link' clock words capture out lf lf' f Quiet gave counts;
    taken = [];
    takes = refl;
    grows = subst (λ (set : Conf). Grows set history) is_set stands.grows;
    tallies = record { sent = refl; moved = refl; refused = refl; quiet = refl; lost = refl; turns = refl; why = refl };
    ends = (tt, refl);
    last_call = tt;
    well = λ is. refl;
    reserved = λ is was. was;
  };
  is_set = is_set;
  stands = stands;
}

-- the receive failed
unfoldable pub lost_part : (others : Seen) (conf : Conf) (from next : Need) (history : History) (member : Member) (link link' : Option (List LinkCall)) (clock : Option (List ClockCall)) (words capture out : Option (List ℕ))
    (lf lf' : ℕ) (f : Faults) (kept : ℕ) (old : LifeEnd)
    → conf_of member ≡ conf → StandsForHistory member history → Grew link link' (Receive Failed ∷ []) → ReceiptCounts Failed lf lf'
    → Weaves conf from history [] [] (Receive Failed ∷ []) [] next
    → Part conf from next history (living others link clock words capture out lf f) (living others link' clock words capture out lf' f) member kept kept old (with_lost old) Done
lost_part others conf from next history member link link' clock words capture out lf lf' f kept old is_set stands gave counts weaves = record {
  runs = record {
    given = record { clock = []; words = []; link = Receive Failed ∷ [] };
    deeds = [];
    ending = Whole;
    need = next;
    weaves = weaves;
    does = does_receive others conf history link link' clock words capture out lf lf' f Failed gave counts;
    taken = [];
    takes = refl;
    grows = subst (λ (set : Conf). Grows set history) is_set stands.grows;
    tallies = record { sent = refl; moved = refl; refused = refl; quiet = refl; lost = refl; turns = refl; why = refl };
    ends = (tt, refl);
    last_call = tt;
    well = λ is. refl;
    reserved = λ is was. was;
  };
  is_set = is_set;
  stands = stands;
}

-- a datagram came, which is taken at the next reading, or the clock failed
pub got_part : (others : Seen) (conf : Conf) (start need next : Need) (history : History) (member : Member) (from : Addr) (bytes : List ℕ) (link link' : Option (List LinkCall)) (clock : Option (List ClockCall)) (words capture out : Option (List ℕ))
    (lf lf' : ℕ) (f : Faults) (after : Seen) (kept : ℕ) (old new : LifeEnd) (why : Why)
    → Grew link link' (Receive (Got from bytes) ∷ []) → ReceiptCounts (Got from bytes) lf lf' → NeedsReading need
    → Weaves conf start history [] [] (Receive (Got from bytes) ∷ []) [] need
    → ((time : ℤ) (cs : List ClockCall) (ls : List LinkCall) (need : Need) → Weaves conf (Act (outcome_at conf history (Arrive time from bytes)) next) (Arrive time from bytes ∷ history) cs [] ls [] need
    → Weaves conf start history (Read time ∷ cs) [] (Receive (Got from bytes) ∷ ls) (Arrive time from bytes ∷ []) need) → ((time : ℤ) → IsBehind (Arrive time from bytes) next)
    → TakesAt conf history (λ time. Arrive time from bytes) (living others link' clock words capture out lf' f) after member old new why
    → Part conf start next history (living others link clock words capture out lf f) after member kept kept old new why
got_part others conf start need next history member from bytes link link' clock words capture out lf lf' f after kept old new why gave counts reading waits weaves behind (inl stops) =
    let a = living others link clock words capture out lf f in
    let b = living others link' clock words capture out lf' f in
    let got = Receive (Got from bytes) ∷ [] in
    let counted : Tallies conf history [] got old old = record { sent = refl; moved = refl; refused = refl; quiet = refl; lost = refl; turns = refl; why = refl } in
    rw (stops.is_clock, stops.totals)
    (part_stops conf start need next history (record { clock = []; words = []; link = got }) a after member kept kept old ClockFault
    stops.is_set stops.stands (λ is. cc is) counted waits
    (does_then conf history (record { clock = []; words = []; link = got }) nothing [] [] Whole a b after
    (does_receive others conf history link link' clock words capture out lf lf' f (Got from bytes) gave counts) stops.does)
    (tt, reading, stops.failed))
got_part others conf start need next history member from bytes link link' clock words capture out lf lf' f after kept old new why gave counts reading waits weaves behind (inr (time, takes)) =
    let a = living others link clock words capture out lf f in
    let b = living others link' clock words capture out lf' f in
    let got = Receive (Got from bytes) ∷ [] in
    let counted : Tallies conf history [] got old old = record { sent = refl; moved = refl; refused = refl; quiet = refl; lost = refl; turns = refl; why = refl } in
    part_takes conf start next history (Arrive time from bytes) (record { clock = []; words = []; link = got }) (Read time ∷ []) a b after member kept kept old new why
    (does_receive others conf history link link' clock words capture out lf lf' f (Got from bytes) gave counts) counted refl takes (weaves time) (behind time) (last_arrival conf history time from bytes) (arrival_reserved conf history time from bytes kept)

-- what an arrival answers is what it led to, at the reading that it was taken at
pub led_to : (result : Result Outcome Why) (old new : Running) (now : ℤ) (from : Addr) (bytes : List ℕ) (words : Option (List ℕ)) (entropy disk : ℕ) (link link' : Option (List LinkCall)) (clock clock' clock'' : Option (List ClockCall)) (capture capture' out out' : Option (List ℕ)) (lf lf' cf cf' cf'' kf kf' of of' : ℕ)
    → GaveReadings clock clock' (now ∷ []) → cf' ≡ cf
    → ((others : Seen) (history : History) → StandsForHistory old.member history
    → Takes (conf_of old.member) history (Arrive now from bytes) [] (living others link clock' words capture out lf (faults cf' entropy disk kf of))
    (living others link' clock'' words capture' out' lf' (faults cf'' entropy disk kf' of')) new.member old.totals new.totals (why_of result))
    → IfOk result (IsTaken old new (Arrive now from bytes))
    → IfOk result (λ outcome. (others : Seen) (history : History) → StandsForHistory old.member history
    → TakesTo (conf_of old.member) history (λ time. Arrive time from bytes) (living others link clock words capture out lf (faults cf entropy disk kf of))
    (living others link' clock'' words capture' out' lf' (faults cf'' entropy disk kf' of')) new.member old.totals new.totals outcome)
led_to (Ok outcome) old new now from bytes words entropy disk link link' clock clock' clock'' capture capture' out out' lf lf' cf cf' cf'' kf kf' of of' gave read takes taken =
    λ others history stands.
    takes_to others (conf_of old.member) history (λ (time : ℤ). Arrive time from bytes) new.member link clock clock' words capture out lf cf cf' entropy disk kf of
    (living others link' clock'' words capture' out' lf' (faults cf'' entropy disk kf' of')) old.totals new.totals now outcome gave read (takes others history stands) (taken.steps history stands).0
led_to (Err why) old new now from bytes words entropy disk link link' clock clock' clock'' capture capture' out out' lf lf' cf cf' cf'' kf kf' of of' gave read takes taken = tt
