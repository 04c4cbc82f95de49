-- What a run knows of its counts after one more event.
use Rattle.std.proofs.Common.{◌≡◌, inl, inr, ◌<◌, ℕ, ℤ, List, ◌∷◌, IsTrue, IfErr, IfOk, OnErr, Result, Ok, Err, sym, ◌∙◌, ap, subst, arith}
use Rattle.edge_traits.specs.declared.datagram.Addr.{Addr}
use Rattle.capture_fmt.specs.declared.event.Event.{Event}
use Rattle.capture_fmt.specs.declared.event.Event.TheVariants.{Arrive}
use Rattle.time_machine.specs.declared.outcome.Outcome.{Outcome}
use Rattle.time_machine.specs.Words.{Words}
use Rattle.time_machine.specs.Machine.{outcome_by}
use Rattle.time_machine.specs.After.{after}
use Rattle.slot_disk.specs.Told.{DiskTold}
use Rattle.stamp_keep.specs.Keep.{KeepsMarks, kept_mark}
use Rattle.sntp_core.specs.Standing.{conf_of, words_of}
use Rattle.sntp_core.proofs.Standings.{answer_stands}
use Rattle.run_deeds.specs.declared.life_end.Why.{Why}
use Rattle.run_deeds.specs.declared.life_end.Why.TheVariants.{SinkFault}
use Rattle.run_deeds.specs.Marks.{Covers, asks}
use Rattle.member_run.specs.declared.running.Running.{Running}
use Rattle.member_run.specs.Running.{IsBegun, IsGoing, IsOfReceipt, SendsNone, greatest_of, kept_of}
use Rattle.member_run.specs.Taking.{IsCut, IsTaken, last_after}
use Rattle.member_run.proofs.Counts.{CountsOn, SameCounts, arrive_last, arrive_same, asks_counts, words_step}

-- an event was taken for which a count had to be there
pub taken_counts : (old new : Running) (event : Event) (outcome : Outcome) → IsTrue (asks event) → (was : IsBegun old) → IsTaken old new event outcome
    → CountsOn (words_of new.member) old.last new.last
taken_counts old new event outcome is was taken =
    let m = old.member in
    let conf = conf_of m in
    let step = taken.steps was.history was.stands in
    let counts = asks_counts conf (words_of m) event old.last is was.begun was.last was.greatest in
    let leads : outcome ≡ outcome_by conf (words_of m) event = step.0 ∙ sym (answer_stands m was.history event was.stands) in
    let last : new.last ≡ last_after (outcome_by conf (words_of m) event) old.last = taken.last ∙ ap (λ (o : Outcome). last_after o old.last) leads in
    let same : words_of new.member ≡ after conf (words_of m) event = words_step m new.member was.history event was.stands step.1 taken.conf in
    subst (λ (n : ℕ). CountsOn (words_of new.member) old.last n) (sym last)
    (subst (λ (w : Words). CountsOn w old.last (last_after (outcome_by conf (words_of m) event) old.last)) (sym same) counts)

pub begun_on : (old new : Running) (event : Event) (outcome : Outcome) → IsTrue (asks event) → IsBegun old → IsTaken old new event outcome → IsBegun new
begun_on old new event outcome is was taken =
    let counts = taken_counts old new event outcome is was taken in
    record {
      history = event ∷ was.history;
      stands = (taken.steps was.history was.stands).1;
      begun = counts.begun;
      last = counts.last;
      greatest = counts.greatest;
    }

-- a call may follow
pub going_on : (disk : DiskTold) (old new : Running) (event : Event) (outcome : Outcome) → IsTrue (asks event) → IsGoing disk old → old.last < kept_of old
    → IsTaken old new event outcome → IsGoing disk new
going_on disk old new event outcome is was room taken =
    let counts = taken_counts old new event outcome is was.begun taken in
    let same : kept_of new ≡ kept_of old = ap kept_mark taken.keeper in
    record {
      begun = begun_on old new event outcome is was.begun taken;
      fits = rw taken.keeper was.fits;
      within = omega (arith, counts.once, room, same);
      below = omega (arith, was.below, same);
    }

-- whether it was taken or not, the disk covers each count that was sent
pub covers_cut : (disk : DiskTold) (old new : Running) (event : Event) → IsTrue (asks event) → IsGoing disk old → old.last < kept_of old
    → IsCut old new event → Covers disk (greatest_of new)
covers_cut disk old new event is was room (inl same) = record {
  each = λ image left. omega (arith, was.fits.stands image left, was.begun.greatest, was.within, ap greatest_of same);
}
covers_cut disk old new event is was room (inr (outcome, taken)) =
    let counts = taken_counts old new event outcome is was.begun taken in
    record { each = λ image left. omega (arith, was.fits.stands image left, counts.greatest, counts.once, room) }

-- ---- An arrival

-- an arrival that was taken sends nothing
pub arrival_counts : (old new : Running) (now : ℤ) (from : Addr) (bytes : List ℕ) (outcome : Outcome) → (was : IsBegun old) → IsTaken old new (Arrive now from bytes) outcome
    → SameCounts (words_of old.member) (words_of new.member)
arrival_counts old new now from bytes outcome was taken =
    let m = old.member in
    let step = taken.steps was.history was.stands in
    let same : words_of new.member ≡ after (conf_of m) (words_of m) (Arrive now from bytes) =
    words_step m new.member was.history (Arrive now from bytes) was.stands step.1 taken.conf in
    subst (λ (w : Words). SameCounts (words_of m) w) (sym same) (arrive_same (conf_of m) (words_of m) now from bytes)

arrival_last : (old new : Running) (now : ℤ) (from : Addr) (bytes : List ℕ) (outcome : Outcome) → (was : IsBegun old) → IsTaken old new (Arrive now from bytes) outcome
    → new.last ≡ old.last
arrival_last old new now from bytes outcome was taken =
    let m = old.member in
    let step = taken.steps was.history was.stands in
    let leads : outcome ≡ outcome_by (conf_of m) (words_of m) (Arrive now from bytes) =
    step.0 ∙ sym (answer_stands m was.history (Arrive now from bytes) was.stands) in
    taken.last ∙ ap (λ (o : Outcome). last_after o old.last) leads ∙ arrive_last (conf_of m) (words_of m) now from bytes old.last

pub arrival_sends_none : (old new : Running) (now : ℤ) (from : Addr) (bytes : List ℕ) (outcome : Outcome) → IsBegun old → IsTaken old new (Arrive now from bytes) outcome
    → SendsNone old new
arrival_sends_none old new now from bytes outcome was taken = record {
  keeper = taken.keeper;
  last = arrival_last old new now from bytes outcome was taken;
  greatest = (arrival_counts old new now from bytes outcome was taken).greatest;
}

pub arrival_begun : (old new : Running) (now : ℤ) (from : Addr) (bytes : List ℕ) (outcome : Outcome) → IsBegun old → IsTaken old new (Arrive now from bytes) outcome → IsBegun new
arrival_begun old new now from bytes outcome was taken =
    let counts = arrival_counts old new now from bytes outcome was taken in
    let last = arrival_last old new now from bytes outcome was taken in
    record {
      history = Arrive now from bytes ∷ was.history;
      stands = (taken.steps was.history was.stands).1;
      begun = rw counts.mark was.begun;
      last = rw (last, counts.mark, counts.sent) was.last;
      greatest = omega (arith, last, counts.greatest, was.greatest);
    }

-- and so does one that was taken but for its line, or not at all
pub cut_sends_none : (old new : Running) (now : ℤ) (from : Addr) (bytes : List ℕ) → IsBegun old → IsCut old new (Arrive now from bytes) → SendsNone old new
cut_sends_none old new now from bytes was (inl same) = record { keeper = ap (λ (r : Running). r.keeper) same; last = ap (λ (r : Running). r.last) same; greatest = ap greatest_of same }
cut_sends_none old new now from bytes was (inr (outcome, taken)) = arrival_sends_none old new now from bytes outcome was taken

pub cut_begun : (old new : Running) (now : ℤ) (from : Addr) (bytes : List ℕ) → IsBegun old → IsCut old new (Arrive now from bytes) → IsBegun new
cut_begun old new now from bytes was (inl same) = subst IsBegun (sym same) was
cut_begun old new now from bytes was (inr (outcome, taken)) = arrival_begun old new now from bytes outcome was taken

-- whatever the answer is
pub arrived_begun : (result : Result Outcome Why) (old new : Running) (now : ℤ) (from : Addr) (bytes : List ℕ) → IsBegun old
    → IfOk result (IsTaken old new (Arrive now from bytes)) → OnErr result (IsCut old new (Arrive now from bytes)) → IsBegun new
arrived_begun (Ok outcome) old new now from bytes was taken cut = arrival_begun old new now from bytes outcome was taken
arrived_begun (Err why) old new now from bytes was taken cut = cut_begun old new now from bytes was cut

pub arrived_sends_none : (result : Result Outcome Why) (old new : Running) (now : ℤ) (from : Addr) (bytes : List ℕ) → IsBegun old
    → IfOk result (IsTaken old new (Arrive now from bytes)) → OnErr result (IsCut old new (Arrive now from bytes)) → SendsNone old new
arrived_sends_none (Ok outcome) old new now from bytes was taken cut = arrival_sends_none old new now from bytes outcome was taken
arrived_sends_none (Err why) old new now from bytes was taken cut = cut_sends_none old new now from bytes was cut

-- a sink's fault is one that a receipt may end with
pub sink_of_receipt : {A : Type 0} (result : Result A Why) → OnErr result (result ≡ Err SinkFault) → IfErr result IsOfReceipt
sink_of_receipt (Ok given) is = tt
sink_of_receipt (Err why) is =
    let sink : why ≡ SinkFault = cc is in
    subst IsOfReceipt (sym sink) tt

-- ---- The disk

-- where a call may follow, the disk covers each count that was sent
pub covers_going : (disk : DiskTold) (running : Running) → IsGoing disk running → Covers disk (greatest_of running)
covers_going disk running going = record { each = λ image left. omega (arith, going.fits.stands image left, going.begun.greatest, going.within) }

-- and so it does behind calls that keep its marks
pub covers_still : (old new : DiskTold) (running : Running) → IsGoing old running → KeepsMarks old new → Covers new (greatest_of running)
covers_still old new running going keeps = record {
  each = λ image left.
      let was = keeps.least image left in
      omega (arith, going.fits.stands was.0 was.1, was.2, going.begun.greatest, going.within);
}

-- the keeper stays
pub cut_keeper : (old new : Running) (event : Event) → IsCut old new event → kept_of new ≡ kept_of old
cut_keeper old new event (inl same) = ap kept_of same
cut_keeper old new event (inr (outcome, taken)) = ap kept_mark taken.keeper

-- a receipt changes nothing of it
pub going_received : (disk : DiskTold) (old new : Running) → IsGoing disk old → SendsNone old new → IsBegun new → IsGoing disk new
going_received disk old new was none begun =
    let kept : kept_of new ≡ kept_of old = ap kept_mark none.keeper in
    record {
      begun = begun;
      fits = rw none.keeper was.fits;
      within = omega (arith, none.last, was.within, kept);
      below = omega (arith, was.below, kept);
    }

pub covers_received : (disk : DiskTold) (old new : Running) → IsGoing disk old → SendsNone old new → Covers disk (greatest_of new)
covers_received disk old new was none = rw none.greatest (covers_going disk old was)
