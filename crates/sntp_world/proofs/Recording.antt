-- What an operation adds to the history, to its records and to the numbers.
use Rattle.std.proofs.Common.{◌≡◌, ℕ, ◌+◌, List, [], ◌∷◌, ◌++◌, refl, sym, ap, ◌∙◌, subst, arith, append-nil, is_some, if◌then◌else◌}
use Rattle.std.specs.Prelude.{reverse}
use Rattle.std.specs.List.{flat_map}
use Rattle.std.proofs.lemmas.Grind.{flat_map-append}
use Rattle.std.proofs.lemmas.List.{reverse-append}
use Rattle.capture_fmt.specs.declared.event.Event.{Event}
use Rattle.capture_fmt.specs.declared.event.Event.TheVariants.{Life, Tick, Resync, Arrive}
use Rattle.capture_fmt.specs.Record.{event_bytes}
use Rattle.time_machine.specs.declared.outcome.Outcome.{Outcome}
use Rattle.time_machine.specs.declared.outcome.Outcome.TheVariants.{Started, Idle, Sent, Moved, Refused}
use Rattle.time_machine.specs.Entries.{count_of}
use Rattle.time_machine.specs.Events.{History}
use Rattle.time_machine.specs.Told.{request_sent, offset_moved}
use Rattle.time_machine.specs.Words.{words}
use Rattle.time_machine.specs.Machine.{outcome_at, outcome_by, told}
use Rattle.sntp_world.specs.declared.due.Due.{Due}
use Rattle.sntp_world.specs.declared.due.Due.TheVariants as due
use Rattle.sntp_world.specs.declared.op.Effect.{Effect}
use Rattle.sntp_world.specs.declared.op.Effect.TheVariants as effect
use Rattle.sntp_world.specs.declared.totals.Totals.{Totals}
use Rattle.sntp_world.specs.Due.{IsDoneBy}
use Rattle.sntp_world.specs.Running.{AreTotals, IsCountedOnce, counted, counted_outcome, record_due, records_of}
use Rattle.sntp_world.specs.Setting.{world_conf}
use Rattle.sntp_world.specs.State.{State}
use Rattle.sntp_world.specs.Steps.{Leaves}
use Rattle.sntp_world.specs.Summary.{is_refused}
use Rattle.sntp_world.proofs.Histories.{history_after}

-- ---- Records

-- the records of a history with more events behind
pub records_more : (more history : History) → records_of (more ++ history) ≡ records_of history ++ flat_map event_bytes (reverse more)
records_more more history =
    ap (flat_map event_bytes) (reverse-append more history) ∙ flat_map-append event_bytes (reverse history) (reverse more)

-- one event more is one record more
pub records_one : (e : Event) (history : History) → records_of (e ∷ history) ≡ records_of history ++ event_bytes e
records_one e history =
    records_more (e ∷ []) history ∙ ap (λ (b : List ℕ). records_of history ++ b) (append-nil (event_bytes e))

-- what is done adds the record of its event, where it has one
pub records_done : (d : Due) (w : State) (eff : Effect) (now : State) → IsDoneBy d w eff now → records_of now.history ≡ records_of w.history ++ record_due d
records_done due.Nothing w eff now is = ap (λ (s : State). records_of s.history) is.1 ∙ sym (append-nil (records_of w.history))
records_done (due.Time at) w eff now is = ap (λ (s : State). records_of s.history) is.1 ∙ sym (append-nil (records_of w.history))
records_done (due.Answer bytes) w eff now is = ap (λ (s : State). records_of s.history) is.now_is ∙ sym (append-nil (records_of w.history))
records_done (due.Take e) w eff now is = ap records_of (history_after w e _ now is.1) ∙ records_one e w.history

-- ---- Numbers

-- what an outcome adds to each number
record Adds (e : Event) (o : Outcome) (sent moved refused : ℕ) (n : Totals) : Type 0 where
  sent_is : n.sent ≡ sent + (if is_some (request_sent e o) then 1 else 0)
  moved_is : n.moved ≡ moved + (if is_some (offset_moved o) then 1 else 0)
  refused_is : n.refused ≡ refused + (if is_refused o then 1 else 0)

adds : (e : Event) (o : Outcome) (n : Totals) (sent moved refused : ℕ) → n.sent ≡ sent → n.moved ≡ moved → n.refused ≡ refused → Adds e o sent moved refused (counted_outcome o n)
adds e (Sent to count bytes) n sent moved refused s m r = record { sent_is = omega (arith, s); moved_is = omega (arith, m); refused_is = omega (arith, r) }
adds e (Moved count offset how) n sent moved refused s m r = record { sent_is = omega (arith, s); moved_is = omega (arith, m); refused_is = omega (arith, r) }
adds e (Refused reason) n sent moved refused s m r = record { sent_is = omega (arith, s); moved_is = omega (arith, m); refused_is = omega (arith, r) }
adds e (Started mark) n sent moved refused s m r = record { sent_is = omega (arith, s); moved_is = omega (arith, m); refused_is = omega (arith, r) }
adds e Idle n sent moved refused s m r = record { sent_is = omega (arith, s); moved_is = omega (arith, m); refused_is = omega (arith, r) }

-- the numbers of a history
record AreNumbers (history : History) (n : Totals) : Type 0 where
  sent_are : n.sent ≡ count_of (λ t. is_some (request_sent t.event t.outcome)) (told world_conf history)
  moved_are : n.moved ≡ count_of (λ t. is_some (offset_moved t.outcome)) (told world_conf history)
  refused_are : n.refused ≡ count_of (λ t. is_refused t.outcome) (told world_conf history)

numbers_more : (history : History) (e : Event) (n : Totals) → AreNumbers history n → AreNumbers (e ∷ history) (counted_outcome (outcome_at world_conf history e) n)
unfolding told outcome_at
numbers_more history e n are =
    let more = adds e (outcome_by world_conf (words world_conf (told world_conf history)) e) n _ _ _ are.sent_are are.moved_are are.refused_are in
    record { sent_are = more.sent_is; moved_are = more.moved_is; refused_are = more.refused_is }

-- an event is counted once at most
once_more : (o : Outcome) (n : Totals) → IsCountedOnce n → IsCountedOnce (record (counted_outcome o n) { ops = n.ops + 1 })
once_more (Sent to count bytes) n once = omega arith
once_more (Moved count offset how) n once = omega arith
once_more (Refused reason) n once = omega arith
once_more (Started mark) n once = omega arith
once_more Idle n once = omega arith

skipped_counted : (o : Outcome) (n : Totals) → (counted_outcome o n).skipped ≡ n.skipped
skipped_counted (Sent to count bytes) n = refl
skipped_counted (Moved count offset how) n = refl
skipped_counted (Refused reason) n = refl
skipped_counted (Started mark) n = refl
skipped_counted Idle n = refl

-- taking an event skips nothing
skipped_after : (w : State) (e : Event) (o : Outcome) (now : State) → Leaves w e o now → now.skipped ≡ w.skipped
skipped_after w e (Sent to count bytes) now is = cc
skipped_after w (Arrive at from reply) (Moved count offset how) now is = let same = is.2 in cc
skipped_after w (Life at mark) (Moved count offset how) now is = absurd is
skipped_after w (Tick at word) (Moved count offset how) now is = absurd is
skipped_after w (Resync at word flags) (Moved count offset how) now is = absurd is
skipped_after w e (Started mark) now is = cc
skipped_after w e Idle now is = cc
skipped_after w e (Refused reason) now is = cc

took : (w : State) (e : Event) (now : State) (count : ℕ) (t : Totals) → Leaves w e (outcome_at world_conf w.history e) now → AreTotals count w t
    → AreTotals (count + 1) now (counted (effect.Stepped (outcome_at world_conf w.history e)) t)
took w e now count t is are =
    let o = outcome_at world_conf w.history e in
    let numbers : AreNumbers w.history t = record { sent_are = are.sent_are; moved_are = are.moved_are; refused_are = are.refused_are } in
    let more : AreNumbers now.history (counted_outcome o t) =
    subst (λ (h : History). AreNumbers h (counted_outcome o t)) (sym (history_after w e o now is)) (numbers_more w.history e t numbers) in
    let ops = are.ops_are in
    record {
      ops_are = ap (λ (k : ℕ). k + 1) ops;
      skipped_are = skipped_counted o t ∙ are.skipped_are ∙ sym (skipped_after w e o now is);
      sent_are = more.sent_are;
      moved_are = more.moved_are;
      refused_are = more.refused_are;
      once = once_more o t are.once;
    }

-- what is done is counted
pub totals_done : (d : Due) (w : State) (eff : Effect) (now : State) (count : ℕ) (t : Totals) → IsDoneBy d w eff now → AreTotals count w t → AreTotals (count + 1) now (counted eff t)
totals_done due.Nothing w eff now count t is are =
    subst (λ (f : Effect). AreTotals (count + 1) now (counted f t)) (sym is.0)
    (subst (λ (s : State). AreTotals (count + 1) s (counted effect.Skipped t)) (sym is.1)
    (record { ops_are = ap (λ (k : ℕ). k + 1) are.ops_are; skipped_are = ap (λ (k : ℕ). k + 1) are.skipped_are; sent_are = are.sent_are; moved_are = are.moved_are; refused_are = are.refused_are; once = omega (arith, are.once) }))
totals_done (due.Time at) w eff now count t is are =
    subst (λ (f : Effect). AreTotals (count + 1) now (counted f t)) (sym is.0)
    (subst (λ (s : State). AreTotals (count + 1) s (counted effect.Passed t)) (sym is.1)
    (record { ops_are = ap (λ (k : ℕ). k + 1) are.ops_are; skipped_are = are.skipped_are; sent_are = are.sent_are; moved_are = are.moved_are; refused_are = are.refused_are; once = omega (arith, are.once) }))
totals_done (due.Answer bytes) w eff now count t is are =
    subst (λ (f : Effect). AreTotals (count + 1) now (counted f t)) (sym is.effect_is)
    (subst (λ (s : State). AreTotals (count + 1) s (counted (effect.Answered is.answer) t)) (sym is.now_is)
    (record { ops_are = ap (λ (k : ℕ). k + 1) are.ops_are; skipped_are = are.skipped_are; sent_are = are.sent_are; moved_are = are.moved_are; refused_are = are.refused_are; once = omega (arith, are.once) }))
totals_done (due.Take e) w eff now count t is are =
    subst (λ (f : Effect). AreTotals (count + 1) now (counted f t)) (sym is.0) (took w e now count t is.1 are)
