-- Both clocks are readings, and run unevenly by at most 10^18.
use Rattle.std.proofs.Common.{ℕ, List, subst, sym, arith, ℤ}
use Rattle.std.specs.Prelude.{◌+ℤ◌}
use Rattle.base_specs.specs.Time.{IsReading}
use Rattle.capture_fmt.specs.declared.event.Event.{Event}
use Rattle.capture_fmt.specs.declared.event.Event.TheVariants.{Life, Tick, Resync, Arrive}
use Rattle.time_machine.specs.declared.outcome.Outcome.{Outcome}
use Rattle.time_machine.specs.declared.outcome.Outcome.TheVariants.{Started, Idle, Sent, Moved, Refused}
use Rattle.sntp_world.specs.declared.op.Op.{Op}
use Rattle.sntp_world.specs.declared.op.Effect.{Effect}
use Rattle.sntp_world.specs.Laws.{AreClocks}
use Rattle.sntp_world.specs.State.{State, first_state}
use Rattle.sntp_world.specs.Steps.{Asks, Leaves, MayPass, Passes, Skips, WorldAfter, nearest_reading}
use Rattle.sntp_world.proofs.Cases.{Cases, TakesNow, always}
use Rattle.sntp_world.proofs.Histories.{Lives}

pub nearest_is_reading : (t : ℤ) → IsReading (nearest_reading t)
nearest_is_reading t = grind arith

-- the clocks after an event
pub clocks_after : (w : State) (e : Event) (o : Outcome) (now : State) → AreClocks w.now → Leaves w e o now → AreClocks now.now
clocks_after w e (Sent to count bytes) now are is = subst (λ (s : State). AreClocks s.now) (sym is) are
clocks_after w (Arrive at from reply) (Moved count offset how) now are is =
    subst (λ (s : State). AreClocks s.now) (sym is.2)
    (record { member = nearest_is_reading (w.now.member +ℤ offset); controller = are.controller; uneven = are.uneven })
clocks_after w (Life at mark) (Moved count offset how) now are is = absurd is
clocks_after w (Tick at word) (Moved count offset how) now are is = absurd is
clocks_after w (Resync at word flags) (Moved count offset how) now are is = absurd is
clocks_after w e (Started mark) now are is = subst (λ (s : State). AreClocks s.now) (sym is) are
clocks_after w e Idle now are is = subst (λ (s : State). AreClocks s.now) (sym is) are
clocks_after w e (Refused reason) now are is = subst (λ (s : State). AreClocks s.now) (sym is) are

abbrev Ticking : State → Type 0
Ticking w = AreClocks w.now

ticking : (w : State) → Lives w → Ticking w → Cases Ticking w
ticking w lives are = record {
  skips = λ (effect : Effect) (now : State) (is : Skips w effect now). subst Ticking (sym is.1) are;
  passes = λ (d : ℕ) (e f : ℤ) (effect : Effect) (now : State) (may : MayPass d e f w.now) (is : Passes d e f w effect now).
      subst Ticking (sym is.1) (record { member = may.member; controller = may.controller; uneven = may.uneven });
  asks = λ (bytes : List ℕ) (effect : Effect) (now : State) (is : Asks bytes w effect now). subst Ticking (sym is.now_is) are;
  takes = λ (effect : Effect) (now : State) (is : TakesNow w effect now). clocks_after w is.event _ now are is.takes.1;
}

pub first_clocks : AreClocks first_state.now
first_clocks = record { member = (grind arith, grind arith); controller = (grind arith, grind arith); uneven = omega arith }

pub clocks_always : (ops : List Op) (w : State) → WorldAfter ops w → AreClocks w.now
clocks_always ops w is = always Ticking first_clocks ticking ops w is
