-- What an operation may do to a world, whatever it is.
use Rattle.std.proofs.Common.{◌≡◌, ℕ, List, [], ◌∷◌, inl, inr, refl, subst, sym, ℤ}
use Rattle.capture_fmt.specs.declared.event.Event.{Event}
use Rattle.capture_fmt.specs.declared.event.Event.TheVariants.{Life, Tick, Arrive}
use Rattle.time_machine.specs.Events.{reading_of}
use Rattle.time_machine.specs.Growing.{MayFollow}
use Rattle.sntp_world.specs.declared.op.Op.{Op}
use Rattle.sntp_world.specs.declared.op.Op.TheVariants.{Pass, Poll, Deliver, Ask, Craft, Restart}
use Rattle.sntp_world.specs.declared.op.Effect.{Effect}
use Rattle.sntp_world.specs.declared.packet.Destination.{Destination}
use Rattle.sntp_world.specs.declared.packet.Destination.TheVariants as to
use Rattle.sntp_world.specs.Setting.{controller_addr, world_conf}
use Rattle.sntp_world.specs.State.{State, first_state}
use Rattle.sntp_world.specs.Steps.{Asks, DeliversTo, Leads, MayPass, Passes, Reaches, Skips, Takes, WorldAfter, words_in}
use Rattle.sntp_world.proofs.Histories.{Lives, lives_after, lives_first, may_restart}

-- the member takes an event that may follow, at its clock's reading
pub record TakesNow (w : State) (effect : Effect) (now : State) : Type 0 where
  pub event : Event
  pub follows : MayFollow world_conf (words_in w) event
  pub read : reading_of event ≡ w.now.member
  pub takes : Takes event w effect now

-- what an operation may do
pub record Cases (P : State → Type 0) (w : State) : Type 0 where
  pub skips : (effect : Effect) (now : State) → Skips w effect now → P now
  pub passes : (d : ℕ) (e f : ℤ) (effect : Effect) (now : State) → MayPass d e f w.now → Passes d e f w effect now → P now
  pub asks : (bytes : List ℕ) (effect : Effect) (now : State) → Asks bytes w effect now → P now
  pub takes : (effect : Effect) (now : State) → TakesNow w effect now → P now

reaches : (P : State → Type 0) (w : State) → Cases P w → Lives w → (bytes : List ℕ) (effect : Effect) (now : State) → Reaches bytes w effect now → P now
reaches P w cases lives bytes effect now is =
    cases.takes effect now (record { event = Arrive w.now.member controller_addr bytes; follows = lives.mark; read = refl; takes = is })

delivers : (P : State → Type 0) (w : State) → Cases P w → Lives w → (d : Destination) (bytes : List ℕ) (effect : Effect) (now : State) → DeliversTo d bytes w effect now → P now
delivers P w cases lives to.Controller bytes effect now is = cases.asks bytes effect now is
delivers P w cases lives to.Member bytes effect now is = reaches P w cases lives bytes effect now is

-- each operation does one of these
pub led : (P : State → Type 0) (op : Op) (w : State) (effect : Effect) (now : State) → Cases P w → Lives w → Leads op w effect now → P now
led P (Pass d e f) w effect now cases lives (inl is) = cases.passes d e f effect now is.0 is.1
led P (Pass d e f) w effect now cases lives (inr is) = cases.skips effect now is.1
led P (Poll word) w effect now cases lives (inl is) =
    cases.takes effect now (record { event = Tick w.now.member word; follows = is.0; read = refl; takes = is.1 })
led P (Poll word) w effect now cases lives (inr is) = cases.skips effect now is.1
led P (Deliver back) w effect now cases lives (inl is) = delivers P w cases lives is.0.to is.0.bytes effect now is.2
led P (Deliver back) w effect now cases lives (inr is) = cases.skips effect now is.1
led P (Ask bytes) w effect now cases lives (inl is) = cases.skips effect now is.1
led P (Ask bytes) w effect now cases lives (inr is) = cases.asks bytes effect now is.1
led P (Craft bytes) w effect now cases lives (inl is) = cases.skips effect now is.1
led P (Craft bytes) w effect now cases lives (inr is) = reaches P w cases lives bytes effect now is.1
led P Restart w effect now cases lives (inl is) =
    cases.takes effect now (record { event = Life w.now.member _; follows = may_restart w lives; read = refl; takes = is.1 })
led P Restart w effect now cases lives (inr is) = cases.skips effect now is.1

-- the history of each world grows
lives_led : (op : Op) (w : State) (effect : Effect) (now : State) → Lives w → Leads op w effect now → Lives now
lives_led op w effect now lives is =
    led Lives op w effect now (record {
      skips = λ (effect : Effect) (now : State) (is : Skips w effect now). subst Lives (sym is.1) (record { grows = lives.grows; mark = lives.mark });
      passes = λ (d : ℕ) (e f : ℤ) (effect : Effect) (now : State) (may : MayPass d e f w.now) (is : Passes d e f w effect now).
          subst Lives (sym is.1) (record { grows = lives.grows; mark = lives.mark });
      asks = λ (bytes : List ℕ) (effect : Effect) (now : State) (is : Asks bytes w effect now).
          subst Lives (sym is.now_is) (record { grows = lives.grows; mark = lives.mark });
      takes = λ (effect : Effect) (now : State) (is : TakesNow w effect now).
          lives_after w is.event _ now lives is.follows is.takes.1;
    }) lives is

pub lives_always : (ops : List Op) (w : State) → WorldAfter ops w → Lives w
lives_always [] w is = subst Lives (sym is) lives_first
lives_always (op ∷ ops) w is = lives_led op is.0 is.1 w (lives_always ops is.0 is.2) is.3

-- What holds at first, and holds after each operation where it held before, holds of each world.
pub always : (P : State → Type 0) → P first_state → ((w : State) → Lives w → P w → Cases P w) → (ops : List Op) (w : State) → WorldAfter ops w → P w
always P first step [] w is = subst P (sym is) first
always P first step (op ∷ ops) w is =
    let lives = lives_always ops is.0 is.2 in
    led P op is.0 is.1 w (step is.0 lives (always P first step ops is.0 is.2)) lives is.3
