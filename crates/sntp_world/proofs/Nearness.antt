-- Clocks that run little unevenly stay near each other, as those of each script do.
use Rattle.std.proofs.Common.{◌≡◌, ℕ, suc, zero, ◌+◌, ◌*◌, ◌%◌, ◌<◌, ◌≤◌, ◌^◌, ◌==◌, Bool, true, false, List, [], ◌∷◌, length, Option, Some, None, reverse, inl, inr, refl, subst, sym, ap, arith, ℤ, pos, if◌then◌else◌}
use Rattle.std.specs.Prelude.{◌≤ℤ◌, All, nat_abs, nat_lt}
use Rattle.std.specs.List.{AllByRecursion}
use Rattle.std.proofs.lemmas.Int.{ints}
use Rattle.std.proofs.lemmas.List.{length-reverse}
use Rattle.std.proofs.lemmas.List.Elements.{All-contains}
use Rattle.capture_fmt.specs.declared.event.Event.{Event}
use Rattle.capture_fmt.specs.declared.event.Event.TheVariants.{Life, Tick, Resync, Arrive}
use Rattle.time_machine.specs.declared.outcome.Outcome.{Outcome}
use Rattle.time_machine.specs.declared.outcome.Outcome.TheVariants.{Started, Idle, Sent, Moved, Refused}
use Rattle.time_machine.specs.Events.{reading_of}
use Rattle.time_machine.specs.Machine.{outcome_at}
use Rattle.sntp_world.specs.declared.moment.Moment.{Moment}
use Rattle.sntp_world.specs.declared.op.Op.{Op}
use Rattle.sntp_world.specs.declared.op.Op.TheVariants.{Pass, Poll, Deliver, Ask, Craft, Restart}
use Rattle.sntp_world.specs.declared.op.Effect.{Effect}
use Rattle.sntp_world.specs.declared.packet.Destination.{Destination}
use Rattle.sntp_world.specs.declared.packet.Destination.TheVariants as to
use Rattle.sntp_world.specs.Accuracy.{IsNotNegative, IsWithinBound}
use Rattle.sntp_world.specs.Draws.{draw, draws_at, op_at, ops_from, script_of, small}
use Rattle.sntp_world.specs.Setting.{world_conf}
use Rattle.sntp_world.specs.State.{Correction, IsLeastSlack, State, first_state, slack_of}
use Rattle.sntp_world.specs.Steps.{AreNear, Asks, DeliversTo, Guesses, Leads, Leaves, MayPass, Passes, Skips, StayNear, Takes, WorldAfter, correction_by}
use Rattle.sntp_world.proofs.Accurate.{HasAccurate, accurate_led, first_accurate, good_moved}
use Rattle.sntp_world.proofs.Allowed.{Allowed, IsNotForged, led_allowed}
use Rattle.sntp_world.proofs.Bounds.{IsClose, close_moved, close_passed, size_at_most}
use Rattle.sntp_world.proofs.Cases.{TakesNow, lives_always}
use Rattle.sntp_world.proofs.Fitting.{all_reversed}
use Rattle.sntp_world.proofs.Ongoing.{HasOngoing, ongoing_always}
use Rattle.sntp_world.proofs.Requests.{HasRequests, requests_always}
use Rattle.sntp_world.proofs.Scripts.{script_length}

-- ---- How unevenly the clocks ran

-- an event doesn't change that
uneven_after : (w : State) (e : Event) (o : Outcome) (now : State) → Leaves w e o now → now.now.uneven ≡ w.now.uneven
uneven_after w e (Sent addr count bytes) now is = ap (λ (s : State). s.now.uneven) is
uneven_after w (Arrive at from reply) (Moved count offset how) now is = ap (λ (s : State). s.now.uneven) is.2
uneven_after w (Life at mark) (Moved count offset how) now is = absurd is
uneven_after w (Tick at word) (Moved count offset how) now is = absurd is
uneven_after w (Resync at word flags) (Moved count offset how) now is = absurd is
uneven_after w e (Started mark) now is = ap (λ (s : State). s.now.uneven) is
uneven_after w e Idle now is = ap (λ (s : State). s.now.uneven) is
uneven_after w e (Refused reason) now is = ap (λ (s : State). s.now.uneven) is

-- it grows
uneven_led : (w : State) → Allowed (λ (s : State). w.now.uneven ≤ s.now.uneven) w
uneven_led w = record {
  skips = λ (effect : Effect) (now : State) (is : Skips w effect now). let same = ap (λ (s : State). s.now.uneven) is.1 in omega arith;
  passes = λ (d : ℕ) (e f : ℤ) (effect : Effect) (now : State) (may : MayPass d e f w.now) (is : Passes d e f w effect now).
      let same = ap (λ (s : State). s.now.uneven) is.1 in omega arith;
  asks = λ (bytes : List ℕ) (effect : Effect) (now : State) (honest : Guesses w bytes → ⊥) (is : Asks bytes w effect now).
      let same = ap (λ (s : State). s.now.uneven) is.now_is in omega arith;
  takes = λ (effect : Effect) (now : State) (is : TakesNow w effect now) (honest : IsNotForged w is.event).
      let same = uneven_after w is.event _ now is.takes.1 in omega arith;
}

-- ---- Clocks that run little unevenly

-- the clocks are close, and each correction was within its bound
pub record IsSteady (w : State) : Type 0 where
  pub accurate : HasAccurate w
  pub close : IsClose w.now

close_after : (w : State) (e : Event) (o : Outcome) (now : State) → HasOngoing w → HasRequests w → IsSteady w → IsNotForged w e → reading_of e ≡ w.now.member
    → outcome_at world_conf w.history e ≡ o → Leaves w e o now → IsClose now.now
close_after w e (Sent addr count bytes) now has requests steady honest read led is = subst (λ (s : State). IsClose s.now) (sym is) steady.close
close_after w (Arrive at from bytes) (Moved count offset how) now has requests steady honest read led is =
    let good = good_moved w at from bytes count offset how is.0 has requests steady.accurate.nears honest read led is.1 in
    let clocks = has.made.stamps.packets.clocks in
    subst (λ (s : State). IsClose s.now) (sym is.2)
    (close_moved (correction_by w.now bytes offset is.0) w.now good.bound good.soon refl refl clocks.controller.0 clocks.controller.1)
close_after w (Life at mark) (Moved count offset how) now has requests steady honest read led is = absurd is
close_after w (Tick at word) (Moved count offset how) now has requests steady honest read led is = absurd is
close_after w (Resync at word flags) (Moved count offset how) now has requests steady honest read led is = absurd is
close_after w e (Started mark) now has requests steady honest read led is = subst (λ (s : State). IsClose s.now) (sym is) steady.close
close_after w e Idle now has requests steady honest read led is = subst (λ (s : State). IsClose s.now) (sym is) steady.close
close_after w e (Refused reason) now has requests steady honest read led is = subst (λ (s : State). IsClose s.now) (sym is) steady.close

steady_led : (w : State) → HasOngoing w → HasRequests w → AreNear w.now → IsSteady w → Allowed IsSteady w
steady_led w has requests near steady =
    let accurate = accurate_led w has requests near steady.accurate in
    let Close : State → Type 0 = λ (s : State). IsClose s.now in
    record {
      skips = λ (effect : Effect) (now : State) (is : Skips w effect now).
          record { accurate = accurate.skips effect now is; close = subst Close (sym is.1) steady.close };
      passes = λ (d : ℕ) (e f : ℤ) (effect : Effect) (now : State) (may : MayPass d e f w.now) (is : Passes d e f w effect now).
          record { accurate = accurate.passes d e f effect now may is; close = subst Close (sym is.1) (close_passed d e f w.now steady.close) };
      asks = λ (bytes : List ℕ) (effect : Effect) (now : State) (honest : Guesses w bytes → ⊥) (is : Asks bytes w effect now).
          record { accurate = accurate.asks bytes effect now honest is; close = subst Close (sym is.now_is) steady.close };
      takes = λ (effect : Effect) (now : State) (is : TakesNow w effect now) (honest : IsNotForged w is.event).
          record {
            accurate = accurate.takes effect now is honest;
            close = close_after w is.event _ now has requests steady honest is.read refl is.takes.1;
          };
    }

near_by : (at : Moment) → IsClose at → at.uneven ≤ 21459167900000000 → AreNear at
near_by at close few = omega arith

first_steady : IsSteady first_state
first_steady = record { accurate = first_accurate; close = omega arith }

steady : (ops : List Op) (w : State) → WorldAfter ops w → w.now.uneven ≤ 21459167900000000 → IsSteady w
steady [] w is few = subst IsSteady (sym is) first_steady
steady (op ∷ ops) w is few =
    let before = is.0 in
    let lives = lives_always ops before is.2 in
    let grows = led_allowed (λ (s : State). before.now.uneven ≤ s.now.uneven) op before is.1 w (uneven_led before) lives is.3 in
    let so_far = steady ops before is.2 (omega arith) in
    let near = near_by before.now so_far.close (omega arith) in
    led_allowed IsSteady op before is.1 w (steady_led before (ongoing_always ops before is.2) (requests_always ops before is.2) near so_far) lives is.3

-- such clocks are near each other
pub near_little : (ops : List Op) (w : State) → WorldAfter ops w → w.now.uneven ≤ 21459167900000000 → AreNear w.now
near_little ops w is few = near_by w.now (steady ops w is few).close few

-- ---- Scripts

-- if time passes, either clock runs unevenly by 1,000 ticks at most
abbrev pub IsSmall : Op → Type 0
IsSmall (Pass d e f) = (nat_abs e ≤ 1000) × (nat_abs f ≤ 1000)
IsSmall (Poll word) = Unit {0}
IsSmall (Deliver back) = Unit {0}
IsSmall (Ask bytes) = Unit {0}
IsSmall (Craft bytes) = Unit {0}
IsSmall Restart = Unit {0}

-- so it does at each operation
record IsLittle (w now : State) : Type 0 where
  few : now.now.uneven ≤ w.now.uneven + 2000

skips_little : (w : State) (effect : Effect) (now : State) → Skips w effect now → IsLittle w now
skips_little w effect now is = let same = ap (λ (s : State). s.now.uneven) is.1 in record { few = omega arith }

asks_little : (w : State) (bytes : List ℕ) (effect : Effect) (now : State) → Asks bytes w effect now → IsLittle w now
asks_little w bytes effect now is = let same = ap (λ (s : State). s.now.uneven) is.now_is in record { few = omega arith }

takes_little : (w : State) (e : Event) (effect : Effect) (now : State) → Takes e w effect now → IsLittle w now
takes_little w e effect now is = let same = uneven_after w e _ now is.1 in record { few = omega arith }

delivers_little : (d : Destination) (w : State) (bytes : List ℕ) (effect : Effect) (now : State) → DeliversTo d bytes w effect now → IsLittle w now
delivers_little to.Controller w bytes effect now is = asks_little w bytes effect now is
delivers_little to.Member w bytes effect now is = takes_little w _ effect now is

led_little : (op : Op) (w : State) (effect : Effect) (now : State) → IsSmall op → Leads op w effect now → IsLittle w now
led_little (Pass d e f) w effect now small (inl is) =
    let same = ap (λ (s : State). s.now.uneven) is.1.1 in let a = small.0 in let b = small.1 in record { few = omega arith }
led_little (Pass d e f) w effect now small (inr is) = skips_little w effect now is.1
led_little (Poll word) w effect now small (inl is) = takes_little w _ effect now is.1
led_little (Poll word) w effect now small (inr is) = skips_little w effect now is.1
led_little (Deliver back) w effect now small (inl is) = delivers_little is.0.to w is.0.bytes effect now is.2
led_little (Deliver back) w effect now small (inr is) = skips_little w effect now is.1
led_little (Ask bytes) w effect now small (inl is) = skips_little w effect now is.1
led_little (Ask bytes) w effect now small (inr is) = asks_little w bytes effect now is.1
led_little (Craft bytes) w effect now small (inl is) = skips_little w effect now is.1
led_little (Craft bytes) w effect now small (inr is) = takes_little w _ effect now is.1
led_little Restart w effect now small (inl is) = takes_little w _ effect now is.1
led_little Restart w effect now small (inr is) = skips_little w effect now is.1

uneven_little : (ops : List Op) (w : State) → AllByRecursion IsSmall ops → WorldAfter ops w → w.now.uneven ≤ 2000 * length ops
uneven_little [] w small is = let same = ap (λ (s : State). s.now.uneven) is in omega arith
uneven_little (op ∷ ops) w small is =
    let few = (led_little op is.0 is.1 w small.0 is.3).few in
    let so_far = uneven_little ops is.0 small.1 is.2 in
    omega arith

stay_near : (ops : List Op) → AllByRecursion IsSmall ops → length ops < 2 ^ 32 → StayNear ops
stay_near [] small short = tt
stay_near (op ∷ ops) small short = (
  λ (w : State) (is : WorldAfter (op ∷ ops) w). near_little (op ∷ ops) w is (let few = uneven_little (op ∷ ops) w small is in omega arith),
  stay_near ops small.1 (omega arith),
)

-- whichever is picked, it is small
picked : (a b c d e : Bool) (x₁ x₂ x₃ x₄ x₅ x₆ : Op) → IsSmall x₁ → IsSmall x₂ → IsSmall x₃ → IsSmall x₄ → IsSmall x₅ → IsSmall x₆
    → IsSmall (if a then x₁ else (if b then x₂ else (if c then x₃ else (if d then x₄ else (if e then x₅ else x₆)))))
picked true b c d e x₁ x₂ x₃ x₄ x₅ x₆ p₁ p₂ p₃ p₄ p₅ p₆ = p₁
picked false true c d e x₁ x₂ x₃ x₄ x₅ x₆ p₁ p₂ p₃ p₄ p₅ p₆ = p₂
picked false false true d e x₁ x₂ x₃ x₄ x₅ x₆ p₁ p₂ p₃ p₄ p₅ p₆ = p₃
picked false false false true e x₁ x₂ x₃ x₄ x₅ x₆ p₁ p₂ p₃ p₄ p₅ p₆ = p₄
picked false false false false true x₁ x₂ x₃ x₄ x₅ x₆ p₁ p₂ p₃ p₄ p₅ p₆ = p₅
picked false false false false false x₁ x₂ x₃ x₄ x₅ x₆ p₁ p₂ p₃ p₄ p₅ p₆ = p₆

small_amount : (drawn : ℕ) → nat_abs (small drawn) ≤ 1000
small_amount drawn = size_at_most (small drawn) 1000 (omega (arith, ints)) (omega (arith, ints))

op_small : (seed n : ℕ) → IsSmall (op_at seed n)
unfolding op_at
op_small seed n =
    picked (nat_lt (draw seed n % 16) 6) (nat_lt (draw seed n % 16) 9) (nat_lt (draw seed n % 16) 14) (draw seed n % 16 == 14) (draw seed (n + 1) % 8 == 0)
    (Pass (10000 * (1 + draw seed (n + 1))) (small (draw seed (n + 2))) (small (draw seed (n + 3)))) _ _ _ _ _
    (small_amount (draw seed (n + 2)), small_amount (draw seed (n + 3))) tt tt tt tt tt

ops_small : (seed n count : ℕ) → AllByRecursion IsSmall (ops_from seed n count)
ops_small seed n zero = tt
ops_small seed n (suc count) = (op_small seed n, ops_small seed (n + draws_at seed n) count)

-- the clocks of a script stay near
pub script_near : (seed count : ℕ) → count < 2 ^ 32 → StayNear (reverse (script_of seed count))
script_near seed count short =
    stay_near (reverse (script_of seed count)) (all_reversed IsSmall (script_of seed count) (ops_small seed 1 count))
    (omega (arith, length-reverse (script_of seed count), script_length seed count))

-- ---- The least slack

slack_by : (c : Correction) → IsWithinBound c → pos 0 ≤ℤ slack_of c
slack_by c bound = omega (arith, ints)

-- it isn't negative, where each correction is within its bound
pub not_negative : (cs : List Correction) (slack : Option ℤ) → IsLeastSlack cs slack → All IsWithinBound cs → IsNotNegative slack
not_negative cs None least bounds = tt
not_negative cs (Some slack) least bounds =
    subst (λ (z : ℤ). pos 0 ≤ℤ z) least.0.2 (slack_by least.0.0 (All-contains IsWithinBound cs least.0.0 bounds least.0.1))
