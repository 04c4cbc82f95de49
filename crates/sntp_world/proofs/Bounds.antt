-- The bound of a correction, as arithmetic on the readings of two clocks.
use Rattle.std.proofs.Common.{◌≡◌, ℕ, ◌+◌, ◌*◌, ◌-◌, ◌≤◌, ℤ, pos, negsuc, ◌+ℤ◌, ◌-ℤ◌, ◌≤ℤ◌, arith, refl}
use Rattle.std.specs.Prelude.{nat_abs, int_div}
use Rattle.std.proofs.lemmas.Int.{ints}
use Rattle.ntp_wire.specs.Stamp.{IsInReach, IsStampOf, ticks_of}
use Rattle.ntp_wire.specs.declared.stamp.Stamp.{Stamp}
use Rattle.ntp_wire.proofs.Moments.{moment_back, ticks_of_is_near}
use Rattle.time_machine.specs.Verdict.{delay_of, offset_of}
use Rattle.sntp_world.specs.declared.moment.Moment.{Moment}
use Rattle.sntp_world.specs.Accuracy.{IsWithinBound, RunOn}
use Rattle.sntp_world.specs.State.{Correction}
use Rattle.sntp_world.specs.Steps.{AreNear, MayPass, nearest_reading, passed}

-- ---- Sizes

pub size_at_most : (z : ℤ) (n : ℕ) → z ≤ℤ pos n → (pos 0 -ℤ z) ≤ℤ pos n → nat_abs z ≤ n
size_at_most (pos m) n above below = omega (arith, ints)
size_at_most (negsuc m) n above below = omega (arith, ints)

pub size_above : (z : ℤ) → z ≤ℤ pos (nat_abs z)
size_above (pos m) = omega (arith, ints)
size_above (negsuc m) = omega (arith, ints)

pub size_below : (z : ℤ) → (pos 0 -ℤ z) ≤ℤ pos (nat_abs z)
size_below (pos m) = omega (arith, ints)
size_below (negsuc m) = omega (arith, ints)

-- a half, truncated
record IsHalf (z h : ℤ) : Type 0 where
  low : z ≤ℤ ((h +ℤ h) +ℤ pos 1)
  high : (h +ℤ h) ≤ℤ (z +ℤ pos 1)

half : (z : ℤ) → IsHalf z (int_div z (pos 2))
half (pos n) = record { low = omega (arith, ints); high = omega (arith, ints) }
half (negsuc n) = record { low = omega (arith, ints); high = omega (arith, ints) }

-- ---- The bound

within_by : (m1 m4 c1 c c4 off : ℤ) (s1 s4 : ℕ) → IsHalf ((c -ℤ m1) +ℤ (c -ℤ m4)) off → c1 ≤ℤ c → c ≤ℤ c4 → s1 ≤ s4
    → ((c4 -ℤ c1) +ℤ pos s1) ≤ℤ ((m4 -ℤ m1) +ℤ pos s4)
    → IsWithinBound (record { offset = off; ahead = c4 -ℤ m4; delay = (m4 -ℤ m1) -ℤ (c -ℤ c); sent = s1; came = s4 })
within_by m1 m4 c1 c c4 off s1 s4 is left came uneven apart =
    let low = is.low in
    let high = is.high in
    let e = off -ℤ (c4 -ℤ m4) in
    let up = size_above e in
    let down = size_below e in
    omega (arith, ints)

-- the bound of a correction whose reply was made between the two moments, and both whose times are that of its making
pub within_bound : (sent came : Moment) (made : ℤ) → RunOn sent came → sent.controller ≤ℤ made → made ≤ℤ came.controller
    → IsWithinBound (record {
      offset = offset_of sent.member made made came.member;
      ahead = came.controller -ℤ came.member;
      delay = delay_of sent.member made made came.member;
      sent = sent.uneven;
      came = came.uneven;
    })
within_bound sent came made on after before =
    within_by sent.member came.member sent.controller made came.controller _ sent.uneven came.uneven
    (half ((made -ℤ sent.member) +ℤ (made -ℤ came.member))) after before on.uneven on.controller_ahead

-- ---- Clocks that run on

pub runs_same : (at : Moment) → RunOn at at
runs_same at = record { member = omega (arith, ints); controller = omega (arith, ints); uneven = omega arith; controller_ahead = omega (arith, ints); member_ahead = omega (arith, ints) }

pub runs_more : (a b c : Moment) → RunOn a b → RunOn b c → RunOn a c
runs_more a b c first next =
    let m = first.member in let n = next.member in
    let k = first.controller in let l = next.controller in
    let u = first.uneven in let v = next.uneven in
    let p = first.controller_ahead in let q = next.controller_ahead in
    let r = first.member_ahead in let t = next.member_ahead in
    record { member = omega (arith, ints); controller = omega (arith, ints); uneven = omega arith; controller_ahead = omega (arith, ints); member_ahead = omega (arith, ints) }

on_by : (m c d e f : ℤ) (s x y n : ℕ) → e ≤ℤ pos x → (pos 0 -ℤ e) ≤ℤ pos x → f ≤ℤ pos y → (pos 0 -ℤ f) ≤ℤ pos y → x ≤ n → y ≤ n → d ≡ pos n
    → RunOn (record { member = m; controller = c; uneven = s }) (record { member = m +ℤ (d +ℤ e); controller = c +ℤ (d +ℤ f); uneven = s + (x + y) })
on_by m c d e f s x y n e_up e_down f_up f_down few less is =
    record { member = omega (arith, ints); controller = omega (arith, ints); uneven = omega arith; controller_ahead = omega (arith, ints); member_ahead = omega (arith, ints) }

pub runs_passed : (d : ℕ) (e f : ℤ) (at : Moment) → MayPass d e f at → RunOn at (passed d e f at)
runs_passed d e f at may =
    on_by at.member at.controller (pos d) e f at.uneven (nat_abs e) (nat_abs f) d (size_above e) (size_below e) (size_above f) (size_below f)
    may.member_on may.controller_on refl

-- ---- Near each other

-- a reading of the controller's clock that was near is in reach ten seconds later
reach_by : (m c t1 t4 : ℤ) (n : ℕ) → (c -ℤ m) ≤ℤ pos n → (pos 0 -ℤ (c -ℤ m)) ≤ℤ pos n → n ≤ 21459168000000000 → t1 ≤ℤ m → m ≤ℤ t4 → t4 ≤ℤ (t1 +ℤ pos 100000000)
    → IsInReach t4 c
reach_by m c t1 t4 n up down near after before soon = record { low = omega (arith, ints); high = omega (arith, ints) }

pub in_reach : (at : Moment) (t1 t4 : ℤ) → AreNear at → t1 ≤ℤ at.member → at.member ≤ℤ t4 → t4 ≤ℤ (t1 +ℤ pos 100000000) → IsInReach t4 at.controller
in_reach at t1 t4 near after before soon =
    let z = at.controller -ℤ at.member in
    reach_by at.member at.controller t1 t4 (nat_abs z) (size_above z) (size_below z) near after before soon

-- so its timestamp gives it back
pub given_back : (s : Stamp) (t4 made : ℤ) → IsStampOf made s → IsInReach t4 made → ticks_of s t4 ≡ made
given_back s t4 made is reach = moment_back s t4 (ticks_of s t4) made (ticks_of_is_near s t4) is reach

-- ---- How far apart the clocks are

-- the clocks are no further apart than ten seconds and what they ran unevenly
abbrev pub IsClose : Moment → Type 0
IsClose at = nat_abs (at.controller -ℤ at.member) ≤ 100000000 + at.uneven

pub close_passed : (d : ℕ) (e f : ℤ) (at : Moment) → IsClose at → IsClose (passed d e f at)
close_passed d e f at close =
    let z = at.controller -ℤ at.member in
    close_by at.member at.controller (pos d) e f (nat_abs z) (nat_abs e) (nat_abs f) at.uneven (size_above z) (size_below z) (size_above e) (size_below e) (size_above f) (size_below f) close
  where
    close_by : (m c d e f : ℤ) (n x y s : ℕ) → (c -ℤ m) ≤ℤ pos n → (pos 0 -ℤ (c -ℤ m)) ≤ℤ pos n → e ≤ℤ pos x → (pos 0 -ℤ e) ≤ℤ pos x → f ≤ℤ pos y → (pos 0 -ℤ f) ≤ℤ pos y
        → n ≤ 100000000 + s → nat_abs ((c +ℤ (d +ℤ f)) -ℤ (m +ℤ (d +ℤ e))) ≤ 100000000 + (s + (x + y))
    close_by m c d e f n x y s up down e_up e_down f_up f_down close =
        size_at_most ((c +ℤ (d +ℤ f)) -ℤ (m +ℤ (d +ℤ e))) (100000000 + (s + (x + y))) (omega (arith, ints)) (omega (arith, ints))

-- the nearest reading is no further from a reading
record IsNoFurther (c t r : ℤ) (n : ℕ) : Type 0 where
  up : (c -ℤ r) ≤ℤ pos n
  down : (pos 0 -ℤ (c -ℤ r)) ≤ℤ pos n

nearest_no_further : (c t : ℤ) (n : ℕ) → pos 0 ≤ℤ c → c ≤ℤ pos 4000000000000000000 → (c -ℤ t) ≤ℤ pos n → (pos 0 -ℤ (c -ℤ t)) ≤ℤ pos n → IsNoFurther c t (nearest_reading t) n
nearest_no_further c t n low high up down = record { up = grind arith; down = grind arith }

moved_by : (off ahead delay : ℤ) (sent came e : ℕ) → pos (2 * e) ≤ℤ (delay +ℤ pos (2 * (came - sent) + 1)) → delay ≤ℤ pos 100000000 → e ≤ 100000000 + came
moved_by off ahead delay sent came e bound soon = omega (arith, ints)

-- after a correction within its bound they are
pub close_moved : (c : Correction) (at : Moment) → IsWithinBound c → c.delay ≤ℤ pos 100000000 → c.ahead ≡ at.controller -ℤ at.member → c.came ≡ at.uneven
    → pos 0 ≤ℤ at.controller → at.controller ≤ℤ pos 4000000000000000000 → IsClose (record at { member = nearest_reading (at.member +ℤ c.offset) })
close_moved c at bound soon ahead came low high =
    let e = c.offset -ℤ c.ahead in
    let few = moved_by c.offset c.ahead c.delay c.sent c.came (nat_abs e) bound soon in
    let above = size_above e in
    let below = size_below e in
    let further = nearest_no_further at.controller (at.member +ℤ c.offset) (nat_abs e) low high (omega (arith, ints, above, below, ahead)) (omega (arith, ints, above, below, ahead)) in
    let up = further.up in
    let down = further.down in
    size_at_most (at.controller -ℤ nearest_reading (at.member +ℤ c.offset)) (100000000 + at.uneven) (omega (arith, ints)) (omega (arith, ints))
