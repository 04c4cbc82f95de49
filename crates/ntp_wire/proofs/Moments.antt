-- Moments and their timestamps, as arithmetic on numbers.
use Rattle.std.proofs.Common.{◌≡◌, ℕ, ◌+◌, ◌*◌, ◌/◌, ◌%◌, ◌^◌, ◌<◌, ◌≤◌, ℤ, pos, negsuc, ◌+ℤ◌, ◌-ℤ◌, ◌≤ℤ◌, ap, subst, arith, to_z, of_z, w64}
use Rattle.std.specs.Prelude.{◌<ℤ◌}
use Rattle.std.specs.Int.{int_rem_euclid}
use Rattle.std.proofs.lemmas.Int.{ints}
use Rattle.base_specs.specs.Time.{IsStamp, IsPart, IsTicksNear, SameModulo}
use Rattle.ntp_wire.specs.declared.stamp.Stamp.{Stamp}
use Rattle.ntp_wire.specs.Stamp.{IsStampOf, IsInReach, ticks_of}

-- ---- The timestamp of a moment

pub stamp_made : (t fraction : ℕ) → t % 10000000 * 2 ^ 32 ≤ fraction * 10000000 → ((f : ℕ) → t % 10000000 * 2 ^ 32 ≤ f * 10000000 → fraction ≤ f)
    → IsStamp t ((t / 10000000 + 3449417088) % 4294967296) fraction
stamp_made t fraction enough least = record {
  fits = omega arith;
  congruent = ((t / 10000000 + 3449417088) / 4294967296, 3, ap pos (omega arith));
  enough = enough;
  least = least;
}

one_stamp_made : (n : ℕ) (a b : Stamp) → IsStamp n a.seconds a.fraction → IsStamp n b.seconds b.fraction → a ≡ b
one_stamp_made n a b first next =
    let i = first.congruent.0 in
    let j = first.congruent.1 in
    let e = first.congruent.2 in
    let k = next.congruent.0 in
    let l = next.congruent.1 in
    let f = next.congruent.2 in
    let fits = first.fits in
    let also = next.fits in
    let seconds : a.seconds ≡ b.seconds = omega (arith, ints) in
    let below : a.fraction ≤ b.fraction = first.least b.fraction next.enough in
    let above : b.fraction ≤ a.fraction = next.least a.fraction first.enough in
    let fraction : a.fraction ≡ b.fraction = omega (arith, below, above) in
    λ q. record { seconds = seconds q; fraction = fraction q }

-- a moment has one timestamp
pub one_stamp : (t : ℤ) (a b : Stamp) → IsStampOf t a → IsStampOf t b → a ≡ b
one_stamp t a b first next =
    let same : next.0 ≡ first.0 = omega (arith, ints, first.1, next.1) in
    let Its : ℕ → Type 0 = λ (n : ℕ). IsStamp n b.seconds b.fraction in
    one_stamp_made first.0 a b first.2 (subst Its same next.2)

-- ---- The moment of a timestamp

part_made : (fraction : ℕ) → IsPart fraction (fraction * 10000000 / 4294967296)
part_made fraction = record { within = omega arith; greatest = λ k h. omega arith }

-- what is left of a number by eras
record IsRest (z r : ℤ) : Type 0 where
  low : pos 0 ≤ℤ r
  high : r <ℤ pos (2 ^ 32 * 10 ^ 7)
  same : SameModulo (2 ^ 32 * 10 ^ 7) r z

rest_made : (z : ℤ) → IsRest z (int_rem_euclid z (pos (2 ^ 32 * 10 ^ 7)))
rest_made (pos n) = record { low = omega (arith, ints); high = omega (arith, ints); same = (n / 42949672960000000, 0, omega (arith, ints)) }
rest_made (negsuc n) = record { low = omega (arith, ints); high = omega (arith, ints); same = (0, n / 42949672960000000 + 1, omega (arith, ints)) }

ticks_from : (s : Stamp) (near r : ℤ) → IsRest (pos ((s.seconds + 9435484800) * 10 ^ 7 + s.fraction * 10 ^ 7 / 2 ^ 32) -ℤ (near -ℤ pos (2 ^ 31 * 10 ^ 7))) r →
    IsTicksNear s.seconds s.fraction near ((near -ℤ pos (2 ^ 31 * 10 ^ 7)) +ℤ r)
ticks_from s near r h =
    let low = h.low in
    let high = h.high in
    let i = h.same.0 in
    let j = h.same.1 in
    let e = h.same.2 in
    record {
      low = omega (arith, ints);
      high = omega (arith, ints);
      same = (s.fraction * 10 ^ 7 / 2 ^ 32, part_made s.fraction, (i, j, omega (arith, ints)));
    }

-- the moment that is computed is near and has the timestamp, whatever it is near to
pub ticks_of_is_near : (s : Stamp) (near : ℤ) → IsTicksNear s.seconds s.fraction near (ticks_of s near)
ticks_of_is_near s near = ticks_from s near _ (rest_made (pos ((s.seconds + 9435484800) * 10 ^ 7 + s.fraction * 10 ^ 7 / 2 ^ 32) -ℤ (near -ℤ pos (2 ^ 31 * 10 ^ 7))))

-- one moment is near another one and has a timestamp
pub one_moment : (s : Stamp) (near x y : ℤ) → IsTicksNear s.seconds s.fraction near x → IsTicksNear s.seconds s.fraction near y → x ≡ y
one_moment s near x y a b =
    let p = a.same.0 in
    let q = b.same.0 in
    let p_within = a.same.1.within in
    let q_within = b.same.1.within in
    let p_above : q ≤ p = a.same.1.greatest q q_within in
    let q_above : p ≤ q = b.same.1.greatest p p_within in
    let i = a.same.2.0 in
    let j = a.same.2.1 in
    let e = a.same.2.2 in
    let k = b.same.2.0 in
    let l = b.same.2.1 in
    let f = b.same.2.2 in
    let a_low = a.low in
    let a_high = a.high in
    let b_low = b.low in
    let b_high = b.high in
    omega (arith, ints)

-- the timestamp of a moment in reach gives the moment back
pub moment_back : (s : Stamp) (near x t : ℤ) → IsTicksNear s.seconds s.fraction near x → IsStampOf t s → IsInReach near t → x ≡ t
moment_back s near x t ticks stamp reach =
    let n = stamp.0 in
    let rest = n % 10 ^ 7 in
    let i = stamp.2.congruent.0 in
    let j = stamp.2.congruent.1 in
    let e = stamp.2.congruent.2 in
    let enough = stamp.2.enough in
    let least : s.fraction ≤ (rest * 2 ^ 32 + 9999999) / 10 ^ 7 = stamp.2.least ((rest * 2 ^ 32 + 9999999) / 10 ^ 7) (omega arith) in
    let part = ticks.same.0 in
    let within = ticks.same.1.within in
    let greatest : rest ≤ part = ticks.same.1.greatest rest enough in
    let same : part ≡ rest = omega arith in
    let k = ticks.same.2.0 in
    let l = ticks.same.2.1 in
    let f = ticks.same.2.2 in
    let from = ticks.low in
    let to = ticks.high in
    let low = reach.low in
    let high = reach.high in
    let is = stamp.1 in
    omega (arith, ints)

-- the moment that lies so far above the earliest one in reach
pub moment_made : (s : Stamp) (near : ℤ) (base part n ahead : ℕ) → IsPart s.fraction part → base ≡ (s.seconds + 9435484800) * 10000000 + part → near ≡ pos n → n ≤ 4000000000000000000
    → ahead < 42949672960000000 → (n + ahead) % 42949672960000000 ≡ (base + 21474836480000000) % 42949672960000000
    → IsTicksNear s.seconds s.fraction near (to_z w64 (of_z w64 (to_z w64 (n + ahead) -ℤ pos 21474836480000000)))
moment_made s near base part n ahead is_part base_is near_is within bound congruent =
    let t = to_z w64 (of_z w64 (to_z w64 (n + ahead) -ℤ pos 21474836480000000)) in
    let value : t +ℤ pos 21474836480000000 ≡ pos (n + ahead) = omega (arith, ints) in
    record {
      low = omega (arith, ints);
      high = omega (arith, ints);
      same = (part, is_part, ((base + 21474836480000000) / 42949672960000000, (n + ahead) / 42949672960000000, omega (arith, ints)));
    }
