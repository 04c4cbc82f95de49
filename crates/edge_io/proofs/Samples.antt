-- The double that is nearest to an amount of ticks in seconds.
use Rattle.std.proofs.Common.{◌≡◌, ◌≤◌, ◌<◌, ◌⊎◌, ℕ, zero, suc, ◌+◌, ◌-◌, ◌*◌, ◌%◌, ◌^◌, ap, sym, subst, ◌∙◌, arith, inl, inr}
use Rattle.std.proofs.Math.Nat.{add-mul, le_refl, mul-add, mul-sub, mul_assoc, mul_comm, mul_left_comm, mul_right_comm}
use Rattle.std.proofs.lemmas.Nat.{leading_top, mul-le, pow_pos, pow-add, shl_below}
use Rattle.std.specs.Int.{abs_diff}
use Rattle.std.specs.Int.Count.{count_leading_zeros}
use Rattle.base_specs.specs.Time.{second}
use Rattle.edge_io.specs.Sample.{IsNearest, IsSize}
use Rattle.edge_io.specs.Scaling.{IsRounded, IsScaled}

-- scaled ticks are never halfway, since they are a multiple of 4096 and half a second is not
strictly : (scaled seconds part : ℕ) → IsRounded scaled seconds → scaled ≡ 4096 * part → 2 * abs_diff (seconds * second) scaled < second
strictly scaled seconds part rounded even =
    let low = rounded.low in
    let high = rounded.high in
    omega arith

-- no other number of whole seconds is nearer
nearest_whole : (scaled seconds other : ℕ) → IsRounded scaled seconds → abs_diff (seconds * second) scaled ≤ abs_diff (other * second) scaled
nearest_whole scaled seconds other rounded =
    let low = rounded.low in
    let high = rounded.high in
    omega arith

two_and_more : (n factor : ℕ) → 2 ≤ factor → n * factor ≡ 2 * n + n * (factor - 2)
two_and_more n factor more =
    let split : factor ≡ 2 + (factor - 2) = omega arith in
    ap (λ (f : ℕ). n * f) split ∙ mul-add n 2 (factor - 2) ∙ ap (λ (m : ℕ). m + n * (factor - 2)) (mul_comm n 2)

finer_by : (far scaled far_more scaled_more far_times scaled_times other : ℕ)
    → far_times ≡ 2 * far + far_more → scaled_times ≡ 2 * scaled + scaled_more → far_more ≤ scaled_more → 2 * far ≤ second
    → 2 ^ 52 * second ≤ scaled → other < 2 ^ 53 → far_times ≤ abs_diff (other * second) scaled_times
finer_by far scaled far_more scaled_more far_times scaled_times other far_is scaled_is more half least few = omega arith

-- a number of so many bits with more places is no nearer
nearest_finer : (scaled seconds other factor : ℕ) → IsRounded scaled seconds → 2 ^ 52 * second ≤ scaled → other < 2 ^ 53 → 2 ≤ factor
    → abs_diff (seconds * second) scaled * factor ≤ abs_diff (other * second) (scaled * factor)
nearest_finer scaled seconds other factor rounded least few more =
    let low = rounded.low in
    let high = rounded.high in
    let far = abs_diff (seconds * second) scaled in
    let half : 2 * far ≤ second = omega arith in
    let nearer : far ≤ scaled = omega arith in
    finer_by far scaled (far * (factor - 2)) (scaled * (factor - 2)) (far * factor) (scaled * factor) other
    (two_and_more far factor more) (two_and_more scaled factor more) (mul-le far (factor - 2) scaled (factor - 2) nearer (le_refl (factor - 2))) half least few

sub-mul : (a b factor : ℕ) → a * factor - b * factor ≡ (a - b) * factor
sub-mul a b factor =
    ap (λ (n : ℕ). n - b * factor) (mul_comm a factor) ∙ ap (λ (n : ℕ). factor * a - n) (mul_comm b factor)
    ∙ sym (mul-sub factor a b) ∙ mul_comm factor (a - b)

abs_diff-mul : (a b factor : ℕ) → abs_diff (a * factor) (b * factor) ≡ abs_diff a b * factor
abs_diff-mul a b factor =
    ap (λ (n : ℕ). n + (b * factor - a * factor)) (sub-mul a b factor) ∙ ap (λ (n : ℕ). (a - b) * factor + n) (sub-mul b a factor)
    ∙ sym (add-mul (a - b) (b - a) factor)

-- a number with fewer places is no nearer
nearest_coarser : (ticks scaled seconds other unit factor : ℕ) → IsRounded scaled seconds → scaled ≡ ticks * (unit * factor)
    → abs_diff (seconds * second) scaled * unit ≤ abs_diff (other * second) (ticks * unit) * (unit * factor)
nearest_coarser ticks scaled seconds other unit factor rounded is =
    let far = abs_diff (other * second) (ticks * unit) in
    let same : abs_diff (other * factor * second) scaled * unit ≡ far * (unit * factor) =
    ap (λ (n : ℕ). abs_diff n scaled * unit) (mul_right_comm other factor second)
    ∙ ap (λ (n : ℕ). abs_diff (other * second * factor) n * unit) (is ∙ sym (mul_assoc ticks unit factor))
    ∙ ap (λ (n : ℕ). n * unit) (abs_diff-mul (other * second) (ticks * unit) factor)
    ∙ mul_assoc far factor unit ∙ ap (λ (n : ℕ). far * n) (mul_comm factor unit) in
    subst (λ (n : ℕ). abs_diff (seconds * second) scaled * unit ≤ n) same
    (mul-le _ unit _ unit (nearest_whole scaled seconds (other * factor) rounded) (le_refl unit))

nearest_with_more : (ticks scaled seconds other unit factor : ℕ) → IsRounded scaled seconds → scaled ≡ ticks * unit → 2 ^ 52 * second ≤ scaled
    → other < 2 ^ 53 → 2 ≤ factor
    → abs_diff (seconds * second) scaled * (unit * factor) ≤ abs_diff (other * second) (ticks * (unit * factor)) * unit
nearest_with_more ticks scaled seconds other unit factor rounded is least few more =
    let far = abs_diff (seconds * second) scaled in
    let left : far * factor * unit ≡ far * (unit * factor) = mul_assoc far factor unit ∙ ap (λ (n : ℕ). far * n) (mul_comm factor unit) in
    let right : scaled * factor ≡ ticks * (unit * factor) = ap (λ (n : ℕ). n * factor) is ∙ mul_assoc ticks unit factor in
    subst (λ (n : ℕ). n ≤ abs_diff (other * second) (ticks * (unit * factor)) * unit) left
    (subst (λ (n : ℕ). far * factor * unit ≤ abs_diff (other * second) n * unit) right
    (mul-le _ unit _ unit (nearest_finer scaled seconds other factor rounded least few more) (le_refl unit)))

order : (a b : ℕ) → (a ≤ b) ⊎ (b < a)
order zero b = inl (omega arith)
order (suc a) zero = inr (omega arith)
order (suc a) (suc b) = elim (order a b) as (λ _. (suc a ≤ suc b) ⊎ (suc b < suc a)) [ inl fewer ↦ inl (omega arith) | inr more ↦ inr (omega arith) ]

-- no number of 53 bits is nearer
nearest : (ticks scaled places seconds : ℕ) → IsRounded scaled seconds → scaled ≡ ticks * 2 ^ places → 2 ^ 52 * second ≤ scaled
    → (other place : ℕ) → other < 2 ^ 53 → abs_diff (seconds * second) scaled * 2 ^ place ≤ abs_diff (other * second) (ticks * 2 ^ place) * 2 ^ places
nearest ticks scaled places seconds rounded is least other place few =
    let far = abs_diff (seconds * second) scaled in
    elim (order place places) as (λ _. far * 2 ^ place ≤ abs_diff (other * second) (ticks * 2 ^ place) * 2 ^ places) [
      | inl fewer ↦
          let split : 2 ^ place * 2 ^ (places - place) ≡ 2 ^ places =
          let sum : place + (places - place) ≡ places = omega arith in
          sym (pow-add 2 place (places - place)) ∙ ap (λ (n : ℕ). 2 ^ n) sum in
          subst (λ (n : ℕ). far * 2 ^ place ≤ abs_diff (other * second) (ticks * 2 ^ place) * n) split
          (nearest_coarser ticks scaled seconds other (2 ^ place) (2 ^ (places - place)) rounded (is ∙ ap (λ (n : ℕ). ticks * n) (sym split)))
      | inr more ↦
          let split : 2 ^ places * 2 ^ (place - places) ≡ 2 ^ place =
          let sum : places + (place - places) ≡ place = omega arith in
          sym (pow-add 2 places (place - places)) ∙ ap (λ (n : ℕ). 2 ^ n) sum in
          let two : 2 ≤ 2 ^ (place - places) =
          let sum : 1 + (place - places - 1) ≡ place - places = omega arith in
          let twice : 2 * 2 ^ (place - places - 1) ≡ 2 ^ (place - places) = sym (pow-add 2 1 (place - places - 1)) ∙ ap (λ (n : ℕ). 2 ^ n) sum in
          let some = pow_pos (place - places - 1) in
          omega arith in
          subst (λ (n : ℕ). far * n ≤ abs_diff (other * second) (ticks * n) * 2 ^ places) split
          (nearest_with_more ticks scaled seconds other (2 ^ places) (2 ^ (place - places)) rounded is least few two)
    ]

whole : (ticks scaled places seconds : ℕ) → IsScaled ticks scaled places → IsRounded scaled seconds → seconds < 2 ^ 53 → IsNearest ticks seconds places
whole ticks scaled places seconds scale rounded fits =
    let high = rounded.high in
    let least = scale.least in
    record {
      normal = omega arith;
      fits = fits;
      half = subst (λ (n : ℕ). 2 * abs_diff (seconds * second) n < second) scale.is (strictly scaled seconds scale.even.0 rounded scale.even.1);
      nearest = λ other place few.
          subst (λ (n : ℕ). abs_diff (seconds * second) n * 2 ^ place ≤ abs_diff (other * second) (ticks * 2 ^ place) * 2 ^ places) scale.is
          (nearest ticks scaled places seconds rounded scale.is scale.least other place few);
    }

halved : (a b : ℕ) → 2 * a ≤ 2 * b → a ≤ b
halved a b twice = omega arith

-- a mantissa that was rounded up to 2^53 is 2^52 with a place less
carried : (ticks scaled places seconds : ℕ) → IsScaled ticks scaled (places + 1) → IsRounded scaled seconds → seconds ≡ 2 ^ 53 → IsNearest ticks (2 ^ 52) places
carried ticks scaled places seconds scale rounded up =
    let half_ticks = ticks * 2 ^ places in
    let power : 2 ^ (places + 1) ≡ 2 ^ places * 2 = pow-add 2 places 1 in
    let twice : scaled ≡ 2 * half_ticks =
    scale.is ∙ ap (λ (n : ℕ). ticks * n) power ∙ sym (mul_assoc ticks (2 ^ places) 2) ∙ mul_comm half_ticks 2 in
    let strict = strictly scaled seconds scale.even.0 rounded scale.even.1 in
    let far : abs_diff (seconds * second) scaled ≡ 2 * abs_diff (2 ^ 52 * second) half_ticks = omega arith in
    record {
      normal = omega arith;
      fits = omega arith;
      half = omega arith;
      nearest = λ other place few.
          let bound = nearest ticks scaled (places + 1) seconds rounded scale.is scale.least other place few in
          let right = abs_diff (other * second) (ticks * 2 ^ place) in
          halved _ _
          (subst (λ (n : ℕ). n ≤ 2 * (right * 2 ^ places)) (mul_assoc 2 _ (2 ^ place))
          (subst (λ (n : ℕ). n * 2 ^ place ≤ 2 * (right * 2 ^ places)) far
          (subst (λ (n : ℕ). abs_diff (seconds * second) scaled * 2 ^ place ≤ n)
          (ap (λ (n : ℕ). right * n) (power ∙ mul_comm (2 ^ places) 2) ∙ mul_left_comm right 2 (2 ^ places)) bound)));
    }

size_of_some : (ticks places seconds bits : ℕ) → (mantissa : ℕ) → IsNearest ticks mantissa places → places ≤ 1074 → 0 < ticks
    → bits ≡ (1075 - places) * 2 ^ 52 + (mantissa - 2 ^ 52) → IsSize ticks bits
size_of_some zero places seconds bits mantissa near few some is = absurd (omega (arith, some))
size_of_some (suc less) places seconds bits mantissa near few some is = (mantissa, places, near, few, is)

-- the bits of rounded seconds
pub size_of : (ticks scaled places seconds bits : ℕ) → 0 < ticks → IsScaled ticks scaled places → IsRounded scaled seconds
    → bits ≡ (1074 - places) * 2 ^ 52 + seconds → IsSize ticks bits
size_of ticks scaled places seconds bits some scale rounded is =
    let low = rounded.low in
    let most = scale.most in
    let high = rounded.high in
    let least = scale.least in
    let few = scale.few in
    let places_above = scale.some in
    elim (order (2 ^ 53) seconds) as (λ _. IsSize ticks bits) [
      | inl up ↦
          let at : seconds ≡ 2 ^ 53 = omega arith in
          let less : places ≡ places - 1 + 1 = omega arith in
          size_of_some ticks (places - 1) seconds bits (2 ^ 52)
          (carried ticks scaled (places - 1) seconds (subst (IsScaled ticks scaled) less scale) rounded at) (omega arith) some (omega arith)
      | inr fits ↦ size_of_some ticks places seconds bits seconds (whole ticks scaled places seconds scale rounded fits) (omega arith) some (omega arith)
    ]

-- ticks that are moved up to their 64th bit, and 12 bits further
pub scaled_of : (ticks wide : ℕ) → 0 < ticks → ticks < 2 ^ 64 → wide ≡ ticks
    → let zeros = count_leading_zeros 64 ticks in let scaled = wide * 2 ^ (12 + zeros) % 2 ^ 128 in
    (zeros ≤ 63) × (scaled ≡ ticks * 2 ^ (12 + zeros)) × (2 ^ 75 ≤ scaled) × (scaled < 2 ^ 76) × (scaled ≡ 4096 * (ticks * 2 ^ zeros))
scaled_of ticks wide some fits same =
    let zeros = count_leading_zeros 64 ticks in
    let moved = ticks * 2 ^ (12 + zeros) in
    let top = leading_top 64 ticks some fits in
    let low_power : top.0 + (12 + zeros) ≡ 75 = omega (arith, top.1) in
    let high_power : suc top.0 + (12 + zeros) ≡ 76 = omega (arith, top.1) in
    let low : 2 ^ 75 ≤ moved =
    subst (λ (n : ℕ). n ≤ moved) (sym (pow-add 2 top.0 (12 + zeros)) ∙ ap (λ (n : ℕ). 2 ^ n) low_power)
    (mul-le (2 ^ top.0) (2 ^ (12 + zeros)) ticks (2 ^ (12 + zeros)) top.2 (le_refl (2 ^ (12 + zeros)))) in
    let high : moved < 2 ^ 76 = subst (λ (n : ℕ). moved < 2 ^ n) high_power (shl_below ticks (suc top.0) (12 + zeros) top.3) in
    let below : moved % 2 ^ 128 ≡ moved = omega arith in
    let is : wide * 2 ^ (12 + zeros) % 2 ^ 128 ≡ moved = ap (λ (n : ℕ). n * 2 ^ (12 + zeros) % 2 ^ 128) same ∙ below in
    let even : moved ≡ 4096 * (ticks * 2 ^ zeros) = ap (λ (n : ℕ). ticks * n) (pow-add 2 12 zeros) ∙ mul_left_comm ticks 4096 (2 ^ zeros) in
    (omega (arith, top.1), is, subst (λ (n : ℕ). 2 ^ 75 ≤ n) (sym is) low, subst (λ (n : ℕ). n < 2 ^ 76) (sym is) high, is ∙ even)

-- ticks times twice a power of two
pub one_more_place : (ticks scaled places : ℕ) → scaled ≡ ticks * 2 ^ places → scaled * 2 ≡ ticks * 2 ^ (places + 1)
one_more_place ticks scaled places is =
    ap (λ (n : ℕ). n * 2) is ∙ mul_assoc ticks (2 ^ places) 2 ∙ ap (λ (n : ℕ). ticks * n) (sym (pow-add 2 places 1))
