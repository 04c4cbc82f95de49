-- A number has one spelling in a count of bytes, and no other number has it.
use Rattle.std.proofs.Common.{◌≡◌, ℕ, zero, suc, ◌+◌, ◌*◌, ◌/◌, ◌%◌, ◌^◌, ◌<◌, length, refl, sym, ◌∙◌, ap, arith, lit<}
use Rattle.std.specs.Int.{bytes_high_first}
use Rattle.std.specs.Int.Digits.{number_from_digits_after}
use Rattle.std.proofs.Math.Arith.{mod-mul}
use Rattle.std.proofs.Math.Nat.{pow-succ', one-le-pow, add-mul, mul_assoc, mod-eq_of_lt}
use Rattle.std.proofs.lemmas.List.{length-reverse, reverse-reverse}
use Rattle.byte_codec.specs.Numbers.{number_bytes, low_number_bytes, number_of, low_number_of}

length-bytes_high_first : (count n : ℕ) → length (bytes_high_first count n) ≡ count
length-bytes_high_first zero n = refl
length-bytes_high_first (suc count) n = ap (λ (k : ℕ). suc k) (length-bytes_high_first count n)

pub length-number_bytes : (count n : ℕ) → length (number_bytes count n) ≡ count
unfolding number_bytes
length-number_bytes count n = length-bytes_high_first count n

pub length-low_number_bytes : (count n : ℕ) → length (low_number_bytes count n) ≡ count
unfolding low_number_bytes
length-low_number_bytes count n = length-reverse (number_bytes count n) ∙ length-number_bytes count n

-- one byte more, in front of those of lower places
digit_more : (m n place : ℕ) → 0 < place → (m * 256 + n / place % 256) * place + n % place ≡ m * (256 * place) + n % (256 * place)
digit_more m n place above =
    let split : n % (256 * place) ≡ (n / place % 256) * place + n % place = mod-mul n (lit< tt) above in
    let whole : (m * 256) * place ≡ m * (256 * place) = mul_assoc m 256 place in
    let parts : (m * 256 + n / place % 256) * place ≡ (m * 256) * place + (n / place % 256) * place = add-mul (m * 256) (n / place % 256) place in
    omega (arith, split, whole, parts)

-- a number followed by bytes of another one
digits-bytes_high_first : (count m n : ℕ) → number_from_digits_after 256 m (bytes_high_first count n) ≡ m * 256 ^ count + n % 256 ^ count
digits-bytes_high_first zero m n = omega arith
digits-bytes_high_first (suc zero) m n = omega arith
digits-bytes_high_first (suc (suc count)) m n =
    let place = 256 ^ suc count in
    digits-bytes_high_first (suc count) (m * 256 + n / place % 256) n
    ∙ digit_more m n place (one-le-pow (suc count) 256 (lit< tt))
    ∙ ap (λ (p : ℕ). m * p + n % p) (sym (pow-succ' 256 (suc count)))

-- the number that a number's bytes are
pub number_of-number_bytes : (count n : ℕ) → n < 256 ^ count → number_of (number_bytes count n) ≡ n
unfolding number_of number_bytes
number_of-number_bytes count n fits =
    digits-bytes_high_first count 0 n ∙ omega (arith, mod-eq_of_lt {n = n} {m = 256 ^ count} fits)

pub low_number_of-low_number_bytes : (count n : ℕ) → n < 256 ^ count → low_number_of (low_number_bytes count n) ≡ n
unfolding low_number_of low_number_bytes
low_number_of-low_number_bytes count n fits = ap number_of (reverse-reverse (number_bytes count n)) ∙ number_of-number_bytes count n fits

-- two numbers of the same bytes are equal
pub same_number : (count m n : ℕ) → m < 256 ^ count → n < 256 ^ count → number_bytes count m ≡ number_bytes count n → m ≡ n
same_number count m n fits also same =
    sym (number_of-number_bytes count m fits) ∙ ap number_of same ∙ number_of-number_bytes count n also

pub same_low_number : (count m n : ℕ) → m < 256 ^ count → n < 256 ^ count → low_number_bytes count m ≡ low_number_bytes count n → m ≡ n
same_low_number count m n fits also same =
    sym (low_number_of-low_number_bytes count m fits) ∙ ap low_number_of same ∙ low_number_of-low_number_bytes count n also
