-- The samples that chronyd takes from its reference clock driver SOCK: `struct sock_sample` of its source.
use Rattle.std.specs.Prelude.{◌≡◌, ◌≤◌, ◌<◌, ℕ, ◌+◌, ◌-◌, ◌*◌, ◌/◌, ◌%◌, ◌^◌, ℤ, pos, negsuc, List, ◌++◌, zero, suc}
use Rattle.std.specs.Int.{abs_diff}
use Rattle.base_specs.specs.Time.{second}
use Rattle.byte_codec.specs.Numbers.{low_double_word_bytes, low_word_bytes}

-- mantissa / 2^places is a number of 53 bits, less than half a unit of its last bit from so many ticks in seconds, and no
-- number of 53 bits is nearer: it is the double that is nearest.
pub record IsNearest (ticks mantissa places : ℕ) : Type 0 where
  pub normal : 2 ^ 52 ≤ mantissa
  pub fits : mantissa < 2 ^ 53
  pub half : 2 * abs_diff (mantissa * second) (ticks * 2 ^ places) < second
  pub nearest : (other place : ℕ) → other < 2 ^ 53
      → abs_diff (mantissa * second) (ticks * 2 ^ places) * 2 ^ place ≤ abs_diff (other * second) (ticks * 2 ^ place) * 2 ^ places

-- The bits of the double of so many ticks in seconds (IEEE 754): the exponent with its bias, and then the mantissa without
-- its first bit. Of no ticks they are all zeros.
abbrev pub IsSize : ℕ → ℕ → Type 0
IsSize zero bits = bits ≡ 0
IsSize (suc less) bits =
    (mantissa : ℕ) × (places : ℕ) × IsNearest (suc less) mantissa places × (places ≤ 1074)
    × (bits ≡ (1075 - places) * 2 ^ 52 + (mantissa - 2 ^ 52))

-- the bits of the double of an amount in seconds, the first of which is its sign
abbrev pub IsSeconds : ℤ → ℕ → Type 0
IsSeconds (pos ticks) bits = IsSize ticks bits
IsSeconds (negsuc less) bits = (size : ℕ) × IsSize (less + 1) size × (bits ≡ 2 ^ 63 + size)

-- A sample, the least significant byte of each number first: the seconds and microseconds since 1970 of the measurement,
-- the double of the offset, no pulse, no leap second, a filler, and the number that marks a sample.
abbrev pub sample_bytes : ℕ → ℕ → ℕ → List ℕ
sample_bytes seconds micros double =
    low_double_word_bytes seconds ++ low_double_word_bytes micros ++ low_double_word_bytes double
    ++ low_word_bytes 0 ++ low_word_bytes 0 ++ low_word_bytes 0 ++ low_word_bytes 0x534f434b

-- the sample of an offset that was measured so many nanoseconds after the start of 1970
pub record SpellsSample (nanos : ℕ) (offset : ℤ) (bytes : List ℕ) : Type 0 where
  pub double : ℕ
  pub seconds : IsSeconds offset double
  pub spelled : bytes ≡ sample_bytes (nanos / 1000000000) (nanos % 1000000000 / 1000) double
