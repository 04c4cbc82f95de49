-- Numbers as bytes, and the number at a place. Where nothing else is said, the most significant byte is first.
use Rattle.std.specs.Prelude.{ℕ, List, take, drop, reverse}
use Rattle.std.specs.Int.{bytes_high_first}
use Rattle.std.specs.Int.Digits.{number_from_digits}

-- a number in this many bytes
unfoldable pub number_bytes : ℕ → ℕ → List ℕ
number_bytes count n = bytes_high_first count n

-- the same, the least significant byte first
unfoldable pub low_number_bytes : ℕ → ℕ → List ℕ
low_number_bytes count n = reverse (number_bytes count n)

-- the number that bytes are in base 256
unfoldable pub number_of : List ℕ → ℕ
number_of bytes = number_from_digits 256 bytes

-- the same, the least significant byte first
unfoldable pub low_number_of : List ℕ → ℕ
low_number_of bytes = number_of (reverse bytes)

-- the number of two, four and eight bytes, in both orders
abbrev pub half_word_bytes : ℕ → List ℕ
half_word_bytes n = number_bytes 2 n

abbrev pub word_bytes : ℕ → List ℕ
word_bytes n = number_bytes 4 n

abbrev pub double_word_bytes : ℕ → List ℕ
double_word_bytes n = number_bytes 8 n

abbrev pub low_half_word_bytes : ℕ → List ℕ
low_half_word_bytes n = low_number_bytes 2 n

abbrev pub low_word_bytes : ℕ → List ℕ
low_word_bytes n = low_number_bytes 4 n

abbrev pub low_double_word_bytes : ℕ → List ℕ
low_double_word_bytes n = low_number_bytes 8 n

-- this many bytes behind the first ones
abbrev pub part_at : ℕ → ℕ → List ℕ → List ℕ
part_at place count bytes = take count (drop place bytes)

-- the number in the four bytes at a place, in both orders
abbrev pub word_at : ℕ → List ℕ → ℕ
word_at place bytes = number_of (part_at place 4 bytes)

abbrev pub low_word_at : ℕ → List ℕ → ℕ
low_word_at place bytes = low_number_of (part_at place 4 bytes)
