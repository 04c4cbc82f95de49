-- A timestamp of the wire, and the moments that it stands for.
use Rattle.std.specs.Prelude.{◌≡◌, ℕ, ◌+◌, ◌*◌, ◌/◌, ◌<◌, ◌^◌, ℤ, pos, ◌+ℤ◌, ◌-ℤ◌, ◌≤ℤ◌, ◌<ℤ◌, List, ◌++◌}
use Rattle.std.specs.Int.{int_rem_euclid}
use Rattle.base_specs.specs.Time.{IsStamp, second, wire_epoch}
use Rattle.byte_codec.specs.Numbers.{word_bytes, word_at}
use Rattle.ntp_wire.specs.declared.stamp.Stamp.{Stamp}

-- the timestamp of a moment
abbrev pub IsStampOf : ℤ → Stamp → Type 0
IsStampOf t s = (n : ℕ) × (t ≡ pos n) × IsStamp n s.seconds s.fraction

-- the ticks in 2^32 seconds, after which timestamps repeat
abbrev pub era : ℕ
era = 2 ^ 32 * second

-- within half of 2^32 seconds of a moment, the later end left out
pub record IsInReach (near t : ℤ) : Type 0 where
  pub low : near ≤ℤ (t +ℤ pos (2 ^ 31 * second))
  pub high : t <ℤ (near +ℤ pos (2 ^ 31 * second))

-- the moment in reach of another one that a timestamp stands for, computed
abbrev pub ticks_of : Stamp → ℤ → ℤ
ticks_of s near =
    (near -ℤ pos (2 ^ 31 * second))
    +ℤ int_rem_euclid (pos ((s.seconds + wire_epoch) * second + s.fraction * second / 2 ^ 32) -ℤ (near -ℤ pos (2 ^ 31 * second))) (pos era)

-- the eight bytes of a timestamp
abbrev pub stamp_bytes : Stamp → List ℕ
stamp_bytes s = word_bytes s.seconds ++ word_bytes s.fraction

-- both numbers are within their four bytes
pub record StampFits (s : Stamp) : Type 0 where
  pub seconds : s.seconds < 2 ^ 32
  pub fraction : s.fraction < 2 ^ 32

-- the timestamp in the eight bytes at a place
abbrev pub stamp_at : ℕ → List ℕ → Stamp
stamp_at place bytes = record { seconds = word_at place bytes; fraction = word_at (place + 4) bytes }
