-- The fields of a header, by their places in its bytes and in those of a message that begins with it.
use Rattle.std.specs.Prelude.{◌≡◌, ℕ, ◌/◌, ◌%◌, ℤ, List, slice_index}
use Rattle.std.specs.Int.{w8, cast_signed}
use Rattle.ntp_wire.specs.declared.header.Header.{Header}
use Rattle.ntp_wire.specs.declared.stamp.Stamp.{Stamp}
use Rattle.ntp_wire.specs.Stamp.{stamp_at}

-- each field by its place, the bits of the first byte apart
abbrev pub leap_of : List ℕ → ℕ
leap_of bytes = slice_index bytes 0 / 64

abbrev pub version_of : List ℕ → ℕ
version_of bytes = slice_index bytes 0 / 8 % 8

abbrev pub mode_of : List ℕ → ℕ
mode_of bytes = slice_index bytes 0 % 8

abbrev pub stratum_of : List ℕ → ℕ
stratum_of bytes = slice_index bytes 1

abbrev pub poll_of : List ℕ → ℤ
poll_of bytes = cast_signed w8 (slice_index bytes 2)

abbrev pub reference_of : List ℕ → Stamp
reference_of bytes = stamp_at 16 bytes

abbrev pub originate_of : List ℕ → Stamp
originate_of bytes = stamp_at 24 bytes

abbrev pub receive_of : List ℕ → Stamp
receive_of bytes = stamp_at 32 bytes

abbrev pub transmit_of : List ℕ → Stamp
transmit_of bytes = stamp_at 40 bytes

-- a header whose fields are those at these places
pub record IsHeaderAt (bytes : List ℕ) (h : Header) : Type 0 where
  pub leap : leap_of bytes ≡ h.leap
  pub version : version_of bytes ≡ h.version
  pub mode : mode_of bytes ≡ h.mode
  pub stratum : stratum_of bytes ≡ h.stratum
  pub poll : poll_of bytes ≡ h.poll
  pub reference : reference_of bytes ≡ h.reference
  pub originate : originate_of bytes ≡ h.originate
  pub receive : receive_of bytes ≡ h.receive
  pub transmit : transmit_of bytes ≡ h.transmit
