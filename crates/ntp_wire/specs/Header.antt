-- The 48 bytes of a header (RFC 1305, appendix A).
use Rattle.std.specs.Prelude.{◌≡◌, ℕ, ◌+◌, ◌*◌, ◌<◌, ◌^◌, List, [], ◌∷◌, ◌++◌, length, FitsSigned}
use Rattle.std.specs.Int.{w8, w32, cast_unsigned}
use Rattle.byte_codec.specs.Numbers.{word_bytes}
use Rattle.ntp_wire.specs.declared.header.Header.{Header}
use Rattle.ntp_wire.specs.Stamp.{stamp_bytes, StampFits}

-- the leap indicator in the highest 2 bits, the version in the next 3, the mode in the lowest 3
abbrev pub first_byte : Header → ℕ
first_byte h = 64 * h.leap + 8 * h.version + h.mode

-- the first byte, the stratum, the poll exponent and the precision
unfoldable pub head_bytes : Header → List ℕ
head_bytes h = first_byte h ∷ h.stratum ∷ cast_unsigned w8 h.poll ∷ cast_unsigned w8 h.precision ∷ []

-- the one spelling of a header
unfoldable pub header_bytes : Header → List ℕ
header_bytes h =
    head_bytes h
    ++ word_bytes (cast_unsigned w32 h.root_delay)
    ++ word_bytes h.root_dispersion
    ++ h.reference_id
    ++ stamp_bytes h.reference
    ++ stamp_bytes h.originate
    ++ stamp_bytes h.receive
    ++ stamp_bytes h.transmit

-- each field is within the width of its place
pub record HeaderFits (h : Header) : Type 0 where
  pub stratum : h.stratum < 2 ^ 8
  pub poll : FitsSigned w8 h.poll
  pub precision : FitsSigned w8 h.precision
  pub root_delay : FitsSigned w32 h.root_delay
  pub root_dispersion : h.root_dispersion < 2 ^ 32
  pub reference_id : length h.reference_id ≡ 4
  pub reference : StampFits h.reference
  pub originate : StampFits h.originate
  pub receive : StampFits h.receive
  pub transmit : StampFits h.transmit

-- these bytes spell the header, and no other
pub record SpellsHeader (h : Header) (bytes : List ℕ) : Type 0 where
  pub fits : HeaderFits h
  pub written : bytes ≡ header_bytes h
