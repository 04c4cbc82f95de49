-- The lines of `/show`: the fields of a message.
use Rattle.std.specs.Prelude.{ℕ, List, [], ◌∷◌, ◌++◌, codes, decimal}
use Rattle.std.specs.Fmt.{signed_decimal}
use Rattle.hex.specs.Hex.{encode_lower}
use Rattle.byte_codec.specs.Numbers.{word_bytes}
use Rattle.ntp_wire.specs.declared.header.Header.{Header}
use Rattle.ntp_wire.specs.declared.stamp.Stamp.{Stamp}
use Rattle.ms_auth.specs.declared.packet.Packet.{Packet}
use Rattle.ms_auth.specs.declared.packet.Tail.{Tail}
use Rattle.ms_auth.specs.declared.packet.Tail.TheVariants.{Plain, Short68, Ext120}

-- the eight lower-case hexadecimal digits of a number of 32 bits
abbrev pub word_digits : ℕ → List ℕ
word_digits n = encode_lower (word_bytes n)

-- a timestamp: the digits of its seconds, then those of its fraction
abbrev pub stamp_digits : Stamp → List ℕ
stamp_digits s = word_digits s.seconds ++ word_digits s.fraction

-- the leap indicator, the version, the mode, the stratum, the poll exponent and the precision
unfoldable pub clock_line : Header → List ℕ
clock_line h =
    codes "leap=" ++ decimal h.leap
    ++ codes " version=" ++ decimal h.version
    ++ codes " mode=" ++ decimal h.mode
    ++ codes " stratum=" ++ decimal h.stratum
    ++ codes " poll=" ++ signed_decimal h.poll
    ++ codes " precision=" ++ signed_decimal h.precision
    ++ 10 ∷ []

-- the root delay, the root dispersion and the reference identifier
unfoldable pub root_line : Header → List ℕ
root_line h =
    codes "rootdelay=" ++ signed_decimal h.root_delay
    ++ codes " rootdispersion=" ++ decimal h.root_dispersion
    ++ codes " refid=" ++ encode_lower h.reference_id
    ++ 10 ∷ []

-- the reference and the originate timestamp
unfoldable pub reference_line : Header → List ℕ
reference_line h =
    codes "reference=" ++ stamp_digits h.reference
    ++ codes " originate=" ++ stamp_digits h.originate
    ++ 10 ∷ []

-- the receive and the transmit timestamp
unfoldable pub receive_line : Header → List ℕ
receive_line h =
    codes "receive=" ++ stamp_digits h.receive
    ++ codes " transmit=" ++ stamp_digits h.transmit
    ++ 10 ∷ []

-- what stands behind the header
unfoldable pub tail_line : Tail → List ℕ
tail_line Plain = codes "tail=plain" ++ 10 ∷ []
tail_line (Short68 key_id sum) =
    codes "tail=short keyid=" ++ word_digits key_id
    ++ codes " checksum=" ++ encode_lower sum
    ++ 10 ∷ []
tail_line (Ext120 rid reserved flags hints hash sum) =
    codes "tail=extended rid=" ++ decimal rid
    ++ codes " reserved=" ++ decimal reserved
    ++ codes " flags=" ++ decimal flags
    ++ codes " hints=" ++ decimal hints
    ++ codes " hash=" ++ decimal hash
    ++ codes " checksum=" ++ encode_lower sum
    ++ 10 ∷ []

-- the five lines of a message
abbrev pub show_lines : Packet → List (List ℕ)
show_lines p =
    clock_line p.header ∷ root_line p.header ∷ reference_line p.header ∷ receive_line p.header ∷ tail_line p.tail ∷ []
