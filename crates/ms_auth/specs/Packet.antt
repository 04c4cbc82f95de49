-- Messages: a header and what stands behind it (MS-SNTP, Authenticator and ExtendedAuthenticator).
use Rattle.std.specs.Prelude.{◌≡◌, ℕ, List, [], ◌∷◌, ◌++◌, ◌<◌, ◌^◌, ◌⊎◌, length, ⊤}
use Rattle.byte_codec.specs.Numbers.{low_word_bytes}
use Rattle.ntp_wire.specs.Header.{header_bytes, HeaderFits}
use Rattle.ms_auth.specs.declared.packet.Packet.{Packet}
use Rattle.ms_auth.specs.declared.packet.Tail.{Tail}
use Rattle.ms_auth.specs.declared.packet.Tail.TheVariants.{Plain, Short68, Ext120}

-- the bytes behind the header
abbrev pub tail_bytes : Tail → List ℕ
tail_bytes Plain = []
tail_bytes (Short68 key_id sum) = low_word_bytes key_id ++ sum
tail_bytes (Ext120 rid reserved flags hints hash sum) = low_word_bytes rid ++ reserved ∷ flags ∷ hints ∷ hash ∷ sum

-- the one spelling of a message
abbrev pub packet_bytes : Packet → List ℕ
packet_bytes p = header_bytes p.header ++ tail_bytes p.tail

-- each field of the tail is within the width of its place
abbrev pub TailFits : Tail → Type 0
TailFits Plain = ⊤
TailFits (Short68 key_id sum) = (key_id < 2 ^ 32) × (length sum ≡ 16)
TailFits (Ext120 rid reserved flags hints hash sum) = (rid < 2 ^ 32) × (length sum ≡ 64) × (reserved < 2 ^ 8) × (flags < 2 ^ 8) × (hints < 2 ^ 8) × (hash < 2 ^ 8)

-- each field of the message is within the width of its place
pub record PacketFits (p : Packet) : Type 0 where
  pub header : HeaderFits p.header
  pub tail : TailFits p.tail

-- these bytes behind a header spell the tail, and no other
pub record SpellsTail (t : Tail) (bytes : List ℕ) : Type 0 where
  pub fits : TailFits t
  pub written : bytes ≡ tail_bytes t

-- these bytes spell the message, and no other
pub record SpellsPacket (p : Packet) (bytes : List ℕ) : Type 0 where
  pub fits : PacketFits p
  pub written : bytes ≡ packet_bytes p

-- how many bytes messages have, and their tails
abbrev pub IsPacketLength : ℕ → Type 0
IsPacketLength n = (n ≡ 48) ⊎ (n ≡ 68) ⊎ (n ≡ 120)

abbrev pub IsTailLength : ℕ → Type 0
IsTailLength n = (n ≡ 0) ⊎ (n ≡ 20) ⊎ (n ≡ 72)
