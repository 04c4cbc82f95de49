-- The checksum of a message under an account's key.
use Rattle.std.specs.Prelude.{◌≡◌, ℕ, List, Option, Some, None}
use Rattle.mac_kdf.specs.Digests.{ext_digest, md5_digest}
use Rattle.ntp_wire.specs.Header.{header_bytes}
use Rattle.ms_auth.specs.declared.packet.Packet.{Packet}
use Rattle.ms_auth.specs.declared.packet.Tail.{Tail}
use Rattle.ms_auth.specs.declared.packet.Tail.TheVariants.{Plain, Short68, Ext120}
use Rattle.ms_auth.specs.Packet.{packet_bytes}

-- the checksum of a header with this tail: MD5 of key and header for a short one, HMAC under the key derived for the
-- tail's own RID for an extended one, and none for a plain one
abbrev pub tail_digest : Tail → List ℕ → List ℕ → Option (List ℕ)
tail_digest Plain key header = None
tail_digest (Short68 key_id sum) key header = Some (md5_digest key header)
tail_digest (Ext120 rid reserved flags hints hash sum) key header = Some (ext_digest key rid header)

-- the checksum that a message should carry under a key
abbrev pub digest_of : Packet → List ℕ → Option (List ℕ)
digest_of p key = tail_digest p.tail key (header_bytes p.header)

-- the checksum that a tail carries
abbrev pub sum_of : Tail → Option (List ℕ)
sum_of Plain = None
sum_of (Short68 key_id sum) = Some sum
sum_of (Ext120 rid reserved flags hints hash sum) = Some sum

-- the message carries a checksum, and it is the one under the key
pub record HasDigest (key : List ℕ) (p : Packet) : Type 0 where
  pub sum : List ℕ
  pub carried : sum_of p.tail ≡ Some sum
  pub is_digest : digest_of p key ≡ Some sum

-- what a tail becomes with this checksum: a plain one stays as it is
abbrev pub IsSignedTail : Option (List ℕ) → Tail → Tail → Type 0
IsSignedTail digest Plain now = now ≡ Plain
IsSignedTail digest (Short68 key_id old) now = (sum : List ℕ) × (digest ≡ Some sum) × (now ≡ Short68 key_id sum)
IsSignedTail digest (Ext120 rid reserved flags hints hash old) now = (sum : List ℕ) × (digest ≡ Some sum) × (now ≡ Ext120 rid reserved flags hints hash sum)

-- the message with its checksum under the key, and nothing else changed
pub record IsSigned (key : List ℕ) (p now : Packet) : Type 0 where
  pub header : now.header ≡ p.header
  pub tail : IsSignedTail (digest_of p key) p.tail now.tail

-- bytes that spell the message with its checksum under the key
pub record SpellsSigned (key : List ℕ) (p : Packet) (bytes : List ℕ) : Type 0 where
  pub signed : Packet
  pub is_signed : IsSigned key p signed
  pub written : bytes ≡ packet_bytes signed
