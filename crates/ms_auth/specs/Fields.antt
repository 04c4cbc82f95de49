-- The fields of a message by their places in its bytes, and the checksum that the bytes should carry.
use Rattle.std.specs.Prelude.{◌≡◌, ◌==◌, ℕ, ◌%◌, ◌^◌, Bool, nat_le, List, length, slice_index, take, Some}
use Rattle.byte_codec.specs.Numbers.{low_word_at, part_at}
use Rattle.mac_kdf.specs.Digests.{ext_digest, md5_digest}
use Rattle.ntp_wire.specs.Fields.{IsHeaderAt}
use Rattle.ms_auth.specs.declared.packet.Kind.{Kind}
use Rattle.ms_auth.specs.declared.packet.Kind.TheVariants.{Short, Extended}
use Rattle.ms_auth.specs.declared.packet.Packet.{Packet}
use Rattle.ms_auth.specs.declared.packet.Tail.{Tail}
use Rattle.ms_auth.specs.declared.packet.Tail.TheVariants.{Plain, Short68, Ext120}
use Rattle.ms_auth.specs.Digest.{digest_of, sum_of}

-- the key identifier, the least significant byte first; all of it is the RID of an extended message
abbrev pub key_id_of : List ℕ → ℕ
key_id_of bytes = low_word_at 48 bytes

-- the RID in the key identifier of a short message: the low 31 bits
abbrev pub short_rid_in : ℕ → ℕ
short_rid_in key_id = key_id % 2 ^ 31

-- whether it asks for the previous key: bit 31
abbrev pub asks_previous_in : ℕ → Bool
asks_previous_in key_id = nat_le (2 ^ 31) key_id

-- both of a short message by its bytes
abbrev pub short_rid_of : List ℕ → ℕ
short_rid_of bytes = short_rid_in (key_id_of bytes)

abbrev pub asks_for_previous : List ℕ → Bool
asks_for_previous bytes = asks_previous_in (key_id_of bytes)

-- the checksum of a short message
abbrev pub short_sum_of : List ℕ → List ℕ
short_sum_of bytes = part_at 52 16 bytes

-- the single bytes of an extended message, and its checksum
abbrev pub reserved_of : List ℕ → ℕ
reserved_of bytes = slice_index bytes 52

abbrev pub flags_of : List ℕ → ℕ
flags_of bytes = slice_index bytes 53

abbrev pub hints_of : List ℕ → ℕ
hints_of bytes = slice_index bytes 54

abbrev pub hash_of : List ℕ → ℕ
hash_of bytes = slice_index bytes 55

abbrev pub extended_sum_of : List ℕ → List ℕ
extended_sum_of bytes = part_at 56 64 bytes

-- an extended tail whose fields are those at their places
pub record IsExtendedAt (bytes : List ℕ) (rid reserved flags hints hash : ℕ) (sum : List ℕ) : Type 0 where
  pub size : length bytes ≡ 120
  pub key_id_is : key_id_of bytes ≡ rid
  pub reserved_is : reserved_of bytes ≡ reserved
  pub flags_is : flags_of bytes ≡ flags
  pub hints_is : hints_of bytes ≡ hints
  pub hash_is : hash_of bytes ≡ hash
  pub sum_is : extended_sum_of bytes ≡ sum

-- a tail whose fields are those at their places, behind a header
abbrev pub IsTailAt : List ℕ → Tail → Type 0
IsTailAt bytes Plain = length bytes ≡ 48
IsTailAt bytes (Short68 key_id sum) = (length bytes ≡ 68) × (key_id_of bytes ≡ key_id) × (short_sum_of bytes ≡ sum)
IsTailAt bytes (Ext120 rid reserved flags hints hash sum) = IsExtendedAt bytes rid reserved flags hints hash sum

-- bytes in a message of each kind
abbrev pub kind_length : Kind → ℕ
kind_length Short = 68
kind_length Extended = 120

-- the RID that a message of a kind names
abbrev pub rid_at : Kind → List ℕ → ℕ
rid_at Short bytes = short_rid_of bytes
rid_at Extended bytes = key_id_of bytes

-- whether it asks for the previous key: by bit 31 of the key identifier, and by bit 0 of Flags
abbrev pub old_at : Kind → List ℕ → Bool
old_at Short bytes = asks_for_previous bytes
old_at Extended bytes = flags_of bytes % 2 == 1

-- the checksum that the bytes of a message of a kind carry
abbrev pub sum_at : Kind → List ℕ → List ℕ
sum_at Short bytes = short_sum_of bytes
sum_at Extended bytes = extended_sum_of bytes

-- the checksum that they should carry under a key
abbrev pub digest_at : Kind → List ℕ → List ℕ → List ℕ
digest_at Short key bytes = md5_digest key (take 48 bytes)
digest_at Extended key bytes = ext_digest key (key_id_of bytes) (take 48 bytes)

-- a message whose checksum, and the one that it should carry under each key, are those at their places
pub record IsChecksumAt (kind : Kind) (bytes : List ℕ) (p : Packet) : Type 0 where
  pub carried : sum_of p.tail ≡ Some (sum_at kind bytes)
  pub due : (key : List ℕ) → digest_of p key ≡ Some (digest_at kind key bytes)

-- a message whose fields are those at their places
pub record IsPacketAt (bytes : List ℕ) (p : Packet) : Type 0 where
  pub header : IsHeaderAt bytes p.header
  pub tail : IsTailAt bytes p.tail
  pub checksum : (kind : Kind) → length bytes ≡ kind_length kind → IsChecksumAt kind bytes p
