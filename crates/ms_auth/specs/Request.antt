-- The request of a member (this project's profile of MS-SNTP).
use Rattle.std.specs.Prelude.{◌≡◌, ℕ, pos, negsuc, List, ◌∷◌, ◌++◌, replicate}
use Rattle.byte_codec.specs.Numbers.{low_word_bytes}
use Rattle.ntp_wire.specs.declared.header.Header.{Header}
use Rattle.ntp_wire.specs.declared.stamp.Stamp.{Stamp}
use Rattle.ntp_wire.specs.Stamp.{stamp_bytes}
use Rattle.ms_auth.specs.declared.packet.Kind.{Kind}
use Rattle.ms_auth.specs.declared.packet.Kind.TheVariants.{Short, Extended}
use Rattle.ms_auth.specs.declared.packet.Packet.{Packet}
use Rattle.ms_auth.specs.declared.packet.Tail.{Tail}
use Rattle.ms_auth.specs.declared.packet.Tail.TheVariants.{Short68, Ext120}

-- the timestamp that says nothing
abbrev pub no_stamp : Stamp
no_stamp = record { seconds = 0; fraction = 0 }

-- the header of a request: a client of version 3 whose clock is not synchronized, with its poll exponent and its timestamp
pub record IsRequestHeader (poll : ℕ) (stamp : Stamp) (h : Header) : Type 0 where
  pub leap : h.leap ≡ 3
  pub version : h.version ≡ 3
  pub mode : h.mode ≡ 3
  pub stratum : h.stratum ≡ 0
  pub poll_is : h.poll ≡ pos poll
  pub precision : h.precision ≡ negsuc 22
  pub root_delay : h.root_delay ≡ pos 0
  pub root_dispersion : h.root_dispersion ≡ 0
  pub reference_id : h.reference_id ≡ replicate 4 0
  pub reference : h.reference ≡ no_stamp
  pub originate : h.originate ≡ no_stamp
  pub receive : h.receive ≡ no_stamp
  pub transmit : h.transmit ≡ stamp

-- the tail of a request: the account's RID, the current key, and no checksum yet; an extended one says which digest it knows
abbrev pub request_tail : Kind → ℕ → Tail
request_tail Short rid = Short68 rid (replicate 16 0)
request_tail Extended rid = Ext120 rid 0 0 1 0 (replicate 64 0)

-- a request of this kind for the account with this RID
pub record IsRequest (kind : Kind) (rid poll : ℕ) (stamp : Stamp) (p : Packet) : Type 0 where
  pub header : IsRequestHeader poll stamp p.header
  pub tail : p.tail ≡ request_tail kind rid

-- the same as bytes
abbrev pub request_tail_bytes : Kind → ℕ → List ℕ
request_tail_bytes Short rid = low_word_bytes rid ++ replicate 16 0
request_tail_bytes Extended rid = low_word_bytes rid ++ 0 ∷ 0 ∷ 1 ∷ 0 ∷ replicate 64 0

-- the whole request as bytes
abbrev pub request_bytes : Kind → ℕ → ℕ → Stamp → List ℕ
request_bytes kind rid poll stamp = 0xDB ∷ 0 ∷ poll ∷ 0xE9 ∷ replicate 36 0 ++ stamp_bytes stamp ++ request_tail_bytes kind rid
