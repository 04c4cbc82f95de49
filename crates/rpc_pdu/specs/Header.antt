-- The 16 bytes with which a PDU begins (C706, 12.6.3.1), and what is wrong with them.
use Rattle.std.specs.Prelude.{ℕ, ◌/◌, ◌%◌, Bool, not, ◌&&◌, ◌||◌, List, Option, Some, None, nat_lt, ◌==◌, if◌then◌else◌, slice_index}
use Rattle.byte_codec.specs.Numbers.{low_number_of, low_word_at, part_at}
use Rattle.rpc_pdu.specs.declared.fault.Flaw.{Flaw}
use Rattle.rpc_pdu.specs.declared.fault.Flaw.TheVariants.{BadVersion, BadType, BadFragment, BadDrep, BadLength, BadAuth}
use Rattle.rpc_pdu.specs.declared.header.Header.{Header}

-- the number in the two bytes at a place, the least significant byte first
abbrev pub low_half_word_at : ℕ → List ℕ → ℕ
low_half_word_at place bytes = low_number_of (part_at place 2 bytes)

-- the header with which these bytes begin
abbrev pub header_of : List ℕ → Header
header_of bytes = record {
  version = slice_index bytes 0;
  minor = slice_index bytes 1;
  kind = slice_index bytes 2;
  flags = slice_index bytes 3;
  representation = slice_index bytes 4;
  fragment_len = low_half_word_at 8 bytes;
  auth_len = low_half_word_at 10 bytes;
  call_id = low_word_at 12 bytes;
}

-- the types
abbrev pub request_kind : ℕ
request_kind = 0

abbrev pub response_kind : ℕ
response_kind = 2

abbrev pub fault_kind : ℕ
fault_kind = 3

abbrev pub bind_kind : ℕ
bind_kind = 11

abbrev pub bind_ack_kind : ℕ
bind_ack_kind = 12

abbrev pub bind_nak_kind : ℕ
bind_nak_kind = 13

-- whether this is one of them
unfoldable pub is_kind : ℕ → Bool
is_kind kind =
    kind == request_kind || kind == response_kind || kind == fault_kind
    || kind == bind_kind || kind == bind_ack_kind || kind == bind_nak_kind

-- What is wrong with a header, by the first of these that applies. The lowest flags are those of the first and of the
-- last fragment. The high half of the first byte of the data representation says how numbers are written.
unfoldable pub header_flaw : Header → Option Flaw
header_flaw h =
    if not (h.version == 5 && h.minor == 0) then Some BadVersion else
    (if not (is_kind h.kind) then Some BadType else
    (if not (h.flags % 4 == 3) then Some BadFragment else
    (if not (h.representation / 16 == 1) then Some BadDrep else
    (if nat_lt h.fragment_len 16 || nat_lt 5840 h.fragment_len then Some BadLength else
    (if not (h.auth_len == 0) then Some BadAuth else None)))))
