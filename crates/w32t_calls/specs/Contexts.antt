-- The contexts that a bind offers (C706, 12.6.4.3), as a list, and which of them are accepted.
use Rattle.std.specs.Prelude.{ℕ, zero, suc, ◌*◌, Bool, false, ◌&&◌, ◌||◌, List, [], ◌∷◌, map, filter, drop, slice_index, nat_le, ◌==◌, bytes_eq}
use Rattle.std.specs.List.{list_any}
use Rattle.byte_codec.specs.Numbers.{part_at}
use Rattle.rpc_pdu.specs.declared.bind.Context.{Context}
use Rattle.rpc_pdu.specs.Bind.{context_len, interface_bytes, ndr_bytes}
use Rattle.rpc_pdu.specs.Header.{low_half_word_at}

-- whether the context with which these bytes begin is for the interface of the time service, version 4.0 or 4.1
abbrev pub is_known : List ℕ → Bool
is_known bytes =
    bytes_eq (part_at 4 16 bytes) interface_bytes
    && (low_half_word_at 20 bytes == 4 && nat_le (low_half_word_at 22 bytes) 1)

-- whether NDR version 2 is among this many transfer syntaxes
abbrev pub has_ndr : ℕ → List ℕ → Bool
has_ndr zero syntaxes = false
has_ndr (suc n) syntaxes = bytes_eq (part_at (20 * n) 20 syntaxes) ndr_bytes || has_ndr n syntaxes

-- the context with which these bytes begin
abbrev pub context_of : List ℕ → Context
context_of bytes = record {
  id = low_half_word_at 0 bytes;
  known = is_known bytes;
  ndr = has_ndr (slice_index bytes 2) (drop 24 bytes);
}

-- this many contexts, one after the other
abbrev pub contexts_in : ℕ → List ℕ → List Context
contexts_in zero bytes = []
contexts_in (suc n) bytes = context_of bytes ∷ contexts_in n (drop (context_len bytes) bytes)

-- the numbers of the contexts that are accepted: those that are known and have NDR
abbrev pub accepted_of : List Context → List ℕ
accepted_of contexts =
    map (λ (context : Context). context.id) (filter (λ (context : Context). context.known && context.ndr) contexts)

-- whether this context is among those accepted
abbrev pub is_accepted : ℕ → List ℕ → Bool
is_accepted context accepted = list_any (λ id. id == context) accepted
