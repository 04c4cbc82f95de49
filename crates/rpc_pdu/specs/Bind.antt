-- What the body of a bind offers (C706, 12.6.4.3). Numbers stand with their least significant byte first.
use Rattle.std.specs.Prelude.{◌≡◌, ℕ, zero, suc, ◌+◌, ◌*◌, ◌<◌, ◌≤◌, ◌↔◌, min, IsTrue, List, [], ◌∷◌, length, drop, slice_get, slice_index, Some}
use Rattle.byte_codec.specs.Numbers.{low_word_at, part_at}
use Rattle.rpc_pdu.specs.declared.bind.Bind.{Bind}
use Rattle.rpc_pdu.specs.declared.bind.Context.{Context}
use Rattle.rpc_pdu.specs.Header.{low_half_word_at}

-- the interface of the time service, 8fb6d884-2388-11d0-8c35-00c04fda2795 (MS-W32T), without its version
abbrev pub interface_bytes : List ℕ
interface_bytes =
    0x84 ∷ 0xD8 ∷ 0xB6 ∷ 0x8F ∷ 0x88 ∷ 0x23 ∷ 0xD0 ∷ 0x11 ∷ 0x8C ∷ 0x35 ∷ 0x00 ∷ 0xC0 ∷ 0x4F ∷ 0xDA ∷ 0x27 ∷ 0x95 ∷ []

-- the transfer syntax NDR, 8a885d04-1ceb-11c9-9fe8-08002b104860, and its version 2
abbrev pub ndr_bytes : List ℕ
ndr_bytes =
    0x04 ∷ 0x5D ∷ 0x88 ∷ 0x8A ∷ 0xEB ∷ 0x1C ∷ 0xC9 ∷ 0x11 ∷ 0x9F ∷ 0xE8 ∷ 0x08 ∷ 0x00 ∷ 0x2B ∷ 0x10 ∷ 0x48 ∷ 0x60
    ∷ 0x02 ∷ 0x00 ∷ 0x00 ∷ 0x00 ∷ []

-- bytes in the context with which these bytes begin: 24, and 20 for each of its transfer syntaxes
abbrev pub context_len : List ℕ → ℕ
context_len bytes = 24 + 20 * slice_index bytes 2

-- where the context with this number begins, the first being number 0 at the front of the bytes; so it is where that
-- many contexts end
unfoldable pub context_at : ℕ → List ℕ → ℕ
context_at zero bytes = 0
context_at (suc n) bytes = context_at n bytes + context_len (drop (context_at n bytes) bytes)

-- how many contexts the body of a bind offers
abbrev pub offered_of : List ℕ → ℕ
offered_of body = slice_index body 8

-- the contexts of the body of a bind
abbrev pub contexts_of : List ℕ → List ℕ
contexts_of body = drop 12 body

-- bytes that the body of a bind asks for: 12, and then all contexts with all their transfer syntaxes
abbrev pub bind_need : List ℕ → ℕ
bind_need body = 12 + context_at (offered_of body) (contexts_of body)

-- the context with which these bytes begin is for the interface of the time service, version 4.0 or 4.1
pub record IsKnown (bytes : List ℕ) : Type 0 where
  pub interface : part_at 4 16 bytes ≡ interface_bytes
  pub major : low_half_word_at 20 bytes ≡ 4
  pub minor : low_half_word_at 22 bytes ≤ 1

-- NDR version 2 is among this many transfer syntaxes
abbrev pub HasNdr : ℕ → List ℕ → Type 0
HasNdr count syntaxes = (k : ℕ) × (k < count) × (part_at (20 * k) 20 syntaxes ≡ ndr_bytes)

-- this is the context with which the bytes begin
pub record IsContext (context : Context) (bytes : List ℕ) : Type 0 where
  pub id : context.id ≡ low_half_word_at 0 bytes
  pub known : IsTrue context.known ↔ IsKnown bytes
  pub ndr : IsTrue context.ndr ↔ HasNdr (slice_index bytes 2) (drop 24 bytes)

-- these are the first contexts in the bytes, each at its place: all that are offered, but 8 at most
pub record AreContexts (offered : ℕ) (contexts : List Context) (bytes : List ℕ) : Type 0 where
  pub count : length contexts ≡ min offered 8
  pub each : (k : ℕ) (context : Context) → slice_get contexts k ≡ Some context
      → IsContext context (drop (context_at k bytes) bytes)

-- this is what the body of a bind says
pub record IsBind (bind : Bind) (body : List ℕ) : Type 0 where
  pub max_xmit : bind.max_xmit ≡ low_half_word_at 0 body
  pub max_recv : bind.max_recv ≡ low_half_word_at 2 body
  pub group : bind.group ≡ low_word_at 4 body
  pub offered : bind.offered ≡ offered_of body
  pub contexts : AreContexts bind.offered bind.contexts (contexts_of body)
