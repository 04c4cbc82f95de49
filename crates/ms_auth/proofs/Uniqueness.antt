-- One text spells one message, and a message has one signed form.
use Rattle.std.proofs.Common.{◌≡◌, ℕ, ◌+◌, ◌≤◌, List, ◌∷◌, length, Option, inl, inr, refl, sym, ◌∙◌, ap, arith}
use Rattle.byte_codec.specs.Numbers.{low_word_bytes}
use Rattle.byte_codec.proofs.Numbers.{length-low_number_bytes, same_low_number}
use Rattle.byte_codec.proofs.Parts.{same_parts, longer}
use Rattle.ntp_wire.specs.Header.{header_bytes}
use Rattle.ntp_wire.proofs.Headers.{length-header_bytes}
use Rattle.ntp_wire.proofs.Uniqueness.{one_header}
use Rattle.ms_auth.specs.declared.packet.Packet.{Packet}
use Rattle.ms_auth.specs.declared.packet.Tail.{Tail}
use Rattle.ms_auth.specs.declared.packet.Tail.TheVariants.{Plain, Short68, Ext120}
use Rattle.ms_auth.specs.Packet.{IsPacketLength, IsTailLength, SpellsPacket, TailFits, tail_bytes}
use Rattle.ms_auth.specs.Digest.{IsSigned, IsSignedTail, digest_of}

-- bytes in a tail
unfoldable pub tail_length : Tail → ℕ
tail_length Plain = 0
tail_length (Short68 key_id sum) = 20
tail_length (Ext120 rid reserved flags hints hash sum) = 72

pub length-tail_bytes : (t : Tail) → TailFits t → length (tail_bytes t) ≡ tail_length t
unfolding tail_length
length-tail_bytes Plain fits = refl
length-tail_bytes (Short68 key_id sum) fits = longer 4 16 (low_word_bytes key_id) sum (length-low_number_bytes 4 key_id) fits.1
length-tail_bytes (Ext120 rid reserved flags hints hash sum) fits =
    longer 4 68 (low_word_bytes rid) (reserved ∷ flags ∷ hints ∷ hash ∷ sum) (length-low_number_bytes 4 rid) (omega (arith, fits.1))

has_length : (t : Tail) (n : ℕ) → n ≡ 48 + tail_length t → IsPacketLength n
unfolding tail_length
has_length Plain n same = inl same
has_length (Short68 key_id sum) n same = inr (inl same)
has_length (Ext120 rid reserved flags hints hash sum) n same = inr (inr same)

-- a message is as long as a header and one of the tails
pub length_with_tail : (n m : ℕ) → m + 48 ≡ n → IsTailLength m → IsPacketLength n
length_with_tail n m same long = elim long [ inl e ↦ inl (omega (arith, same, e)) | inr f ↦ elim f [ inl e ↦ inr (inl (omega (arith, same, e))) | inr e ↦ inr (inr (omega (arith, same, e))) ] ]

pub length_of_tail : (n m : ℕ) → m + 48 ≡ n → IsPacketLength n → IsTailLength m
length_of_tail n m same long = elim long [ inl e ↦ inl (omega (arith, same, e)) | inr f ↦ elim f [ inl e ↦ inr (inl (omega (arith, same, e))) | inr e ↦ inr (inr (omega (arith, same, e))) ] ]

pub length-packet_bytes : (p : Packet) (bytes : List ℕ) → SpellsPacket p bytes → length bytes ≡ 48 + tail_length p.tail
length-packet_bytes p bytes spells =
    ap length spells.written
    ∙ longer 48 (tail_length p.tail) (header_bytes p.header) (tail_bytes p.tail) (length-header_bytes p.header spells.fits.header.reference_id) (length-tail_bytes p.tail spells.fits.tail)

pub long_enough : (p : Packet) (bytes : List ℕ) → SpellsPacket p bytes → 48 ≤ length bytes
long_enough p bytes spells = omega (arith, length-packet_bytes p bytes spells)

-- what is spelled has one of the lengths of messages
pub packet_length : (p : Packet) (bytes : List ℕ) → SpellsPacket p bytes → IsPacketLength (length bytes)
packet_length p bytes spells = has_length p.tail (length bytes) (length-packet_bytes p bytes spells)

same_tail : (a b : Tail) → TailFits a → TailFits b → tail_length a ≡ tail_length b → tail_bytes a ≡ tail_bytes b → a ≡ b
unfolding tail_length
same_tail Plain Plain fits also long same = refl
same_tail Plain (Short68 k t) fits also long same = absurd (omega (arith, long))
same_tail Plain (Ext120 i b c d e t) fits also long same = absurd (omega (arith, long))
same_tail (Short68 k s) Plain fits also long same = absurd (omega (arith, long))
same_tail (Short68 k s) (Short68 l t) fits also long same =
    let parts = same_parts 4 (low_word_bytes k) (low_word_bytes l) s t (length-low_number_bytes 4 k) (length-low_number_bytes 4 l) same in
    let number = same_low_number 4 k l fits.0 also.0 parts.0 in
    λ i. Short68 (number i) (parts.1 i)
same_tail (Short68 k s) (Ext120 i b c d e t) fits also long same = absurd (omega (arith, long))
same_tail (Ext120 h b c d e s) Plain fits also long same = absurd (omega (arith, long))
same_tail (Ext120 h b c d e s) (Short68 l t) fits also long same = absurd (omega (arith, long))
same_tail (Ext120 h b c d e s) (Ext120 i o p q r t) fits also long same =
    let parts = same_parts 4 (low_word_bytes h) (low_word_bytes i) (b ∷ c ∷ d ∷ e ∷ s) (o ∷ p ∷ q ∷ r ∷ t) (length-low_number_bytes 4 h) (length-low_number_bytes 4 i) same in
    let number = same_low_number 4 h i fits.0 also.0 parts.0 in
    let behind = parts.1 in
    cc (number, behind)

-- two messages that the same bytes spell are equal
pub one_packet : (p q : Packet) (bytes : List ℕ) → SpellsPacket p bytes → SpellsPacket q bytes → p ≡ q
one_packet p q bytes first next =
    let same = sym first.written ∙ next.written in
    let parts = same_parts 48 (header_bytes p.header) (header_bytes q.header) (tail_bytes p.tail) (tail_bytes q.tail)
    (length-header_bytes p.header first.fits.header.reference_id) (length-header_bytes q.header next.fits.header.reference_id) same in
    let header = one_header p.header q.header first.fits.header next.fits.header parts.0 in
    let long = sym (length-tail_bytes p.tail first.fits.tail) ∙ ap length parts.1 ∙ length-tail_bytes q.tail next.fits.tail in
    let tail = same_tail p.tail q.tail first.fits.tail next.fits.tail long parts.1 in
    λ i. record { header = header i; tail = tail i }

-- ---- Signed messages

one_signed_tail : (digest : Option (List ℕ)) (old a b : Tail) → IsSignedTail digest old a → IsSignedTail digest old b → a ≡ b
one_signed_tail digest Plain a b first next = first ∙ sym next
one_signed_tail digest (Short68 k s) a b first next =
    let same : first.0 ≡ next.0 = cc (first.1, next.1) in
    first.2 ∙ ap (λ (sum : List ℕ). Short68 k sum) same ∙ sym next.2
one_signed_tail digest (Ext120 r c d e f s) a b first next =
    let same : first.0 ≡ next.0 = cc (first.1, next.1) in
    first.2 ∙ ap (λ (sum : List ℕ). Ext120 r c d e f sum) same ∙ sym next.2

-- two signed forms of a message are equal
pub one_signed : (key : List ℕ) (p a b : Packet) → IsSigned key p a → IsSigned key p b → a ≡ b
one_signed key p a b first next =
    let header = first.header ∙ sym next.header in
    let tail = one_signed_tail (digest_of p key) p.tail a.tail b.tail first.tail next.tail in
    λ i. record { header = header i; tail = tail i }
