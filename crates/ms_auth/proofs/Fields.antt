-- The fields of a message stand at their places.
use Rattle.std.proofs.Common.{◌≡◌, ℕ, ◌<◌, ◌^◌, List, [], ◌∷◌, ◌++◌, length, take, get_or, lit≤, subst, refl, sym, ◌∙◌, ap, arith, append_assoc, Some}
use Rattle.std.proofs.lemmas.List.{take_at, get_or-append_right}
use Rattle.byte_codec.specs.Numbers.{low_word_bytes, low_word_at, low_number_of, part_at}
use Rattle.byte_codec.proofs.Numbers.{length-low_number_bytes, low_number_of-low_number_bytes}
use Rattle.byte_codec.proofs.Parts.{part_before, part_behind, longer}
use Rattle.ntp_wire.specs.Header.{header_bytes, SpellsHeader}
use Rattle.ntp_wire.proofs.Fields.{header_at}
use Rattle.ntp_wire.proofs.Headers.{length-header_bytes}
use Rattle.mac_kdf.specs.Digests.{ext_digest}
use Rattle.ms_auth.specs.declared.packet.Kind.{Kind}
use Rattle.ms_auth.specs.declared.packet.Kind.TheVariants.{Short, Extended}
use Rattle.ms_auth.specs.declared.packet.Packet.{Packet}
use Rattle.ms_auth.specs.declared.packet.Tail.{Tail}
use Rattle.ms_auth.specs.declared.packet.Tail.TheVariants.{Plain, Short68, Ext120}
use Rattle.ms_auth.specs.Packet.{SpellsPacket, TailFits, tail_bytes}
use Rattle.ms_auth.specs.Digest.{sum_of, tail_digest}
use Rattle.ms_auth.specs.Fields.{IsChecksumAt, IsPacketAt, IsTailAt, digest_at, kind_length, sum_at}

-- the first 48 bytes of a message spell its header, whose fields are at their places
pub header_spelled : (p : Packet) (bytes : List ℕ) → SpellsPacket p bytes → SpellsHeader p.header (take 48 bytes)
header_spelled p bytes spells = record {
  fits = spells.fits.header;
  written = ap (λ (l : List ℕ). take 48 l) spells.written ∙ take_at (header_bytes p.header) (tail_bytes p.tail) 48 (length-header_bytes p.header spells.fits.header.reference_id);
}

-- a number behind a header, the least significant byte first
low_word_behind : (front after : List ℕ) (n : ℕ) → length front ≡ 48 → n < 2 ^ 32 → low_word_at 48 (front ++ (low_word_bytes n ++ after)) ≡ n
low_word_behind front after n long fits =
    ap (low_word_at 48) (sym (append_assoc front (low_word_bytes n) after))
    ∙ ap low_number_of (part_before 48 4 (front ++ low_word_bytes n) after (omega (arith, longer 48 4 front (low_word_bytes n) long (length-low_number_bytes 4 n))))
    ∙ ap low_number_of (part_behind 48 4 front (low_word_bytes n) long (length-low_number_bytes 4 n))
    ∙ low_number_of-low_number_bytes 4 n fits

-- the fields of a tail behind a header
tail_behind : (front : List ℕ) (t : Tail) → length front ≡ 48 → TailFits t → IsTailAt (front ++ tail_bytes t) t
tail_behind front Plain long fits = longer 48 0 front [] long refl
tail_behind front (Short68 key_id sum) long fits =
    let word = low_word_bytes key_id in
    let whole : front ++ (word ++ sum) ≡ (front ++ word) ++ sum = sym (append_assoc front word sum) in
    let place : length (front ++ word) ≡ 52 = longer 48 4 front word long (length-low_number_bytes 4 key_id) in (
      ap length whole ∙ longer 52 16 (front ++ word) sum place fits.1,
      low_word_behind front sum key_id long fits.0,
      ap (λ (l : List ℕ). part_at 52 16 l) whole ∙ part_behind 52 16 (front ++ word) sum place fits.1,
    )
tail_behind front (Ext120 rid reserved flags hints hash sum) long fits =
    let word = low_word_bytes rid in
    let cells = reserved ∷ flags ∷ hints ∷ hash ∷ [] in
    let whole : front ++ (word ++ (cells ++ sum)) ≡ (front ++ word) ++ (cells ++ sum) = sym (append_assoc front word (cells ++ sum)) in
    let place : length (front ++ word) ≡ 52 = longer 48 4 front word long (length-low_number_bytes 4 rid) in
    let four : length (cells ++ sum) ≡ 68 = longer 4 64 cells sum refl fits.1 in
    let behind : length ((front ++ word) ++ cells) ≡ 56 = longer 52 4 (front ++ word) cells place refl in
    record {
      size = ap length whole ∙ longer 52 68 (front ++ word) (cells ++ sum) place four;
      key_id_is = low_word_behind front (cells ++ sum) rid long fits.0;
      reserved_is = ap (λ (l : List ℕ). get_or l 52 0) whole ∙ get_or-append_right (front ++ word) (cells ++ sum) 52 52 0 place (lit≤ tt);
      flags_is = ap (λ (l : List ℕ). get_or l 53 0) whole ∙ get_or-append_right (front ++ word) (cells ++ sum) 52 53 0 place (lit≤ tt);
      hints_is = ap (λ (l : List ℕ). get_or l 54 0) whole ∙ get_or-append_right (front ++ word) (cells ++ sum) 52 54 0 place (lit≤ tt);
      hash_is = ap (λ (l : List ℕ). get_or l 55 0) whole ∙ get_or-append_right (front ++ word) (cells ++ sum) 52 55 0 place (lit≤ tt);
      sum_is = ap (λ (l : List ℕ). part_at 56 64 l) (whole ∙ sym (append_assoc (front ++ word) cells sum)) ∙ part_behind 56 64 ((front ++ word) ++ cells) sum behind fits.1;
    }

-- the tail of a message has the fields that stand at its places
pub tail_at : (p : Packet) (bytes : List ℕ) → SpellsPacket p bytes → IsTailAt bytes p.tail
tail_at p bytes spells =
    let At : List ℕ → Type 0 = λ (l : List ℕ). IsTailAt l p.tail in
    subst At (sym spells.written) (tail_behind (header_bytes p.header) p.tail (length-header_bytes p.header spells.fits.header.reference_id) spells.fits.tail)

-- ---- The checksum

sum_behind : (kind : Kind) (bytes : List ℕ) (t : Tail) → length bytes ≡ kind_length kind → IsTailAt bytes t → sum_of t ≡ Some (sum_at kind bytes)
sum_behind Short bytes Plain size at = absurd (omega (arith, size, at))
sum_behind Short bytes (Short68 key_id sum) size at = ap Some (sym at.2)
sum_behind Short bytes (Ext120 rid reserved flags hints hash sum) size at = absurd (omega (arith, size, at.size))
sum_behind Extended bytes Plain size at = absurd (omega (arith, size, at))
sum_behind Extended bytes (Short68 key_id sum) size at = absurd (omega (arith, size, at.0))
sum_behind Extended bytes (Ext120 rid reserved flags hints hash sum) size at = ap Some (sym at.sum_is)

due_behind : (kind : Kind) (bytes key : List ℕ) (t : Tail) → length bytes ≡ kind_length kind → IsTailAt bytes t
    → tail_digest t key (take 48 bytes) ≡ Some (digest_at kind key bytes)
due_behind Short bytes key Plain size at = absurd (omega (arith, size, at))
due_behind Short bytes key (Short68 key_id sum) size at = refl
due_behind Short bytes key (Ext120 rid reserved flags hints hash sum) size at = absurd (omega (arith, size, at.size))
due_behind Extended bytes key Plain size at = absurd (omega (arith, size, at))
due_behind Extended bytes key (Short68 key_id sum) size at = absurd (omega (arith, size, at.0))
due_behind Extended bytes key (Ext120 rid reserved flags hints hash sum) size at =
    ap (λ (n : ℕ). Some (ext_digest key n (take 48 bytes))) (sym at.key_id_is)

-- the checksum of a message of a kind, and the one that it should carry, are those at their places
pub checksum_at : (kind : Kind) (p : Packet) (bytes : List ℕ) → SpellsPacket p bytes → length bytes ≡ kind_length kind → IsChecksumAt kind bytes p
checksum_at kind p bytes spells size =
    let header : header_bytes p.header ≡ take 48 bytes = sym (header_spelled p bytes spells).written in
    record {
      carried = sum_behind kind bytes p.tail size (tail_at p bytes spells);
      due = λ (key : List ℕ). ap (tail_digest p.tail key) header ∙ due_behind kind bytes key p.tail size (tail_at p bytes spells);
    }

-- the fields of a message stand at their places
pub packet_at : (p : Packet) (bytes : List ℕ) → SpellsPacket p bytes → IsPacketAt bytes p
packet_at p bytes spells = record {
  header = header_at p.header bytes (header_spelled p bytes spells);
  tail = tail_at p bytes spells;
  checksum = λ (kind : Kind) (size : length bytes ≡ kind_length kind). checksum_at kind p bytes spells size;
}
