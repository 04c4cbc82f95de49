-- The fields of a header stand at their places.
use Rattle.std.proofs.Common.{◌≡◌, ℕ, ◌+◌, ◌*◌, ◌≤◌, List, ◌++◌, length, take, drop, get_or, refl, sym, ◌∙◌, ap, arith, append_assoc}
use Rattle.std.proofs.lemmas.List.{take-append-drop}
use Rattle.std.proofs.lemmas.Int.{to_z-of_z}
use Rattle.std.specs.Int.{w8, cast_signed, cast_unsigned}
use Rattle.byte_codec.specs.Numbers.{word_bytes, word_at, number_of}
use Rattle.byte_codec.proofs.Numbers.{length-number_bytes, number_of-number_bytes}
use Rattle.byte_codec.proofs.Parts.{part_before, part_behind, longer}
use Rattle.ntp_wire.specs.declared.header.Header.{Header}
use Rattle.ntp_wire.specs.declared.stamp.Stamp.{Stamp}
use Rattle.ntp_wire.specs.Header.{header_bytes, head_bytes, first_byte, SpellsHeader}
use Rattle.ntp_wire.specs.Stamp.{stamp_bytes, stamp_at, StampFits}
use Rattle.ntp_wire.specs.Fields.{IsHeaderAt, leap_of, version_of, mode_of, stratum_of, poll_of, reference_of, originate_of, receive_of, transmit_of}
use Rattle.ntp_wire.proofs.Headers.{front_16, front_24, front_32, front_40, length-front_16, length-front_24, length-front_32, length-front_40, length-header_bytes}

-- what begins with a header is the header and what stands behind it
pub header_in_front : (h : Header) (bytes : List ℕ) → SpellsHeader h (take 48 bytes) → bytes ≡ header_bytes h ++ drop 48 bytes
header_in_front h bytes spells = sym (take-append-drop 48 bytes) ∙ ap (λ (l : List ℕ). l ++ drop 48 bytes) spells.written

-- the bytes of the head, in front of any others
head_cells : (h : Header) (after : List ℕ) → (get_or (header_bytes h ++ after) 0 0 ≡ first_byte h) × (get_or (header_bytes h ++ after) 1 0 ≡ h.stratum) × (get_or (header_bytes h ++ after) 2 0 ≡ cast_unsigned w8 h.poll)
unfolding header_bytes head_bytes
head_cells h after = (refl, refl, refl)

first_is : (h : Header) (bytes : List ℕ) → SpellsHeader h (take 48 bytes) → get_or bytes 0 0 ≡ 64 * h.leap + 8 * h.version + h.mode
first_is h bytes spells = ap (λ (l : List ℕ). get_or l 0 0) (header_in_front h bytes spells) ∙ (head_cells h (drop 48 bytes)).0

pub leap_is : (h : Header) (bytes : List ℕ) → SpellsHeader h (take 48 bytes) → leap_of bytes ≡ h.leap
leap_is h bytes spells = omega (arith, first_is h bytes spells, h.version_fits, h.mode_fits)

pub version_is : (h : Header) (bytes : List ℕ) → SpellsHeader h (take 48 bytes) → version_of bytes ≡ h.version
version_is h bytes spells = omega (arith, first_is h bytes spells, h.version_fits, h.mode_fits)

pub mode_is : (h : Header) (bytes : List ℕ) → SpellsHeader h (take 48 bytes) → mode_of bytes ≡ h.mode
mode_is h bytes spells = omega (arith, first_is h bytes spells, h.mode_fits)

pub stratum_is : (h : Header) (bytes : List ℕ) → SpellsHeader h (take 48 bytes) → stratum_of bytes ≡ h.stratum
stratum_is h bytes spells = ap (λ (l : List ℕ). get_or l 1 0) (header_in_front h bytes spells) ∙ (head_cells h (drop 48 bytes)).1

pub poll_is : (h : Header) (bytes : List ℕ) → SpellsHeader h (take 48 bytes) → poll_of bytes ≡ h.poll
poll_is h bytes spells =
    let cell : get_or bytes 2 0 ≡ cast_unsigned w8 h.poll = ap (λ (l : List ℕ). get_or l 2 0) (header_in_front h bytes spells) ∙ (head_cells h (drop 48 bytes)).2 in
    ap (cast_signed w8) cell ∙ to_z-of_z w8 h.poll spells.fits.poll

-- ---- Timestamps

-- a timestamp behind a front
stamp_behind : (place : ℕ) (front : List ℕ) (s : Stamp) → length front ≡ place → StampFits s → stamp_at place (front ++ stamp_bytes s) ≡ s
stamp_behind place front s long fits =
    let seconds : word_at place (front ++ stamp_bytes s) ≡ s.seconds =
    ap (λ (l : List ℕ). word_at place l) (sym (append_assoc front (word_bytes s.seconds) (word_bytes s.fraction)))
    ∙ ap number_of (part_before place 4 (front ++ word_bytes s.seconds) (word_bytes s.fraction) (omega (arith, longer place 4 front (word_bytes s.seconds) long (length-number_bytes 4 s.seconds))))
    ∙ ap number_of (part_behind place 4 front (word_bytes s.seconds) long (length-number_bytes 4 s.seconds))
    ∙ number_of-number_bytes 4 s.seconds fits.seconds in
    let fraction : word_at (place + 4) (front ++ stamp_bytes s) ≡ s.fraction =
    ap (λ (l : List ℕ). word_at (place + 4) l) (sym (append_assoc front (word_bytes s.seconds) (word_bytes s.fraction)))
    ∙ ap number_of (part_behind (place + 4) 4 (front ++ word_bytes s.seconds) (word_bytes s.fraction) (longer place 4 front (word_bytes s.seconds) long (length-number_bytes 4 s.seconds)) (length-number_bytes 4 s.fraction))
    ∙ number_of-number_bytes 4 s.fraction fits.fraction in
    λ i. record { seconds = seconds i; fraction = fraction i }

-- what stands behind a timestamp doesn't change it
stamp_before : (place : ℕ) (front after : List ℕ) → place + 8 ≤ length front → stamp_at place (front ++ after) ≡ stamp_at place front
stamp_before place front after within =
    let seconds : word_at place (front ++ after) ≡ word_at place front = ap number_of (part_before place 4 front after (omega arith)) in
    let fraction : word_at (place + 4) (front ++ after) ≡ word_at (place + 4) front = ap number_of (part_before (place + 4) 4 front after (omega arith)) in
    λ i. record { seconds = seconds i; fraction = fraction i }

-- the timestamps, each behind a front and before the later ones
reference_at : (h : Header) (after : List ℕ) → length h.reference_id ≡ 4 → StampFits h.reference → stamp_at 16 (header_bytes h ++ after) ≡ h.reference
unfolding header_bytes
reference_at h after four fits =
    stamp_before 16 (header_bytes h) after (omega (arith, length-header_bytes h four))
    ∙ stamp_before 16 (front_40 h) (stamp_bytes h.transmit) (omega (arith, length-front_40 h four))
    ∙ stamp_before 16 (front_32 h) (stamp_bytes h.receive) (omega (arith, length-front_32 h four))
    ∙ stamp_before 16 (front_24 h) (stamp_bytes h.originate) (omega (arith, length-front_24 h four))
    ∙ stamp_behind 16 (front_16 h) h.reference (length-front_16 h four) fits

originate_at : (h : Header) (after : List ℕ) → length h.reference_id ≡ 4 → StampFits h.originate → stamp_at 24 (header_bytes h ++ after) ≡ h.originate
unfolding header_bytes
originate_at h after four fits =
    stamp_before 24 (header_bytes h) after (omega (arith, length-header_bytes h four))
    ∙ stamp_before 24 (front_40 h) (stamp_bytes h.transmit) (omega (arith, length-front_40 h four))
    ∙ stamp_before 24 (front_32 h) (stamp_bytes h.receive) (omega (arith, length-front_32 h four))
    ∙ stamp_behind 24 (front_24 h) h.originate (length-front_24 h four) fits

receive_at : (h : Header) (after : List ℕ) → length h.reference_id ≡ 4 → StampFits h.receive → stamp_at 32 (header_bytes h ++ after) ≡ h.receive
unfolding header_bytes
receive_at h after four fits =
    stamp_before 32 (header_bytes h) after (omega (arith, length-header_bytes h four))
    ∙ stamp_before 32 (front_40 h) (stamp_bytes h.transmit) (omega (arith, length-front_40 h four))
    ∙ stamp_behind 32 (front_32 h) h.receive (length-front_32 h four) fits

transmit_at : (h : Header) (after : List ℕ) → length h.reference_id ≡ 4 → StampFits h.transmit → stamp_at 40 (header_bytes h ++ after) ≡ h.transmit
unfolding header_bytes
transmit_at h after four fits =
    stamp_before 40 (header_bytes h) after (omega (arith, length-header_bytes h four))
    ∙ stamp_behind 40 (front_40 h) h.transmit (length-front_40 h four) fits

pub reference_is : (h : Header) (bytes : List ℕ) → SpellsHeader h (take 48 bytes) → reference_of bytes ≡ h.reference
reference_is h bytes spells =
    ap (stamp_at 16) (header_in_front h bytes spells) ∙ reference_at h (drop 48 bytes) spells.fits.reference_id spells.fits.reference

pub originate_is : (h : Header) (bytes : List ℕ) → SpellsHeader h (take 48 bytes) → originate_of bytes ≡ h.originate
originate_is h bytes spells =
    ap (stamp_at 24) (header_in_front h bytes spells) ∙ originate_at h (drop 48 bytes) spells.fits.reference_id spells.fits.originate

pub receive_is : (h : Header) (bytes : List ℕ) → SpellsHeader h (take 48 bytes) → receive_of bytes ≡ h.receive
receive_is h bytes spells =
    ap (stamp_at 32) (header_in_front h bytes spells) ∙ receive_at h (drop 48 bytes) spells.fits.reference_id spells.fits.receive

pub transmit_is : (h : Header) (bytes : List ℕ) → SpellsHeader h (take 48 bytes) → transmit_of bytes ≡ h.transmit
transmit_is h bytes spells =
    ap (stamp_at 40) (header_in_front h bytes spells) ∙ transmit_at h (drop 48 bytes) spells.fits.reference_id spells.fits.transmit

-- the fields of a header stand at their places in what begins with it
pub header_at : (h : Header) (bytes : List ℕ) → SpellsHeader h (take 48 bytes) → IsHeaderAt bytes h
header_at h bytes spells = record {
  leap = leap_is h bytes spells;
  version = version_is h bytes spells;
  mode = mode_is h bytes spells;
  stratum = stratum_is h bytes spells;
  poll = poll_is h bytes spells;
  reference = reference_is h bytes spells;
  originate = originate_is h bytes spells;
  receive = receive_is h bytes spells;
  transmit = transmit_is h bytes spells;
}
