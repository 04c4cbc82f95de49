-- One text spells one header.
use Rattle.std.proofs.Common.{◌≡◌, ℕ, ℤ, ◌+◌, ◌*◌, ◌<◌, ◌≤◌, ◌^◌, List, length, take, sym, ◌∙◌, ap, arith, FitsSigned}
use Rattle.std.proofs.lemmas.List.{length-take}
use Rattle.std.proofs.lemmas.Int.{to_z-of_z}
use Rattle.std.specs.Int.{w8, w32, cast_signed, cast_unsigned}
use Rattle.std.proofs.Math.Facts.{Fits-of_z, Fits-lt-pow}
use Rattle.std.specs.Coded.{le_prop}
use mathlib.Core.HLevel.{is_prop→PathP}
use Rattle.byte_codec.specs.Numbers.{word_bytes}
use Rattle.byte_codec.proofs.Numbers.{length-number_bytes, same_number}
use Rattle.byte_codec.proofs.Parts.{same_parts}
use Rattle.ntp_wire.specs.declared.header.Header.{Header}
use Rattle.ntp_wire.specs.declared.stamp.Stamp.{Stamp}
use Rattle.ntp_wire.specs.Header.{header_bytes, head_bytes, HeaderFits, SpellsHeader}
use Rattle.ntp_wire.specs.Stamp.{stamp_bytes, StampFits}
use Rattle.ntp_wire.proofs.Headers.{length-head_bytes, front_4, front_8, front_12, front_16, front_24, front_32, front_40, length-front_8, length-front_12, length-front_16, length-front_24, length-front_32, length-front_40, length-header_bytes}

same_signed_8 : (a b : ℤ) → FitsSigned w8 a → FitsSigned w8 b → cast_unsigned w8 a ≡ cast_unsigned w8 b → a ≡ b
same_signed_8 a b fits also same = sym (to_z-of_z w8 a fits) ∙ ap (cast_signed w8) same ∙ to_z-of_z w8 b also

same_signed_32 : (a b : ℤ) → FitsSigned w32 a → FitsSigned w32 b → cast_unsigned w32 a ≡ cast_unsigned w32 b → a ≡ b
same_signed_32 a b fits also same = sym (to_z-of_z w32 a fits) ∙ ap (cast_signed w32) same ∙ to_z-of_z w32 b also

cast_fits : (z : ℤ) → FitsSigned w32 z → cast_unsigned w32 z < 2 ^ 32
cast_fits z fits = Fits-lt-pow {w = w32} {n = cast_unsigned w32 z} (Fits-of_z {w = w32} {z = z} fits)

pub same_stamp : (a b : Stamp) → StampFits a → StampFits b → stamp_bytes a ≡ stamp_bytes b → a ≡ b
same_stamp a b fits also same =
    let parts = same_parts 4 (word_bytes a.seconds) (word_bytes b.seconds) (word_bytes a.fraction) (word_bytes b.fraction) (length-number_bytes 4 a.seconds) (length-number_bytes 4 b.seconds) same in
    let seconds = same_number 4 a.seconds b.seconds fits.seconds also.seconds parts.0 in
    let fraction = same_number 4 a.fraction b.fraction fits.fraction also.fraction parts.1 in
    λ i. record { seconds = seconds i; fraction = fraction i }

-- the fields of the first four bytes
record SameHead (a b : Header) : Type 0 where
  leap : a.leap ≡ b.leap
  version : a.version ≡ b.version
  mode : a.mode ≡ b.mode
  stratum : a.stratum ≡ b.stratum
  poll : cast_unsigned w8 a.poll ≡ cast_unsigned w8 b.poll
  precision : cast_unsigned w8 a.precision ≡ cast_unsigned w8 b.precision

same_head : (a b : Header) → head_bytes a ≡ head_bytes b → SameHead a b
unfolding head_bytes
same_head a b same =
    let first : 64 * a.leap + 8 * a.version + a.mode ≡ 64 * b.leap + 8 * b.version + b.mode = cc in
    record {
      leap = omega (arith, first, a.leap_fits, b.leap_fits, a.version_fits, b.version_fits, a.mode_fits, b.mode_fits);
      version = omega (arith, first, a.leap_fits, b.leap_fits, a.version_fits, b.version_fits, a.mode_fits, b.mode_fits);
      mode = omega (arith, first, a.leap_fits, b.leap_fits, a.version_fits, b.version_fits, a.mode_fits, b.mode_fits);
      stratum = cc;
      poll = cc;
      precision = cc;
    }

-- two headers of the same bytes are equal
pub one_header : (a b : Header) → HeaderFits a → HeaderFits b → header_bytes a ≡ header_bytes b → a ≡ b
unfolding header_bytes
one_header a b f g same =
    let p7 = same_parts 40 (front_40 a) (front_40 b) (stamp_bytes a.transmit) (stamp_bytes b.transmit) (length-front_40 a f.reference_id) (length-front_40 b g.reference_id) same in
    let p6 = same_parts 32 (front_32 a) (front_32 b) (stamp_bytes a.receive) (stamp_bytes b.receive) (length-front_32 a f.reference_id) (length-front_32 b g.reference_id) p7.0 in
    let p5 = same_parts 24 (front_24 a) (front_24 b) (stamp_bytes a.originate) (stamp_bytes b.originate) (length-front_24 a f.reference_id) (length-front_24 b g.reference_id) p6.0 in
    let p4 = same_parts 16 (front_16 a) (front_16 b) (stamp_bytes a.reference) (stamp_bytes b.reference) (length-front_16 a f.reference_id) (length-front_16 b g.reference_id) p5.0 in
    let p3 = same_parts 12 (front_12 a) (front_12 b) a.reference_id b.reference_id (length-front_12 a) (length-front_12 b) p4.0 in
    let p2 = same_parts 8 (front_8 a) (front_8 b) (word_bytes a.root_dispersion) (word_bytes b.root_dispersion) (length-front_8 a) (length-front_8 b) p3.0 in
    let p1 = same_parts 4 (front_4 a) (front_4 b) (word_bytes (cast_unsigned w32 a.root_delay)) (word_bytes (cast_unsigned w32 b.root_delay)) (length-head_bytes a) (length-head_bytes b) p2.0 in
    let head = same_head a b p1.0 in
    let poll = same_signed_8 a.poll b.poll f.poll g.poll head.poll in
    let precision = same_signed_8 a.precision b.precision f.precision g.precision head.precision in
    let delay = same_signed_32 a.root_delay b.root_delay f.root_delay g.root_delay
    (same_number 4 (cast_unsigned w32 a.root_delay) (cast_unsigned w32 b.root_delay) (cast_fits a.root_delay f.root_delay) (cast_fits b.root_delay g.root_delay) p1.1) in
    let dispersion = same_number 4 a.root_dispersion b.root_dispersion f.root_dispersion g.root_dispersion p2.1 in
    let reference = same_stamp a.reference b.reference f.reference g.reference p4.1 in
    let originate = same_stamp a.originate b.originate f.originate g.originate p5.1 in
    let receive = same_stamp a.receive b.receive f.receive g.receive p6.1 in
    let transmit = same_stamp a.transmit b.transmit f.transmit g.transmit p7.1 in
    λ i. record {
      leap = head.leap i;
      version = head.version i;
      mode = head.mode i;
      stratum = head.stratum i;
      poll = poll i;
      precision = precision i;
      root_delay = delay i;
      root_dispersion = dispersion i;
      reference_id = p3.1 i;
      reference = reference i;
      originate = originate i;
      receive = receive i;
      transmit = transmit i;
      leap_fits = is_prop→PathP (λ j. head.leap j ≤ 3) (λ j. le_prop) a.leap_fits b.leap_fits i;
      version_fits = is_prop→PathP (λ j. head.version j ≤ 7) (λ j. le_prop) a.version_fits b.version_fits i;
      mode_fits = is_prop→PathP (λ j. head.mode j ≤ 7) (λ j. le_prop) a.mode_fits b.mode_fits i;
    }

-- one header is spelled by a list
pub one_spelled : (a b : Header) (bytes : List ℕ) → SpellsHeader a bytes → SpellsHeader b bytes → a ≡ b
one_spelled a b bytes first next = one_header a b first.fits next.fits (sym first.written ∙ next.written)

-- a shorter text spells none
pub none_short : (h : Header) (bytes : List ℕ) → length bytes < 48 → SpellsHeader h (take 48 bytes) → ⊥
none_short h bytes short spells =
    let long : length (take 48 bytes) ≡ 48 = ap length spells.written ∙ length-header_bytes h spells.fits.reference_id in
    omega (arith, long, short, length-take 48 bytes)
