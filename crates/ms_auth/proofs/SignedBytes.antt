-- A signed message has a spelling, as long as that of the message before.
use Rattle.std.proofs.Common.{◌≡◌, ℕ, List, length, refl, sym, ◌∙◌, ap, subst, ◌+◌}
use Rattle.mac_kdf.specs.Digests.{ext_digest, md5_digest}
use Rattle.mac_kdf.proofs.Lengths.{length-md5_digest, length-ext_digest}
use Rattle.ntp_wire.specs.declared.header.Header.{Header}
use Rattle.ntp_wire.specs.Header.{HeaderFits, header_bytes}
use Rattle.ms_auth.specs.declared.packet.Packet.{Packet}
use Rattle.ms_auth.specs.declared.packet.Tail.{Tail}
use Rattle.ms_auth.specs.declared.packet.Tail.TheVariants.{Plain, Short68, Ext120}
use Rattle.ms_auth.specs.Digest.{IsSigned, IsSignedTail, tail_digest}
use Rattle.ms_auth.specs.Packet.{PacketFits, SpellsPacket, TailFits, packet_bytes}
use Rattle.ms_auth.proofs.Uniqueness.{length-packet_bytes, tail_length}

-- a tail that was signed has a spelling, of the same length
record KeepsLength (old now : Tail) : Type 0 where
  fits : TailFits now
  length_is : tail_length now ≡ tail_length old

signed_tail : (key header : List ℕ) (old now : Tail) → TailFits old → IsSignedTail (tail_digest old key header) old now → KeepsLength old now
unfolding tail_length
signed_tail key header Plain now fits is =
    let Keeps : Tail → Type 0 = λ (t : Tail). KeepsLength Plain t in
    subst Keeps (sym is) (record { fits = fits; length_is = refl })
signed_tail key header (Short68 key_id sum) now fits is =
    let Keeps : Tail → Type 0 = λ (t : Tail). KeepsLength (Short68 key_id sum) t in
    let digest = is.1 in
    let new : is.0 ≡ md5_digest key header = cc in
    subst Keeps (sym is.2) (record { fits = (fits.0, ap length new ∙ length-md5_digest key header); length_is = refl })
signed_tail key header (Ext120 rid reserved flags hints hash sum) now fits is =
    let Keeps : Tail → Type 0 = λ (t : Tail). KeepsLength (Ext120 rid reserved flags hints hash sum) t in
    let digest = is.1 in
    let new : is.0 ≡ ext_digest key rid header = cc in
    subst Keeps (sym is.2) (record { fits = (fits.0, ap length new ∙ length-ext_digest key rid header, fits.2, fits.3, fits.4, fits.5); length_is = refl })

-- a signed message has a spelling
pub signed_spells : (key : List ℕ) (p now : Packet) → PacketFits p → IsSigned key p now → SpellsPacket now (packet_bytes now)
signed_spells key p now fits is =
    let Fits : Header → Type 0 = λ (h : Header). HeaderFits h in
    record {
      fits = record {
        header = subst Fits (sym is.header) fits.header;
        tail = (signed_tail key (header_bytes p.header) p.tail now.tail fits.tail is.tail).fits;
      };
      written = refl;
    }

-- a signed message is as long as the message before
pub length-signed : (key : List ℕ) (p now : Packet) → PacketFits p → IsSigned key p now → length (packet_bytes now) ≡ length (packet_bytes p)
length-signed key p now fits is =
    length-packet_bytes now (packet_bytes now) (signed_spells key p now fits is)
    ∙ ap (λ (n : ℕ). 48 + n) (signed_tail key (header_bytes p.header) p.tail now.tail fits.tail is.tail).length_is
    ∙ sym (length-packet_bytes p (packet_bytes p) (record { fits = fits; written = refl }))
