-- A request as bytes.
use Rattle.std.proofs.Common.{◌≡◌, ℕ, ◌+◌, ◌*◌, ◌≤◌, ◌<◌, ◌^◌, ℤ, List, [], ◌∷◌, ◌++◌, length, replicate, refl, sym, ◌∙◌, ap, subst, arith, FitsSigned}
use Rattle.std.specs.Int.{w8, w32, cast_unsigned}
use Rattle.byte_codec.specs.Numbers.{number_bytes, word_bytes}
use Rattle.ntp_wire.specs.declared.header.Header.{Header}
use Rattle.ntp_wire.specs.declared.stamp.Stamp.{Stamp}
use Rattle.ntp_wire.specs.Header.{header_bytes, head_bytes, HeaderFits}
use Rattle.ntp_wire.specs.Stamp.{stamp_bytes, StampFits}
use Rattle.ms_auth.specs.declared.packet.Kind.{Kind}
use Rattle.ms_auth.specs.declared.packet.Kind.TheVariants.{Short, Extended}
use Rattle.ms_auth.specs.declared.packet.Packet.{Packet}
use Rattle.ms_auth.specs.Packet.{SpellsPacket, TailFits, tail_bytes}
use Rattle.ms_auth.specs.Request.{IsRequest, IsRequestHeader, no_stamp, request_tail, request_tail_bytes, request_bytes}

-- a header by its parts
by_parts : (h : Header) (head delay dispersion id : List ℕ) (s1 s2 s3 s4 : Stamp) → head_bytes h ≡ head → word_bytes (cast_unsigned w32 h.root_delay) ≡ delay → word_bytes h.root_dispersion ≡ dispersion → h.reference_id ≡ id
    → h.reference ≡ s1 → h.originate ≡ s2 → h.receive ≡ s3 → h.transmit ≡ s4
    → header_bytes h ≡ head ++ delay ++ dispersion ++ id ++ stamp_bytes s1 ++ stamp_bytes s2 ++ stamp_bytes s3 ++ stamp_bytes s4
unfolding header_bytes
by_parts h head delay dispersion id s1 s2 s3 s4 e1 e2 e3 e4 e5 e6 e7 e8 = cc

request_head : (poll : ℕ) (stamp : Stamp) (h : Header) → IsRequestHeader poll stamp h → head_bytes h ≡ 0xDB ∷ 0 ∷ poll ∷ 0xE9 ∷ []
unfolding head_bytes
request_head poll stamp h is =
    let first : 64 * h.leap + 8 * h.version + h.mode ≡ 219 = omega (arith, is.leap, is.version, is.mode) in
    let poll_is : cast_unsigned w8 h.poll ≡ poll = ap (cast_unsigned w8) is.poll_is in
    let precision : cast_unsigned w8 h.precision ≡ 0xE9 = ap (cast_unsigned w8) is.precision in
    let stratum = is.stratum in
    cc (first, stratum, poll_is, precision)

request_header_bytes : (poll : ℕ) (stamp : Stamp) (h : Header) → IsRequestHeader poll stamp h → header_bytes h ≡ 0xDB ∷ 0 ∷ poll ∷ 0xE9 ∷ replicate 36 0 ++ stamp_bytes stamp
unfolding number_bytes
request_header_bytes poll stamp h is =
    by_parts h (0xDB ∷ 0 ∷ poll ∷ 0xE9 ∷ []) (replicate 4 0) (replicate 4 0) (replicate 4 0) no_stamp no_stamp no_stamp stamp
    (request_head poll stamp h is) (ap (λ (z : ℤ). word_bytes (cast_unsigned w32 z)) is.root_delay) (ap (λ (n : ℕ). word_bytes n) is.root_dispersion) is.reference_id
    is.reference is.originate is.receive is.transmit

request_header_fits : (poll : ℕ) (stamp : Stamp) (h : Header) → IsRequestHeader poll stamp h → poll ≤ 17 → StampFits stamp → HeaderFits h
request_header_fits poll stamp h is low fits =
    let zero : StampFits no_stamp = record { seconds = omega arith; fraction = omega arith } in
    record {
      stratum = omega (arith, is.stratum);
      poll = subst (FitsSigned w8) (sym is.poll_is) (record { sfits = omega arith });
      precision = subst (FitsSigned w8) (sym is.precision) (record { sfits = omega arith });
      root_delay = subst (FitsSigned w32) (sym is.root_delay) (record { sfits = omega arith });
      root_dispersion = omega (arith, is.root_dispersion);
      reference_id = ap length is.reference_id;
      reference = subst StampFits (sym is.reference) zero;
      originate = subst StampFits (sym is.originate) zero;
      receive = subst StampFits (sym is.receive) zero;
      transmit = subst StampFits (sym is.transmit) fits;
    }

request_tail_fits : (kind : Kind) (rid : ℕ) → rid < 2 ^ 32 → TailFits (request_tail kind rid)
request_tail_fits Short rid fits = (fits, refl)
request_tail_fits Extended rid fits = (fits, refl, omega arith, omega arith, omega arith, omega arith)

request_tail_spelled : (kind : Kind) (rid : ℕ) → tail_bytes (request_tail kind rid) ≡ request_tail_bytes kind rid
request_tail_spelled Short rid = refl
request_tail_spelled Extended rid = refl

-- the bytes of a request
pub request_spelled : (kind : Kind) (rid poll : ℕ) (stamp : Stamp) (p : Packet) → IsRequest kind rid poll stamp p → rid < 2 ^ 32 → poll ≤ 17 → StampFits stamp → SpellsPacket p (request_bytes kind rid poll stamp)
request_spelled kind rid poll stamp p is rid_fits low stamp_fits =
    let header = request_header_bytes poll stamp p.header is.header in
    let tail : tail_bytes p.tail ≡ request_tail_bytes kind rid = ap tail_bytes is.tail ∙ request_tail_spelled kind rid in
    record {
      fits = record { header = request_header_fits poll stamp p.header is.header low stamp_fits; tail = subst TailFits (sym is.tail) (request_tail_fits kind rid rid_fits) };
      written = ap (λ (l : List ℕ). l ++ request_tail_bytes kind rid) (sym header) ∙ ap (λ (l : List ℕ). header_bytes p.header ++ l) (sym tail);
    }
