-- Whether a packet is the member's request with a timestamp, and whether one was found.
use Rattle.std.proofs.Common.{◌≡◌, ◌==◌, ◌&&◌, ◌≤◌, ◌<◌, ℕ, Bool, List, length, Option, Some, None, Bor, IfSome, IfNone, ap, subst, sym, ◌∙◌, arith}
use Rattle.std.specs.Prelude.{IsTrue, is_some}
use Rattle.std.specs.List.{Contains}
use Rattle.std.proofs.lemmas.Bool.Decides.{Decides-and, Decides-eqb}
use Rattle.ntp_wire.specs.declared.header.Header.{Header}
use Rattle.ntp_wire.specs.declared.stamp.Stamp.{Stamp}
use Rattle.ntp_wire.specs.Fields.{IsHeaderAt, transmit_of}
use Rattle.sntp_world.specs.declared.packet.Destination.TheVariants as to
use Rattle.sntp_world.specs.declared.packet.Packet.{Packet}
use Rattle.sntp_world.specs.Due.{IsRequestWith, IsSentBefore}

pub whole_by : (n : ℕ) → (n < 48 → ⊥) → 48 ≤ n
whole_by n h = omega (arith, h)

same_stamp : (a b : Stamp) → a.seconds ≡ b.seconds → a.fraction ≡ b.fraction → a ≡ b
same_stamp a b seconds fraction = λ i. record { seconds = seconds i; fraction = fraction i }

pub request_by : (stamp : Stamp) (p : Packet) (bytes : List ℕ) (h : Header) (b : Bool) → p.to ≡ to.Controller → bytes ≡ p.bytes → 48 ≤ length bytes → IsHeaderAt bytes h
    → b ≡ (h.transmit.seconds == stamp.seconds && h.transmit.fraction == stamp.fraction) → (IsTrue b → IsRequestWith stamp p) × (IsRequestWith stamp p → IsTrue b)
request_by stamp p bytes h b goes same whole at is =
    let decides = Decides-and (h.transmit.seconds == stamp.seconds) (h.transmit.fraction == stamp.fraction)
    (Decides-eqb h.transmit.seconds stamp.seconds) (Decides-eqb h.transmit.fraction stamp.fraction) in
    let transmit : transmit_of p.bytes ≡ h.transmit = ap transmit_of (sym same) ∙ at.transmit in (
      λ (t : IsTrue b).
          let both = decides.0 (sym is ∙ t) in
          record { asks = goes; whole = subst (λ (l : List ℕ). 48 ≤ length l) same whole; same = transmit ∙ same_stamp h.transmit stamp both.0 both.1 },
      λ (r : IsRequestWith stamp p).
          let e : h.transmit ≡ stamp = sym transmit ∙ r.same in
          is ∙ decides.1 (ap (λ (s : Stamp). s.seconds) e, ap (λ (s : Stamp). s.fraction) e),
    )

pub known_by : (packets : List Packet) (bytes : List ℕ) (h : Header) (o : Option (Bor Packet)) (b : Bool) → IsHeaderAt bytes h
    → IfSome o (λ p. Contains packets p.now) → IfSome o (λ p. IsRequestWith h.transmit p.now)
    → IfNone o ((p : Packet) → Contains packets p → IsRequestWith h.transmit p → ⊥) → b ≡ is_some o
    → (IsTrue b → IsSentBefore packets bytes) × (IsSentBefore packets bytes → IsTrue b)
known_by packets bytes h (Some p) b at found is none same = (
  λ (t : IsTrue b). (p.now, found, subst (λ (s : Stamp). IsRequestWith s p.now) (sym at.transmit) is),
  λ (s : IsSentBefore packets bytes). same,
)
known_by packets bytes h None b at found is none same = (
  λ (t : IsTrue b). absurd (let no : ⊥ = cc in no),
  λ (s : IsSentBefore packets bytes). absurd (none s.0 s.1 (subst (λ (x : Stamp). IsRequestWith x s.0) at.transmit s.2)),
)
