-- The slack of a correction, by the header of its reply and by its request.
use Rattle.std.proofs.Common.{◌≡◌, ℕ, ◌+◌, ◌-◌, ◌*◌, ◌<◌, ◌≤◌, ◌^◌, List, ap, subst, sym, ◌∙◌, ℤ, pos}
use Rattle.std.specs.Prelude.{◌≤ℤ◌, ◌+ℤ◌, ◌-ℤ◌, nat_abs}
use Rattle.std.specs.List.{Contains}
use Rattle.base_specs.specs.Time.{IsReading}
use Rattle.capture_fmt.specs.declared.event.Event.{Event}
use Rattle.capture_fmt.specs.declared.event.Event.TheVariants.{Arrive}
use Rattle.edge_traits.specs.declared.datagram.Addr.{Addr}
use Rattle.ntp_wire.specs.declared.header.Header.{Header}
use Rattle.ntp_wire.specs.declared.stamp.Stamp.{Stamp}
use Rattle.ntp_wire.specs.Fields.{IsHeaderAt, receive_of, transmit_of}
use Rattle.ntp_wire.specs.Stamp.{ticks_of}
use Rattle.time_machine.specs.Verdict.{delay_of}
use Rattle.sntp_world.specs.declared.moment.Moment.{Moment}
use Rattle.sntp_world.specs.declared.packet.Packet.{Packet}
use Rattle.sntp_world.specs.Due.{HasRequest, IsAccepted, IsRequestWith, IsSlackBy}
use Rattle.sntp_world.specs.State.{Correction, slack_of}

-- the correction that a reply with this header led to
abbrev pub correction_of : Moment → Stamp → Stamp → ℤ → Packet → Correction
correction_of at received sent offset p = record {
  offset = offset;
  ahead = at.controller -ℤ at.member;
  delay = delay_of p.at.member (ticks_of received at.member) (ticks_of sent at.member) at.member;
  sent = p.at.uneven;
  came = at.uneven;
}

-- by its parts
pub slack_as : (c : Correction) (slack delay : ℤ) (twice : ℕ) → delay ≡ c.delay → twice ≡ 2 * nat_abs (c.offset -ℤ c.ahead)
    → slack ≡ (delay +ℤ pos (2 * (c.came - c.sent) + 1)) -ℤ pos twice → slack ≡ slack_of c
slack_as c slack delay twice same_delay same_error is =
    is ∙ ap (λ (d : ℤ). (d +ℤ pos (2 * (c.came - c.sent) + 1)) -ℤ pos twice) same_delay
    ∙ ap (λ (n : ℕ). (c.delay +ℤ pos (2 * (c.came - c.sent) + 1)) -ℤ pos n) same_error

-- the request of the arrival, with that of its bytes
pub request_of : (packets : List Packet) (at : Moment) (e : Event) (now : ℤ) (from : Addr) (reply : List ℕ) → IsAccepted packets at e → e ≡ Arrive now from reply
    → HasRequest packets at reply
request_of packets at e now from reply is same = subst (IsAccepted packets at) same is

-- it is there
pub no_request : (packets : List Packet) (at : Moment) (reply : List ℕ) (h : Header) → HasRequest packets at reply → IsHeaderAt reply h
    → h.originate.fraction < 2 ^ 32 → ((p : Packet) → Contains packets p → IsRequestWith h.originate p → ⊥) → ⊥
no_request packets at reply h has is fits none =
    let there = has.there (subst (λ (s : Stamp). s.fraction < 2 ^ 32) (sym is.originate) fits) in
    none there.0 there.1 (subst (λ (s : Stamp). IsRequestWith s there.0) is.originate there.2)

-- its times, by the header
pub record IsTimelyBy (at : Moment) (h : Header) (p : Packet) : Type 0 where
  pub left : IsReading p.at.member
  pub uneven : p.at.uneven ≤ at.uneven
  pub delayed : pos 0 ≤ℤ delay_of p.at.member (ticks_of h.receive at.member) (ticks_of h.transmit at.member) at.member
  pub soon : delay_of p.at.member (ticks_of h.receive at.member) (ticks_of h.transmit at.member) at.member ≤ℤ pos 100000000

pub timely_by : (packets : List Packet) (at : Moment) (reply : List ℕ) (h : Header) (p : Packet) → HasRequest packets at reply → IsHeaderAt reply h
    → Contains packets p → IsRequestWith h.originate p → IsTimelyBy at h p
timely_by packets at reply h p has is there request =
    let t = has.timely p there (subst (λ (s : Stamp). IsRequestWith s p) (sym is.originate) request) in
    let Low : Stamp → Stamp → Type 0 = λ (received sent : Stamp). pos 0 ≤ℤ delay_of p.at.member (ticks_of received at.member) (ticks_of sent at.member) at.member in
    let High : Stamp → Stamp → Type 0 = λ (received sent : Stamp). delay_of p.at.member (ticks_of received at.member) (ticks_of sent at.member) at.member ≤ℤ pos 100000000 in
    record {
      left = t.left;
      uneven = t.uneven;
      delayed = subst (Low h.receive) is.transmit (subst (λ (s : Stamp). Low s (transmit_of reply)) is.receive t.delayed);
      soon = subst (High h.receive) is.transmit (subst (λ (s : Stamp). High s (transmit_of reply)) is.receive t.soon);
    }

-- the slack
pub slack_by : (packets : List Packet) (at : Moment) (e : Event) (now : ℤ) (from : Addr) (reply : List ℕ) (offset : ℤ) (h : Header) (p : Packet) (slack : ℤ)
    → e ≡ Arrive now from reply → IsHeaderAt reply h → Contains packets p → IsRequestWith h.originate p
    → slack ≡ slack_of (correction_of at h.receive h.transmit offset p) → IsSlackBy packets at e offset slack
slack_by packets at e now from reply offset h p slack is header there request same =
    let by_bytes : slack ≡ slack_of (correction_of at (receive_of reply) (transmit_of reply) offset p) =
    same ∙ ap (λ (s : Stamp). slack_of (correction_of at s h.transmit offset p)) (sym header.receive)
    ∙ ap (λ (s : Stamp). slack_of (correction_of at (receive_of reply) s offset p)) (sym header.transmit) in
    subst (λ (x : Event). IsSlackBy packets at x offset slack) (sym is) (p, there, request.asks, request.same ∙ sym header.originate, by_bytes)
