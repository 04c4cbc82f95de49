-- Each signed reply was made by the controller, to a request of the member that was sent before.
use Rattle.std.proofs.Common.{◌≡◌, ◌⊎◌, ℕ, ◌==◌, Bool, true, false, List, [], ◌∷◌, ◌++◌, length, take, Some, None, cond, inl, inr, refl, subst, sym, ◌∙◌, ap, arith, ℤ}
use Rattle.std.specs.Prelude.{⊤, option_and_then}
use Rattle.std.specs.List.{Contains}
use Rattle.std.proofs.Math.Seq.{take-append_seam}
use Rattle.std.proofs.lemmas.Bool.Decides.{Decides-eqb}
use Rattle.std.proofs.lemmas.List.Elements.{Contains-append_right}
use Rattle.capture_fmt.specs.declared.event.Event.{Event}
use Rattle.capture_fmt.specs.declared.event.Event.TheVariants.{Life, Tick, Resync, Arrive}
use Rattle.dc_sign.specs.declared.info.ServerInfo.{ServerInfo}
use Rattle.dc_sign.specs.declared.outcome.Answer.{Answer}
use Rattle.dc_sign.specs.declared.outcome.Answer.TheVariants as answer
use Rattle.dc_sign.specs.Reply.{Answers, IsPlainReply, IsReplyHeader, IsReplyOf, IsSignedReply}
use Rattle.dc_sign.proofs.Replies.{length-reply}
use Rattle.key_book.specs.declared.account.Account.{Account}
use Rattle.key_book.specs.AccountBook.{key_in, key_of}
use Rattle.ntp_wire.specs.declared.header.Header.{Header}
use Rattle.ntp_wire.specs.Header.{HeaderFits, SpellsHeader, header_bytes}
use Rattle.ntp_wire.specs.Stamp.{IsStampOf}
use Rattle.ntp_wire.proofs.Fields.{originate_is, receive_is, transmit_is}
use Rattle.ntp_wire.proofs.Headers.{length-header_bytes}
use Rattle.time_machine.specs.declared.outcome.Outcome.{Outcome}
use Rattle.time_machine.specs.declared.outcome.Outcome.TheVariants.{Started, Idle, Sent, Moved, Refused}
use Rattle.sntp_world.specs.declared.op.Op.{Op}
use Rattle.sntp_world.specs.declared.op.Effect.{Effect}
use Rattle.sntp_world.specs.declared.packet.Destination.TheVariants as to
use Rattle.sntp_world.specs.declared.packet.Packet.{Packet}
use Rattle.sntp_world.specs.Accuracy.{IsReplyIn}
use Rattle.sntp_world.specs.Setting.{world_account, world_rid}
use Rattle.sntp_world.specs.State.{State, first_state}
use Rattle.sntp_world.specs.Steps.{AsksForMember, Asks, Guesses, Leaves, MayPass, Passes, Skips, WorldAfter, packets_after}
use Rattle.sntp_world.proofs.Allowed.{Allowed, IsNotForged, always_allowed, was_requested}
use Rattle.sntp_world.proofs.Cases.{TakesNow}
use Rattle.sntp_world.proofs.Histories.{Lives}
use Rattle.sntp_world.proofs.Packets.{first_or}
use Rattle.sntp_world.proofs.Stamps.{HasStamps, stamps_always, stamps_led}

-- ---- A reply

-- what has a key in this book names its account
named_by : (b : Bool) (rid : ℕ) (old : Bool) (key : List ℕ) → (world_rid == rid) ≡ b
    → option_and_then (λ (a : Account). key_in a old) (cond b (Some world_account) None) ≡ Some key → rid ≡ world_rid
named_by true rid old key is found = sym ((Decides-eqb world_rid rid).0 is)
named_by false rid old key is found = absurd (let no : ⊥ = cc in no)

named : (rid : ℕ) (old : Bool) (key : List ℕ) → key_of (world_account ∷ []) rid old ≡ Some key → rid ≡ world_rid
named rid old key found = named_by (world_rid == rid) rid old key refl found

-- its header stands in front
in_front : (h : Header) (out rest : List ℕ) → HeaderFits h → out ≡ header_bytes h ++ rest → SpellsHeader h (take 48 out)
in_front h out rest fits is = record {
  fits = fits;
  written = ap (take 48) is
      ∙ subst (λ (n : ℕ). take n (header_bytes h ++ rest) ≡ header_bytes h) (length-header_bytes h fits.reference_id) (take-append_seam (header_bytes h) rest);
}

-- a signed one answers a request that was sent
signed : (w : State) (info : ServerInfo) (bytes out : List ℕ) (h : Header) → HasStamps w → (Guesses w bytes → ⊥) → HeaderFits h
    → IsReplyHeader info bytes w.now.controller w.now.controller h → IsSignedReply (world_account ∷ []) bytes (header_bytes h) out
    → IsReplyIn w.packets (record { to = to.Member; bytes = out; at = w.now })
signed w info bytes out h has honest fits header is =
    let asks : AsksForMember bytes = record { kind = is.kind; size = is.size; account = named _ _ is.key is.asked } in
    let request = was_requested w bytes honest asks in
    let spells = in_front h out _ fits is.written in
    record {
      request = request.packet;
      sent = request.sent;
      asks = request.asks;
      answers = originate_is h out spells ∙ header.originate ∙ sym request.same;
      before = has.stamped.before request.packet request.sent;
      receive = subst (IsStampOf w.now.controller) (sym (receive_is h out spells)) header.receive;
      transmit = subst (IsStampOf w.now.controller) (sym (transmit_is h out spells)) header.transmit;
    }

reply_made : (w : State) (info : ServerInfo) (bytes out : List ℕ) → HasStamps w → (Guesses w bytes → ⊥)
    → IsReplyOf (world_account ∷ []) info bytes w.now.controller w.now.controller out → (length out ≡ 48 → ⊥)
    → IsReplyIn w.packets (record { to = to.Member; bytes = out; at = w.now })
reply_made w info bytes out has honest is long = by_kind is.written
  where
    by_kind : IsPlainReply bytes (header_bytes is.header) out ⊎ IsSignedReply (world_account ∷ []) bytes (header_bytes is.header) out
        → IsReplyIn w.packets (record { to = to.Member; bytes = out; at = w.now })
    by_kind (inl plain) = absurd (long (length-reply (world_account ∷ []) info bytes w.now.controller w.now.controller out is ∙ plain.size))
    by_kind (inr sum) = signed w info bytes out is.header has honest is.fits is.answers sum

-- ---- Packets

-- each packet to the member that isn't a header alone, the last one first, answers one of those before it
abbrev pub AreMade : List Packet → Type 0
AreMade [] = ⊤
AreMade (p ∷ before) = (p.to ≡ to.Member → (length p.bytes ≡ 48 → ⊥) → IsReplyIn before p) × AreMade before

stays_made : (p : Packet) (ps : List Packet) (q : Packet) → IsReplyIn ps q → IsReplyIn (p ∷ ps) q
stays_made p ps q is = record {
  request = is.request;
  sent = Contains-append_right (p ∷ []) ps is.request is.sent;
  asks = is.asks;
  answers = is.answers;
  before = is.before;
  receive = is.receive;
  transmit = is.transmit;
}

-- one more
made_more : (p : Packet) (ps : List Packet) → (p.to ≡ to.Member → (length p.bytes ≡ 48 → ⊥) → IsReplyIn ps p) → AreMade ps → AreMade (p ∷ ps)
made_more p ps first are = (first, are)

-- so each of them answers one of them
pub made_of : (ps : List Packet) (q : Packet) → AreMade ps → Contains ps q → q.to ≡ to.Member → (length q.bytes ≡ 48 → ⊥) → IsReplyIn ps q
made_of [] q are c goes long = absurd (omega (arith, c.1))
made_of (p ∷ ps) q are c goes long = elim (first_or p ps q c) [
  | inl e ↦ stays_made p ps q (subst (λ (x : Packet). x.to ≡ to.Member → (length x.bytes ≡ 48 → ⊥) → IsReplyIn ps x) e are.0 goes long)
  | inr k ↦ stays_made p ps q (made_of ps q are.1 k goes long)
]

answered : (w : State) (info : ServerInfo) (bytes : List ℕ) (a : Answer) → HasStamps w → (Guesses w bytes → ⊥)
    → Answers (world_account ∷ []) info bytes w.now.controller w.now.controller a → AreMade w.packets → AreMade (packets_after w a)
answered w info bytes (answer.Signed reply) has honest is are = made_more _ w.packets (λ goes long. reply_made w info bytes reply has honest is.2 long) are
answered w info bytes (answer.Plain reply) has honest is are = made_more _ w.packets (λ goes long. reply_made w info bytes reply has honest is.2 long) are
answered w info bytes (answer.Refused reason) has honest is are = are

made_after : (w : State) (e : Event) (o : Outcome) (now : State) → AreMade w.packets → Leaves w e o now → AreMade now.packets
made_after w e (Sent addr count bytes) now are is =
    subst (λ (s : State). AreMade s.packets) (sym is) (made_more _ w.packets (λ goes long. absurd (let no : ⊥ = cc in no)) are)
made_after w (Arrive at from reply) (Moved count offset how) now are is = subst (λ (s : State). AreMade s.packets) (sym is.2) are
made_after w (Life at mark) (Moved count offset how) now are is = absurd is
made_after w (Tick at word) (Moved count offset how) now are is = absurd is
made_after w (Resync at word flags) (Moved count offset how) now are is = absurd is
made_after w e (Started mark) now are is = subst (λ (s : State). AreMade s.packets) (sym is) are
made_after w e Idle now are is = subst (λ (s : State). AreMade s.packets) (sym is) are
made_after w e (Refused reason) now are is = subst (λ (s : State). AreMade s.packets) (sym is) are

-- ---- Each world

pub record HasMade (w : State) : Type 0 where
  pub stamps : HasStamps w
  pub made : AreMade w.packets

pub made_led : (w : State) → Lives w → HasMade w → Allowed HasMade w
made_led w lives has =
    let stamps = stamps_led w lives has.stamps in
    let Made : State → Type 0 = λ (s : State). AreMade s.packets in
    record {
      skips = λ (effect : Effect) (now : State) (is : Skips w effect now).
          record { stamps = stamps.skips effect now is; made = subst Made (sym is.1) has.made };
      passes = λ (d : ℕ) (e f : ℤ) (effect : Effect) (now : State) (may : MayPass d e f w.now) (is : Passes d e f w effect now).
          record { stamps = stamps.passes d e f effect now may is; made = subst Made (sym is.1) has.made };
      asks = λ (bytes : List ℕ) (effect : Effect) (now : State) (honest : Guesses w bytes → ⊥) (is : Asks bytes w effect now).
          record {
            stamps = stamps.asks bytes effect now is;
            made = subst Made (sym is.now_is) (answered w is.info bytes is.answer has.stamps honest is.answers has.made);
          };
      takes = λ (effect : Effect) (now : State) (is : TakesNow w effect now) (honest : IsNotForged w is.event).
          record { stamps = stamps.takes effect now is; made = made_after w is.event _ now has.made is.takes.1 };
    }

none_made : AreMade []
none_made = tt

pub made_always : (ops : List Op) (w : State) → WorldAfter ops w → HasMade w
made_always ops w is =
    always_allowed HasMade (record { stamps = stamps_always [] first_state refl; made = none_made }) made_led ops w is
