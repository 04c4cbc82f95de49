-- A reading has one local information, and a request has one answer.
use Rattle.std.proofs.Common.{◌≡◌, ◌≤◌, ◌⊎◌, ℕ, ℤ, List, inl, inr, refl, sym, ◌∙◌, ap, subst, arith}
use Rattle.std.specs.Coded.{le_prop}
use mathlib.Core.HLevel.{is_prop→PathP}
use Rattle.ntp_wire.specs.declared.header.Header.{Header}
use Rattle.ntp_wire.specs.Header.{header_bytes, head_bytes}
use Rattle.ntp_wire.proofs.Moments.{one_stamp}
use Rattle.ms_auth.specs.declared.packet.Kind.{Kind}
use Rattle.ms_auth.specs.declared.packet.Kind.TheVariants.{Short, Extended}
use Rattle.ms_auth.specs.Fields.{kind_length}
use Rattle.key_book.specs.declared.account.Account.{Account}
use Rattle.dc_sign.specs.declared.info.ServerInfo.{ServerInfo}
use Rattle.dc_sign.specs.declared.outcome.Answer.{Answer}
use Rattle.dc_sign.specs.declared.outcome.Answer.TheVariants.{Signed, Plain, Refused}
use Rattle.dc_sign.specs.Info.{IsLocalInfo}
use Rattle.dc_sign.specs.Reply.{Answers, IsPlainReply, IsReplyHeader, IsReplyOf, IsSignedReply}

-- ---- The reply

-- the headers of replies are spelled in one way
one_reply_header : (info : ServerInfo) (bytes : List ℕ) (t2 t3 : ℤ) (a b : Header) → IsReplyHeader info bytes t2 t3 a → IsReplyHeader info bytes t2 t3 b
    → header_bytes a ≡ header_bytes b
unfolding header_bytes head_bytes
one_reply_header info bytes t2 t3 a b first next =
    let receive = one_stamp t2 a.receive b.receive first.receive next.receive in
    let transmit = one_stamp t3 a.transmit b.transmit first.transmit next.transmit in
    cc

-- a length has one kind, and is not that of a header alone
one_kind : (a b : Kind) → kind_length a ≡ kind_length b → a ≡ b
one_kind Short Short same = refl
one_kind Short Extended same = absurd (omega (arith, same))
one_kind Extended Short same = absurd (omega (arith, same))
one_kind Extended Extended same = refl

not_plain : (kind : Kind) → ¬ (48 ≡ kind_length kind)
not_plain Short same = omega (arith, same)
not_plain Extended same = omega (arith, same)

one_signed_reply : (accounts : List Account) (bytes header one other : List ℕ) → IsSignedReply accounts bytes header one → IsSignedReply accounts bytes header other → one ≡ other
one_signed_reply accounts bytes header one other first next =
    let kind : first.kind ≡ next.kind = one_kind first.kind next.kind (sym first.size ∙ next.size) in
    let asked = first.asked in
    let also = next.asked in
    let key : first.key ≡ next.key = cc in
    let written = first.written in
    let again = next.written in
    cc

one_written : (accounts : List Account) (bytes header one other : List ℕ)
    → IsPlainReply bytes header one ⊎ IsSignedReply accounts bytes header one
    → IsPlainReply bytes header other ⊎ IsSignedReply accounts bytes header other → one ≡ other
one_written accounts bytes header one other (inl first) (inl next) = first.written ∙ sym next.written
one_written accounts bytes header one other (inl first) (inr next) = absurd (not_plain next.kind (sym first.size ∙ next.size))
one_written accounts bytes header one other (inr first) (inl next) = absurd (not_plain first.kind (sym next.size ∙ first.size))
one_written accounts bytes header one other (inr first) (inr next) = one_signed_reply accounts bytes header one other first next

-- a request has one reply
pub one_reply : (accounts : List Account) (info : ServerInfo) (bytes : List ℕ) (t2 t3 : ℤ) (one other : List ℕ)
    → IsReplyOf accounts info bytes t2 t3 one → IsReplyOf accounts info bytes t2 t3 other → one ≡ other
one_reply accounts info bytes t2 t3 one other first next =
    let header = one_reply_header info bytes t2 t3 first.header next.header first.answers next.answers in
    let Written : List ℕ → Type 0 = λ (h : List ℕ). IsPlainReply bytes h other ⊎ IsSignedReply accounts bytes h other in
    one_written accounts bytes (header_bytes first.header) one other first.written (subst Written (sym header) next.written)

-- ---- The information

-- a moment has one local information
pub one_local : (t2 : ℤ) (a b : ServerInfo) → IsLocalInfo t2 a → IsLocalInfo t2 b → a ≡ b
one_local t2 a b first next =
    let leap = first.leap ∙ sym next.leap in
    let stratum = first.stratum ∙ sym next.stratum in
    let precision = first.precision ∙ sym next.precision in
    let root_delay = first.root_delay ∙ sym next.root_delay in
    let root_dispersion = first.root_dispersion ∙ sym next.root_dispersion in
    let reference_id = first.reference_id ∙ sym next.reference_id in
    let reference = one_stamp t2 a.reference b.reference first.reference next.reference in
    λ i. record {
      leap = leap i;
      stratum = stratum i;
      precision = precision i;
      root_delay = root_delay i;
      root_dispersion = root_dispersion i;
      reference_id = reference_id i;
      reference = reference i;
      leap_fits = is_prop→PathP (λ j. leap j ≤ 3) (λ j. le_prop) a.leap_fits b.leap_fits i;
    }

-- ---- The answer

-- a signed message is no header alone
not_header : {n : ℕ} → (n ≡ 68) ⊎ (n ≡ 120) → ¬ (n ≡ 48)
not_header long same = elim long [ inl short ↦ omega (arith, short, same) | inr extended ↦ omega (arith, extended, same) ]

-- a request has one answer
pub one_answer : (accounts : List Account) (info : ServerInfo) (bytes : List ℕ) (t2 t3 : ℤ) (one other : Answer)
    → Answers accounts info bytes t2 t3 one → Answers accounts info bytes t2 t3 other → one ≡ other
one_answer accounts info bytes t2 t3 (Signed one) (Signed other) first next = ap Signed (one_reply accounts info bytes t2 t3 one other first.2 next.2)
one_answer accounts info bytes t2 t3 (Signed one) (Plain other) first next = absurd (not_header first.1 next.1)
one_answer accounts info bytes t2 t3 (Signed one) (Refused reason) first next = let accepted = first.0 in absurd cc
one_answer accounts info bytes t2 t3 (Plain one) (Signed other) first next = absurd (not_header next.1 first.1)
one_answer accounts info bytes t2 t3 (Plain one) (Plain other) first next = ap Plain (one_reply accounts info bytes t2 t3 one other first.2 next.2)
one_answer accounts info bytes t2 t3 (Plain one) (Refused reason) first next = let accepted = first.0 in absurd cc
one_answer accounts info bytes t2 t3 (Refused reason) (Signed other) first next = let accepted = next.0 in absurd cc
one_answer accounts info bytes t2 t3 (Refused reason) (Plain other) first next = let accepted = next.0 in absurd cc
one_answer accounts info bytes t2 t3 (Refused reason) (Refused other) first next = let same : reason ≡ other = cc in ap Refused same
