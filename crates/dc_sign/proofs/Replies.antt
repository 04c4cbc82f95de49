-- The bytes of a reply, and what the layer above needs of answers.
use Rattle.std.proofs.Common.{ℤ, ◌+◌, ◌<◌, arith, ◌≡◌, ◌⊎◌, ◌%◌, ℕ, List, [], ◌∷◌, ◌++◌, append_assoc, length, Some, None, inl, inr, refl, sym, ◌∙◌, ap, subst}
use Rattle.std.proofs.lemmas.List.{append-nil}
use Rattle.byte_codec.specs.Numbers.{low_word_bytes}
use Rattle.byte_codec.proofs.Numbers.{length-low_number_bytes}
use Rattle.byte_codec.proofs.Parts.{longer}
use Rattle.mac_kdf.proofs.Lengths.{length-ext_digest, length-md5_digest}
use Rattle.ntp_wire.proofs.Headers.{length-header_bytes}
use Rattle.dc_sign.specs.declared.info.ServerInfo.{ServerInfo}
use Rattle.mac_kdf.specs.Digests.{ext_digest, md5_digest}
use Rattle.ntp_wire.specs.Header.{header_bytes}
use Rattle.ms_auth.specs.declared.packet.Kind.{Kind}
use Rattle.ms_auth.specs.declared.packet.Kind.TheVariants.{Short, Extended}
use Rattle.ms_auth.specs.declared.packet.Packet.{Packet}
use Rattle.ms_auth.specs.declared.packet.Tail.{Tail}
use Rattle.ms_auth.specs.declared.packet.Tail.TheVariants.{Plain, Short68, Ext120}
use Rattle.ms_auth.specs.Digest.{IsSigned, IsSignedTail, tail_digest}
use Rattle.ms_auth.specs.Fields.{IsTailAt, flags_of, key_id_of, kind_length}
use Rattle.ms_auth.specs.Packet.{packet_bytes, tail_bytes}
use Rattle.key_book.specs.declared.account.Account.{Account}
use Rattle.dc_sign.specs.declared.outcome.Answer.{Answer}
use Rattle.dc_sign.specs.declared.outcome.Answer.TheVariants as answer
use Rattle.dc_sign.specs.declared.outcome.Refusal.TheVariants.{BadLength}
use Rattle.dc_sign.specs.Asked.{asked_in, reply_tail}
use Rattle.dc_sign.specs.Asking.{IsKeyFor}
use Rattle.dc_sign.specs.Reply.{Answers, IsPlainReply, IsReplyOf, IsSignedReply, refusal_of, reply_digest, reply_fields}
use Rattle.dc_sign.proofs.Deciding.{wrong_length}

of_kind : (kind : Kind) (n : ℕ) → n ≡ kind_length kind → (n ≡ 68) ⊎ (n ≡ 120)
of_kind Short n same = inl same
of_kind Extended n same = inr same

-- bytes behind the header
tail_length : Kind → ℕ
tail_length Short = 20
tail_length Extended = 72

length_with : (kind : Kind) → kind_length kind ≡ 48 + tail_length kind
unfolding tail_length
length_with Short = refl
length_with Extended = refl

length-behind : (kind : Kind) (key bytes header : List ℕ) → length (reply_fields kind bytes ++ reply_digest kind key bytes header) ≡ tail_length kind
unfolding tail_length
length-behind Short key bytes header =
    longer 4 16 (low_word_bytes (key_id_of bytes)) (md5_digest key header) (length-low_number_bytes 4 (key_id_of bytes)) (length-md5_digest key header)
length-behind Extended key bytes header =
    let word = low_word_bytes (key_id_of bytes) in
    let cells = 0 ∷ flags_of bytes % 2 ∷ 1 ∷ 1 ∷ [] in
    longer 8 64 (word ++ cells) (ext_digest key (key_id_of bytes) header) (longer 4 4 word cells (length-low_number_bytes 4 (key_id_of bytes)) refl) (length-ext_digest key (key_id_of bytes) header)

-- where no key is asked for, the reply is its header
pub plain_reply : (accounts : List Account) (bytes : List ℕ) (t : Tail) (reply : Packet) → IsTailAt bytes t → IsKeyFor accounts (asked_in t) None
    → reply.tail ≡ reply_tail t → IsPlainReply bytes (header_bytes reply.header) (packet_bytes reply)
plain_reply accounts bytes Plain reply at asked tail = record {
  size = at;
  written = ap (λ (x : Tail). header_bytes reply.header ++ tail_bytes x) tail ∙ append-nil (header_bytes reply.header);
}
plain_reply accounts bytes (Short68 key_id sum) reply at asked tail = absurd asked
plain_reply accounts bytes (Ext120 rid reserved flags hints hash sum) reply at asked tail = absurd asked

-- where a key is asked for, the reply has its tail signed under that key
signed_tail : (accounts : List Account) (bytes key header : List ℕ) (t now : Tail) → IsTailAt bytes t → IsKeyFor accounts (asked_in t) (Some key)
    → IsSignedTail (tail_digest (reply_tail t) key header) (reply_tail t) now → IsSignedReply accounts bytes header (header ++ tail_bytes now)
signed_tail accounts bytes key header Plain now at asked is = absurd asked
signed_tail accounts bytes key header (Short68 key_id sum) now at asked is =
    let same = at.1 in
    let digest = is.1 in
    let new : is.0 ≡ md5_digest key header = cc in
    record {
      kind = Short;
      size = at.0;
      key = key;
      asked = rw same asked;
      written = ap (λ (x : Tail). header ++ tail_bytes x) is.2 ∙ rw (same, new) refl;
    }
signed_tail accounts bytes key header (Ext120 rid reserved flags hints hash sum) now at asked is =
    let same = at.key_id_is in
    let bits = at.flags_is in
    let digest = is.1 in
    let new : is.0 ≡ ext_digest key rid header = cc in
    let cells = 0 ∷ flags % 2 ∷ 1 ∷ 1 ∷ [] in
    let whole = append_assoc (low_word_bytes rid) cells (ext_digest key rid header) in
    record {
      kind = Extended;
      size = at.size;
      key = key;
      asked = rw (same, bits) asked;
      written = ap (λ (x : Tail). header ++ tail_bytes x) is.2 ∙ rw (same, bits, new) (ap (λ (l : List ℕ). header ++ l) (sym whole));
    }

pub signed_reply : (accounts : List Account) (bytes key : List ℕ) (t : Tail) (reply signed : Packet) → IsTailAt bytes t → IsKeyFor accounts (asked_in t) (Some key)
    → reply.tail ≡ reply_tail t → IsSigned key reply signed → IsSignedReply accounts bytes (header_bytes reply.header) (packet_bytes signed)
signed_reply accounts bytes key t reply signed at asked tail is =
    let Signed : Tail → Type 0 = λ (x : Tail). IsSignedTail (tail_digest x key (header_bytes reply.header)) x signed.tail in
    let Reply : List ℕ → Type 0 = λ (l : List ℕ). IsSignedReply accounts bytes (header_bytes reply.header) (l ++ tail_bytes signed.tail) in
    subst Reply (ap header_bytes (sym is.header)) (signed_tail accounts bytes key (header_bytes reply.header) t signed.tail at asked (subst Signed tail is.tail))

-- a request with a checksum is no header alone
pub length_of_signed : (accounts : List Account) (bytes header out : List ℕ) → IsSignedReply accounts bytes header out → (length bytes ≡ 68) ⊎ (length bytes ≡ 120)
length_of_signed accounts bytes header out reply = of_kind reply.kind (length bytes) reply.size

-- ---- Lengths

-- a reply is as long as its request
written_length : (accounts : List Account) (bytes header out : List ℕ) → length header ≡ 48
    → IsPlainReply bytes header out ⊎ IsSignedReply accounts bytes header out → length out ≡ length bytes
written_length accounts bytes header out long (inl plain) = ap length plain.written ∙ long ∙ sym plain.size
written_length accounts bytes header out long (inr signed) =
    ap length signed.written ∙ longer 48 _ header _ long (length-behind signed.kind signed.key bytes header) ∙ sym (length_with signed.kind) ∙ sym signed.size

pub length-reply : (accounts : List Account) (info : ServerInfo) (bytes : List ℕ) (t2 t3 : ℤ) (out : List ℕ) → IsReplyOf accounts info bytes t2 t3 out → length out ≡ length bytes
length-reply accounts info bytes t2 t3 out reply =
    written_length accounts bytes (header_bytes reply.header) out (length-header_bytes reply.header reply.fits.reference_id) reply.written

-- a reply isn't empty
some_written : (accounts : List Account) (bytes header out : List ℕ) → IsPlainReply bytes header out ⊎ IsSignedReply accounts bytes header out → 0 < length bytes
some_written accounts bytes header out (inl plain) = omega (arith, plain.size)
some_written accounts bytes header out (inr signed) =
    elim (length_of_signed accounts bytes header out signed) [ inl short ↦ omega (arith, short) | inr extended ↦ omega (arith, extended) ]

pub reply_some : (accounts : List Account) (info : ServerInfo) (bytes : List ℕ) (t2 t3 : ℤ) (out : List ℕ) → IsReplyOf accounts info bytes t2 t3 out → 0 < length out
reply_some accounts info bytes t2 t3 out reply =
    let some = some_written accounts bytes (header_bytes reply.header) out reply.written in
    omega (arith, some, length-reply accounts info bytes t2 t3 out reply)

-- ---- Answers

-- a request that is longer is refused for its length, however it goes on
pub too_long : (accounts : List Account) (bytes : List ℕ) → 120 < length bytes → refusal_of accounts bytes ≡ Some BadLength
too_long accounts bytes longer =
    wrong_length accounts bytes (λ long. elim long [ inl e ↦ omega (arith, e) | inr f ↦ elim f [ inl e ↦ omega (arith, e) | inr e ↦ omega (arith, e) ] ])

-- an answer that has a reply is given to a request that is not refused
pub replied : (accounts : List Account) (info : ServerInfo) (bytes : List ℕ) (t2 t3 : ℤ) (given : Answer) (reply : List ℕ)
    → Answers accounts info bytes t2 t3 given → (given ≡ answer.Signed reply) ⊎ (given ≡ answer.Plain reply)
    → (refusal_of accounts bytes ≡ None) × IsReplyOf accounts info bytes t2 t3 reply
replied accounts info bytes t2 t3 given reply answers (inl is) = let signed = subst (Answers accounts info bytes t2 t3) is answers in (signed.0, signed.2)
replied accounts info bytes t2 t3 given reply answers (inr is) = let plain = subst (Answers accounts info bytes t2 t3) is answers in (plain.0, plain.2)
