use Rattle.std.proofs.Common.{ℕ, List, refl, sym, subst, inl, inr, rules, w64, ◌∙◌}
use Rattle.std.proofs.lemmas.Int.{to_z-of_z}
use Rattle.dc_sign.proofs.Deciding.{refusal_read, wrong_length}
use Rattle.ntp_wire.specs.Header.{header_bytes}
use Rattle.dc_sign.specs.Reply.{IsPlainReply, IsSignedReply}
use Rattle.dc_sign.proofs.Replies.{length_of_signed, plain_reply, signed_reply}
use Rattle.dc_sign.proofs.Uniqueness.{one_reply}
use Rattle.dc_sign.proofs.reply.answer.Goals as goal

pub returns-in_default-clause-answers : goal.returns-in_default-clause-answers
returns-in_default-clause-answers g c = wrong_length (g.K.Keys.accounts c.args.keys.now) c.args.bytes.now (c.in_default.ensures.bad_length.0 refl)

pub returns-in-Err-clause-answers : goal.returns-in-Err-clause-answers
returns-in-Err-clause-answers g c = refusal_read (g.K.Keys.accounts c.args.keys.now) c.in-Ok.request c.args.bytes.now c.in-Ok.ensures.places ∙ c.in-Err.ensures

pub returns-in-Err-clause-only : goal.returns-in-Err-clause-only
returns-in-Err-clause-only g c = one_reply (g.K.Keys.accounts c.args.keys.now) c.args.info.now c.args.bytes.now c.args.t2 c.args.t3

pub returns-in-Some-clause-answers : goal.returns-in-Some-clause-answers
returns-in-Some-clause-answers g c =
    let accounts = g.K.Keys.accounts c.args.keys.now in
    let bytes = c.args.bytes.now in
    let at = c.in-Ok.ensures.places in
    let asked = rw c.in-Some.is at c.in-Ok-key_for.ensures.1 in
    let signed = signed_reply accounts bytes c.in-Some.key c.in-Ok.request.tail (record { header = c.reply_header.result; tail = c.reply_tail.result }) c.sign.result at.tail asked c.reply_tail.ensures c.sign.ensures.signed in
    let Written : List ℕ → Type 0 = λ (out : List ℕ). IsSignedReply accounts bytes (header_bytes c.reply_header.result) out in
    let written = subst Written (sym c.write_packet.ensures.written) signed in (
      refusal_read accounts c.in-Ok.request bytes at ∙ c.in-Ok-key_for.ensures.0,
      length_of_signed accounts bytes _ _ written,
      record {
        header = c.reply_header.result;
        fits = c.reply_header.ensures.fits;
        answers =
            let received = to_z-of_z w64 c.args.t2 (search rules) in
            let sent = to_z-of_z w64 c.args.t3 (search rules) in
            rw (received, sent) at (c.reply_header.ensures.header bytes at.header);
        written = inr written;
      },
    )

pub returns-in-Some-clause-only : goal.returns-in-Some-clause-only
returns-in-Some-clause-only g c = one_reply (g.K.Keys.accounts c.args.keys.now) c.args.info.now c.args.bytes.now c.args.t2 c.args.t3

pub returns-in-None-clause-answers : goal.returns-in-None-clause-answers
returns-in-None-clause-answers g c =
    let accounts = g.K.Keys.accounts c.args.keys.now in
    let bytes = c.args.bytes.now in
    let at = c.in-Ok.ensures.places in
    let asked = rw c.in-None.is at c.in-Ok-key_for.ensures.1 in
    let plain = plain_reply accounts bytes c.in-Ok.request.tail (record { header = c.reply_header.result; tail = c.reply_tail.result }) at.tail asked c.reply_tail.ensures in
    let Written : List ℕ → Type 0 = λ (out : List ℕ). IsPlainReply bytes (header_bytes c.reply_header.result) out in
    let written = subst Written (sym c.write_packet-in-None.ensures.written) plain in (
      refusal_read accounts c.in-Ok.request bytes at ∙ c.in-Ok-key_for.ensures.0,
      written.size,
      record {
        header = c.reply_header.result;
        fits = c.reply_header.ensures.fits;
        answers =
            let received = to_z-of_z w64 c.args.t2 (search rules) in
            let sent = to_z-of_z w64 c.args.t3 (search rules) in
            rw (received, sent) at (c.reply_header.ensures.header bytes at.header);
        written = inl written;
      },
    )

pub returns-in-None-clause-only : goal.returns-in-None-clause-only
returns-in-None-clause-only g c = one_reply (g.K.Keys.accounts c.args.keys.now) c.args.info.now c.args.bytes.now c.args.t2 c.args.t3
