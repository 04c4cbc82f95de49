use Rattle.std.proofs.Common.{◌≡◌, ◌<◌, ℕ, List, length, take, rules, refl, subst, sym}
use Rattle.std.specs.Int.{w64}
use Rattle.std.proofs.lemmas.Int.{to_z-of_z}
use Rattle.base_specs.specs.Told.{Added}
use Rattle.w32tm_cmd.specs.Sign.{request_limit}
use Rattle.w32tm_cmd.proofs.Requests.{reads_input, prepares, answer_some}
use Rattle.w32tm_cmd.proofs.sign.sign_request.Goals as goal

pub write-requires : goal.write-requires
write-requires g c =
    let some = answer_some _ _ _ _ _ c.answer.result c.in-Signed.reply c.answer.ensures.answers c.in-Signed.is in
    subst (λ (l : List ℕ). 0 < length l) (sym c.as_slice.ensures.bytes) some

pub returns-in-Done-clause-sign : goal.returns-in-Done-clause-sign
returns-in-Done-clause-sign g c =
    let buf = c.fill_front.new.buf in
    let size : length buf ≡ 257 = search rules in
    let received = to_z-of_z w64 c.in-Some.t2 (search rules) in
    let sent = to_z-of_z w64 c.in-Some.t3 (search rules) in
    record {
      reply = c.in-Signed.reply;
      prepared = prepares _ _ _ (take c.in-Bytes.count buf) c.in-Some.t2 c.in-Some.t3 c.local.result c.answer.result c.in-Signed.reply
          (reads_input request_limit _ _ buf c.in-Bytes.count size c.in-Bytes.ensures.bytes c.in-Bytes.ensures.cause)
          c.in-Some.ensures.given c.in-Some.ensures.no_fault
          (rw received at c.local.ensures.local) (rw (received, sent) at c.answer.ensures.answers) c.in-Signed.is;
      bytes = subst (λ (l : List ℕ). Added (g.O.Sink.written c.args.outside.now.out) (g.O.Sink.written c.write.new.self) l) c.as_slice.ensures.bytes c.in-Done.ensures.bytes;
      no_fault = c.in-Done.ensures.cause;
    }

pub returns-in-Failed-clause-sign : goal.returns-in-Failed-clause-sign
returns-in-Failed-clause-sign g c =
    let buf = c.fill_front.new.buf in
    let size : length buf ≡ 257 = search rules in
    let received = to_z-of_z w64 c.in-Some.t2 (search rules) in
    let sent = to_z-of_z w64 c.in-Some.t3 (search rules) in
    let front = c.in-Failed.ensures.bytes in
    record {
      reply = c.in-Signed.reply;
      front = front.0;
      prepared = prepares _ _ _ (take c.in-Bytes.count buf) c.in-Some.t2 c.in-Some.t3 c.local.result c.answer.result c.in-Signed.reply
          (reads_input request_limit _ _ buf c.in-Bytes.count size c.in-Bytes.ensures.bytes c.in-Bytes.ensures.cause)
          c.in-Some.ensures.given c.in-Some.ensures.no_fault
          (rw received at c.local.ensures.local) (rw (received, sent) at c.answer.ensures.answers) c.in-Signed.is;
      bytes = subst (λ (l : List ℕ). Added (g.O.Sink.written c.args.outside.now.out) (g.O.Sink.written c.write.new.self) (take front.0 l)) c.as_slice.ensures.bytes front.2;
      cause = c.in-Failed.ensures.cause;
    }

pub returns-in-Refused-clause-sign : goal.returns-in-Refused-clause-sign
returns-in-Refused-clause-sign g c =
    let buf = c.fill_front.new.buf in
    let size : length buf ≡ 257 = search rules in
    record {
      input = take c.in-Bytes.count buf;
      t2 = c.in-Some.t2;
      t3 = c.in-Some.t3;
      takes = record {
        read = reads_input request_limit _ _ buf c.in-Bytes.count size c.in-Bytes.ensures.bytes c.in-Bytes.ensures.cause;
        readings = c.in-Some.ensures.given;
        no_clock_fault = c.in-Some.ensures.no_fault;
      };
      refused = c.in-Refused.ensures.answers;
      out = record { bytes = refl; no_fault = refl };
    }
