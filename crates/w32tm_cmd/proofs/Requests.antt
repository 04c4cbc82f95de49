-- A request that was taken, and what is answered to it.
use Rattle.std.proofs.Common.{◌≡◌, ◌<◌, ◌⊎◌, ℕ, ℤ, List, [], ◌∷◌, length, take, arith}
use Rattle.std.proofs.lemmas.List.{length-take}
use Rattle.edge_traits.specs.Clock.{GaveReadings}
use Rattle.edge_traits.specs.Fill.{Fills}
use Rattle.edge_traits.specs.declared.fill.Filled.TheVariants.{Bytes}
use Rattle.key_book.specs.declared.account.Account.{Account}
use Rattle.dc_sign.specs.declared.info.ServerInfo.{ServerInfo}
use Rattle.dc_sign.specs.declared.outcome.Answer.{Answer}
use Rattle.dc_sign.specs.declared.outcome.Answer.TheVariants.{Signed, Plain}
use Rattle.dc_sign.specs.Info.{IsLocalInfo}
use Rattle.dc_sign.specs.Reply.{Answers}
use Rattle.dc_sign.proofs.Replies.{replied, reply_some}
use Rattle.edge_seen.specs.Seen.{Seen}
use Rattle.w32tm_cmd.specs.Seen.{ReadsInput}
use Rattle.w32tm_cmd.specs.Sign.{request_limit, Prepares}

-- what fills a buffer is the input up to the buffer's length
pub reads_input : (limit : ℕ) (before now : Seen) (buf : List ℕ) (n : ℕ) → length buf ≡ limit → Fills (Bytes n) buf before.left now.left → now.read_faults ≡ before.read_faults → ReadsInput limit before now (take n buf)
reads_input limit before now buf n size fills same =
    let count : length (take n buf) ≡ n = omega (arith, length-take n buf, fills.0) in
    record {
      took = fills.1;
      most = omega (arith, count, fills.0);
      all = λ lt. fills.2 (omega (arith, count, lt));
      no_fault = same;
    }

-- what was read and answered with a reply
pub prepares : (account : Account) (before now : Seen) (input : List ℕ) (t2 t3 : ℤ) (info : ServerInfo) (answer : Answer) (reply : List ℕ)
    → ReadsInput request_limit before now input → GaveReadings before.clock now.clock (t2 ∷ t3 ∷ []) → now.clock_faults ≡ before.clock_faults
    → IsLocalInfo t2 info → Answers (account ∷ []) info input t2 t3 answer → (answer ≡ Signed reply) ⊎ (answer ≡ Plain reply)
    → Prepares account before now reply
prepares account before now input t2 t3 info answer reply read readings no_fault local answers is =
    let answered = replied (account ∷ []) info input t2 t3 answer reply answers is in
    record {
      input = input;
      t2 = t2;
      t3 = t3;
      info = info;
      takes = record { read = read; readings = readings; no_clock_fault = no_fault };
      accepted = answered.0;
      local = local;
      is_reply = answered.1;
    }

-- a reply is not empty
pub answer_some : (accounts : List Account) (info : ServerInfo) (bytes : List ℕ) (t2 t3 : ℤ) (answer : Answer) (reply : List ℕ)
    → Answers accounts info bytes t2 t3 answer → (answer ≡ Signed reply) ⊎ (answer ≡ Plain reply) → 0 < length reply
answer_some accounts info bytes t2 t3 answer reply answers is =
    reply_some accounts info bytes t2 t3 reply (replied accounts info bytes t2 t3 answer reply answers is).1
