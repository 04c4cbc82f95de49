-- What one turn does with link and clock.
use Rattle.std.proofs.Common.{◌≡◌, ℕ, ℤ, List, [], ◌∷◌, Option, refl, sym, subst}
use Rattle.base_specs.specs.Counts.{FailsTimes}
use Rattle.base_specs.proofs.Counting.{fails_more}
use Rattle.base_specs.specs.Told.{Grew}
use Rattle.base_specs.proofs.Telling.{grew_more}
use Rattle.edge_traits.specs.Clock.{GaveReadings}
use Rattle.edge_traits.specs.Link.{LinkCall, Receive, ReceiptCounts, Send, failed_calls}
use Rattle.edge_traits.specs.Sink.{PutCounts}
use Rattle.edge_traits.specs.declared.datagram.Addr.{Addr}
use Rattle.edge_traits.specs.declared.link.Receipt.{Receipt}
use Rattle.edge_traits.specs.declared.link.Receipt.TheVariants as receipt
use Rattle.edge_traits.specs.declared.link.Tried.{Tried}
use Rattle.edge_traits.proofs.Clocks.{gave_none}
use Rattle.edge_traits.proofs.Links.{failed_calls-append, receive_counts, send_counts}
use Rattle.edge_seen.specs.Seen.{Seen}
use Rattle.key_book.specs.declared.account.Account.{Account}
use Rattle.dc_sign.specs.declared.info.ServerInfo.{ServerInfo}
use Rattle.dc_sign.specs.declared.outcome.Answer.{Answer}
use Rattle.dc_sign.specs.declared.outcome.Answer.TheVariants as answer
use Rattle.dc_sign.specs.declared.tally.TurnOutcome.{TurnOutcome}
use Rattle.dc_sign.specs.declared.tally.TurnOutcome.TheVariants as outcome
use Rattle.dc_sign.specs.Info.{IsLocalInfo}
use Rattle.dc_sign.specs.Reply.{Answers}
use Rattle.dc_sign.specs.Sending.{Sends}
use Rattle.dc_sign.specs.Turns.{TakesOne}

-- a receive, and a send behind it
received_and_sent : (given : Receipt) (sent : Tried) (before mid now : ℕ) → ReceiptCounts given before mid → PutCounts sent.put mid now
    → FailsTimes (failed_calls (Receive given ∷ Send sent ∷ [])) before now
received_and_sent given sent before mid now received put =
    subst (λ (n : ℕ). FailsTimes n before now) (sym (failed_calls-append (Receive given ∷ []) (Send sent ∷ [])))
    (fails_more (failed_calls (Receive given ∷ [])) (failed_calls (Send sent ∷ [])) before mid now (receive_counts given before mid received) (send_counts sent mid now put))

-- ---- One turn

-- no datagram came
pub quiet_turn : (accounts : List Account) (before now : Seen) → Grew before.link now.link (Receive receipt.Quiet ∷ []) → ReceiptCounts receipt.Quiet before.link_faults now.link_faults
    → now.clock ≡ before.clock → now.clock_faults ≡ before.clock_faults → TakesOne accounts before now outcome.Quiet
quiet_turn accounts before now gave counts clock no_fault = record {
  turn = record { receipt = receipt.Quiet; readings = []; sends = []; outcome = outcome.Quiet };
  is = refl;
  takes = record {
    is_turn = record { got = refl; read = refl; sent = refl };
    told = gave;
    read = rw clock (gave_none before.clock);
    link_failed = receive_counts receipt.Quiet before.link_faults now.link_faults counts;
    no_clock_fault = no_fault;
  };
}

-- the receive failed
pub lost_turn : (accounts : List Account) (before now : Seen) → Grew before.link now.link (Receive receipt.Failed ∷ []) → ReceiptCounts receipt.Failed before.link_faults now.link_faults
    → now.clock ≡ before.clock → now.clock_faults ≡ before.clock_faults → TakesOne accounts before now outcome.Lost
lost_turn accounts before now gave counts clock no_fault = record {
  turn = record { receipt = receipt.Failed; readings = []; sends = []; outcome = outcome.Lost };
  is = refl;
  takes = record {
    is_turn = record { got = refl; read = refl; sent = refl };
    told = gave;
    read = rw clock (gave_none before.clock);
    link_failed = receive_counts receipt.Failed before.link_faults now.link_faults counts;
    no_clock_fault = no_fault;
  };
}

-- a datagram came, and was answered
pub answered_turn : (accounts : List Account) (info : ServerInfo) (from : Addr) (request : List ℕ) (t2 t3 : ℤ) (given : Answer) (result : TurnOutcome)
    (before now : Seen) (link : Option (List LinkCall)) (link_faults : ℕ)
    → Grew before.link link (Receive (receipt.Got from request) ∷ []) → ReceiptCounts (receipt.Got from request) before.link_faults link_faults
    → GaveReadings before.clock now.clock (t2 ∷ t3 ∷ []) → now.clock_faults ≡ before.clock_faults
    → IsLocalInfo t2 info → Answers accounts info request t2 t3 given → Sends from given link now.link link_faults now.link_faults result
    → TakesOne accounts before now result
answered_turn accounts info from request t2 t3 (answer.Signed reply) result before now link link_faults gave counts read no_fault local answers sends =
    let got = Receive (receipt.Got from request) ∷ [] in
    let sent : Tried = record { to = from; bytes = reply; put = sends.put } in
    record {
      turn = record { receipt = receipt.Got from request; readings = t2 ∷ t3 ∷ []; sends = sent ∷ []; outcome = outcome.Signed sends.put };
      is = sym sends.is;
      takes = record {
        is_turn = record {
          from = from;
          request = request;
          reply = reply;
          t2 = t2;
          t3 = t3;
          info = info;
          got = refl;
          read = refl;
          local = local;
          answers = answers;
          sent = refl;
        };
        told = grew_more before.link link now.link got (Send sent ∷ []) gave sends.told;
        read = read;
        link_failed = received_and_sent (receipt.Got from request) sent before.link_faults link_faults now.link_faults counts sends.counts;
        no_clock_fault = no_fault;
      };
    }
answered_turn accounts info from request t2 t3 (answer.Plain reply) result before now link link_faults gave counts read no_fault local answers sends =
    let got = Receive (receipt.Got from request) ∷ [] in
    let sent : Tried = record { to = from; bytes = reply; put = sends.put } in
    record {
      turn = record { receipt = receipt.Got from request; readings = t2 ∷ t3 ∷ []; sends = sent ∷ []; outcome = outcome.Plain sends.put };
      is = sym sends.is;
      takes = record {
        is_turn = record {
          from = from;
          request = request;
          reply = reply;
          t2 = t2;
          t3 = t3;
          info = info;
          got = refl;
          read = refl;
          local = local;
          answers = answers;
          sent = refl;
        };
        told = grew_more before.link link now.link got (Send sent ∷ []) gave sends.told;
        read = read;
        link_failed = received_and_sent (receipt.Got from request) sent before.link_faults link_faults now.link_faults counts sends.counts;
        no_clock_fault = no_fault;
      };
    }
answered_turn accounts info from request t2 t3 (answer.Refused reason) result before now link link_faults gave counts read no_fault local answers sends =
    let got = Receive (receipt.Got from request) ∷ [] in
    let Told : Option (List LinkCall) → Type 0 = λ (told : Option (List LinkCall)). Grew before.link told got in
    let Failed : ℕ → Type 0 = λ (faults : ℕ). FailsTimes 0 before.link_faults faults in
    record {
      turn = record { receipt = receipt.Got from request; readings = t2 ∷ t3 ∷ []; sends = []; outcome = outcome.Refused reason };
      is = sym sends.is;
      takes = record {
        is_turn = record { from = from; request = request; t2 = t2; t3 = t3; got = refl; read = refl; refused = answers; sent = refl };
        told = subst Told (sym sends.told) gave;
        read = read;
        link_failed = subst Failed (sym sends.no_fault) (receive_counts (receipt.Got from request) before.link_faults link_faults counts);
        no_clock_fault = no_fault;
      };
    }
