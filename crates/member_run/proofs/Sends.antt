-- What an outcome sends and moves.
use Rattle.std.proofs.Common.{◌≡◌, ◌≤◌, ℕ, ℤ, List, [], ◌∷◌, length, take, Option, refl, ◌∙◌, subst}
use Rattle.std.proofs.lemmas.List.{take_all}
use Rattle.base_specs.specs.Told.{Grew}
use Rattle.base_specs.proofs.Counting.{fails_none}
use Rattle.base_specs.proofs.Telling.{grew_none}
use Rattle.edge_traits.specs.declared.datagram.Addr.{Addr}
use Rattle.edge_traits.specs.declared.link.Tried.{Tried}
use Rattle.edge_traits.specs.declared.sink.Put.{Put}
use Rattle.edge_traits.specs.declared.sink.Put.TheVariants as write
use Rattle.edge_traits.specs.Clock.{ClockCall, Correct}
use Rattle.edge_traits.specs.Link.{LinkCall, Send, failed_calls}
use Rattle.edge_traits.specs.Sink.{PutCounts}
use Rattle.edge_traits.proofs.Links.{send_counts}
use Rattle.time_machine.specs.declared.outcome.Outcome.TheVariants.{Moved, Started, Sent}
use Rattle.time_machine.specs.declared.outcome.How.{How}
use Rattle.time_machine.specs.Machine.{move_by}
use Rattle.run_deeds.specs.declared.life_end.LifeEnd.{LifeEnd}
use Rattle.run_deeds.specs.Counting.{more}
use Rattle.member_run.specs.Taking.{Acts, Sends, with_put}

-- a request was sent; the link takes the first 256 of its bytes, and it has no more
pub sends : (to : Addr) (bytes whole : List ℕ) (put : Put) (link link' : Option (List LinkCall)) (before now : ℕ) (old new : LifeEnd)
    → bytes ≡ whole → length bytes ≤ 256 → Grew link link' (Send (record { to = to; bytes = take 256 bytes; put = put }) ∷ [])
    → PutCounts put before now → new ≡ with_put put old → Sends to whole link link' before now old new
sends to bytes whole put link link' before now old new is within tried counts counted =
    let front : take 256 bytes ≡ whole = take_all 256 bytes within ∙ is in
    record {
      put = put;
      sends = subst (λ (l : List ℕ). Grew link link' (Send (record { to = to; bytes = l; put = put }) ∷ [])) front tried;
      counts = counts;
      counted = counted;
    }

counted_put : (to : Addr) (bytes : List ℕ) (put : Put) (old : LifeEnd)
    → with_put put old ≡ record old { lost = more old.lost (failed_calls (Send (record { to = to; bytes = bytes; put = put }) ∷ [])) }
counted_put to bytes write.Done old = refl
counted_put to bytes write.Failed old = refl

-- so the link and the clock did as the outcome says
pub acts_sent : (to : Addr) (count : ℕ) (bytes : List ℕ) (link link' : Option (List LinkCall)) (clock : Option (List ClockCall)) (before now : ℕ) (old new : LifeEnd)
    → Sends to bytes link link' before now old new → Acts (Sent to count bytes) link link' clock clock before now old new
acts_sent to count bytes link link' clock before now old new sent =
    let tried : Tried = record { to = to; bytes = bytes; put = sent.put } in
    record {
      tried = tried ∷ [];
      requests = refl;
      sends = sent.sends;
      moves = grew_none clock;
      link_failed = send_counts tried before now sent.counts;
      counted = sent.counted ∙ counted_put to bytes sent.put old;
    }

pub acts_moved : (count : ℕ) (offset : ℤ) (how : How) (link : Option (List LinkCall)) (clock clock' : Option (List ClockCall)) (before : ℕ) (end : LifeEnd)
    → Grew clock clock' (Correct (move_by how offset) ∷ []) → Acts (Moved count offset how) link link clock clock' before before end end
acts_moved count offset how link clock clock' before end moved = record {
  tried = [];
  requests = refl;
  sends = grew_none link;
  moves = moved;
  link_failed = fails_none before;
  counted = refl;
}

-- where nothing is sent or moved
pub acts_not : (mark : ℕ) (link : Option (List LinkCall)) (clock : Option (List ClockCall)) (count : ℕ) (end : LifeEnd) → Acts (Started mark) link link clock clock count count end end
acts_not mark link clock count end = record {
  tried = [];
  requests = refl;
  sends = grew_none link;
  moves = grew_none clock;
  link_failed = fails_none count;
  counted = refl;
}
