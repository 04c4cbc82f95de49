-- What a link tells over several calls.
use Rattle.std.proofs.Common.{◌≡◌, ℕ, ◌+◌, List, [], ◌∷◌, ◌++◌, map, sym, subst, ap, refl}
use Rattle.std.proofs.lemmas.Grind.{flat_map-append}
use Rattle.std.proofs.lemmas.List.Sums.{sum_by-append}
use Rattle.base_specs.specs.Counts.{FailsTimes}
use Rattle.base_specs.proofs.Counting.{fails_none, fails_once}
use Rattle.edge_traits.specs.declared.link.Receipt.{Receipt}
use Rattle.edge_traits.specs.declared.link.Tried.{Tried}
use Rattle.edge_traits.specs.Link.{LinkCall, Send, Receive, ReceiptCounts, failed_calls, receipts_among, receipts_by, sends_among, sends_by}
use Rattle.edge_traits.specs.declared.link.Receipt.TheVariants as receipt
use Rattle.edge_traits.specs.declared.sink.Put.{Put}
use Rattle.edge_traits.specs.declared.sink.Put.TheVariants as write
use Rattle.edge_traits.specs.Sink.{PutCounts}
use Rattle.edge_traits.specs.declared.datagram.Addr.{Addr}

-- the calls that failed in one part of a run, and those in the next
pub failed_calls-append : (xs ys : List LinkCall) → failed_calls (xs ++ ys) ≡ failed_calls xs + failed_calls ys
failed_calls-append xs ys = sum_by-append _ xs ys

-- and so with the sends
pub sends_among-append : (xs ys : List LinkCall) → sends_among (xs ++ ys) ≡ sends_among xs ++ sends_among ys
sends_among-append xs ys = flat_map-append sends_by xs ys

-- and so with the receipts
pub receipts_among-append : (xs ys : List LinkCall) → receipts_among (xs ++ ys) ≡ receipts_among xs ++ receipts_among ys
receipts_among-append xs ys = flat_map-append receipts_by xs ys

-- calls that are sends alone
pub sends_among-sends : (tried : List Tried) → sends_among (map Send tried) ≡ tried
sends_among-sends [] = refl
sends_among-sends (t ∷ tried) = ap (λ (l : List Tried). t ∷ l) (sends_among-sends tried)

pub receipts_among-sends : (tried : List Tried) → receipts_among (map Send tried) ≡ []
receipts_among-sends [] = refl
receipts_among-sends (t ∷ tried) = receipts_among-sends tried

-- one receive raises the count as often as it failed
pub receive_counts : (given : Receipt) (before now : ℕ) → ReceiptCounts given before now → FailsTimes (failed_calls (Receive given ∷ [])) before now
receive_counts (receipt.Got from bytes) before now same = subst (λ (count : ℕ). FailsTimes 0 before count) (sym same) (fails_none before)
receive_counts receipt.Quiet before now same = subst (λ (count : ℕ). FailsTimes 0 before count) (sym same) (fails_none before)
receive_counts receipt.Failed before now fails = fails_once before now fails

put_counts : (to : Addr) (bytes : List ℕ) (put : Put) (before now : ℕ) → PutCounts put before now
    → FailsTimes (failed_calls (Send (record { to = to; bytes = bytes; put = put }) ∷ [])) before now
put_counts to bytes write.Done before now same = subst (λ (count : ℕ). FailsTimes 0 before count) (sym same) (fails_none before)
put_counts to bytes write.Failed before now fails = fails_once before now fails

-- one send raises the count as often as it failed
pub send_counts : (tried : Tried) (before now : ℕ) → PutCounts tried.put before now → FailsTimes (failed_calls (Send tried ∷ [])) before now
send_counts tried before now counts = put_counts tried.to tried.bytes tried.put before now counts
