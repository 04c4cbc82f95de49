-- What a link tells and gives, and what a receive does to the count of faults.
use Rattle.std.specs.Prelude.{◌≡◌, ◌<◌, ◌≤◌, ◌^◌, ℕ, Bool, true, false, List, [], ◌∷◌, All, length, flat_map, ⊤}
use Rattle.std.specs.List.{count_by}
use Rattle.base_specs.specs.Counts.{Fails}
use Rattle.edge_traits.specs.declared.link.Receipt.{Receipt}
use Rattle.edge_traits.specs.declared.link.Receipt.TheVariants as receipt
use Rattle.edge_traits.specs.declared.link.Tried.{Tried}
use Rattle.edge_traits.specs.declared.sink.Put.{Put}
use Rattle.edge_traits.specs.declared.sink.Put.TheVariants as write

-- a call of a link: a send that was tried, or a receive with what it gave
pub data LinkCall : Type 0 where
  Send : (tried : Tried) → LinkCall
  Receive : (receipt : Receipt) → LinkCall

-- an address, a port, and at most 256 bytes
abbrev pub ReceiptFits : Receipt → Type 0
ReceiptFits (receipt.Got from bytes) =
    (from.ip < 2 ^ 32) × (from.port < 2 ^ 16) × (length bytes ≤ 256) × All (λ byte. byte < 256) bytes
ReceiptFits receipt.Quiet = ⊤
ReceiptFits receipt.Failed = ⊤

-- a failed receive raises the count, and no other does
abbrev pub ReceiptCounts : Receipt → ℕ → ℕ → Type 0
ReceiptCounts (receipt.Got from bytes) before now = now ≡ before
ReceiptCounts receipt.Quiet before now = now ≡ before
ReceiptCounts receipt.Failed before now = Fails before now

-- whether a receive failed
abbrev pub is_failed_receipt : Receipt → Bool
is_failed_receipt (receipt.Got from bytes) = false
is_failed_receipt receipt.Quiet = false
is_failed_receipt receipt.Failed = true

-- whether a send failed
abbrev pub is_failed_put : Put → Bool
is_failed_put write.Done = false
is_failed_put write.Failed = true

-- whether a call failed
abbrev pub is_failed_call : LinkCall → Bool
is_failed_call (Send tried) = is_failed_put tried.put
is_failed_call (Receive receipt) = is_failed_receipt receipt

-- how many of these calls failed
abbrev pub failed_calls : List LinkCall → ℕ
failed_calls calls = count_by is_failed_call calls

-- the send that a call tried, if it is one
abbrev pub sends_by : LinkCall → List Tried
sends_by (Send tried) = tried ∷ []
sends_by (Receive receipt) = []

-- the receipt that a call gave, if it is a receive
abbrev pub receipts_by : LinkCall → List Receipt
receipts_by (Send tried) = []
receipts_by (Receive receipt) = receipt ∷ []

-- the sends tried among these calls, in their order
abbrev pub sends_among : List LinkCall → List Tried
sends_among calls = flat_map sends_by calls

-- the receipts given among these calls, in their order
abbrev pub receipts_among : List LinkCall → List Receipt
receipts_among calls = flat_map receipts_by calls
