-- What a link in memory will do.
use Rattle.std.specs.Prelude.{◌≢◌, ℕ, if◌then◌else◌, List, [], ◌∷◌, ◌++◌, length, drop, nat_lt, Option, Some, None}
use Rattle.base_specs.specs.Counts.{next_count}
use Rattle.edge_traits.specs.declared.link.Receipt.{Receipt}
use Rattle.edge_traits.specs.declared.link.Receipt.TheVariants as receipt
use Rattle.edge_traits.specs.declared.link.Tried.{Tried}
use Rattle.edge_traits.specs.declared.sink.Put.{Put}
use Rattle.edge_traits.specs.declared.sink.Put.TheVariants as write
use Rattle.edge_traits.specs.Link.{LinkCall, Receive, Send, receipts_among, sends_among}
use Rattle.edge_io.specs.Calls.{is_listed}
use Rattle.edge_io.specs.declared.link.LinkEntry.{LinkEntry}
use Rattle.edge_io.specs.declared.link.LinkEntry.TheVariants as entry

-- the call that an entry of the list in memory stands for
abbrev pub link_call : LinkEntry → LinkCall
link_call (entry.Send tried) = Send tried
link_call (entry.Receive given) = Receive given

-- The receipts to come, the calls that the link tells, and how many sends and how many receipts it can tell. Then the numbers
-- of the calls that fail, the calls made, and those of them that failed.
pub record LinkScript : Type 0 where
  pub coming : List Receipt
  pub told : Option (List LinkCall)
  pub room : ℕ
  pub fails : List ℕ
  pub calls : ℕ
  pub faults : ℕ

-- it is no failed receive
abbrev pub IsNoFailure : Receipt → Type 0
IsNoFailure given = given ≢ receipt.Failed

-- a send fails where it is listed
abbrev pub send_answer : LinkScript → Put
send_answer s = if is_listed s.fails (next_count s.calls) then write.Failed else write.Done

-- the first of the receipts to come, and a quiet one behind the last
abbrev pub first_receipt : List Receipt → Receipt
first_receipt [] = receipt.Quiet
first_receipt (given ∷ later) = given

-- A receive that is not to fail gives the next of the receipts to come.
abbrev pub recv_answer : LinkScript → Receipt
recv_answer s = if is_listed s.fails (next_count s.calls) then receipt.Failed else first_receipt s.coming

-- what is told with one more send; where there is no room for it, nothing from then on
abbrev pub with_send : ℕ → Tried → Option (List LinkCall) → Option (List LinkCall)
with_send room tried None = None
with_send room tried (Some calls) =
    if nat_lt (length (sends_among calls)) room then Some (calls ++ Send tried ∷ []) else None

-- what is told with one more receipt; where there is no room for it, nothing from then on
abbrev pub with_receipt : ℕ → Receipt → Option (List LinkCall) → Option (List LinkCall)
with_receipt room given None = None
with_receipt room given (Some calls) =
    if nat_lt (length (receipts_among calls)) room then Some (calls ++ Receive given ∷ []) else None

-- the count of faults behind a send
abbrev pub faults_behind : Put → ℕ → ℕ
faults_behind write.Done faults = faults
faults_behind write.Failed faults = next_count faults

-- what a send leaves
abbrev pub link_sent : Tried → LinkScript → LinkScript
link_sent tried s = record s {
  told = with_send s.room tried s.told;
  calls = next_count s.calls;
  faults = faults_behind tried.put s.faults;
}

-- what a receive leaves
abbrev pub link_received : Receipt → LinkScript → LinkScript
link_received (receipt.Got from bytes) s = record s {
  coming = drop 1 s.coming;
  told = with_receipt s.room (receipt.Got from bytes) s.told;
  calls = next_count s.calls;
}
link_received receipt.Quiet s = record s {
  coming = drop 1 s.coming;
  told = with_receipt s.room receipt.Quiet s.told;
  calls = next_count s.calls;
}
link_received receipt.Failed s = record s {
  told = with_receipt s.room receipt.Failed s.told;
  calls = next_count s.calls;
  faults = next_count s.faults;
}

-- the calls that are told, and none where nothing is
abbrev pub calls_of : Option (List LinkCall) → List LinkCall
calls_of None = []
calls_of (Some calls) = calls

-- the sends that are told
abbrev pub sends_of : Option (List LinkCall) → List Tried
sends_of told = sends_among (calls_of told)
