-- The command `/sign`: what a run asks of the devices and leaves there, for each answer.
use Rattle.std.specs.Prelude.{◌≡◌, ◌<◌, ℕ, ℤ, List, [], ◌∷◌, length, take, Some, None}
use Rattle.base_specs.specs.Counts.{Fails}
use Rattle.base_specs.specs.Told.{Added, Took}
use Rattle.edge_traits.specs.Clock.{GaveReadings}
use Rattle.key_book.specs.declared.account.Account.{Account}
use Rattle.dc_sign.specs.declared.outcome.Refusal.{Refusal}
use Rattle.dc_sign.specs.declared.info.ServerInfo.{ServerInfo}
use Rattle.dc_sign.specs.Readings.{GaveFewer}
use Rattle.dc_sign.specs.Reply.{refusal_of, IsReplyOf}
use Rattle.dc_sign.specs.Info.{IsLocalInfo}
use Rattle.w32tm_text.specs.declared.status.Status.{Status}
use Rattle.w32tm_text.specs.declared.status.Status.TheVariants.{Done, ReadFault, WriteFault, ClockFault, BadRequest}
use Rattle.edge_seen.specs.Seen.{Seen}
use Rattle.w32tm_cmd.specs.Seen.{ReadsInput, IsOutIdle, IsClockIdle, HasNoFault}

-- the most bytes that are read of a request, one more than a datagram holds
abbrev pub request_limit : ℕ
request_limit = 257

-- the request was read, and the clock gave these two readings; no correction was made
pub record TakesRequest (before now : Seen) (input : List ℕ) (t2 t3 : ℤ) : Type 0 where
  pub read : ReadsInput request_limit before now input
  pub readings : GaveReadings before.clock now.clock (t2 ∷ t3 ∷ [])
  pub no_clock_fault : now.clock_faults ≡ before.clock_faults

-- this is the reply of a controller whose one account and whose own clock these are
pub record Prepares (account : Account) (before now : Seen) (reply : List ℕ) : Type 0 where
  pub input : List ℕ
  pub t2 : ℤ
  pub t3 : ℤ
  pub info : ServerInfo
  pub takes : TakesRequest before now input t2 t3
  pub accepted : refusal_of (account ∷ []) input ≡ None
  pub local : IsLocalInfo t2 info
  pub is_reply : IsReplyOf (account ∷ []) info input t2 t3 reply

-- the reply was written
pub record Replies (account : Account) (before now : Seen) : Type 0 where
  pub reply : List ℕ
  pub prepared : Prepares account before now reply
  pub bytes : Added before.written now.written reply
  pub no_fault : now.write_faults ≡ before.write_faults

-- the write of the reply failed, and some front of it was written
pub record FailsToReply (account : Account) (before now : Seen) : Type 0 where
  pub reply : List ℕ
  pub front : ℕ
  pub prepared : Prepares account before now reply
  pub bytes : Added before.written now.written (take front reply)
  pub cause : Fails before.write_faults now.write_faults

-- the request was refused, and nothing was written
pub record Refuses (account : Account) (before now : Seen) (reason : Refusal) : Type 0 where
  pub input : List ℕ
  pub t2 : ℤ
  pub t3 : ℤ
  pub takes : TakesRequest before now input t2 t3
  pub refused : refusal_of (account ∷ []) input ≡ Some reason
  pub out : IsOutIdle before now

-- a read that was due failed, and nothing was asked of the other devices
pub record FailsToRead (limit : ℕ) (before now : Seen) : Type 0 where
  pub input : List ℕ
  pub took : Took before.left now.left input
  pub due : length input < limit
  pub cause : Fails before.read_faults now.read_faults
  pub clock : IsClockIdle before now
  pub out : IsOutIdle before now

-- the request was read, then the first or the second reading failed, and nothing was written
pub record FailsToTell (before now : Seen) : Type 0 where
  pub input : List ℕ
  pub read : ReadsInput request_limit before now input
  pub readings : GaveFewer 2 before.clock now.clock
  pub cause : Fails before.clock_faults now.clock_faults
  pub out : IsOutIdle before now

-- what each answer of `/sign` says
abbrev pub Signs : Account → Seen → Seen → Status → Type 0
Signs account before now Done = Replies account before now
Signs account before now ReadFault = FailsToRead request_limit before now
Signs account before now WriteFault = FailsToReply account before now
Signs account before now ClockFault = FailsToTell before now
Signs account before now (BadRequest reason) = Refuses account before now reason
Signs account before now _ = ⊥

-- The bytes on the input decide: the answer is a refusal exactly for the reason that they give, unless a read or a
-- reading failed first.
abbrev pub DecidesBy : Account → List ℕ → Status → Type 0
DecidesBy account bytes Done = refusal_of (account ∷ []) bytes ≡ None
DecidesBy account bytes ReadFault = Unit {0}
DecidesBy account bytes WriteFault = refusal_of (account ∷ []) bytes ≡ None
DecidesBy account bytes ClockFault = Unit {0}
DecidesBy account bytes (BadRequest reason) = refusal_of (account ∷ []) bytes ≡ Some reason
DecidesBy account bytes _ = ⊥

-- an answer that `/sign` can give
abbrev pub IsSignAnswer : Status → Type 0
IsSignAnswer Done = Unit {0}
IsSignAnswer ReadFault = Unit {0}
IsSignAnswer WriteFault = Unit {0}
IsSignAnswer ClockFault = Unit {0}
IsSignAnswer (BadRequest reason) = Unit {0}
IsSignAnswer _ = ⊥

-- where the input tells its bytes, they decide
abbrev pub IsSignExact : Account → Seen → Status → Type 0
IsSignExact account before result = (bytes : List ℕ) → before.left ≡ Some bytes → DecidesBy account bytes result

-- where the input tells its bytes, no call failed and they are not refused, the reply is written
abbrev pub IsSignComplete : Account → Seen → Seen → Status → Type 0
IsSignComplete account before now result = (bytes : List ℕ) → before.left ≡ Some bytes → HasNoFault before now
    → refusal_of (account ∷ []) bytes ≡ None → result ≡ Done

-- where the input tells its bytes and no call failed, they are refused for their reason
abbrev pub IsSignRefusal : Account → Seen → Seen → Status → Type 0
IsSignRefusal account before now result = (bytes : List ℕ) (reason : Refusal) → before.left ≡ Some bytes
    → HasNoFault before now → refusal_of (account ∷ []) bytes ≡ Some reason → result ≡ BadRequest reason

-- all that `/sign` promises of what is told
pub record SignPromise (account : Account) (before now : Seen) (result : Status) : Type 0 where
  pub runs : Signs account before now result
  pub answers : IsSignAnswer result
  pub exact : IsSignExact account before result
  pub complete : IsSignComplete account before now result
  pub refused : IsSignRefusal account before now result
