-- What a client asks in one session, and what it is told.
use Rattle.std.specs.Prelude.{◌≡◌, ◌≢◌, ℕ, ◌+◌, true, false, List, [], ◌∷◌, ◌++◌, length, drop, Option, Some, None, Result, Ok, Err}
use Rattle.base_specs.specs.Counts.{Fails}
use Rattle.base_specs.specs.Told.{Grew}
use Rattle.edge_traits.specs.Wire.{Entry, Failed, NoMore, Session, SessionTold, Written, fresh}
use Rattle.rpc_pdu.specs.declared.fault.PduFault.{PduFault}
use Rattle.rpc_pdu.specs.declared.fault.PduFault.TheVariants as fault
use Rattle.rpc_pdu.specs.declared.pdu.Pdu.{Pdu}
use Rattle.rpc_pdu.specs.Header.{header_of}
use Rattle.rpc_pdu.specs.Pdu.{first_pdu, pdu_len}
use Rattle.w32t_calls.specs.declared.call.Call.{Call}
use Rattle.w32t_calls.specs.declared.call.Call.TheVariants as call
use Rattle.w32t_calls.specs.declared.call.Given.{Given}
use Rattle.w32t_calls.specs.declared.call.Given.TheVariants as given
use Rattle.w32t_calls.specs.declared.call_fault.CallFault.{CallFault}
use Rattle.w32t_calls.specs.declared.call_fault.CallFault.TheVariants as call_fault
use Rattle.w32t_calls.specs.Asking.{bind_pdu, call_pdu}
use Rattle.w32t_calls.specs.Replies.{SourceTold, and_if, bind_told, word_told}
use Rattle.w32t_calls.specs.Serving.{written_at}
use Rattle.w32t_calls.specs.Standing.{IsCutShort}
use Rattle.client_run.specs.declared.asking.AskFault.{AskFault}
use Rattle.client_run.specs.declared.asking.AskFault.TheVariants as ask

-- ---- Where the two replies stand

-- How many bytes are taken of a reply, by what stands first in the bytes: those of a whole PDU, of the header alone where
-- that is at fault, and all that are left of one that breaks off.
abbrev pub reply_len : Result (Option Pdu) PduFault → List ℕ → ℕ
reply_len (Ok (Some pdu)) bytes = pdu_len pdu
reply_len (Ok None) bytes = 0
reply_len (Err (fault.BadVersion at)) bytes = 16
reply_len (Err (fault.BadType at)) bytes = 16
reply_len (Err (fault.BadFragment at)) bytes = 16
reply_len (Err (fault.BadDrep at)) bytes = 16
reply_len (Err (fault.BadLength at)) bytes = 16
reply_len (Err (fault.BadAuth at)) bytes = 16
reply_len (Err (fault.BadBody at)) bytes = (header_of bytes).fragment_len
reply_len (Err (fault.Torn at)) bytes = length bytes
reply_len (Err fault.ReadFault) bytes = 0

-- where the reply to the call begins: after the reply to the bind
abbrev pub reply_at : List ℕ → ℕ
reply_at bytes = reply_len (first_pdu 0 bytes) bytes

-- the bytes from there on
abbrev pub behind_bind : List ℕ → List ℕ
behind_bind bytes = drop (reply_at bytes) bytes

-- what the reply to the call is
abbrev pub second_pdu : List ℕ → Result (Option Pdu) PduFault
second_pdu bytes = first_pdu (reply_at bytes) (behind_bind bytes)

-- whether these bytes accept the bind
abbrev pub bound : List ℕ → Result (Unit {0}) CallFault
bound bytes = bind_told 0 (first_pdu 0 bytes)

-- ---- What the bytes of a session lead to

-- what is written, each with how many bytes were taken before it: the bind, and after a reply that accepts it the call
abbrev pub writes_if : Call → List ℕ → Result (Unit {0}) CallFault → List Written
writes_if call bytes (Ok done) = written_at 0 bind_pdu ∷ written_at (reply_at bytes) (call_pdu 2 call) ∷ []
writes_if call bytes (Err why) = written_at 0 bind_pdu ∷ []

abbrev pub due_writes : Call → List ℕ → List Written
due_writes call bytes = writes_if call bytes (bound bytes)

-- how many bytes are taken: those of the reply to the bind, and where it is accepted those of the reply to the call
abbrev pub taken_if : List ℕ → Result (Unit {0}) CallFault → ℕ
taken_if bytes (Ok done) = reply_at bytes + reply_len (second_pdu bytes) (behind_bind bytes)
taken_if bytes (Err why) = reply_at bytes

abbrev pub due_taken : List ℕ → ℕ
due_taken bytes = taken_if bytes (bound bytes)

-- what the call is told by what stands first at this place
abbrev pub AnswerIs : Call → ℕ → Result (Option Pdu) PduFault → Result Given CallFault → Type 0
AnswerIs (call.Sync wait flags) place first told = told ≡ and_if (word_told 2 place first) (λ result. Ok (given.Synced result))
AnswerIs call.Bits place first told = told ≡ and_if (word_told 2 place first) (λ bits. Ok (given.Bits bits))
AnswerIs call.Source place first told =
    (source : Result (List ℕ) CallFault) × SourceTold 2 place first source
    × (told ≡ and_if source (λ name. Ok (given.Source name)))

-- what these bytes tell: why the bind isn't accepted, or else the answer to the call
abbrev pub TellsIf : Call → List ℕ → Result Given CallFault → Result (Unit {0}) CallFault → Type 0
TellsIf call bytes told (Ok done) = AnswerIs call (reply_at bytes) (second_pdu bytes) told
TellsIf call bytes told (Err why) = told ≡ Err why

abbrev pub Tells : Call → List ℕ → Result Given CallFault → Type 0
Tells call bytes told = TellsIf call bytes told (bound bytes)

-- ---- How a session ends

-- All bytes of the session tell this. So many of them were taken as the replies have, and the bind and the call were
-- written, or the bind alone where it isn't accepted.
pub record IsTold (call : Call) (told : Result Given CallFault) (session : SessionTold) : Type 0 where
  pub tells : Tells call (session.taken ++ session.left) told
  pub writes : session.writes ≡ due_writes call (session.taken ++ session.left)
  pub taken : length session.taken ≡ due_taken (session.taken ++ session.left)
  pub no_read : session.read_failed ≡ false
  pub no_write : session.write_failed ≡ false

-- A read failed: the reply that was due broke off in the bytes taken, and what these bytes lead to was written.
pub record IsUnread (call : Call) (session : SessionTold) : Type 0 where
  pub torn : Tells call session.taken (Err call_fault.Torn)
  pub writes : session.writes ≡ due_writes call session.taken
  pub read : session.read_failed ≡ true
  pub no_write : session.write_failed ≡ false

-- A write failed: that of the bind, or that of the call after the reply that accepts the bind, and a front of it was written.
pub record IsUnwritten (call : Call) (session : SessionTold) : Type 0 where
  pub cut : IsCutShort session.writes (due_writes call session.taken) (length session.taken)
  pub write : session.write_failed ≡ true
  pub no_read : session.read_failed ≡ false

-- how a session ends in which a call comes to this
abbrev pub CallEnds : Call → Result Given CallFault → SessionTold → Type 0
CallEnds call (Ok given) session = IsTold call (Ok given) session
CallEnds call (Err call_fault.Nak) session = IsTold call (Err call_fault.Nak) session
CallEnds call (Err call_fault.Rejected) session = IsTold call (Err call_fault.Rejected) session
CallEnds call (Err (call_fault.Fault status)) session = IsTold call (Err (call_fault.Fault status)) session
CallEnds call (Err (call_fault.BadReply place)) session = IsTold call (Err (call_fault.BadReply place)) session
CallEnds call (Err call_fault.Torn) session = IsTold call (Err call_fault.Torn) session
CallEnds call (Err call_fault.ReadFault) session = IsUnread call session
CallEnds call (Err call_fault.WriteFault) session = IsUnwritten call session

-- the session that was just opened, where the wire tells it, ends so
abbrev pub Talks : Call → Result Given CallFault → Option (List Entry) → Option (List Entry) → Type 0
Talks call result old new =
    (before : Option (List Entry)) (left : List ℕ) → Grew before old (Session (fresh left) ∷ [])
    → (session : SessionTold) × Grew before new (Session session ∷ []) × CallEnds call result session

-- ---- The answer

-- what a fault of a call is answered as
abbrev pub asked_fault : CallFault → AskFault
asked_fault call_fault.Nak = ask.Refused
asked_fault call_fault.Rejected = ask.Refused
asked_fault (call_fault.Fault status) = ask.Refused
asked_fault (call_fault.BadReply place) = ask.Refused
asked_fault call_fault.Torn = ask.Refused
asked_fault call_fault.ReadFault = ask.ReadFault
asked_fault call_fault.WriteFault = ask.WriteFault

-- How a session ends after which this is answered; one of five faults of a call is the refusal.
abbrev pub EndsBy : Call → Result Given AskFault → SessionTold → Type 0
EndsBy call (Ok given) session = IsTold call (Ok given) session
EndsBy call (Err ask.Refused) session =
    (why : CallFault) × (asked_fault why ≡ ask.Refused) × IsTold call (Err why) session
EndsBy call (Err ask.ReadFault) session = IsUnread call session
EndsBy call (Err ask.WriteFault) session = IsUnwritten call session

-- what is answered, by what the request for a session gave
abbrev pub AskEnds : Call → Result Given AskFault → Entry → Type 0
AskEnds call result (Session told) = EndsBy call result told
AskEnds call result NoMore = result ≡ Err ask.Refused
AskEnds call result Failed = result ≡ Err ask.ReadFault

-- one session was asked for, and it ended so
pub record AsksOnce (call : Call) (result : Result Given AskFault) (old new : Option (List Entry)) : Type 0 where
  pub entry : Entry
  pub one : Grew old new (entry ∷ [])
  pub ends : AskEnds call result entry

-- A read or a request that failed raises the one count, a write that failed the other, and no other answer does.
pub record AskCounts (result : Result Given AskFault) (reads reads_now writes writes_now : ℕ) : Type 0 where
  pub read : result ≡ Err ask.ReadFault → Fails reads reads_now
  pub no_read : result ≢ Err ask.ReadFault → reads_now ≡ reads
  pub write : result ≡ Err ask.WriteFault → Fails writes writes_now
  pub no_write : result ≢ Err ask.WriteFault → writes_now ≡ writes
