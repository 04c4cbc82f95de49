-- What the server's side of a session keeps, and what its calls do.
use Rattle.std.specs.Prelude.{◌≡◌, ◌≢◌, ◌⊎◌, ℕ, ◌-◌, ◌≤◌, Bool, true, List, [], ◌∷◌, ◌++◌, length, take, Option, Some, None, Result, Ok, Err}
use Rattle.base_specs.specs.Counts.{Fails}
use Rattle.base_specs.specs.Told.{LastIs, LastTold}
use Rattle.edge_traits.specs.Wire.{Entry, SessionChanged, SessionIs, SessionTold, Written}
use Rattle.rpc_pdu.specs.Reader.{Reader}
use Rattle.w32t_calls.specs.declared.asked.Asked.{Asked}
use Rattle.w32t_calls.specs.declared.call.Call.{Call}
use Rattle.w32t_calls.specs.declared.call.Given.{Given}
use Rattle.w32t_calls.specs.declared.end.SessionEnd.{SessionEnd}
use Rattle.w32t_calls.specs.declared.end.SessionEnd.TheVariants as end
use Rattle.w32t_calls.specs.Serving.{Served, and_then, at_call, most_pdus, served, session_of}
use Rattle.w32t_calls.specs.Stubs.{AnswersCall}

-- Whether a call may follow, where the next PDU begins, the contexts that are accepted, how many PDUs were taken, and the
-- call that waits for its answer.
pub record Server : Type 0 where
  pub alive : Bool
  pub reader : Reader
  pub accepted : List ℕ
  pub pdus : ℕ
  pub waiting : Option Asked

-- no call has answered an error, and none waits for its answer
abbrev pub IsIdle : Server → Type 0
IsIdle server = (server.alive ≡ true) × (server.waiting ≡ None)

-- no call has answered an error, and one waits that this answers
abbrev pub Awaits : Given → Server → Type 0
Awaits given server =
    (server.alive ≡ true) × ((asked : Asked) × (server.waiting ≡ Some asked) × AnswersCall given asked.call)

-- what the bytes that are still to come, and the answers still to be given, come to
abbrev pub goes_on_from : Server → Option Asked → List ℕ → List Given → Served
goes_on_from server None bytes answers =
    served (most_pdus - server.pdus) server.reader.place server.accepted bytes answers
goes_on_from server (Some asked) bytes answers =
    at_call (served (most_pdus - server.pdus) server.reader.place server.accepted bytes)
    server.reader.place asked answers

abbrev pub goes_on : Server → List ℕ → List Given → Served
goes_on server bytes answers = goes_on_from server server.waiting bytes answers

-- The server stands for these bytes and these answers: whatever is still to come, the session comes to what they came
-- to, and then to what the server makes of the rest.
pub record StandsFor (server : Server) (bytes : List ℕ) (answers : List Given) : Type 0 where
  pub place : server.reader.place ≡ length bytes
  pub comes : (rest : List ℕ) (more : List Given)
      → session_of (bytes ++ rest) (answers ++ more) ≡ and_then (session_of bytes answers) (goes_on server rest more)

-- The server stands for what was taken of the session opened last, and for these answers, and what was written to it is
-- just what they come to.
abbrev pub HasServed : List Given → Server → Option (List Entry) → Type 0
HasServed answers server told =
    LastIs (SessionIs (λ session. StandsFor server session.taken answers
    × (session.writes ≡ (session_of session.taken answers).writes))) told

-- nothing was taken yet of the session opened last, and nothing written to it
abbrev pub IsNewSession : Option (List Entry) → Type 0
IsNewSession told = LastIs (SessionIs (λ session. (session.taken ≡ []) × (session.writes ≡ []))) told

-- These bytes were taken of the session: what was taken and what is left make up the same bytes as before.
pub record TookFrom (before now : SessionTold) : Type 0 where
  pub bytes : List ℕ
  pub left : before.left ≡ bytes ++ now.left
  pub taken : now.taken ≡ before.taken ++ bytes

-- A session is marked by a read or a write that failed exactly where the answer says so; else its marks stay.
pub record Marks {A : Type 0} (result : Result A SessionEnd) (before now : SessionTold) : Type 0 where
  pub read : result ≡ Err end.ReadFault → now.read_failed ≡ true
  pub no_read : result ≢ Err end.ReadFault → now.read_failed ≡ before.read_failed
  pub write : result ≡ Err end.WriteFault → now.write_failed ≡ true
  pub no_write : result ≢ Err end.WriteFault → now.write_failed ≡ before.write_failed

-- a write of these bytes after so many were taken, and none where there is no byte
abbrev pub front_of : ℕ → List ℕ → List Written
front_of place [] = []
front_of place (byte ∷ bytes) = record { behind = place; bytes = byte ∷ bytes } ∷ []

-- Some front of the writes that were due was made: all but the last, and of that one a front, with so many bytes taken.
pub record IsCutShort (made due : List Written) (taken : ℕ) : Type 0 where
  pub earlier : List Written
  pub last : Written
  pub count : ℕ
  pub all : due ≡ earlier ++ last ∷ []
  pub place : last.behind ≡ taken
  pub within : count ≤ length last.bytes
  pub front : made ≡ earlier ++ front_of last.behind (take count last.bytes)

-- The session ended so: its bytes and the answers come to that, whatever is left of them; that was written, and so much
-- was taken.
pub record HasEnded (why : SessionEnd) (answers : List Given) (session : SessionTold) : Type 0 where
  pub end : (session_of session.taken answers).end ≡ Err why
  pub place : length session.taken ≡ (session_of session.taken answers).place
  pub whole : session_of (session.taken ++ session.left) answers ≡ session_of session.taken answers
  pub writes : session.writes ≡ (session_of session.taken answers).writes

-- How the session stands after this answer of `next`. After a failed read that was written which the bytes taken come
-- to, and they aren't all of it; after a failed write a front of that was written.
abbrev pub Stands : Result Call SessionEnd → List Given → Server → SessionTold → Type 0
Stands (Ok call) answers server now =
    StandsFor server now.taken answers
    × ((session_of now.taken answers).end ≡ Ok call)
    × (now.writes ≡ (session_of now.taken answers).writes)
Stands (Err end.Ended) answers server now = HasEnded end.Ended answers now × (now.left ≡ [])
Stands (Err end.Torn) answers server now = HasEnded end.Torn answers now × (now.left ≡ [])
Stands (Err end.BadPdu) answers server now = HasEnded end.BadPdu answers now
Stands (Err end.Spent) answers server now = HasEnded end.Spent answers now
Stands (Err end.ReadFault) answers server now =
    (now.writes ≡ (session_of now.taken answers).writes)
    × (((session_of now.taken answers).end ≡ Err end.Ended) ⊎ ((session_of now.taken answers).end ≡ Err end.Torn))
Stands (Err end.WriteFault) answers server now =
    IsCutShort now.writes (session_of now.taken answers).writes (length now.taken)

-- the call that an answer hands out
abbrev pub handed_out : Result Call SessionEnd → List Call
handed_out (Ok call) = call ∷ []
handed_out (Err why) = []

-- An answer of `next`: what was taken, the marks, that what was taken asks for one call more exactly where one is handed
-- out, and how the session stands after it.
pub record Serves (result : Result Call SessionEnd) (answers : List Given) (server : Server)
    (before now : SessionTold) : Type 0 where
  pub took : TookFrom before now
  pub marks : Marks result before now
  pub calls : (session_of now.taken answers).calls
      ≡ (session_of before.taken answers).calls ++ handed_out result
  pub stands : Stands result answers server now

-- the open session was served on with this answer
abbrev pub ServesOn : Result Call SessionEnd → List Given → Server → Option (List Entry) → Option (List Entry) → Type 0
ServesOn result answers server old new = LastTold (SessionChanged (Serves result answers server)) old new

-- How the session stands after this answer of `reply`, with these answers: the response was written, or a front of it.
abbrev pub StandsAnswered : Result (Unit {0}) SessionEnd → List Given → Server → SessionTold → Type 0
StandsAnswered (Ok done) answers server now =
    StandsFor server now.taken answers × (now.writes ≡ (session_of now.taken answers).writes)
StandsAnswered (Err why) answers server now =
    IsCutShort now.writes (session_of now.taken answers).writes (length now.taken)

-- An answer of `reply`: no byte was taken, the marks, and how the session stands after it.
pub record Replies (result : Result (Unit {0}) SessionEnd) (answers : List Given) (server : Server)
    (before now : SessionTold) : Type 0 where
  pub left : now.left ≡ before.left
  pub taken : now.taken ≡ before.taken
  pub marks : Marks result before now
  pub stands : StandsAnswered result answers server now

-- the open session was replied to with this answer
abbrev pub Replied : Result (Unit {0}) SessionEnd → List Given → Server → Option (List Entry) → Option (List Entry) → Type 0
Replied result answers server old new = LastTold (SessionChanged (Replies result answers server)) old new

-- a read that failed raises the one count, a write that failed the other, and no other answer does
pub record ServeCounts {A : Type 0} (result : Result A SessionEnd) (reads reads_now writes writes_now : ℕ) : Type 0 where
  pub read : result ≡ Err end.ReadFault → Fails reads reads_now
  pub no_read : result ≢ Err end.ReadFault → reads_now ≡ reads
  pub write : result ≡ Err end.WriteFault → Fails writes writes_now
  pub no_write : result ≢ Err end.WriteFault → writes_now ≡ writes

-- a response's write that failed raises the count, and it is the one error
abbrev pub ReplyCounts : Result (Unit {0}) SessionEnd → ℕ → ℕ → Type 0
ReplyCounts (Ok done) before now = now ≡ before
ReplyCounts (Err why) before now = (why ≡ end.WriteFault) × Fails before now
