-- What one PDU of a session does to its server's side: the parts of which `next` is made.
use Rattle.std.specs.Prelude.{◌≡◌, ◌≢◌, ⊤, ℕ, ◌+◌, Bool, List, [], Option, Some, None, Result, Ok, Err}
use Rattle.base_specs.specs.Counts.{Fails}
use Rattle.edge_traits.specs.Wire.{Entry, SessionChanged, SessionTold, WireWrites}
use Rattle.edge_traits.specs.declared.sink.Put.TheVariants as put
use Rattle.rpc_pdu.specs.declared.fault.PduFault.{PduFault}
use Rattle.rpc_pdu.specs.declared.fault.PduFault.TheVariants as fault
use Rattle.rpc_pdu.specs.declared.pdu.Pdu.{Pdu}
use Rattle.rpc_pdu.specs.Pdu.{pdu_bytes}
use Rattle.rpc_pdu.specs.Reader.{Leaves}
use Rattle.base_specs.specs.Told.{LastTold}
use Rattle.w32t_calls.specs.declared.asked.Asked.{Asked}
use Rattle.w32t_calls.specs.declared.call.Call.{Call}
use Rattle.w32t_calls.specs.declared.call.Given.{Given}
use Rattle.w32t_calls.specs.declared.end.SessionEnd.{SessionEnd}
use Rattle.w32t_calls.specs.declared.end.SessionEnd.TheVariants as end
use Rattle.w32t_calls.specs.declared.reaction.Reaction.{Reaction}
use Rattle.w32t_calls.specs.declared.reaction.Reaction.TheVariants.{Answers, Binds, Calls, Ends}
use Rattle.w32t_calls.specs.Answers.{fault_pdu, protocol_error}
use Rattle.w32t_calls.specs.Standing.{IsIdle, Serves, Server, StandsFor, TookFrom, goes_on}
use Rattle.w32t_calls.specs.Serving.{session_of}

-- The PDU was written, and such is the result; or a front of it was, and the result is a write fault.
pub data Puts {A : Type 0} (pdu : Pdu) (done result : Result A SessionEnd) (is_open : Bool)
    (old new : Option (List Entry)) : Type 0 where
  Done : (wrote : WireWrites put.Done is_open (pdu_bytes pdu) old new) → result ≡ done → Puts pdu done result is_open old new
  Failed : (wrote : WireWrites put.Failed is_open (pdu_bytes pdu) old new) → result ≡ Err end.WriteFault
      → Puts pdu done result is_open old new

-- what a reaction does to the server's side and to the wire
abbrev pub Reacts : Reaction → Result (Option Call) SessionEnd → Server → Server → Bool
    → Option (List Entry) → Option (List Entry) → Type 0
Reacts (Answers answer) result old new is_open told now =
    Puts answer (Ok None) result is_open told now × (new ≡ old)
Reacts (Binds answer accepted) result old new is_open told now =
    Puts answer (Ok None) result is_open told now × (new ≡ record old { accepted = accepted })
Reacts (Calls asked) result old new is_open told now =
    (result ≡ Ok (Some asked.call)) × (now ≡ told) × (new ≡ record old { waiting = Some asked })
Reacts (Ends answer) result old new is_open told now =
    Puts answer (Err end.BadPdu) result is_open told now × (new ≡ old)

-- the end of a session by a fault that isn't answered
abbrev pub unanswered : PduFault → Option SessionEnd
unanswered (fault.BadVersion at) = None
unanswered (fault.BadType at) = None
unanswered (fault.BadFragment at) = None
unanswered (fault.BadDrep at) = None
unanswered (fault.BadLength at) = None
unanswered (fault.BadAuth at) = None
unanswered (fault.BadBody at) = None
unanswered (fault.Torn at) = Some end.Torn
unanswered fault.ReadFault = Some end.ReadFault

-- how a session ends by a fault, by whether it is answered
abbrev pub EndsBy : Option SessionEnd → ℕ → Result (Option Call) SessionEnd → Bool
    → Option (List Entry) → Option (List Entry) → Type 0
EndsBy (Some why) call_id result is_open told now = (result ≡ Err why) × (now ≡ told)
EndsBy None call_id result is_open told now =
    Puts (fault_pdu call_id 0 protocol_error) (Err end.BadPdu) result is_open told now

-- a session served on without a call handed out
pub record Keeps (answers : List Given) (server : Server) (before now : SessionTold) : Type 0 where
  pub took : TookFrom before now
  pub read_failed : now.read_failed ≡ before.read_failed
  pub write_failed : now.write_failed ≡ before.write_failed
  pub calls : (session_of now.taken answers).calls ≡ (session_of before.taken answers).calls
  pub stands : StandsFor server now.taken answers
  pub writes : now.writes ≡ (session_of now.taken answers).writes

-- how a session stands after one PDU more
abbrev pub Steps : Result (Option Call) SessionEnd → List Given → Server → SessionTold → SessionTold → Type 0
Steps (Ok None) answers server before now = Keeps answers server before now
Steps (Ok (Some call)) answers server before now = Serves (Ok call) answers server before now
Steps (Err why) answers server before now = Serves (Err why) answers server before now

-- the open session was served with one PDU more
abbrev pub StepsOn : Result (Option Call) SessionEnd → List Given → Server → Option (List Entry) → Option (List Entry) → Type 0
StepsOn result answers server old new = LastTold (SessionChanged (Steps result answers server)) old new

-- What one PDU more makes of these bytes: the server goes on with what is left of them, or the answer of `next` is there.
abbrev pub StepTells : Result (Option Call) SessionEnd → Server → List ℕ → Server → Bool → Option (List Entry) → Type 0
StepTells (Ok None) old bytes new is_open now =
    (rest : List ℕ) × Leaves is_open now rest × ((goes_on old bytes []).end ≡ (goes_on new rest []).end)
StepTells (Ok (Some call)) old bytes new is_open now = (goes_on old bytes []).end ≡ Ok call
StepTells (Err why) old bytes new is_open now = (goes_on old bytes []).end ≡ Err why

-- what the server keeps after one PDU
abbrev pub StepKeeps : Result (Option Call) SessionEnd → Server → Server → Type 0
StepKeeps (Ok None) old new = IsIdle new × (new.pdus ≡ old.pdus + 1)
StepKeeps (Ok (Some call)) old new =
    (new.alive ≡ old.alive) × ((asked : Asked) × (new.waiting ≡ Some asked) × (asked.call ≡ call))
StepKeeps (Err why) old new = ⊤

-- what a write that failed does to the count
pub record WriteCounts (result : Result (Option Call) SessionEnd) (writes writes_now : ℕ) : Type 0 where
  pub write : result ≡ Err end.WriteFault → Fails writes writes_now
  pub no_write : result ≢ Err end.WriteFault → writes_now ≡ writes
