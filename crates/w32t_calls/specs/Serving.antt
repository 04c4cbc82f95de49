-- What a session comes to: its bytes, cut into PDUs from the front, and the answers to the calls that they ask for.
use Rattle.std.specs.Prelude.{ℕ, zero, suc, ◌+◌, List, [], ◌∷◌, ◌++◌, length, drop, Option, Some, None, Result, Ok, Err}
use Rattle.byte_codec.specs.Numbers.{low_word_at}
use Rattle.edge_traits.specs.Wire.{Written}
use Rattle.rpc_pdu.specs.declared.fault.PduFault.{PduFault}
use Rattle.rpc_pdu.specs.declared.fault.PduFault.TheVariants as fault
use Rattle.rpc_pdu.specs.declared.pdu.Pdu.{Pdu}
use Rattle.rpc_pdu.specs.Header.{header_of}
use Rattle.rpc_pdu.specs.Pdu.{first_pdu, pdu_bytes, pdu_len}
use Rattle.w32t_calls.specs.declared.asked.Asked.{Asked}
use Rattle.w32t_calls.specs.declared.call.Call.{Call}
use Rattle.w32t_calls.specs.declared.call.Given.{Given}
use Rattle.w32t_calls.specs.declared.end.SessionEnd.{SessionEnd}
use Rattle.w32t_calls.specs.declared.end.SessionEnd.TheVariants as end
use Rattle.w32t_calls.specs.declared.reaction.Reaction.{Reaction}
use Rattle.w32t_calls.specs.declared.reaction.Reaction.TheVariants.{Answers, Binds, Calls, Ends}
use Rattle.w32t_calls.specs.Answers.{fault_pdu, protocol_error, reaction, response_to}

-- What a session came to: the writes, each with how many bytes had been taken before it; the calls that were made; where
-- it stands: at a call that has no answer yet, which is the last one made, or at its end; and how many bytes were taken.
pub record Served : Type 0 where
  pub writes : List Written
  pub calls : List Call
  pub end : Result Call SessionEnd
  pub place : ℕ

-- one after the other
abbrev pub and_then : Served → Served → Served
and_then first rest =
    record rest { writes = first.writes ++ rest.writes; calls = first.calls ++ rest.calls }

-- a PDU, written after so many bytes were taken
abbrev pub written_at : ℕ → Pdu → Written
written_at place pdu = record { behind = place; bytes = pdu_bytes pdu }

-- the session ends with so many bytes taken, and no more is written
abbrev pub ends_as : ℕ → SessionEnd → Served
ends_as place why = record { writes = []; calls = []; end = Err why; place = place }

-- the session ends by what a client may not send, and that is answered
abbrev pub ends_badly : ℕ → Pdu → Served
ends_badly place answer =
    record { writes = written_at place answer ∷ []; calls = []; end = Err end.BadPdu; place = place }

-- a call without an answer
abbrev pub stops_at : ℕ → Call → Served
stops_at place call = record { writes = []; calls = []; end = Ok call; place = place }

-- an answer, and what comes after it
abbrev pub answers_first : ℕ → Pdu → Served → Served
answers_first place answer rest = record rest { writes = written_at place answer ∷ rest.writes }

-- a call, and what comes after it
abbrev pub calls_first : Call → Served → Served
calls_first call rest = record rest { calls = call ∷ rest.calls }

-- What comes of a call that waits: the first of the answers is written as its response, and `next` comes after it; where
-- there is none, the session stops there.
abbrev pub at_call : (List Given → Served) → ℕ → Asked → List Given → Served
at_call next place asked [] = stops_at place asked.call
at_call next place asked (given ∷ answers) = answers_first place (response_to asked given) (next answers)

-- What a PDU that ends at this place leads to; `next` comes after it.
abbrev pub by_reaction : (List ℕ → List Given → Served) → ℕ → List ℕ → List Given → Reaction → Served
by_reaction next place accepted answers (Answers answer) = answers_first place answer (next accepted answers)
by_reaction next place accepted answers (Binds answer now) = answers_first place answer (next now answers)
by_reaction next place accepted answers (Calls asked) =
    calls_first asked.call (at_call (next accepted) place asked answers)
by_reaction next place accepted answers (Ends answer) = ends_badly place answer

-- the fault that answers a PDU whose header or body is at fault, by its header
abbrev pub answer_to_fault : List ℕ → Pdu
answer_to_fault bytes = fault_pdu (low_word_at 12 bytes) 0 protocol_error

-- What the PDU or the fault that stands first in the bytes at this place leads to; `next` comes after it. Of a PDU whose
-- header is at fault no more than the header is taken, and of a torn one all that is left.
abbrev pub by_first : (ℕ → List ℕ → List ℕ → List Given → Served) → ℕ → List ℕ → List ℕ → List Given
    → Result (Option Pdu) PduFault → Served
by_first next place accepted bytes answers (Ok None) = ends_as place end.Ended
by_first next place accepted bytes answers (Ok (Some pdu)) =
    by_reaction (λ now. next (place + pdu_len pdu) now (drop (pdu_len pdu) bytes))
    (place + pdu_len pdu) accepted answers (reaction accepted pdu)
by_first next place accepted bytes answers (Err (fault.Torn at)) = ends_as (place + length bytes) end.Torn
by_first next place accepted bytes answers (Err fault.ReadFault) = ends_as place end.ReadFault
by_first next place accepted bytes answers (Err (fault.BadVersion at)) = ends_badly (place + 16) (answer_to_fault bytes)
by_first next place accepted bytes answers (Err (fault.BadType at)) = ends_badly (place + 16) (answer_to_fault bytes)
by_first next place accepted bytes answers (Err (fault.BadFragment at)) = ends_badly (place + 16) (answer_to_fault bytes)
by_first next place accepted bytes answers (Err (fault.BadDrep at)) = ends_badly (place + 16) (answer_to_fault bytes)
by_first next place accepted bytes answers (Err (fault.BadLength at)) = ends_badly (place + 16) (answer_to_fault bytes)
by_first next place accepted bytes answers (Err (fault.BadAuth at)) = ends_badly (place + 16) (answer_to_fault bytes)
by_first next place accepted bytes answers (Err (fault.BadBody at)) =
    ends_badly (place + (header_of bytes).fragment_len) (answer_to_fault bytes)

-- What the bytes from this place on come to, with these contexts accepted: so many PDUs are taken at most, and then the
-- session is spent, whether or not a byte is left.
unfoldable pub served : ℕ → ℕ → List ℕ → List ℕ → List Given → Served
served zero place accepted bytes answers = ends_as place end.Spent
served (suc more) place accepted bytes answers =
    by_first (served more) place accepted bytes answers (first_pdu place bytes)

-- PDUs that are taken of a session, at most
abbrev pub most_pdus : ℕ
most_pdus = 10000

-- What all bytes of a session and the answers to its calls come to.
abbrev pub session_of : List ℕ → List Given → Served
session_of bytes answers = served most_pdus 0 [] bytes answers
