-- What the server's side answers to a PDU. Each answer is a PDU with flags 03 and the call identifier of what it answers.
use Rattle.std.specs.Prelude.{ℕ, Bool, not, ◌&&◌, ◌||◌, List, [], ◌∷◌, ◌++◌, length, replicate, drop, flat_map, nat_lt, nat_le, ◌==◌, if◌then◌else◌}
use Rattle.byte_codec.specs.Numbers.{low_half_word_bytes, low_word_at, low_word_bytes}
use Rattle.rpc_pdu.specs.declared.bind.Context.{Context}
use Rattle.rpc_pdu.specs.declared.pdu.Pdu.{Pdu}
use Rattle.rpc_pdu.specs.Bind.{contexts_of, ndr_bytes, offered_of}
use Rattle.rpc_pdu.specs.Header.{low_half_word_at, bind_kind, bind_ack_kind, bind_nak_kind, fault_kind, request_kind, response_kind}
use Rattle.w32t_calls.specs.declared.asked.Asked.{Asked}
use Rattle.w32t_calls.specs.declared.call.Call.{Call}
use Rattle.w32t_calls.specs.declared.call.Call.TheVariants as call
use Rattle.w32t_calls.specs.declared.call.Given.{Given}
use Rattle.w32t_calls.specs.declared.reaction.Reaction.{Reaction}
use Rattle.w32t_calls.specs.declared.reaction.Reaction.TheVariants.{Answers, Binds, Calls, Ends}
use Rattle.w32t_calls.specs.Contexts.{accepted_of, contexts_in, is_accepted}
use Rattle.w32t_calls.specs.Stubs.{answer_stub, bits_number, source_number, sync_number}

-- a PDU as either side writes it
abbrev pub answer_pdu : ℕ → ℕ → List ℕ → Pdu
answer_pdu kind call_id body = record { kind = kind; flags = 3; call_id = call_id; body = body }

-- ---- Binds

-- no transfer syntax
abbrev pub no_syntax : List ℕ
no_syntax = replicate 20 0

-- The result of a context: a result, a reason and a transfer syntax. One that isn't known is rejected for its interface,
-- one without NDR for its transfer syntaxes.
abbrev pub result_bytes : Context → List ℕ
result_bytes context =
    if not context.known then low_half_word_bytes 2 ++ low_half_word_bytes 1 ++ no_syntax else
    (if not context.ndr then low_half_word_bytes 2 ++ low_half_word_bytes 2 ++ no_syntax else
    low_half_word_bytes 0 ++ low_half_word_bytes 0 ++ ndr_bytes)

-- the group of sessions that is answered: the one asked for, or number 1 for a new one
abbrev pub group_of : ℕ → ℕ
group_of group = if group == 0 then 1 else group

-- a bind_ack of these contexts: the lengths of a PDU, the group, no secondary address, and a result for each
abbrev pub ack_body : ℕ → List Context → List ℕ
ack_body group contexts =
    low_half_word_bytes 5840 ++ low_half_word_bytes 5840 ++ low_word_bytes (group_of group)
    ++ low_half_word_bytes 0 ++ 0 ∷ 0 ∷ length contexts ∷ 0 ∷ 0 ∷ 0 ∷ []
    ++ flat_map result_bytes contexts

-- a bind_nak: too many contexts, and version 5.0 is spoken
abbrev pub nak_body : List ℕ
nak_body = low_half_word_bytes 2 ++ 1 ∷ 5 ∷ 0 ∷ []

-- the contexts that the body of a bind offers
abbrev pub offered_contexts : List ℕ → List Context
offered_contexts body = contexts_in (offered_of body) (contexts_of body)

-- ---- Requests

-- the context and the operation number of a request, and its stub: after the object identifier, where there is one
abbrev pub context_asked : Pdu → ℕ
context_asked pdu = low_half_word_at 4 pdu.body

abbrev pub operation_asked : Pdu → ℕ
operation_asked pdu = low_half_word_at 6 pdu.body

abbrev pub stub_place : ℕ → ℕ
stub_place flags = if nat_le 128 flags then 24 else 8

abbrev pub stub_asked : Pdu → List ℕ
stub_asked pdu = drop (stub_place pdu.flags) pdu.body

-- whether this operation is known
abbrev pub is_operation : ℕ → Bool
is_operation number = number == sync_number || (number == bits_number || number == source_number)

-- the call that an operation with this stub is
abbrev pub call_of : ℕ → List ℕ → Call
call_of number stub =
    if number == sync_number then call.Sync (low_word_at 0 stub) (low_word_at 4 stub) else
    (if number == bits_number then call.Bits else call.Source)

-- the status of a fault: the context isn't accepted, the operation is out of range, or the PDU or its stub is wrong
abbrev pub unknown_context : ℕ
unknown_context = 0x1C010003

abbrev pub unknown_operation : ℕ
unknown_operation = 0x1C010002

abbrev pub protocol_error : ℕ
protocol_error = 0x1C01000B

-- a fault in a context
abbrev pub fault_pdu : ℕ → ℕ → ℕ → Pdu
fault_pdu call_id context status = answer_pdu fault_kind call_id
    (low_word_bytes 0 ++ low_half_word_bytes context ++ 0 ∷ 0 ∷ low_word_bytes status ++ low_word_bytes 0)

-- the response to a call
abbrev pub response_to : Asked → Given → Pdu
response_to asked given = answer_pdu response_kind asked.call_id
    (low_word_bytes (length (answer_stub given)) ++ low_half_word_bytes asked.context ++ 0 ∷ 0 ∷ answer_stub given)

-- ---- Any PDU

-- a bind with more than eight contexts is refused, and any other decides which contexts are accepted
unfoldable pub reaction_to_bind : Pdu → Reaction
reaction_to_bind pdu =
    if nat_lt 8 (offered_of pdu.body)
    then Answers (answer_pdu bind_nak_kind pdu.call_id nak_body)
    else Binds
    (answer_pdu bind_ack_kind pdu.call_id (ack_body (low_word_at 4 pdu.body) (offered_contexts pdu.body)))
    (accepted_of (offered_contexts pdu.body))

-- a request is refused by the first fault that applies, and else is a call
unfoldable pub reaction_to_request : List ℕ → Pdu → Reaction
reaction_to_request accepted pdu =
    if not (is_accepted (context_asked pdu) accepted)
    then Answers (fault_pdu pdu.call_id (context_asked pdu) unknown_context)
    else (if not (is_operation (operation_asked pdu))
    then Answers (fault_pdu pdu.call_id (context_asked pdu) unknown_operation)
    else (if operation_asked pdu == sync_number && nat_lt (length (stub_asked pdu)) 8
    then Answers (fault_pdu pdu.call_id (context_asked pdu) protocol_error)
    else Calls (record {
      call = call_of (operation_asked pdu) (stub_asked pdu);
      call_id = pdu.call_id;
      context = context_asked pdu;
    })))

-- what a PDU leads to, with these contexts accepted; one that no client sends ends the session
unfoldable pub reaction : List ℕ → Pdu → Reaction
reaction accepted pdu =
    if pdu.kind == bind_kind then reaction_to_bind pdu else
    (if pdu.kind == request_kind then reaction_to_request accepted pdu else
    Ends (fault_pdu pdu.call_id 0 protocol_error))
