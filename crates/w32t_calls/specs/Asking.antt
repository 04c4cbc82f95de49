-- What a client writes: a bind, and then its calls. Each PDU has flags 03, and the n-th, the bind being the first, has the
-- call identifier n.
use Rattle.std.specs.Prelude.{ℕ, List, [], ◌∷◌, ◌++◌, length}
use Rattle.byte_codec.specs.Numbers.{low_half_word_bytes, low_word_bytes}
use Rattle.rpc_pdu.specs.declared.pdu.Pdu.{Pdu}
use Rattle.rpc_pdu.specs.Bind.{interface_bytes, ndr_bytes}
use Rattle.rpc_pdu.specs.Header.{bind_kind, request_kind}
use Rattle.w32t_calls.specs.declared.call.Call.{Call}
use Rattle.w32t_calls.specs.declared.call.Call.TheVariants as call
use Rattle.w32t_calls.specs.Answers.{answer_pdu}
use Rattle.w32t_calls.specs.Stubs.{bits_number, source_number, sync_number}

-- the version of the interface, 4.1
abbrev pub interface_version : List ℕ
interface_version = low_half_word_bytes 4 ++ low_half_word_bytes 1

-- the one context that is offered: number 0, the interface of the time service, with NDR
abbrev pub context_bytes : List ℕ
context_bytes = low_half_word_bytes 0 ++ 1 ∷ 0 ∷ interface_bytes ++ interface_version ++ ndr_bytes

-- the bind: the lengths of a PDU, a new group, and that context
abbrev pub bind_pdu : Pdu
bind_pdu = answer_pdu bind_kind 1
    (low_half_word_bytes 5840 ++ low_half_word_bytes 5840 ++ low_word_bytes 0 ++ 1 ∷ 0 ∷ 0 ∷ 0 ∷ context_bytes)

-- the operation number of a call, and its stub
abbrev pub number_of_call : Call → ℕ
number_of_call (call.Sync wait flags) = sync_number
number_of_call call.Bits = bits_number
number_of_call call.Source = source_number

abbrev pub stub_of_call : Call → List ℕ
stub_of_call (call.Sync wait flags) = low_word_bytes wait ++ low_word_bytes flags
stub_of_call call.Bits = []
stub_of_call call.Source = []

-- a call with this identifier, in context 0
abbrev pub call_pdu : ℕ → Call → Pdu
call_pdu call_id call = answer_pdu request_kind call_id
    (low_word_bytes (length (stub_of_call call)) ++ low_half_word_bytes 0
    ++ low_half_word_bytes (number_of_call call) ++ stub_of_call call)
