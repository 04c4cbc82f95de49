-- What a client makes of the PDU that answers it.
use Rattle.std.specs.Prelude.{◌≡◌, ℕ, ◌+◌, ◌*◌, ◌≤◌, All, List, drop, length, Option, Some, None, Result, Ok, Err, slice_index, nat_lt, ◌==◌, if◌then◌else◌}
use Rattle.byte_codec.specs.Numbers.{low_word_at}
use Rattle.rpc_pdu.specs.declared.fault.PduFault.{PduFault}
use Rattle.rpc_pdu.specs.declared.fault.PduFault.TheVariants as fault
use Rattle.rpc_pdu.specs.declared.pdu.Pdu.{Pdu}
use Rattle.rpc_pdu.specs.Header.{low_half_word_at, bind_ack_kind, bind_nak_kind, fault_kind, response_kind}
use Rattle.w32t_calls.specs.declared.call_fault.CallFault.{CallFault}
use Rattle.w32t_calls.specs.declared.call_fault.CallFault.TheVariants as call_fault
use Rattle.w32t_calls.specs.Stubs.{SpellsSource, name_units, rounded_to_four}

-- The PDU that answers the call with this identifier, by what stands first in the bytes at a place: none is torn, and one
-- outside the reader's grammar or with another identifier is a bad reply.
abbrev pub reply_to : ℕ → ℕ → Result (Option Pdu) PduFault → Result Pdu CallFault
reply_to call_id place (Ok None) = Err call_fault.Torn
reply_to call_id place (Ok (Some pdu)) =
    if pdu.call_id == call_id then Ok pdu else Err (call_fault.BadReply place)
reply_to call_id place (Err (fault.Torn at)) = Err call_fault.Torn
reply_to call_id place (Err fault.ReadFault) = Err call_fault.ReadFault
reply_to call_id place (Err (fault.BadVersion at)) = Err (call_fault.BadReply place)
reply_to call_id place (Err (fault.BadType at)) = Err (call_fault.BadReply place)
reply_to call_id place (Err (fault.BadFragment at)) = Err (call_fault.BadReply place)
reply_to call_id place (Err (fault.BadDrep at)) = Err (call_fault.BadReply place)
reply_to call_id place (Err (fault.BadLength at)) = Err (call_fault.BadReply place)
reply_to call_id place (Err (fault.BadAuth at)) = Err (call_fault.BadReply place)
reply_to call_id place (Err (fault.BadBody at)) = Err (call_fault.BadReply place)

-- ---- The answer to a bind

-- where the results of a bind_ack stand in its body: after the secondary address, at a multiple of four
abbrev pub results_at : List ℕ → ℕ
results_at body = rounded_to_four (10 + low_half_word_at 8 body)

-- bytes that the body asks for with all its results
abbrev pub results_end : List ℕ → ℕ
results_end body = results_at body + 4 + 24 * slice_index body (results_at body)

-- Whether the context is accepted: the list of results lies within the body, is not empty, and its first result is 0.
unfoldable pub accepted_by : ℕ → List ℕ → Result (Unit {0}) CallFault
accepted_by place body =
    if nat_lt (length body) (results_end body) then Err (call_fault.BadReply place) else
    (if slice_index body (results_at body) == 0 then Err call_fault.Rejected else
    (if low_half_word_at (results_at body + 4) body == 0 then Ok tt else Err call_fault.Rejected))

-- what a bind is told
unfoldable pub bound_by : ℕ → Pdu → Result (Unit {0}) CallFault
bound_by place pdu =
    if pdu.kind == bind_ack_kind then accepted_by place pdu.body else
    (if pdu.kind == bind_nak_kind then Err call_fault.Nak else Err (call_fault.BadReply place))

-- ---- The answer to a call

-- the stub of the response; a fault is told by its status, and any other PDU is a bad reply
unfoldable pub stub_in : ℕ → Pdu → Result (List ℕ) CallFault
stub_in place pdu =
    if pdu.kind == response_kind then Ok (drop 8 pdu.body) else
    (if pdu.kind == fault_kind then Err (call_fault.Fault (low_word_at 8 pdu.body)) else
    Err (call_fault.BadReply place))

-- the number in the first four bytes of a stub
unfoldable pub word_in : ℕ → List ℕ → Result ℕ CallFault
word_in place stub = if nat_lt (length stub) 4 then Err (call_fault.BadReply place) else Ok (low_word_at 0 stub)

-- one step after the other, as far as none answers a fault
abbrev pub and_if : {A B : Type 0} → Result A CallFault → (A → Result B CallFault) → Result B CallFault
and_if (Ok value) next = next value
and_if (Err why) next = Err why

-- what the bind is told by what stands first at this place
abbrev pub bind_told : ℕ → Result (Option Pdu) PduFault → Result (Unit {0}) CallFault
bind_told place first = and_if (reply_to 1 place first) (bound_by place)

-- what a call of a number is told: by `sync` the result, by `bits` the bits
abbrev pub word_told : ℕ → ℕ → Result (Option Pdu) PduFault → Result ℕ CallFault
word_told call_id place first =
    and_if (and_if (reply_to call_id place first) (stub_in place)) (word_in place)

-- units that spell a name, the closing one among them
pub record SpellsUnits (name bytes : List ℕ) : Type 0 where
  pub most : length name ≤ 63
  pub printed : All (λ byte. (0x20 ≤ byte) × (byte ≤ 0x7E)) name
  pub units : bytes ≡ name_units name

-- the name that a stub spells, or a bad reply where it spells none
abbrev pub Names : ℕ → List ℕ → Result (List ℕ) CallFault → Type 0
Names place stub (Ok name) = SpellsSource name stub
Names place stub (Err why) = (why ≡ call_fault.BadReply place) × ((name : List ℕ) → SpellsSource name stub → ⊥)

-- what a stub or a fault tells of the source
abbrev pub SourceOf : ℕ → Result (List ℕ) CallFault → Result (List ℕ) CallFault → Type 0
SourceOf place (Ok stub) result = Names place stub result
SourceOf place (Err why) result = result ≡ Err why

-- what the call for the source is told
abbrev pub SourceTold : ℕ → ℕ → Result (Option Pdu) PduFault → Result (List ℕ) CallFault → Type 0
SourceTold call_id place first result =
    SourceOf place (and_if (reply_to call_id place first) (stub_in place)) result
