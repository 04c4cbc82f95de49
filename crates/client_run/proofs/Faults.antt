-- Which faults the replies tell: never a failed read or write.
use Rattle.std.proofs.Common.{◌≡◌, ℕ, ◌+◌, Bool, true, false, List, length, Option, Some, None, Result, Ok, Err, refl, sym, subst, drop}
use Rattle.std.specs.Prelude.{if◌then◌else◌, ◌==◌, nat_lt, slice_index}
use Rattle.byte_codec.specs.Numbers.{low_word_at}
use Rattle.rpc_pdu.specs.declared.fault.PduFault.{PduFault}
use Rattle.rpc_pdu.specs.declared.fault.PduFault.TheVariants as fault
use Rattle.rpc_pdu.specs.declared.pdu.Pdu.{Pdu}
use Rattle.rpc_pdu.specs.Header.{low_half_word_at, bind_ack_kind, bind_nak_kind, fault_kind, response_kind}
use Rattle.w32t_calls.specs.declared.call.Call.{Call}
use Rattle.w32t_calls.specs.declared.call.Call.TheVariants as call
use Rattle.w32t_calls.specs.declared.call.Given.{Given}
use Rattle.w32t_calls.specs.declared.call.Given.TheVariants as given
use Rattle.w32t_calls.specs.declared.call_fault.CallFault.{CallFault}
use Rattle.w32t_calls.specs.declared.call_fault.CallFault.TheVariants as call_fault
use Rattle.w32t_calls.specs.Replies.{SourceOf, accepted_by, and_if, bind_told, bound_by, reply_to, results_at, results_end, stub_in, word_in, word_told}
use Rattle.client_run.specs.Asking.{AnswerIs}

-- neither a failed read nor a failed write
pub record NoFault {A : Type 0} (r : Result A CallFault) : Type 0 where
  pub read : r ≡ Err call_fault.ReadFault → ⊥
  pub write : r ≡ Err call_fault.WriteFault → ⊥

gives : (A : Type 0) (value : A) → NoFault {A = A} (Ok value)
gives A value = record { read = λ same. cc; write = λ same. cc }

nak : (A : Type 0) → NoFault {A = A} (Err call_fault.Nak)
nak A = record { read = λ same. cc; write = λ same. cc }

rejected : (A : Type 0) → NoFault {A = A} (Err call_fault.Rejected)
rejected A = record { read = λ same. cc; write = λ same. cc }

fault_told : (A : Type 0) (status : ℕ) → NoFault {A = A} (Err (call_fault.Fault status))
fault_told A status = record { read = λ same. cc; write = λ same. cc }

bad_reply : (A : Type 0) (place : ℕ) → NoFault {A = A} (Err (call_fault.BadReply place))
bad_reply A place = record { read = λ same. cc; write = λ same. cc }

torn : (A : Type 0) → NoFault {A = A} (Err call_fault.Torn)
torn A = record { read = λ same. cc; write = λ same. cc }

-- the same fault of another call
pub other_no_fault : {A B : Type 0} (why : CallFault) → NoFault {A = A} (Err why) → NoFault {A = B} (Err why)
other_no_fault why none = record { read = λ same. none.read (cc); write = λ same. none.write (cc) }

if_no_fault : {A : Type 0} (b : Bool) (r s : Result A CallFault) → NoFault r → NoFault s → NoFault (if b then r else s)
if_no_fault true r s first next = first
if_no_fault false r s first next = next

and_no_fault : {A B : Type 0} (r : Result A CallFault) (f : A → Result B CallFault) → NoFault r → ((x : A) → NoFault (f x)) → NoFault (and_if r f)
and_no_fault (Ok value) f first next = next value
and_no_fault (Err why) f first next = other_no_fault why first

reply_no_fault : (call_id place : ℕ) (first : Result (Option Pdu) PduFault) → (first ≡ Err fault.ReadFault → ⊥) → NoFault (reply_to call_id place first)
reply_no_fault call_id place (Ok None) not_read = torn Pdu
reply_no_fault call_id place (Ok (Some pdu)) not_read = if_no_fault (pdu.call_id == call_id) (Ok pdu) (Err (call_fault.BadReply place)) (gives Pdu pdu) (bad_reply Pdu place)
reply_no_fault call_id place (Err (fault.BadVersion at)) not_read = bad_reply Pdu place
reply_no_fault call_id place (Err (fault.BadType at)) not_read = bad_reply Pdu place
reply_no_fault call_id place (Err (fault.BadFragment at)) not_read = bad_reply Pdu place
reply_no_fault call_id place (Err (fault.BadDrep at)) not_read = bad_reply Pdu place
reply_no_fault call_id place (Err (fault.BadLength at)) not_read = bad_reply Pdu place
reply_no_fault call_id place (Err (fault.BadAuth at)) not_read = bad_reply Pdu place
reply_no_fault call_id place (Err (fault.BadBody at)) not_read = bad_reply Pdu place
reply_no_fault call_id place (Err (fault.Torn at)) not_read = torn Pdu
reply_no_fault call_id place (Err fault.ReadFault) not_read = absurd (not_read refl)

accepted_no_fault : (place : ℕ) (body : List ℕ) → NoFault (accepted_by place body)
unfolding accepted_by
accepted_no_fault place body =
    let first : Result (Unit {0}) CallFault = if low_half_word_at (results_at body + 4) body == 0 then Ok tt else Err call_fault.Rejected in
    let some : Result (Unit {0}) CallFault = if slice_index body (results_at body) == 0 then Err call_fault.Rejected else first in
    if_no_fault (nat_lt (length body) (results_end body)) (Err (call_fault.BadReply place)) some (bad_reply (Unit {0}) place)
    (if_no_fault (slice_index body (results_at body) == 0) (Err call_fault.Rejected) first (rejected (Unit {0}))
    (if_no_fault (low_half_word_at (results_at body + 4) body == 0) (Ok tt) (Err call_fault.Rejected) (gives (Unit {0}) tt) (rejected (Unit {0}))))

bound_no_fault : (place : ℕ) (pdu : Pdu) → NoFault (bound_by place pdu)
unfolding bound_by
bound_no_fault place pdu =
    let other : Result (Unit {0}) CallFault = if pdu.kind == bind_nak_kind then Err call_fault.Nak else Err (call_fault.BadReply place) in
    if_no_fault (pdu.kind == bind_ack_kind) (accepted_by place pdu.body) other (accepted_no_fault place pdu.body)
    (if_no_fault (pdu.kind == bind_nak_kind) (Err call_fault.Nak) (Err (call_fault.BadReply place)) (nak (Unit {0})) (bad_reply (Unit {0}) place))

stub_no_fault : (place : ℕ) (pdu : Pdu) → NoFault (stub_in place pdu)
unfolding stub_in
stub_no_fault place pdu =
    let status : ℕ = low_word_at 8 pdu.body in
    let other : Result (List ℕ) CallFault = if pdu.kind == fault_kind then Err (call_fault.Fault status) else Err (call_fault.BadReply place) in
    if_no_fault (pdu.kind == response_kind) (Ok (drop 8 pdu.body)) other (gives (List ℕ) (drop 8 pdu.body))
    (if_no_fault (pdu.kind == fault_kind) (Err (call_fault.Fault status)) (Err (call_fault.BadReply place)) (fault_told (List ℕ) status) (bad_reply (List ℕ) place))

word_no_fault : (place : ℕ) (stub : List ℕ) → NoFault (word_in place stub)
unfolding word_in
word_no_fault place stub =
    if_no_fault (nat_lt (length stub) 4) (Err (call_fault.BadReply place)) (Ok (low_word_at 0 stub)) (bad_reply ℕ place) (gives ℕ (low_word_at 0 stub))

pub bind_no_fault : (place : ℕ) (first : Result (Option Pdu) PduFault) → (first ≡ Err fault.ReadFault → ⊥) → NoFault (bind_told place first)
bind_no_fault place first not_read = and_no_fault (reply_to 1 place first) (bound_by place) (reply_no_fault 1 place first not_read) (bound_no_fault place)

stub_told_no_fault : (place : ℕ) (first : Result (Option Pdu) PduFault) → (first ≡ Err fault.ReadFault → ⊥) → NoFault (and_if (reply_to 2 place first) (stub_in place))
stub_told_no_fault place first not_read = and_no_fault (reply_to 2 place first) (stub_in place) (reply_no_fault 2 place first not_read) (stub_no_fault place)

word_told_no_fault : (place : ℕ) (first : Result (Option Pdu) PduFault) → (first ≡ Err fault.ReadFault → ⊥) → NoFault (word_told 2 place first)
word_told_no_fault place first not_read =
    and_no_fault (and_if (reply_to 2 place first) (stub_in place)) (word_in place) (stub_told_no_fault place first not_read) (word_no_fault place)

name_no_fault : (place : ℕ) (stub source : Result (List ℕ) CallFault) → NoFault stub → SourceOf place stub source → NoFault source
name_no_fault place (Ok stub) (Ok name) none is = gives (List ℕ) name
name_no_fault place (Ok stub) (Err why) none is = subst (λ (w : CallFault). NoFault {A = List ℕ} (Err w)) (sym is.0) (bad_reply (List ℕ) place)
name_no_fault place (Err why) source none is = subst (λ (r : Result (List ℕ) CallFault). NoFault r) (sym is) none

pub answer_no_fault : (c : Call) (place : ℕ) (first : Result (Option Pdu) PduFault) (told : Result Given CallFault) → (first ≡ Err fault.ReadFault → ⊥)
    → AnswerIs c place first told → NoFault told
answer_no_fault (call.Sync wait flags) place first told not_read is =
    subst (λ (r : Result Given CallFault). NoFault r) (sym is)
    (and_no_fault (word_told 2 place first) (λ n. Ok (given.Synced n)) (word_told_no_fault place first not_read) (λ n. gives Given (given.Synced n)))
answer_no_fault call.Bits place first told not_read is =
    subst (λ (r : Result Given CallFault). NoFault r) (sym is)
    (and_no_fault (word_told 2 place first) (λ n. Ok (given.Bits n)) (word_told_no_fault place first not_read) (λ n. gives Given (given.Bits n)))
answer_no_fault call.Source place first told not_read is =
    subst (λ (r : Result Given CallFault). NoFault r) (sym is.2)
    (and_no_fault is.0 (λ name. Ok (given.Source name)) (name_no_fault place (and_if (reply_to 2 place first) (stub_in place)) is.0 (stub_told_no_fault place first not_read) is.1)
    (λ name. gives Given (given.Source name)))
