-- What the bytes of a session tell is one answer.
use Rattle.std.proofs.Common.{◌≡◌, ℕ, List, Option, Result, Ok, Err, sym, ◌∙◌, ap}
use Rattle.rpc_pdu.specs.declared.fault.PduFault.{PduFault}
use Rattle.rpc_pdu.specs.declared.pdu.Pdu.{Pdu}
use Rattle.w32t_calls.specs.declared.call.Call.{Call}
use Rattle.w32t_calls.specs.declared.call.Call.TheVariants as call
use Rattle.w32t_calls.specs.declared.call.Given.{Given}
use Rattle.w32t_calls.specs.declared.call.Given.TheVariants as given
use Rattle.w32t_calls.specs.declared.call_fault.CallFault.{CallFault}
use Rattle.w32t_calls.specs.Replies.{Names, SourceOf, and_if, reply_to, stub_in}
use Rattle.w32t_calls.proofs.Answered.{one_name}
use Rattle.client_run.specs.Asking.{AnswerIs, Tells, TellsIf, bound}

one_named : (place : ℕ) (stub : List ℕ) (source other : Result (List ℕ) CallFault) → Names place stub source → Names place stub other → source ≡ other
one_named place stub (Ok name) (Ok other) first next = ap Ok (one_name name other stub first next)
one_named place stub (Ok name) (Err why) first next = absurd (next.1 name first)
one_named place stub (Err why) (Ok name) first next = absurd (first.1 name next)
one_named place stub (Err why) (Err other) first next = ap Err (first.0 ∙ sym next.0)

one_source : (place : ℕ) (stub source other : Result (List ℕ) CallFault) → SourceOf place stub source → SourceOf place stub other → source ≡ other
one_source place (Ok stub) source other first next = one_named place stub source other first next
one_source place (Err why) source other first next = first ∙ sym next

one_answer : (c : Call) (place : ℕ) (first : Result (Option Pdu) PduFault) (told other : Result Given CallFault) → AnswerIs c place first told → AnswerIs c place first other → told ≡ other
one_answer (call.Sync wait flags) place first told other is also = is ∙ sym also
one_answer call.Bits place first told other is also = is ∙ sym also
one_answer call.Source place first told other is also =
    let same = one_source place (and_if (reply_to 2 place first) (stub_in place)) is.0 also.0 is.1 also.1 in
    is.2 ∙ ap (λ (r : Result (List ℕ) CallFault). and_if r (λ name. Ok (given.Source name))) same ∙ sym also.2

tells_one_if : (c : Call) (bytes : List ℕ) (told other : Result Given CallFault) (accepts : Result (Unit {0}) CallFault)
    → TellsIf c bytes told accepts → TellsIf c bytes other accepts → told ≡ other
tells_one_if c bytes told other (Ok done) is also = one_answer c _ _ told other is also
tells_one_if c bytes told other (Err why) is also = is ∙ sym also

pub tells_one : (c : Call) (bytes : List ℕ) (told other : Result Given CallFault) → Tells c bytes told → Tells c bytes other → told ≡ other
tells_one c bytes told other is also = tells_one_if c bytes told other (bound bytes) is also
