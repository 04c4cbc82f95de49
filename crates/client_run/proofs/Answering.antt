-- The first call after the bind, and what it is told.
use Rattle.std.proofs.Common.{◌≡◌, ℕ, ◌+◌, Bool, List, Option, Result, Ok, Err, sym, ◌∙◌, ap, subst}
use Rattle.edge_traits.specs.Wire.{Entry}
use Rattle.rpc_pdu.specs.Reader.{Reader}
use Rattle.w32t_calls.specs.declared.call.Call.{Call}
use Rattle.w32t_calls.specs.declared.call.Call.TheVariants as call
use Rattle.w32t_calls.specs.declared.call.Given.{Given}
use Rattle.w32t_calls.specs.declared.call.Given.TheVariants as given
use Rattle.w32t_calls.specs.declared.call_fault.CallFault.{CallFault}
use Rattle.w32t_calls.specs.declared.call_fault.CallFault.TheVariants as call_fault
use Rattle.w32t_calls.specs.Asking.{call_pdu}
use Rattle.w32t_calls.specs.Calling.{Asks}
use Rattle.w32t_calls.specs.Replies.{SourceTold, and_if, word_told}
use Rattle.w32t_calls.proofs.Calling.{asks_as}
use Rattle.client_run.specs.Asking.{AnswerIs}

-- the call with this identifier was made, and came to that
abbrev Makes : Bool → Option (List Entry) → Option (List Entry) → Reader → Reader → Call → Result Given CallFault → Type 0
Makes is_open old new reader later c result =
    Asks (call_pdu 2 c) is_open old new reader later (result ≡ Err call_fault.WriteFault) (λ first. AnswerIs c reader.place first result)

abbrev WordAsks : Bool → Option (List Entry) → Option (List Entry) → Reader → Reader → Call → ℕ → Result ℕ CallFault → Type 0
WordAsks is_open old new reader later c call_id word =
    Asks (call_pdu call_id c) is_open old new reader later (word ≡ Err call_fault.WriteFault) (λ first. word ≡ word_told call_id reader.place first)

word_second : (is_open : Bool) (old new : Option (List Entry)) (reader later : Reader) (c : Call) (calls : ℕ) (word : Result ℕ CallFault)
    → WordAsks is_open old new reader later c (calls + 1) word → calls ≡ 1 → WordAsks is_open old new reader later c 2 word
word_second is_open old new reader later c calls word asks first =
    subst (λ (n : ℕ). WordAsks is_open old new reader later c (n + 1) word) first asks

-- a call of a number came to what the number makes
pub sync_made : (is_open : Bool) (old new : Option (List Entry)) (reader later : Reader) (c : Call) (wait flags calls : ℕ) (word : Result ℕ CallFault) (result : Result Given CallFault)
    → WordAsks is_open old new reader later (call.Sync wait flags) (calls + 1) word → calls ≡ 1 → c ≡ call.Sync wait flags
    → result ≡ and_if word (λ n. Ok (given.Synced n)) → Makes is_open old new reader later c result
sync_made is_open old new reader later c wait flags calls word result asks first is came =
    subst (λ (k : Call). Makes is_open old new reader later k result) (sym is)
    (asks_as (call_pdu 2 (call.Sync wait flags)) is_open old new reader later _ _ _ _
    (word_second is_open old new reader later (call.Sync wait flags) calls word asks first)
    (λ failed. came ∙ ap (λ (r : Result ℕ CallFault). and_if r (λ n. Ok (given.Synced n))) failed)
    (λ pdu here. came ∙ ap (λ (r : Result ℕ CallFault). and_if r (λ n. Ok (given.Synced n))) here))

pub bits_made : (is_open : Bool) (old new : Option (List Entry)) (reader later : Reader) (c : Call) (calls : ℕ) (word : Result ℕ CallFault) (result : Result Given CallFault)
    → WordAsks is_open old new reader later call.Bits (calls + 1) word → calls ≡ 1 → c ≡ call.Bits
    → result ≡ and_if word (λ n. Ok (given.Bits n)) → Makes is_open old new reader later c result
bits_made is_open old new reader later c calls word result asks first is came =
    subst (λ (k : Call). Makes is_open old new reader later k result) (sym is)
    (asks_as (call_pdu 2 call.Bits) is_open old new reader later _ _ _ _
    (word_second is_open old new reader later call.Bits calls word asks first)
    (λ failed. came ∙ ap (λ (r : Result ℕ CallFault). and_if r (λ n. Ok (given.Bits n))) failed)
    (λ pdu here. came ∙ ap (λ (r : Result ℕ CallFault). and_if r (λ n. Ok (given.Bits n))) here))

abbrev SourceAsks : Bool → Option (List Entry) → Option (List Entry) → Reader → Reader → ℕ → Result (List ℕ) CallFault → Type 0
SourceAsks is_open old new reader later call_id source =
    Asks (call_pdu call_id call.Source) is_open old new reader later (source ≡ Err call_fault.WriteFault) (λ first. SourceTold call_id reader.place first source)

-- and the call of the source to what the name makes
pub source_made : (is_open : Bool) (old new : Option (List Entry)) (reader later : Reader) (c : Call) (calls : ℕ) (source : Result (List ℕ) CallFault) (result : Result Given CallFault)
    → SourceAsks is_open old new reader later (calls + 1) source → calls ≡ 1 → c ≡ call.Source
    → result ≡ and_if source (λ name. Ok (given.Source name)) → Makes is_open old new reader later c result
source_made is_open old new reader later c calls source result asks first is came =
    subst (λ (k : Call). Makes is_open old new reader later k result) (sym is)
    (asks_as (call_pdu 2 call.Source) is_open old new reader later _ _ _ _
    (subst (λ (n : ℕ). SourceAsks is_open old new reader later (n + 1) source) first asks)
    (λ failed. came ∙ ap (λ (r : Result (List ℕ) CallFault). and_if r (λ name. Ok (given.Source name))) failed)
    (λ pdu here. (source, here, came)))
