-- What a call of a client does to the wire, and what it is told.
use Rattle.std.proofs.Common.{◌≡◌, inl, inr, ℕ, ◌+◌, ◌≤◌, Bool, true, false, List, [], ◌∷◌, ◌++◌, Option, Some, None, Result, Ok, Err, refl, sym, ◌∙◌, ap, arith, subst}
use Rattle.std.specs.Prelude.{⊤, IfOk, IfSome}
use Rattle.std.proofs.lemmas.Option.{none-some, same_Some}
use Rattle.base_specs.specs.Told.{LastChanged, LastTold}
use Rattle.base_specs.proofs.Telling.{last_changed_behind, last_told_more}
use Rattle.edge_traits.specs.declared.sink.Put.TheVariants as put
use Rattle.edge_traits.specs.Wire.{Entry, Session, NoMore, Failed, SessionChanged, SessionTold, WireWrites, WritesTo}
use Rattle.rpc_pdu.specs.declared.fault.PduFault.{PduFault}
use Rattle.rpc_pdu.specs.declared.fault.PduFault.TheVariants as fault
use Rattle.rpc_pdu.specs.declared.pdu.Pdu.{Pdu}
use Rattle.rpc_pdu.specs.Fill.{OpensNone}
use Rattle.rpc_pdu.specs.Pdu.{PduFits, first_pdu, pdu_bytes}
use Rattle.rpc_pdu.specs.Reader.{Leaves, Nexts, Reader}
use Rattle.rpc_pdu.proofs.Runs.{told_by}
use Rattle.w32t_calls.specs.declared.call_fault.CallFault.{CallFault}
use Rattle.w32t_calls.specs.declared.call_fault.CallFault.TheVariants as call_fault
use Rattle.w32t_calls.specs.Calling.{Answered, Asks, CallCounts, Unwritten}
use Rattle.w32t_calls.specs.Replies.{SourceOf, SourceTold, and_if, reply_to, stub_in, word_in, word_told}

-- ---- The bytes that are left

-- the session that was written to, as it is told now
written_to_last : (piece : List ℕ) (earlier : List Entry) (before : SessionTold) (last : Entry) (new : List Entry)
    → new ≡ earlier ++ last ∷ [] → SessionChanged (WritesTo piece) (Session before) last → Leaves true (Some new) before.left
written_to_last piece earlier before (Session after) new is changed = (earlier, after, ap Some is, ap (λ (s : SessionTold). s.left) changed)
written_to_last piece earlier before NoMore new is changed = absurd changed
written_to_last piece earlier before Failed new is changed = absurd changed

written_leaves : (piece : List ℕ) (earlier : List Entry) (before : SessionTold) (old new : Option (List Entry))
    → old ≡ Some (earlier ++ Session before ∷ []) → LastTold (SessionChanged (WritesTo piece)) old new → Leaves true new before.left
written_leaves piece earlier before None new is changed = absurd (none-some _ is)
written_leaves piece earlier before (Some list) None is changed = absurd changed
written_leaves piece earlier before (Some list) (Some new) is changed =
    let one : LastChanged (SessionChanged (WritesTo piece)) (earlier ++ Session before ∷ []) new =
    subst (λ (l : List Entry). LastChanged (SessionChanged (WritesTo piece)) l new) (same_Some _ _ is) changed in
    let last = last_changed_behind (SessionChanged (WritesTo piece)) [] earlier (Session before) new one in
    written_to_last piece earlier before last.0 new last.1 last.2

false_not_true : false ≡ true → ⊥
false_not_true same = cc

-- a write leaves what is left to be read
still_left : (piece : List ℕ) (is_open : Bool) (old new : Option (List Entry)) (bytes : List ℕ)
    → WireWrites put.Done is_open piece old new → Leaves is_open old bytes → Leaves is_open new bytes
still_left piece false old new bytes wrote leaves = absurd (false_not_true wrote.0)
still_left piece true old new bytes wrote leaves =
    subst (λ (l : List ℕ). Leaves true new l) leaves.3 (written_leaves piece leaves.0 leaves.1 old new leaves.2 wrote.1)

-- Where the write and each read succeed, the bytes left decide.
pub told_by_left : (pdu : Pdu) (is_open : Bool) (old new : Option (List Entry)) (reader later : Reader)
    (unwritten : Type 0) (answer : Result (Option Pdu) PduFault → Type 0) (bytes : List ℕ)
    → Asks pdu is_open old new reader later unwritten answer → Leaves is_open old bytes
    → (unwritten → ⊥) → (answer (Err fault.ReadFault) → ⊥) → answer (first_pdu reader.place bytes)
told_by_left pdu is_open old new reader later unwritten answer bytes (Unwritten wrote same is) leaves written not_read =
    absurd (written is)
told_by_left pdu is_open old new reader later unwritten answer bytes (Answered first between wrote took is) leaves written not_read =
    let left = still_left (pdu_bytes pdu) is_open old between bytes wrote leaves in
    let here = told_by first reader later is_open between new bytes took left (λ same. not_read (subst answer same is)) in
    subst answer here is

-- ---- What is made of the answer

-- the same, said otherwise
pub asks_as : (pdu : Pdu) (is_open : Bool) (old new : Option (List Entry)) (reader later : Reader)
    (u v : Type 0) (f g : Result (Option Pdu) PduFault → Type 0)
    → Asks pdu is_open old new reader later u f → (u → v) → ((first : Result (Option Pdu) PduFault) → f first → g first)
    → Asks pdu is_open old new reader later v g
asks_as pdu is_open old new reader later u v f g (Unwritten wrote same is) unwritten so = Unwritten wrote same (unwritten is)
asks_as pdu is_open old new reader later u v f g (Answered first between wrote took is) unwritten so =
    Answered first between wrote took (so first is)

-- one step after the other, in either grouping
pub and_if_both : {A B C : Type 0} (r : Result A CallFault) (f : A → Result B CallFault) (g : B → Result C CallFault)
    → and_if r (λ x. and_if (f x) g) ≡ and_if (and_if r f) g
and_if_both (Ok value) f g = refl
and_if_both (Err why) f g = refl

-- the same, with the reader after it said otherwise
pub asks_later : (pdu : Pdu) (is_open : Bool) (old new : Option (List Entry)) (reader later other : Reader)
    (unwritten : Type 0) (answer : Result (Option Pdu) PduFault → Type 0)
    → later ≡ other → Asks pdu is_open old new reader later unwritten answer → Asks pdu is_open old new reader other unwritten answer
asks_later pdu is_open old new reader later other unwritten answer same asks =
    subst (λ (r : Reader). Asks pdu is_open old new reader r unwritten answer) same asks

-- the call of this PDU, and what is made of the PDU that answers
pub asks_then : {A : Type 0} (pdu wanted : Pdu) (is_open : Bool) (old new : Option (List Entry)) (reader later : Reader)
    (reply : Result Pdu CallFault) (result : Result A CallFault) (next : Pdu → Result A CallFault)
    → Asks pdu is_open old new reader later (reply ≡ Err call_fault.WriteFault) (λ first. reply ≡ reply_to pdu.call_id reader.place first)
    → pdu ≡ wanted → result ≡ and_if reply next
    → Asks wanted is_open old new reader later (result ≡ Err call_fault.WriteFault)
    (λ first. result ≡ and_if (reply_to wanted.call_id reader.place first) next)
asks_then pdu wanted is_open old new reader later reply result next asks same is =
    asks_as wanted is_open old new reader later _ _ _ _
    (subst (λ (p : Pdu). Asks p is_open old new reader later (reply ≡ Err call_fault.WriteFault) (λ first. reply ≡ reply_to p.call_id reader.place first)) same asks)
    (λ failed. is ∙ ap (λ (r : Result Pdu CallFault). and_if r next) failed)
    (λ first here. is ∙ ap (λ (r : Result Pdu CallFault). and_if r next) here)

-- the same of a call for a number
pub asks_for_word : (pdu wanted : Pdu) (is_open : Bool) (old new : Option (List Entry)) (reader later : Reader)
    (reply : Result Pdu CallFault) (result : Result ℕ CallFault)
    → Asks pdu is_open old new reader later (reply ≡ Err call_fault.WriteFault) (λ first. reply ≡ reply_to pdu.call_id reader.place first)
    → pdu ≡ wanted → result ≡ and_if reply (λ p. and_if (stub_in reader.place p) (word_in reader.place))
    → Asks wanted is_open old new reader later (result ≡ Err call_fault.WriteFault) (λ first. result ≡ word_told wanted.call_id reader.place first)
asks_for_word pdu wanted is_open old new reader later reply result asks same is =
    asks_as wanted is_open old new reader later _ _ _ _
    (asks_then pdu wanted is_open old new reader later reply result _ asks same is)
    (λ failed. failed)
    (λ first here. here ∙ and_if_both (reply_to wanted.call_id reader.place first) (stub_in reader.place) (word_in reader.place))

-- and of the call for the source
pub asks_for_name : (pdu wanted : Pdu) (is_open : Bool) (old new : Option (List Entry)) (reader later : Reader)
    (reply : Result Pdu CallFault) (result : Result (List ℕ) CallFault)
    → Asks pdu is_open old new reader later (reply ≡ Err call_fault.WriteFault) (λ first. reply ≡ reply_to pdu.call_id reader.place first)
    → pdu ≡ wanted → SourceOf reader.place (and_if reply (stub_in reader.place)) result
    → Asks wanted is_open old new reader later (result ≡ Err call_fault.WriteFault) (λ first. SourceTold wanted.call_id reader.place first result)
asks_for_name pdu wanted is_open old new reader later reply result asks same is =
    let of : Result Pdu CallFault → Type 0 = λ (r : Result Pdu CallFault). SourceOf reader.place (and_if r (stub_in reader.place)) result in
    asks_as wanted is_open old new reader later _ _ _ _
    (subst (λ (p : Pdu). Asks p is_open old new reader later (reply ≡ Err call_fault.WriteFault) (λ first. reply ≡ reply_to p.call_id reader.place first)) same asks)
    (λ failed. subst of failed is)
    (λ first here. subst of here is)

-- the PDU was written, and one was taken
pub answers : (pdu : Pdu) (inside old new : Reader) (is_open later_open : Bool) (told mid now : Option (List Entry))
    (first : Result (Option Pdu) PduFault) (place : ℕ) (result : Result Pdu CallFault)
    → old ≡ inside → later_open ≡ is_open → place ≡ inside.place
    → WireWrites put.Done is_open (pdu_bytes pdu) told mid → Nexts first inside new later_open mid now → result ≡ reply_to pdu.call_id place first
    → Asks pdu is_open told now old new (result ≡ Err call_fault.WriteFault) (λ first. result ≡ reply_to pdu.call_id old.place first)
answers pdu inside old new is_open later_open told mid now first place result same opened here wrote took is =
    Answered first mid wrote
    (subst (λ (o : Bool). Nexts first old new o mid now) opened (subst (λ (r : Reader). Nexts first r new later_open mid now) (sym same) took))
    (is ∙ ap (λ (p : ℕ). reply_to pdu.call_id p first) (here ∙ ap (λ (r : Reader). r.place) (sym same)))

-- ---- The counts

pub counts_err : {A B : Type 0} (why : CallFault) (reads reads_now writes writes_now : ℕ)
    → CallCounts {A = A} (Err why) reads reads_now writes writes_now → CallCounts {A = B} (Err why) reads reads_now writes writes_now
counts_err why reads reads_now writes writes_now counts = record {
  read = λ same. counts.read (cc);
  no_read = λ other. counts.no_read (λ same. other (cc));
  write = λ same. counts.write (cc);
  no_write = λ other. counts.no_write (λ same. other (cc));
}

-- an answer that was taken whole
pub counts_ok : {A B : Type 0} (value : A) (result : Result B CallFault) (reads reads_now writes writes_now : ℕ)
    → CallCounts {A = A} (Ok value) reads reads_now writes writes_now
    → (result ≡ Err call_fault.ReadFault → ⊥) → (result ≡ Err call_fault.WriteFault → ⊥)
    → CallCounts result reads reads_now writes writes_now
counts_ok value result reads reads_now writes writes_now counts no_read no_write = record {
  read = λ same. absurd (no_read same);
  no_read = λ other. counts.no_read (λ same. cc);
  write = λ same. absurd (no_write same);
  no_write = λ other. counts.no_write (λ same. cc);
}

-- ---- Sessions

pub opens_none_both : (old mid new : Option (List Entry)) → OpensNone old mid → OpensNone mid new → OpensNone old new
opens_none_both old mid new (inl same) next = subst (λ (t : Option (List Entry)). OpensNone t new) same next
opens_none_both old mid new (inr first) (inl same) = inr (subst (λ (t : Option (List Entry)). LastTold {A = Entry} (λ before now. ⊤) old t) (sym same) first)
opens_none_both old mid new (inr first) (inr next) = inr (last_told_more _ _ _ old mid new (λ x y z a b. tt) first next)

-- ---- The reader

-- a reader moves over one PDU at most
pub moves_by_one : (first : Result (Option Pdu) PduFault) (old new : Reader) (is_open : Bool) (told now : Option (List Entry))
    → Nexts first old new is_open told now → IfOk first (λ next. IfSome next PduFits) → new.place ≤ old.place + 5840
moves_by_one (Ok (Some pdu)) old new is_open told now nexts fits = omega (arith, ap (λ (r : Reader). r.place) nexts.reader, fits.within)
moves_by_one (Ok None) old new is_open told now nexts fits = omega (arith, ap (λ (r : Reader). r.place) nexts.reader)
moves_by_one (Err wrong) old new is_open told now nexts fits = omega (arith, ap (λ (r : Reader). r.place) nexts.reader)
