-- What one PDU or fault that was taken does, as the clauses of one step say it.
use Rattle.std.proofs.Common.{◌≡◌, ℕ, ◌+◌, ◌≤◌, Bool, true, false, List, [], ◌∷◌, length, Option, Some, None, Result, Ok, Err, refl, sym, ◌∙◌, ap, arith, subst}
use Rattle.std.specs.Option.{unwrap_or}
use Rattle.std.proofs.lemmas.Bool.{cond-false, le-ltb}
use Rattle.base_specs.specs.Counts.{Fails}
use Rattle.byte_codec.specs.Numbers.{low_word_at}
use Rattle.edge_traits.specs.Wire.{Entry, WireTook}
use Rattle.rpc_pdu.specs.declared.fault.PduFault.{PduFault}
use Rattle.rpc_pdu.specs.declared.fault.PduFault.TheVariants as fault
use Rattle.rpc_pdu.specs.declared.pdu.Pdu.{Pdu}
use Rattle.rpc_pdu.specs.Reader.{Leaves, NextCounts, Nexts, Reader, TookBy}
use Rattle.rpc_pdu.proofs.Flaws.{first_flawed}
use Rattle.w32t_calls.specs.declared.call.Call.{Call}
use Rattle.w32t_calls.specs.declared.call.Given.{Given}
use Rattle.w32t_calls.specs.declared.end.SessionEnd.{SessionEnd}
use Rattle.w32t_calls.specs.declared.end.SessionEnd.TheVariants as end
use Rattle.w32t_calls.specs.declared.reaction.Reaction.{Reaction}
use Rattle.w32t_calls.specs.declared.reaction.Reaction.TheVariants.{Answers, Binds, Calls, Ends}
use Rattle.w32t_calls.specs.Answers.{fault_pdu, protocol_error, reaction}
use Rattle.w32t_calls.specs.Serving.{Served, written_at}
use Rattle.w32t_calls.specs.Standing.{HasServed, IsIdle, ServeCounts, Server, goes_on}
use Rattle.w32t_calls.specs.Steps.{Done, EndsBy, Failed, Puts, Reacts, StepKeeps, StepTells, StepsOn, WriteCounts, unanswered}
use Rattle.w32t_calls.proofs.Advances.{Stop}
use Rattle.w32t_calls.proofs.Firsts.{Idle, fault_answer, fault_shown, quietly, stop_ended, stop_fault, stop_torn}
use Rattle.w32t_calls.proofs.Stepping.{IsPdu, TookPdu, run_end, run_ended, run_failed, run_pdu, run_torn, tell_end, tell_left, tell_pdu}

-- ---- A PDU

-- what the reader took is the PDU
is_pdu : (old : Server) (reader : Reader) (pdu : Pdu) (told between : Option (List Entry)) → Idle old → (n : Nexts (Ok (Some pdu)) old.reader reader true told between) → IsPdu old n.takes.taken pdu
is_pdu old reader pdu told between idle n = record { idle = idle; size = n.takes.shows.0; first = n.takes.shows.1 }

-- the server's side that took it
pub took_pdu : (old mid : Server) (pdu : Pdu) (told between : Option (List Entry)) (is_open : Bool) → IsIdle old → Nexts (Ok (Some pdu)) old.reader mid.reader is_open told between
    → mid.alive ≡ old.alive → mid.waiting ≡ old.waiting → mid.accepted ≡ old.accepted → mid.pdus ≡ old.pdus + 1 → TookPdu old mid pdu
took_pdu old mid pdu told between is_open idle n alive waiting accepted pdus = record {
  behind = record { place = ap (λ (r : Reader). r.place) n.reader; pdus = pdus };
  waiting = waiting ∙ idle.1;
  accepted = accepted;
  alive = alive ∙ idle.0;
}

pub pdu_runs : (old mid new : Server) (pdu : Pdu) (result : Result (Option Call) SessionEnd) (told between now : Option (List Entry)) (is_open is_open_mid : Bool) (answers : List Given)
    → Idle old → Nexts (Ok (Some pdu)) old.reader mid.reader is_open told between → TookPdu old mid pdu → Reacts (reaction mid.accepted pdu) result mid new is_open_mid between now
    → is_open_mid ≡ is_open → is_open ≡ true → HasServed answers old told → StepsOn result answers new told now
pdu_runs old mid new pdu result told between now true is_open_mid answers idle n took does same is served =
    run_pdu (reaction mid.accepted pdu) old mid new answers n.takes.taken pdu result told between now (is_pdu old mid.reader pdu told between idle n) took
    (ap (λ (l : List ℕ). reaction l pdu) (sym took.accepted)) n.takes.took
    (subst (λ (o : Bool). Reacts (reaction mid.accepted pdu) result mid new o between now) same does) served
pdu_runs old mid new pdu result told between now false is_open_mid answers idle n took does same is served = absurd cc

-- where no session is open no PDU is taken
closed_pdu : (old : Server) (reader : Reader) (pdu : Pdu) (told between : Option (List Entry)) → Nexts (Ok (Some pdu)) old.reader reader false told between → ⊥
closed_pdu old reader pdu told between n = omega (arith, ap length (n.takes.closed refl), n.takes.shows.0)

pub pdu_tells : (old mid new : Server) (pdu : Pdu) (result : Result (Option Call) SessionEnd) (told between now : Option (List Entry)) (is_open is_open_mid is_open_now : Bool) (bytes : List ℕ)
    → Idle old → Nexts (Ok (Some pdu)) old.reader mid.reader is_open told between → TookPdu old mid pdu → Reacts (reaction mid.accepted pdu) result mid new is_open_mid between now
    → is_open_mid ≡ is_open → is_open_now ≡ is_open_mid → Leaves is_open told bytes → (result ≡ Err end.WriteFault → ⊥) → StepTells result old bytes new is_open_now now
pdu_tells old mid new pdu result told between now true is_open_mid is_open_now bytes idle n took does same same_now leaves no_write =
    subst (λ (o : Bool). StepTells result old bytes new o now) (sym (same_now ∙ same))
    (tell_pdu (reaction mid.accepted pdu) old mid new n.takes.taken bytes pdu result told between now (is_pdu old mid.reader pdu told between idle n) took
    (ap (λ (l : List ℕ). reaction l pdu) (sym took.accepted)) n.takes.took
    (subst (λ (o : Bool). Reacts (reaction mid.accepted pdu) result mid new o between now) same does) leaves no_write)
pdu_tells old mid new pdu result told between now false is_open_mid is_open_now bytes idle n took does same same_now leaves no_write =
    absurd (closed_pdu old mid.reader pdu told between n)

keeps_put : (answer : Pdu) (old new : Server) (result : Result (Option Call) SessionEnd) (is_open : Bool) (between now : Option (List Entry)) → Puts answer (Ok None) result is_open between now
    → IsIdle new → new.pdus ≡ old.pdus + 1 → StepKeeps result old new
keeps_put answer old new result is_open between now (Done wrote is) idle pdus = subst (λ (r : Result (Option Call) SessionEnd). StepKeeps r old new) (sym is) (idle, pdus)
keeps_put answer old new result is_open between now (Failed wrote is) idle pdus = subst (λ (r : Result (Option Call) SessionEnd). StepKeeps r old new) (sym is) tt

keeps_end : (answer : Pdu) (old new : Server) (result : Result (Option Call) SessionEnd) (is_open : Bool) (between now : Option (List Entry)) → Puts answer (Err end.BadPdu) result is_open between now
    → StepKeeps result old new
keeps_end answer old new result is_open between now (Done wrote is) = subst (λ (r : Result (Option Call) SessionEnd). StepKeeps r old new) (sym is) tt
keeps_end answer old new result is_open between now (Failed wrote is) = subst (λ (r : Result (Option Call) SessionEnd). StepKeeps r old new) (sym is) tt

pub pdu_keeps : (does : Reaction) (old mid new : Server) (pdu : Pdu) (result : Result (Option Call) SessionEnd) (is_open : Bool) (between now : Option (List Entry))
    → TookPdu old mid pdu → old.alive ≡ true → Reacts does result mid new is_open between now → StepKeeps result old new
pdu_keeps (Answers answer) old mid new pdu result is_open between now took alive does =
    keeps_put answer old new result is_open between now does.0
    (ap (λ (s : Server). s.alive) does.1 ∙ took.alive, ap (λ (s : Server). s.waiting) does.1 ∙ took.waiting) (ap (λ (s : Server). s.pdus) does.1 ∙ took.behind.pdus)
pdu_keeps (Binds answer accepted) old mid new pdu result is_open between now took alive does =
    keeps_put answer old new result is_open between now does.0
    (ap (λ (s : Server). s.alive) does.1 ∙ took.alive, ap (λ (s : Server). s.waiting) does.1 ∙ took.waiting) (ap (λ (s : Server). s.pdus) does.1 ∙ took.behind.pdus)
pdu_keeps (Calls asked) old mid new pdu result is_open between now took alive does =
    subst (λ (r : Result (Option Call) SessionEnd). StepKeeps r old new) (sym does.0)
    (ap (λ (s : Server). s.alive) does.2 ∙ took.alive ∙ sym alive, (asked, ap (λ (s : Server). s.waiting) does.2, refl))
pdu_keeps (Ends answer) old mid new pdu result is_open between now took alive does = keeps_end answer old new result is_open between now does.0

-- counts that stood still before
pub counts_then : (result : Result (Option Call) SessionEnd) (reads reads_mid reads_now writes writes_mid writes_now : ℕ) → reads_mid ≡ reads → writes_mid ≡ writes
    → ServeCounts result reads_mid reads_now writes_mid writes_now → ServeCounts result reads reads_now writes writes_now
counts_then result reads reads_mid reads_now writes writes_mid writes_now same_reads same_writes counts =
    subst (λ (n : ℕ). ServeCounts result n reads_now writes writes_now) same_reads (subst (λ (n : ℕ). ServeCounts result reads_mid reads_now n writes_now) same_writes counts)

-- ---- The end of the bytes

pub end_runs : (old new : Server) (reader : Reader) (told now : Option (List Entry)) (is_open : Bool) (answers : List Given) → Idle old → Nexts (Ok None) old.reader reader is_open told now
    → is_open ≡ true → HasServed answers old told → StepsOn (Err end.Ended) answers new told now
end_runs old new reader told now true answers idle n is served =
    run_ended old new answers told now (stop_ended old idle) (subst (λ (l : List ℕ). WireTook l told now) n.takes.shows.0 n.takes.took) n.takes.shows.1 served
end_runs old new reader told now false answers idle n is served = absurd cc

pub end_tells : (old : Server) (reader : Reader) (told now : Option (List Entry)) (is_open : Bool) (bytes : List ℕ) → Idle old → Nexts (Ok None) old.reader reader is_open told now
    → Leaves is_open told bytes → (goes_on old bytes []).end ≡ Err end.Ended
end_tells old reader told now true bytes idle n leaves =
    tell_left old [] bytes end.Ended told now (stop_ended old idle) leaves (subst (λ (l : List ℕ). WireTook l told now) n.takes.shows.0 n.takes.took) n.takes.shows.1
end_tells old reader told now false bytes idle n leaves =
    ap (λ (l : List ℕ). (goes_on old l []).end) leaves ∙ ap (λ (s : Served). s.end) (stop_ended old idle).alone

-- ---- A fault

-- a fault that is answered took bytes, and no read failed
took_answered : (wrong : PduFault) (taken : List ℕ) (told now : Option (List Entry)) → unanswered wrong ≡ None → TookBy (Err wrong) taken told now → WireTook taken told now
took_answered (fault.BadVersion at) taken told now none took = took
took_answered (fault.BadType at) taken told now none took = took
took_answered (fault.BadFragment at) taken told now none took = took
took_answered (fault.BadDrep at) taken told now none took = took
took_answered (fault.BadLength at) taken told now none took = took
took_answered (fault.BadAuth at) taken told now none took = took
took_answered (fault.BadBody at) taken told now none took = took
took_answered (fault.Torn at) taken told now none took = took
took_answered fault.ReadFault taken told now none took = absurd cc

-- the call identifier that answers it
id_is : (old : Server) (wrong : PduFault) (reader : Reader) (told between : Option (List Entry)) (call_id : ℕ) → (n : Nexts (Err wrong) old.reader reader true told between)
    → 16 ≤ length n.takes.taken → call_id ≡ unwrap_or reader.last_call 0 → call_id ≡ low_word_at 12 n.takes.taken
id_is old wrong reader told between call_id n enough is =
    let last : reader.last_call ≡ Some (low_word_at 12 n.takes.taken) =
    ap (λ (r : Reader). r.last_call) n.reader ∙ cond-false _ _ _ (le-ltb (length n.takes.taken) 16 enough) in
    is ∙ ap (λ (o : Option ℕ). unwrap_or o 0) last

-- What a fault that is answered does.
record Answered (old : Server) (taken : List ℕ) (result : Result (Option Call) SessionEnd) (told between now : Option (List Entry)) : Type 0 where
  stop : (left : List ℕ) → Stop old taken left (written_at (old.reader.place + length taken) (fault_answer taken) ∷ []) end.BadPdu
  took : WireTook taken told between
  puts : Puts (fault_answer taken) (Err end.BadPdu) result true between now

answered : (old : Server) (wrong : PduFault) (reader : Reader) (call_id : ℕ) (result : Result (Option Call) SessionEnd) (told between now : Option (List Entry)) → unanswered wrong ≡ None
    → Idle old → (n : Nexts (Err wrong) old.reader reader true told between) → call_id ≡ unwrap_or reader.last_call 0
    → EndsBy (unanswered wrong) call_id result true between now → Answered old n.takes.taken result told between now
answered old wrong reader call_id result told between now none idle n id ends =
    let shown = fault_shown wrong old.reader.place n.takes.taken true between none n.takes.shows in
    let puts = subst (λ (o : Option SessionEnd). EndsBy o call_id result true between now) none ends in
    record {
      stop = λ left. stop_fault old old n.takes.taken left wrong idle shown;
      took = took_answered wrong n.takes.taken told between none n.takes.took;
      puts = subst (λ (k : ℕ). Puts (fault_pdu k 0 protocol_error) (Err end.BadPdu) result true between now) (id_is old wrong reader told between call_id n shown.enough id) puts;
    }

runs_answered : (old new : Server) (wrong : PduFault) (reader : Reader) (call_id : ℕ) (result : Result (Option Call) SessionEnd) (told between now : Option (List Entry)) (answers : List Given)
    → unanswered wrong ≡ None → Idle old → Nexts (Err wrong) old.reader reader true told between → call_id ≡ unwrap_or reader.last_call 0
    → EndsBy (unanswered wrong) call_id result true between now → HasServed answers old told → StepsOn result answers new told now
runs_answered old new wrong reader call_id result told between now answers none idle n id ends served =
    let a = answered old wrong reader call_id result told between now none idle n id ends in
    run_end old new answers n.takes.taken (old.reader.place + length n.takes.taken) (fault_answer n.takes.taken) result told between now a.stop refl a.took a.puts served

tells_answered : (old new : Server) (wrong : PduFault) (reader : Reader) (call_id : ℕ) (result : Result (Option Call) SessionEnd) (told between now : Option (List Entry)) (bytes : List ℕ)
    → unanswered wrong ≡ None → Idle old → Nexts (Err wrong) old.reader reader true told between → call_id ≡ unwrap_or reader.last_call 0
    → EndsBy (unanswered wrong) call_id result true between now → Leaves true told bytes → (result ≡ Err end.WriteFault → ⊥) → StepTells result old bytes new true now
tells_answered old new wrong reader call_id result told between now bytes none idle n id ends leaves no_write =
    let a = answered old wrong reader call_id result told between now none idle n id ends in
    tell_end old new n.takes.taken bytes (old.reader.place + length n.takes.taken) (fault_answer n.takes.taken) result told between now a.stop leaves a.took a.puts no_write

-- whether a fault is answered
data Kind (wrong : PduFault) : Type 0 where
  bad : unanswered wrong ≡ None → Kind wrong
  torn : (at : ℕ) → wrong ≡ fault.Torn at → Kind wrong
  unread : wrong ≡ fault.ReadFault → Kind wrong

kind_of : (wrong : PduFault) → Kind wrong
kind_of (fault.BadVersion at) = bad refl
kind_of (fault.BadType at) = bad refl
kind_of (fault.BadFragment at) = bad refl
kind_of (fault.BadDrep at) = bad refl
kind_of (fault.BadLength at) = bad refl
kind_of (fault.BadAuth at) = bad refl
kind_of (fault.BadBody at) = bad refl
kind_of (fault.Torn at) = torn at refl
kind_of fault.ReadFault = unread refl

runs_torn : (old new : Server) (at : ℕ) (reader : Reader) (call_id : ℕ) (result : Result (Option Call) SessionEnd) (told between now : Option (List Entry)) (answers : List Given)
    → Idle old → Nexts (Err (fault.Torn at)) old.reader reader true told between → EndsBy (Some end.Torn) call_id result true between now
    → HasServed answers old told → StepsOn result answers new told now
runs_torn old new at reader call_id result told between now answers idle n ends served =
    subst (λ (r : Result (Option Call) SessionEnd). StepsOn r answers new told now) (sym ends.0)
    (subst (λ (t : Option (List Entry)). StepsOn (Err end.Torn) answers new told t) (sym ends.1)
    (run_torn old new answers n.takes.taken told between (stop_torn old n.takes.taken at idle n.takes.shows.0) n.takes.took n.takes.shows.1 served))

runs_unread : (old new : Server) (reader : Reader) (call_id : ℕ) (result : Result (Option Call) SessionEnd) (told between now : Option (List Entry)) (answers : List Given)
    → Idle old → Nexts (Err fault.ReadFault) old.reader reader true told between → EndsBy (Some end.ReadFault) call_id result true between now
    → HasServed answers old told → StepsOn result answers new told now
runs_unread old new reader call_id result told between now answers idle n ends served =
    subst (λ (r : Result (Option Call) SessionEnd). StepsOn r answers new told now) (sym ends.0)
    (subst (λ (t : Option (List Entry)). StepsOn (Err end.ReadFault) answers new told t) (sym ends.1)
    (run_failed old new answers n.takes.taken told between (quietly old n.takes.taken idle (λ some. first_flawed old.reader.place n.takes.taken _ some n.takes.shows.0)) n.takes.took served))

runs_open : (old new : Server) (wrong : PduFault) (reader : Reader) (call_id : ℕ) (result : Result (Option Call) SessionEnd) (told between now : Option (List Entry)) (answers : List Given)
    → Idle old → Nexts (Err wrong) old.reader reader true told between → call_id ≡ unwrap_or reader.last_call 0
    → EndsBy (unanswered wrong) call_id result true between now → HasServed answers old told → StepsOn result answers new told now
runs_open old new wrong reader call_id result told between now answers idle n id ends served =
    elim (kind_of wrong) [
      | bad none ↦ runs_answered old new wrong reader call_id result told between now answers none idle n id ends served
      | torn at is ↦
          runs_torn old new at reader call_id result told between now answers idle
          (subst (λ (w : PduFault). Nexts (Err w) old.reader reader true told between) is n)
          (subst (λ (w : PduFault). EndsBy (unanswered w) call_id result true between now) is ends) served
      | unread is ↦
          runs_unread old new reader call_id result told between now answers idle
          (subst (λ (w : PduFault). Nexts (Err w) old.reader reader true told between) is n)
          (subst (λ (w : PduFault). EndsBy (unanswered w) call_id result true between now) is ends) served
    ]

pub fault_runs : (old new : Server) (wrong : PduFault) (reader : Reader) (call_id : ℕ) (result : Result (Option Call) SessionEnd) (told between now : Option (List Entry)) (is_open is_open_mid : Bool)
    (answers : List Given) → Idle old → Nexts (Err wrong) old.reader reader is_open told between → call_id ≡ unwrap_or reader.last_call 0
    → EndsBy (unanswered wrong) call_id result is_open_mid between now → is_open_mid ≡ is_open → is_open ≡ true → HasServed answers old told → StepsOn result answers new told now
fault_runs old new wrong reader call_id result told between now true is_open_mid answers idle n id ends same is served =
    runs_open old new wrong reader call_id result told between now answers idle n id (subst (λ (o : Bool). EndsBy (unanswered wrong) call_id result o between now) same ends) served
fault_runs old new wrong reader call_id result told between now false is_open_mid answers idle n id ends same is served = absurd cc

tells_torn : (old new : Server) (at : ℕ) (reader : Reader) (call_id : ℕ) (result : Result (Option Call) SessionEnd) (told between now : Option (List Entry)) (bytes : List ℕ)
    → Idle old → Nexts (Err (fault.Torn at)) old.reader reader true told between → EndsBy (Some end.Torn) call_id result true between now
    → Leaves true told bytes → StepTells result old bytes new true now
tells_torn old new at reader call_id result told between now bytes idle n ends leaves =
    subst (λ (r : Result (Option Call) SessionEnd). StepTells r old bytes new true now) (sym ends.0)
    (tell_left old n.takes.taken bytes end.Torn told between (stop_torn old n.takes.taken at idle n.takes.shows.0) leaves n.takes.took n.takes.shows.1)

read_end : (w : PduFault) (call_id : ℕ) (result : Result (Option Call) SessionEnd) (is_open : Bool) (between now : Option (List Entry)) → w ≡ fault.ReadFault
    → EndsBy (unanswered w) call_id result is_open between now → result ≡ Err end.ReadFault
read_end w call_id result is_open between now is ends =
    let e = subst (λ (w : PduFault). EndsBy (unanswered w) call_id result is_open between now) is ends in
    e.0

tells_open : (old new : Server) (wrong : PduFault) (reader : Reader) (call_id : ℕ) (result : Result (Option Call) SessionEnd) (told between now : Option (List Entry)) (bytes : List ℕ)
    → Idle old → Nexts (Err wrong) old.reader reader true told between → call_id ≡ unwrap_or reader.last_call 0
    → EndsBy (unanswered wrong) call_id result true between now → Leaves true told bytes
    → (result ≡ Err end.ReadFault → ⊥) → (result ≡ Err end.WriteFault → ⊥) → StepTells result old bytes new true now
tells_open old new wrong reader call_id result told between now bytes idle n id ends leaves no_read no_write =
    elim (kind_of wrong) [
      | bad none ↦ tells_answered old new wrong reader call_id result told between now bytes none idle n id ends leaves no_write
      | torn at is ↦
          tells_torn old new at reader call_id result told between now bytes idle
          (subst (λ (w : PduFault). Nexts (Err w) old.reader reader true told between) is n)
          (subst (λ (w : PduFault). EndsBy (unanswered w) call_id result true between now) is ends) leaves
      | unread is ↦ absurd (no_read (read_end wrong call_id result true between now is ends))
    ]

pub fault_tells : (old new : Server) (wrong : PduFault) (reader : Reader) (call_id : ℕ) (result : Result (Option Call) SessionEnd) (told between now : Option (List Entry))
    (is_open is_open_mid is_open_now : Bool) (bytes : List ℕ) → Idle old → Nexts (Err wrong) old.reader reader is_open told between → (is_open ≡ false → ⊥)
    → call_id ≡ unwrap_or reader.last_call 0 → EndsBy (unanswered wrong) call_id result is_open_mid between now → is_open_mid ≡ is_open → is_open_now ≡ is_open_mid
    → Leaves is_open told bytes → (result ≡ Err end.ReadFault → ⊥) → (result ≡ Err end.WriteFault → ⊥) → StepTells result old bytes new is_open_now now
fault_tells old new wrong reader call_id result told between now true is_open_mid is_open_now bytes idle n opened id ends same same_now leaves no_read no_write =
    subst (λ (o : Bool). StepTells result old bytes new o now) (sym (same_now ∙ same))
    (tells_open old new wrong reader call_id result told between now bytes idle n id
    (subst (λ (o : Bool). EndsBy (unanswered wrong) call_id result o between now) same ends) leaves no_read no_write)
fault_tells old new wrong reader call_id result told between now false is_open_mid is_open_now bytes idle n opened id ends same same_now leaves no_read no_write = absurd (opened refl)

pub fault_not_none : (w : PduFault) → ◌≡◌ {A = Result (Option Pdu) PduFault} (Err w) (Ok None) → ⊥
fault_not_none w same = cc

-- what a fault does to the counts
bad_not_read : ◌≡◌ {A = Result (Option Call) SessionEnd} (Err end.BadPdu) (Err end.ReadFault) → ⊥
bad_not_read same = cc

write_not_read : ◌≡◌ {A = Result (Option Call) SessionEnd} (Err end.WriteFault) (Err end.ReadFault) → ⊥
write_not_read same = cc

torn_not_read : ◌≡◌ {A = Result (Option Call) SessionEnd} (Err end.Torn) (Err end.ReadFault) → ⊥
torn_not_read same = cc

puts_no_read : (answer : Pdu) (result : Result (Option Call) SessionEnd) (is_open : Bool) (between now : Option (List Entry)) → Puts answer (Err end.BadPdu) result is_open between now
    → result ≡ Err end.ReadFault → ⊥
puts_no_read answer result is_open between now (Done wrote is) same = bad_not_read (sym is ∙ same)
puts_no_read answer result is_open between now (Failed wrote is) same = write_not_read (sym is ∙ same)

stands_answered : (wrong : PduFault) (reads reads_mid : ℕ) → unanswered wrong ≡ None → NextCounts (Err wrong) reads reads_mid → reads_mid ≡ reads
stands_answered (fault.BadVersion at) reads reads_mid none next = next
stands_answered (fault.BadType at) reads reads_mid none next = next
stands_answered (fault.BadFragment at) reads reads_mid none next = next
stands_answered (fault.BadDrep at) reads reads_mid none next = next
stands_answered (fault.BadLength at) reads reads_mid none next = next
stands_answered (fault.BadAuth at) reads reads_mid none next = next
stands_answered (fault.BadBody at) reads reads_mid none next = next
stands_answered (fault.Torn at) reads reads_mid none next = next
stands_answered fault.ReadFault reads reads_mid none next = absurd cc

-- a failed read, and no other fault, raises the count
read_fails : (wrong : PduFault) (call_id : ℕ) (result : Result (Option Call) SessionEnd) (is_open : Bool) (between now : Option (List Entry)) (reads reads_mid : ℕ)
    → NextCounts (Err wrong) reads reads_mid → EndsBy (unanswered wrong) call_id result is_open between now → result ≡ Err end.ReadFault → Fails reads reads_mid
read_fails wrong call_id result is_open between now reads reads_mid next ends is =
    elim (kind_of wrong) [
      | bad none ↦
          let puts = subst (λ (o : Option SessionEnd). EndsBy o call_id result is_open between now) none ends in
          absurd (puts_no_read (fault_pdu call_id 0 protocol_error) result is_open between now puts is)
      | torn at same ↦
          let e = subst (λ (w : PduFault). EndsBy (unanswered w) call_id result is_open between now) same ends in
          absurd (torn_not_read (sym e.0 ∙ is))
      | unread same ↦ subst (λ (w : PduFault). NextCounts (Err w) reads reads_mid) same next
    ]

read_stands : (wrong : PduFault) (call_id : ℕ) (result : Result (Option Call) SessionEnd) (is_open : Bool) (between now : Option (List Entry)) (reads reads_mid : ℕ)
    → NextCounts (Err wrong) reads reads_mid → EndsBy (unanswered wrong) call_id result is_open between now → (result ≡ Err end.ReadFault → ⊥) → reads_mid ≡ reads
read_stands wrong call_id result is_open between now reads reads_mid next ends other =
    elim (kind_of wrong) [
      | bad none ↦ stands_answered wrong reads reads_mid none next
      | torn at same ↦ subst (λ (w : PduFault). NextCounts (Err w) reads reads_mid) same next
      | unread same ↦ absurd (other (read_end wrong call_id result is_open between now same ends))
    ]

pub counts_fault : (wrong : PduFault) (call_id : ℕ) (result : Result (Option Call) SessionEnd) (is_open : Bool) (between now : Option (List Entry)) (reads reads_mid reads_now writes writes_mid writes_now : ℕ)
    → NextCounts (Err wrong) reads reads_mid → reads_now ≡ reads_mid → writes_mid ≡ writes → EndsBy (unanswered wrong) call_id result is_open between now
    → WriteCounts result writes_mid writes_now → ServeCounts result reads reads_now writes writes_now
counts_fault wrong call_id result is_open between now reads reads_mid reads_now writes writes_mid writes_now next same_reads same_writes ends counts = record {
  read = λ is. subst (λ (n : ℕ). Fails reads n) (sym same_reads) (read_fails wrong call_id result is_open between now reads reads_mid next ends is);
  no_read = λ other. same_reads ∙ read_stands wrong call_id result is_open between now reads reads_mid next ends other;
  write = λ is. subst (λ (n : ℕ). Fails n writes_now) same_writes (counts.write is);
  no_write = λ other. counts.no_write other ∙ same_writes;
}
