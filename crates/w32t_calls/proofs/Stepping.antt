-- What one PDU does to the wire and to the server's side, from what was taken of the wire and written to it.
use Rattle.std.proofs.Common.{◌≡◌, ℕ, ◌+◌, true, List, [], ◌∷◌, ◌++◌, length, Option, Some, None, Result, Ok, Err, refl, sym, ◌∙◌, ap, arith, subst}
use Rattle.base_specs.specs.Told.{LastIs, LastTold}
use Rattle.edge_traits.specs.Wire.{Entry, FailsToWrite, Session, SessionChanged, SessionIs, SessionTold, TakesOf, WireTook, WritesTo}
use Rattle.rpc_pdu.specs.declared.pdu.Pdu.{Pdu}
use Rattle.rpc_pdu.specs.Fill.{IsAtEnd, TakesThenFails, WireFailed}
use Rattle.rpc_pdu.specs.Pdu.{first_pdu, pdu_bytes, pdu_len}
use Rattle.rpc_pdu.specs.Reader.{Leaves}
use Rattle.w32t_calls.specs.declared.asked.Asked.{Asked}
use Rattle.w32t_calls.specs.declared.call.Call.{Call}
use Rattle.w32t_calls.specs.declared.call.Given.{Given}
use Rattle.w32t_calls.specs.declared.end.SessionEnd.{SessionEnd}
use Rattle.w32t_calls.specs.declared.end.SessionEnd.TheVariants as end
use Rattle.w32t_calls.specs.declared.reaction.Reaction.{Reaction}
use Rattle.w32t_calls.specs.declared.reaction.Reaction.TheVariants.{Answers, Binds, Calls, Ends}
use Rattle.w32t_calls.specs.Answers.{reaction}
use Rattle.w32t_calls.specs.Serving.{Served, session_of, written_at}
use Rattle.w32t_calls.specs.Standing.{HasServed, Serves, Server, StandsFor, goes_on}
use Rattle.w32t_calls.specs.Steps.{Done, Failed, Keeps, Puts, Reacts, StepTells, StepsOn}
use Rattle.w32t_calls.proofs.Advances.{Advance, Stop, advanced, stopped}
use Rattle.w32t_calls.proofs.Firsts.{Behind, Idle, Quietly, advance_answer, advance_bind, advance_call, stop_end, waits_at}
use Rattle.w32t_calls.proofs.Served.{Stood, ends_here, keeps_on, marks_kept, serves_bad, serves_call, serves_cut, serves_failed}
use Rattle.w32t_calls.proofs.Sessions.{untold, known, changed_seen, last_changed, nothing_left, opened, silent, silent_took, took_seen}

-- what the session is that a server stands for
abbrev pub IsStood : Server → List Given → SessionTold → Type 0
IsStood server answers told = StandsFor server told.taken answers × (told.writes ≡ (session_of told.taken answers).writes)

pub stood_of : (server : Server) (answers : List Given) (told : SessionTold) → IsStood server answers told → Stood server answers told
stood_of server answers told is = record { stands = is.0; writes = is.1 }

-- a wire that tells nothing
pub untold_changed : {A : Type 0} (f : A → A → Type 0) (told now : Option (List A)) → told ≡ None → now ≡ None → LastTold f told now
untold_changed f told now was is =
    subst (λ (t : Option (List _)). LastTold f t now) (sym was) (subst (λ (n : Option (List _)). LastTold f None n) (sym is) tt)

untold_took : (bytes : List ℕ) (told now : Option (List Entry)) → told ≡ None → WireTook bytes told now → now ≡ None
untold_took bytes told now is took = silent_took bytes now (subst (λ (t : Option (List Entry)). WireTook bytes t now) is took)

untold_by : (g : SessionTold → SessionTold → Type 0) (told now : Option (List Entry)) → told ≡ None → LastTold (SessionChanged g) told now → now ≡ None
untold_by g told now is changed = silent g now (subst (λ (t : Option (List Entry)). LastTold (SessionChanged g) t now) is changed)

-- bytes were taken of the open session, and then it changed so
pub taken_then : (such : SessionTold → Type 0) (g h : SessionTold → SessionTold → Type 0) (bytes : List ℕ) (told between now : Option (List Entry))
    → LastIs (SessionIs such) told → WireTook bytes told between → LastTold (SessionChanged g) between now
    → ((x y z : SessionTold) → such x → TakesOf bytes x y → g y z → h x z) → LastTold (SessionChanged h) told now
taken_then such g h bytes told between now last took changed both =
    elim (opened such told last) [
      | untold is ↦ untold_changed (SessionChanged h) told now is (untold_by g between now (untold_took bytes told between is took) changed)
      | known earlier before is holds ↦
          let a = took_seen bytes earlier before told between is took in
          let b = changed_seen g earlier a.after between now a.told changed in
          last_changed h earlier before told now is (record { after = b.after; told = b.told; changed = both before a.after b.after holds a.changed b.changed })
    ]

-- bytes were taken of the open session
pub taken_alone : (such : SessionTold → Type 0) (h : SessionTold → SessionTold → Type 0) (bytes : List ℕ) (told now : Option (List Entry))
    → LastIs (SessionIs such) told → WireTook bytes told now
    → ((earlier : List Entry) (x y : SessionTold) → such x → TakesOf bytes x y → now ≡ Some (earlier ++ Session y ∷ []) → h x y) → LastTold (SessionChanged h) told now
taken_alone such h bytes told now last took so =
    elim (opened such told last) [
      | untold is ↦ untold_changed (SessionChanged h) told now is (untold_took bytes told now is took)
      | known earlier before is holds ↦
          let a = took_seen bytes earlier before told now is took in
          last_changed h earlier before told now is (record { after = a.after; told = a.told; changed = so earlier before a.after holds a.changed a.told })
    ]

-- the open session changed so
pub changed_alone : (such : SessionTold → Type 0) (g h : SessionTold → SessionTold → Type 0) (told now : Option (List Entry))
    → LastIs (SessionIs such) told → LastTold (SessionChanged g) told now → ((x y : SessionTold) → such x → g x y → h x y) → LastTold (SessionChanged h) told now
changed_alone such g h told now last changed so =
    elim (opened such told last) [
      | untold is ↦ untold_changed (SessionChanged h) told now is (untold_by g told now is changed)
      | known earlier before is holds ↦
          let a = changed_seen g earlier before told now is changed in
          last_changed h earlier before told now is (record { after = a.after; told = a.told; changed = so before a.after holds a.changed })
    ]

-- ---- With the answers so far

-- a PDU was answered, and the server goes on
pub run_answer : (old new : Server) (answers : List Given) (bytes : List ℕ) (answer : Pdu) (result : Result (Option Call) SessionEnd) (told between now : Option (List Entry))
    → Advance old new bytes (written_at new.reader.place answer ∷ []) [] → WireTook bytes told between → Puts answer (Ok None) result true between now
    → HasServed answers old told → StepsOn result answers new told now
run_answer old new answers bytes answer result told between now advance took (Done wrote is) served =
    subst (λ (r : Result (Option Call) SessionEnd). StepsOn r answers new told now) (sym is)
    (taken_then (IsStood old answers) (WritesTo (pdu_bytes answer)) (Keeps answers new) bytes told between now served took wrote.1
    (λ x y z holds first next. keeps_on old new answers bytes answer x y z (stood_of old answers x holds) advance first next))
run_answer old new answers bytes answer result told between now advance took (Failed wrote is) served =
    subst (λ (r : Result (Option Call) SessionEnd). StepsOn r answers new told now) (sym is)
    (taken_then (IsStood old answers) (FailsToWrite (pdu_bytes answer)) (Serves (Err end.WriteFault) answers new) bytes told between now served took (wrote.0 refl)
    (λ x y z holds first next.
    let a = advanced old new x.taken bytes answers (written_at new.reader.place answer ∷ []) [] holds.0 advance in
    serves_cut old new answers bytes new.reader.place answer x y z (stood_of old answers x holds)
    (record { writes_more = a.writes_more; calls_more = a.calls_more }) advance.place first next))

-- what came was answered by a fault, and the session ends
pub run_end : (old new : Server) (answers : List Given) (bytes : List ℕ) (place : ℕ) (answer : Pdu) (result : Result (Option Call) SessionEnd) (told between now : Option (List Entry))
    → ((left : List ℕ) → Stop old bytes left (written_at place answer ∷ []) end.BadPdu) → place ≡ old.reader.place + length bytes
    → WireTook bytes told between → Puts answer (Err end.BadPdu) result true between now → HasServed answers old told → StepsOn result answers new told now
run_end old new answers bytes place answer result told between now stop at took (Done wrote is) served =
    subst (λ (r : Result (Option Call) SessionEnd). StepsOn r answers new told now) (sym is)
    (taken_then (IsStood old answers) (WritesTo (pdu_bytes answer)) (Serves (Err end.BadPdu) answers new) bytes told between now served took wrote.1
    (λ x y z holds first next. serves_bad old new answers bytes place answer x y z (stood_of old answers x holds) (stop z.left) at first next))
run_end old new answers bytes place answer result told between now stop at took (Failed wrote is) served =
    subst (λ (r : Result (Option Call) SessionEnd). StepsOn r answers new told now) (sym is)
    (taken_then (IsStood old answers) (FailsToWrite (pdu_bytes answer)) (Serves (Err end.WriteFault) answers new) bytes told between now served took (wrote.0 refl)
    (λ x y z holds first next.
    let s = stopped old x.taken bytes [] answers (written_at place answer ∷ []) end.BadPdu holds.0 (stop []) in
    serves_cut old new answers bytes place answer x y z (stood_of old answers x holds)
    (record { writes_more = s.writes_more; calls_more = s.calls_more }) at first next))

-- a call is handed out
pub run_call : (old new : Server) (answers : List Given) (bytes : List ℕ) (asked : Asked) (result : Result (Option Call) SessionEnd) (told between now : Option (List Entry))
    → Advance old new bytes [] (asked.call ∷ []) → new.waiting ≡ Some asked → WireTook bytes told between → result ≡ Ok (Some asked.call) → now ≡ between
    → HasServed answers old told → StepsOn result answers new told now
run_call old new answers bytes asked result told between now advance waits took is same served =
    subst (λ (r : Result (Option Call) SessionEnd). StepsOn r answers new told now) (sym is)
    (taken_alone (IsStood old answers) (Serves (Ok asked.call) answers new) bytes told now served (subst (λ (n : Option (List Entry)). WireTook bytes told n) (sym same) took)
    (λ earlier x y holds first at. serves_call old new answers bytes asked x y (stood_of old answers x holds) advance waits first))

-- the session ended between two PDUs, or inside one
pub run_ended : (old new : Server) (answers : List Given) (told now : Option (List Entry)) → Stop old [] [] [] end.Ended → WireTook [] told now → IsAtEnd true now
    → HasServed answers old told → StepsOn (Err end.Ended) answers new told now
run_ended old new answers told now stop took at_end served =
    taken_alone (IsStood old answers) (Serves (Err end.Ended) answers new) [] told now served took
    (λ earlier x y holds first at.
    let none = nothing_left earlier y now at at_end in
    let e = ends_here old answers [] end.Ended x y (stood_of old answers x holds) (subst (λ (l : List ℕ). Stop old [] l [] end.Ended) (sym none) stop) first in
    record { took = e.took; marks = marks_kept (Err end.Ended) x y (λ is. cc) (λ is. cc) e.read_failed e.write_failed; calls = e.calls; stands = (e.ended, none) })

pub run_torn : (old new : Server) (answers : List Given) (bytes : List ℕ) (told now : Option (List Entry)) → Stop old bytes [] [] end.Torn → WireTook bytes told now → IsAtEnd true now
    → HasServed answers old told → StepsOn (Err end.Torn) answers new told now
run_torn old new answers bytes told now stop took at_end served =
    taken_alone (IsStood old answers) (Serves (Err end.Torn) answers new) bytes told now served took
    (λ earlier x y holds first at.
    let none = nothing_left earlier y now at at_end in
    let e = ends_here old answers bytes end.Torn x y (stood_of old answers x holds) (subst (λ (l : List ℕ). Stop old bytes l [] end.Torn) (sym none) stop) first in
    record { took = e.took; marks = marks_kept (Err end.Torn) x y (λ is. cc) (λ is. cc) e.read_failed e.write_failed; calls = e.calls; stands = (e.ended, none) })

-- a read failed
pub run_failed : (old new : Server) (answers : List Given) (bytes : List ℕ) (told now : Option (List Entry)) → Quietly old bytes → WireFailed bytes told now
    → HasServed answers old told → StepsOn (Err end.ReadFault) answers new told now
run_failed old new answers bytes told now quiet failed served =
    changed_alone (IsStood old answers) (TakesThenFails bytes) (Serves (Err end.ReadFault) answers new) told now served failed
    (λ x y holds fails. serves_failed old new answers bytes x y (stood_of old answers x holds) quiet fails)

-- The server's side once a PDU was taken, before it does what the PDU leads to.
pub record TookPdu (old mid : Server) (pdu : Pdu) : Type 0 where
  pub behind : Behind old mid pdu
  pub waiting : mid.waiting ≡ None
  pub accepted : mid.accepted ≡ old.accepted
  pub alive : mid.alive ≡ true

-- What was taken is this PDU.
pub record IsPdu (old : Server) (bytes : List ℕ) (pdu : Pdu) : Type 0 where
  pub idle : Idle old
  pub size : length bytes ≡ pdu_len pdu
  pub first : first_pdu old.reader.place bytes ≡ Ok (Some pdu)

behind_same : (old mid new : Server) (pdu : Pdu) → Behind old mid pdu → new.reader.place ≡ mid.reader.place → new.pdus ≡ mid.pdus → Behind old new pdu
behind_same old mid new pdu behind place pdus = record { place = place ∙ behind.place; pdus = pdus ∙ behind.pdus }

advance_by_answer : (old mid new : Server) (bytes : List ℕ) (pdu answer : Pdu) → IsPdu old bytes pdu → TookPdu old mid pdu → reaction old.accepted pdu ≡ Answers answer → new ≡ mid
    → Advance old new bytes (written_at new.reader.place answer ∷ []) []
advance_by_answer old mid new bytes pdu answer is took leads same =
    subst (λ (s : Server). Advance old s bytes (written_at s.reader.place answer ∷ []) []) (sym same)
    (advance_answer old mid bytes pdu answer is.idle is.size is.first leads took.behind took.waiting took.accepted)

advance_by_bind : (old mid new : Server) (bytes : List ℕ) (pdu answer : Pdu) (accepted : List ℕ) → IsPdu old bytes pdu → TookPdu old mid pdu
    → reaction old.accepted pdu ≡ Binds answer accepted → new ≡ record mid { accepted = accepted } → Advance old new bytes (written_at new.reader.place answer ∷ []) []
advance_by_bind old mid new bytes pdu answer accepted is took leads same =
    advance_bind old new bytes pdu answer accepted is.idle is.size is.first leads
    (behind_same old mid new pdu took.behind (ap (λ (s : Server). s.reader.place) same) (ap (λ (s : Server). s.pdus) same))
    (ap (λ (s : Server). s.waiting) same ∙ took.waiting) (ap (λ (s : Server). s.accepted) same)

advance_by_call : (old mid new : Server) (bytes : List ℕ) (pdu : Pdu) (asked : Asked) → IsPdu old bytes pdu → TookPdu old mid pdu
    → reaction old.accepted pdu ≡ Calls asked → new ≡ record mid { waiting = Some asked } → Advance old new bytes [] (asked.call ∷ [])
advance_by_call old mid new bytes pdu asked is took leads same =
    advance_call old new bytes pdu asked is.idle is.size is.first leads
    (behind_same old mid new pdu took.behind (ap (λ (s : Server). s.reader.place) same) (ap (λ (s : Server). s.pdus) same))
    (ap (λ (s : Server). s.waiting) same) (ap (λ (s : Server). s.accepted) same ∙ took.accepted)

stop_by_end : (old mid : Server) (bytes left : List ℕ) (pdu answer : Pdu) → IsPdu old bytes pdu → TookPdu old mid pdu → reaction old.accepted pdu ≡ Ends answer
    → Stop old bytes left (written_at mid.reader.place answer ∷ []) end.BadPdu
stop_by_end old mid bytes left pdu answer is took leads = stop_end old mid bytes left pdu answer is.idle is.size is.first leads took.behind

-- a PDU was taken, and what it leads to was done
pub run_pdu : (does : Reaction) (old mid new : Server) (answers : List Given) (bytes : List ℕ) (pdu : Pdu) (result : Result (Option Call) SessionEnd) (told between now : Option (List Entry))
    → IsPdu old bytes pdu → TookPdu old mid pdu → reaction old.accepted pdu ≡ does → WireTook bytes told between → Reacts does result mid new true between now
    → HasServed answers old told → StepsOn result answers new told now
run_pdu (Answers answer) old mid new answers bytes pdu result told between now is took leads first does served =
    run_answer old new answers bytes answer result told between now (advance_by_answer old mid new bytes pdu answer is took leads does.1) first does.0 served
run_pdu (Binds answer accepted) old mid new answers bytes pdu result told between now is took leads first does served =
    run_answer old new answers bytes answer result told between now (advance_by_bind old mid new bytes pdu answer accepted is took leads does.1) first does.0 served
run_pdu (Calls asked) old mid new answers bytes pdu result told between now is took leads first does served =
    run_call old new answers bytes asked result told between now (advance_by_call old mid new bytes pdu asked is took leads does.2)
    (ap (λ (s : Server). s.waiting) does.2) first does.0 does.1 served
run_pdu (Ends answer) old mid new answers bytes pdu result told between now is took leads first does served =
    run_end old new answers bytes mid.reader.place answer result told between now
    (λ left. stop_by_end old mid bytes left pdu answer is took leads)
    (omega (arith, took.behind.place, is.size)) first does.0 served

-- ---- By the bytes left

-- what is left of a session of which these bytes were taken
record Left (bytes left : List ℕ) (now : Option (List Entry)) : Type 0 where
  earlier : List Entry
  after : SessionTold
  told : now ≡ Some (earlier ++ Session after ∷ [])
  cut : left ≡ bytes ++ after.left

left_took : (bytes left : List ℕ) (told now : Option (List Entry)) → Leaves true told left → WireTook bytes told now → Left bytes left now
left_took bytes left told now leaves took =
    let a = took_seen bytes leaves.0 leaves.1 told now leaves.2 took in
    record { earlier = leaves.0; after = a.after; told = a.told; cut = sym leaves.3 ∙ a.changed.0 }

left_wrote : (bytes left piece : List ℕ) (between now : Option (List Entry)) → Left bytes left between → LastTold (SessionChanged (WritesTo piece)) between now → Left bytes left now
left_wrote bytes left piece between now l wrote =
    let a = changed_seen (WritesTo piece) l.earlier l.after between now l.told wrote in
    record {
      earlier = l.earlier;
      after = a.after;
      told = a.told;
      cut = l.cut ∙ ap (λ (x : List ℕ). bytes ++ x) (sym (ap (λ (s : SessionTold). s.left) a.changed));
    }

tell_answer : (old new : Server) (bytes left : List ℕ) (answer : Pdu) (result : Result (Option Call) SessionEnd) (told between now : Option (List Entry))
    → Advance old new bytes (written_at new.reader.place answer ∷ []) [] → Leaves true told left → WireTook bytes told between → Puts answer (Ok None) result true between now
    → (result ≡ Err end.WriteFault → ⊥) → StepTells result old left new true now
tell_answer old new bytes left answer result told between now advance leaves took (Done wrote is) no_write =
    let l = left_wrote bytes left (pdu_bytes answer) between now (left_took bytes left told between leaves took) wrote.1 in
    subst (λ (r : Result (Option Call) SessionEnd). StepTells r old left new true now) (sym is) (
      l.after.left,
      (l.earlier, l.after, l.told, refl),
      ap (λ (x : List ℕ). (goes_on old x []).end) l.cut ∙ ap (λ (s : Served). s.end) (advance.goes l.after.left []),
    )
tell_answer old new bytes left answer result told between now advance leaves took (Failed wrote is) no_write = absurd (no_write is)

pub tell_end : (old new : Server) (bytes left : List ℕ) (writes : ℕ) (answer : Pdu) (result : Result (Option Call) SessionEnd) (told between now : Option (List Entry))
    → ((rest : List ℕ) → Stop old bytes rest (written_at writes answer ∷ []) end.BadPdu) → Leaves true told left → WireTook bytes told between
    → Puts answer (Err end.BadPdu) result true between now → (result ≡ Err end.WriteFault → ⊥) → StepTells result old left new true now
tell_end old new bytes left writes answer result told between now stop leaves took (Done wrote is) no_write =
    let l = left_took bytes left told between leaves took in
    subst (λ (r : Result (Option Call) SessionEnd). StepTells r old left new true now) (sym is)
    (ap (λ (x : List ℕ). (goes_on old x []).end) l.cut ∙ ap (λ (s : Served). s.end) (stop l.after.left).whole)
tell_end old new bytes left writes answer result told between now stop leaves took (Failed wrote is) no_write = absurd (no_write is)

-- the end of a session of which nothing is left
pub tell_left : (old : Server) (bytes left : List ℕ) (why : SessionEnd) (told now : Option (List Entry)) → Stop old bytes [] [] why → Leaves true told left → WireTook bytes told now
    → IsAtEnd true now → (goes_on old left []).end ≡ Err why
tell_left old bytes left why told now stop leaves took at_end =
    let l = left_took bytes left told now leaves took in
    let none = nothing_left l.earlier l.after now l.told at_end in
    ap (λ (x : List ℕ). (goes_on old x []).end) (l.cut ∙ ap (λ (x : List ℕ). bytes ++ x) none) ∙ ap (λ (s : Served). s.end) stop.whole

pub tell_pdu : (does : Reaction) (old mid new : Server) (bytes left : List ℕ) (pdu : Pdu) (result : Result (Option Call) SessionEnd) (told between now : Option (List Entry))
    → IsPdu old bytes pdu → TookPdu old mid pdu → reaction old.accepted pdu ≡ does → WireTook bytes told between → Reacts does result mid new true between now
    → Leaves true told left → (result ≡ Err end.WriteFault → ⊥) → StepTells result old left new true now
tell_pdu (Answers answer) old mid new bytes left pdu result told between now is took leads first does leaves no_write =
    tell_answer old new bytes left answer result told between now (advance_by_answer old mid new bytes pdu answer is took leads does.1) leaves first does.0 no_write
tell_pdu (Binds answer accepted) old mid new bytes left pdu result told between now is took leads first does leaves no_write =
    tell_answer old new bytes left answer result told between now (advance_by_bind old mid new bytes pdu answer accepted is took leads does.1) leaves first does.0 no_write
tell_pdu (Calls asked) old mid new bytes left pdu result told between now is took leads first does leaves no_write =
    let advance = advance_by_call old mid new bytes pdu asked is took leads does.2 in
    let l = left_took bytes left told between leaves first in
    subst (λ (r : Result (Option Call) SessionEnd). StepTells r old left new true now) (sym does.0)
    (ap (λ (x : List ℕ). (goes_on old x []).end) l.cut ∙ ap (λ (s : Served). s.end) (advance.goes l.after.left [])
    ∙ ap (λ (s : Served). s.end) (waits_at new asked l.after.left [] (ap (λ (s : Server). s.waiting) does.2)))
tell_pdu (Ends answer) old mid new bytes left pdu result told between now is took leads first does leaves no_write =
    tell_end old new bytes left mid.reader.place answer result told between now
    (λ rest. stop_by_end old mid bytes rest pdu answer is took leads) leaves first does.0 no_write
