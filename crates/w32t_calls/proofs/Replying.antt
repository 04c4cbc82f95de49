-- What a response does to the server's side.
use Rattle.std.proofs.Common.{◌≡◌, ℕ, Bool, true, List, [], ◌∷◌, ◌++◌, Option, Some, None, Result, Ok, Err, sym, ◌∙◌, ap, append_assoc, length, subst}
use Rattle.std.proofs.lemmas.List.{append-nil}
use Rattle.edge_traits.specs.Wire.{Entry, FailsToWrite, SessionTold, WireWrites, Written, WritesTo}
use Rattle.edge_traits.specs.declared.sink.Put.TheVariants as put
use Rattle.rpc_pdu.specs.declared.pdu.Pdu.{Pdu}
use Rattle.rpc_pdu.specs.Pdu.{pdu_bytes}
use Rattle.rpc_pdu.specs.Reader.{Reader}
use Rattle.w32t_calls.specs.declared.asked.Asked.{Asked}
use Rattle.w32t_calls.specs.declared.call.Given.{Given}
use Rattle.w32t_calls.specs.declared.end.SessionEnd.{SessionEnd}
use Rattle.w32t_calls.specs.declared.end.SessionEnd.TheVariants as end
use Rattle.w32t_calls.specs.Answers.{response_to}
use Rattle.w32t_calls.specs.Serving.{Served, and_then, answers_first, session_of, written_at}
use Rattle.w32t_calls.specs.Standing.{HasServed, IsCutShort, Replied, Replies, Server, StandsFor, goes_on}
use Rattle.w32t_calls.proofs.Advances.{quiet}
use Rattle.w32t_calls.proofs.Served.{cut_off, marks_kept, marks_written}
use Rattle.w32t_calls.proofs.Stepping.{IsStood, changed_alone}

done_not_read : ◌≡◌ {A = Result (Unit {0}) SessionEnd} (Ok tt) (Err end.ReadFault) → ⊥
done_not_read same = cc

done_not_write : ◌≡◌ {A = Result (Unit {0}) SessionEnd} (Ok tt) (Err end.WriteFault) → ⊥
done_not_write same = cc

-- The server's side where this call waits, and once it was answered.
module _ (alive now_alive : Bool) (reader : Reader) (accepted : List ℕ) (pdus : ℕ) (asked : Asked) (given : Given) (answers : List Given) where
  abbrev pub waits : Server
  waits = record { alive = alive; reader = reader; accepted = accepted; pdus = pdus; waiting = Some asked }

  abbrev pub replied : Server
  replied = record { alive = now_alive; reader = reader; accepted = accepted; pdus = pdus; waiting = None }

  abbrev pub response : Pdu
  response = response_to asked given

  abbrev pub more_answers : List Given
  more_answers = answers ++ given ∷ []

  comes_more : (taken rest : List ℕ) (more : List Given) → StandsFor waits taken answers
      → session_of (taken ++ rest) (more_answers ++ more) ≡ and_then (session_of taken answers) (answers_first reader.place response (goes_on replied rest more))
  comes_more taken rest more stands =
      ap (session_of (taken ++ rest)) (append_assoc answers (given ∷ []) more) ∙ stands.comes rest (given ∷ more)

  -- what the bytes taken come to now
  record Answered (taken : List ℕ) : Type 0 where
    stands : StandsFor replied taken more_answers
    writes_more : (session_of taken more_answers).writes ≡ (session_of taken answers).writes ++ written_at reader.place response ∷ []

  answered : (taken : List ℕ) → StandsFor waits taken answers → Answered taken
  answered taken stands =
      let before = session_of taken answers in
      let now = session_of taken more_answers in
      let none = quiet replied in
      let all : now ≡ and_then before (answers_first reader.place response (goes_on replied [] [])) =
      ap (λ (l : List ℕ). session_of l more_answers) (sym (append-nil taken)) ∙ ap (session_of (taken ++ [])) (sym (append-nil more_answers)) ∙ comes_more taken [] [] stands in
      let writes_now : now.writes ≡ before.writes ++ written_at reader.place response ∷ [] =
      ap (λ (s : Served). s.writes) all ∙ ap (λ (l : List Written). before.writes ++ written_at reader.place response ∷ l) none.writes in
      let calls_now : now.calls ≡ before.calls =
      ap (λ (s : Served). s.calls) all ∙ ap (λ (l : List _). before.calls ++ l) none.calls ∙ append-nil before.calls in
      record {
        stands = record {
          place = stands.place;
          comes = λ rest more.
              let later = goes_on replied rest more in
              let writes_is : before.writes ++ written_at reader.place response ∷ later.writes ≡ now.writes ++ later.writes =
              sym (append_assoc before.writes (written_at reader.place response ∷ []) later.writes) ∙ ap (λ (l : List Written). l ++ later.writes) (sym writes_now) in
              let calls_is : before.calls ++ later.calls ≡ now.calls ++ later.calls = ap (λ (l : List _). l ++ later.calls) (sym calls_now) in
              let split : and_then before (answers_first reader.place response later) ≡ and_then now later =
              λ i. record { writes = writes_is i; calls = calls_is i; end = later.end; place = later.place } in
              comes_more taken rest more stands ∙ split;
        };
        writes_more = writes_now;
      }

  -- the response was written
  done : (x y : SessionTold) → IsStood waits answers x → WritesTo (pdu_bytes response) x y → Replies (Ok tt) more_answers replied x y
  done x y holds wrote =
      let a = answered x.taken holds.0 in
      let same : y.taken ≡ x.taken = ap (λ (s : SessionTold). s.taken) wrote in
      let wrote_now : y.writes ≡ (session_of x.taken more_answers).writes =
      ap (λ (s : SessionTold). s.writes) wrote
      ∙ ap (λ (l : List Written). l ++ written_at (length x.taken) response ∷ []) holds.1
      ∙ ap (λ (n : ℕ). (session_of x.taken answers).writes ++ written_at n response ∷ []) (sym holds.0.place)
      ∙ sym a.writes_more in
      record {
        left = ap (λ (s : SessionTold). s.left) wrote;
        taken = same;
        marks = marks_kept (Ok tt) x y done_not_read done_not_write (ap (λ (s : SessionTold). s.read_failed) wrote) (ap (λ (s : SessionTold). s.write_failed) wrote);
        stands = (
          subst (λ (l : List ℕ). StandsFor replied l more_answers) (sym same) a.stands,
          wrote_now ∙ ap (λ (l : List ℕ). (session_of l more_answers).writes) (sym same),
        );
      }

  -- a front of it was written
  failed : (x y : SessionTold) → IsStood waits answers x → FailsToWrite (pdu_bytes response) x y → Replies (Err end.WriteFault) more_answers replied x y
  failed x y holds fails =
      let a = answered x.taken holds.0 in
      let off = cut_off (pdu_bytes response) reader.place (session_of x.taken answers).writes x y fails holds.1 (sym holds.0.place) in
      record {
        left = off.left;
        taken = off.taken;
        marks = marks_written x y off.read off.write;
        stands = subst (λ (l : List Written). IsCutShort y.writes l (length y.taken))
            (sym a.writes_more ∙ ap (λ (l : List ℕ). (session_of l more_answers).writes) (sym off.taken)) off.cut;
      }

  pub reply_done : (told now : Option (List Entry)) (is_open : Bool) (answer : Pdu) → answer ≡ response → HasServed answers waits told
      → WireWrites put.Done is_open (pdu_bytes answer) told now → Replied (Ok tt) more_answers replied told now
  reply_done told now is_open answer is served wrote =
      changed_alone (IsStood waits answers) (WritesTo (pdu_bytes answer)) (Replies (Ok tt) more_answers replied) told now served wrote.1
      (λ x y holds writes. done x y holds (subst (λ (pdu : Pdu). WritesTo (pdu_bytes pdu) x y) is writes))

  pub reply_failed : (told now : Option (List Entry)) (is_open : Bool) (answer : Pdu) → is_open ≡ true → answer ≡ response → HasServed answers waits told
      → WireWrites put.Failed is_open (pdu_bytes answer) told now → Replied (Err end.WriteFault) more_answers replied told now
  reply_failed told now is_open answer opened is served wrote =
      changed_alone (IsStood waits answers) (FailsToWrite (pdu_bytes answer)) (Replies (Err end.WriteFault) more_answers replied) told now served (wrote.0 opened)
      (λ x y holds fails. failed x y holds (subst (λ (pdu : Pdu). FailsToWrite (pdu_bytes pdu) x y) is fails))
