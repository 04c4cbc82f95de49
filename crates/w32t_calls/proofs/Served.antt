-- How an open session stands once a PDU was taken of it and answered.
use Rattle.std.proofs.Common.{◌≡◌, inl, inr, ℕ, ◌+◌, true, List, [], ◌∷◌, ◌++◌, length, take, Some, Result, Ok, Err, refl, sym, ◌∙◌, ap, arith, subst, length-append}
use Rattle.std.proofs.lemmas.List.{append-nil}
use Rattle.edge_traits.specs.Wire.{FailsToWrite, SessionTold, TakesOf, Written, WritesTo, with_front}
use Rattle.rpc_pdu.specs.declared.pdu.Pdu.{Pdu}
use Rattle.rpc_pdu.specs.Fill.{TakesThenFails}
use Rattle.rpc_pdu.specs.Pdu.{pdu_bytes}
use Rattle.w32t_calls.specs.declared.asked.Asked.{Asked}
use Rattle.w32t_calls.specs.declared.call.Call.{Call}
use Rattle.w32t_calls.specs.declared.call.Given.{Given}
use Rattle.w32t_calls.specs.declared.end.SessionEnd.{SessionEnd}
use Rattle.w32t_calls.specs.declared.end.SessionEnd.TheVariants as end
use Rattle.w32t_calls.specs.Serving.{Served, session_of, written_at}
use Rattle.w32t_calls.specs.Standing.{HasEnded, IsCutShort, Marks, Serves, Server, StandsFor, TookFrom, front_of}
use Rattle.w32t_calls.specs.Steps.{Keeps}
use Rattle.w32t_calls.proofs.Advances.{Advance, Stop, Stopped, advanced, comes_to, stopped}
use Rattle.w32t_calls.proofs.Firsts.{Quietly, waits_at}

-- the server stands for what was taken of the session, and what was written to it is what that comes to
pub record Stood (server : Server) (answers : List Given) (session : SessionTold) : Type 0 where
  pub stands : StandsFor server session.taken answers
  pub writes : session.writes ≡ (session_of session.taken answers).writes

-- these bytes were taken, and nothing else changed
took_from : (bytes : List ℕ) (before now : SessionTold) → TakesOf bytes before now → TookFrom before now
took_from bytes before now took = record { bytes = bytes; left = took.0; taken = ap (λ (s : SessionTold). s.taken) took.1 }

took_then : (bytes : List ℕ) (before mid now : SessionTold) → TakesOf bytes before mid → now.taken ≡ mid.taken → now.left ≡ mid.left → TookFrom before now
took_then bytes before mid now took taken left = record {
  bytes = bytes;
  left = took.0 ∙ ap (λ (l : List ℕ). bytes ++ l) (sym left);
  taken = taken ∙ ap (λ (s : SessionTold). s.taken) took.1;
}

-- an answer that is no failed read or write leaves the marks
pub marks_kept : {A : Type 0} (result : Result A SessionEnd) (before now : SessionTold) → (result ≡ Err end.ReadFault → ⊥) → (result ≡ Err end.WriteFault → ⊥)
    → now.read_failed ≡ before.read_failed → now.write_failed ≡ before.write_failed → Marks result before now
marks_kept result before now no_read no_write read write = record {
  read = λ same. absurd (no_read same);
  no_read = λ other. read;
  write = λ same. absurd (no_write same);
  no_write = λ other. write;
}

-- a failed write marks the session
pub marks_written : {A : Type 0} (before now : SessionTold) → now.read_failed ≡ before.read_failed → now.write_failed ≡ true → Marks {A = A} (Err end.WriteFault) before now
marks_written before now read write = record {
  read = λ same. absurd cc;
  no_read = λ other. read;
  write = λ same. write;
  no_write = λ other. absurd (other refl);
}

-- What the answer to the bytes taken adds: this write, and no call.
pub record Due (taken bytes : List ℕ) (answers : List Given) (place : ℕ) (answer : Pdu) : Type 0 where
  pub writes_more : (session_of (taken ++ bytes) answers).writes ≡ (session_of taken answers).writes ++ written_at place answer ∷ []
  pub calls_more : (session_of (taken ++ bytes) answers).calls ≡ (session_of taken answers).calls ++ []

-- where a write stands
place_is : (server : Server) (answers : List Given) (bytes : List ℕ) (before mid : SessionTold) (place : ℕ) → Stood server answers before → TakesOf bytes before mid
    → place ≡ server.reader.place + length bytes → length mid.taken ≡ place
place_is server answers bytes before mid place stood took at =
    omega (arith, at, stood.stands.place, ap (λ (s : SessionTold). length s.taken) took.1, length-append before.taken bytes)

-- the answer was written
wrote_more : (server : Server) (answers : List Given) (bytes piece : List ℕ) (before mid now : SessionTold) (place : ℕ) → Stood server answers before → TakesOf bytes before mid
    → WritesTo piece mid now → place ≡ server.reader.place + length bytes
    → now.writes ≡ (session_of before.taken answers).writes ++ record { behind = place; bytes = piece } ∷ []
wrote_more server answers bytes piece before mid now place stood took wrote at =
    let earlier : mid.writes ≡ (session_of before.taken answers).writes = ap (λ (s : SessionTold). s.writes) took.1 ∙ stood.writes in
    let here = place_is server answers bytes before mid place stood took at in
    ap (λ (s : SessionTold). s.writes) wrote
    ∙ ap (λ (l : List Written). l ++ record { behind = length mid.taken; bytes = piece } ∷ []) earlier
    ∙ ap (λ (n : ℕ). (session_of before.taken answers).writes ++ record { behind = n; bytes = piece } ∷ []) here

-- a front of the answer was written
front_more : (front : List ℕ) (mid : SessionTold) (earlier : List Written) (place : ℕ) → mid.writes ≡ earlier → length mid.taken ≡ place
    → (with_front front mid).writes ≡ earlier ++ front_of place front
front_more [] mid earlier place writes here = writes ∙ sym (append-nil earlier)
front_more (byte ∷ front) mid earlier place writes here =
    ap (λ (l : List Written). l ++ record { behind = length mid.taken; bytes = byte ∷ front } ∷ []) writes
    ∙ ap (λ (n : ℕ). earlier ++ record { behind = n; bytes = byte ∷ front } ∷ []) here

front_taken : (front : List ℕ) (mid : SessionTold) → (with_front front mid).taken ≡ mid.taken
front_taken [] mid = refl
front_taken (byte ∷ front) mid = refl

front_left : (front : List ℕ) (mid : SessionTold) → (with_front front mid).left ≡ mid.left
front_left [] mid = refl
front_left (byte ∷ front) mid = refl

front_read : (front : List ℕ) (mid : SessionTold) → (with_front front mid).read_failed ≡ mid.read_failed
front_read [] mid = refl
front_read (byte ∷ front) mid = refl

-- What a failed write did.
pub record CutOff (piece : List ℕ) (place : ℕ) (earlier : List Written) (mid now : SessionTold) : Type 0 where
  pub taken : now.taken ≡ mid.taken
  pub left : now.left ≡ mid.left
  pub read : now.read_failed ≡ mid.read_failed
  pub write : now.write_failed ≡ true
  pub cut : IsCutShort now.writes (earlier ++ record { behind = place; bytes = piece } ∷ []) (length now.taken)

pub cut_off : (piece : List ℕ) (place : ℕ) (earlier : List Written) (mid now : SessionTold) → FailsToWrite piece mid now → mid.writes ≡ earlier → length mid.taken ≡ place
    → CutOff piece place earlier mid now
cut_off piece place earlier mid now failed writes here =
    let front = take failed.0 piece in
    record {
      taken = ap (λ (s : SessionTold). s.taken) failed.2 ∙ front_taken front mid;
      left = ap (λ (s : SessionTold). s.left) failed.2 ∙ front_left front mid;
      read = ap (λ (s : SessionTold). s.read_failed) failed.2 ∙ front_read front mid;
      write = ap (λ (s : SessionTold). s.write_failed) failed.2;
      cut = record {
        earlier = earlier;
        last = record { behind = place; bytes = piece };
        count = failed.0;
        all = refl;
        place = sym here ∙ ap length (sym (ap (λ (s : SessionTold). s.taken) failed.2 ∙ front_taken front mid));
        within = failed.1;
        front = ap (λ (s : SessionTold). s.writes) failed.2 ∙ front_more front mid earlier place writes here;
      };
    }

-- ---- A PDU was taken

-- what is taken of a session now
taken_now : (bytes : List ℕ) (before mid now : SessionTold) → TakesOf bytes before mid → now.taken ≡ mid.taken → now.taken ≡ before.taken ++ bytes
taken_now bytes before mid now took same = same ∙ ap (λ (s : SessionTold). s.taken) took.1

-- it was answered, and the server goes on
pub keeps_on : (old new : Server) (answers : List Given) (bytes : List ℕ) (answer : Pdu) (before mid now : SessionTold) → Stood old answers before
    → Advance old new bytes (written_at new.reader.place answer ∷ []) [] → TakesOf bytes before mid → WritesTo (pdu_bytes answer) mid now → Keeps answers new before now
keeps_on old new answers bytes answer before mid now stood advance took wrote =
    let a = advanced old new before.taken bytes answers (written_at new.reader.place answer ∷ []) [] stood.stands advance in
    let same_taken = ap (λ (s : SessionTold). s.taken) wrote in
    let same : now.taken ≡ before.taken ++ bytes = taken_now bytes before mid now took same_taken in
    record {
      took = took_then bytes before mid now took same_taken (ap (λ (s : SessionTold). s.left) wrote);
      read_failed = ap (λ (s : SessionTold). s.read_failed) wrote ∙ ap (λ (s : SessionTold). s.read_failed) took.1;
      write_failed = ap (λ (s : SessionTold). s.write_failed) wrote ∙ ap (λ (s : SessionTold). s.write_failed) took.1;
      calls = ap (λ (l : List ℕ). (session_of l answers).calls) same ∙ a.calls_more ∙ append-nil (session_of before.taken answers).calls;
      stands = subst (λ (l : List ℕ). StandsFor new l answers) (sym same) a.stands;
      writes = wrote_more old answers bytes (pdu_bytes answer) before mid now new.reader.place stood took wrote advance.place
          ∙ sym a.writes_more ∙ ap (λ (l : List ℕ). (session_of l answers).writes) (sym same);
    }

-- its answer was cut off
pub serves_cut : (old new : Server) (answers : List Given) (bytes : List ℕ) (place : ℕ) (answer : Pdu) (before mid now : SessionTold) → Stood old answers before
    → Due before.taken bytes answers place answer → place ≡ old.reader.place + length bytes → TakesOf bytes before mid → FailsToWrite (pdu_bytes answer) mid now
    → Serves (Err end.WriteFault) answers new before now
serves_cut old new answers bytes place answer before mid now stood due at took failed =
    let here = place_is old answers bytes before mid place stood took at in
    let writes : mid.writes ≡ (session_of before.taken answers).writes = ap (λ (s : SessionTold). s.writes) took.1 ∙ stood.writes in
    let off = cut_off (pdu_bytes answer) place (session_of before.taken answers).writes mid now failed writes here in
    let same : now.taken ≡ before.taken ++ bytes = taken_now bytes before mid now took off.taken in
    record {
      took = took_then bytes before mid now took off.taken off.left;
      marks = marks_written before now (off.read ∙ ap (λ (s : SessionTold). s.read_failed) took.1) off.write;
      calls = ap (λ (l : List ℕ). (session_of l answers).calls) same ∙ due.calls_more;
      stands = subst (λ (l : List Written). IsCutShort now.writes l (length now.taken)) (sym due.writes_more ∙ ap (λ (l : List ℕ). (session_of l answers).writes) (sym same)) off.cut;
    }

-- it asks for a call
pub serves_call : (old new : Server) (answers : List Given) (bytes : List ℕ) (asked : Asked) (before now : SessionTold) → Stood old answers before
    → Advance old new bytes [] (asked.call ∷ []) → new.waiting ≡ Some asked → TakesOf bytes before now → Serves (Ok asked.call) answers new before now
serves_call old new answers bytes asked before now stood advance waits took =
    let a = advanced old new before.taken bytes answers [] (asked.call ∷ []) stood.stands advance in
    let same : now.taken ≡ before.taken ++ bytes = ap (λ (s : SessionTold). s.taken) took.1 in
    record {
      took = took_from bytes before now took;
      marks = marks_kept (Ok asked.call) before now (λ is. cc) (λ is. cc) (ap (λ (s : SessionTold). s.read_failed) took.1) (ap (λ (s : SessionTold). s.write_failed) took.1);
      calls = ap (λ (l : List ℕ). (session_of l answers).calls) same ∙ a.calls_more;
      stands = (
        subst (λ (l : List ℕ). StandsFor new l answers) (sym same) a.stands,
        ap (λ (l : List ℕ). (session_of l answers).end) same ∙ a.end_is ∙ ap (λ (s : Served). s.end) (waits_at new asked [] [] waits),
        ap (λ (s : SessionTold). s.writes) took.1 ∙ stood.writes ∙ sym (append-nil (session_of before.taken answers).writes) ∙ sym a.writes_more
            ∙ ap (λ (l : List ℕ). (session_of l answers).writes) (sym same),
      );
    }

-- ---- The session ended

has_ended : (answers : List Given) (bytes : List ℕ) (writes : List Written) (why : SessionEnd) (before now : SessionTold)
    → now.taken ≡ before.taken ++ bytes → now.writes ≡ (session_of before.taken answers).writes ++ writes
    → Stopped before.taken bytes now.left answers writes why → HasEnded why answers now
has_ended answers bytes writes why before now same wrote s = record {
  end = ap (λ (l : List ℕ). (session_of l answers).end) same ∙ s.end;
  place = ap length same ∙ s.place ∙ ap (λ (l : List ℕ). (session_of l answers).place) (sym same);
  whole = ap (λ (l : List ℕ). session_of (l ++ now.left) answers) same ∙ s.whole ∙ ap (λ (l : List ℕ). session_of l answers) (sym same);
  writes = wrote ∙ sym s.writes_more ∙ ap (λ (l : List ℕ). (session_of l answers).writes) (sym same);
}

-- by what a client may not send, which was answered
pub serves_bad : (old new : Server) (answers : List Given) (bytes : List ℕ) (place : ℕ) (answer : Pdu) (before mid now : SessionTold) → Stood old answers before
    → Stop old bytes now.left (written_at place answer ∷ []) end.BadPdu → place ≡ old.reader.place + length bytes
    → TakesOf bytes before mid → WritesTo (pdu_bytes answer) mid now → Serves (Err end.BadPdu) answers new before now
serves_bad old new answers bytes place answer before mid now stood stop at took wrote =
    let s = stopped old before.taken bytes now.left answers (written_at place answer ∷ []) end.BadPdu stood.stands stop in
    let same_taken = ap (λ (s : SessionTold). s.taken) wrote in
    let same : now.taken ≡ before.taken ++ bytes = taken_now bytes before mid now took same_taken in
    record {
      took = took_then bytes before mid now took same_taken (ap (λ (s : SessionTold). s.left) wrote);
      marks = marks_kept (Err end.BadPdu) before now (λ is. cc) (λ is. cc)
          (ap (λ (s : SessionTold). s.read_failed) wrote ∙ ap (λ (s : SessionTold). s.read_failed) took.1)
          (ap (λ (s : SessionTold). s.write_failed) wrote ∙ ap (λ (s : SessionTold). s.write_failed) took.1);
      calls = ap (λ (l : List ℕ). (session_of l answers).calls) same ∙ s.calls_more;
      stands = has_ended answers bytes (written_at place answer ∷ []) end.BadPdu before now same
          (wrote_more old answers bytes (pdu_bytes answer) before mid now place stood took wrote at) s;
    }

-- A session that ended without an answer.
pub record EndsHere (why : SessionEnd) (answers : List Given) (before now : SessionTold) : Type 0 where
  pub took : TookFrom before now
  pub read_failed : now.read_failed ≡ before.read_failed
  pub write_failed : now.write_failed ≡ before.write_failed
  pub calls : (session_of now.taken answers).calls ≡ (session_of before.taken answers).calls ++ []
  pub ended : HasEnded why answers now

pub ends_here : (old : Server) (answers : List Given) (bytes : List ℕ) (why : SessionEnd) (before now : SessionTold) → Stood old answers before
    → Stop old bytes now.left [] why → TakesOf bytes before now → EndsHere why answers before now
ends_here old answers bytes why before now stood stop took =
    let s = stopped old before.taken bytes now.left answers [] why stood.stands stop in
    let same : now.taken ≡ before.taken ++ bytes = ap (λ (s : SessionTold). s.taken) took.1 in
    record {
      took = took_from bytes before now took;
      read_failed = ap (λ (s : SessionTold). s.read_failed) took.1;
      write_failed = ap (λ (s : SessionTold). s.write_failed) took.1;
      calls = ap (λ (l : List ℕ). (session_of l answers).calls) same ∙ s.calls_more;
      ended = has_ended answers bytes [] why before now same
          (ap (λ (s : SessionTold). s.writes) took.1 ∙ stood.writes ∙ sym (append-nil (session_of before.taken answers).writes)) s;
    }

-- a read of it failed
pub serves_failed : (old new : Server) (answers : List Given) (bytes : List ℕ) (before now : SessionTold) → Stood old answers before
    → Quietly old bytes → TakesThenFails bytes before now → Serves (Err end.ReadFault) answers new before now
serves_failed old new answers bytes before now stood quiet failed =
    let same : now.taken ≡ before.taken ++ bytes = ap (λ (s : SessionTold). s.taken) failed.1 in
    let comes = ap (λ (l : List ℕ). session_of l answers) same ∙ comes_to old before.taken bytes answers stood.stands in
    record {
      took = record { bytes = bytes; left = failed.0; taken = same };
      marks = record {
        read = λ is. ap (λ (s : SessionTold). s.read_failed) failed.1;
        no_read = λ other. absurd (other refl);
        write = λ is. absurd cc;
        no_write = λ other. ap (λ (s : SessionTold). s.write_failed) failed.1;
      };
      calls = ap (λ (s : Served). s.calls) comes ∙ ap (λ (l : List Call). (session_of before.taken answers).calls ++ l) quiet.calls;
      stands = (
        ap (λ (s : SessionTold). s.writes) failed.1 ∙ stood.writes ∙ sym (append-nil (session_of before.taken answers).writes)
            ∙ ap (λ (l : List Written). (session_of before.taken answers).writes ++ l) (sym quiet.writes) ∙ ap (λ (s : Served). s.writes) (sym comes),
        elim quiet.end [ inl ended ↦ inl (ap (λ (s : Served). s.end) comes ∙ ended) | inr torn ↦ inr (ap (λ (s : Served). s.end) comes ∙ torn) ],
      );
    }
