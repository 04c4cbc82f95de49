-- What the server makes of bytes that were taken of a session: it goes on, or the session ends.
use Rattle.std.proofs.Common.{◌≡◌, ℕ, zero, suc, ◌+◌, ◌-◌, List, [], ◌++◌, length, Option, Some, None, Result, Err, refl, sym, ◌∙◌, ap, arith, length-append, append_assoc}
use Rattle.std.proofs.lemmas.List.{append-nil}
use Rattle.edge_traits.specs.Wire.{Written}
use Rattle.rpc_pdu.specs.declared.fault.PduFault.{PduFault}
use Rattle.rpc_pdu.specs.declared.pdu.Pdu.{Pdu}
use Rattle.rpc_pdu.proofs.Flaws.{first_none}
use Rattle.w32t_calls.specs.declared.asked.Asked.{Asked}
use Rattle.w32t_calls.specs.declared.call.Call.{Call}
use Rattle.w32t_calls.specs.declared.call.Given.{Given}
use Rattle.w32t_calls.specs.declared.end.SessionEnd.{SessionEnd}
use Rattle.w32t_calls.specs.declared.end.SessionEnd.TheVariants as end
use Rattle.w32t_calls.specs.Serving.{Served, and_then, by_first, most_pdus, served, session_of}
use Rattle.w32t_calls.specs.Standing.{Server, StandsFor, goes_on, goes_on_from}

-- what was written and called on the way
abbrev pub part : List Written → List Call → Served
part writes calls = record { writes = writes; calls = calls; end = Err end.Ended; place = 0 }

-- how a session ended
abbrev pub ended : ℕ → List Written → SessionEnd → Served
ended place writes why = record { writes = writes; calls = []; end = Err why; place = place }

-- From these bytes on the server goes on as another one does after them, once this was written and called.
pub record Advance (old new : Server) (bytes : List ℕ) (writes : List Written) (calls : List Call) : Type 0 where
  pub place : new.reader.place ≡ old.reader.place + length bytes
  pub goes : (rest : List ℕ) (more : List Given) → goes_on old (bytes ++ rest) more ≡ and_then (part writes calls) (goes_on new rest more)

-- With these bytes the session ends, whatever is left of it.
pub record Stop (old : Server) (bytes left : List ℕ) (writes : List Written) (why : SessionEnd) : Type 0 where
  pub alone : goes_on old bytes [] ≡ ended (old.reader.place + length bytes) writes why
  pub whole : goes_on old (bytes ++ left) [] ≡ ended (old.reader.place + length bytes) writes why

-- without a byte and an answer nothing is written, and no call is made
pub record Quiet (served : Served) : Type 0 where
  pub writes : served.writes ≡ []
  pub calls : served.calls ≡ []

pub quiet_served : (n place : ℕ) (accepted : List ℕ) → Quiet (served n place accepted [] [])
unfolding served
quiet_served zero place accepted = record { writes = refl; calls = refl }
quiet_served (suc n) place accepted =
    let step : (first : Result (Option Pdu) PduFault) → Served = by_first (served n) place accepted [] [] in
    record {
      writes = ap (λ (first : Result (Option Pdu) PduFault). (step first).writes) (first_none place);
      calls = ap (λ (first : Result (Option Pdu) PduFault). (step first).calls) (first_none place);
    }

quiet_from : (server : Server) (waiting : Option Asked) → Quiet (goes_on_from server waiting [] [])
quiet_from server None = quiet_served (most_pdus - server.pdus) server.reader.place server.accepted
quiet_from server (Some asked) = record { writes = refl; calls = refl }

pub quiet : (server : Server) → Quiet (goes_on server [] [])
quiet server = quiet_from server server.waiting

-- what a session comes to with these bytes more
pub comes_to : (server : Server) (taken bytes : List ℕ) (answers : List Given) → StandsFor server taken answers
    → session_of (taken ++ bytes) answers ≡ and_then (session_of taken answers) (goes_on server bytes [])
comes_to server taken bytes answers stands =
    ap (session_of (taken ++ bytes)) (sym (append-nil answers)) ∙ stands.comes bytes []

-- what was taken now, and what it comes to
pub record Advanced (new : Server) (taken bytes : List ℕ) (answers : List Given) (writes : List Written) (calls : List Call) : Type 0 where
  pub stands : StandsFor new (taken ++ bytes) answers
  pub writes_more : (session_of (taken ++ bytes) answers).writes ≡ (session_of taken answers).writes ++ writes
  pub calls_more : (session_of (taken ++ bytes) answers).calls ≡ (session_of taken answers).calls ++ calls
  pub end_is : (session_of (taken ++ bytes) answers).end ≡ (goes_on new [] []).end

pub advanced : (old new : Server) (taken bytes : List ℕ) (answers : List Given) (writes : List Written) (calls : List Call)
    → StandsFor old taken answers → Advance old new bytes writes calls → Advanced new taken bytes answers writes calls
advanced old new taken bytes answers writes calls stands advance =
    let before = session_of taken answers in
    let now = session_of (taken ++ bytes) answers in
    let here : goes_on old bytes [] ≡ and_then (part writes calls) (goes_on new [] []) =
    ap (λ (l : List ℕ). goes_on old l []) (sym (append-nil bytes)) ∙ advance.goes [] [] in
    let all : now ≡ and_then before (and_then (part writes calls) (goes_on new [] [])) =
    comes_to old taken bytes answers stands ∙ ap (and_then before) here in
    let none = quiet new in
    let wrote : now.writes ≡ before.writes ++ writes =
    ap (λ (s : Served). s.writes) all ∙ ap (λ (l : List Written). before.writes ++ (writes ++ l)) none.writes ∙ ap (λ (l : List Written). before.writes ++ l) (append-nil writes) in
    let called : now.calls ≡ before.calls ++ calls =
    ap (λ (s : Served). s.calls) all ∙ ap (λ (l : List Call). before.calls ++ (calls ++ l)) none.calls ∙ ap (λ (l : List Call). before.calls ++ l) (append-nil calls) in
    record {
      stands = record {
        place = omega (arith, advance.place, stands.place, length-append taken bytes);
        comes = λ rest more.
            let later = goes_on new rest more in
            let writes_is : before.writes ++ (writes ++ later.writes) ≡ now.writes ++ later.writes =
            sym (append_assoc before.writes writes later.writes) ∙ ap (λ (l : List Written). l ++ later.writes) (sym wrote) in
            let calls_is : before.calls ++ (calls ++ later.calls) ≡ now.calls ++ later.calls =
            sym (append_assoc before.calls calls later.calls) ∙ ap (λ (l : List Call). l ++ later.calls) (sym called) in
            let split : and_then before (and_then (part writes calls) later) ≡ and_then now later =
            λ i. record { writes = writes_is i; calls = calls_is i; end = later.end; place = later.place } in
            ap (λ (l : List ℕ). session_of l (answers ++ more)) (append_assoc taken bytes rest)
            ∙ stands.comes (bytes ++ rest) more ∙ ap (and_then before) (advance.goes rest more) ∙ split;
      };
      writes_more = wrote;
      calls_more = called;
      end_is = ap (λ (s : Served). s.end) all;
    }

-- how a session stands that ended
pub record Stopped (taken bytes left : List ℕ) (answers : List Given) (writes : List Written) (why : SessionEnd) : Type 0 where
  pub end : (session_of (taken ++ bytes) answers).end ≡ Err why
  pub place : length (taken ++ bytes) ≡ (session_of (taken ++ bytes) answers).place
  pub whole : session_of ((taken ++ bytes) ++ left) answers ≡ session_of (taken ++ bytes) answers
  pub writes_more : (session_of (taken ++ bytes) answers).writes ≡ (session_of taken answers).writes ++ writes
  pub calls_more : (session_of (taken ++ bytes) answers).calls ≡ (session_of taken answers).calls ++ []

pub stopped : (old : Server) (taken bytes left : List ℕ) (answers : List Given) (writes : List Written) (why : SessionEnd)
    → StandsFor old taken answers → Stop old bytes left writes why → Stopped taken bytes left answers writes why
stopped old taken bytes left answers writes why stands stop =
    let before = session_of taken answers in
    let here : session_of (taken ++ bytes) answers ≡ and_then before (ended (old.reader.place + length bytes) writes why) =
    comes_to old taken bytes answers stands ∙ ap (and_then before) stop.alone in
    let there : session_of ((taken ++ bytes) ++ left) answers ≡ and_then before (ended (old.reader.place + length bytes) writes why) =
    ap (λ (l : List ℕ). session_of l answers) (append_assoc taken bytes left)
    ∙ comes_to old taken (bytes ++ left) answers stands ∙ ap (and_then before) stop.whole in
    record {
      end = ap (λ (s : Served). s.end) here;
      place = omega (arith, length-append taken bytes, stands.place, ap (λ (s : Served). s.place) here);
      whole = there ∙ sym here;
      writes_more = ap (λ (s : Served). s.writes) here;
      calls_more = ap (λ (s : Served). s.calls) here;
    }
