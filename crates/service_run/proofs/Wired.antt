-- What a wire tells of a session while its calls are answered.
use Rattle.std.proofs.Common.{◌≡◌, ℕ, false, List, [], ◌∷◌, ◌++◌, Option, Some, None, Ok, Err, refl, sym, ◌∙◌, ap}
use Rattle.std.proofs.lemmas.List.{append-nil}
use Rattle.edge_traits.specs.Wire.{Entry, Session, NoMore, Failed, SessionChanged, SessionIs, SessionTold, fresh}
use Rattle.edge_traits.proofs.Wires.{open_session_more}
use Rattle.base_specs.specs.Told.{LastTold}
use Rattle.capture_fmt.specs.declared.event.Event.{Event}
use Rattle.w32t_calls.specs.declared.asked.Asked.{Asked}
use Rattle.w32t_calls.specs.declared.call.Call.{Call}
use Rattle.w32t_calls.specs.declared.call.Call.TheVariants as call
use Rattle.w32t_calls.specs.declared.call.Given.{Given}
use Rattle.w32t_calls.specs.declared.end.SessionEnd.{SessionEnd}
use Rattle.w32t_calls.specs.declared.end.SessionEnd.TheVariants as end
use Rattle.w32t_calls.specs.Serving.{Served, most_pdus, session_of}
use Rattle.w32t_calls.specs.Standing.{HasServed, IsNewSession, Replied, Replies, Serves, ServesOn, Server, Stands, StandsFor, goes_on}
use Rattle.w32t_calls.proofs.Advances.{quiet, quiet_served}
use Rattle.w32t_calls.proofs.Sessions.{known, last_changed, opened, session_of_last, untold}
use Rattle.run_deeds.specs.Weaving.{SyncCall}
use Rattle.service_run.specs.One.{IsFresh}
use Rattle.service_run.specs.Sessions.{Finishes, IsStoppedAs, IsToldAs, is_read_fault, is_write_fault}

-- The server stands for the session: its bytes ask for these calls, the answers were written, and no read and no write
-- failed.
pub record IsWired (server : Server) (calls : List Call) (answers : List Given) (s : SessionTold) : Type 0 where
  pub stands : StandsFor server s.taken answers
  pub writes : s.writes ≡ (session_of s.taken answers).writes
  pub calls_are : calls ≡ (session_of s.taken answers).calls
  pub read : s.read_failed ≡ false
  pub write : s.write_failed ≡ false

-- the same where the last of these calls waits for its answer
pub record IsAsked (server : Server) (calls : List Call) (answers : List Given) (asked_for : Call) (s : SessionTold) : Type 0 where
  pub wired : IsWired server calls answers s
  pub end : (session_of s.taken answers).end ≡ Ok asked_for

-- since the session was opened
abbrev pub Wired : Server → List Call → List Given → Option (List Entry) → Option (List Entry) → Type 0
Wired server calls answers opened told = LastTold (SessionChanged (λ first s. IsWired server calls answers s)) opened told

abbrev pub Asking : Server → List Call → List Given → Call → Option (List Entry) → Option (List Entry) → Type 0
Asking server calls answers asked_for opened told = LastTold (SessionChanged (λ first s. IsAsked server calls answers asked_for s)) opened told

-- ---- The server stands for the session

entry_served : (server : Server) (calls : List Call) (answers : List Given) (before now : Entry) → SessionChanged (λ first s. IsWired server calls answers s) before now
    → SessionIs (λ s. StandsFor server s.taken answers × (s.writes ≡ (session_of s.taken answers).writes)) now
entry_served server calls answers (Session before) (Session now) wired = (wired.stands, wired.writes)
entry_served server calls answers (Session before) NoMore wired = wired
entry_served server calls answers (Session before) Failed wired = wired
entry_served server calls answers NoMore now wired = absurd wired
entry_served server calls answers Failed now wired = absurd wired

pub served_by : (server : Server) (calls : List Call) (answers : List Given) (opened told : Option (List Entry)) → Wired server calls answers opened told → HasServed answers server told
served_by server calls answers None None wired = tt
served_by server calls answers None (Some told) wired = absurd wired
served_by server calls answers (Some opened) None wired = absurd wired
served_by server calls answers (Some opened) (Some told) wired = (wired.earlier, wired.now, wired.is, entry_served server calls answers wired.before wired.now wired.changed)

entry_asked : (server : Server) (calls : List Call) (answers : List Given) (asked_for : Call) (before now : Entry) → SessionChanged (λ first s. IsAsked server calls answers asked_for s) before now
    → SessionIs (λ s. StandsFor server s.taken answers × (s.writes ≡ (session_of s.taken answers).writes)) now
entry_asked server calls answers asked_for (Session before) (Session now) asking = (asking.wired.stands, asking.wired.writes)
entry_asked server calls answers asked_for (Session before) NoMore asking = asking
entry_asked server calls answers asked_for (Session before) Failed asking = asking
entry_asked server calls answers asked_for NoMore now asking = absurd asking
entry_asked server calls answers asked_for Failed now asking = absurd asking

pub asked_by : (server : Server) (calls : List Call) (answers : List Given) (asked_for : Call) (opened told : Option (List Entry)) → Asking server calls answers asked_for opened told → HasServed answers server told
asked_by server calls answers asked_for None None asking = tt
asked_by server calls answers asked_for None (Some told) asking = absurd asking
asked_by server calls answers asked_for (Some opened) None asking = absurd asking
asked_by server calls answers asked_for (Some opened) (Some told) asking = (asking.earlier, asking.now, asking.is, entry_asked server calls answers asked_for asking.before asking.now asking.changed)

-- ---- Nothing was done yet

-- a session of which nothing was taken asks for no call
nothing_called : (taken : List ℕ) → taken ≡ [] → [] ≡ (session_of taken []).calls
nothing_called taken is = rw is (sym (quiet_served most_pdus 0 []).calls)

pub wired_none : (server : Server) (told : Option (List Entry)) → IsFresh told → HasServed [] server told → Wired server [] [] told told
wired_none server told is_fresh served =
    elim (opened (λ s. (left : List ℕ) × (s ≡ fresh left)) told is_fresh) [
      | untold is ↦ rw is tt
      | known earlier one is holds ↦
          let stood = session_of_last (λ s. StandsFor server s.taken [] × (s.writes ≡ (session_of s.taken []).writes)) earlier one told is served in
          last_changed (λ first s. IsWired server [] [] s) earlier one told told is (record {
            after = one;
            told = is;
            changed = record {
              stands = stood.0;
              writes = stood.1;
              calls_are = nothing_called one.taken (ap (λ (s : SessionTold). s.taken) holds.1);
              read = ap (λ (s : SessionTold). s.read_failed) holds.1;
              write = ap (λ (s : SessionTold). s.write_failed) holds.1;
            };
          })
    ]

-- the session is a new one
new_entry : (e : Entry) → SessionIs (λ s. (left : List ℕ) × (s ≡ fresh left)) e → SessionIs (λ s. (s.taken ≡ []) × (s.writes ≡ [])) e
new_entry (Session s) is = (ap (λ (t : SessionTold). t.taken) is.1, ap (λ (t : SessionTold). t.writes) is.1)
new_entry NoMore is = is
new_entry Failed is = is

pub is_new : (told : Option (List Entry)) → IsFresh told → IsNewSession told
is_new None is = tt
is_new (Some list) is = (is.0, is.1, is.2, new_entry is.1 is.3)

-- ---- A call is handed out

handed : (server now : Server) (calls : List Call) (answers : List Given) (asked_for : Call) (y z : SessionTold) → IsWired server calls answers y → Serves (Ok asked_for) answers now y z
    → IsAsked now (calls ++ asked_for ∷ []) answers asked_for z
handed server now calls answers asked_for y z wired serves = record {
  wired = record {
    stands = serves.stands.0;
    writes = serves.stands.2;
    calls_are = ap (λ (l : List Call). l ++ asked_for ∷ []) wired.calls_are ∙ sym serves.calls;
    read = serves.marks.no_read (λ is. cc is) ∙ wired.read;
    write = serves.marks.no_write (λ is. cc is) ∙ wired.write;
  };
  end = serves.stands.1;
}

pub wired_next : (server now : Server) (calls : List Call) (answers : List Given) (asked_for : Call) (opened told told_now : Option (List Entry))
    → Wired server calls answers opened told → ServesOn (Ok asked_for) answers now told told_now → Asking now (calls ++ asked_for ∷ []) answers asked_for opened told_now
wired_next server now calls answers asked_for opened told told_now wired serves =
    open_session_more (λ first s. IsWired server calls answers s) (Serves (Ok asked_for) answers now) (λ first s. IsAsked now (calls ++ asked_for ∷ []) answers asked_for s)
    (λ x y z w s. handed server now calls answers asked_for y z w s) opened told told_now wired serves

-- ---- The session ends

finishes : (why : SessionEnd) (answers : List Given) (server : Server) (told : SessionTold) → Stands (Err why) answers server told → Finishes why answers told
finishes end.Ended answers server told stands = stands
finishes end.Torn answers server told stands = stands
finishes end.BadPdu answers server told stands = stands
finishes end.Spent answers server told stands = stands
finishes end.ReadFault answers server told stands = stands
finishes end.WriteFault answers server told stands = stands

read_mark : (server now : Server) (calls : List Call) (answers : List Given) (why : SessionEnd) (y z : SessionTold) → IsWired server calls answers y → Serves (Err why) answers now y z
    → z.read_failed ≡ is_read_fault why
read_mark server now calls answers end.ReadFault y z wired serves = serves.marks.read refl
read_mark server now calls answers end.Ended y z wired serves = serves.marks.no_read (λ is. cc is) ∙ wired.read
read_mark server now calls answers end.Torn y z wired serves = serves.marks.no_read (λ is. cc is) ∙ wired.read
read_mark server now calls answers end.BadPdu y z wired serves = serves.marks.no_read (λ is. cc is) ∙ wired.read
read_mark server now calls answers end.Spent y z wired serves = serves.marks.no_read (λ is. cc is) ∙ wired.read
read_mark server now calls answers end.WriteFault y z wired serves = serves.marks.no_read (λ is. cc is) ∙ wired.read

write_mark : (server now : Server) (calls : List Call) (answers : List Given) (why : SessionEnd) (y z : SessionTold) → IsWired server calls answers y → Serves (Err why) answers now y z
    → z.write_failed ≡ is_write_fault why
write_mark server now calls answers end.WriteFault y z wired serves = serves.marks.write refl
write_mark server now calls answers end.Ended y z wired serves = serves.marks.no_write (λ is. cc is) ∙ wired.write
write_mark server now calls answers end.Torn y z wired serves = serves.marks.no_write (λ is. cc is) ∙ wired.write
write_mark server now calls answers end.BadPdu y z wired serves = serves.marks.no_write (λ is. cc is) ∙ wired.write
write_mark server now calls answers end.Spent y z wired serves = serves.marks.no_write (λ is. cc is) ∙ wired.write
write_mark server now calls answers end.ReadFault y z wired serves = serves.marks.no_write (λ is. cc is) ∙ wired.write

-- it is told as that
pub told_ended : (server now : Server) (calls : List Call) (answers : List Given) (parts : List (List Event)) (why : SessionEnd) (y z : SessionTold) → IsWired server calls answers y → Serves (Err why) answers now y z
    → IsToldAs (record { told = z; calls = calls; answers = answers; parts = parts }) why
told_ended server now calls answers parts why y z wired serves = record {
  made = wired.calls_are ∙ sym (append-nil (session_of y.taken answers).calls) ∙ sym serves.calls;
  ends = finishes why answers now z serves.stands;
  read = read_mark server now calls answers why y z wired serves;
  write = write_mark server now calls answers why y z wired serves;
}

-- ---- A call is answered

-- once it was answered the server stands at the next PDU
abbrev pub answered_server : Server → Server
answered_server server = record server { waiting = None }

-- where a call waits, its answer asks for no further one
reply_calls : (server : Server) (asked : Asked) (taken : List ℕ) (answers : List Given) (given : Given) → server.waiting ≡ Some asked → StandsFor server taken answers
    → (session_of taken (answers ++ given ∷ [])).calls ≡ (session_of taken answers).calls
reply_calls server asked taken answers given is stands =
    let all = stands.comes [] (given ∷ []) in
    let more : (session_of taken (answers ++ given ∷ [])).calls ≡ (session_of taken answers).calls ++ (goes_on server [] (given ∷ [])).calls =
    ap (λ (l : List ℕ). (session_of l (answers ++ given ∷ [])).calls) (sym (append-nil taken)) ∙ ap (λ (s : Served). s.calls) all in
    let idle : (goes_on server [] (given ∷ [])).calls ≡ [] = rw is (quiet (answered_server server)).calls in
    more ∙ ap (λ (l : List Call). (session_of taken answers).calls ++ l) idle ∙ append-nil (session_of taken answers).calls

replied_so : (server now : Server) (asked : Asked) (calls : List Call) (answers : List Given) (given : Given) (asked_for : Call) (y z : SessionTold) → server.waiting ≡ Some asked
    → IsAsked server calls answers asked_for y → Replies (Ok tt) (answers ++ given ∷ []) now y z → IsWired now calls (answers ++ given ∷ []) z
replied_so server now asked calls answers given asked_for y z is asking replies = record {
  stands = replies.stands.0;
  writes = replies.stands.1;
  calls_are = asking.wired.calls_are ∙ sym (reply_calls server asked y.taken answers given is asking.wired.stands)
      ∙ ap (λ (l : List ℕ). (session_of l (answers ++ given ∷ [])).calls) (sym replies.taken);
  read = replies.marks.no_read (λ is. cc is) ∙ asking.wired.read;
  write = replies.marks.no_write (λ is. cc is) ∙ asking.wired.write;
}

pub wired_reply : (server now : Server) (asked : Asked) (calls : List Call) (answers : List Given) (given : Given) (asked_for : Call) (opened told told_now : Option (List Entry))
    → server.waiting ≡ Some asked → Asking server calls answers asked_for opened told → Replied (Ok tt) (answers ++ given ∷ []) now told told_now
    → Wired now calls (answers ++ given ∷ []) opened told_now
wired_reply server now asked calls answers given asked_for opened told told_now is asking replied =
    open_session_more (λ first s. IsAsked server calls answers asked_for s) (Replies (Ok tt) (answers ++ given ∷ []) now) (λ first s. IsWired now calls (answers ++ given ∷ []) s)
    (λ x y z a r. replied_so server now asked calls answers given asked_for y z is a r) opened told told_now asking replied

-- the response could not be written
pub told_cut : (server now : Server) (asked : Asked) (calls : List Call) (answers : List Given) (given : Given) (parts : List (List Event)) (asked_for : Call) (y z : SessionTold) → server.waiting ≡ Some asked
    → IsAsked server calls answers asked_for y → Replies (Err end.WriteFault) (answers ++ given ∷ []) now y z
    → IsToldAs (record { told = z; calls = calls; answers = answers ++ given ∷ []; parts = parts }) end.WriteFault
told_cut server now asked calls answers given parts asked_for y z is asking replies = record {
  made = asking.wired.calls_are ∙ sym (reply_calls server asked y.taken answers given is asking.wired.stands)
      ∙ ap (λ (l : List ℕ). (session_of l (answers ++ given ∷ [])).calls) (sym replies.taken);
  ends = replies.stands;
  read = replies.marks.no_read (λ is. cc is) ∙ asking.wired.read;
  write = replies.marks.write refl;
}

-- ---- A fault of the run stops it at a call

pub told_stopped : (server : Server) (asked : Asked) (calls : List Call) (answers : List Given) (parts : List (List Event)) (at : SyncCall) (z : SessionTold) → server.waiting ≡ Some asked
    → IsAsked server calls answers (call.Sync at.wait at.flags) z
    → IsStoppedAs (record { told = z; calls = calls; answers = answers; parts = parts }) at
told_stopped server asked calls answers parts at z is asking =
    let all = asking.wired.stands.comes [] [] in
    let place : (session_of z.taken answers).place ≡ (goes_on server [] []).place =
    ap (λ (l : List ℕ). (session_of l answers).place) (sym (append-nil z.taken)) ∙ ap (λ (l : List Given). (session_of (z.taken ++ []) l).place) (sym (append-nil answers))
    ∙ ap (λ (s : Served). s.place) all in
    let stops : (goes_on server [] []).place ≡ server.reader.place = rw is refl in
    record {
      made = asking.wired.calls_are;
      waits = asking.end;
      writes = asking.wired.writes;
      place = sym asking.wired.stands.place ∙ sym stops ∙ sym place;
      read = asking.wired.read;
      write = asking.wired.write;
    }
