-- A session that is served one PDU after the other.
use Rattle.std.proofs.Common.{◌≡◌, inl, inr, ℕ, ◌+◌, ◌-◌, ◌≤◌, Bool, true, false, List, [], ◌++◌, Option, Some, None, Result, Ok, Err, refl, sym, ◌∙◌, ap, arith, subst, append_assoc}
use Rattle.std.proofs.lemmas.List.{append-nil}
use Rattle.base_specs.specs.Counts.{Fails}
use Rattle.base_specs.specs.Told.{LastTold}
use Rattle.base_specs.proofs.Telling.{last_told_more}
use Rattle.edge_traits.specs.Wire.{Entry, Session, NoMore, Failed, SessionChanged, SessionIs, SessionTold, TakesOf}
use Rattle.edge_traits.proofs.Wires.{open_session_more}
use Rattle.rpc_pdu.specs.Fill.{OpensNone}
use Rattle.rpc_pdu.specs.Reader.{Leaves}
use Rattle.w32t_calls.specs.declared.asked.Asked.{Asked}
use Rattle.w32t_calls.specs.declared.call.Call.{Call}
use Rattle.w32t_calls.specs.declared.call.Given.{Given}
use Rattle.w32t_calls.specs.declared.end.SessionEnd.{SessionEnd}
use Rattle.w32t_calls.specs.declared.end.SessionEnd.TheVariants as end
use Rattle.w32t_calls.specs.Serving.{Served, and_then, ends_as, most_pdus, served, session_of}
use Rattle.w32t_calls.specs.Standing.{HasServed, IsIdle, IsNewSession, ServeCounts, Serves, ServesOn, Server, Stands, StandsFor, TookFrom, goes_on, goes_on_from, handed_out}
use Rattle.w32t_calls.specs.Steps.{Keeps, StepKeeps, StepTells, StepsOn}
use Rattle.w32t_calls.proofs.Advances.{Stop, quiet}
use Rattle.w32t_calls.proofs.Served.{ends_here}
use Rattle.w32t_calls.proofs.Sessions.{untold, known, last_changed, last_changed_as, opened}
use Rattle.w32t_calls.proofs.Stepping.{IsStood, stood_of, untold_changed}

-- What holds after some PDUs, each of which was answered.
pub record Going (old now : Server) (is_open is_open_now : Bool) (told told_now : Option (List Entry)) (reads reads_now writes writes_now : ℕ) : Type 0 where
  pub idle : IsIdle now
  pub tells : (bytes : List ℕ) → Leaves is_open told bytes
      → (rest : List ℕ) × Leaves is_open_now told_now rest × ((goes_on old bytes []).end ≡ (goes_on now rest []).end)
  pub runs : (answers : List Given) → is_open ≡ true → HasServed answers old told → LastTold (SessionChanged (Keeps answers now)) told told_now
  pub closed : is_open ≡ false → told_now ≡ told
  pub same_reads : reads_now ≡ reads
  pub same_writes : writes_now ≡ writes
  pub sessions : OpensNone told told_now
  pub opened : is_open_now ≡ is_open
  pub pdus : old.pdus ≤ now.pdus

-- ---- Nothing was done yet

keeps_none : (server : Server) (answers : List Given) (s : SessionTold) → IsStood server answers s → Keeps answers server s s
keeps_none server answers s holds = record {
  took = record { bytes = []; left = refl; taken = sym (append-nil s.taken) };
  read_failed = refl;
  write_failed = refl;
  calls = refl;
  stands = holds.0;
  writes = holds.1;
}

runs_none : (server : Server) (answers : List Given) (told : Option (List Entry)) → HasServed answers server told → LastTold (SessionChanged (Keeps answers server)) told told
runs_none server answers told served =
    elim (opened (IsStood server answers) told served) [
      | untold is ↦ untold_changed (SessionChanged (Keeps answers server)) told told is is
      | known earlier before is holds ↦
          last_changed (Keeps answers server) earlier before told told is (record { after = before; told = is; changed = keeps_none server answers before holds })
    ]

pub going_none : (old : Server) (is_open : Bool) (told : Option (List Entry)) (reads writes : ℕ) → IsIdle old → Going old old is_open is_open told told reads reads writes writes
going_none old is_open told reads writes idle = record {
  idle = idle;
  tells = λ bytes leaves. (bytes, leaves, refl);
  runs = λ answers is served. runs_none old answers told served;
  closed = λ is. refl;
  same_reads = refl;
  same_writes = refl;
  sessions = inl refl;
  opened = refl;
  pdus = omega arith;
}

-- ---- One PDU more

entry_stood : (server : Server) (answers : List Given) (before now : Entry) → SessionChanged (Keeps answers server) before now → SessionIs (IsStood server answers) now
entry_stood server answers (Session before) (Session now) keeps = (keeps.stands, keeps.writes)
entry_stood server answers (Session before) NoMore keeps = keeps
entry_stood server answers (Session before) Failed keeps = keeps
entry_stood server answers NoMore now keeps = absurd keeps
entry_stood server answers Failed now keeps = absurd keeps

-- the server stands for the session after some PDUs
pub served_now : (server : Server) (answers : List Given) (told now : Option (List Entry)) → LastTold (SessionChanged (Keeps answers server)) told now → HasServed answers server now
served_now server answers None None kept = tt
served_now server answers None (Some now) kept = absurd kept
served_now server answers (Some told) None kept = tt
served_now server answers (Some told) (Some now) kept = (kept.earlier, kept.now, kept.is, entry_stood server answers kept.before kept.now kept.changed)

took_both : (x y z : SessionTold) → TookFrom x y → TookFrom y z → TookFrom x z
took_both x y z first next = record {
  bytes = first.bytes ++ next.bytes;
  left = first.left ∙ ap (λ (l : List ℕ). first.bytes ++ l) next.left ∙ sym (append_assoc first.bytes next.bytes z.left);
  taken = next.taken ∙ ap (λ (l : List ℕ). l ++ next.bytes) first.taken ∙ append_assoc x.taken first.bytes next.bytes;
}

keeps_both : (mid new : Server) (answers : List Given) (x y z : SessionTold) → Keeps answers mid x y → Keeps answers new y z → Keeps answers new x z
keeps_both mid new answers x y z first next = record {
  took = took_both x y z first.took next.took;
  read_failed = next.read_failed ∙ first.read_failed;
  write_failed = next.write_failed ∙ first.write_failed;
  calls = next.calls ∙ first.calls;
  stands = next.stands;
  writes = next.writes;
}

serves_both : (mid new : Server) (answers : List Given) (result : Result Call SessionEnd) (x y z : SessionTold) → Keeps answers mid x y → Serves result answers new y z → Serves result answers new x z
serves_both mid new answers result x y z first next = record {
  took = took_both x y z first.took next.took;
  marks = record {
    read = next.marks.read;
    no_read = λ other. next.marks.no_read other ∙ first.read_failed;
    write = next.marks.write;
    no_write = λ other. next.marks.no_write other ∙ first.write_failed;
  };
  calls = next.calls ∙ ap (λ (l : List Call). l ++ handed_out result) first.calls;
  stands = next.stands;
}

open_too : (is_open is_open_now : Bool) → is_open_now ≡ is_open → is_open ≡ true → is_open_now ≡ true
open_too is_open is_open_now same is = same ∙ is

pub opens_none_both : (old mid new : Option (List Entry)) → OpensNone old mid → OpensNone mid new → OpensNone old new
opens_none_both old mid new (inl first) next = subst (λ (t : Option (List Entry)). OpensNone t new) first next
opens_none_both old mid new (inr first) (inl next) = subst (λ (t : Option (List Entry)). OpensNone old t) (sym next) (inr first)
opens_none_both old mid new (inr first) (inr next) = inr (last_told_more _ _ _ old mid new (λ x y z a b. tt) first next)

module _ (old mid new : Server) (is_open is_open_mid is_open_now : Bool) (told told_mid told_now : Option (List Entry)) (reads reads_mid reads_now writes writes_mid writes_now : ℕ)
    (going : Going old mid is_open is_open_mid told told_mid reads reads_mid writes writes_mid) where
  pub going_more :
      IsIdle new
      → ((bytes : List ℕ) → Leaves is_open_mid told_mid bytes → StepTells (Ok None) mid bytes new is_open_now told_now)
      → ((answers : List Given) → is_open_mid ≡ true → HasServed answers mid told_mid → StepsOn (Ok None) answers new told_mid told_now)
      → (is_open_mid ≡ false → told_now ≡ told_mid)
      → reads_now ≡ reads_mid → writes_now ≡ writes_mid → OpensNone told_mid told_now → is_open_now ≡ is_open_mid → mid.pdus ≤ new.pdus
      → Going old new is_open is_open_now told told_now reads reads_now writes writes_now
  going_more idle tells runs closed same_reads same_writes sessions same_open more = record {
    idle = idle;
    tells = λ bytes leaves.
        let before = going.tells bytes leaves in
        let now = tells before.0 before.1 in
        (now.0, now.1, before.2 ∙ now.2);
    runs = λ answers is served.
        let first = going.runs answers is served in
        open_session_more (Keeps answers mid) (Keeps answers new) (Keeps answers new) (keeps_both mid new answers) told told_mid told_now first
        (runs answers (open_too is_open is_open_mid going.opened is) (served_now mid answers told told_mid first));
    closed = λ is. closed (going.opened ∙ is) ∙ going.closed is;
    same_reads = same_reads ∙ going.same_reads;
    same_writes = same_writes ∙ going.same_writes;
    sessions = opens_none_both told told_mid told_now going.sessions sessions;
    opened = same_open ∙ going.opened;
    pdus = omega (arith, going.pdus, more);
  }

  -- ---- The last PDU

  pub run_err : (why : SessionEnd) → ((answers : List Given) → is_open_mid ≡ true → HasServed answers mid told_mid → StepsOn (Err why) answers new told_mid told_now)
      → (answers : List Given) → is_open ≡ true → HasServed answers old told → ServesOn (Err why) answers new told told_now
  run_err why runs answers is served =
      let first = going.runs answers is served in
      open_session_more (Keeps answers mid) (Serves (Err why) answers new) (Serves (Err why) answers new) (serves_both mid new answers (Err why)) told told_mid told_now first
      (runs answers (open_too is_open is_open_mid going.opened is) (served_now mid answers told told_mid first))

  pub run_ok : (call : Call) → ((answers : List Given) → is_open_mid ≡ true → HasServed answers mid told_mid → StepsOn (Ok (Some call)) answers new told_mid told_now)
      → (answers : List Given) → is_open ≡ true → HasServed answers old told → ServesOn (Ok call) answers new told told_now
  run_ok call runs answers is served =
      let first = going.runs answers is served in
      open_session_more (Keeps answers mid) (Serves (Ok call) answers new) (Serves (Ok call) answers new) (serves_both mid new answers (Ok call)) told told_mid told_now first
      (runs answers (open_too is_open is_open_mid going.opened is) (served_now mid answers told told_mid first))

  pub sessions_last : OpensNone told_mid told_now → OpensNone told told_now
  sessions_last sessions = opens_none_both told told_mid told_now going.sessions sessions

  pub counts_err : (why : SessionEnd) → ServeCounts {A = Option Call} (Err why) reads_mid reads_now writes_mid writes_now → ServeCounts {A = Call} (Err why) reads reads_now writes writes_now
  counts_err why counts = record {
    read = λ is. subst (λ (n : ℕ). Fails n reads_now) going.same_reads (counts.read cc);
    no_read = λ other. counts.no_read (λ is. other cc) ∙ going.same_reads;
    write = λ is. subst (λ (n : ℕ). Fails n writes_now) going.same_writes (counts.write cc);
    no_write = λ other. counts.no_write (λ is. other cc) ∙ going.same_writes;
  }

  pub counts_ok : (call : Call) → ServeCounts {A = Option Call} (Ok (Some call)) reads_mid reads_now writes_mid writes_now → ServeCounts (Ok call) reads reads_now writes writes_now
  counts_ok call counts = record {
    read = λ is. absurd cc;
    no_read = λ other. counts.no_read (λ is. cc) ∙ going.same_reads;
    write = λ is. absurd cc;
    no_write = λ other. counts.no_write (λ is. cc) ∙ going.same_writes;
  }

-- the end that the bytes left come to
pub tell_last : (old mid : Server) (is_open is_open_mid : Bool) (told told_mid : Option (List Entry)) (reads reads_mid writes writes_mid : ℕ)
    → Going old mid is_open is_open_mid told told_mid reads reads_mid writes writes_mid
    → (result : Result Call SessionEnd) → ((rest : List ℕ) → Leaves is_open_mid told_mid rest → (goes_on mid rest []).end ≡ result)
    → (bytes : List ℕ) → Leaves is_open told bytes → result ≡ (goes_on old bytes []).end
tell_last old mid is_open is_open_mid told told_mid reads reads_mid writes writes_mid going result tells bytes leaves =
    let before = going.tells bytes leaves in
    sym (before.2 ∙ tells before.0 before.1)

-- an answer that goes on is no error
none_not_err : (why : SessionEnd) → ◌≡◌ {A = Result (Option Call) SessionEnd} (Ok None) (Err why) → ⊥
none_not_err why same = cc

ok_not_err : (result : Result (Option Call) SessionEnd) (why : SessionEnd) → result ≡ Ok None → result ≡ Err why → ⊥
ok_not_err result why is other = none_not_err why (sym is ∙ other)

-- one PDU more was answered
pub going_step : (old mid new : Server) (is_open is_open_mid is_open_now : Bool) (told told_mid told_now : Option (List Entry)) (reads reads_mid reads_now writes writes_mid writes_now : ℕ)
    (result : Result (Option Call) SessionEnd) → Going old mid is_open is_open_mid told told_mid reads reads_mid writes writes_mid → result ≡ Ok None
    → StepKeeps result mid new
    → ((bytes : List ℕ) → Leaves is_open_mid told_mid bytes → (result ≡ Err end.ReadFault → ⊥) → (result ≡ Err end.WriteFault → ⊥) → StepTells result mid bytes new is_open_now told_now)
    → ((answers : List Given) → is_open_mid ≡ true → HasServed answers mid told_mid → StepsOn result answers new told_mid told_now)
    → (is_open_mid ≡ false → told_now ≡ told_mid)
    → ServeCounts result reads_mid reads_now writes_mid writes_now → OpensNone told_mid told_now → is_open_now ≡ is_open_mid
    → Going old new is_open is_open_now told told_now reads reads_now writes writes_now
going_step old mid new is_open is_open_mid is_open_now told told_mid told_now reads reads_mid reads_now writes writes_mid writes_now result going is keeps tells runs closed counts sessions same_open =
    let kept = subst (λ (r : Result (Option Call) SessionEnd). StepKeeps r mid new) is keeps in
    let no_read = ok_not_err result end.ReadFault is in
    let no_write = ok_not_err result end.WriteFault is in
    going_more old mid new is_open is_open_mid is_open_now told told_mid told_now reads reads_mid reads_now writes writes_mid writes_now going kept.0
    (λ bytes leaves. subst (λ (r : Result (Option Call) SessionEnd). StepTells r mid bytes new is_open_now told_now) is (tells bytes leaves no_read no_write))
    (λ answers opened served. subst (λ (r : Result (Option Call) SessionEnd). StepsOn r answers new told_mid told_now) is (runs answers opened served))
    closed (counts.no_read no_read) (counts.no_write no_write) sessions same_open (omega (arith, kept.1))

-- an end of one PDU is no other end of the session
pub err_other : (why other : SessionEnd) → (◌≡◌ {A = Result (Option Call) SessionEnd} (Err why) (Err other) → ⊥) → ◌≡◌ {A = Result Call SessionEnd} (Err why) (Err other) → ⊥
err_other why other not same = not cc

-- ---- No PDU more may be taken

spent_here : (server : Server) (bytes : List ℕ) (more : List Given) → server.waiting ≡ None → server.pdus ≡ 10000 → goes_on server bytes more ≡ ends_as server.reader.place end.Spent
unfolding served
spent_here server bytes more waiting spent =
    let none : most_pdus - server.pdus ≡ 0 = omega (arith, spent) in
    ap (λ (w : Option Asked). goes_on_from server w bytes more) waiting
    ∙ ap (λ (n : ℕ). served n server.reader.place server.accepted bytes more) none

stop_spent : (server : Server) (left : List ℕ) → server.waiting ≡ None → server.pdus ≡ 10000 → Stop server [] left [] end.Spent
stop_spent server left waiting spent =
    let place : server.reader.place ≡ server.reader.place + 0 = omega arith in
    let same = ap (λ (n : ℕ). ends_as n end.Spent) place in
    record { alone = spent_here server [] [] waiting spent ∙ same; whole = spent_here server left [] waiting spent ∙ same }

takes_nothing : (x : SessionTold) → TakesOf [] x x
takes_nothing x = (refl, ap (λ (l : List ℕ). record x { taken = l }) (sym (append-nil x.taken)))

spends : (server : Server) (answers : List Given) → server.waiting ≡ None → server.pdus ≡ 10000 → (x y : SessionTold) → Keeps answers server x y → Serves (Err end.Spent) answers server x y
spends server answers waiting spent x y keeps =
    let e = ends_here server answers [] end.Spent y y (stood_of server answers y (keeps.stands, keeps.writes)) (stop_spent server y.left waiting spent) (takes_nothing y) in
    record {
      took = keeps.took;
      marks = record {
        read = λ is. absurd cc;
        no_read = λ other. keeps.read_failed;
        write = λ is. absurd cc;
        no_write = λ other. keeps.write_failed;
      };
      calls = keeps.calls ∙ sym (append-nil (session_of x.taken answers).calls);
      stands = e.ended;
    }

pub run_spent : (server : Server) (answers : List Given) (told now : Option (List Entry)) → server.waiting ≡ None → server.pdus ≡ 10000
    → LastTold (SessionChanged (Keeps answers server)) told now → ServesOn (Err end.Spent) answers server told now
run_spent server answers told now waiting spent kept =
    last_changed_as (Keeps answers server) (Serves (Err end.Spent) answers server) (spends server answers waiting spent) told now kept

pub tell_spent : (server : Server) (bytes : List ℕ) → server.waiting ≡ None → server.pdus ≡ 10000 → (goes_on server bytes []).end ≡ Err end.Spent
tell_spent server bytes waiting spent = ap (λ (s : Served). s.end) (spent_here server bytes [] waiting spent)

-- ---- A session that was just opened

-- a server that took nothing goes on as a session
goes_new : (server : Server) (bytes : List ℕ) (more : List Given) → server.reader.place ≡ 0 → server.accepted ≡ [] → server.pdus ≡ 0 → server.waiting ≡ None
    → session_of bytes more ≡ goes_on server bytes more
goes_new server bytes more place accepted pdus waiting =
    let make : ℕ → ℕ → List ℕ → Served = λ n place accepted. served (most_pdus - n) place accepted bytes more in
    ap (λ (n : ℕ). make n 0 []) (sym pdus)
    ∙ ap (λ (p : ℕ). make server.pdus p []) (sym place)
    ∙ ap (λ (l : List ℕ). make server.pdus server.reader.place l) (sym accepted)
    ∙ ap (λ (w : Option Asked). goes_on_from server w bytes more) (sym waiting)

-- nothing comes before what it comes to
first_quiet : (first rest : Served) → first.writes ≡ [] → first.calls ≡ [] → rest ≡ and_then first rest
first_quiet first rest writes calls =
    λ i. record { writes = sym writes i ++ rest.writes; calls = sym calls i ++ rest.calls; end = rest.end; place = rest.place }

stands_new : (server : Server) → server.reader.place ≡ 0 → server.accepted ≡ [] → server.pdus ≡ 0 → server.waiting ≡ None → StandsFor server [] []
stands_new server place accepted pdus waiting =
    let none = quiet server in
    let nothing = goes_new server [] [] place accepted pdus waiting in
    record {
      place = place;
      comes = λ rest more.
          goes_new server rest more place accepted pdus waiting
          ∙ first_quiet (session_of [] []) (goes_on server rest more) (ap (λ (s : Served). s.writes) nothing ∙ none.writes) (ap (λ (s : Served). s.calls) nothing ∙ none.calls);
    }

entry_new : (server : Server) → StandsFor server [] [] → (session_of [] []).writes ≡ [] → (entry : Entry)
    → SessionIs (λ s. (s.taken ≡ []) × (s.writes ≡ [])) entry → SessionIs (IsStood server []) entry
entry_new server stands none (Session s) fresh = (
  subst (λ (l : List ℕ). StandsFor server l []) (sym fresh.0) stands,
  fresh.1 ∙ sym none ∙ ap (λ (l : List ℕ). (session_of l []).writes) (sym fresh.0),
)
entry_new server stands none NoMore fresh = fresh
entry_new server stands none Failed fresh = fresh

pub new_served : (server : Server) (told : Option (List Entry)) → server.reader.place ≡ 0 → server.accepted ≡ [] → server.pdus ≡ 0 → server.waiting ≡ None
    → IsNewSession told → HasServed [] server told
new_served server None place accepted pdus waiting fresh = tt
new_served server (Some list) place accepted pdus waiting fresh =
    let stands = stands_new server place accepted pdus waiting in
    let none = ap (λ (s : Served). s.writes) (goes_new server [] [] place accepted pdus waiting) ∙ (quiet server).writes in
    (fresh.0, fresh.1, fresh.2, entry_new server stands none fresh.1 fresh.3)

-- ---- After an end

-- how a session stands that ended, whatever becomes of the server's side
stands_any : (why : SessionEnd) (answers : List Given) (a b : Server) (now : SessionTold) → Stands (Err why) answers a now → Stands (Err why) answers b now
stands_any end.Ended answers a b now stands = stands
stands_any end.BadPdu answers a b now stands = stands
stands_any end.Torn answers a b now stands = stands
stands_any end.Spent answers a b now stands = stands
stands_any end.ReadFault answers a b now stands = stands
stands_any end.WriteFault answers a b now stands = stands

pub serves_any : (why : SessionEnd) (answers : List Given) (a b : Server) (told now : Option (List Entry)) → ServesOn (Err why) answers a told now → ServesOn (Err why) answers b told now
serves_any why answers a b told now served =
    last_changed_as (Serves (Err why) answers a) (Serves (Err why) answers b)
    (λ x y s. record { took = s.took; marks = s.marks; calls = s.calls; stands = stands_any why answers a b y s.stands }) told now served

-- ---- Without a session

-- nothing is left where no session is open
leaves_none : (is_open : Bool) (told : Option (List Entry)) → is_open ≡ false → Leaves is_open told []
leaves_none true told closed = absurd cc
leaves_none false told closed = refl

pub closed_end : (old : Server) (result : Result Call SessionEnd) (is_open : Bool) (told : Option (List Entry)) → is_open ≡ false
    → ((bytes : List ℕ) → Leaves is_open told bytes → (result ≡ Err end.ReadFault → ⊥) → (result ≡ Err end.WriteFault → ⊥) → result ≡ (goes_on old bytes []).end)
    → (result ≡ Err end.ReadFault → ⊥) → (result ≡ Err end.WriteFault → ⊥) → result ≡ (goes_on old [] []).end
closed_end old result is_open told closed tells no_read no_write = tells [] (leaves_none is_open told closed) no_read no_write
