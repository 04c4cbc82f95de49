-- How a session ends: the bind and its reply, and then the call and its reply.
use Rattle.std.proofs.Common.{◌≡◌, ◌⊎◌, inl, inr, ℕ, ◌+◌, ◌≤◌, Bool, true, List, [], ◌∷◌, ◌++◌, length, take, drop, Option, Some, None, Result, Ok, Err, refl, sym, ◌∙◌, ap, append_assoc, arith, length-append, subst}
use Rattle.std.proofs.lemmas.List.{append-nil}
use Rattle.std.proofs.Math.Seq.{drop-append_seam}
use Rattle.edge_traits.specs.declared.sink.Put.TheVariants as put
use Rattle.base_specs.specs.Told.{Grew, LastTold}
use Rattle.edge_traits.specs.Wire.{Entry, FailsToWrite, Session, SessionChanged, SessionTold, WireTook, WireWrites, Written, fresh, with_front}
use Rattle.rpc_pdu.specs.declared.fault.PduFault.{PduFault}
use Rattle.rpc_pdu.specs.declared.fault.PduFault.TheVariants as fault
use Rattle.rpc_pdu.specs.declared.pdu.Pdu.{Pdu}
use Rattle.rpc_pdu.specs.Pdu.{first_pdu, pdu_bytes, pdu_len}
use Rattle.rpc_pdu.specs.Reader.{Nexts, Reader, Shows, TookBy}
use Rattle.rpc_pdu.proofs.Cuts.{pdu_stays}
use Rattle.rpc_pdu.proofs.Flaws.{first_none}
use Rattle.w32t_calls.specs.declared.call.Call.{Call}
use Rattle.w32t_calls.specs.declared.call.Call.TheVariants as call
use Rattle.w32t_calls.specs.declared.call.Given.{Given}
use Rattle.w32t_calls.specs.declared.call.Given.TheVariants as given
use Rattle.w32t_calls.specs.declared.call_fault.CallFault.{CallFault}
use Rattle.w32t_calls.specs.declared.call_fault.CallFault.TheVariants as call_fault
use Rattle.w32t_calls.specs.Asking.{bind_pdu, call_pdu}
use Rattle.w32t_calls.specs.Calling.{Answered, Asks, Unwritten}
use Rattle.w32t_calls.specs.Replies.{and_if, bind_told}
use Rattle.w32t_calls.specs.Serving.{written_at}
use Rattle.w32t_calls.specs.Standing.{front_of}
use Rattle.client_run.specs.Asking.{AnswerIs, CallEnds, IsTold, IsUnwritten, Talks, Tells, TellsIf, behind_bind, bound, due_taken, due_writes, reply_at, reply_len, second_pdu, taken_if, writes_if}
use Rattle.client_run.proofs.Faults.{NoFault, answer_no_fault, bind_no_fault, other_no_fault}
use Rattle.client_run.proofs.Replies.{Reply, breaks_off, read_fault_or_not, reply_shown}
use Rattle.client_run.proofs.Sessions.{Stands, grew_of, held, read_failed, stands_of, took, write_failed, wrote}

-- one write of a PDU, after so many bytes were taken
abbrev one_write : ℕ → Pdu → List Written
one_write place pdu = written_at place pdu ∷ []

-- how a call ends that came to no failed read or write
ends_told : (c : Call) (told : Result Given CallFault) (session : SessionTold) → NoFault told → IsTold c told session → CallEnds c told session
ends_told c (Ok given) session none is = is
ends_told c (Err call_fault.Nak) session none is = is
ends_told c (Err call_fault.Rejected) session none is = is
ends_told c (Err (call_fault.Fault status)) session none is = is
ends_told c (Err (call_fault.BadReply place)) session none is = is
ends_told c (Err call_fault.Torn) session none is = is
ends_told c (Err call_fault.ReadFault) session none is = absurd (none.read refl)
ends_told c (Err call_fault.WriteFault) session none is = absurd (none.write refl)

-- ---- A write that failed

-- what a front that was written leaves as it was
record FrontWritten (front : List ℕ) (session : SessionTold) : Type 0 where
  taken : (with_front front session).taken ≡ session.taken
  writes : (with_front front session).writes ≡ session.writes ++ front_of (length session.taken) front
  read : (with_front front session).read_failed ≡ session.read_failed

front_written : (front : List ℕ) (session : SessionTold) → FrontWritten front session
front_written [] session = record { taken = refl; writes = sym (append-nil session.writes); read = refl }
front_written (byte ∷ bytes) session = record { taken = refl; writes = refl; read = refl }

unwritten : (c : Call) (pdu : Pdu) (taken left : List ℕ) (earlier : List Written) (n : ℕ) → n ≤ length (pdu_bytes pdu)
    → due_writes c taken ≡ earlier ++ one_write (length taken) pdu
    → IsUnwritten c (record (with_front (take n (pdu_bytes pdu)) (held taken left earlier)) { write_failed = true })
unwritten c pdu taken left earlier n within due =
    let f = front_written (take n (pdu_bytes pdu)) (held taken left earlier) in record {
      cut = record {
        earlier = earlier;
        last = written_at (length taken) pdu;
        count = n;
        all = ap (due_writes c) f.taken ∙ due;
        place = sym (ap length f.taken);
        within = within;
        front = f.writes;
      };
      write = refl;
      no_read = f.read;
    }

-- ---- The bind isn't accepted

unbound_tells : (c : Call) (bytes : List ℕ) (why : CallFault) → bound bytes ≡ Err why → Tells c bytes (Err why)
unbound_tells c bytes why is = subst (λ (b : Result (Unit {0}) CallFault). TellsIf c bytes (Err why) b) (sym is) refl

unbound_writes : (c : Call) (bytes : List ℕ) (why : CallFault) → bound bytes ≡ Err why → due_writes c bytes ≡ one_write 0 bind_pdu
unbound_writes c bytes why is = ap (writes_if c bytes) is

unbound_taken : (bytes : List ℕ) (why : CallFault) → bound bytes ≡ Err why → due_taken bytes ≡ reply_at bytes
unbound_taken bytes why is = ap (taken_if bytes) is

-- bytes in which the reply breaks off
torn_bound : (taken : List ℕ) → (first_pdu 0 taken ≡ Ok None) ⊎ (first_pdu 0 taken ≡ Err (fault.Torn 0)) → bound taken ≡ Err call_fault.Torn
torn_bound taken (inl none) = ap (bind_told 0) none
torn_bound taken (inr torn) = ap (bind_told 0) torn

refused : (c : Call) (taken rest : List ℕ) (why : CallFault) (first : Result (Option Pdu) PduFault) → Reply first 0 taken rest → bind_told 0 first ≡ Err why
    → IsTold c (Err why) (held taken rest (one_write 0 bind_pdu))
refused c taken rest why first reply is =
    let here : bound (taken ++ rest) ≡ Err why = ap (bind_told 0) reply.is ∙ is in record {
      tells = unbound_tells c (taken ++ rest) why here;
      writes = sym (unbound_writes c (taken ++ rest) why here);
      taken = reply.len ∙ sym (unbound_taken (taken ++ rest) why here ∙ ap (λ (f : Result (Option Pdu) PduFault). reply_len f (taken ++ rest)) reply.is);
      no_read = refl;
      no_write = refl;
    }

-- ---- The bind is accepted

-- the reply that accepts the bind ends at this place, and these bytes stand behind it
record IsBound (bytes rest : List ℕ) (place : ℕ) : Type 0 where
  accepts : bound bytes ≡ Ok tt
  at : reply_at bytes ≡ place
  behind : behind_bind bytes ≡ rest

is_bound : (taken rest : List ℕ) (pdu : Pdu) → first_pdu 0 taken ≡ Ok (Some pdu) → length taken ≡ pdu_len pdu → bind_told 0 (Ok (Some pdu)) ≡ Ok tt
    → IsBound (taken ++ rest) rest (length taken)
is_bound taken rest pdu first len accepts =
    let here = pdu_stays 0 taken rest pdu first in
    let at : reply_at (taken ++ rest) ≡ length taken = ap (λ (f : Result (Option Pdu) PduFault). reply_len f (taken ++ rest)) here ∙ sym len in record {
      accepts = ap (bind_told 0) here ∙ accepts;
      at = at;
      behind = ap (λ (n : ℕ). drop n (taken ++ rest)) at ∙ drop-append_seam taken rest;
    }

second_is : (bytes rest : List ℕ) (place : ℕ) (first : Result (Option Pdu) PduFault) → IsBound bytes rest place → first_pdu place rest ≡ first → second_pdu bytes ≡ first
second_is bytes rest place first b is = ap (λ (p : ℕ). first_pdu p (behind_bind bytes)) b.at ∙ ap (first_pdu place) b.behind ∙ is

bound_tells : (c : Call) (bytes rest : List ℕ) (place : ℕ) (first : Result (Option Pdu) PduFault) (told : Result Given CallFault) → IsBound bytes rest place
    → first_pdu place rest ≡ first → AnswerIs c place first told → Tells c bytes told
bound_tells c bytes rest place first told b is answer =
    let second = second_is bytes rest place first b is in
    let here : AnswerIs c place (second_pdu bytes) told = subst (λ (f : Result (Option Pdu) PduFault). AnswerIs c place f told) (sym second) answer in
    let there : AnswerIs c (reply_at bytes) (second_pdu bytes) told = subst (λ (p : ℕ). AnswerIs c p (second_pdu bytes) told) (sym b.at) here in
    subst (λ (r : Result (Unit {0}) CallFault). TellsIf c bytes told r) (sym b.accepts) there

bound_writes : (c : Call) (bytes rest : List ℕ) (place : ℕ) → IsBound bytes rest place → due_writes c bytes ≡ one_write 0 bind_pdu ++ one_write place (call_pdu 2 c)
bound_writes c bytes rest place b =
    ap (writes_if c bytes) b.accepts ∙ ap (λ (p : ℕ). one_write 0 bind_pdu ++ one_write p (call_pdu 2 c)) b.at

bound_taken : (bytes rest : List ℕ) (place : ℕ) (first : Result (Option Pdu) PduFault) → IsBound bytes rest place → first_pdu place rest ≡ first
    → due_taken bytes ≡ place + reply_len first rest
bound_taken bytes rest place first b is =
    ap (taken_if bytes) b.accepts
    ∙ ap (λ (p : ℕ). p + reply_len (second_pdu bytes) (behind_bind bytes)) b.at
    ∙ ap (λ (f : Result (Option Pdu) PduFault). place + reply_len f (behind_bind bytes)) (second_is bytes rest place first b is)
    ∙ ap (λ (l : List ℕ). place + reply_len first l) b.behind

torn_answer : (c : Call) (place : ℕ) → AnswerIs c place (Ok None) (Err call_fault.Torn)
torn_answer (call.Sync wait flags) place = refl
torn_answer call.Bits place = refl
torn_answer call.Source place = (Err call_fault.Torn, refl, refl)

torn_answer_at : (c : Call) (place at : ℕ) → AnswerIs c place (Err (fault.Torn at)) (Err call_fault.Torn)
torn_answer_at (call.Sync wait flags) place at = refl
torn_answer_at call.Bits place at = refl
torn_answer_at call.Source place at = (Err call_fault.Torn, refl, refl)

-- what is told by bytes in which the reply to the call breaks off
torn_tells : (c : Call) (bytes rest : List ℕ) (place : ℕ) → IsBound bytes rest place → (first_pdu place rest ≡ Ok None) ⊎ (first_pdu place rest ≡ Err (fault.Torn place))
    → Tells c bytes (Err call_fault.Torn)
torn_tells c bytes rest place b (inl none) = bound_tells c bytes rest place (Ok None) (Err call_fault.Torn) b none (torn_answer c place)
torn_tells c bytes rest place b (inr torn) = bound_tells c bytes rest place (Err (fault.Torn place)) (Err call_fault.Torn) b torn (torn_answer_at c place place)

-- a call whose reply was not read came to that
unread_answer : (c : Call) (place : ℕ) (told : Result Given CallFault) → AnswerIs c place (Err fault.ReadFault) told → told ≡ Err call_fault.ReadFault
unread_answer (call.Sync wait flags) place told is = is
unread_answer call.Bits place told is = is
unread_answer call.Source place told is =
    is.2 ∙ ap (λ (r : Result (List ℕ) CallFault). and_if r (λ name. Ok (given.Source name))) is.1

answered : (c : Call) (taken more rest : List ℕ) (pdu : Pdu) (first : Result (Option Pdu) PduFault) (told : Result Given CallFault)
    → first_pdu 0 taken ≡ Ok (Some pdu) → length taken ≡ pdu_len pdu → bind_told 0 (Ok (Some pdu)) ≡ Ok tt
    → Reply first (length taken) more rest → AnswerIs c (length taken) first told
    → IsTold c told (held (taken ++ more) rest (one_write 0 bind_pdu ++ one_write (length taken) (call_pdu 2 c)))
answered c taken more rest pdu first told is len accepts reply answer =
    let all : (taken ++ more) ++ rest ≡ taken ++ (more ++ rest) = append_assoc taken more rest in
    let b = subst (λ (l : List ℕ). IsBound l (more ++ rest) (length taken)) (sym all) (is_bound taken (more ++ rest) pdu is len accepts) in record {
      tells = bound_tells c ((taken ++ more) ++ rest) (more ++ rest) (length taken) first told b reply.is answer;
      writes = sym (bound_writes c ((taken ++ more) ++ rest) (more ++ rest) (length taken) b);
      taken = length-append taken more ∙ ap (λ (n : ℕ). length taken + n) reply.len
          ∙ sym (bound_taken ((taken ++ more) ++ rest) (more ++ rest) (length taken) first b reply.is);
      no_read = refl;
      no_write = refl;
    }

-- ---- The bind and its reply

abbrev BindAsks : Option (List Entry) → Option (List Entry) → Reader → Reader → Result (Unit {0}) CallFault → Type 0
BindAsks told now reader later result =
    Asks bind_pdu true told now reader later (result ≡ Err call_fault.WriteFault) (λ first. result ≡ bind_told 0 first)

-- a session in which the bind was accepted
pub record AfterBind (before now : Option (List Entry)) (reader : Reader) : Type 0 where
  pub taken : List ℕ
  pub left : List ℕ
  pub pdu : Pdu
  pub first : first_pdu 0 taken ≡ Ok (Some pdu)
  pub len : length taken ≡ pdu_len pdu
  pub accepts : bind_told 0 (Ok (Some pdu)) ≡ Ok tt
  pub place : reader.place ≡ length taken
  pub stands : Stands before now (held taken left (one_write 0 bind_pdu))

-- how a session stands in which the call came to this
abbrev pub Ended : Call → Result Given CallFault → Option (List Entry) → Option (List Entry) → Type 0
Ended c told before now = (session : SessionTold) × Stands before now session × CallEnds c told session

ok_not_err : (why : CallFault) → ◌≡◌ {A = Result (Unit {0}) CallFault} (Ok tt) (Err why) → ⊥
ok_not_err why same = cc

same_why : (a b : CallFault) → ◌≡◌ {A = Result (Unit {0}) CallFault} (Err a) (Err b) → a ≡ b
same_why a b same = cc

-- a fault of the reader accepts no bind
err_refuses : (wrong : PduFault) → bind_told 0 (Err wrong) ≡ Ok tt → ⊥
err_refuses (fault.BadVersion at) is = cc
err_refuses (fault.BadType at) is = cc
err_refuses (fault.BadFragment at) is = cc
err_refuses (fault.BadDrep at) is = cc
err_refuses (fault.BadLength at) is = cc
err_refuses (fault.BadAuth at) is = cc
err_refuses (fault.BadBody at) is = cc
err_refuses (fault.Torn at) is = cc
err_refuses fault.ReadFault is = cc

bind_accepted : (first : Result (Option Pdu) PduFault) (before mid now : Option (List Entry)) (left : List ℕ) (reader later : Reader)
    → reader.place ≡ 0 → Stands before mid (held [] left (one_write 0 bind_pdu)) → Nexts first reader later true mid now → Ok tt ≡ bind_told 0 first
    → AfterBind before now later
bind_accepted (Ok None) before mid now left reader later at stands took is = absurd (ok_not_err _ is)
bind_accepted (Err wrong) before mid now left reader later at stands nexts is = absurd (err_refuses wrong (sym is))
bind_accepted (Ok (Some pdu)) before mid now left reader later at stands nexts is =
    let t = nexts.takes in
    let here = took t.taken [] left (one_write 0 bind_pdu) before mid now stands t.took in
    record {
      taken = t.taken;
      left = here.0;
      pdu = pdu;
      first = subst (λ (p : ℕ). first_pdu p t.taken ≡ Ok (Some pdu)) at t.shows.1;
      len = t.shows.0;
      accepts = sym is;
      place = omega (arith, ap (λ (r : Reader). r.place) nexts.reader, at, t.shows.0);
      stands = here.1;
    }

-- the bind was written, whatever came then
bind_written : (before told now : Option (List Entry)) (left : List ℕ) → Stands before told (fresh left)
    → WireWrites put.Done true (pdu_bytes bind_pdu) told now → Stands before now (held [] left (one_write 0 bind_pdu))
bind_written before told now left stands written = wrote (pdu_bytes bind_pdu) before told now (fresh left) stands written.1

-- the bind was accepted
pub after_bind : (before told now : Option (List Entry)) (left : List ℕ) (reader later : Reader) → reader.place ≡ 0 → Stands before told (fresh left)
    → BindAsks told now reader later (Ok tt) → AfterBind before now later
after_bind before told now left reader later at stands (Unwritten wrote same is) = absurd (ok_not_err _ is)
after_bind before told now left reader later at stands (Answered first mid wrote took is) =
    bind_accepted first before mid now left reader later at (bind_written before told mid left stands wrote) took is

-- the reply to the bind was not read
bind_unread : (c : Call) (before mid now : Option (List Entry)) (left : List ℕ) (reader later : Reader)
    → Stands before mid (held [] left (one_write 0 bind_pdu)) → Nexts (Err fault.ReadFault) reader later true mid now → Ended c (Err call_fault.ReadFault) before now
bind_unread c before mid now left reader later stands nexts =
    let t = nexts.takes in
    let here = read_failed t.taken [] left (one_write 0 bind_pdu) before mid now stands t.took in
    let torn = torn_bound t.taken (breaks_off 0 t.taken now t.shows) in (
      record (held t.taken here.0 (one_write 0 bind_pdu)) { read_failed = true },
      here.1,
      record {
        torn = unbound_tells c t.taken call_fault.Torn torn;
        writes = sym (unbound_writes c t.taken call_fault.Torn torn);
        read = refl;
        no_write = refl;
      },
    )

-- what a call of the reader took, where no read failed
took_of : (first : Result (Option Pdu) PduFault) (taken : List ℕ) (old new : Option (List Entry)) → (first ≡ Err fault.ReadFault → ⊥) → TookBy first taken old new → WireTook taken old new
took_of (Ok next) taken old new not_read took = took
took_of (Err (fault.BadVersion at)) taken old new not_read took = took
took_of (Err (fault.BadType at)) taken old new not_read took = took
took_of (Err (fault.BadFragment at)) taken old new not_read took = took
took_of (Err (fault.BadDrep at)) taken old new not_read took = took
took_of (Err (fault.BadLength at)) taken old new not_read took = took
took_of (Err (fault.BadAuth at)) taken old new not_read took = took
took_of (Err (fault.BadBody at)) taken old new not_read took = took
took_of (Err (fault.Torn at)) taken old new not_read took = took
took_of (Err fault.ReadFault) taken old new not_read took = absurd (not_read refl)

bind_refused : (c : Call) (why : CallFault) (first : Result (Option Pdu) PduFault) (before mid now : Option (List Entry)) (left : List ℕ) (reader later : Reader)
    → reader.place ≡ 0 → Stands before mid (held [] left (one_write 0 bind_pdu)) → Nexts first reader later true mid now → Err why ≡ bind_told 0 first
    → (first ≡ Err fault.ReadFault → ⊥) → Ended c (Err why) before now
bind_refused c why first before mid now left reader later at stands nexts is not_read =
    let t = nexts.takes in
    let here = took t.taken [] left (one_write 0 bind_pdu) before mid now stands (took_of first t.taken mid now not_read t.took) in
    let shows = subst (λ (p : ℕ). Shows first p t.taken true now) at t.shows in
    let reply = reply_shown first 0 t.taken here.0 now shows here.2 not_read in
    let none = subst (λ (r : Result (Unit {0}) CallFault). NoFault r) (sym is) (bind_no_fault 0 first not_read) in
    (held t.taken here.0 (one_write 0 bind_pdu), here.1, ends_told c (Err why) _ (other_no_fault why none) (refused c t.taken here.0 why first reply (sym is)))

-- the bind came to a fault, and so the call
pub bind_fails : (c : Call) (why : CallFault) (before told now : Option (List Entry)) (left : List ℕ) (reader later : Reader) → reader.place ≡ 0 → Stands before told (fresh left)
    → BindAsks told now reader later (Err why) → Ended c (Err why) before now
bind_fails c why before told now left reader later at stands (Unwritten wrote same is) =
    let failed = write_failed (pdu_bytes bind_pdu) before told now (fresh left) stands (wrote.0 refl) in
    let due : due_writes c [] ≡ one_write 0 bind_pdu = unbound_writes c [] call_fault.Torn (ap (bind_told 0) (first_none 0)) in
    subst (λ (w : CallFault). Ended c (Err w) before now) (sym (same_why _ _ is))
    (_, failed.2, unwritten c bind_pdu [] left [] failed.0 failed.1 due)
bind_fails c why before told now left reader later at stands (Answered first mid wrote took is) =
    let here = bind_written before told mid left stands wrote in
    elim (read_fault_or_not first) [
      | inl same ↦
          let unread = bind_unread c before mid now left reader later here (subst (λ (f : Result (Option Pdu) PduFault). Nexts f reader later true mid now) same took) in
          subst (λ (w : CallFault). Ended c (Err w) before now) (sym (same_why _ _ (is ∙ ap (bind_told 0) same))) unread
      | inr not_read ↦ bind_refused c why first before mid now left reader later at here took is not_read
    ]

-- ---- The call and its reply

abbrev CallAsks : Call → Option (List Entry) → Option (List Entry) → Reader → Reader → Result Given CallFault → Type 0
CallAsks c told now reader later result =
    Asks (call_pdu 2 c) true told now reader later (result ≡ Err call_fault.WriteFault) (λ first. AnswerIs c reader.place first result)

call_unwritten : (c : Call) (before told now : Option (List Entry)) (reader : Reader) → AfterBind before told reader
    → LastTold (SessionChanged (FailsToWrite (pdu_bytes (call_pdu 2 c)))) told now → Ended c (Err call_fault.WriteFault) before now
call_unwritten c before told now reader a changed =
    let failed = write_failed (pdu_bytes (call_pdu 2 c)) before told now (held a.taken a.left (one_write 0 bind_pdu)) a.stands changed in
    let b = subst (λ (l : List ℕ). IsBound l [] (length a.taken)) (append-nil a.taken) (is_bound a.taken [] a.pdu a.first a.len a.accepts) in
    (_, failed.2, unwritten c (call_pdu 2 c) a.taken a.left (one_write 0 bind_pdu) failed.0 failed.1 (bound_writes c a.taken [] (length a.taken) b))

abbrev both_writes : Call → ℕ → List Written
both_writes c place = one_write 0 bind_pdu ++ one_write place (call_pdu 2 c)

call_unread : (c : Call) (before told mid now : Option (List Entry)) (reader later : Reader) → (a : AfterBind before told reader)
    → Stands before mid (held a.taken a.left (both_writes c (length a.taken))) → Nexts (Err fault.ReadFault) reader later true mid now
    → Ended c (Err call_fault.ReadFault) before now
call_unread c before told mid now reader later a stands nexts =
    let t = nexts.takes in
    let here = read_failed t.taken a.taken a.left (both_writes c (length a.taken)) before mid now stands t.took in
    let b = is_bound a.taken t.taken a.pdu a.first a.len a.accepts in (
      record (held (a.taken ++ t.taken) here.0 (both_writes c (length a.taken))) { read_failed = true },
      here.1,
      record {
        torn = torn_tells c (a.taken ++ t.taken) t.taken (length a.taken) b (breaks_off (length a.taken) t.taken now t.shows);
        writes = sym (bound_writes c (a.taken ++ t.taken) t.taken (length a.taken) b);
        read = refl;
        no_write = refl;
      },
    )

call_answered : (c : Call) (result : Result Given CallFault) (first : Result (Option Pdu) PduFault) (before told mid now : Option (List Entry)) (reader later : Reader)
    → (a : AfterBind before told reader) → Stands before mid (held a.taken a.left (both_writes c (length a.taken))) → Nexts first reader later true mid now
    → AnswerIs c reader.place first result → (first ≡ Err fault.ReadFault → ⊥) → Ended c result before now
call_answered c result first before told mid now reader later a stands nexts is not_read =
    let t = nexts.takes in
    let here = took t.taken a.taken a.left (both_writes c (length a.taken)) before mid now stands (took_of first t.taken mid now not_read t.took) in
    let shows = subst (λ (p : ℕ). Shows first p t.taken true now) a.place t.shows in
    let reply = reply_shown first (length a.taken) t.taken here.0 now shows here.2 not_read in
    let answer = subst (λ (p : ℕ). AnswerIs c p first result) a.place is in (
      held (a.taken ++ t.taken) here.0 (both_writes c (length a.taken)),
      here.1,
      ends_told c result _ (answer_no_fault c reader.place first result not_read is) (answered c a.taken t.taken here.0 a.pdu first result a.first a.len a.accepts reply answer),
    )

-- the call was made in a session in which the bind was accepted
pub call_ends : (c : Call) (result : Result Given CallFault) (before told now : Option (List Entry)) (reader later : Reader) → AfterBind before told reader
    → CallAsks c told now reader later result → Ended c result before now
call_ends c result before told now reader later a (Unwritten wrote same is) =
    subst (λ (r : Result Given CallFault). Ended c r before now) (sym is) (call_unwritten c before told now reader a (wrote.0 refl))
call_ends c result before told now reader later a (Answered first mid written took is) =
    let here = wrote (pdu_bytes (call_pdu 2 c)) before told mid (held a.taken a.left (one_write 0 bind_pdu)) a.stands written.1 in
    elim (read_fault_or_not first) [
      | inl same ↦
          let unread = call_unread c before told mid now reader later a here (subst (λ (f : Result (Option Pdu) PduFault). Nexts f reader later true mid now) same took) in
          let came = unread_answer c reader.place result (subst (λ (f : Result (Option Pdu) PduFault). AnswerIs c reader.place f result) same is) in
          subst (λ (r : Result Given CallFault). Ended c r before now) (sym came) unread
      | inr not_read ↦ call_answered c result first before told mid now reader later a here took is not_read
    ]

-- ---- The whole session

said : (c : Call) (result : Result Given CallFault) (before now : Option (List Entry)) → Ended c result before now
    → (session : SessionTold) × Grew before now (Session session ∷ []) × CallEnds c result session
said c result before now e = (e.0, grew_of before now e.0 e.1, e.2)

-- the bind with the place of its reply, which is the front
at_front : (told now : Option (List Entry)) (reader later : Reader) (is_open : Bool) (result : Result (Unit {0}) CallFault) → is_open ≡ true → reader.place ≡ 0
    → Asks bind_pdu is_open told now reader later (result ≡ Err call_fault.WriteFault) (λ first. result ≡ bind_told reader.place first)
    → BindAsks told now reader later result
at_front told now reader later is_open result opened at asks =
    subst (λ (p : ℕ). Asks bind_pdu true told now reader later (result ≡ Err call_fault.WriteFault) (λ first. result ≡ bind_told p first)) at
    (subst (λ (o : Bool). Asks bind_pdu o told now reader later (result ≡ Err call_fault.WriteFault) (λ first. result ≡ bind_told reader.place first)) opened asks)

pub bind_talks : (c : Call) (why : CallFault) (result : Result Given CallFault) (told now : Option (List Entry)) (reader later : Reader) (is_open : Bool)
    → is_open ≡ true → reader.place ≡ 0
    → Asks bind_pdu is_open told now reader later (◌≡◌ {A = Result (Unit {0}) CallFault} (Err why) (Err call_fault.WriteFault)) (λ first. Err why ≡ bind_told reader.place first)
    → result ≡ Err why → Talks c result told now
bind_talks c why result told now reader later is_open opened at asks came before left grew =
    let e = bind_fails c why before told now left reader later at (stands_of before told (fresh left) grew) (at_front told now reader later is_open (Err why) opened at asks) in
    said c result before now (subst (λ (r : Result Given CallFault). Ended c r before now) (sym came) e)

pub call_talks : (c : Call) (result : Result Given CallFault) (told mid now : Option (List Entry)) (reader later last : Reader) (is_open is_open_mid : Bool)
    → is_open ≡ true → is_open_mid ≡ is_open → reader.place ≡ 0
    → Asks bind_pdu is_open told mid reader later (◌≡◌ {A = Result (Unit {0}) CallFault} (Ok tt) (Err call_fault.WriteFault)) (λ first. Ok tt ≡ bind_told reader.place first)
    → Asks (call_pdu 2 c) is_open_mid mid now later last (result ≡ Err call_fault.WriteFault) (λ first. AnswerIs c later.place first result)
    → Talks c result told now
call_talks c result told mid now reader later last is_open is_open_mid opened same at asks next before left grew =
    let a = after_bind before told mid left reader later at (stands_of before told (fresh left) grew) (at_front told mid reader later is_open (Ok tt) opened at asks) in
    let here = subst (λ (o : Bool). Asks (call_pdu 2 c) o mid now later last (result ≡ Err call_fault.WriteFault) (λ first. AnswerIs c later.place first result)) (same ∙ opened) next in
    said c result before now (call_ends c result before mid now later last a here)
