-- The member takes an event that is due: it may, what it leads to, and the mark and the number of requests behind it.
use Rattle.std.proofs.Common.{◌≡◌, ℕ, ◌+◌, ◌<◌, ◌^◌, Bool, true, false, List, [], ◌∷◌, ◌++◌, Option, Some, Result, Ok, Err, OnOk, FitsSigned, w64, ap, refl, subst, sym, ◌∙◌, arith, ℤ, pos, negsuc, if◌then◌else◌, unsigned_abs}
use Rattle.std.specs.Prelude.{◌+ℤ◌}
use Rattle.std.specs.Result.{is_err}
use Rattle.std.specs.List.{Contains}
use Rattle.base_specs.specs.Time.{IsReading}
use Rattle.capture_fmt.specs.declared.event.Event.{Event}
use Rattle.capture_fmt.specs.declared.event.Event.TheVariants.{Life, Tick, Resync, Arrive}
use Rattle.edge_traits.specs.declared.datagram.Addr.{Addr}
use Rattle.ntp_wire.specs.Fields.{originate_of}
use Rattle.time_machine.specs.declared.conf.Conf.{Conf}
use Rattle.time_machine.specs.declared.outcome.How.{How}
use Rattle.time_machine.specs.declared.outcome.Outcome.{Outcome}
use Rattle.time_machine.specs.declared.outcome.Outcome.TheVariants.{Started, Idle, Sent, Moved, Refused}
use Rattle.time_machine.specs.declared.outcome.Reason.{Reason}
use Rattle.time_machine.specs.After.{after, after_arrival, after_send}
use Rattle.time_machine.specs.Events.{IsRead}
use Rattle.time_machine.specs.Growing.{MayFollow}
use Rattle.time_machine.specs.Kept.{kept}
use Rattle.time_machine.specs.Machine.{is_change, is_due, outcome_at, outcome_by, request_as, told}
use Rattle.time_machine.specs.Words.{Words, words}
use Rattle.time_machine.proofs.After.{outcome_kept, verdict_cases, words_after}
use Rattle.sntp_core.specs.declared.member.Member.{Member}
use Rattle.sntp_core.specs.Standing.{conf_of, words_of}
use Rattle.sntp_world.specs.declared.due.Due.TheVariants as due
use Rattle.sntp_world.specs.declared.moment.Moment.{Moment}
use Rattle.sntp_world.specs.declared.op.Effect.TheVariants as effect
use Rattle.sntp_world.specs.declared.packet.Destination.TheVariants as to
use Rattle.sntp_world.specs.declared.packet.Packet.{Packet}
use Rattle.sntp_world.specs.Due.{Does, HasRequest, IsAccepted, IsDueBy, IsRequestWith, IsSlackBy, least_of}
use Rattle.sntp_world.specs.Setting.{world_conf}
use Rattle.sntp_world.specs.Standing.{IsReached, Keeps, Kept}
use Rattle.sntp_world.specs.State.{State}
use Rattle.sntp_world.specs.Steps.{nearest_reading, words_in}
use Rattle.sntp_world.proofs.Accepting.{accepted}
use Rattle.sntp_world.proofs.Doing.{HasStepped, does_idle, does_move, does_refused, does_send, does_start, outcome_is}
use Rattle.sntp_world.proofs.Dues.{kept_in, reversed_in}
use Rattle.sntp_world.proofs.Keeping.{kept_follows, kept_has, kept_packets, kept_words}
use Rattle.sntp_world.proofs.Sending.{Fits, Opens, fits_by, opens}

-- ---- The mark, and the number of requests

-- both after an event, by what it led to
abbrev pub Marks : Words → Outcome → Words → Type 0
Marks w (Started mark) now = (now.mark ≡ Some mark) × (now.sent ≡ 0)
Marks w (Sent addr count bytes) now = (now.mark ≡ w.mark) × (now.sent ≡ w.sent + 1)
Marks w (Moved count offset how) now = (now.mark ≡ w.mark) × (now.sent ≡ w.sent)
Marks w Idle now = (now.mark ≡ w.mark) × (now.sent ≡ w.sent)
Marks w (Refused reason) now = (now.mark ≡ w.mark) × (now.sent ≡ w.sent)

marks_tick : (w : Words) (now : ℤ) (word : ℕ) (changes turned : Bool) →
    Marks w (if turned then request_as world_conf w false changes word else Idle) (if turned then after_send world_conf w false changes now word else w)
marks_tick w now word changes true = (refl, refl)
marks_tick w now word changes false = (refl, refl)

marks : (w : Words) (e : Event) → Marks w (outcome_by world_conf w e) (after world_conf w e)
marks w (Life now mark) = (refl, refl)
marks w (Tick now word) = marks_tick w now word (is_change w (Tick now word)) (is_due w now)
marks w (Resync now word flags) = (refl, refl)
marks w (Arrive now from bytes) =
    verdict_cases (λ o. Marks w o (after_arrival world_conf w now o)) (λ reason. (refl, refl)) world_conf w now from bytes (λ r e offset how. (refl, refl))

words_stepped : (k : Kept) (w : State) (e : Event) (o : Outcome) (now : Member) → Keeps k w → HasStepped k.member e o now → words_of now ≡ after world_conf (words_of k.member) e
unfolding told
words_stepped k w e o now keeps stepped =
    let s = stepped.stands w.history keeps.member in
    let conf = stepped.conf ∙ keeps.conf in
    let here : words_of now ≡ kept world_conf (words world_conf (told world_conf (e ∷ w.history))) =
    subst (λ (c : Conf). words_of now ≡ kept c (words c (told c (e ∷ w.history)))) conf s.keeps in
    here ∙ words_after world_conf (told world_conf w.history) e ∙ ap (λ (v : Words). after world_conf v e) (sym (kept_words k w keeps))

outcome_kept_by : (k : Kept) (w : State) (e : Event) (o : Outcome) (now : Member) → Keeps k w → HasStepped k.member e o now → o ≡ outcome_by world_conf (words_of k.member) e
unfolding outcome_at
outcome_kept_by k w e o now keeps stepped =
    outcome_is k w e o now keeps stepped ∙ sym (outcome_kept world_conf (words_in w) e) ∙ ap (λ (v : Words). outcome_by world_conf v e) (sym (kept_words k w keeps))

pub marks_stepped : (k : Kept) (e : Event) (o : Outcome) (now : Member) → IsReached k → HasStepped k.member e o now → Marks (words_of k.member) o (words_of now)
marks_stepped k e o now reached stepped =
    let w = reached.stands.state in
    let keeps = reached.stands.keeps in
    let is = marks (words_of k.member) e in
    subst (λ (v : Words). Marks (words_of k.member) o v) (sym (words_stepped k w e o now keeps stepped))
    (subst (λ (x : Outcome). Marks (words_of k.member) x (after world_conf (words_of k.member) e)) (sym (outcome_kept_by k w e o now keeps stepped)) is)

-- ---- The event may be taken

pub may_step : (k : Kept) (e : Event) → IsReached k → IsDueBy k (due.Take e) → MayFollow (conf_of k.member) (words_of k.member) e
may_step k e reached is =
    kept_follows k reached.stands.state e reached.stands.keeps (is.is reached.stands.state reached.stands.keeps).may.0

pub may_read : (k : Kept) (e : Event) → IsReached k → IsDueBy k (due.Take e) → IsRead e
may_read k e reached is =
    let w = reached.stands.state in
    subst IsReading (sym (is.is w reached.stands.keeps).may.1) (kept_has k w reached reached.stands.keeps).packets.clocks.member

-- a request more fits four bytes
sent_fits : (w : State) (e : Event) (addr : Addr) (count : ℕ) (bytes : List ℕ) → MayFollow world_conf (words_in w) e
    → outcome_at world_conf w.history e ≡ Sent addr count bytes → (words_in w).sent + 1 < 2 ^ 32
unfolding outcome_at
sent_fits w e addr count bytes follows is =
    let low = subst Fits is (fits_by w e follows) in
    let counted = (subst (λ (o : Outcome). Opens (words_in w) e o (after world_conf (words_in w) e).open_requests) is (opens (words_in w) e)).0.counted in
    omega arith

pub room_left : (k : Kept) (e : Event) (addr : Addr) (count sent : ℕ) (bytes : List ℕ) (now : Member) → IsReached k → IsDueBy k (due.Take e)
    → HasStepped k.member e (Sent addr count bytes) now → (words_of k.member).sent ≡ sent → sent + 1 < 2 ^ 32
room_left k e addr count sent bytes now reached is stepped same =
    let w = reached.stands.state in
    let keeps = reached.stands.keeps in
    let fits = sent_fits w e addr count bytes (is.is w keeps).may.0 (sym (outcome_is k w e (Sent addr count bytes) now keeps stepped)) in
    let sent_is : (words_of k.member).sent ≡ (words_in w).sent = ap (λ (v : Words). v.sent) (kept_words k w keeps) in
    omega arith

-- ---- A correction

-- the packets in either order
has_kept : (k : Kept) (w : State) (at : Moment) (bytes : List ℕ) → Keeps k w → HasRequest w.packets at bytes → HasRequest k.packets at bytes
has_kept k w at bytes keeps has = record {
  whole = has.whole;
  there = λ fits.
      let is = has.there fits in
      (is.0, reversed_in k.packets is.0 (subst (λ (ps : List Packet). Contains ps is.0) (kept_packets k w keeps) is.1), is.2);
  timely = λ (p : Packet) (c : Contains k.packets p) (is : IsRequestWith (originate_of bytes) p). has.timely p (kept_in k w p keeps c) is;
}

accepted_kept : (k : Kept) (w : State) (e : Event) → Keeps k w → IsAccepted w.packets w.now e → IsAccepted k.packets k.clocks e
accepted_kept k w (Arrive at from bytes) keeps is =
    subst (λ (m : Moment). HasRequest k.packets m bytes) (sym keeps.clocks) (has_kept k w w.now bytes keeps is)
accepted_kept k w (Life at mark) keeps is = is
accepted_kept k w (Tick at word) keeps is = is
accepted_kept k w (Resync at word flags) keeps is = is

pub accepts : (k : Kept) (e : Event) (count : ℕ) (offset : ℤ) (how : How) (now : Member) → IsReached k → IsDueBy k (due.Take e)
    → HasStepped k.member e (Moved count offset how) now → IsAccepted k.packets k.clocks e × (unsigned_abs offset < 10 ^ 17)
accepts k e count offset how now reached is stepped =
    let w = reached.stands.state in
    let keeps = reached.stands.keeps in
    let both = accepted w e count offset how (kept_has k w reached keeps) (is.is w keeps).may.1 (sym (outcome_is k w e (Moved count offset how) now keeps stepped)) in
    (accepted_kept k w e keeps both.0, both.1)

-- ---- What each outcome leaves

-- room was made, so a push can't fail
pub on_ok : {T E : Type 0} (r : Result T E) (P : Type 0) → OnOk r P → false ≡ is_err r → P
on_ok (Ok x) P h e = h
on_ok (Err x) P h e = absurd (let no : ⊥ = cc in no)

pub sent_items : (packets items now : List Packet) (bytes copied : List ℕ) (at : Moment) → items ≡ packets → copied ≡ bytes
    → now ≡ items ++ record { to = to.Controller; bytes = copied; at = at } ∷ [] → now ≡ packets ++ record { to = to.Controller; bytes = bytes; at = at } ∷ []
sent_items packets items now bytes copied at same copy is =
    is ∙ ap (λ (l : List ℕ). items ++ record { to = to.Controller; bytes = l; at = at } ∷ []) copy
    ∙ ap (λ (ps : List Packet). ps ++ record { to = to.Controller; bytes = bytes; at = at } ∷ []) same

pub small_fits : (z : ℤ) → unsigned_abs z < 10 ^ 17 → FitsSigned w64 z
small_fits (pos n) h = record { sfits = omega arith }
small_fits (negsuc n) h = record { sfits = omega arith }

-- what was done, and the mark and the number of requests behind it
pub record Leaving (k : Kept) (e : Event) (o : Outcome) (now : Kept) (mark sent : ℕ) : Type 0 where
  pub does : Does k (due.Take e) (effect.Stepped o) now
  pub mark_is : (words_of now.member).mark ≡ Some mark
  pub sent_is : (words_of now.member).sent ≡ sent

pub leave_start : (k : Kept) (e : Event) (o : Outcome) (now : Member) (packets : List Packet) (mark : ℕ) → IsReached k → HasStepped k.member e o now
    → o ≡ Started mark → packets ≡ k.packets → Leaving k e o (record { member = now; clocks = k.clocks; packets = packets; slack = k.slack }) mark 0
leave_start k e o now packets mark reached stepped is same =
    let here = subst (λ (x : Outcome). HasStepped k.member e x now) is stepped in
    let m = marks_stepped k e (Started mark) now reached here in
    let done = subst (λ (x : Outcome). Does k (due.Take e) (effect.Stepped x) (record k { member = now })) (sym is) (does_start k e mark now here) in
    record {
      does = subst (λ (ps : List Packet). Does k (due.Take e) (effect.Stepped o) (record { member = now; clocks = k.clocks; packets = ps; slack = k.slack })) (sym same) done;
      mark_is = m.0;
      sent_is = m.1;
    }

pub leave_idle : (k : Kept) (e : Event) (o : Outcome) (now : Member) (packets : List Packet) (mark sent : ℕ) → IsReached k → HasStepped k.member e o now
    → o ≡ Idle → packets ≡ k.packets → (words_of k.member).mark ≡ Some mark → (words_of k.member).sent ≡ sent
    → Leaving k e o (record { member = now; clocks = k.clocks; packets = packets; slack = k.slack }) mark sent
leave_idle k e o now packets mark sent reached stepped is same mark_is sent_is =
    let here = subst (λ (x : Outcome). HasStepped k.member e x now) is stepped in
    let m = marks_stepped k e Idle now reached here in
    let done = subst (λ (x : Outcome). Does k (due.Take e) (effect.Stepped x) (record k { member = now })) (sym is) (does_idle k e now here) in
    record {
      does = subst (λ (ps : List Packet). Does k (due.Take e) (effect.Stepped o) (record { member = now; clocks = k.clocks; packets = ps; slack = k.slack })) (sym same) done;
      mark_is = m.0 ∙ mark_is;
      sent_is = m.1 ∙ sent_is;
    }

pub leave_refused : (k : Kept) (e : Event) (o : Outcome) (now : Member) (packets : List Packet) (mark sent : ℕ) (reason : Reason) → IsReached k → HasStepped k.member e o now
    → o ≡ Refused reason → packets ≡ k.packets → (words_of k.member).mark ≡ Some mark → (words_of k.member).sent ≡ sent
    → Leaving k e o (record { member = now; clocks = k.clocks; packets = packets; slack = k.slack }) mark sent
leave_refused k e o now packets mark sent reason reached stepped is same mark_is sent_is =
    let here = subst (λ (x : Outcome). HasStepped k.member e x now) is stepped in
    let m = marks_stepped k e (Refused reason) now reached here in
    let done = subst (λ (x : Outcome). Does k (due.Take e) (effect.Stepped x) (record k { member = now })) (sym is) (does_refused k e reason now here) in
    record {
      does = subst (λ (ps : List Packet). Does k (due.Take e) (effect.Stepped o) (record { member = now; clocks = k.clocks; packets = ps; slack = k.slack })) (sym same) done;
      mark_is = m.0 ∙ mark_is;
      sent_is = m.1 ∙ sent_is;
    }

pub leave_sent : (k : Kept) (e : Event) (o : Outcome) (now : Member) (packets : List Packet) (mark sent : ℕ) (addr : Addr) (count : ℕ) (bytes : List ℕ)
    → IsReached k → HasStepped k.member e o now → o ≡ Sent addr count bytes → packets ≡ k.packets ++ record { to = to.Controller; bytes = bytes; at = k.clocks } ∷ []
    → (words_of k.member).mark ≡ Some mark → (words_of k.member).sent ≡ sent
    → Leaving k e o (record { member = now; clocks = k.clocks; packets = packets; slack = k.slack }) mark (sent + 1)
leave_sent k e o now packets mark sent addr count bytes reached stepped is all mark_is sent_is =
    let here = subst (λ (x : Outcome). HasStepped k.member e x now) is stepped in
    let m = marks_stepped k e (Sent addr count bytes) now reached here in
    record {
      does = subst (λ (x : Outcome). Does k (due.Take e) (effect.Stepped x) (record k { member = now; packets = packets })) (sym is)
          (does_send k e addr count bytes now packets here all);
      mark_is = m.0 ∙ mark_is;
      sent_is = m.1 ∙ ap (λ (n : ℕ). n + 1) sent_is;
    }

-- the slack of a correction, and the least one with it
abbrev pub HasSlack : Kept → List Packet → Event → ℤ → Option ℤ → Type 0
HasSlack k packets e offset slack = (s : ℤ) × IsSlackBy packets k.clocks e offset s × (slack ≡ Some (least_of k.slack s))

pub leave_moved : (k : Kept) (e : Event) (o : Outcome) (now : Member) (packets slice : List Packet) (clocks : Moment) (slack : Option ℤ) (mark sent count : ℕ) (offset z : ℤ) (how : How)
    → IsReached k → HasStepped k.member e o now → o ≡ Moved count offset how → packets ≡ k.packets → slice ≡ packets → z ≡ offset
    → clocks ≡ record k.clocks { member = nearest_reading (k.clocks.member +ℤ z) } → HasSlack k slice e z slack
    → (words_of k.member).mark ≡ Some mark → (words_of k.member).sent ≡ sent
    → Leaving k e o (record { member = now; clocks = clocks; packets = packets; slack = slack }) mark sent
leave_moved k e o now packets slice clocks slack mark sent count offset z how reached stepped is same all near corrected has mark_is sent_is =
    let here = subst (λ (x : Outcome). HasStepped k.member e x now) is stepped in
    let m = marks_stepped k e (Moved count offset how) now reached here in
    let by = subst (λ (ps : List Packet). IsSlackBy ps k.clocks e offset has.0) (all ∙ same) (subst (λ (y : ℤ). IsSlackBy slice k.clocks e y has.0) near has.1) in
    let done = does_move k e count offset has.0 how now here by in
    let outcome = subst (λ (x : Outcome). Does k (due.Take e) (effect.Stepped x)
    (record k { member = now; clocks = record k.clocks { member = nearest_reading (k.clocks.member +ℤ offset) }; slack = Some (least_of k.slack has.0) })) (sym is) done in
    let at = corrected ∙ ap (λ (y : ℤ). record k.clocks { member = nearest_reading (k.clocks.member +ℤ y) }) near in
    let timed = subst (λ (c : Moment). Does k (due.Take e) (effect.Stepped o) (record { member = now; clocks = c; packets = k.packets; slack = Some (least_of k.slack has.0) })) (sym at) outcome in
    let slacked = subst (λ (s : Option ℤ). Does k (due.Take e) (effect.Stepped o) (record { member = now; clocks = clocks; packets = k.packets; slack = s })) (sym has.2) timed in
    record {
      does = subst (λ (ps : List Packet). Does k (due.Take e) (effect.Stepped o) (record { member = now; clocks = clocks; packets = ps; slack = slack })) (sym same) slacked;
      mark_is = m.0 ∙ mark_is;
      sent_is = m.1 ∙ sent_is;
    }

-- what was done is seen by the world's value
pub does_at : (k same : Kept) (e : Event) (o : Outcome) (now : Kept) → k ≡ same → Does k (due.Take e) (effect.Stepped o) now → Does same (due.Take e) (effect.Stepped o) now
does_at k same e o now is does = subst (λ (x : Kept). Does x (due.Take e) (effect.Stepped o) now) is does
