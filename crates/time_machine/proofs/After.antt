-- What stands at the end of a history after one more event.
use Rattle.std.proofs.Common.{◌≡◌, ℕ, ◌+◌, ◌%◌, Bool, true, false, ◌&&◌, ◌==◌, List, ◌∷◌, length, Option, Some, None, refl, sym, ◌∙◌, ap, subst, if◌then◌else◌, ℤ, bit_and, find}
use Rattle.std.proofs.Math.Nat.{mod-add-mod, mod-mod, zero-max, zero-mod, add-zero}
use Rattle.std.proofs.lemmas.List.{append-nil}
use Rattle.edge_traits.specs.declared.datagram.Addr.{Addr}
use Rattle.ntp_wire.specs.Stamp.{ticks_of}
use Rattle.ntp_wire.specs.Fields.{leap_of, mode_of, stratum_of, originate_of, receive_of, transmit_of}
use Rattle.phase_rule.specs.declared.rule.Judged.{Judged}
use Rattle.phase_rule.specs.declared.rule.Judged.TheVariants as judgement
use Rattle.phase_rule.specs.Rule.{judged}
use Rattle.capture_fmt.specs.declared.event.Event.{Event}
use Rattle.capture_fmt.specs.declared.event.Event.TheVariants.{Life, Tick, Resync, Arrive}
use Rattle.time_machine.specs.declared.outcome.Request.{Request}
use Rattle.time_machine.specs.declared.outcome.How.{How}
use Rattle.time_machine.specs.declared.outcome.How.TheVariants.{Slew, Step}
use Rattle.time_machine.specs.declared.outcome.Reason.{Reason}
use Rattle.time_machine.specs.declared.outcome.Reason.TheVariants.{BadLength, BadSource, BadMode, BadStratum, NoRequest, BadKeyId, BadDigest, BadTimes, TooBig}
use Rattle.time_machine.specs.declared.outcome.Outcome.{Outcome}
use Rattle.time_machine.specs.declared.outcome.Outcome.TheVariants.{Idle, Sent, Moved, Refused}
use Rattle.time_machine.specs.declared.conf.Conf.{Conf}
use Rattle.time_machine.specs.Events.{is_reset}
use Rattle.time_machine.specs.Words.{Words, words}
use Rattle.time_machine.specs.Told.{Told}
use Rattle.time_machine.specs.Verdict.{is_answered, is_bad_length, is_bad_source, is_bad_mode, is_bad_stratum, is_bad_key_id, is_bad_digest, has_bad_times, offset_of, moved_by, verdict_at, verdict_on}
use Rattle.time_machine.specs.Machine.{told_by, is_due, is_change, partner_as, request_as, count_at, outcome_by}
use Rattle.time_machine.specs.Growing.{MayFollow}
use Rattle.time_machine.specs.After.{after, after_life, after_send, after_move, after_arrival}
use Rattle.time_machine.specs.Kept.{kept}

-- ---- The changes count modulo the number of partners

partner_kept : (conf : Conf) (w : Words) (resets changes : Bool) → partner_as conf (kept conf w) resets changes ≡ partner_as conf w resets changes
partner_kept conf w true changes = refl
partner_kept conf w false changes = mod-add-mod w.changes (length conf.partners) (if changes then 1 else 0)

pub request_kept : (conf : Conf) (w : Words) (resets changes : Bool) (word : ℕ) → request_as conf (kept conf w) resets changes word ≡ request_as conf w resets changes word
request_kept conf w resets changes word = rw (partner_kept conf w resets changes) refl

pub verdict_kept : (conf : Conf) (w : Words) (now : ℤ) (from : Addr) (bytes : List ℕ) → verdict_at conf (kept conf w) now from bytes ≡ verdict_at conf w now from bytes
verdict_kept conf w now from bytes = rw (mod-mod w.changes (length conf.partners)) refl

pub outcome_kept : (conf : Conf) (w : Words) (e : Event) → outcome_by conf (kept conf w) e ≡ outcome_by conf w e
outcome_kept conf w (Life now mark) = refl
outcome_kept conf w (Tick now word) = rw (request_kept conf w false (is_change w (Tick now word)) word) refl
outcome_kept conf w (Resync now word flags) = request_kept conf w (is_reset (Resync now word flags)) (is_change w (Resync now word flags)) word
outcome_kept conf w (Arrive now from bytes) = verdict_kept conf w now from bytes

-- ---- A verdict is a refusal, or a move for an open request

moved_cases : (P : Outcome → Type 0) → ((reason : Reason) → P (Refused reason)) → (count : ℕ) → ((offset : ℤ) (how : How) → P (Moved count offset how)) → (offset : ℤ) (j : Judged) → P (moved_by count offset j)
moved_cases P refused count moved offset judgement.TooBig = refused TooBig
moved_cases P refused count moved offset judgement.Step = moved offset Step
moved_cases P refused count moved offset judgement.Slew = moved offset Slew

if_cases : (P : Outcome → Type 0) (b : Bool) (x y : Outcome) → P x → P y → P (if b then x else y)
if_cases P true x y p q = p
if_cases P false x y p q = q

verdict_on_cases : (P : Outcome → Type 0) → ((reason : Reason) → P (Refused reason)) → (conf : Conf) (now : ℤ) (bytes : List ℕ) (o : Option Request) → ((r : Request) → o ≡ Some r → (offset : ℤ) (how : How) → P (Moved r.count offset how)) → P (verdict_on conf now bytes o)
verdict_on_cases P refused conf now bytes None moved = refused NoRequest
verdict_on_cases P refused conf now bytes (Some r) moved =
    let limits = conf.limits in
    let received = ticks_of (receive_of bytes) now in
    let sent = ticks_of (transmit_of bytes) now in
    if_cases P (is_bad_key_id conf.kind conf.account.rid bytes) _ _ (refused BadKeyId)
    (if_cases P (is_bad_digest conf.kind conf.account bytes) _ _ (refused BadDigest)
    (if_cases P (has_bad_times r.at received sent now) _ _ (refused BadTimes)
    (moved_cases P refused r.count (moved r refl) (offset_of r.at received sent now) (judged limits (offset_of r.at received sent now)))))

pub verdict_cases : (P : Outcome → Type 0) → ((reason : Reason) → P (Refused reason)) → (conf : Conf) (w : Words) (now : ℤ) (from : Addr) (bytes : List ℕ) →
    ((r : Request) → find (is_answered now (originate_of bytes)) w.open_requests ≡ Some r → (offset : ℤ) (how : How) → P (Moved r.count offset how)) → P (verdict_at conf w now from bytes)
verdict_cases P refused conf w now from bytes moved =
    if_cases P (is_bad_length conf.kind bytes) _ _ (refused BadLength)
    (if_cases P (is_bad_source conf w from) _ _ (refused BadSource)
    (if_cases P (is_bad_mode (mode_of bytes)) _ _ (refused BadMode)
    (if_cases P (is_bad_stratum (leap_of bytes) (stratum_of bytes)) _ _ (refused BadStratum)
    (verdict_on_cases P refused conf now bytes (find (is_answered now (originate_of bytes)) w.open_requests) moved))))

-- ---- The words after one more event

-- what differs between the definitions and the step: the order of a sum, a 0 that is added, and the remainder
pub same_words : {mark : Option ℕ} {s s' g g' : ℕ} {base : Option ℤ} {poll c c' : ℕ} {open1 open2 : List Request} {source source' : Option ℕ} →
    s ≡ s' → g ≡ g' → c ≡ c' → open1 ≡ open2 → source ≡ source' →
    ◌≡◌ {A = Words} (record { mark = mark; sent = s; greatest = g; base = base; poll = poll; changes = c; open_requests = open1; source = source })
    (record { mark = mark; sent = s'; greatest = g'; base = base; poll = poll; changes = c'; open_requests = open2; source = source' })
same_words es eg ec eo eu = cc

changes_kept : (c n k : ℕ) → (c + k) % n ≡ (c % n + k) % n
changes_kept c n k = sym (mod-add-mod c n k)

moved_from : (c n : ℕ) → (c + 0) % n ≡ c % n % n
moved_from c n = ap (λ k. k % n) (add-zero c) ∙ sym (mod-mod c n)

changes_none : (c n : ℕ) → (c + 0) % n ≡ c % n
changes_none c n = ap (λ k. k % n) (add-zero c)

life_words : (conf : Conf) (before : List Told) (now : ℤ) (mark : ℕ) →
    kept conf (words conf (told_by conf (words conf before) (Life now mark) ∷ before)) ≡ after_life conf (kept conf (words conf before)) mark
unfolding words
life_words conf before now mark = same_words refl (zero-max _) (zero-mod _) refl refl

tick_idle : (conf : Conf) (before : List Told) (now : ℤ) (word p : ℕ) →
    kept conf (words conf (record { event = Tick now word; changes = false; partner = p; outcome = Idle } ∷ before)) ≡ kept conf (words conf before)
unfolding words
tick_idle conf before now word p = same_words (add-zero _) (zero-max _) (changes_none _ _) (append-nil _) refl

refused : (conf : Conf) (before : List Told) (now : ℤ) (from : Addr) (bytes : List ℕ) (p : ℕ) (r : Reason) →
    kept conf (words conf (record { event = Arrive now from bytes; changes = false; partner = p; outcome = Refused r } ∷ before)) ≡ kept conf (words conf before)
unfolding words
refused conf before now from bytes p r = same_words (add-zero _) (zero-max _) (changes_none _ _) (append-nil _) refl

moved : (conf : Conf) (before : List Told) (now : ℤ) (from : Addr) (bytes : List ℕ) (count : ℕ) (offset : ℤ) (how : How) →
    kept conf (words conf (record { event = Arrive now from bytes; changes = false; partner = partner_as conf (words conf before) false false; outcome = Moved count offset how } ∷ before))
    ≡ after_move conf (kept conf (words conf before)) now offset how
unfolding words
moved conf before now from bytes count offset how = same_words (add-zero _) (zero-max _) (changes_none _ _) refl (ap Some (moved_from _ _))

tick_sent : (conf : Conf) (before : List Told) (now : ℤ) (word p : ℕ) (changes : Bool) (to : Addr) (bytes : List ℕ) →
    kept conf (words conf (record { event = Tick now word; changes = changes; partner = p; outcome = Sent to (count_at (words conf before)) bytes } ∷ before))
    ≡ after_send conf (kept conf (words conf before)) false changes now word
unfolding words
tick_sent conf before now word p true to bytes = same_words refl refl (changes_kept _ _ 1) refl refl
tick_sent conf before now word p false to bytes = same_words refl refl (changes_kept _ _ 0) refl refl

resync_sent : (conf : Conf) (before : List Told) (now : ℤ) (word flags p : ℕ) (resets : Bool) → (bit_and flags 4 == 4) ≡ resets → (changes : Bool) (to : Addr) (bytes : List ℕ) →
    kept conf (words conf (record { event = Resync now word flags; changes = changes; partner = p; outcome = Sent to (count_at (words conf before)) bytes } ∷ before))
    ≡ after_send conf (kept conf (words conf before)) resets changes now word
unfolding words
resync_sent conf before now word flags p true e true to bytes = rw e (same_words refl refl (zero-mod _) refl refl)
resync_sent conf before now word flags p true e false to bytes = rw e (same_words refl refl (zero-mod _) refl refl)
resync_sent conf before now word flags p false e true to bytes = rw e (same_words refl refl (changes_kept _ _ 1) refl refl)
resync_sent conf before now word flags p false e false to bytes = rw e (same_words refl refl (changes_kept _ _ 0) refl refl)

-- a Tick, by whether it is due
tick_words : (conf : Conf) (before : List Told) (now : ℤ) (word p : ℕ) (due full : Bool) (to : Addr) (bytes : List ℕ) →
    kept conf (words conf (record { event = Tick now word; changes = due && true && full; partner = p; outcome = if due then Sent to (count_at (words conf before)) bytes else Idle } ∷ before))
    ≡ (if due then after_send conf (kept conf (words conf before)) false (due && true && full) now word else kept conf (words conf before))
tick_words conf before now word p true full to bytes = tick_sent conf before now word p full to bytes
tick_words conf before now word p false full to bytes = tick_idle conf before now word p

pub words_after : (conf : Conf) (before : List Told) (e : Event) →
    kept conf (words conf (told_by conf (words conf before) e ∷ before)) ≡ after conf (kept conf (words conf before)) e
words_after conf before (Life now mark) = life_words conf before now mark
words_after conf before (Tick now word) =
    tick_words conf before now word _ (is_due (words conf before) now) (length (words conf before).open_requests == 8) _ _
words_after conf before (Resync now word flags) =
    resync_sent conf before now word flags _ (bit_and flags 4 == 4) refl (is_change (words conf before) (Resync now word flags)) _ _
words_after conf before (Arrive now from bytes) =
    let w = words conf before in
    rw (verdict_kept conf w now from bytes)
    (verdict_cases
    (λ o. kept conf (words conf (record { event = Arrive now from bytes; changes = false; partner = partner_as conf w false false; outcome = o } ∷ before)) ≡ after_arrival conf (kept conf w) now o)
    (λ reason. refused conf before now from bytes _ reason)
    conf w now from bytes
    (λ r _ offset how. moved conf before now from bytes r.count offset how))

-- ---- What may follow doesn't see the difference

pub may_follow_kept : (conf : Conf) (w : Words) (e : Event) → MayFollow conf (kept conf w) e ≡ MayFollow conf w e
may_follow_kept conf w (Life now mark) = refl
may_follow_kept conf w (Tick now word) = refl
may_follow_kept conf w (Resync now word flags) = refl
may_follow_kept conf w (Arrive now from bytes) = refl

pub coe_by : {A B : Type 0} → A ≡ B → B → A
coe_by e b = subst (λ X. X) (sym e) b
