-- An accepted arrival, by what a world keeps: its request, its times, and how small the correction is.
use Rattle.std.proofs.Common.{◌≡◌, ◌≢◌, ℕ, suc, ◌<◌, ◌^◌, ◌&&◌, ◌||◌, ◌==◌, Bool, true, false, not, nat_lt, cond, List, [], ◌∷◌, length, Option, Some, None, find, ap, refl, subst, sym, ◌∙◌, arith, ℤ, pos, negsuc, if◌then◌else◌, unsigned_abs}
use Rattle.std.specs.Prelude.{◌+ℤ◌, ◌≤ℤ◌, int_le, int_lt}
use Rattle.std.specs.List.{Contains}
use Rattle.std.proofs.lemmas.Bool.Decides.{Decides-eqb}
use Rattle.std.proofs.lemmas.Int.{ints}
use Rattle.std.proofs.lemmas.List.Elements.{Contains-append_right}
use Rattle.capture_fmt.specs.declared.event.Event.{Event}
use Rattle.capture_fmt.specs.declared.event.Event.TheVariants.{Life, Tick, Resync, Arrive}
use Rattle.edge_traits.specs.declared.datagram.Addr.{Addr}
use Rattle.ntp_wire.specs.declared.stamp.Stamp.{Stamp}
use Rattle.ntp_wire.specs.Fields.{leap_of, mode_of, originate_of, receive_of, stratum_of, transmit_of}
use Rattle.ntp_wire.specs.Stamp.{ticks_of}
use Rattle.ms_auth.specs.declared.packet.Kind.TheVariants.{Short}
use Rattle.phase_rule.specs.declared.rule.Judged.{Judged}
use Rattle.phase_rule.specs.declared.rule.Judged.TheVariants as judgement
use Rattle.phase_rule.specs.Rule.{judged}
use Rattle.time_machine.specs.declared.outcome.How.{How}
use Rattle.time_machine.specs.declared.outcome.Outcome.{Outcome}
use Rattle.time_machine.specs.declared.outcome.Outcome.TheVariants.{Idle, Sent, Moved, Refused}
use Rattle.time_machine.specs.declared.outcome.Reason.{Reason}
use Rattle.time_machine.specs.declared.outcome.Request.{Request}
use Rattle.time_machine.specs.Events.{reading_of}
use Rattle.time_machine.specs.Machine.{is_due, outcome_at, outcome_by}
use Rattle.time_machine.specs.Verdict.{delay_of, has_bad_times, has_digest, is_answered, is_bad_digest, is_bad_key_id, is_bad_length, is_bad_mode, is_bad_source, is_bad_stratum, moved_by, offset_of, verdict_on}
use Rattle.time_machine.specs.Words.{Words}
use Rattle.sntp_world.specs.declared.packet.Packet.{Packet}
use Rattle.sntp_world.specs.Due.{HasRequest, IsAccepted, IsRequestWith}
use Rattle.sntp_world.specs.Setting.{world_conf, world_key, world_limits}
use Rattle.sntp_world.specs.State.{State}
use Rattle.sntp_world.specs.Steps.{words_in}
use Rattle.sntp_world.proofs.Requests.{HasRequests, stamp_by}

-- ---- The verdict

-- what an accepted arrival passed
pub record Passed (w : Words) (at : ℤ) (bytes : List ℕ) (offset : ℤ) : Type 0 where
  pub whole : length bytes ≡ 68
  pub request : Request
  pub opened : Contains w.open_requests request
  pub answers : is_answered at (originate_of bytes) request ≡ true
  pub times : has_bad_times request.at (ticks_of (receive_of bytes) at) (ticks_of (transmit_of bytes) at) at ≡ false
  pub small : unsigned_abs offset < 10 ^ 17
  pub mode : mode_of bytes ≡ 4
  pub digest : has_digest Short world_key bytes ≡ true
  pub moved : offset_of request.at (ticks_of (receive_of bytes) at) (ticks_of (transmit_of bytes) at) at ≡ offset

passed : (b : Bool) (reason : Reason) (y : Outcome) (count : ℕ) (offset : ℤ) (how : How) → (if b then Refused reason else y) ≡ Moved count offset how
    → (b ≡ false) × (y ≡ Moved count offset how)
passed true reason y count offset how e = absurd (let no : ⊥ = cc in no)
passed false reason y count offset how e = (refl, e)

moved_small : (n : ℕ) (off : ℤ) (j : Judged) (count : ℕ) (offset : ℤ) (how : How) → moved_by n off j ≡ Moved count offset how → (j ≢ judgement.TooBig) × (off ≡ offset)
moved_small n off judgement.TooBig count offset how e = absurd (let no : ⊥ = cc in no)
moved_small n off judgement.Step count offset how e = (λ same. cc, cc)
moved_small n off judgement.Slew count offset how e = (λ same. cc, cc)

-- an offset that isn't too big is at most two days
below_limit : (n : ℕ) (x : Judged) (b : Bool) → nat_lt 1728000000000 n ≡ b → (if b then judgement.TooBig else x) ≢ judgement.TooBig → n < 10 ^ 17
below_limit n x true e big = absurd (big refl)
below_limit n x false e big = grind arith

small_offset : (offset : ℤ) → judged world_limits offset ≢ judgement.TooBig → unsigned_abs offset < 10 ^ 17
small_offset (pos n) big = below_limit n _ (nat_lt 1728000000000 n) refl big
small_offset (negsuc n) big = below_limit (suc n) _ (nat_lt 1728000000000 (suc n)) refl big

-- what a find gave is an element that passes the test
record IsFound (test : Request → Bool) (xs : List Request) (x : Request) : Type 0 where
  element : Contains xs x
  passes : test x ≡ true

found_later : (test : Request → Bool) (y : Request) (ys : List Request) (x : Request) → (find test ys ≡ Some x → IsFound test ys x) → (b : Bool) → test y ≡ b →
    cond b (Some y) (find test ys) ≡ Some x → IsFound test (y ∷ ys) x
found_later test y ys x later true t e = let same : y ≡ x = cc in record { element = (0, omega arith, same); passes = cc }
found_later test y ys x later false t e = let rest = later e in record { element = Contains-append_right (y ∷ []) ys x rest.element; passes = rest.passes }

found : (test : Request → Bool) (xs : List Request) (x : Request) → find test xs ≡ Some x → IsFound test xs x
found test [] x e = absurd (let no : ⊥ = cc in no)
found test (y ∷ ys) x e = found_later test y ys x (found test ys x) (test y) refl e

record PassedOn (at : ℤ) (bytes : List ℕ) (o : Option Request) (offset : ℤ) : Type 0 where
  request : Request
  is : o ≡ Some request
  times : has_bad_times request.at (ticks_of (receive_of bytes) at) (ticks_of (transmit_of bytes) at) at ≡ false
  small : unsigned_abs offset < 10 ^ 17
  digest : has_digest Short world_key bytes ≡ true
  moved : offset_of request.at (ticks_of (receive_of bytes) at) (ticks_of (transmit_of bytes) at) at ≡ offset

-- one key was tried, and the digest is its
is_signed : (h : Bool) → (not h && not false) ≡ false → h ≡ true
is_signed true e = refl
is_signed false e = absurd (let no : ⊥ = cc in no)

passed_on : (at : ℤ) (bytes : List ℕ) (o : Option Request) (count : ℕ) (offset : ℤ) (how : How) → verdict_on world_conf at bytes o ≡ Moved count offset how → PassedOn at bytes o offset
passed_on at bytes None count offset how e = absurd (let no : ⊥ = cc in no)
passed_on at bytes (Some r) count offset how e =
    let key_id = passed (is_bad_key_id world_conf.kind world_conf.account.rid bytes) _ _ count offset how e in
    let digest = passed (is_bad_digest world_conf.kind world_conf.account bytes) _ _ count offset how key_id.1 in
    let times = passed (has_bad_times r.at (ticks_of (receive_of bytes) at) (ticks_of (transmit_of bytes) at) at) _ _ count offset how digest.1 in
    let off = offset_of r.at (ticks_of (receive_of bytes) at) (ticks_of (transmit_of bytes) at) at in
    let small = moved_small r.count off (judged world_limits off) count offset how times.1 in
    record {
      request = r;
      is = refl;
      times = times.0;
      small = subst (λ (z : ℤ). unsigned_abs z < 10 ^ 17) small.1 (small_offset off small.0);
      digest = is_signed (has_digest Short world_key bytes) digest.0;
      moved = small.1;
    }

number_is : (n k : ℕ) → not (n == k) ≡ false → n ≡ k
number_is n k e = (Decides-eqb n k).0 (not_false (n == k) e)
  where
    not_false : (b : Bool) → not b ≡ false → b ≡ true
    not_false true is = refl
    not_false false is = sym is

pub arrival_passed : (w : Words) (at : ℤ) (from : Addr) (bytes : List ℕ) (count : ℕ) (offset : ℤ) (how : How)
    → outcome_by world_conf w (Arrive at from bytes) ≡ Moved count offset how → Passed w at bytes offset
arrival_passed w at from bytes count offset how e =
    let whole = passed (is_bad_length world_conf.kind bytes) _ _ count offset how e in
    let source = passed (is_bad_source world_conf w from) _ _ count offset how whole.1 in
    let mode = passed (is_bad_mode (mode_of bytes)) _ _ count offset how source.1 in
    let stratum = passed (is_bad_stratum (leap_of bytes) (stratum_of bytes)) _ _ count offset how mode.1 in
    let on = passed_on at bytes (find (is_answered at (originate_of bytes)) w.open_requests) count offset how stratum.1 in
    let is = found (is_answered at (originate_of bytes)) w.open_requests on.request on.is in
    record {
      whole = number_is (length bytes) 68 whole.0;
      request = on.request;
      opened = is.element;
      answers = is.passes;
      times = on.times;
      small = on.small;
      mode = number_is (mode_of bytes) 4 mode.0;
      digest = on.digest;
      moved = on.moved;
    }

-- ---- Its request

-- the timestamp that it brings back is the request's
both_true : (a b : Bool) → (a && b) ≡ true → (a ≡ true) × (b ≡ true)
both_true true b e = (refl, e)
both_true false b e = absurd (let no : ⊥ = cc in no)

pub brought_back : (at : ℤ) (stamp : Stamp) (r : Request) → is_answered at stamp r ≡ true → stamp ≡ stamp_by r
brought_back at stamp r e =
    let three = (both_true _ _ e).0 in
    let two = (both_true _ _ three).0 in
    let seconds = sym ((Decides-eqb r.count stamp.seconds).0 (both_true _ _ two).0) in
    let fraction = sym ((Decides-eqb r.word stamp.fraction).0 (both_true _ _ two).1) in
    λ i. record { seconds = seconds i; fraction = fraction i }

or_false : (a b : Bool) → (a || b) ≡ false → b ≡ false
or_false true b e = absurd (let no : ⊥ = cc in no)
or_false false b e = e

or_left : (a b : Bool) → (a || b) ≡ false → a ≡ false
or_left true b e = absurd (let no : ⊥ = cc in no)
or_left false b e = refl

le_by : (a b : ℤ) → int_le a b ≡ true → a ≤ℤ b
le_by a b e = grind arith

-- it came in time
pub answered_soon : (at : ℤ) (stamp : Stamp) (r : Request) → is_answered at stamp r ≡ true → at ≤ℤ (r.at +ℤ pos 100000000)
answered_soon at stamp r e =
    le_by at (r.at +ℤ pos 100000000)
    (both_true (r.count == stamp.seconds && r.word == stamp.fraction && int_le r.at at) (int_le at (r.at +ℤ pos 100000000)) e).1

not_lt_by : (a b : ℤ) → int_lt a b ≡ false → b ≤ℤ a
not_lt_by a b e = grind arith

-- it came in time, and left after it arrived
delay_low : (t1 t2 t3 t4 : ℤ) → int_le t4 (t1 +ℤ pos 100000000) ≡ true → int_lt t3 t2 ≡ false → delay_of t1 t2 t3 t4 ≤ℤ pos 100000000
delay_low t1 t2 t3 t4 came order =
    let soon = le_by t4 (t1 +ℤ pos 100000000) came in
    let later = not_lt_by t3 t2 order in
    omega (arith, ints)

not_negative : (z : ℤ) → int_lt z (pos 0) ≡ false → pos 0 ≤ℤ z
not_negative z e = grind arith

-- the packets have the request of an accepted arrival
has_request : (w : State) (at : ℤ) (bytes : List ℕ) (offset : ℤ) → HasRequests w → at ≡ w.now.member → Passed (words_in w) at bytes offset → HasRequest w.packets w.now bytes
has_request w at bytes offset has read p =
    let r = p.request in
    let there = has.there r p.opened in
    let same = brought_back at (originate_of bytes) r p.answers in
    let word : r.word ≡ (originate_of bytes).fraction = ap (λ (s : Stamp). s.fraction) (sym same) in
    record {
      whole = let l = p.whole in omega arith;
      there = λ (fits : (originate_of bytes).fraction < 2 ^ 32).
          let is = there.there (omega (arith, word, fits)) in
          (is.packet, is.sent, record { asks = is.asks; whole = (has.packets.sound is.packet is.sent).whole is.asks; same = is.stamp ∙ sym same });
      timely = λ (q : Packet) (c : Contains w.packets q) (is : IsRequestWith (originate_of bytes) q).
          let sound = has.packets.sound q c in
          let left : q.at.member ≡ r.at = there.only q c is.asks (is.same ∙ same) in
          let t2 = ticks_of (receive_of bytes) at in
          let t3 = ticks_of (transmit_of bytes) at in
          let delay = not_negative _ (or_false (int_lt t3 t2) (int_lt (delay_of r.at t2 t3 at) (pos 0)) p.times) in
          let low = delay_low r.at t2 t3 at (both_true _ _ p.answers).1 (or_left (int_lt t3 t2) (int_lt (delay_of r.at t2 t3 at) (pos 0)) p.times) in
          record {
            soon = subst (λ (t : ℤ). delay_of q.at.member (ticks_of (receive_of bytes) t) (ticks_of (transmit_of bytes) t) t ≤ℤ pos 100000000) read
                (subst (λ (t : ℤ). delay_of t (ticks_of (receive_of bytes) at) (ticks_of (transmit_of bytes) at) at ≤ℤ pos 100000000) (sym left) low);
            left = sound.member;
            uneven = sound.uneven_then;
            delayed = subst (λ (t : ℤ). pos 0 ≤ℤ delay_of q.at.member (ticks_of (receive_of bytes) t) (ticks_of (transmit_of bytes) t) t) read
                (subst (λ (t : ℤ). pos 0 ≤ℤ delay_of t (ticks_of (receive_of bytes) at) (ticks_of (transmit_of bytes) at) at) (sym left) delay);
          };
    }

no_tick : (due : Bool) (addr : Addr) (n : ℕ) (bytes : List ℕ) (count : ℕ) (offset : ℤ) (how : How) → (if due then Sent addr n bytes else Idle) ≡ Moved count offset how → ⊥
no_tick true addr n bytes count offset how e = cc
no_tick false addr n bytes count offset how e = cc

-- what leads to a correction is an accepted arrival, and it is a small one
pub accepted : (w : State) (e : Event) (count : ℕ) (offset : ℤ) (how : How) → HasRequests w → reading_of e ≡ w.now.member
    → outcome_at world_conf w.history e ≡ Moved count offset how → IsAccepted w.packets w.now e × (unsigned_abs offset < 10 ^ 17)
unfolding outcome_at
accepted w (Arrive at from bytes) count offset how has read is =
    let p = arrival_passed (words_in w) at from bytes count offset how is in
    (has_request w at bytes offset has read p, p.small)
accepted w (Life at mark) count offset how has read is = absurd (let no : ⊥ = cc in no)
accepted w (Tick at word) count offset how has read is = absurd (no_tick (is_due (words_in w) at) _ _ _ count offset how is)
accepted w (Resync at word flags) count offset how has read is = absurd (let no : ⊥ = cc in no)
