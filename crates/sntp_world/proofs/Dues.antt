-- What an operation comes to, by what a world keeps.
use Rattle.std.proofs.Common.{◌≡◌, ℕ, ◌+◌, ◌*◌, ◌/◌, ◌%◌, ◌<◌, ◌≤◌, min, Bool, true, false, not, List, Option, Some, None, inl, inr, reverse, ap, refl, subst, sym, ◌∙◌, arith, ℤ, unwrap_or, slice_get}
use Rattle.std.specs.List.{Contains}
use Rattle.std.proofs.lemmas.List.{reverse-reverse}
use Rattle.std.proofs.lemmas.List.Sorted.{Contains-permutation, IsPermutation-reverse}
use Rattle.capture_fmt.specs.declared.event.Event.{Event}
use Rattle.capture_fmt.specs.declared.event.Event.TheVariants.{Life, Tick, Arrive}
use Rattle.time_machine.specs.Growing.{MayFollow}
use Rattle.time_machine.specs.Words.{Words}
use Rattle.sntp_core.specs.Standing.{conf_of, words_of}
use Rattle.ntp_wire.specs.Fields.{transmit_of}
use Rattle.sntp_world.specs.declared.due.Due.TheVariants as due
use Rattle.sntp_world.specs.declared.moment.Moment.{Moment}
use Rattle.sntp_world.specs.declared.op.Op.TheVariants.{Pass, Poll, Deliver, Ask, Craft, Restart}
use Rattle.sntp_world.specs.declared.op.Effect.{Effect}
use Rattle.sntp_world.specs.declared.packet.Destination.{Destination}
use Rattle.sntp_world.specs.declared.packet.Destination.TheVariants as to
use Rattle.sntp_world.specs.declared.packet.Packet.{Packet}
use Rattle.sntp_world.specs.Due.{IsDoneBy, IsDue, IsRequestWith, IsSentBefore}
use Rattle.sntp_world.specs.Setting.{controller_addr, world_conf}
use Rattle.sntp_world.specs.Standing.{IsReached, Keeps, Kept}
use Rattle.sntp_world.specs.State.{State}
use Rattle.sntp_world.specs.Steps.{AsksForMember, DeliversTo, Forges, Guesses, HasAccountDigest, HasStampSent, MayPass, Takes, WasSent, next_mark, passed, words_in}
use Rattle.sntp_world.proofs.Histories.{may_restart}
use Rattle.sntp_world.proofs.Keeping.{follows_kept, kept_follows, kept_has, kept_lives, kept_packets, kept_words}

-- ---- Time

pub due_time : (k : Kept) (w : State) (d : ℕ) (e f : ℤ) (at : Moment) → Keeps k w → MayPass d e f k.clocks → at ≡ passed d e f k.clocks → IsDue (Pass d e f) (due.Time at) w
due_time k w d e f at keeps may is = record {
  may = tt;
  carries_out = λ (effect : Effect) (now : State) (done : IsDoneBy (due.Time at) w effect now).
      let same : at ≡ passed d e f w.now = is ∙ ap (passed d e f) keeps.clocks in
      inl (subst (MayPass d e f) keeps.clocks may, (done.0, done.1 ∙ ap (λ (m : Moment). record w { now = m }) same));
}

pub due_no_time : (k : Kept) (w : State) (d : ℕ) (e f : ℤ) → Keeps k w → (MayPass d e f k.clocks → ⊥) → IsDue (Pass d e f) due.Nothing w
due_no_time k w d e f keeps may_not = record {
  may = tt;
  carries_out = λ (effect : Effect) (now : State) (done : IsDoneBy due.Nothing w effect now).
      inr (λ (may : MayPass d e f w.now). may_not (subst (MayPass d e f) (sym keeps.clocks) may), done);
}

-- ---- The member's turn

pub due_turn : (k : Kept) (w : State) (word : ℕ) → Keeps k w → MayFollow (conf_of k.member) (words_of k.member) (Tick k.clocks.member word)
    → IsDue (Poll word) (due.Take (Tick k.clocks.member word)) w
due_turn k w word keeps follows =
    let same = ap (λ (m : Moment). m.member) keeps.clocks in
    let may = follows_kept k w (Tick k.clocks.member word) keeps follows in
    record {
      may = (may, same);
      carries_out = λ (effect : Effect) (now : State) (done : Takes (Tick k.clocks.member word) w effect now).
          inl (may, subst (λ (t : ℤ). Takes (Tick t word) w effect now) same done);
    }

pub due_no_turn : (k : Kept) (w : State) (word : ℕ) → Keeps k w → (MayFollow (conf_of k.member) (words_of k.member) (Tick k.clocks.member word) → ⊥)
    → IsDue (Poll word) due.Nothing w
due_no_turn k w word keeps may_not = record {
  may = tt;
  carries_out = λ (effect : Effect) (now : State) (done : IsDoneBy due.Nothing w effect now).
      inr (λ (may : MayFollow world_conf (words_in w) (Tick w.now.member word)). may_not (kept_follows k w (Tick k.clocks.member word) keeps may), done);
}

-- ---- Arrivals

-- an arrival may follow
arrival_may : (k : Kept) (w : State) (bytes : List ℕ) → IsReached k → Keeps k w
    → MayFollow world_conf (words_in w) (Arrive k.clocks.member controller_addr bytes) × (k.clocks.member ≡ w.now.member)
arrival_may k w bytes reached keeps = ((kept_lives k w reached keeps).mark, ap (λ (m : Moment). m.member) keeps.clocks)

arrives : (k : Kept) (w : State) (bytes : List ℕ) (effect : Effect) (now : State) → Keeps k w → Takes (Arrive k.clocks.member controller_addr bytes) w effect now
    → Takes (Arrive w.now.member controller_addr bytes) w effect now
arrives k w bytes effect now keeps done =
    subst (λ (t : ℤ). Takes (Arrive t controller_addr bytes) w effect now) (ap (λ (m : Moment). m.member) keeps.clocks) done

-- ---- A packet is delivered

found_packet : (k : Kept) (w : State) (back : ℕ) (o : Option Packet) → Keeps k w → o ≡ slice_get (reverse k.packets) back → slice_get w.packets back ≡ o
found_packet k w back o keeps is = ap (λ (ps : List Packet). slice_get ps back) (kept_packets k w keeps) ∙ sym is

pub due_no_packet : (k : Kept) (w : State) (back : ℕ) → Keeps k w → None ≡ slice_get (reverse k.packets) back → IsDue (Deliver back) due.Nothing w
due_no_packet k w back keeps is = record {
  may = tt;
  carries_out = λ (effect : Effect) (now : State) (done : IsDoneBy due.Nothing w effect now). inr (found_packet k w back None keeps is, done);
}

pub due_to_controller : (k : Kept) (w : State) (back : ℕ) (p : Packet) → Keeps k w → Some p ≡ slice_get (reverse k.packets) back → p.to ≡ to.Controller
    → IsDue (Deliver back) (due.Answer p.bytes) w
due_to_controller k w back p keeps is goes = record {
  may = tt;
  carries_out = λ (effect : Effect) (now : State) (done : IsDoneBy (due.Answer p.bytes) w effect now).
      inl (p, found_packet k w back (Some p) keeps is, subst (λ (d : Destination). DeliversTo d p.bytes w effect now) (sym goes) done);
}

pub due_to_member : (k : Kept) (w : State) (back : ℕ) (p : Packet) → IsReached k → Keeps k w → Some p ≡ slice_get (reverse k.packets) back → p.to ≡ to.Member
    → IsDue (Deliver back) (due.Take (Arrive k.clocks.member controller_addr p.bytes)) w
due_to_member k w back p reached keeps is goes = record {
  may = arrival_may k w p.bytes reached keeps;
  carries_out = λ (effect : Effect) (now : State) (done : Takes (Arrive k.clocks.member controller_addr p.bytes) w effect now).
      inl (
        p,
        found_packet k w back (Some p) keeps is,
        subst (λ (d : Destination). DeliversTo d p.bytes w effect now) (sym goes) (arrives k w p.bytes effect now keeps done),
      );
}

-- ---- Strangers

-- the packets that it keeps, in either order
pub reversed_in : (ps : List Packet) (p : Packet) → Contains (reverse ps) p → Contains ps p
reversed_in ps p c = subst (λ (qs : List Packet). Contains qs p) (reverse-reverse ps) (Contains-permutation (reverse ps) (reverse (reverse ps)) p (IsPermutation-reverse (reverse ps)) c)

-- the timestamp of these bytes was sent
pub stamp_kept : (k : Kept) (w : State) (bytes : List ℕ) → IsReached k → Keeps k w → HasStampSent w bytes
    → (p : Packet) × Contains k.packets p × IsRequestWith (transmit_of bytes) p
stamp_kept k w bytes reached keeps sent =
    let p = sent.packet in
    let sound = (kept_has k w reached keeps).packets.sound p sent.sent in (
      p,
      reversed_in k.packets p (subst (λ (ps : List Packet). Contains ps p) (kept_packets k w keeps) sent.sent),
      record { asks = sent.asks; whole = sound.whole sent.asks; same = sent.same },
    )

pub kept_in : (k : Kept) (w : State) (p : Packet) → Keeps k w → Contains k.packets p → Contains w.packets p
kept_in k w p keeps c =
    subst (λ (ps : List Packet). Contains ps p) (sym (kept_packets k w keeps)) (Contains-permutation k.packets (reverse k.packets) p (IsPermutation-reverse k.packets) c)

pub due_guess : (k : Kept) (w : State) (bytes : List ℕ) → IsReached k → Keeps k w → AsksForMember bytes
    → ((p : Packet) → Contains k.packets p → IsRequestWith (transmit_of bytes) p → ⊥) → IsDue (Ask bytes) due.Nothing w
due_guess k w bytes reached keeps asks none = record {
  may = tt;
  carries_out = λ (effect : Effect) (now : State) (done : IsDoneBy due.Nothing w effect now).
      inl ((asks, λ (sent : HasStampSent w bytes). let is = stamp_kept k w bytes reached keeps sent in none is.0 is.1 is.2), done);
}

pub due_ask : (k : Kept) (w : State) (bytes : List ℕ) → Keeps k w
    → (AsksForMember bytes → (p : Packet) × Contains k.packets p × IsRequestWith (transmit_of bytes) p) → IsDue (Ask bytes) (due.Answer bytes) w
due_ask k w bytes keeps known = record {
  may = tt;
  carries_out = λ (effect : Effect) (now : State) (done : IsDoneBy (due.Answer bytes) w effect now).
      inr (
        λ (guess : Guesses w bytes).
            let is = known guess.0 in
            guess.1 (record { packet = is.0; sent = kept_in k w is.0 keeps is.1; asks = is.2.asks; same = is.2.same }),
        done,
      );
}

pub due_forged : (k : Kept) (w : State) (bytes : List ℕ) → Keeps k w → HasAccountDigest bytes → (((p : Packet) × Contains k.packets p × (p.bytes ≡ bytes)) → ⊥)
    → IsDue (Craft bytes) due.Nothing w
due_forged k w bytes keeps signed none = record {
  may = tt;
  carries_out = λ (effect : Effect) (now : State) (done : IsDoneBy due.Nothing w effect now).
      inl (
        (
          signed,
          λ (sent : WasSent w bytes).
              let p = sent.packet in
              none (p, reversed_in k.packets p (subst (λ (ps : List Packet). Contains ps p) (kept_packets k w keeps) sent.sent), sent.same),
        ),
        done,
      );
}

pub due_craft : (k : Kept) (w : State) (bytes : List ℕ) → IsReached k → Keeps k w → (HasAccountDigest bytes → (p : Packet) × Contains k.packets p × (p.bytes ≡ bytes))
    → IsDue (Craft bytes) (due.Take (Arrive k.clocks.member controller_addr bytes)) w
due_craft k w bytes reached keeps known = record {
  may = arrival_may k w bytes reached keeps;
  carries_out = λ (effect : Effect) (now : State) (done : Takes (Arrive k.clocks.member controller_addr bytes) w effect now).
      inr (
        λ (forged : Forges w bytes).
            let is = known forged.0 in
            forged.1 (record { packet = is.0; sent = kept_in k w is.0 keeps is.1; same = is.2 }),
        arrives k w bytes effect now keeps done,
      );
}

-- by what was tested of a stranger's bytes
pub guess_by : (k : Kept) (w : State) (bytes message : List ℕ) (packets : List Packet) (b : Bool) → IsReached k → Keeps k w → message ≡ bytes → packets ≡ k.packets
    → AsksForMember message → (IsSentBefore packets message → b ≡ true) → b ≡ false → IsDue (Ask bytes) due.Nothing w
guess_by k w bytes message packets b reached keeps same all asks known isnt =
    let Known : List Packet → List ℕ → Type 0 = λ (ps : List Packet) (m : List ℕ). IsSentBefore ps m → b ≡ true in
    let here = subst (λ (m : List ℕ). Known k.packets m) same (subst (λ (ps : List Packet). Known ps message) all known) in
    due_guess k w bytes reached keeps (subst AsksForMember same asks)
    (λ (p : Packet) (c : Contains k.packets p) (is : IsRequestWith (transmit_of bytes) p). let t = here (p, c, is) in let no : ⊥ = cc in no)

pub ask_by : (k : Kept) (w : State) (bytes message copied : List ℕ) (packets : List Packet) → Keeps k w → message ≡ bytes → copied ≡ bytes → packets ≡ k.packets
    → (AsksForMember message → IsSentBefore packets message) → IsDue (Ask bytes) (due.Answer copied) w
ask_by k w bytes message copied packets keeps same copy all known =
    let Known : List Packet → List ℕ → Type 0 = λ (ps : List Packet) (m : List ℕ). AsksForMember m → IsSentBefore ps m in
    let here = subst (λ (m : List ℕ). Known k.packets m) same (subst (λ (ps : List Packet). Known ps message) all known) in
    subst (λ (l : List ℕ). IsDue (Ask bytes) (due.Answer l) w) (sym copy) (due_ask k w bytes keeps here)

-- what a stranger's bytes may be
abbrev pub WasKept : List Packet → List ℕ → Type 0
WasKept packets bytes = (p : Packet) × Contains packets p × (p.bytes ≡ bytes)

pub forged_by : (k : Kept) (w : State) (bytes message : List ℕ) (packets : List Packet) (b : Bool) → Keeps k w → message ≡ bytes → packets ≡ k.packets
    → HasAccountDigest message → (WasKept packets message → b ≡ true) → b ≡ false → IsDue (Craft bytes) due.Nothing w
forged_by k w bytes message packets b keeps same all signed known isnt =
    let Known : List Packet → List ℕ → Type 0 = λ (ps : List Packet) (m : List ℕ). WasKept ps m → b ≡ true in
    let here = subst (λ (m : List ℕ). Known k.packets m) same (subst (λ (ps : List Packet). Known ps message) all known) in
    due_forged k w bytes keeps (subst HasAccountDigest same signed) (λ (is : WasKept k.packets bytes). let t = here is in let no : ⊥ = cc in no)

pub craft_by : (k : Kept) (w : State) (bytes message : List ℕ) (e : Event) (packets : List Packet) → IsReached k → Keeps k w → message ≡ bytes
    → e ≡ Arrive k.clocks.member controller_addr bytes → packets ≡ k.packets → (HasAccountDigest message → WasKept packets message)
    → IsDue (Craft bytes) (due.Take e) w
craft_by k w bytes message e packets reached keeps same is all known =
    let Known : List Packet → List ℕ → Type 0 = λ (ps : List Packet) (m : List ℕ). HasAccountDigest m → WasKept ps m in
    let here = subst (λ (m : List ℕ). Known k.packets m) same (subst (λ (ps : List Packet). Known ps message) all known) in
    subst (λ (d : Event). IsDue (Craft bytes) (due.Take d) w) (sym is) (due_craft k w bytes reached keeps here)

pub not_true : (b : Bool) → not b ≡ true → b ≡ false
not_true true is = sym is
not_true false is = refl

pub not_false : (b : Bool) → not b ≡ false → b ≡ true
not_false true is = refl
not_false false is = sym is

-- ---- A restart

-- the mark of the next life, by the mark and the number of requests that are kept
mark_kept : (k : Kept) (w : State) (mark sent : ℕ) → Keeps k w → (words_of k.member).mark ≡ Some mark → (words_of k.member).sent ≡ sent
    → next_mark (words_in w) ≡ mark + 64 * ((sent + 63) / 64)
mark_kept k w mark sent keeps is_mark is_sent =
    let words = kept_words k w keeps in
    let same_mark : (words_in w).mark ≡ Some mark = sym (ap (λ (v : Words). v.mark) words) ∙ is_mark in
    let same_sent : (words_in w).sent ≡ sent = sym (ap (λ (v : Words). v.sent) words) ∙ is_sent in
    ap (λ (o : Option ℕ). unwrap_or o 0 + 64 * (((words_in w).sent + 63) / 64)) same_mark ∙ ap (λ (n : ℕ). mark + 64 * ((n + 63) / 64)) same_sent

pub due_restart : (k : Kept) (w : State) (mark sent next : ℕ) → IsReached k → Keeps k w → (words_of k.member).mark ≡ Some mark → (words_of k.member).sent ≡ sent
    → next ≡ mark + 64 * (sent / 64 + min 1 (sent % 64)) → next ≤ 4294967231 → IsDue Restart (due.Take (Life k.clocks.member next)) w
due_restart k w mark sent next reached keeps is_mark is_sent is low =
    let e : next ≡ next_mark (words_in w) = let h = mark_kept k w mark sent keeps is_mark is_sent in omega arith in
    let same = ap (λ (m : Moment). m.member) keeps.clocks in
    record {
      may = (subst (λ (n : ℕ). (words_in w).greatest ≤ n) (sym e) (may_restart w (kept_lives k w reached keeps)), same);
      carries_out = λ (effect : Effect) (now : State) (done : Takes (Life k.clocks.member next) w effect now).
          inl (
            subst (λ (n : ℕ). n ≤ 4294967231) e low,
            subst (λ (n : ℕ). Takes (Life w.now.member n) w effect now) e (subst (λ (t : ℤ). Takes (Life t next) w effect now) same done),
          );
    }

pub due_no_restart : (k : Kept) (w : State) (mark sent next : ℕ) → Keeps k w → (words_of k.member).mark ≡ Some mark → (words_of k.member).sent ≡ sent
    → next ≡ mark + 64 * (sent / 64 + min 1 (sent % 64)) → 4294967231 < next → IsDue Restart due.Nothing w
due_no_restart k w mark sent next keeps is_mark is_sent is high =
    let e : next ≡ next_mark (words_in w) = let h = mark_kept k w mark sent keeps is_mark is_sent in omega arith in
    record {
      may = tt;
      carries_out = λ (effect : Effect) (now : State) (done : IsDoneBy due.Nothing w effect now). inr (subst (λ (n : ℕ). 4294967231 < n) e high, done);
    }
