-- What may be and what may not can be told apart.
use Rattle.std.proofs.Common.{◌≡◌, ◌⊎◌, ℕ, suc, ◌+◌, ◌≤◌, ◌==◌, Bool, true, false, List, [], ◌∷◌, length, inl, inr, ap, refl, subst, sym, arith, ℤ, pos}
use Rattle.std.specs.Prelude.{◌≤ℤ◌, is_some, nat_abs, int_le, unwrap_or}
use Rattle.std.specs.Str.{bytes_eq}
use Rattle.std.specs.List.{Contains}
use Rattle.std.proofs.lemmas.Bool.Decides.{Decides-eqb, leb_tells}
use Rattle.std.proofs.lemmas.List.Elements.{Contains-append_right}
use Rattle.std.proofs.lemmas.Slice.Eq.{bytes_eq-Decides}
use Rattle.base_specs.specs.Time.{IsReading}
use Rattle.ms_auth.specs.declared.packet.Kind.{Kind}
use Rattle.ms_auth.specs.declared.packet.Kind.TheVariants.{Short, Extended}
use Rattle.ms_auth.specs.Fields.{kind_length, rid_at}
use Rattle.ntp_wire.specs.declared.stamp.Stamp.{Stamp}
use Rattle.ntp_wire.specs.Fields.{transmit_of}
use Rattle.time_machine.specs.Growing.{HasCounts}
use Rattle.time_machine.specs.Verdict.{has_digest}
use Rattle.time_machine.specs.Words.{Words}
use Rattle.sntp_world.specs.declared.moment.Moment.{Moment}
use Rattle.sntp_world.specs.declared.packet.Destination.{Destination}
use Rattle.sntp_world.specs.declared.packet.Destination.TheVariants as to
use Rattle.sntp_world.specs.declared.packet.Packet.{Packet}
use Rattle.sntp_world.specs.Setting.{world_key, world_rid}
use Rattle.sntp_world.specs.State.{State}
use Rattle.sntp_world.specs.Steps.{AsksForMember, Forges, Guesses, HasAccountDigest, HasStampSent, MayPass, WasSent, passed}
use Rattle.sntp_world.proofs.Packets.{first_or}

-- it holds or not
abbrev pub IsDecided : Type 0 → Type 0
IsDecided P = P ⊎ (P → ⊥)

pub by_test : {P : Type 0} → (b : Bool) → (b ≡ true → P) → (P → b ≡ true) → IsDecided P
by_test true does isnt = inl (does refl)
by_test false does isnt = inr (λ p. let t = isnt p in let f : ⊥ = cc in f)

pub both : {P Q : Type 0} → IsDecided P → IsDecided Q → IsDecided (P × Q)
both (inl p) (inl q) = inl (p, q)
both (inl p) (inr isnt) = inr (λ h. isnt h.1)
both (inr isnt) q = inr (λ h. isnt h.0)

pub not_so : {P : Type 0} → IsDecided P → IsDecided (P → ⊥)
not_so (inl p) = inr (λ h. h p)
not_so (inr isnt) = inl isnt

pub either : {P Q : Type 0} → IsDecided P → IsDecided Q → IsDecided (P ⊎ Q)
either (inl p) q = inl (inl p)
either (inr isnt) (inl q) = inl (inr q)
either (inr isnt) (inr nor) = inr (λ h. elim h [ inl p ↦ isnt p | inr q ↦ nor q ])

pub alike : {P Q : Type 0} → (P → Q) → (Q → P) → IsDecided P → IsDecided Q
alike f g (inl p) = inl (f p)
alike f g (inr isnt) = inr (λ q. isnt (g q))

-- numbers and lists of numbers
pub same_number : (a b : ℕ) → IsDecided (a ≡ b)
same_number a b = let d = Decides-eqb a b in by_test (a == b) d.0 d.1

pub at_most : (a b : ℕ) → IsDecided (a ≤ b)
at_most a b = elim (leb_tells a b) [
  | inl h ↦ inl h.1
  | inr h ↦ inr (λ p. let k = h.1 in omega arith)
]

at_most_z : (a b : ℤ) → IsDecided (a ≤ℤ b)
at_most_z a b = by_test (int_le a b) (λ e. grind arith) (λ p. grind arith)

pub same_list : (a b : List ℕ) → IsDecided (a ≡ b)
same_list a b = let d = bytes_eq-Decides a b in by_test (bytes_eq a b) d.0 d.1

pub same_stamp : (a b : Stamp) → IsDecided (a ≡ b)
same_stamp a b =
    alike (λ (h : (a.seconds ≡ b.seconds) × (a.fraction ≡ b.fraction)). λ i. record { seconds = h.0 i; fraction = h.1 i })
    (λ (e : a ≡ b). (ap (λ (s : Stamp). s.seconds) e, ap (λ (s : Stamp). s.fraction) e))
    (both (same_number a.seconds b.seconds) (same_number a.fraction b.fraction))

pub to_controller : (d : Destination) → IsDecided (d ≡ to.Controller)
to_controller to.Controller = inl refl
to_controller to.Member = inr (λ e. let no : ⊥ = cc in no)

-- one of a list is so
pub among : (P : Packet → Type 0) → ((p : Packet) → IsDecided (P p)) → (ps : List Packet) → IsDecided ((p : Packet) × Contains ps p × P p)
among P decide [] = inr (λ h. let c = h.1 in omega (arith, c.1))
among P decide (p ∷ ps) =
    alike
    (λ (h : P p ⊎ ((q : Packet) × Contains ps q × P q)). elim h [
      | inl here ↦ (p, (0, omega arith, refl), here)
      | inr later ↦ (later.0, Contains-append_right (p ∷ []) ps later.0 later.1, later.2)
    ])
    (λ (h : (q : Packet) × Contains (p ∷ ps) q × P q). elim (first_or p ps h.0 h.1) [
      | inl same ↦ inl (subst P (sym same) h.2)
      | inr later ↦ inr (h.0, later, h.2)
    ])
    (either (decide p) (among P decide ps))

-- ---- Strangers

asks_by : (kind : Kind) (bytes : List ℕ) → IsDecided ((length bytes ≡ kind_length kind) × (rid_at kind bytes ≡ world_rid))
asks_by kind bytes = both (same_number _ _) (same_number _ _)

asks_of : (bytes : List ℕ) → AsksForMember bytes
    → ((length bytes ≡ kind_length Short) × (rid_at Short bytes ≡ world_rid)) ⊎ ((length bytes ≡ kind_length Extended) × (rid_at Extended bytes ≡ world_rid))
asks_of bytes a = of_kind a.kind a.size a.account
  where
    of_kind : (kind : Kind) → length bytes ≡ kind_length kind → rid_at kind bytes ≡ world_rid
        → ((length bytes ≡ kind_length Short) × (rid_at Short bytes ≡ world_rid)) ⊎ ((length bytes ≡ kind_length Extended) × (rid_at Extended bytes ≡ world_rid))
    of_kind Short size account = inl (size, account)
    of_kind Extended size account = inr (size, account)

asks : (bytes : List ℕ) → IsDecided (AsksForMember bytes)
asks bytes =
    alike
    (λ (h : ((length bytes ≡ kind_length Short) × (rid_at Short bytes ≡ world_rid)) ⊎ ((length bytes ≡ kind_length Extended) × (rid_at Extended bytes ≡ world_rid))). elim h [
      | inl short ↦ record { kind = Short; size = short.0; account = short.1 }
      | inr long ↦ record { kind = Extended; size = long.0; account = long.1 }
    ])
    (asks_of bytes) (either (asks_by Short bytes) (asks_by Extended bytes))

stamp_sent : (w : State) (bytes : List ℕ) → IsDecided (HasStampSent w bytes)
stamp_sent w bytes =
    alike
    (λ (h : (p : Packet) × Contains w.packets p × ((p.to ≡ to.Controller) × (transmit_of p.bytes ≡ transmit_of bytes))). record { packet = h.0; sent = h.1; asks = h.2.0; same = h.2.1 })
    (λ (s : HasStampSent w bytes). (s.packet, s.sent, (s.asks, s.same)))
    (among (λ (p : Packet). (p.to ≡ to.Controller) × (transmit_of p.bytes ≡ transmit_of bytes))
    (λ (p : Packet). both (to_controller p.to) (same_stamp (transmit_of p.bytes) (transmit_of bytes))) w.packets)

pub guesses : (w : State) (bytes : List ℕ) → IsDecided (Guesses w bytes)
guesses w bytes = both (asks bytes) (not_so (stamp_sent w bytes))

true_or_not : (b : Bool) → IsDecided (b ≡ true)
true_or_not b = by_test b (λ e. e) (λ e. e)

signed_of : (bytes : List ℕ) → HasAccountDigest bytes
    → ((length bytes ≡ kind_length Short) × (has_digest Short world_key bytes ≡ true)) ⊎ ((length bytes ≡ kind_length Extended) × (has_digest Extended world_key bytes ≡ true))
signed_of bytes a = of_kind a.kind a.size a.digest
  where
    of_kind : (kind : Kind) → length bytes ≡ kind_length kind → has_digest kind world_key bytes ≡ true
        → ((length bytes ≡ kind_length Short) × (has_digest Short world_key bytes ≡ true)) ⊎ ((length bytes ≡ kind_length Extended) × (has_digest Extended world_key bytes ≡ true))
    of_kind Short size digest = inl (size, digest)
    of_kind Extended size digest = inr (size, digest)

signed : (bytes : List ℕ) → IsDecided (HasAccountDigest bytes)
signed bytes =
    alike
    (λ (h : ((length bytes ≡ kind_length Short) × (has_digest Short world_key bytes ≡ true)) ⊎ ((length bytes ≡ kind_length Extended) × (has_digest Extended world_key bytes ≡ true))). elim h [
      | inl short ↦ record { kind = Short; size = short.0; digest = short.1 }
      | inr long ↦ record { kind = Extended; size = long.0; digest = long.1 }
    ])
    (signed_of bytes)
    (either (both (same_number _ _) (true_or_not _)) (both (same_number _ _) (true_or_not _)))

was_sent : (w : State) (bytes : List ℕ) → IsDecided (WasSent w bytes)
was_sent w bytes =
    alike
    (λ (h : (p : Packet) × Contains w.packets p × (p.bytes ≡ bytes)). record { packet = h.0; sent = h.1; same = h.2 })
    (λ (s : WasSent w bytes). (s.packet, s.sent, s.same))
    (among (λ (p : Packet). p.bytes ≡ bytes) (λ (p : Packet). same_list p.bytes bytes) w.packets)

pub forges : (w : State) (bytes : List ℕ) → IsDecided (Forges w bytes)
forges w bytes = both (signed bytes) (not_so (was_sent w bytes))

-- ---- Time and turns

reads : (t : ℤ) → IsDecided (IsReading t)
reads t = both (at_most_z (pos 0) t) (at_most_z t (pos 4000000000000000000))

pub may_pass : (d : ℕ) (e f : ℤ) (at : Moment) → IsDecided (MayPass d e f at)
may_pass d e f at =
    let next = passed d e f at in
    alike
    (λ (h : ((nat_abs e ≤ d) × (nat_abs f ≤ d)) × ((IsReading next.member × IsReading next.controller) × (next.uneven ≤ 1000000000000000000))).
    record { member_on = h.0.0; controller_on = h.0.1; member = h.1.0.0; controller = h.1.0.1; uneven = h.1.1 })
    (λ (m : MayPass d e f at). ((m.member_on, m.controller_on), ((m.member, m.controller), m.uneven)))
    (both (both (at_most (nat_abs e) d) (at_most (nat_abs f) d)) (both (both (reads next.member) (reads next.controller)) (at_most next.uneven 1000000000000000000)))

pub counts_left : (w : Words) → IsDecided (HasCounts w)
counts_left w = both (true_or_not (is_some w.mark)) (at_most (suc (unwrap_or w.mark 0 + w.sent)) 4294967295)
