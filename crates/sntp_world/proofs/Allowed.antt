-- What an operation may do to a world, with what strangers may not.
use Rattle.std.proofs.Common.{◌≡◌, ◌⊎◌, ℕ, ◌<◌, ◌≤◌, ◌==◌, Bool, true, false, List, [], ◌∷◌, length, get_or, Some, None, inl, inr, refl, subst, sym, ◌∙◌, ap, arith, ℤ}
use Rattle.std.specs.Prelude.{slice_get}
use Rattle.std.specs.List.{Contains}
use Rattle.std.specs.Str.{bytes_eq}
use Rattle.std.proofs.lemmas.Bool.Decides.{Decides-eqb}
use Rattle.std.proofs.lemmas.List.Elements.{Contains-append_right}
use Rattle.std.proofs.lemmas.Option.{slice_get_cases}
use Rattle.std.proofs.lemmas.Slice.Eq.{bytes_eq-Decides}
use Rattle.capture_fmt.specs.declared.event.Event.{Event}
use Rattle.capture_fmt.specs.declared.event.Event.TheVariants.{Life, Tick, Resync, Arrive}
use Rattle.ntp_wire.specs.declared.stamp.Stamp.{Stamp}
use Rattle.ntp_wire.specs.Fields.{transmit_of}
use Rattle.sntp_world.specs.declared.op.Op.{Op}
use Rattle.sntp_world.specs.declared.op.Op.TheVariants.{Pass, Poll, Deliver, Ask, Craft, Restart}
use Rattle.sntp_world.specs.declared.op.Effect.{Effect}
use Rattle.sntp_world.specs.declared.packet.Destination.{Destination}
use Rattle.sntp_world.specs.declared.packet.Destination.TheVariants as to
use Rattle.sntp_world.specs.declared.packet.Packet.{Packet}
use Rattle.sntp_world.specs.Setting.{controller_addr}
use Rattle.sntp_world.specs.State.{State, first_state}
use Rattle.sntp_world.specs.Steps.{AsksForMember, Asks, DeliversTo, Forges, Guesses, HasAccountDigest, HasStampSent, Leads, MayPass, Passes, Reaches, Skips, WasSent, WorldAfter}
use Rattle.sntp_world.proofs.Cases.{TakesNow, lives_always}
use Rattle.sntp_world.proofs.Histories.{Lives, may_restart}
use Rattle.sntp_world.proofs.Packets.{first_or}

-- ---- What is known of packets

-- a packet that was found stands there
has_there : (ps : List Packet) (i : ℕ) (p : Packet) → slice_get ps i ≡ Some p
    → (((x : Packet) × (i < length ps) × (slice_get ps i ≡ Some x) × (get_or ps i x ≡ x)) ⊎ ((length ps ≤ i) × (slice_get ps i ≡ None))) → Contains ps p
has_there ps i p at (inl is) = let same : is.0 ≡ p = (let there = is.2 in cc) in subst (Contains ps) same (i, is.1, is.3)
has_there ps i p at (inr is) = absurd (let none = is.1 in let no : ⊥ = cc in no)

pub is_there : (ps : List Packet) (i : ℕ) (p : Packet) → slice_get ps i ≡ Some p → Contains ps p
is_there ps i p at = has_there ps i p at (slice_get_cases ps i).1

-- these bytes are a packet, or they aren't
pub record IsAmong (ps : List Packet) (bytes : List ℕ) : Type 0 where
  pub packet : Packet
  pub sent : Contains ps packet
  pub same : packet.bytes ≡ bytes

among_first : (p : Packet) (ps : List Packet) (bytes : List ℕ) (b : Bool) → bytes_eq p.bytes bytes ≡ b → IsAmong ps bytes ⊎ (IsAmong ps bytes → ⊥)
    → IsAmong (p ∷ ps) bytes ⊎ (IsAmong (p ∷ ps) bytes → ⊥)
among_first p ps bytes true is rest = inl (record { packet = p; sent = (0, omega arith, refl); same = (bytes_eq-Decides p.bytes bytes).0 is })
among_first p ps bytes false is (inl later) =
    inl (record { packet = later.packet; sent = Contains-append_right (p ∷ []) ps later.packet later.sent; same = later.same })
among_first p ps bytes false is (inr none) = inr (λ (h : IsAmong (p ∷ ps) bytes).
    elim (first_or p ps h.packet h.sent) [
      | inl e ↦ let yes = (bytes_eq-Decides p.bytes bytes).1 (ap (λ (q : Packet). q.bytes) e ∙ h.same) in absurd (let no : ⊥ = cc in no)
      | inr k ↦ none (record { packet = h.packet; sent = k; same = h.same })
    ])

among : (ps : List Packet) (bytes : List ℕ) → IsAmong ps bytes ⊎ (IsAmong ps bytes → ⊥)
among [] bytes = inr (λ (h : IsAmong [] bytes). let c = h.sent in absurd (omega (arith, c.1)))
among (p ∷ ps) bytes = among_first p ps bytes (bytes_eq p.bytes bytes) refl (among ps bytes)

-- what isn't forged and has the account's digest was sent
pub was_sent : (w : State) (bytes : List ℕ) → (Forges w bytes → ⊥) → HasAccountDigest bytes → IsAmong w.packets bytes
was_sent w bytes honest digest = elim (among w.packets bytes) [
  | inl is ↦ is
  | inr none ↦ absurd (honest (digest, λ (s : WasSent w bytes). none (record { packet = s.packet; sent = s.sent; same = s.same })))
]

-- the member sent a request with this timestamp, or it didn't
pub record IsRequested (ps : List Packet) (stamp : Stamp) : Type 0 where
  pub packet : Packet
  pub sent : Contains ps packet
  pub asks : packet.to ≡ to.Controller
  pub same : transmit_of packet.bytes ≡ stamp

is_one : Destination → Bool
is_one to.Controller = true
is_one to.Member = false

goes_there : (d : Destination) → is_one d ≡ true → d ≡ to.Controller
unfolding is_one
goes_there to.Controller e = refl
goes_there to.Member e = absurd (let no : ⊥ = cc in no)

goes_back : (d : Destination) → d ≡ to.Controller → is_one d ≡ true
unfolding is_one
goes_back d e = ap is_one e

requested_first : (p : Packet) (ps : List Packet) (stamp : Stamp) (a b c : Bool) → is_one p.to ≡ a → ((transmit_of p.bytes).seconds == stamp.seconds) ≡ b
    → ((transmit_of p.bytes).fraction == stamp.fraction) ≡ c → IsRequested ps stamp ⊎ (IsRequested ps stamp → ⊥) → IsRequested (p ∷ ps) stamp ⊎ (IsRequested (p ∷ ps) stamp → ⊥)
requested_first p ps stamp a b c is seconds fraction (inl later) =
    inl (record { packet = later.packet; sent = Contains-append_right (p ∷ []) ps later.packet later.sent; asks = later.asks; same = later.same })
requested_first p ps stamp true true true is seconds fraction (inr none) =
    let s = (Decides-eqb (transmit_of p.bytes).seconds stamp.seconds).0 seconds in
    let f = (Decides-eqb (transmit_of p.bytes).fraction stamp.fraction).0 fraction in
    inl (record { packet = p; sent = (0, omega arith, refl); asks = goes_there p.to is; same = λ i. record { seconds = s i; fraction = f i } })
requested_first p ps stamp false b c is seconds fraction (inr none) = inr (λ (h : IsRequested (p ∷ ps) stamp).
    elim (first_or p ps h.packet h.sent) [
      | inl e ↦ let yes = goes_back p.to (ap (λ (q : Packet). q.to) e ∙ h.asks) in absurd (let no : ⊥ = cc in no)
      | inr k ↦ none (record { packet = h.packet; sent = k; asks = h.asks; same = h.same })
    ])
requested_first p ps stamp true false c is seconds fraction (inr none) = inr (λ (h : IsRequested (p ∷ ps) stamp).
    elim (first_or p ps h.packet h.sent) [
      | inl e ↦ let yes = (Decides-eqb (transmit_of p.bytes).seconds stamp.seconds).1 (ap (λ (q : Packet). (transmit_of q.bytes).seconds) e ∙ ap (λ (s : Stamp). s.seconds) h.same) in
          absurd (let no : ⊥ = cc in no)
      | inr k ↦ none (record { packet = h.packet; sent = k; asks = h.asks; same = h.same })
    ])
requested_first p ps stamp true true false is seconds fraction (inr none) = inr (λ (h : IsRequested (p ∷ ps) stamp).
    elim (first_or p ps h.packet h.sent) [
      | inl e ↦ let yes = (Decides-eqb (transmit_of p.bytes).fraction stamp.fraction).1 (ap (λ (q : Packet). (transmit_of q.bytes).fraction) e ∙ ap (λ (s : Stamp). s.fraction) h.same) in
          absurd (let no : ⊥ = cc in no)
      | inr k ↦ none (record { packet = h.packet; sent = k; asks = h.asks; same = h.same })
    ])

requested : (ps : List Packet) (stamp : Stamp) → IsRequested ps stamp ⊎ (IsRequested ps stamp → ⊥)
requested [] stamp = inr (λ (h : IsRequested [] stamp). let c = h.sent in absurd (omega (arith, c.1)))
requested (p ∷ ps) stamp = requested_first p ps stamp _ _ _ refl refl refl (requested ps stamp)

-- who asks under the account and doesn't guess brings the timestamp of a request
pub was_requested : (w : State) (bytes : List ℕ) → (Guesses w bytes → ⊥) → AsksForMember bytes → IsRequested w.packets (transmit_of bytes)
was_requested w bytes honest asks = elim (requested w.packets (transmit_of bytes)) [
  | inl is ↦ is
  | inr none ↦ absurd (honest (asks, λ (s : HasStampSent w bytes). none (record { packet = s.packet; sent = s.sent; asks = s.asks; same = s.same })))
]

-- ---- What an operation may do

-- what arrives isn't forged
abbrev pub IsNotForged : State → Event → Type 0
IsNotForged w (Arrive at from bytes) = Forges w bytes → ⊥
IsNotForged w (Life at mark) = Unit {0}
IsNotForged w (Tick at word) = Unit {0}
IsNotForged w (Resync at word flags) = Unit {0}

pub record Allowed (P : State → Type 0) (w : State) : Type 0 where
  pub skips : (effect : Effect) (now : State) → Skips w effect now → P now
  pub passes : (d : ℕ) (e f : ℤ) (effect : Effect) (now : State) → MayPass d e f w.now → Passes d e f w effect now → P now
  pub asks : (bytes : List ℕ) (effect : Effect) (now : State) → (Guesses w bytes → ⊥) → Asks bytes w effect now → P now
  pub takes : (effect : Effect) (now : State) (is : TakesNow w effect now) → IsNotForged w is.event → P now

reaches : (P : State → Type 0) (w : State) → Allowed P w → Lives w → (bytes : List ℕ) (effect : Effect) (now : State) → (Forges w bytes → ⊥) → Reaches bytes w effect now → P now
reaches P w allowed lives bytes effect now honest is =
    allowed.takes effect now (record { event = Arrive w.now.member controller_addr bytes; follows = lives.mark; read = refl; takes = is }) honest

delivers : (P : State → Type 0) (w : State) → Allowed P w → Lives w → (p : Packet) → Contains w.packets p → (d : Destination) → p.to ≡ d → (effect : Effect) (now : State)
    → DeliversTo d p.bytes w effect now → P now
delivers P w allowed lives p there to.Controller goes effect now is =
    allowed.asks p.bytes effect now (λ (g : Guesses w p.bytes). g.1 (record { packet = p; sent = there; asks = goes; same = refl })) is
delivers P w allowed lives p there to.Member goes effect now is =
    reaches P w allowed lives p.bytes effect now (λ (g : Forges w p.bytes). g.1 (record { packet = p; sent = there; same = refl })) is

-- each operation does one of these
pub led_allowed : (P : State → Type 0) (op : Op) (w : State) (effect : Effect) (now : State) → Allowed P w → Lives w → Leads op w effect now → P now
led_allowed P (Pass d e f) w effect now allowed lives (inl is) = allowed.passes d e f effect now is.0 is.1
led_allowed P (Pass d e f) w effect now allowed lives (inr is) = allowed.skips effect now is.1
led_allowed P (Poll word) w effect now allowed lives (inl is) =
    allowed.takes effect now (record { event = Tick w.now.member word; follows = is.0; read = refl; takes = is.1 }) tt
led_allowed P (Poll word) w effect now allowed lives (inr is) = allowed.skips effect now is.1
led_allowed P (Deliver back) w effect now allowed lives (inl is) =
    delivers P w allowed lives is.0 (is_there w.packets back is.0 is.1) is.0.to refl effect now is.2
led_allowed P (Deliver back) w effect now allowed lives (inr is) = allowed.skips effect now is.1
led_allowed P (Ask bytes) w effect now allowed lives (inl is) = allowed.skips effect now is.1
led_allowed P (Ask bytes) w effect now allowed lives (inr is) = allowed.asks bytes effect now is.0 is.1
led_allowed P (Craft bytes) w effect now allowed lives (inl is) = allowed.skips effect now is.1
led_allowed P (Craft bytes) w effect now allowed lives (inr is) = reaches P w allowed lives bytes effect now is.0 is.1
led_allowed P Restart w effect now allowed lives (inl is) =
    allowed.takes effect now (record { event = Life w.now.member _; follows = may_restart w lives; read = refl; takes = is.1 }) tt
led_allowed P Restart w effect now allowed lives (inr is) = allowed.skips effect now is.1

-- What holds at first, and holds after each operation where it held before, holds of each world.
pub always_allowed : (P : State → Type 0) → P first_state → ((w : State) → Lives w → P w → Allowed P w) → (ops : List Op) (w : State) → WorldAfter ops w → P w
always_allowed P first step [] w is = subst P (sym is) first
always_allowed P first step (op ∷ ops) w is =
    let lives = lives_always ops is.0 is.2 in
    led_allowed P op is.0 is.1 w (step is.0 lives (always_allowed P first step ops is.0 is.2)) lives is.3
