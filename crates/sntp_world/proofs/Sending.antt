-- The request that an event sends, and which requests are open behind it.
use Rattle.std.proofs.Common.{◌≡◌, ◌⊎◌, ℕ, ◌<◌, ◌≤◌, ◌^◌, Bool, true, false, ◌||◌, List, [], ◌∷◌, ◌++◌, length, replicate, inl, inr, refl, subst, sym, ◌∙◌, ap, arith, ℤ, if◌then◌else◌, append_assoc}
use Rattle.byte_codec.specs.Numbers.{number_of, word_at, word_bytes}
use Rattle.byte_codec.proofs.Numbers.{length-number_bytes, number_of-number_bytes}
use Rattle.byte_codec.proofs.Parts.{longer, part_before, part_behind}
use Rattle.capture_fmt.specs.declared.event.Event.{Event}
use Rattle.capture_fmt.specs.declared.event.Event.TheVariants.{Life, Tick, Resync, Arrive}
use Rattle.edge_traits.specs.declared.datagram.Addr.{Addr}
use Rattle.ms_auth.specs.declared.packet.Kind.TheVariants.{Short}
use Rattle.ms_auth.specs.Request.{request_bytes, request_tail_bytes}
use Rattle.ntp_wire.specs.declared.stamp.Stamp.{Stamp}
use Rattle.ntp_wire.specs.Fields.{transmit_of}
use Rattle.time_machine.specs.declared.outcome.Outcome.{Outcome}
use Rattle.time_machine.specs.declared.outcome.Outcome.TheVariants.{Started, Idle, Sent, Moved, Refused}
use Rattle.time_machine.specs.declared.outcome.Request.{Request}
use Rattle.time_machine.specs.After.{after, after_arrival, after_send}
use Rattle.time_machine.specs.Events.{reading_of, word_of, is_reset}
use Rattle.time_machine.specs.Growing.{MayFollow}
use Rattle.time_machine.specs.Kept.{kept}
use Rattle.time_machine.specs.Machine.{count_at, is_change, is_due, outcome_at, outcome_by, request_as, stamp_at, told}
use Rattle.time_machine.specs.Words.{Words, words}
use Rattle.time_machine.proofs.After.{outcome_kept, verdict_cases, words_after}
use Rattle.sntp_world.specs.Setting.{world_conf, world_rid}
use Rattle.sntp_world.specs.State.{State}
use Rattle.sntp_world.specs.Steps.{words_in}

-- ---- The bytes of a request

-- a word behind a front
word_within : (place : ℕ) (front after : List ℕ) (n : ℕ) → length front ≡ place → n < 2 ^ 32 → word_at place (front ++ (word_bytes n ++ after)) ≡ n
word_within place front after n long fits =
    ap (word_at place) (sym (append_assoc front (word_bytes n) after))
    ∙ ap number_of (part_before place 4 (front ++ word_bytes n) after (omega (arith, longer place 4 front (word_bytes n) long (length-number_bytes 4 n))))
    ∙ ap number_of (part_behind place 4 front (word_bytes n) long (length-number_bytes 4 n))
    ∙ number_of-number_bytes 4 n fits

front : ℕ → List ℕ
front poll = 0xDB ∷ 0 ∷ poll ∷ 0xE9 ∷ replicate 36 0

spelled : (rid poll : ℕ) (s : Stamp) → request_bytes Short rid poll s ≡ front poll ++ (word_bytes s.seconds ++ (word_bytes s.fraction ++ request_tail_bytes Short rid))
unfolding front
spelled rid poll s = ap (λ (l : List ℕ). front poll ++ l) (append_assoc (word_bytes s.seconds) (word_bytes s.fraction) (request_tail_bytes Short rid))

front_long : (poll : ℕ) → length (front poll) ≡ 40
unfolding front
front_long poll = refl

pub seconds_sent : (rid poll : ℕ) (s : Stamp) → s.seconds < 2 ^ 32 → (transmit_of (request_bytes Short rid poll s)).seconds ≡ s.seconds
seconds_sent rid poll s fits =
    ap (word_at 40) (spelled rid poll s) ∙ word_within 40 (front poll) (word_bytes s.fraction ++ request_tail_bytes Short rid) s.seconds (front_long poll) fits

pub fraction_sent : (rid poll : ℕ) (s : Stamp) → s.fraction < 2 ^ 32 → (transmit_of (request_bytes Short rid poll s)).fraction ≡ s.fraction
fraction_sent rid poll s fits =
    let parted = sym (append_assoc (front poll) (word_bytes s.seconds) (word_bytes s.fraction ++ request_tail_bytes Short rid)) in
    ap (word_at 44) (spelled rid poll s ∙ parted)
    ∙ word_within 44 (front poll ++ word_bytes s.seconds) (request_tail_bytes Short rid) s.fraction (longer 40 4 (front poll) (word_bytes s.seconds) (front_long poll) (length-number_bytes 4 s.seconds)) fits

pub whole_sent : (rid poll : ℕ) (s : Stamp) → 48 ≤ length (request_bytes Short rid poll s)
whole_sent rid poll s =
    let parted = sym (append_assoc (front poll) (word_bytes s.seconds) (word_bytes s.fraction ++ request_tail_bytes Short rid)) in
    let behind = longer 40 4 (front poll) (word_bytes s.seconds) (front_long poll) (length-number_bytes 4 s.seconds) in
    let again = sym (append_assoc (front poll ++ word_bytes s.seconds) (word_bytes s.fraction) (request_tail_bytes Short rid)) in
    let place = longer 44 4 (front poll ++ word_bytes s.seconds) (word_bytes s.fraction) behind (length-number_bytes 4 s.fraction) in
    let all = ap length (spelled rid poll s ∙ parted ∙ again) in
    omega (arith, all, longer 48 (length (request_tail_bytes Short rid)) ((front poll ++ word_bytes s.seconds) ++ word_bytes s.fraction) (request_tail_bytes Short rid) place refl)

-- ---- What is sent

-- these bytes are the request that an event sends
pub record IsSentBy (w : Words) (e : Event) (count : ℕ) (bytes : List ℕ) : Type 0 where
  pub counted : count ≡ count_at w
  pub poll : ℕ
  pub written : bytes ≡ request_bytes Short world_rid poll (stamp_at w (word_of e))

-- the request that is open then
abbrev pub request_by : Event → ℕ → Request
request_by e count = record { count = count; word = word_of e; at = reading_of e }

-- which requests are open after an event, by what it leads to
abbrev pub Opens : Words → Event → Outcome → List Request → Type 0
Opens w e (Sent addr count bytes) opened =
    IsSentBy w e count bytes × ((opened ≡ request_by e count ∷ []) ⊎ (opened ≡ w.open_requests ++ request_by e count ∷ []))
Opens w e (Started mark) opened = opened ≡ []
Opens w e (Moved count offset how) opened = opened ≡ []
Opens w e Idle opened = opened ≡ w.open_requests
Opens w e (Refused reason) opened = opened ≡ w.open_requests

opens_send : (w : Words) (e : Event) (turns : Bool) (r : List Request) →
    (((if turns then [] else w.open_requests) ++ r) ≡ r) ⊎ (((if turns then [] else w.open_requests) ++ r) ≡ w.open_requests ++ r)
opens_send w e true r = inl refl
opens_send w e false r = inr refl

opens_tick : (w : Words) (now : ℤ) (word : ℕ) (changes due : Bool) →
    Opens w (Tick now word) (if due then request_as world_conf w false changes word else Idle)
    (if due then after_send world_conf w false changes now word else w).open_requests
opens_tick w now word changes true =
    (record { counted = refl; poll = _; written = refl }, opens_send w (Tick now word) changes _)
opens_tick w now word changes false = refl

pub opens : (w : Words) (e : Event) → Opens w e (outcome_by world_conf w e) (after world_conf w e).open_requests
opens w (Life now mark) = refl
opens w (Tick now word) = opens_tick w now word (is_change w (Tick now word)) (is_due w now)
opens w (Resync now word flags) = (
  record { counted = refl; poll = _; written = refl },
  opens_send w (Resync now word flags) (is_reset (Resync now word flags) || is_change w (Resync now word flags)) _,
)
opens w (Arrive now from bytes) =
    verdict_cases (λ o. Opens w (Arrive now from bytes) o (after_arrival world_conf w now o).open_requests)
    (λ reason. refl) world_conf w now from bytes (λ r e offset how. refl)

-- what differs between the words and those that are kept doesn't count here
opens_kept : (w : Words) (e : Event) (o : Outcome) (opened : List Request) → Opens (kept world_conf w) e o opened → Opens w e o opened
opens_kept w e (Sent addr count bytes) opened is = (record { counted = is.0.counted; poll = is.0.poll; written = is.0.written }, is.1)
opens_kept w e (Started mark) opened is = is
opens_kept w e (Moved count offset how) opened is = is
opens_kept w e Idle opened is = is
opens_kept w e (Refused reason) opened is = is

pub opens_after : (w : State) (e : Event) (now : State) → now.history ≡ e ∷ w.history
    → Opens (words_in w) e (outcome_at world_conf w.history e) (words_in now).open_requests
unfolding told outcome_at
opens_after w e now same =
    let before = told world_conf w.history in
    let k = kept world_conf (words_in w) in
    let opened = opens k e in
    let out : Opens k e (outcome_by world_conf (words_in w) e) (after world_conf k e).open_requests =
    subst (λ (o : Outcome). Opens k e o (after world_conf k e).open_requests) (outcome_kept world_conf (words_in w) e) opened in
    let stands : (after world_conf k e).open_requests ≡ (words_in now).open_requests =
    ap (λ (v : Words). v.open_requests) (sym (words_after world_conf before e))
    ∙ ap (λ (h : List Event). (words world_conf (told world_conf h)).open_requests) (sym same) in
    opens_kept (words_in w) e _ _ (subst (λ (l : List Request). Opens k e (outcome_by world_conf (words_in w) e) l) stands out)

-- the count that an outcome sends fits four bytes
abbrev pub Fits : Outcome → Type 0
Fits (Sent addr count bytes) = count < 2 ^ 32
Fits (Started mark) = Unit {0}
Fits Idle = Unit {0}
Fits (Moved count offset how) = Unit {0}
Fits (Refused reason) = Unit {0}

fits_tick : (due : Bool) (addr : Addr) (count : ℕ) (bytes : List ℕ) → count < 2 ^ 32 → Fits (if due then Sent addr count bytes else Idle)
fits_tick true addr count bytes fits = fits
fits_tick false addr count bytes fits = tt

fits : (w : Words) (e : Event) → MayFollow world_conf w e → Fits (outcome_by world_conf w e)
fits w (Life now mark) follows = tt
fits w (Tick now word) follows = let below = follows.1 in fits_tick (is_due w now) _ (count_at w) _ (omega arith)
fits w (Resync now word flags) follows = let below = follows.1 in omega arith
fits w (Arrive now from bytes) follows = verdict_cases Fits (λ reason. tt) world_conf w now from bytes (λ r e offset how. tt)

pub fits_by : (w : State) (e : Event) → MayFollow world_conf (words_in w) e → Fits (outcome_at world_conf w.history e)
unfolding outcome_at
fits_by w e follows = fits (words_in w) e follows
