-- What the events of turns do to the mark of a life, to its requests and to the blocks of counts that are due in it.
use Rattle.std.proofs.Common.{◌≡◌, ◌⊎◌, inl, inr, ◌≤◌, ◌+◌, ◌*◌, ◌/◌, ℕ, ℤ, Bool, true, false, List, [], ◌∷◌, ◌++◌, Option, IsTrue, if◌then◌else◌, refl, sym, ◌∙◌, ap, subst, arith}
use Rattle.std.specs.Prelude.{⊤}
use Rattle.std.specs.List.{AllByRecursion}
use Rattle.edge_traits.specs.declared.link.Receipt.{Receipt}
use Rattle.edge_traits.specs.declared.link.Receipt.TheVariants.{Got, Quiet, Failed}
use Rattle.capture_fmt.specs.declared.event.Event.{Event}
use Rattle.capture_fmt.specs.declared.event.Event.TheVariants.{Life, Tick, Resync, Arrive}
use Rattle.time_machine.specs.declared.conf.Conf.{Conf}
use Rattle.time_machine.specs.Entries.{after_last, count_of, last_of}
use Rattle.time_machine.specs.Events.{History, is_life, mark_of}
use Rattle.time_machine.specs.Told.{Told, has_sent}
use Rattle.time_machine.specs.Words.{life_at, words}
use Rattle.time_machine.specs.Machine.{told, told_by}
use Rattle.time_machine.proofs.Lists.{all_split}
use Rattle.run_deeds.specs.Weaving.{followed_by, turns_of}
use Rattle.run_deeds.specs.Marks.{IsDue, asks, blocks_of}

-- the mark of the last Life, the requests since, and the blocks reserved since
abbrev pub mark_in : Conf → History → Option ℕ
mark_in conf history = last_of (λ t. mark_of t.event) (told conf history)

abbrev pub sends_in : Conf → History → ℕ
sends_in conf history = count_of has_sent (life_at (told conf history))

abbrev pub blocks_in : Conf → History → ℕ
blocks_in conf history = blocks_of (life_at (told conf history))

-- no Life is among these events
abbrev pub NoLife : List Event → Type 0
NoLife events = AllByRecursion (λ e. is_life e ≡ false) events

pub turns_later : (rs : List ℤ) (ws : List ℕ) (qs : List Receipt) → NoLife (turns_of rs ws qs)
turns_later [] ws qs = tt
turns_later (now ∷ rs) [] qs = tt
turns_later (now ∷ rs) (word ∷ ws) [] = (refl, tt)
turns_later (now ∷ []) (word ∷ ws) (Got from bytes ∷ qs) = (refl, tt)
turns_later (now ∷ later ∷ rs) (word ∷ ws) (Got from bytes ∷ qs) = (refl, (refl, turns_later rs ws qs))
turns_later (now ∷ rs) (word ∷ ws) (Quiet ∷ qs) = (refl, turns_later rs ws qs)
turns_later (now ∷ rs) (word ∷ ws) (Failed ∷ qs) = (refl, turns_later rs ws qs)

-- ---- Blocks

block_step : (b : Bool) (sent more blocks : ℕ) → blocks ≤ 1 + sent / 64 → (if b then 1 + sent / 64 else blocks) ≤ 1 + (sent + more) / 64
block_step true sent more blocks low = omega arith
block_step false sent more blocks low = omega (arith, low)

-- at most one block more than the requests fill
pub blocks_low : (life : List Told) → blocks_of life ≤ 1 + count_of has_sent life / 64
blocks_low [] = omega arith
blocks_low (t ∷ before) = block_step (asks t.event) (count_of has_sent before) (if has_sent t then 1 else 0) (blocks_of before) (blocks_low before)

rise_step : (b : Bool) (sent blocks : ℕ) → blocks ≤ 1 + sent / 64 → blocks ≤ (if b then 1 + sent / 64 else blocks)
rise_step true sent blocks low = low
rise_step false sent blocks low = omega arith

blocks_rise : (t : Told) (before : List Told) → blocks_of before ≤ blocks_of (t ∷ before)
blocks_rise t before = rise_step (asks t.event) (count_of has_sent before) (blocks_of before) (blocks_low before)

-- ---- Events that begin no life

abbrev Later : Event → Type 0
Later e = is_life e ≡ false

life_later : (t : Told) (before : List Told) → Later t.event → life_at (t ∷ before) ≡ t ∷ life_at before
life_later t before later = rw later refl

mark_later : (e : Event) (o : Option ℕ) (conf : Conf) (history : History) → Later e → mark_in conf (e ∷ history) ≡ mark_in conf history
unfolding told
mark_later (Life now mark) o conf history later = absurd (let no : true ≡ false = later in let bad : ⊥ = cc in bad)
mark_later (Tick now word) o conf history later = refl
mark_later (Resync now word flags) o conf history later = refl
mark_later (Arrive now from bytes) o conf history later = refl

pub mark_stays : (conf : Conf) (history : History) (es : List Event) → NoLife es → mark_in conf (followed_by history es) ≡ mark_in conf history
mark_stays conf history [] later = refl
mark_stays conf history (e ∷ es) later = mark_stays conf (e ∷ history) es later.1 ∙ mark_later e (mark_in conf history) conf history later.0

event_sends : (conf : Conf) (history : History) (e : Event) → Later e → sends_in conf history ≤ sends_in conf (e ∷ history)
unfolding told
event_sends conf history e later =
    let t = told_by conf (words conf (told conf history)) e in
    let now = ap (count_of has_sent) (life_later t (told conf history) later) in
    rw now (omega arith)

pub sends_rise : (conf : Conf) (history : History) (es : List Event) → NoLife es → sends_in conf history ≤ sends_in conf (followed_by history es)
sends_rise conf history [] later = omega arith
sends_rise conf history (e ∷ es) later = omega (arith, event_sends conf history e later.0, sends_rise conf (e ∷ history) es later.1)

event_blocks : (conf : Conf) (history : History) (e : Event) → Later e → blocks_in conf history ≤ blocks_in conf (e ∷ history)
unfolding told
event_blocks conf history e later =
    let t = told_by conf (words conf (told conf history)) e in
    let now = ap blocks_of (life_later t (told conf history) later) in
    rw now (blocks_rise t (life_at (told conf history)))

pub blocks_stay : (conf : Conf) (history : History) (es : List Event) → NoLife es → blocks_in conf history ≤ blocks_in conf (followed_by history es)
blocks_stay conf history [] later = omega arith
blocks_stay conf history (e ∷ es) later = omega (arith, event_blocks conf history e later.0, blocks_stay conf (e ∷ history) es later.1)

-- a Tick reserves one block more than the requests before it fill
pub tick_blocks : (conf : Conf) (history : History) (now : ℤ) (word : ℕ) → blocks_in conf (Tick now word ∷ history) ≡ 1 + sends_in conf history / 64
unfolding told
tick_blocks conf history now word = refl

-- no Life is among these events, and nothing that asks for a count
abbrev pub NoAsk : List Event → Type 0
NoAsk events = AllByRecursion (λ e. (is_life e ≡ false) × (asks e ≡ false)) events

event_unasked : (conf : Conf) (history : History) (e : Event) → is_life e ≡ false → asks e ≡ false → blocks_in conf (e ∷ history) ≡ blocks_in conf history
unfolding told
event_unasked conf history (Life now mark) later unasked = absurd (let no : true ≡ false = later in let bad : ⊥ = cc in bad)
event_unasked conf history (Tick now word) later unasked = absurd (let no : true ≡ false = unasked in let bad : ⊥ = cc in bad)
event_unasked conf history (Resync now word flags) later unasked = absurd (let no : true ≡ false = unasked in let bad : ⊥ = cc in bad)
event_unasked conf history (Arrive now from bytes) later unasked = refl

none_asked : (conf : Conf) (history : History) (es : List Event) → NoAsk es → blocks_in conf (followed_by history es) ≡ blocks_in conf history
none_asked conf history [] unasked = refl
none_asked conf history (e ∷ es) unasked = none_asked conf (e ∷ history) es unasked.1 ∙ event_unasked conf history e unasked.0.0 unasked.0.1

-- nothing happened, or what asks for a count did, and behind it nothing else that does
abbrev pub IsTurn : List Event → Type 0
IsTurn [] = ⊤
IsTurn (e ∷ es) = IsTrue (asks e) × NoAsk es

pub turn_front : (es missing : List Event) → IsTurn (es ++ missing) → IsTurn es
turn_front [] missing turn = tt
turn_front (e ∷ es) missing turn = (turn.0, (all_split _ es missing turn.1).0)

-- it reserves one block more than the requests before it fill
pub turn_reserves : (conf : Conf) (history : History) (es : List Event) → IsTurn es
    → (es ≡ []) ⊎ (blocks_in conf (followed_by history es) ≡ 1 + sends_in conf history / 64)
unfolding told
turn_reserves conf history [] turn = inl refl
turn_reserves conf history (Life now mark ∷ es) turn = absurd (let no : false ≡ true = turn.0 in let bad : ⊥ = cc in bad)
turn_reserves conf history (Tick now word ∷ es) turn = inr (none_asked conf (Tick now word ∷ history) es turn.1)
turn_reserves conf history (Resync now word flags ∷ es) turn = inr (none_asked conf (Resync now word flags ∷ history) es turn.1)
turn_reserves conf history (Arrive now from bytes ∷ es) turn = absurd (let no : false ≡ true = turn.0 in let bad : ⊥ = cc in bad)

-- ---- Where a block is due

due_step : (s a : Bool) (t : Told) (rest : List Told) (sent blocks : ℕ) → asks t.event ≡ a
    → (sent ≡ 64 * blocks → count_of (λ t. asks t.event) rest ≡ 0)
    → sent + (if s then 1 else 0) ≡ 64 * (if a then 1 + sent / 64 else blocks)
    → count_of (λ t. asks t.event) (if s then [] else t ∷ rest) ≡ 0
due_step true a t rest sent blocks asked later is = refl
due_step false true t rest sent blocks asked later is = absurd (omega (arith, is))
due_step false false t rest sent blocks asked later is =
    let before = later (omega (arith, is)) in
    let P : Bool → Type 0 = λ (b : Bool). count_of (λ t. asks t.event) rest + (if b then 1 else 0) ≡ 0 in
    let none : P false = omega (arith, before) in
    subst P (sym asked) none

-- where the requests fill the blocks that were reserved, nothing that asks came after the last of them
pub due_last : (life : List Told) → count_of has_sent life ≡ 64 * blocks_of life → count_of (λ t. asks t.event) (after_last has_sent life) ≡ 0
due_last [] is = refl
due_last (t ∷ before) is =
    due_step (has_sent t) (asks t.event) t (after_last has_sent before) (count_of has_sent before) (blocks_of before) refl (due_last before) is

pub is_due : (life : List Told) → count_of has_sent life ≡ 64 * blocks_of life → IsDue life
is_due life is = record { full = omega (arith, is); last = due_last life is }
