-- A Tick or a Resync: a count is reserved where none is left, a reading and a word are given, and the event is taken.
use Rattle.std.proofs.Common.{◌≡◌, ◌≢◌, inl, inr, ◌≤◌, ◌+◌, ◌*◌, ◌/◌, ◌==◌, ℕ, ℤ, Bool, true, false, if◌then◌else◌, IsTrue, List, [], ◌∷◌, Option, unwrap_or, refl, ◌∙◌, ap, arith}
use Rattle.std.proofs.lemmas.Bool.{false≢true}
use Rattle.base_specs.specs.Counts.{Fails}
use Rattle.base_specs.specs.Told.{Added}
use Rattle.edge_traits.specs.Clock.{ClockCall, GaveReadings, Read}
use Rattle.edge_traits.specs.Link.{LinkCall}
use Rattle.capture_fmt.specs.declared.event.Event.{Event}
use Rattle.capture_fmt.specs.declared.event.Event.TheVariants.{Life, Tick, Resync, Arrive}
use Rattle.time_machine.specs.declared.conf.Conf.{Conf}
use Rattle.time_machine.specs.declared.outcome.Outcome.{Outcome}
use Rattle.time_machine.specs.Entries.{count_of, last_of}
use Rattle.time_machine.specs.Events.{History, mark_of}
use Rattle.time_machine.specs.Machine.{outcome_at, told}
use Rattle.time_machine.specs.Told.{Told, has_sent}
use Rattle.time_machine.specs.Words.{life_at, words}
use Rattle.time_machine.specs.Kept.{kept}
use Rattle.sntp_core.specs.declared.member.Member.{Member}
use Rattle.sntp_core.specs.Standing.{StandsForHistory, conf_of, words_of}
use Rattle.run_deeds.specs.declared.life_end.LifeEnd.{LifeEnd}
use Rattle.run_deeds.specs.declared.life_end.Why.{Why}
use Rattle.run_deeds.specs.declared.life_end.Why.TheVariants.{Done, DiskFault, BadVersion, StampsSpent, ClockFault, EntropyFault, SinkFault}
use Rattle.run_deeds.specs.Deeds.{Whole}
use Rattle.edge_seen.specs.Seen.{Seen}
use Rattle.run_deeds.specs.Devices.{IsBehind, NeedsCount, NeedsDisk, NeedsReading, NeedsWord, faults, nothing, living}
use Rattle.run_deeds.specs.Marks.{Reserved, asks, last_count}
use Rattle.run_deeds.specs.Parts.{Part}
use Rattle.run_deeds.specs.Weaving.{Act, Need, Calls, Round, SyncCall, Weaves, behind_request, none}
use Rattle.run_deeds.proofs.Doing.{does_draw, does_read, does_then}
use Rattle.run_deeds.proofs.Stopping.{does_still, tallies_none}
use Rattle.member_run.specs.Reserving.{BlamedBy, Reserves}
use Rattle.member_run.specs.Taking.{Takes}
use Rattle.member_run.proofs.Parting.{LastBy, part_stops, part_takes}

-- no count could be reserved
pub no_count : (others : Seen) (conf : Conf) (from next : Need) (history : History) (member : Member) (link : Option (List LinkCall)) (clock : Option (List ClockCall)) (words capture out : Option (List ℕ))
    (lf cf ef df df' kf of kept kept' : ℕ) (end : LifeEnd) (why : Why)
    → conf_of member ≡ conf → StandsForHistory member history → NeedsCount from → NeedsDisk from → BlamedBy why df df' → why ≢ BadVersion
    → Part conf from next history (living others link clock words capture out lf (faults cf ef df kf of)) (living others link clock words capture out lf (faults cf ef df' kf of)) member kept kept' end end why
no_count others conf from next history member link clock words capture out lf cf ef df df' kf of kept kept' end DiskFault is_set stands count disk blamed other =
    part_stops conf from from next history nothing (living others link clock words capture out lf (faults cf ef df kf of)) (living others link clock words capture out lf (faults cf ef df' kf of)) member kept kept' end DiskFault
    is_set stands (λ is. cc is) (tallies_none conf history end) none
    (does_still others conf history link clock words capture out lf (faults cf ef df kf of) (faults cf ef df' kf of)) (tt, disk, (blamed, refl))
no_count others conf from next history member link clock words capture out lf cf ef df df' kf of kept kept' end StampsSpent is_set stands count disk blamed other =
    part_stops conf from from next history nothing (living others link clock words capture out lf (faults cf ef df kf of)) (living others link clock words capture out lf (faults cf ef df' kf of)) member kept kept' end StampsSpent
    is_set stands (λ is. cc is) (tallies_none conf history end) none
    (does_still others conf history link clock words capture out lf (faults cf ef df kf of) (faults cf ef df' kf of)) (tt, count, λ i. faults cf ef (blamed i) kf of)
no_count others conf from next history member link clock words capture out lf cf ef df df' kf of kept kept' end BadVersion is_set stands count disk blamed other = absurd (other refl)
no_count others conf from next history member link clock words capture out lf cf ef df df' kf of kept kept' end Done is_set stands count disk blamed other = absurd blamed
no_count others conf from next history member link clock words capture out lf cf ef df df' kf of kept kept' end ClockFault is_set stands count disk blamed other = absurd blamed
no_count others conf from next history member link clock words capture out lf cf ef df df' kf of kept kept' end EntropyFault is_set stands count disk blamed other = absurd blamed
no_count others conf from next history member link clock words capture out lf cf ef df df' kf of kept kept' end SinkFault is_set stands count disk blamed other = absurd blamed

-- the clock failed
pub no_reading : (others : Seen) (conf : Conf) (from next : Need) (history : History) (member : Member) (link : Option (List LinkCall)) (clock clock' : Option (List ClockCall)) (words capture out : Option (List ℕ))
    (lf cf cf' ef df df' kf of kept kept' : ℕ) (end : LifeEnd) (why : Why)
    → conf_of member ≡ conf → StandsForHistory member history → NeedsReading from → why ≡ ClockFault → clock' ≡ clock → Fails cf cf' → df' ≡ df
    → Part conf from next history (living others link clock words capture out lf (faults cf ef df kf of)) (living others link clock' words capture out lf (faults cf' ef df' kf of)) member kept kept' end end why
no_reading others conf from next history member link clock clock' words capture out lf cf cf' ef df df' kf of kept kept' end why is_set stands reading is same fails disk =
    rw (is, same)
    (part_stops conf from from next history nothing (living others link clock words capture out lf (faults cf ef df kf of)) (living others link clock words capture out lf (faults cf' ef df' kf of)) member kept kept' end ClockFault
    is_set stands (λ is. cc is) (tallies_none conf history end) none
    (does_still others conf history link clock words capture out lf (faults cf ef df kf of) (faults cf' ef df' kf of)) (tt, reading, (fails, λ i. faults cf' ef (disk i) kf of)))

-- a reading was given, and no word
pub no_word : (others : Seen) (conf : Conf) (from need next : Need) (history : History) (member : Member) (link : Option (List LinkCall)) (clock clock' : Option (List ClockCall)) (words words' capture out : Option (List ℕ))
    (lf cf cf' ef ef' df df' kf of kept kept' : ℕ) (end : LifeEnd) (why : Why) (now : ℤ)
    → conf_of member ≡ conf → StandsForHistory member history → NeedsWord need → Weaves conf from history (Read now ∷ []) [] [] [] need
    → why ≡ EntropyFault → GaveReadings clock clock' (now ∷ []) → cf' ≡ cf → words' ≡ words → Fails ef ef' → df' ≡ df
    → Part conf from next history (living others link clock words capture out lf (faults cf ef df kf of)) (living others link clock' words' capture out lf (faults cf' ef' df' kf of)) member kept kept' end end why
no_word others conf from need next history member link clock clock' words words' capture out lf cf cf' ef ef' df df' kf of kept kept' end why now is_set stands word weaves is gave read same fails disk =
    rw (is, same)
    (part_stops conf from need next history (record { clock = Read now ∷ []; words = []; link = [] })
    (living others link clock words capture out lf (faults cf ef df kf of)) (living others link clock' words capture out lf (faults cf' ef' df' kf of)) member kept kept' end EntropyFault
    is_set stands (λ is. cc is) (tallies_none conf history end) weaves
    (does_read others conf history link clock clock' words capture out lf (faults cf ef df kf of) (faults cf' ef' df' kf of) now gave)
    (tt, word, (fails, λ i. faults (read i) ef' (disk i) kf of)))

-- both were given, and the event is taken
pub takes_drawn : (others : Seen) (conf : Conf) (from next : Need) (history : History) (event : Event) (member : Member) (link : Option (List LinkCall)) (clock clock' : Option (List ClockCall)) (words words' capture out : Option (List ℕ))
    (lf cf cf' ef ef' df df' kf of : ℕ) (after : Seen) (kept kept' : ℕ) (old new : LifeEnd) (why : Why) (now : ℤ) (word : ℕ)
    → GaveReadings clock clock' (now ∷ []) → cf' ≡ cf → Added words words' (word ∷ []) → ef' ≡ ef → df' ≡ df
    → Takes conf history event [] (living others link clock' words' capture out lf (faults cf' ef' df' kf of)) after member old new why
    → ((cs : List ClockCall) (ls : List LinkCall) (need : Need) → Weaves conf (Act (outcome_at conf history event) next) (event ∷ history) cs [] ls [] need
    → Weaves conf from history (Read now ∷ cs) (word ∷ []) ls (event ∷ []) need) → IsBehind event next → LastBy conf history event []
    → (Reserved kept (told conf history) → Reserved kept' (told conf (event ∷ history)))
    → Part conf from next history (living others link clock words capture out lf (faults cf ef df kf of)) after member kept kept' old new why
takes_drawn others conf from next history event member link clock clock' words words' capture out lf cf cf' ef ef' df df' kf of after kept kept' old new why now word gave read gave_word drew disk takes weaves behind last reserved =
    let begin = faults cf ef df kf of in
    let quiet = faults cf' ef' df' kf of in
    let a = living others link clock words capture out lf begin in
    let b = living others link clock' words capture out lf begin in
    let c = living others link clock' words' capture out lf quiet in
    part_takes conf from next history event (record { clock = Read now ∷ []; words = word ∷ []; link = [] }) [] a c after member kept kept' old new why
    (does_then conf history (record { clock = Read now ∷ []; words = []; link = [] }) (record { clock = []; words = word ∷ []; link = [] }) [] [] Whole a b c
    (does_read others conf history link clock clock' words capture out lf begin begin now gave)
    (does_draw others conf history link clock' words words' capture out lf begin quiet word gave_word))
    (tallies_none conf history old) (λ i. faults (read i) (drew i) (disk i) kf of) takes weaves behind last reserved

-- behind the Resync of a call comes its round, or another call
resync_behind : (now : ℤ) (word flags : ℕ) (left : List SyncCall) (b : Bool) → IsBehind (Resync now word flags) (if b then Calls left else Round 16 left)
resync_behind now word flags left true = tt
resync_behind now word flags left false = tt

pub call_behind : (now : ℤ) (word flags wait : ℕ) (left : List SyncCall) → IsBehind (Resync now word flags) (behind_request wait left)
call_behind now word flags wait left = resync_behind now word flags left (wait == 0)

-- ---- The counts reserved

-- the numbers: of so many sent in blocks of 64, and one more at most
room : (mark sent more blocks last kept kept' : ℕ) → more ≤ 1 → last ≡ mark + sent → kept ≡ mark + 64 * blocks → sent ≤ 64 * blocks → 64 * blocks ≤ sent + 64
    → Reserves last kept kept'
    → (kept' ≡ mark + 64 * (1 + sent / 64)) × (sent + more ≤ 64 * (1 + sent / 64)) × (64 * (1 + sent / 64) ≤ sent + more + 64)
room mark sent more blocks last kept kept' one known was within needed (inl used) = (
  omega (arith, one, known, was, within, needed, used.0, used.1),
  omega (arith, one),
  omega (arith, one, known, was, within, needed, used.0),
)
room mark sent more blocks last kept kept' one known was within needed (inr left) = (
  omega (arith, one, known, was, within, needed, left.0, left.1),
  omega (arith, one),
  omega (arith, one, known, was, within, needed, left.0),
)

one_at_most : (b : Bool) → (if b then 1 else 0) ≤ 1
one_at_most true = omega arith
one_at_most false = omega arith

tick_reserved : (now : ℤ) (word : ℕ) (changes : Bool) (partner : ℕ) (outcome : Outcome) (before : List Told) (last kept kept' : ℕ)
    → last ≡ unwrap_or (last_of (λ t. mark_of t.event) before) 0 + count_of has_sent (life_at before)
    → Reserves last kept kept' → Reserved kept before → Reserved kept' (record { event = Tick now word; changes = changes; partner = partner; outcome = outcome } ∷ before)
tick_reserved now word changes partner outcome before last kept kept' known reserves was =
    let t : Told = record { event = Tick now word; changes = changes; partner = partner; outcome = outcome } in
    let new = room _ _ (if has_sent t then 1 else 0) _ last kept kept' (one_at_most (has_sent t)) known was.blocks was.within was.needed reserves in
    record { blocks = new.0; within = new.1; needed = new.2 }

resync_reserved : (now : ℤ) (word flags : ℕ) (changes : Bool) (partner : ℕ) (outcome : Outcome) (before : List Told) (last kept kept' : ℕ)
    → last ≡ unwrap_or (last_of (λ t. mark_of t.event) before) 0 + count_of has_sent (life_at before)
    → Reserves last kept kept' → Reserved kept before → Reserved kept' (record { event = Resync now word flags; changes = changes; partner = partner; outcome = outcome } ∷ before)
resync_reserved now word flags changes partner outcome before last kept kept' known reserves was =
    let t : Told = record { event = Resync now word flags; changes = changes; partner = partner; outcome = outcome } in
    let new = room _ _ (if has_sent t then 1 else 0) _ last kept kept' (one_at_most (has_sent t)) known was.blocks was.within was.needed reserves in
    record { blocks = new.0; within = new.1; needed = new.2 }

-- the last count of a member, by the history that it stands for
last_told : (member : Member) (history : History) → StandsForHistory member history
    → last_count (words_of member) ≡ unwrap_or (last_of (λ t. mark_of t.event) (told (conf_of member) history)) 0 + count_of has_sent (life_at (told (conf_of member) history))
unfolding words
last_told member history stands = ap last_count stands.keeps

-- a block is reserved before a Tick or a Resync exactly where it is due
pub asks_reserved : (member : Member) (history : History) (event : Event) (last kept kept' : ℕ) → IsTrue (asks event) → StandsForHistory member history
    → last ≡ last_count (words_of member) → Reserves last kept kept'
    → Reserved kept (told (conf_of member) history) → Reserved kept' (told (conf_of member) (event ∷ history))
unfolding told
asks_reserved member history (Tick now word) last kept kept' is stands known reserves was =
    tick_reserved now word _ _ _ (told (conf_of member) history) last kept kept' (known ∙ last_told member history stands) reserves was
asks_reserved member history (Resync now word flags) last kept kept' is stands known reserves was =
    resync_reserved now word flags _ _ _ (told (conf_of member) history) last kept kept' (known ∙ last_told member history stands) reserves was
asks_reserved member history (Life now mark) last kept kept' is stands known reserves was = absurd (false≢true is)
asks_reserved member history (Arrive now from bytes) last kept kept' is stands known reserves was = absurd (false≢true is)
