-- The events of a run whose requests are asked for, from the calls and what its devices gave.
use Rattle.std.specs.Prelude.{◌≡◌, ℕ, zero, suc, ◌==◌, if◌then◌else◌, ℤ, List, [], ◌∷◌, is_some}
use Rattle.edge_traits.specs.Clock.{ClockCall, readings_among}
use Rattle.edge_traits.specs.Link.{LinkCall, receipts_among}
use Rattle.edge_traits.specs.declared.link.Receipt.{Receipt}
use Rattle.edge_traits.specs.declared.link.Receipt.TheVariants.{Got, Quiet, Failed}
use Rattle.capture_fmt.specs.declared.event.Event.{Event}
use Rattle.capture_fmt.specs.declared.event.Event.TheVariants.{Life, Resync, Arrive}
use Rattle.time_machine.specs.declared.conf.Conf.{Conf}
use Rattle.time_machine.specs.Events.{History}
use Rattle.time_machine.specs.Told.{offset_moved}
use Rattle.time_machine.specs.Machine.{outcome_at}
use Rattle.run_deeds.specs.Weaving.{Calls, Need, Start, Stood, SyncCall, Weaves}

-- A round that may take so many receipts still: an Arrive with the next reading for each that is a datagram. An accepted
-- arrival, a quiet receipt or the last one ends it, and `next` comes after it, with the readings and receipts that are
-- left. The list ends where a reading or a receipt that is needed next isn't there.
abbrev pub round_events : Conf → (receipts : ℕ) → (next : History → List ℤ → List Receipt → List Event) → History → List ℤ → List Receipt → List Event
round_events conf zero next history readings receipts = next history readings receipts
round_events conf (suc more) next history readings [] = []
round_events conf (suc more) next history readings (Quiet ∷ receipts) = next history readings receipts
round_events conf (suc more) next history readings (Failed ∷ receipts) = round_events conf more next history readings receipts
round_events conf (suc more) next history [] (Got from bytes ∷ receipts) = []
round_events conf (suc more) next history (now ∷ readings) (Got from bytes ∷ receipts) =
    Arrive now from bytes
    ∷ (if is_some (offset_moved (outcome_at conf history (Arrive now from bytes)))
    then next (Arrive now from bytes ∷ history) readings receipts
    else round_events conf more next (Arrive now from bytes ∷ history) readings receipts)

-- Call by call a Resync with the next reading, the next word and the call's flags, and a round of at most 16 receipts
-- where the call waits.
abbrev pub call_events : Conf → List SyncCall → History → List ℤ → List ℕ → List Receipt → List Event
call_events conf [] history readings words receipts = []
call_events conf (call ∷ left) history [] words receipts = []
call_events conf (call ∷ left) history (now ∷ readings) [] receipts = []
call_events conf (call ∷ left) history (now ∷ readings) (word ∷ words) receipts =
    Resync now word call.flags
    ∷ round_events conf (if call.wait == 0 then 0 else 16) (λ later rs qs. call_events conf left later rs words qs)
    (Resync now word call.flags ∷ history) readings receipts

-- a Life with the first reading and the mark that the disk stood for, and then the calls
abbrev pub service_weave : Conf → Stood → List SyncCall → List ℤ → List ℕ → List Receipt → List Event
service_weave conf stood calls [] words receipts = []
service_weave conf stood calls (now ∷ readings) words receipts =
    Life now stood.mark ∷ call_events conf calls (Life now stood.mark ∷ []) readings words receipts

-- What is woven from a Life and these calls on is `service_weave` of what was given, whichever call ends it.
abbrev pub LawOfServices : Type 0
LawOfServices =
    (conf : Conf) (stood : Stood) (calls : List SyncCall) (cs : List ClockCall) (ws : List ℕ) (ls : List LinkCall) (es : List Event) (need : Need)
    → Weaves conf (Start stood (Calls calls)) [] cs ws ls es need
    → es ≡ service_weave conf stood calls (readings_among cs) ws (receipts_among ls)
