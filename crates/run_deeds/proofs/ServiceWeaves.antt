-- How what was given is woven where requests are asked for.
use Rattle.std.specs.Bool.{⊤}
use Rattle.std.proofs.Common.{◌≡◌, ℕ, zero, suc, ℤ, Bool, true, false, List, [], ◌∷◌, ◌++◌, map, is_some, ◌==◌, if◌then◌else◌, refl, sym, ap, subst}
use Rattle.edge_traits.specs.declared.link.Tried.{Tried}
use Rattle.edge_traits.specs.declared.datagram.Addr.{Addr}
use Rattle.edge_traits.specs.declared.link.Receipt.{Receipt}
use Rattle.edge_traits.specs.declared.link.Receipt.TheVariants.{Got}
use Rattle.edge_traits.specs.Clock.{ClockCall, Correct, readings_among}
use Rattle.edge_traits.specs.Link.{LinkCall, receipts_among}
use Rattle.capture_fmt.specs.declared.event.Event.{Event}
use Rattle.capture_fmt.specs.declared.event.Event.TheVariants.{Life, Resync, Arrive}
use Rattle.time_machine.specs.declared.conf.Conf.{Conf}
use Rattle.time_machine.specs.declared.outcome.Outcome.{Outcome}
use Rattle.time_machine.specs.Events.{History}
use Rattle.time_machine.specs.Machine.{moves_by, outcome_at}
use Rattle.time_machine.specs.Told.{offset_moved}
use Rattle.run_deeds.specs.Weaving.{Stood, SyncCall, Need, Start, Calls, CallWord, Round, RoundReading, Turns, WordFor, ReceiptNow, ReadingFor, Act, Weaves, none, acts, life, reads, draws, gets, quiet, lost, arrives, call_reads, call_draws, round_gets, round_quiet, round_lost, round_arrives, behind_arrival, behind_request, round_of}
use Rattle.run_deeds.specs.ServiceWeaving.{call_events, round_events, service_weave}
use Rattle.run_deeds.proofs.Weaves.{readings_behind, receipts_behind}

-- the calls that are left, with these words
abbrev behind : Conf → List SyncCall → List ℕ → History → List ℤ → List Receipt → List Event
behind conf left ws = λ (later : History) (rs : List ℤ) (qs : List Receipt). call_events conf left later rs ws qs

-- What is said of the events that are woven from a need on.
abbrev Claims : Conf → Need → History → List ℤ → List ℕ → List Receipt → List Event → Type 0
Claims conf (Calls left) history rs ws qs es = es ≡ call_events conf left history rs ws qs
Claims conf (CallWord call now left) history rs ws qs es = es ≡ call_events conf (call ∷ left) history (now ∷ rs) ws qs
Claims conf (Round receipts left) history rs ws qs es = es ≡ round_events conf receipts (behind conf left ws) history rs qs
Claims conf (RoundReading receipts from bytes left) history rs ws qs es =
    es ≡ round_events conf (suc receipts) (behind conf left ws) history rs (Got from bytes ∷ qs)
Claims conf (Act outcome next) history rs ws qs es = Claims conf next history rs ws qs es
Claims conf need history rs ws qs es = ⊤

-- where nothing was given there is no event
claims_none : (conf : Conf) (need : Need) (history : History) → Claims conf need history [] [] [] []
claims_none conf (Start stood next) history = tt
claims_none conf (Turns left) history = tt
claims_none conf (WordFor left now) history = tt
claims_none conf (ReceiptNow left) history = tt
claims_none conf (ReadingFor left from bytes) history = tt
claims_none conf (Calls []) history = refl
claims_none conf (Calls (call ∷ left)) history = refl
claims_none conf (CallWord call now left) history = refl
claims_none conf (Round zero []) history = refl
claims_none conf (Round zero (call ∷ left)) history = refl
claims_none conf (Round (suc more) left) history = refl
claims_none conf (RoundReading receipts from bytes left) history = refl
claims_none conf (Act outcome next) history = claims_none conf next history

asked_so : (conf : Conf) (quick : Bool) (left : List SyncCall) (history : History) (rs : List ℤ) (ws : List ℕ) (qs : List Receipt) (es : List Event)
    → Claims conf (if quick then Calls left else Round 16 left) history rs ws qs es
    → es ≡ round_events conf (if quick then 0 else 16) (behind conf left ws) history rs qs
asked_so conf true left history rs ws qs es says = says
asked_so conf false left history rs ws qs es says = says

round_so : (conf : Conf) (receipts : ℕ) (left : List SyncCall) (history : History) (rs : List ℤ) (ws : List ℕ) (qs : List Receipt) (es : List Event)
    → Claims conf (round_of receipts left) history rs ws qs es → es ≡ round_events conf receipts (behind conf left ws) history rs qs
round_so conf zero left history rs ws qs es says = says
round_so conf (suc more) left history rs ws qs es says = says

arrived_so : (conf : Conf) (receipts : ℕ) (moved : Bool) (left : List SyncCall) (history : History) (rs : List ℤ) (ws : List ℕ) (qs : List Receipt) (es : List Event)
    → Claims conf (if moved then Calls left else round_of receipts left) history rs ws qs es
    → es ≡ (if moved then behind conf left ws history rs qs else round_events conf receipts (behind conf left ws) history rs qs)
arrived_so conf receipts true left history rs ws qs es says = says
arrived_so conf receipts false left history rs ws qs es says = round_so conf receipts left history rs ws qs es says

-- what is woven is what the function gives
claimed : {conf : Conf} {from need : Need} {history : History} {cs : List ClockCall} {ws : List ℕ} {ls : List LinkCall} {es : List Event}
    → Weaves conf from history cs ws ls es need → Claims conf from history (readings_among cs) ws (receipts_among ls) es
claimed {conf = conf} {from = from} {history = history} none = claims_none conf from history
claimed {conf = conf} {history = history} (acts {outcome = o} {behind = next} {cs = cs} {ws = ws} {ls = ls} {es = es} tried are s) =
    subst (λ (qs : List Receipt). Claims conf next history (readings_among (map Correct (moves_by o) ++ cs)) ws qs es) (sym (receipts_behind tried ls))
    (subst (λ (rs : List ℤ). Claims conf next history rs ws (receipts_among ls) es) (sym (readings_behind o cs)) (claimed s))
claimed (life s) = tt
claimed (reads s) = tt
claimed (draws s) = tt
claimed (gets s) = tt
claimed (quiet s) = tt
claimed (lost s) = tt
claimed (arrives s) = tt
claimed (call_reads s) = claimed s
claimed {conf = conf} (call_draws {call = call} {left = left} {now = now} {word = word} {history = history} {cs = cs} {ws = ws} {ls = ls} {es = es} s) =
    ap (λ (l : List Event). Resync now word call.flags ∷ l)
    (asked_so conf (call.wait == 0) left (Resync now word call.flags ∷ history) (readings_among cs) ws (receipts_among ls) es (claimed s))
claimed (round_gets s) = claimed s
claimed (round_quiet s) = claimed s
claimed {conf = conf} (round_lost {receipts = receipts} {left = left} {history = history} {cs = cs} {ws = ws} {ls = ls} {es = es} s) =
    round_so conf receipts left history (readings_among cs) ws (receipts_among ls) es (claimed s)
claimed {conf = conf} (round_arrives {receipts = receipts} {left = left} {from = from} {bytes = bytes} {now = now} {history = history} {cs = cs} {ws = ws} {ls = ls} {es = es} s) =
    ap (λ (l : List Event). Arrive now from bytes ∷ l)
    (arrived_so conf receipts (is_some (offset_moved (outcome_at conf history (Arrive now from bytes)))) left (Arrive now from bytes ∷ history)
    (readings_among cs) ws (receipts_among ls) es (claimed s))

nothing_begun : (conf : Conf) (stood : Stood) (calls : List SyncCall) (now : ℤ) → Life now stood.mark ∷ [] ≡ service_weave conf stood calls (now ∷ []) [] []
nothing_begun conf stood [] now = refl
nothing_begun conf stood (call ∷ calls) now = refl

-- and so from the start of a run
pub is_service : {conf : Conf} {stood : Stood} {calls : List SyncCall} {cs : List ClockCall} {ws : List ℕ} {ls : List LinkCall} {es : List Event} {need : Need}
    → Weaves conf (Start stood (Calls calls)) [] cs ws ls es need → es ≡ service_weave conf stood calls (readings_among cs) ws (receipts_among ls)
is_service none = refl
is_service {conf = conf} {stood = stood} {calls = calls} (life {now = now} none) = nothing_begun conf stood calls now
is_service {stood = stood} (life {now = now} (acts {outcome = o} {cs = cs} {ls = ls} tried are s)) =
    rw (readings_behind o cs, receipts_behind tried ls) (ap (λ (l : List Event). Life now stood.mark ∷ l) (claimed s))

-- ---- More calls behind those that are left

-- what is needed where these calls are left besides
abbrev pub with_more : List SyncCall → Need → Need
with_more more (Start stood next) = Start stood (with_more more next)
with_more more (Calls left) = Calls (left ++ more)
with_more more (CallWord call now left) = CallWord call now (left ++ more)
with_more more (Round receipts left) = Round receipts (left ++ more)
with_more more (RoundReading receipts from bytes left) = RoundReading receipts from bytes (left ++ more)
with_more more (Act outcome next) = Act outcome (with_more more next)
with_more more need = need

more_round : (more left : List SyncCall) (receipts : ℕ) → with_more more (round_of receipts left) ≡ round_of receipts (left ++ more)
more_round more left zero = refl
more_round more left (suc receipts) = refl

more_asked : (more left : List SyncCall) (quick : Bool) → with_more more (if quick then Calls left else Round 16 left) ≡ (if quick then Calls (left ++ more) else Round 16 (left ++ more))
more_asked more left true = refl
more_asked more left false = refl

more_arrived : (more left : List SyncCall) (receipts : ℕ) (moved : Bool)
    → with_more more (if moved then Calls left else round_of receipts left) ≡ (if moved then Calls (left ++ more) else round_of receipts (left ++ more))
more_arrived more left receipts true = refl
more_arrived more left receipts false = more_round more left receipts

-- What is woven up to a need is woven where more calls are left behind it.
pub lengthened : {conf : Conf} (more : List SyncCall) {from need : Need} {history : History} {cs : List ClockCall} {ws : List ℕ} {ls : List LinkCall} {es : List Event}
    → Weaves conf from history cs ws ls es need → Weaves conf (with_more more from) history cs ws ls es (with_more more need)
lengthened more none = none
lengthened more (acts tried are s) = acts tried are (lengthened more s)
lengthened more (life s) = life (lengthened more s)
lengthened more (reads s) = reads (lengthened more s)
lengthened more (draws s) = draws (lengthened more s)
lengthened more (gets s) = gets (lengthened more s)
lengthened more (quiet s) = quiet (lengthened more s)
lengthened more (lost s) = lost (lengthened more s)
lengthened more (arrives s) = arrives (lengthened more s)
lengthened more (call_reads s) = call_reads (lengthened more s)
lengthened more (call_draws {call = call} {left = left} s) = call_draws (rw (more_asked more left (call.wait == 0)) at (lengthened more s))
lengthened more (round_gets s) = round_gets (lengthened more s)
lengthened more (round_quiet s) = round_quiet (lengthened more s)
lengthened more (round_lost {receipts = receipts} {left = left} s) = round_lost (rw (more_round more left receipts) at (lengthened more s))
lengthened {conf = conf} more (round_arrives {receipts = receipts} {left = left} {from = from} {bytes = bytes} {now = now} {history = history} s) =
    round_arrives (rw (more_arrived more left receipts (is_some (offset_moved (outcome_at conf history (Arrive now from bytes))))) at (lengthened more s))
