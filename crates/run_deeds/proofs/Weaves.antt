-- How what was given is woven.
use Rattle.std.proofs.Common.{◌≡◌, ℕ, ℤ, List, [], ◌∷◌, ◌++◌, map, refl, ◌∙◌, ap, append_assoc}
use Rattle.edge_traits.specs.declared.link.Tried.{Tried}
use Rattle.edge_traits.specs.declared.datagram.Addr.{Addr}
use Rattle.edge_traits.specs.declared.link.Receipt.{Receipt}
use Rattle.edge_traits.specs.declared.link.Receipt.TheVariants.{Got}
use Rattle.edge_traits.specs.Clock.{ClockCall, Correct, readings_among}
use Rattle.edge_traits.specs.Link.{LinkCall, Send, receipts_among}
use Rattle.edge_traits.proofs.Clocks.{readings_among-append, readings_among-moves}
use Rattle.edge_traits.proofs.Links.{receipts_among-append, receipts_among-sends}
use Rattle.capture_fmt.specs.declared.event.Event.{Event}
use Rattle.capture_fmt.specs.declared.event.Event.TheVariants.{Life, Tick, Arrive}
use Rattle.time_machine.specs.declared.conf.Conf.{Conf}
use Rattle.time_machine.specs.declared.outcome.Outcome.{Outcome}
use Rattle.time_machine.specs.Events.{History}
use Rattle.time_machine.specs.Machine.{moves_by}
use Rattle.run_deeds.specs.Weaving.{Stood, Need, Start, Turns, WordFor, ReceiptNow, ReadingFor, Act, Weaves, none, acts, life, reads, draws, gets, quiet, lost, arrives, call_reads, call_draws, round_gets, round_quiet, round_lost, round_arrives, followed_by, turns_of, weave}

-- one part after another
pub joined : {conf : Conf} {a b c : Need} {history : History} {cs cs' : List ClockCall} {ws ws' : List ℕ} {ls ls' : List LinkCall} {es es' : List Event}
    → Weaves conf a history cs ws ls es b → Weaves conf b (followed_by history es) cs' ws' ls' es' c
    → Weaves conf a history (cs ++ cs') (ws ++ ws') (ls ++ ls') (es ++ es') c
joined none t = t
joined {cs' = cs'} {ls' = ls'} (acts {outcome = outcome} {cs = cs} {ls = ls} tried are s) t =
    rw (append_assoc (map Correct (moves_by outcome)) cs cs', append_assoc (map Send tried) ls ls') (acts tried are (joined s t))
joined (life s) t = life (joined s t)
joined (reads s) t = reads (joined s t)
joined (draws s) t = draws (joined s t)
joined (gets s) t = gets (joined s t)
joined (quiet s) t = quiet (joined s t)
joined (lost s) t = lost (joined s t)
joined (arrives s) t = arrives (joined s t)
joined (call_reads s) t = call_reads (joined s t)
joined (call_draws s) t = call_draws (joined s t)
joined (round_gets s) t = round_gets (joined s t)
joined (round_quiet s) t = round_quiet (joined s t)
joined (round_lost s) t = round_lost (joined s t)
joined (round_arrives s) t = round_arrives (joined s t)

-- ---- What an event leads to gives no reading and no receipt

pub readings_behind : (outcome : Outcome) (cs : List ClockCall) → readings_among (map Correct (moves_by outcome) ++ cs) ≡ readings_among cs
readings_behind outcome cs =
    readings_among-append (map Correct (moves_by outcome)) cs ∙ ap (λ (l : List _). l ++ readings_among cs) (readings_among-moves (moves_by outcome))

pub receipts_behind : (tried : List Tried) (ls : List LinkCall) → receipts_among (map Send tried ++ ls) ≡ receipts_among ls
receipts_behind tried ls =
    receipts_among-append (map Send tried) ls ∙ ap (λ (l : List Receipt). l ++ receipts_among ls) (receipts_among-sends tried)

-- ---- The events of the member command

mutual
  -- what is woven from a turn on is what the function gives
  pub is_turns : {conf : Conf} {left : ℕ} {history : History} {cs : List ClockCall} {ws : List ℕ} {ls : List LinkCall} {es : List Event} {need : Need}
      → Weaves conf (Turns left) history cs ws ls es need → es ≡ turns_of (readings_among cs) ws (receipts_among ls)
  is_turns none = refl
  is_turns (reads s) = is_word s

  is_word : {conf : Conf} {left : ℕ} {now : ℤ} {history : History} {cs : List ClockCall} {ws : List ℕ} {ls : List LinkCall} {es : List Event} {need : Need}
      → Weaves conf (WordFor left now) history cs ws ls es need → es ≡ turns_of (now ∷ readings_among cs) ws (receipts_among ls)
  is_word none = refl
  is_word (draws s) = is_tick s

  is_tick : {conf : Conf} {outcome : Outcome} {left : ℕ} {now : ℤ} {word : ℕ} {history : History} {cs : List ClockCall} {ws : List ℕ} {ls : List LinkCall} {es : List Event} {need : Need}
      → Weaves conf (Act outcome (ReceiptNow left)) history cs ws ls es need → Tick now word ∷ es ≡ turns_of (now ∷ readings_among cs) (word ∷ ws) (receipts_among ls)
  is_tick none = refl
  is_tick (acts {outcome = o} tried are none) =
      rw (readings_behind o [], receipts_behind tried []) refl
  is_tick {now = now} {word = word} (acts {outcome = o} {cs = cs} tried are (gets {ls = ls} s)) =
      rw (readings_behind o cs, receipts_behind tried _) (is_reading s)
  is_tick {now = now} {word = word} (acts {outcome = o} {cs = cs} tried are (quiet {ls = ls} s)) =
      rw (readings_behind o cs, receipts_behind tried _) (ap (λ (l : List Event). Tick now word ∷ l) (is_turns s))
  is_tick {now = now} {word = word} (acts {outcome = o} {cs = cs} tried are (lost {ls = ls} s)) =
      rw (readings_behind o cs, receipts_behind tried _) (ap (λ (l : List Event). Tick now word ∷ l) (is_turns s))

  is_reading : {conf : Conf} {left : ℕ} {now : ℤ} {word : ℕ} {from : Addr} {bytes : List ℕ} {history : History} {cs : List ClockCall} {ws : List ℕ} {ls : List LinkCall} {es : List Event} {need : Need}
      → Weaves conf (ReadingFor left from bytes) history cs ws ls es need
      → Tick now word ∷ es ≡ turns_of (now ∷ readings_among cs) (word ∷ ws) (Got from bytes ∷ receipts_among ls)
  is_reading none = refl
  is_reading (arrives none) = refl
  is_reading {now = now} {word = word} {from = from} {bytes = bytes} (arrives {now = later} (acts {outcome = o} {cs = cs} {ls = ls} tried are s)) =
      rw (readings_behind o cs, receipts_behind tried ls) (ap (λ (l : List Event). Tick now word ∷ Arrive later from bytes ∷ l) (is_turns s))

-- and from the start of so many turns
pub is_weave : {conf : Conf} {stood : Stood} {turns : ℕ} {history : History} {cs : List ClockCall} {ws : List ℕ} {ls : List LinkCall} {es : List Event} {need : Need}
    → Weaves conf (Start stood (Turns turns)) history cs ws ls es need → es ≡ weave stood (readings_among cs) ws (receipts_among ls)
is_weave none = refl
is_weave (life none) = refl
is_weave {stood = stood} (life {now = now} (acts {outcome = o} {cs = cs} {ls = ls} tried are s)) =
    rw (readings_behind o cs, receipts_behind tried ls) (ap (λ (l : List Event). Life now stood.mark ∷ l) (is_turns s))
