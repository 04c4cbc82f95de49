-- A run sends one request a turn at most.
use Rattle.std.proofs.Common.{◌≡◌, ◌+◌, ◌≤◌, ℕ, suc, ℤ, Bool, true, false, List, [], ◌∷◌, if◌then◌else◌, refl, arith}
use Rattle.edge_traits.specs.declared.datagram.Addr.{Addr}
use Rattle.edge_traits.specs.Clock.{ClockCall}
use Rattle.edge_traits.specs.Link.{LinkCall}
use Rattle.capture_fmt.specs.declared.event.Event.{Event}
use Rattle.capture_fmt.specs.declared.event.Event.TheVariants.{Life, Tick, Arrive}
use Rattle.member_run.proofs.Blocks.{sends_in}
use Rattle.run_deeds.specs.Devices.{NeedsCount}
use Rattle.run_deeds.specs.Weaving.{Need, Start, Stood, Turns, WordFor, ReceiptNow, ReadingFor, Act, Weaves, none, acts, life, reads, draws, gets, quiet, lost, arrives, followed_by}
use Rattle.time_machine.specs.declared.conf.Conf.{Conf}
use Rattle.time_machine.specs.declared.outcome.Outcome.{Outcome}
use Rattle.time_machine.specs.Events.{History}
use Rattle.time_machine.specs.Machine.{told, told_by}
use Rattle.time_machine.specs.Told.{has_sent}
use Rattle.time_machine.specs.Words.{words}
use Rattle.time_machine.proofs.Answered.{sends_so}

one_more : (b : Bool) (n : ℕ) → n + (if b then 1 else 0) ≤ 1 + n
one_more true n = omega arith
one_more false n = omega arith

none_more : (b : Bool) (n : ℕ) → b ≡ false → n + (if b then 1 else 0) ≤ n
none_more true n is = absurd (let bad : ⊥ = cc is in bad)
none_more false n is = omega arith

tick_sends : (conf : Conf) (history : History) (now : ℤ) (word : ℕ) → sends_in conf (Tick now word ∷ history) ≤ 1 + sends_in conf history
unfolding told
tick_sends conf history now word =
    one_more (has_sent (told_by conf (words conf (told conf history)) (Tick now word))) (sends_in conf history)

arrive_sends : (conf : Conf) (history : History) (now : ℤ) (from : Addr) (bytes : List ℕ) → sends_in conf (Arrive now from bytes ∷ history) ≤ sends_in conf history
unfolding told
arrive_sends conf history now from bytes =
    let w = words conf (told conf history) in
    none_more (has_sent (told_by conf w (Arrive now from bytes))) (sends_in conf history) (sends_so conf w (Arrive now from bytes))

mutual
  -- where one more count is needed, there were more turns than requests
  turns_ahead : {conf : Conf} {left : ℕ} {history : History} {cs : List ClockCall} {ws : List ℕ} {ls : List LinkCall} {es : List Event} {need : Need}
      → Weaves conf (Turns left) history cs ws ls es need → NeedsCount need → 1 + sends_in conf (followed_by history es) ≤ sends_in conf history + left
  turns_ahead none some = omega (arith, some)
  turns_ahead (reads s) some = word_ahead s some

  word_ahead : {conf : Conf} {left : ℕ} {now : ℤ} {history : History} {cs : List ClockCall} {ws : List ℕ} {ls : List LinkCall} {es : List Event} {need : Need}
      → Weaves conf (WordFor left now) history cs ws ls es need → NeedsCount need → 1 + sends_in conf (followed_by history es) ≤ sends_in conf history + suc left
  word_ahead none some = absurd some
  word_ahead (draws s) some = tick_ahead s some

  tick_ahead : {conf : Conf} {outcome : Outcome} {left : ℕ} {now : ℤ} {word : ℕ} {history : History} {cs : List ClockCall} {ws : List ℕ} {ls : List LinkCall} {es : List Event} {need : Need}
      → Weaves conf (Act outcome (ReceiptNow left)) (Tick now word ∷ history) cs ws ls es need → NeedsCount need
      → 1 + sends_in conf (followed_by (Tick now word ∷ history) es) ≤ sends_in conf history + suc left
  tick_ahead none some = absurd some
  tick_ahead (acts tried are none) some = absurd some
  tick_ahead {conf = conf} {now = now} {word = word} {history = history} (acts tried are (gets s)) some =
      omega (arith, reading_ahead s some, tick_sends conf history now word)
  tick_ahead {conf = conf} {now = now} {word = word} {history = history} (acts tried are (quiet s)) some =
      omega (arith, turns_ahead s some, tick_sends conf history now word)
  tick_ahead {conf = conf} {now = now} {word = word} {history = history} (acts tried are (lost s)) some =
      omega (arith, turns_ahead s some, tick_sends conf history now word)

  reading_ahead : {conf : Conf} {left : ℕ} {from : Addr} {bytes : List ℕ} {history : History} {cs : List ClockCall} {ws : List ℕ} {ls : List LinkCall} {es : List Event} {need : Need}
      → Weaves conf (ReadingFor left from bytes) history cs ws ls es need → NeedsCount need → 1 + sends_in conf (followed_by history es) ≤ sends_in conf history + left
  reading_ahead none some = absurd some
  reading_ahead (arrives none) some = absurd some
  reading_ahead {conf = conf} {from = from} {bytes = bytes} {history = history} (arrives {now = now} (acts tried are s)) some =
      omega (arith, turns_ahead s some, arrive_sends conf history now from bytes)

life_sends : (conf : Conf) (now : ℤ) (mark : ℕ) → sends_in conf (Life now mark ∷ []) ≡ 0
unfolding told
life_sends conf now mark = refl

pub run_ahead : {conf : Conf} {stood : Stood} {turns : ℕ} {cs : List ClockCall} {ws : List ℕ} {ls : List LinkCall} {es : List Event} {need : Need}
    → Weaves conf (Start stood (Turns turns)) [] cs ws ls es need → NeedsCount need → 1 + sends_in conf (followed_by [] es) ≤ turns
run_ahead none some = absurd some
run_ahead (life none) some = absurd some
run_ahead {conf = conf} {stood = stood} (life {now = now} (acts tried are s)) some = omega (arith, turns_ahead s some, life_sends conf now stood.mark)
