-- What an event does to the counts that a member keeps.
use Rattle.std.proofs.Common.{◌≡◌, ◌<◌, ◌≤◌, ◌+◌, ◌^◌, ℕ, ℤ, Bool, true, false, if◌then◌else◌, List, ◌∷◌, IsSome, IsTrue, refl, sym, ◌∙◌, ap, subst, arith}
use Rattle.std.proofs.lemmas.Bool.{false≢true}
use Rattle.edge_traits.specs.declared.datagram.Addr.{Addr}
use Rattle.capture_fmt.specs.declared.event.Event.{Event}
use Rattle.capture_fmt.specs.declared.event.Event.TheVariants.{Life, Tick, Resync, Arrive}
use Rattle.time_machine.specs.declared.conf.Conf.{Conf}
use Rattle.time_machine.specs.declared.outcome.How.{How}
use Rattle.time_machine.specs.declared.outcome.Outcome.{Outcome}
use Rattle.time_machine.specs.declared.outcome.Outcome.TheVariants.{Idle}
use Rattle.time_machine.specs.declared.outcome.Reason.{Reason}
use Rattle.time_machine.specs.Events.{History, is_reset}
use Rattle.time_machine.specs.Words.{Words, words}
use Rattle.time_machine.specs.Machine.{told, is_change, is_due, outcome_by, request_as}
use Rattle.time_machine.specs.Growing.{MayFollow}
use Rattle.time_machine.specs.Kept.{kept}
use Rattle.time_machine.specs.After.{after, after_arrival, after_send}
use Rattle.time_machine.proofs.After.{verdict_cases, words_after}
use Rattle.sntp_core.specs.declared.member.Member.{Member}
use Rattle.sntp_core.specs.Standing.{StandsForHistory, conf_of, words_of}
use Rattle.run_deeds.specs.Marks.{asks, last_count}
use Rattle.member_run.specs.Taking.{last_after}

-- what a member keeps after one more event
pub words_step : (m m' : Member) (history : History) (e : Event) → StandsForHistory m history → StandsForHistory m' (e ∷ history)
    → conf_of m' ≡ conf_of m → words_of m' ≡ after (conf_of m) (words_of m) e
unfolding told
words_step m m' history e s s' same =
    let P : Conf → Type 0 = λ (conf : Conf). words_of m' ≡ kept conf (words conf (told conf (e ∷ history))) in
    subst P same s'.keeps ∙ words_after (conf_of m) (told (conf_of m) history) e ∙ ap (λ (w : Words). after (conf_of m) w e) (sym s.keeps)

-- the last count goes up by one at most, and is the greatest
pub record CountsOn (w : Words) (old new : ℕ) : Type 0 where
  pub begun : IsSome w.mark
  pub last : new ≡ last_count w
  pub greatest : w.greatest ≤ new
  pub rises : old ≤ new
  pub once : new ≤ old + 1

sent_counts : (conf : Conf) (w : Words) (resets changes : Bool) (now : ℤ) (word last : ℕ) → IsSome w.mark → last ≡ last_count w → w.greatest ≤ last
    → CountsOn (after_send conf w resets changes now word) last (last_after (request_as conf w resets changes word) last)
sent_counts conf w resets changes now word last begun is greatest = record {
  begun = begun;
  last = omega arith;
  greatest = omega (arith, is, greatest);
  rises = omega (arith, is);
  once = omega (arith, is);
}

same_counts : (w : Words) (last : ℕ) → IsSome w.mark → last ≡ last_count w → w.greatest ≤ last → CountsOn w last last
same_counts w last begun is greatest = record { begun = begun; last = is; greatest = greatest; rises = omega arith; once = omega arith }

tick_by : (conf : Conf) (w : Words) (due changes : Bool) (now : ℤ) (word last : ℕ) → IsSome w.mark → last ≡ last_count w → w.greatest ≤ last
    → CountsOn (if due then after_send conf w false changes now word else w) last (last_after (if due then request_as conf w false changes word else Idle) last)
tick_by conf w true changes now word last begun is greatest = sent_counts conf w false changes now word last begun is greatest
tick_by conf w false changes now word last begun is greatest = same_counts w last begun is greatest

pub tick_counts : (conf : Conf) (w : Words) (now : ℤ) (word last : ℕ) → IsSome w.mark → last ≡ last_count w → w.greatest ≤ last
    → CountsOn (after conf w (Tick now word)) last (last_after (outcome_by conf w (Tick now word)) last)
tick_counts conf w now word last begun is greatest = tick_by conf w (is_due w now) (is_change w (Tick now word)) now word last begun is greatest

pub resync_counts : (conf : Conf) (w : Words) (now : ℤ) (word flags last : ℕ) → IsSome w.mark → last ≡ last_count w → w.greatest ≤ last
    → CountsOn (after conf w (Resync now word flags)) last (last_after (outcome_by conf w (Resync now word flags)) last)
resync_counts conf w now word flags last begun is greatest =
    sent_counts conf w (is_reset (Resync now word flags)) (is_change w (Resync now word flags)) now word last begun is greatest

-- so does each event for which a count has to be there
pub asks_counts : (conf : Conf) (w : Words) (e : Event) (last : ℕ) → IsTrue (asks e) → IsSome w.mark → last ≡ last_count w → w.greatest ≤ last
    → CountsOn (after conf w e) last (last_after (outcome_by conf w e) last)
asks_counts conf w (Life now mark) last is begun known greatest = absurd (false≢true is)
asks_counts conf w (Tick now word) last is begun known greatest = tick_counts conf w now word last begun known greatest
asks_counts conf w (Resync now word flags) last is begun known greatest = resync_counts conf w now word flags last begun known greatest
asks_counts conf w (Arrive now from bytes) last is begun known greatest = absurd (false≢true is)

-- it may come where a count is left
pub asks_follow : (conf : Conf) (w : Words) (e : Event) (last kept : ℕ) → IsTrue (asks e) → IsSome w.mark → last ≡ last_count w → last < kept → kept < 2 ^ 32 → MayFollow conf w e
asks_follow conf w (Life now mark) last kept is begun known room fits = absurd (false≢true is)
asks_follow conf w (Tick now word) last kept is begun known room fits = (begun, omega (arith, known, room, fits))
asks_follow conf w (Resync now word flags) last kept is begun known room fits = (begun, omega (arith, known, room, fits))
asks_follow conf w (Arrive now from bytes) last kept is begun known room fits = absurd (false≢true is)

-- an arrival changes no count
pub record SameCounts (w w' : Words) : Type 0 where
  pub mark : w'.mark ≡ w.mark
  pub sent : w'.sent ≡ w.sent
  pub greatest : w'.greatest ≡ w.greatest

pub arrive_same : (conf : Conf) (w : Words) (now : ℤ) (from : Addr) (bytes : List ℕ) → SameCounts w (after conf w (Arrive now from bytes))
arrive_same conf w now from bytes =
    verdict_cases (λ (o : Outcome). SameCounts w (after_arrival conf w now o)) (λ (reason : Reason). record { mark = refl; sent = refl; greatest = refl })
    conf w now from bytes (λ r is (offset : ℤ) (how : How). record { mark = refl; sent = refl; greatest = refl })

pub arrive_last : (conf : Conf) (w : Words) (now : ℤ) (from : Addr) (bytes : List ℕ) (last : ℕ) → last_after (outcome_by conf w (Arrive now from bytes)) last ≡ last
arrive_last conf w now from bytes last =
    verdict_cases (λ (o : Outcome). last_after o last ≡ last) (λ (reason : Reason). refl)
    conf w now from bytes (λ r is (offset : ℤ) (how : How). refl)
