-- The history of a world grows, and its member has begun a life.
use Rattle.std.proofs.Common.{◌≡◌, ◌≤◌, ◌∷◌, refl, subst, sym, arith}
use Rattle.std.specs.Prelude.{IsSome}
use Rattle.capture_fmt.specs.declared.event.Event.{Event}
use Rattle.capture_fmt.specs.declared.event.Event.TheVariants.{Life, Tick, Resync, Arrive}
use Rattle.time_machine.specs.declared.outcome.Outcome.{Outcome}
use Rattle.time_machine.specs.declared.outcome.Outcome.TheVariants.{Started, Idle, Sent, Moved, Refused}
use Rattle.time_machine.specs.Events.{History}
use Rattle.time_machine.specs.Growing.{MayFollow, Grows}
use Rattle.time_machine.specs.Words.{words}
use Rattle.time_machine.specs.Machine.{told}
use Rattle.time_machine.proofs.Counting.{sound_told}
use Rattle.sntp_world.specs.Setting.{world_conf}
use Rattle.sntp_world.specs.State.{State, first_state}
use Rattle.sntp_world.specs.Steps.{Leaves, next_mark, words_in}

-- the history grows, and a Life came
pub record Lives (w : State) : Type 0 where
  pub grows : Grows world_conf w.history
  pub mark : IsSome (words_in w).mark

-- what the event leads to, it is the last event of the history
pub history_after : (w : State) (e : Event) (o : Outcome) (now : State) → Leaves w e o now → now.history ≡ e ∷ w.history
history_after w e (Sent to count bytes) now is = cc
history_after w (Arrive at from reply) (Moved count offset how) now is = let same = is.2 in cc
history_after w (Life at mark) (Moved count offset how) now is = absurd is
history_after w (Tick at word) (Moved count offset how) now is = absurd is
history_after w (Resync at word flags) (Moved count offset how) now is = absurd is
history_after w e (Started mark) now is = cc
history_after w e Idle now is = cc
history_after w e (Refused reason) now is = cc

-- a Life's mark stays
mark_after : (history : History) (e : Event) → IsSome (words world_conf (told world_conf history)).mark → IsSome (words world_conf (told world_conf (e ∷ history))).mark
unfolding words told
mark_after history (Life now mark) is = refl
mark_after history (Tick now word) is = is
mark_after history (Resync now word flags) is = is
mark_after history (Arrive now from bytes) is = is

grown : (history : History) (e : Event) → Grows world_conf history → MayFollow world_conf (words world_conf (told world_conf history)) e → Grows world_conf (e ∷ history)
unfolding Grows
grown history e grows follows = (grows, follows)

pub lives_after : (w : State) (e : Event) (o : Outcome) (now : State) → Lives w → MayFollow world_conf (words_in w) e → Leaves w e o now → Lives now
lives_after w e o now lives follows is =
    let same = sym (history_after w e o now is) in
    record {
      grows = subst (λ (h : History). Grows world_conf h) same (grown w.history e lives.grows follows);
      mark = subst (λ (h : History). IsSome (words world_conf (told world_conf h)).mark) same (mark_after w.history e lives.mark);
    }

-- at first the member has begun a life
pub lives_first : Lives first_state
unfolding Grows words told
lives_first = record { grows = (tt, omega arith); mark = refl }

-- all counts of a life that ends are at most the mark of the next one
pub may_restart : (w : State) → Lives w → (words_in w).greatest ≤ next_mark (words_in w)
may_restart w lives =
    let counted = (sound_told world_conf w.history lives.grows).counted in
    omega arith
