-- Turns, one after the other.
use Rattle.std.proofs.Common.{◌≡◌, ◌+◌, ◌<◌, ◌≤◌, ℕ, List, [], ◌∷◌, ◌++◌, length, length-append, refl, sym, ◌∙◌, ap, subst, arith}
use Rattle.std.specs.List.{flat_map}
use Rattle.std.proofs.lemmas.Grind.{flat_map-append}
use Rattle.std.proofs.lemmas.List.{append-nil, map-append}
use Rattle.std.proofs.lemmas.List.Elements.{All-nil, All-push}
use Rattle.base_specs.specs.Counts.{FailsTimes, Rose}
use Rattle.base_specs.proofs.Counting.{fails_more, fails_none}
use Rattle.base_specs.proofs.Telling.{grew_more, grew_none}
use Rattle.edge_traits.proofs.Clocks.{gave_more, gave_none}
use Rattle.edge_traits.proofs.Links.{failed_calls-append}
use Rattle.edge_seen.specs.Seen.{Seen}
use Rattle.key_book.specs.declared.account.Account.{Account}
use Rattle.dc_sign.specs.declared.tally.TurnOutcome.{TurnOutcome}
use Rattle.dc_sign.specs.declared.tally.ServeEnd.{ServeEnd}
use Rattle.dc_sign.specs.declared.tally.ServeWhy.{ServeWhy}
use Rattle.dc_sign.specs.declared.tally.ServeWhy.TheVariants.{Done, ClockFault}
use Rattle.dc_sign.specs.Counting.{counted}
use Rattle.dc_sign.specs.Numbers.{numbers_of}
use Rattle.dc_sign.specs.Serving.{StopsUnread, ServeEndsBy, IsTurn, Serves, Takes, Turn, link_calls, link_calls_of, outcomes_of, readings_of}
use Rattle.dc_sign.specs.Turns.{HasServed, TakesOne, TakesTurn}
use Rattle.dc_sign.proofs.Numbering.{numbers_more}

-- ---- One turn more

takes_none : (accounts : List Account) (now : Seen) → Takes accounts [] now now
takes_none accounts now = record {
  are_turns = All-nil (IsTurn accounts);
  told = grew_none now.link;
  read = gave_none now.clock;
  link_failed = fails_none now.link_faults;
  no_clock_fault = refl;
}

behind_last : {A : Type 0} (f : Turn → List A) (turns : List Turn) (turn : Turn) → flat_map f (turns ++ turn ∷ []) ≡ flat_map f turns ++ f turn
behind_last f turns turn = flat_map-append f turns (turn ∷ []) ∙ ap (λ (l : List _). flat_map f turns ++ l) (append-nil (f turn))

takes_more : (accounts : List Account) (turns : List Turn) (turn : Turn) (before mid now : Seen) → Takes accounts turns before mid → TakesTurn accounts turn mid now
    → Takes accounts (turns ++ turn ∷ []) before now
takes_more accounts turns turn before mid now first next =
    let calls : link_calls_of (turns ++ turn ∷ []) ≡ link_calls_of turns ++ link_calls turn = behind_last link_calls turns turn in
    let readings : readings_of (turns ++ turn ∷ []) ≡ readings_of turns ++ turn.readings = behind_last (λ (t : Turn). t.readings) turns turn in
    let Failed : ℕ → Type 0 = λ (n : ℕ). FailsTimes n before.link_faults now.link_faults in
    record {
      are_turns = All-push (IsTurn accounts) turns turn first.are_turns next.is_turn;
      told = rw calls (grew_more before.link mid.link now.link (link_calls_of turns) (link_calls turn) first.told next.told);
      read = rw readings (gave_more before.clock mid.clock now.clock (readings_of turns) turn.readings first.read next.read);
      link_failed = rw calls (subst Failed (sym (failed_calls-append (link_calls_of turns) (link_calls turn)))
          (fails_more _ _ before.link_faults mid.link_faults now.link_faults first.link_failed next.link_failed));
      no_clock_fault = next.no_clock_fault ∙ first.no_clock_fault;
    }

-- ---- The numbers

pub served_none : (accounts : List Account) (now : Seen) → HasServed accounts 0 now now (numbers_of [] Done)
served_none accounts now = record { taken = []; size = refl; takes = takes_none accounts now; counted = refl }

pub served_more : (accounts : List Account) (count : ℕ) (before mid now : Seen) (numbers : ServeEnd) (outcome : TurnOutcome)
    → HasServed accounts count before mid numbers → TakesOne accounts mid now outcome → HasServed accounts (count + 1) before now (counted outcome numbers)
served_more accounts count before mid now numbers outcome served one =
    let outcomes : outcomes_of (served.taken ++ one.turn ∷ []) ≡ outcomes_of served.taken ++ outcome ∷ [] =
    map-append (λ (t : Turn). t.outcome) served.taken (one.turn ∷ []) ∙ ap (λ (o : TurnOutcome). outcomes_of served.taken ++ o ∷ []) one.is in
    record {
      taken = served.taken ++ one.turn ∷ [];
      size = omega (arith, length-append served.taken (one.turn ∷ []), served.size);
      takes = takes_more accounts served.taken one.turn before mid now served.takes one.takes;
      counted = ap (counted outcome) served.counted ∙ sym (numbers_more (outcomes_of served.taken) outcome Done) ∙ ap (λ (l : List TurnOutcome). numbers_of l Done) (sym outcomes);
    }

-- ---- The end of a run

pub served_all : (accounts : List Account) (turns count : ℕ) (before now : Seen) (numbers : ServeEnd) → HasServed accounts count before now numbers
    → count ≡ turns → Serves accounts turns before now numbers
served_all accounts turns count before now numbers served all =
    let why : numbers.why ≡ Done = ap (λ (e : ServeEnd). e.why) served.counted in
    let Ends : ServeWhy → Type 0 = λ (w : ServeWhy). ServeEndsBy w turns (length served.taken) now now in
    record {
      taken = served.taken;
      behind = now;
      takes = served.takes;
      ends = subst Ends (sym why) (served.size ∙ all, refl);
      numbers = served.counted ∙ ap (numbers_of (outcomes_of served.taken)) (sym why);
    }

pub broke_off : (accounts : List Account) (turns count : ℕ) (before mid now : Seen) (numbers : ServeEnd) → HasServed accounts count before mid numbers
    → count < turns → StopsUnread mid now → Serves accounts turns before now (record numbers { why = ClockFault })
broke_off accounts turns count before mid now numbers served fewer breaks = record {
  taken = served.taken;
  behind = mid;
  takes = served.takes;
  ends = (omega (arith, served.size, fewer), breaks);
  numbers = ap (λ (e : ServeEnd). record e { why = ClockFault }) served.counted;
}

-- what a run says of the counts
link_ends : (why : ServeWhy) (turns taken : ℕ) (before now : Seen) → ServeEndsBy why turns taken before now → before.link_faults ≤ now.link_faults
link_ends Done turns taken before now ends = omega (arith, ap (λ (s : Seen). s.link_faults) ends.1)
link_ends ClockFault turns taken before now ends = omega (arith, ends.1.no_link_fault)

pub link_count : (accounts : List Account) (turns : ℕ) (before now : Seen) (result : ServeEnd) → Serves accounts turns before now result → before.link_faults ≤ now.link_faults
link_count accounts turns before now result serves =
    omega (arith, serves.takes.link_failed.later, link_ends result.why turns (length serves.taken) serves.behind now serves.ends)

clock_ends : (why : ServeWhy) (turns taken : ℕ) (before now : Seen) → ServeEndsBy why turns taken before now → before.clock_faults ≤ now.clock_faults
clock_ends Done turns taken before now ends = omega (arith, ap (λ (s : Seen). s.clock_faults) ends.1)
clock_ends ClockFault turns taken before now ends = ends.1.clock_failed.later

pub clock_count : (accounts : List Account) (turns : ℕ) (before now : Seen) (result : ServeEnd) → Serves accounts turns before now result → before.clock_faults ≤ now.clock_faults
clock_count accounts turns before now result serves =
    omega (arith, serves.takes.no_clock_fault, clock_ends result.why turns (length serves.taken) serves.behind now serves.ends)

-- a run that ended before its last turn has a clock whose count rose
clock_rose : (why : ServeWhy) (turns taken : ℕ) (before now : Seen) → ServeEndsBy why turns taken before now → why ≡ ClockFault → Rose before.clock_faults now.clock_faults
clock_rose Done turns taken before now ends is = cc is
clock_rose ClockFault turns taken before now ends is = omega (arith, ends.1.clock_failed.once)

pub cause : (accounts : List Account) (turns : ℕ) (before now : Seen) (result : ServeEnd) → Serves accounts turns before now result
    → result.why ≡ ClockFault → Rose before.clock_faults now.clock_faults
cause accounts turns before now result serves is =
    let Counts : ℕ → Type 0 = λ (n : ℕ). Rose n now.clock_faults in
    subst Counts serves.takes.no_clock_fault (clock_rose result.why turns (length serves.taken) serves.behind now serves.ends is)

one_of_two : (why : ServeWhy) → ¬ (why ≡ ClockFault) → why ≡ Done
one_of_two Done other = refl
one_of_two ClockFault other = absurd (other refl)

pub complete : (accounts : List Account) (turns : ℕ) (before now : Seen) (result : ServeEnd) → Serves accounts turns before now result
    → ¬ Rose before.clock_faults now.clock_faults → result.why ≡ Done
complete accounts turns before now result serves none = one_of_two result.why (λ is. none (cause accounts turns before now result serves is))
