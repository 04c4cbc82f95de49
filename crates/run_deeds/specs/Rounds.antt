-- What a call that asks for a request answers.
use Rattle.std.specs.Prelude.{◌≡◌, ℕ, Bool, true, false, ◌==◌, if◌then◌else◌, List, [], ◌∷◌, is_some, bit_and, Result, IfOk}
use Rattle.std.specs.List.{count_by}
use Rattle.edge_seen.specs.Seen.{Seen}
use Rattle.time_machine.specs.declared.conf.Conf.{Conf}
use Rattle.time_machine.specs.declared.outcome.Outcome.{Outcome}
use Rattle.time_machine.specs.declared.outcome.Outcome.TheVariants.{Refused}
use Rattle.time_machine.specs.declared.outcome.Reason.{Reason}
use Rattle.time_machine.specs.declared.outcome.Reason.TheVariants.{TooBig}
use Rattle.time_machine.specs.Events.{History}
use Rattle.time_machine.specs.Told.{offset_moved}
use Rattle.time_machine.specs.Machine.{outcome_at}
use Rattle.sntp_core.specs.declared.member.Member.{Member}
use Rattle.run_deeds.specs.declared.life_end.LifeEnd.{LifeEnd}
use Rattle.run_deeds.specs.declared.life_end.Why.{Why}
use Rattle.run_deeds.specs.Weaving.{Calls, Round, one_call}
use Rattle.run_deeds.specs.Deeds.{Deed, Take, Print, along}
use Rattle.run_deeds.specs.Parts.{Part, why_of}

-- a reply was accepted
abbrev pub is_moved : Outcome → Bool
is_moved outcome = is_some (offset_moved outcome)

-- the offset is past its limit
abbrev pub is_big : Reason → Bool
is_big TooBig = true
is_big _ = false

-- a reply was refused for its offset alone
abbrev pub is_too_big : Outcome → Bool
is_too_big (Refused reason) = is_big reason
is_too_big _ = false

-- what came of the event that is taken
abbrev pub outcomes_in : Conf → History → Deed → List Outcome
outcomes_in conf history (Take event) = outcome_at conf history event ∷ []
outcomes_in conf history (Print line) = []

-- the result of a round: 0 where a reply was accepted, 3 where none was and one was refused as too big, and else 1
abbrev pub round_result : List Outcome → ℕ
round_result outcomes =
    if count_by is_moved outcomes == 0 then (if count_by is_too_big outcomes == 0 then 1 else 3) else 0

-- the result of a call: that of its round, or 0 where it doesn't wait or isn't asked for the result (flag 2)
abbrev pub result_of : (wait flags : ℕ) → List Outcome → ℕ
result_of wait flags outcomes =
    if wait == 0 then 0 else if bit_and flags 2 == 0 then 0 else round_result outcomes

-- a round and its result
pub record RoundAnswers (conf : Conf) (history : History) (before now : Seen) (member : Member) (kept : ℕ) (old new : LifeEnd) (result : Result ℕ Why) : Type 0 where
  pub part : Part conf (Round 16 []) (Calls []) history before now member kept kept old new (why_of result)
  pub answer : IfOk result (λ n. n ≡ round_result (along (outcomes_in conf) history part.runs.deeds))

-- a call's part of a run, and its result
pub record Answers (conf : Conf) (wait flags : ℕ) (history : History) (before now : Seen) (member : Member) (kept kept' : ℕ) (old new : LifeEnd) (result : Result ℕ Why) : Type 0 where
  pub part : Part conf (one_call wait flags) (Calls []) history before now member kept kept' old new (why_of result)
  pub answer : IfOk result (λ n. n ≡ result_of wait flags (along (outcomes_in conf) history part.runs.deeds))
