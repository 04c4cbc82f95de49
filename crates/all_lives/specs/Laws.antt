-- What holds of all runs on one disk.
use Rattle.std.specs.Prelude.{◌≡◌, ◌≢◌, ◌<◌, ℕ, List, [], ◌∷◌, ◌++◌, map, ℤ, ⊤}
use Rattle.std.specs.List.{AllByRecursion, Contains}
use Rattle.edge_traits.specs.declared.datagram.Addr.{Addr}
use Rattle.ntp_wire.specs.Fields.{originate_of}
use Rattle.slot_disk.specs.Told.{DiskTold}
use Rattle.time_machine.specs.declared.conf.Conf.{Conf}
use Rattle.time_machine.specs.declared.outcome.Request.{Request}
use Rattle.time_machine.specs.Entries.{gather}
use Rattle.time_machine.specs.Events.{History}
use Rattle.time_machine.specs.Growing.{Grows}
use Rattle.time_machine.specs.Laws.{AnswersNone, CountsRise, MovesOnce}
use Rattle.time_machine.specs.Machine.{told, outcomes, requests_of, moves_of}
use Rattle.time_machine.specs.Report.{report_of}
use Rattle.time_machine.specs.Words.{all_sent}
use Rattle.all_lives.specs.Runs.{Run, AreSuccessive, HaveConf, all_told, all_tried, history_of, joined_history, seconds_of}

-- each number is above all those before it
abbrev pub Rise : List ℕ → Type 0
Rise [] = ⊤
Rise (n ∷ later) = AllByRecursion (λ m. n < m) later × Rise later

-- Over all runs the transmit timestamps of the sends that were tried rise, whatever the settings of each. So none is sent
-- twice.
abbrev pub LawOfStamps : {D : Type 0} → (D → DiskTold) → Type 0
LawOfStamps tells = (runs : List (Run tells)) → AreSuccessive runs → Rise (map seconds_of (all_tried runs))

-- Over all runs each count that was sent is above all those that were sent before it, in the words of the time machine
abbrev pub LawOfCounts : {D : Type 0} → (D → DiskTold) → Type 0
LawOfCounts tells = (runs : List (Run tells)) → AreSuccessive runs → CountsRise (all_told runs)

-- over all runs each request corrects the clock at most once, whatever the settings of each
abbrev pub LawOfMoves : {D : Type 0} → (D → DiskTold) → Type 0
LawOfMoves tells = (runs : List (Run tells)) → AreSuccessive runs → MovesOnce (all_told runs)

-- A reply to a request of an earlier run, with whatever word, is refused in a later one, and moves and changes nothing.
-- The reason is NoRequest if and only if none of the four before it applies.
abbrev pub LawOfEarlier : {D : Type 0} → (D → DiskTold) → Type 0
LawOfEarlier tells = (run : Run tells) (earlier : List (Run tells)) → AreSuccessive (run ∷ earlier)
    → (later before : History) → history_of run ≡ later ++ before → before ≢ []
    → (now : ℤ) (from : Addr) (bytes : List ℕ) (r : Request)
    → Contains (all_sent (all_told earlier)) r → (originate_of bytes).seconds ≡ r.count
    → AnswersNone run.conf before now from bytes

-- Where all runs have the same settings, their histories, joined, are a history that grows. Its events lead to what they
-- lead to in their own runs.
pub record Joins {D : Type 0} {tells : D → DiskTold} (conf : Conf) (runs : List (Run tells)) : Type 0 where
  pub told_so : told conf (joined_history runs) ≡ all_told runs
  pub grows : Grows conf (joined_history runs)
  pub outcomes_are : outcomes conf (joined_history runs) ≡ gather (λ run. outcomes conf (history_of run)) runs
  pub requests : requests_of conf (joined_history runs) ≡ gather (λ run. requests_of conf (history_of run)) runs
  pub moves : moves_of conf (joined_history runs) ≡ gather (λ run. moves_of conf (history_of run)) runs
  pub report : report_of conf (joined_history runs) ≡ gather (λ run. report_of conf (history_of run)) runs

abbrev pub LawOfJoined : {D : Type 0} → (D → DiskTold) → Type 0
LawOfJoined tells = (conf : Conf) (runs : List (Run tells)) → AreSuccessive runs → HaveConf conf runs → Joins conf runs
