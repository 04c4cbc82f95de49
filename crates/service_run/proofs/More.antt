-- Calls that come one after the other.
use Rattle.std.proofs.Common.{◌≡◌, ℕ, zero, suc, ◌==◌, Bool, true, false, List, ◌++◌, refl, ap, subst, if◌then◌else◌}
use Rattle.std.specs.Prelude.{is_some}
use Rattle.edge_traits.specs.Clock.{ClockCall}
use Rattle.edge_traits.specs.Link.{LinkCall}
use Rattle.edge_seen.specs.Seen.{Seen}
use Rattle.capture_fmt.specs.declared.event.Event.{Event}
use Rattle.capture_fmt.specs.declared.event.Event.TheVariants.{Arrive, Resync}
use Rattle.time_machine.specs.declared.conf.Conf.{Conf}
use Rattle.time_machine.specs.declared.outcome.Outcome.{Outcome}
use Rattle.time_machine.specs.Events.{History}
use Rattle.time_machine.specs.Machine.{outcome_at}
use Rattle.time_machine.specs.Told.{offset_moved}
use Rattle.sntp_core.specs.declared.member.Member.{Member}
use Rattle.run_deeds.specs.declared.life_end.LifeEnd.{LifeEnd}
use Rattle.run_deeds.specs.declared.life_end.Why.TheVariants.{Done}
use Rattle.run_deeds.specs.Parts.{Part, Runs}
use Rattle.run_deeds.specs.Weaving.{Need, Start, Turns, WordFor, ReceiptNow, ReadingFor, Calls, CallWord, Round, RoundReading, Act, SyncCall, Weaves, none, acts, life, reads, draws, gets, quiet, lost, arrives, call_reads, call_draws, round_gets, round_quiet, round_lost, round_arrives, behind_arrival, behind_request, round_of}

-- the same with further calls behind those that are left
abbrev pub more_calls : List SyncCall → Need → Need
more_calls later (Start stood next) = Start stood (more_calls later next)
more_calls later (Turns left) = Turns left
more_calls later (WordFor left now) = WordFor left now
more_calls later (ReceiptNow left) = ReceiptNow left
more_calls later (ReadingFor left from bytes) = ReadingFor left from bytes
more_calls later (Calls left) = Calls (left ++ later)
more_calls later (CallWord call now left) = CallWord call now (left ++ later)
more_calls later (Round receipts left) = Round receipts (left ++ later)
more_calls later (RoundReading receipts from bytes left) = RoundReading receipts from bytes (left ++ later)
more_calls later (Act outcome behind) = Act outcome (more_calls later behind)

more_round : (later : List SyncCall) (receipts : ℕ) (left : List SyncCall) → more_calls later (round_of receipts left) ≡ round_of receipts (left ++ later)
more_round later zero left = refl
more_round later (suc more) left = refl

more_asked : (later left : List SyncCall) (b : Bool) → more_calls later (if b then Calls left else Round 16 left) ≡ (if b then Calls (left ++ later) else Round 16 (left ++ later))
more_asked later left true = refl
more_asked later left false = refl

more_request : (later : List SyncCall) (wait : ℕ) (left : List SyncCall) → more_calls later (behind_request wait left) ≡ behind_request wait (left ++ later)
more_request later wait left = more_asked later left (wait == 0)

more_moved : (later : List SyncCall) (receipts : ℕ) (left : List SyncCall) (b : Bool)
    → more_calls later (if b then Calls left else round_of receipts left) ≡ (if b then Calls (left ++ later) else round_of receipts (left ++ later))
more_moved later receipts left true = refl
more_moved later receipts left false = more_round later receipts left

more_arrival : (later : List SyncCall) (receipts : ℕ) (outcome : Outcome) (left : List SyncCall)
    → more_calls later (behind_arrival receipts outcome left) ≡ behind_arrival receipts outcome (left ++ later)
more_arrival later receipts outcome left = more_moved later receipts left (is_some (offset_moved outcome))

under : {conf : Conf} {from same : Need} {history : History} {cs : List ClockCall} {ws : List ℕ} {ls : List LinkCall} {es : List Event} {need : Need}
    → from ≡ same → Weaves conf from history cs ws ls es need → Weaves conf same history cs ws ls es need
under {conf = conf} {history = history} {cs = cs} {ws = ws} {ls = ls} {es = es} {need = need} is weaves = subst (λ (n : Need). Weaves conf n history cs ws ls es need) is weaves

-- what is woven is woven with further calls behind it
pub weaves_more : {conf : Conf} {from : Need} {history : History} {cs : List ClockCall} {ws : List ℕ} {ls : List LinkCall} {es : List Event} {need : Need} (later : List SyncCall)
    → Weaves conf from history cs ws ls es need → Weaves conf (more_calls later from) history cs ws ls es (more_calls later need)
weaves_more later none = none
weaves_more later (acts tried are rest) = acts tried are (weaves_more later rest)
weaves_more later (life rest) = life (weaves_more later rest)
weaves_more later (reads rest) = reads (weaves_more later rest)
weaves_more later (draws rest) = draws (weaves_more later rest)
weaves_more later (gets rest) = gets (weaves_more later rest)
weaves_more later (quiet rest) = quiet (weaves_more later rest)
weaves_more later (lost rest) = lost (weaves_more later rest)
weaves_more later (arrives rest) = arrives (weaves_more later rest)
weaves_more later (call_reads rest) = call_reads (weaves_more later rest)
weaves_more {conf = conf} {history = history} later (call_draws {call = call} {left = left} {now = now} {word = word} rest) =
    call_draws (under (ap (Act (outcome_at conf history (Resync now word call.flags))) (more_request later call.wait left)) (weaves_more later rest))
weaves_more later (round_gets rest) = round_gets (weaves_more later rest)
weaves_more later (round_quiet rest) = round_quiet (weaves_more later rest)
weaves_more later (round_lost {receipts = receipts} {left = left} rest) = round_lost (under (more_round later receipts left) (weaves_more later rest))
weaves_more {conf = conf} {history = history} later (round_arrives {receipts = receipts} {left = left} {from = sender} {bytes = bytes} {now = now} rest) =
    let outcome = outcome_at conf history (Arrive now sender bytes) in
    round_arrives (under (ap (Act outcome) (more_arrival later receipts outcome left)) (weaves_more later rest))

-- a part that ended well
unfoldable pub runs_more : (conf : Conf) (later : List SyncCall) (from next : Need) (history : History) (a b : Seen) (kept kept' : ℕ) (old new : LifeEnd)
    → Runs conf from next history a b kept kept' old new Done → Runs conf (more_calls later from) (more_calls later next) history a b kept kept' old new Done
runs_more conf later from next history a b kept kept' old new r = record {
  given = r.given;
  deeds = r.deeds;
  ending = r.ending;
  need = more_calls later r.need;
  weaves = weaves_more later r.weaves;
  does = r.does;
  taken = r.taken;
  takes = r.takes;
  grows = r.grows;
  tallies = r.tallies;
  ends = r.ends;
  last_call = r.last_call;
  well = λ is. ap (more_calls later) (r.well is);
  reserved = r.reserved;
}

unfoldable pub part_more : (conf : Conf) (later : List SyncCall) (from next : Need) (history : History) (a b : Seen) (member : Member) (kept kept' : ℕ) (old new : LifeEnd)
    → Part conf from next history a b member kept kept' old new Done → Part conf (more_calls later from) (more_calls later next) history a b member kept kept' old new Done
unfolding runs_more
part_more conf later from next history a b member kept kept' old new one = record {
  runs = runs_more conf later from next history a b kept kept' old new one.runs;
  is_set = one.is_set;
  stands = one.stands;
}
