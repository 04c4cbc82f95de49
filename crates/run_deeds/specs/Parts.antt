-- A part of a run, whichever of its calls ends it.
use Rattle.std.specs.Prelude.{◌≡◌, ℕ, Bool, true, false, List, length, map, flat_map, Result, Ok, Err}
use Rattle.std.specs.List.{count_by}
use Rattle.edge_traits.specs.declared.link.Receipt.{Receipt}
use Rattle.edge_traits.specs.declared.link.Receipt.TheVariants.{Got, Quiet, Failed}
use Rattle.edge_traits.specs.Link.{LinkCall, failed_calls, receipts_among}
use Rattle.edge_seen.specs.Seen.{Seen}
use Rattle.capture_fmt.specs.declared.event.Event.{Event}
use Rattle.time_machine.specs.declared.conf.Conf.{Conf}
use Rattle.time_machine.specs.Events.{History}
use Rattle.sntp_core.specs.declared.member.Member.{Member}
use Rattle.sntp_core.specs.Standing.{StandsForHistory, conf_of}
use Rattle.run_deeds.specs.declared.life_end.LifeEnd.{LifeEnd}
use Rattle.run_deeds.specs.declared.life_end.Why.{Why}
use Rattle.run_deeds.specs.declared.life_end.Why.TheVariants.{Done}
use Rattle.time_machine.specs.Growing.{Grows}
use Rattle.time_machine.specs.Machine.{told}
use Rattle.run_deeds.specs.Weaving.{Need, Weaves}
use Rattle.run_deeds.specs.Counting.{more}
use Rattle.run_deeds.specs.Marks.{Reserved}
use Rattle.run_deeds.specs.Deeds.{Deed, Take, Ending, along, history_after, posted_in, moves_in, reasons_in, ticks_in, all_done, events_given}
use Rattle.run_deeds.specs.Devices.{Given, Does, EndsAtLast, LifeEndsBy, faults_of}

-- nothing came
abbrev pub is_quiet : Receipt → Bool
is_quiet (Got from bytes) = false
is_quiet Quiet = true
is_quiet Failed = false

-- The numbers of a run go up by what these deeds, after this history, and these calls of the link come to.
pub record Tallies (conf : Conf) (history : History) (deeds : List Deed) (calls : List LinkCall) (old new : LifeEnd) : Type 0 where
  pub sent : new.sent ≡ more old.sent (length (along (posted_in conf) history deeds))
  pub moved : new.moved ≡ more old.moved (length (along (moves_in conf) history deeds))
  pub refused : new.refused ≡ more old.refused (length (along (reasons_in conf) history deeds))
  pub quiet : new.quiet ≡ more old.quiet (count_by is_quiet (receipts_among calls))
  pub lost : new.lost ≡ more old.lost (failed_calls calls)
  pub turns : new.turns ≡ more old.turns (length (flat_map ticks_in deeds))
  pub why : new.why ≡ old.why

-- how a call that gives something else than an end reads as one
abbrev pub why_of : {A : Type 0} → Result A Why → Why
why_of (Ok given) = Done
why_of (Err why) = why

-- From one need to another, after a history: what the devices gave is woven into events, and each is taken in its turn.
-- A part that ends well needs this next; any other ends at a call that was due. The keeper's mark is kept before it and
-- kept' behind it.
pub record Runs (conf : Conf) (from next : Need) (history : History) (before now : Seen) (kept kept' : ℕ) (old new : LifeEnd) (why : Why) : Type 0 where
  pub given : Given
  pub deeds : List Deed
  pub ending : Ending
  pub need : Need
  pub weaves : Weaves conf from history given.clock given.words given.link (events_given deeds ending) need
  pub does : Does conf history given deeds ending before now
  -- no line is printed that is not an event's
  pub taken : List Event
  pub takes : all_done deeds ending ≡ map Take taken
  pub grows : Grows conf (history_after history (all_done deeds ending))
  pub tallies : Tallies conf history (all_done deeds ending) given.link old new
  pub ends : LifeEndsBy why ending need (faults_of before) (faults_of now)
  -- after a line that could not be written no call of the link came
  pub last_call : EndsAtLast ending given.link
  pub well : why ≡ Done → need ≡ next
  -- the counts reserved are those that were due
  pub reserved : why ≡ Done → Reserved kept (told conf history)
      → Reserved kept' (told conf (history_after history (all_done deeds ending)))

-- the same with the member, which stands for all events that were taken
pub record Part (conf : Conf) (from next : Need) (history : History) (before now : Seen) (member : Member) (kept kept' : ℕ) (old new : LifeEnd) (why : Why) : Type 0 where
  pub runs : Runs conf from next history before now kept kept' old new why
  pub is_set : conf_of member ≡ conf
  pub stands : StandsForHistory member (history_after history (all_done runs.deeds runs.ending))
