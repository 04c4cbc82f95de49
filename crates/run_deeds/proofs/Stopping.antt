-- Parts of a run that end before an event is taken.
use Rattle.std.proofs.Common.{◌≢◌, ℕ, List, [], Option, refl}
use Rattle.edge_traits.specs.Clock.{ClockCall}
use Rattle.edge_traits.specs.Link.{LinkCall}
use Rattle.time_machine.specs.declared.conf.Conf.{Conf}
use Rattle.time_machine.specs.Events.{History}
use Rattle.time_machine.specs.Growing.{Grows}
use Rattle.run_deeds.specs.declared.life_end.LifeEnd.{LifeEnd}
use Rattle.run_deeds.specs.declared.life_end.Why.{Why}
use Rattle.run_deeds.specs.declared.life_end.Why.TheVariants.{Done}
use Rattle.run_deeds.specs.Weaving.{Need, Weaves}
use Rattle.run_deeds.specs.Deeds.{Whole}
use Rattle.edge_seen.specs.Seen.{Seen}
use Rattle.run_deeds.specs.Devices.{Does, Faults, Given, LifeEndsBy, nothing, living, faults_of}
use Rattle.run_deeds.specs.Parts.{Runs, Tallies}
use Rattle.run_deeds.proofs.Doing.{does_none}

-- nothing was counted
pub tallies_none : (conf : Conf) (history : History) (end : LifeEnd) → Tallies conf history [] [] end end
tallies_none conf history end = record { sent = refl; moved = refl; refused = refl; quiet = refl; lost = refl; turns = refl; why = refl }

-- where only counts of faults changed, nothing was given or done
pub does_still : (others : Seen) (conf : Conf) (history : History) (link : Option (List LinkCall)) (clock : Option (List ClockCall)) (words capture out : Option (List ℕ)) (link_faults : ℕ) (before now : Faults)
    → Does conf history nothing [] Whole (living others link clock words capture out link_faults before) (living others link clock words capture out link_faults now)
does_still others conf history link clock words capture out link_faults before now =
    let same = does_none conf history (living others link clock words capture out link_faults before) in
    record {
      link = same.link;
      requests = same.requests;
      clock = same.clock;
      moves = same.moves;
      words = same.words;
      fit = same.fit;
      has_line = same.has_line;
      capture = same.capture;
      out = same.out;
      link_failed = same.link_failed;
    }

-- a part that ends in a fault before an event is taken, where this was given and this is needed next
abbrev pub runs_stop : (conf : Conf) (from need next : Need) (history : History) (given : Given) (before now : Seen) (kept kept' : ℕ) (end : LifeEnd) (why : Why)
    → why ≢ Done → Grows conf history → Tallies conf history [] given.link end end
    → Weaves conf from history given.clock given.words given.link [] need → Does conf history given [] Whole before now
    → LifeEndsBy why Whole need (faults_of before) (faults_of now) → Runs conf from next history before now kept kept' end end why
runs_stop conf from need next history given before now kept kept' end why not grows counted weaves does ends = record {
  given = given;
  deeds = [];
  ending = Whole;
  need = need;
  weaves = weaves;
  does = does;
  taken = [];
  takes = refl;
  grows = grows;
  tallies = counted;
  ends = ends;
  last_call = tt;
  well = λ is. absurd (not is);
  reserved = λ is. absurd (not is);
}
