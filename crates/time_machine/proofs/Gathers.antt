-- What a history leads to, event by event.
use Rattle.std.proofs.Common.{refl}
use Rattle.time_machine.specs.Laws.{LawOfMore, LawOfNone}
use Rattle.time_machine.specs.Machine.{told, outcomes, outcome_at, requests_of, moves_of, source_of}
use Rattle.time_machine.specs.Report.{report_of}
use Rattle.time_machine.specs.Growing.{Grows}
use Rattle.time_machine.specs.Words.{words}

pub more_leads : LawOfMore
unfolding outcomes requests_of moves_of report_of told outcome_at
more_leads conf history e = (refl, refl, refl, refl)

pub none_leads : LawOfNone
unfolding outcomes requests_of moves_of report_of told source_of words Grows
none_leads conf = (refl, refl, refl, refl, refl, tt)
