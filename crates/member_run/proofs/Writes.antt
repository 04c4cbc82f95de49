-- What a write and the closing lines answer.
use Rattle.std.proofs.Common.{◌≡◌, ℕ, List, [], ◌∷◌, ◌++◌, take, Option, refl, sym, ◌∙◌, ap, subst}
use Rattle.std.proofs.lemmas.List.{append-nil}
use Rattle.base_specs.specs.Told.{Added}
use Rattle.base_specs.proofs.Telling.{added_more, added_none}
use Rattle.line_text.specs.Text.{joined}
use Rattle.edge_traits.specs.declared.sink.Put.{Put}
use Rattle.edge_traits.specs.declared.sink.Put.TheVariants as write
use Rattle.edge_traits.specs.Sink.{PutCounts, Writes}
use Rattle.time_machine.specs.Report.{total_line}
use Rattle.run_deeds.specs.declared.life_end.LifeEnd.{LifeEnd}
use Rattle.run_deeds.specs.declared.life_end.Why.{Why}
use Rattle.run_deeds.specs.declared.life_end.Why.TheVariants.{Done, DiskFault, BadVersion, StampsSpent, ClockFault, EntropyFault, SinkFault}
use Rattle.run_deeds.specs.Closing.{closing_lines, link_line}
use Rattle.run_deeds.specs.Parts.{why_of}
use Rattle.member_run.specs.Asking.{WrittenBy, ended_by}
use Rattle.member_run.specs.Closing.{Closes}

pub written : (put : Put) (piece : List ℕ) (old new : Option (List ℕ)) (before now : ℕ)
    → Writes put piece old new → PutCounts put before now → WrittenBy (why_of (ended_by put)) piece old new before now
written write.Done piece old new before now wrote counts = (wrote, counts)
written write.Failed piece old new before now wrote counts = (wrote.0, wrote.2, counts)

-- an empty piece needs no write
pub written_none : (piece : List ℕ) (told : Option (List ℕ)) (count : ℕ) → piece ≡ [] → WrittenBy Done piece told told count count
written_none piece told count is = (subst (λ (l : List ℕ). Added told told l) (sym is) (added_none told), refl)

-- the first of the closing lines could not be written
pub closes_none : (end : LifeEnd) (old new : Option (List ℕ)) (before now : ℕ)
    → WrittenBy SinkFault (total_line end.sent end.moved end.refused) old new before now → Closes end SinkFault old new before now
closes_none end old new before now (front, added, fails) =
    ([], link_line end.quiet end.lost ∷ [], total_line end.sent end.moved end.refused, front, refl, added, fails)

-- it was written, and then the second one, or a front of it
pub closes_on : (end : LifeEnd) (why : Why) (old mid new : Option (List ℕ)) (before between now : ℕ)
    → WrittenBy Done (total_line end.sent end.moved end.refused) old mid before between → WrittenBy why (link_line end.quiet end.lost) mid new between now
    → Closes end why old new before now
closes_on end Done old mid new before between now (first, none) (second, none') =
    let total = total_line end.sent end.moved end.refused in
    let link = link_line end.quiet end.lost in
    let both : total ++ link ≡ joined (closing_lines end) = ap (λ (l : List ℕ). total ++ l) (sym (append-nil link)) in
    (subst (λ (l : List ℕ). Added old new l) both (added_more old mid new total link first second), none' ∙ none)
closes_on end SinkFault old mid new before between now (first, none) (front, second, fails) =
    let total = total_line end.sent end.moved end.refused in
    let link = link_line end.quiet end.lost in
    let both : total ++ take front link ≡ joined (total ∷ []) ++ take front link = ap (λ (l : List ℕ). l ++ take front link) (sym (append-nil total)) in (
      total ∷ [],
      [],
      link,
      front,
      refl,
      subst (λ (l : List ℕ). Added old new l) both (added_more old mid new total (take front link) first second),
      rw (← none) fails,
    )
closes_on end DiskFault old mid new before between now first second = absurd second
closes_on end BadVersion old mid new before between now first second = absurd second
closes_on end StampsSpent old mid new before between now first second = absurd second
closes_on end ClockFault old mid new before between now first second = absurd second
closes_on end EntropyFault old mid new before between now first second = absurd second

-- they never end at the disk
pub closes_version : (end : LifeEnd) (why : Why) (old new : Option (List ℕ)) (before now : ℕ) → Closes end why old new before now → why ≡ BadVersion → ⊥
closes_version end why old new before now closes is = subst (λ (w : Why). Closes end w old new before now) is closes
