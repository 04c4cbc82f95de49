-- What taking a Life leads to.
use Rattle.std.proofs.Common.{◌≡◌, ◌<◌, ℕ, List, [], ◌∷◌, length, Option, Some, IsTrue, OnErr, OnOk, Result, Ok, Err, refl, sym, ◌∙◌, ap, subst}
use Rattle.std.proofs.lemmas.Bool.{false≢true}
use Rattle.edge_traits.specs.Clock.{ClockCall}
use Rattle.edge_traits.specs.Link.{LinkCall}
use Rattle.capture_fmt.specs.declared.event.Event.{Event}
use Rattle.capture_fmt.specs.declared.event.Event.TheVariants.{Life, Tick, Resync, Arrive}
use Rattle.capture_fmt.specs.Event.{EventFits}
use Rattle.capture_fmt.specs.Record.{event_bytes}
use Rattle.time_machine.specs.declared.conf.Conf.{Conf}
use Rattle.time_machine.specs.declared.outcome.Outcome.{Outcome}
use Rattle.time_machine.specs.declared.outcome.Outcome.TheVariants.{Started}
use Rattle.time_machine.specs.Events.{History, is_life, mark_of}
use Rattle.time_machine.specs.Machine.{outcome_at}
use Rattle.time_machine.specs.Report.{line_of}
use Rattle.sntp_core.specs.declared.member.Member.{Member}
use Rattle.sntp_core.specs.Standing.{StandsForHistory, conf_of}
use Rattle.run_deeds.specs.declared.life_end.LifeEnd.{LifeEnd}
use Rattle.run_deeds.specs.declared.life_end.Why.{Why}
use Rattle.run_deeds.specs.declared.life_end.Why.TheVariants.{Done, SinkFault}
use Rattle.run_deeds.specs.Counting.{counted}
use Rattle.run_deeds.specs.Parts.{why_of}
use Rattle.edge_seen.specs.Seen.{Seen}
use Rattle.run_deeds.specs.Devices.{faults, living}
use Rattle.member_run.specs.Asking.{WrittenBy}
use Rattle.member_run.specs.Taking.{Acts, Takes, last_after}
use Rattle.member_run.proofs.Sends.{acts_not}
use Rattle.member_run.proofs.Takings.{takes_all}

-- a Life starts a life with its mark
pub life_starts : (conf : Conf) (history : History) (event : Event) → IsTrue (is_life event)
    → (mark : ℕ) × (outcome_at conf history event ≡ Started mark) × (Some mark ≡ mark_of event)
unfolding outcome_at
life_starts conf history (Life now mark) is = (mark, refl, refl)
life_starts conf history (Tick now word) is = absurd (false≢true is)
life_starts conf history (Resync now word flags) is = absurd (false≢true is)
life_starts conf history (Arrive now from bytes) is = absurd (false≢true is)

-- its mark is the last count
pub life_last : (conf : Conf) (history : History) (event : Event) (outcome : Outcome) (last last' : ℕ) → IsTrue (is_life event)
    → outcome ≡ outcome_at conf history event → last' ≡ last_after outcome last → Some last' ≡ mark_of event
life_last conf history event outcome last last' is leads after =
    let starts = life_starts conf history event is in
    ap Some (after ∙ ap (λ (o : Outcome). last_after o last) (leads ∙ starts.1)) ∙ starts.2

-- nothing is sent or moved in taking it
pub takes_life : (others : Seen) (conf : Conf) (history : History) (event : Event) (outcome : Outcome) (member : Member)
    (link : Option (List LinkCall)) (clock : Option (List ClockCall)) (words capture capture' out out' : Option (List ℕ))
    (lf cf ef df kf kf' of of' : ℕ) (end new : LifeEnd) (why : Why)
    → IsTrue (is_life event) → conf_of member ≡ conf → StandsForHistory member (event ∷ history) → EventFits event → outcome ≡ outcome_at conf history event
    → WrittenBy Done (event_bytes event) capture capture' kf kf' → new ≡ counted event outcome end → WrittenBy why (line_of outcome) out out' of of'
    → (why ≡ SinkFault → 0 < length (line_of outcome))
    → Takes conf history event [] (living others link clock words capture out lf (faults cf ef df kf of)) (living others link clock words capture' out' lf (faults cf ef df kf' of')) member end new why
takes_life others conf history event outcome member link clock words capture capture' out out' lf cf ef df kf kf' of of' end new why is is_set stands fits leads written was line some =
    let starts = life_starts conf history event is in
    let acts : Acts outcome link link clock clock lf lf new new =
    subst (λ (o : Outcome). Acts o link link clock clock lf lf new new) (sym (leads ∙ starts.1)) (acts_not starts.0 link clock lf new) in
    takes_all others conf history event outcome member link link clock clock words capture capture' out out' lf lf cf ef df kf kf' of of' end new new why is_set stands fits leads written was acts line some

-- what holds where a call failed holds where its answer is that of a sink
pub on_fault : {A P : Type 0} (result : Result A Why) → OnErr result P → why_of result ≡ SinkFault → P
on_fault (Ok given) failed is = absurd (let no : Done ≡ SinkFault = is in let bad : ⊥ = cc in bad)
on_fault (Err why) failed is = failed

-- what holds always holds where a call succeeds
pub on_ok_always : {A E : Type 0} {P : Type 0} (result : Result A E) → P → OnOk result P
on_ok_always (Ok x) p = p
on_ok_always (Err e) p = tt

-- nothing is counted of it
pub life_totals : (conf : Conf) (history : History) (event : Event) (outcome : Outcome) (old new : LifeEnd) → IsTrue (is_life event)
    → outcome ≡ outcome_at conf history event → new ≡ counted event outcome old → new ≡ old
unfolding outcome_at
life_totals conf history (Life now mark) outcome old new is leads was = was ∙ ap (λ (o : Outcome). counted (Life now mark) o old) leads
life_totals conf history (Tick now word) outcome old new is leads was = absurd (false≢true is)
life_totals conf history (Resync now word flags) outcome old new is leads was = absurd (false≢true is)
life_totals conf history (Arrive now from bytes) outcome old new is leads was = absurd (false≢true is)
