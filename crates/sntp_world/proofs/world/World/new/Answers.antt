use Rattle.std.proofs.Common.{[], sym, ◌∙◌, subst}
use Rattle.capture_fmt.specs.declared.event.Event.{Event}
use Rattle.time_machine.specs.Growing.{MayFollow}
use Rattle.time_machine.specs.Events.{IsRead}
use Rattle.sntp_core.specs.Standing.{conf_of, words_of}
use Rattle.sntp_world.proofs.Clocks.{first_clocks}
use Rattle.sntp_world.proofs.Starting.{first_mark, first_sent, first_stands, new_follows}
use Rattle.sntp_world.proofs.world.World.new.Goals as goal

pub step-started-requires-clause-admitted : goal.step-started-requires-clause-admitted
step-started-requires-clause-admitted c =
    let m = c.new-member.result in
    subst (λ (e : Event). MayFollow (conf_of m) (words_of m) e) (sym c.first_event.ensures) (new_follows m c.new-member.ensures.stands)

pub step-started-requires-clause-read : goal.step-started-requires-clause-read
step-started-requires-clause-read c = subst IsRead (sym c.first_event.ensures) first_clocks.member

pub invariant_of-result : goal.invariant_of-result
invariant_of-result c =
    let e = c.first_event.result in
    let m = c.step-started.new.self in
    let stands = c.step-started.ensures.stands [] c.new-member.ensures.stands in
    let conf = c.step-started.ensures.conf ∙ c.new-member.ensures.conf ∙ c.in-Ok.ensures in (
      record { ops = []; stands = first_stands m e _ conf c.first_event.ensures stands c.new.ensures.items },
      first_mark m e c.first_event.ensures stands,
      first_sent m e c.first_event.ensures stands,
    )

pub returns : goal.returns
returns c =
    let e = c.first_event.result in
    let m = c.step-started.new.self in
    let stands = c.step-started.ensures.stands [] c.new-member.ensures.stands in
    let conf = c.step-started.ensures.conf ∙ c.new-member.ensures.conf ∙ c.in-Ok.ensures in
    first_stands m e _ conf c.first_event.ensures stands c.new.ensures.items
