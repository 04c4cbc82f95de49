use Rattle.std.proofs.Common.{◌<◌, ◌^◌, ℕ, ℤ, List, Some, ap, rules, subst, ◌∙◌, w64}
use Rattle.std.proofs.lemmas.Int.{to_z-of_z}
use mir.Val.{SFits}
use Rattle.sntp_world.specs.Due.{IsSlackBy, least_of}
use Rattle.ntp_wire.specs.Fields.{IsHeaderAt}
use Rattle.sntp_world.proofs.Slacks.{no_request, request_of, slack_by, timely_by}
use Rattle.sntp_world.proofs.correction.least_with.Goals as goal

pub returns-in_default-find_request : goal.returns-in_default-find_request
returns-in_default-find_request c =
    let has = request_of _ _ _ _ _ _ c.requires.accepted c.in-Arrive.is in
    let header = subst (λ (l : List ℕ). IsHeaderAt l c.in-Ok.header) c.as_slice.ensures.bytes c.in-Ok.ensures.fields in
    let fits : c.in-Ok.header.originate.fraction < 2 ^ 32 = search rules in
    let none = c.in_default-find_request.ensures.none in
    absurd (no_request _ _ _ _ has header fits none)

pub slack_of-slack-requires-clause-delayed : goal.slack_of-slack-requires-clause-delayed
slack_of-slack-requires-clause-delayed c =
    let has = request_of _ _ _ _ _ _ c.requires.accepted c.in-Arrive.is in
    let header = subst (λ (l : List ℕ). IsHeaderAt l c.in-Ok.header) c.as_slice.ensures.bytes c.in-Ok.ensures.fields in
    (timely_by _ _ _ _ _ has header c.in-Some.ensures.found c.in-Some.ensures.is).delayed

pub slack_of-slack-requires-clause-soon : goal.slack_of-slack-requires-clause-soon
slack_of-slack-requires-clause-soon c =
    let has = request_of _ _ _ _ _ _ c.requires.accepted c.in-Arrive.is in
    let header = subst (λ (l : List ℕ). IsHeaderAt l c.in-Ok.header) c.as_slice.ensures.bytes c.in-Ok.ensures.fields in
    (timely_by _ _ _ _ _ has header c.in-Some.ensures.found c.in-Some.ensures.is).soon

pub returns : goal.returns
returns c =
    let header = subst (λ (l : List ℕ). IsHeaderAt l c.in-Ok.header) c.as_slice.ensures.bytes c.in-Ok.ensures.fields in
    let by = slack_by _ _ _ _ _ _ _ _ _ _ c.in-Arrive.is header c.in-Some.ensures.found c.in-Some.ensures.is c.slack_of-slack.ensures in
    let least_fits : SFits w64 c.least_by.result = search rules in
    let slack_fits : SFits w64 c.slack_of-slack.result = search rules in (
      c.slack_of-slack.result,
      subst (λ (z : ℤ). IsSlackBy c.args.packets.now c.args.clocks c.args.event.now z c.slack_of-slack.result) (to_z-of_z w64 _ c.ranges.offset) by,
      ap Some (to_z-of_z w64 _ least_fits ∙ c.least_by.ensures ∙ ap (least_of c.args.least) (to_z-of_z w64 _ slack_fits)),
    )
