use Rattle.std.proofs.Common.{◌++◌, ◌∙◌}
use Rattle.edge_traits.specs.declared.sink.Put.TheVariants as write
use Rattle.sntp_world.specs.Summary.{member_line, ops_line, slack_line}
use Rattle.sntp_world.proofs.Writing.{writes_as, writes_front, writes_next}
use Rattle.sntp_world.proofs.totals.print_summary.Goals as goal

pub returns-in-Failed-clause-bytes : goal.returns-in-Failed-clause-bytes
returns-in-Failed-clause-bytes g c =
    let t = c.args.totals.now in
    let ops = ops_line t.ops t.skipped in let member = member_line t.sent t.moved t.refused in
    writes_front (ops ++ member) (slack_line c.args.slack) _ _
    (writes_front ops member _ _
    (writes_as write.Failed _ ops _ _ (c.as_slice.ensures.bytes ∙ c.ops_line.ensures.text) c.in-Failed.ensures.bytes))

pub returns-in-Failed-write-clause-bytes : goal.returns-in-Failed-write-clause-bytes
returns-in-Failed-write-clause-bytes g c =
    let t = c.args.totals.now in
    let ops = ops_line t.ops t.skipped in let member = member_line t.sent t.moved t.refused in
    let first = writes_as write.Done _ ops _ _ (c.as_slice.ensures.bytes ∙ c.ops_line.ensures.text) c.in_default.ensures.bytes in
    writes_front (ops ++ member) (slack_line c.args.slack) _ _
    (writes_next write.Failed ops member _ _ _ first
    (writes_as write.Failed _ member _ _ (c.as_slice-2.ensures.bytes ∙ c.member_line.ensures.text) c.in-Failed-write.ensures.bytes))

pub returns-clause-bytes : goal.returns-clause-bytes
returns-clause-bytes g c =
    let t = c.args.totals.now in
    let ops = ops_line t.ops t.skipped in let member = member_line t.sent t.moved t.refused in
    let first = writes_as write.Done _ ops _ _ (c.as_slice.ensures.bytes ∙ c.ops_line.ensures.text) c.in_default.ensures.bytes in
    let next = writes_as write.Done _ member _ _ (c.as_slice-2.ensures.bytes ∙ c.member_line.ensures.text) c.in_default-write.ensures.bytes in
    writes_next c.write-3.result (ops ++ member) (slack_line c.args.slack) _ _ _
    (writes_next write.Done ops member _ _ _ first next)
    (writes_as c.write-3.result _ (slack_line c.args.slack) _ _ (c.as_slice-3.ensures.bytes ∙ c.slack_line.ensures.text) c.write-3.ensures.bytes)
