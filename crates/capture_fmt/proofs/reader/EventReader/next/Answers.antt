use Rattle.std.proofs.Common.{sym, ap}
use Rattle.capture_fmt.specs.Reader.{Reader}
use Rattle.capture_fmt.proofs.Runs.{told_by, one_answer, reads_on}
use Rattle.capture_fmt.proofs.reader.EventReader.next.Goals as goal

pub returns-clause-told : goal.returns-clause-told
returns-clause-told g c bytes is not_read =
    told_by c.advance-next.result c.args.self.now _ _ _ bytes c.advance-next.ensures.next is not_read

pub returns-clause-exact : goal.returns-clause-exact
returns-clause-exact g c bytes answer is stands not_read =
    let told = told_by c.advance-next.result c.args.self.now _ _ _ bytes c.advance-next.ensures.next is not_read in
    one_answer _ _ c.advance-next.result answer told stands

pub returns-clause-run : goal.returns-clause-run
returns-clause-run g c events left read =
    reads_on c.advance-next.result events c.args.self.now c.advance-next.new.self _ left _ _
    (ap (λ (r : Reader). r.place) (sym c.self.view_is)) (ap (λ (r : Reader). r.held) (sym c.self.view_is)) read c.advance-next.ensures.next
