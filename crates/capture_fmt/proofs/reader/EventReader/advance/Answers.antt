use Rattle.capture_fmt.proofs.Reading.{ends_between, stops_at}
use Rattle.capture_fmt.proofs.reader.EventReader.advance.Goals as goal

pub returns-in-End-clause-next : goal.returns-in-End-clause-next
returns-in-End-clause-next g c =
    ends_between c.self.inside.alive c.self.inside.place c.self.inside.held c.gather.new.held _ _ c.args.self.now
    c.if-self-ge-PLACE_LIMIT.false c.self.view_is c.in-End.ensures.gains c.in-End.ensures.sees

pub returns-in-Flawed-clause-next : goal.returns-in-Flawed-clause-next
returns-in-Flawed-clause-next g c =
    stops_at c.in-Flawed.flaw c.at.result c.self.inside.alive c.self.inside.place c.self.inside.held c.gather.new.held _ _ c.args.self.now
    c.at.ensures c.if-self-ge-PLACE_LIMIT.false c.self.view_is c.in-Flawed.ensures.gains c.in-Flawed.ensures.sees
