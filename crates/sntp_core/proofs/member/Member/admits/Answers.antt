use Rattle.sntp_core.proofs.Standings.{follows_stands, stands_follows}
use Rattle.sntp_core.proofs.member.Member.admits.Goals as goal

pub returns-clause-grows : goal.returns-clause-grows
returns-clause-grows c = λ history s. (
  λ t. follows_stands c.args.self.now history c.args.event.now s (c.may_follow.ensures.0 t),
  λ g. c.may_follow.ensures.1 (stands_follows c.args.self.now history c.args.event.now s g),
)
