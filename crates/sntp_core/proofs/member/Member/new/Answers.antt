use Rattle.sntp_core.proofs.Standings.{stands_new, new_words}
use Rattle.sntp_core.proofs.member.Member.new.Goals as goal

pub returns-clause-stands : goal.returns-clause-stands
returns-clause-stands c = stands_new _ (new_words c.args.conf _ c.new.ensures)
