use Rattle.sntp_core.proofs.Standings.{follows_grows}
use Rattle.sntp_core.proofs.laws.laws_of_members.Goals as goal

pub returns : goal.returns
returns c = record { following = follows_grows }
