use Rattle.w32tm_cmd.proofs.AllRuns.{calls_counts, calls_earlier, calls_joined, calls_moves, calls_replayed, calls_stamps}
use Rattle.w32tm_cmd.proofs.laws.laws_of_all_runs.Goals as goal

pub returns-clause-stamps : goal.returns-clause-stamps
returns-clause-stamps g c = calls_stamps

pub returns-clause-counts : goal.returns-clause-counts
returns-clause-counts g c = calls_counts

pub returns-clause-once : goal.returns-clause-once
returns-clause-once g c = calls_moves

pub returns-clause-earlier : goal.returns-clause-earlier
returns-clause-earlier g c = calls_earlier

pub returns-clause-joined : goal.returns-clause-joined
returns-clause-joined g c = calls_joined

pub returns-clause-replayed : goal.returns-clause-replayed
returns-clause-replayed g c = calls_replayed
