use Rattle.all_lives.proofs.Chains.{chain_counts, chain_earlier, chain_joins, chain_moves}
use Rattle.all_lives.proofs.Wire.{chain_stamps}
use Rattle.all_lives.proofs.laws.laws_of_all_lives.Goals as goal

pub returns-clause-counts : goal.returns-clause-counts
returns-clause-counts g c = chain_counts

pub returns-clause-moves : goal.returns-clause-moves
returns-clause-moves g c = chain_moves

pub returns-clause-earlier : goal.returns-clause-earlier
returns-clause-earlier g c = chain_earlier

pub returns-clause-joined : goal.returns-clause-joined
returns-clause-joined g c = chain_joins

pub returns-clause-stamps : goal.returns-clause-stamps
returns-clause-stamps g c = chain_stamps
