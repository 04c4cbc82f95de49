use Rattle.std.proofs.Common.{length}
use Rattle.w32t_settings.proofs.values.+rid_of.Given as goal

abbrev pub decreases-rid_of : goal.decreases-rid_of
decreases-rid_of l = length l.settings.now
