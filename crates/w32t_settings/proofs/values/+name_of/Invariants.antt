use Rattle.std.proofs.Common.{length}
use Rattle.w32t_settings.proofs.values.+name_of.Given as goal

abbrev pub decreases-name_of : goal.decreases-name_of
decreases-name_of l = length l.settings.now
