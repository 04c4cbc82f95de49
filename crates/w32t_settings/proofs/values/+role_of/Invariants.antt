use Rattle.std.proofs.Common.{length}
use Rattle.w32t_settings.proofs.values.+role_of.Given as goal

abbrev pub decreases-role_of : goal.decreases-role_of
decreases-role_of l = length l.settings.now
