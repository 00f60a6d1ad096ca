use Rattle.std.proofs.Common.{◌-◌, length}
use Rattle.hc_world.proofs.drop.+directory_of.Given as goal

abbrev pub decreases-directory_of : goal.decreases-directory_of
decreases-directory_of l = length l.path.now - l.from
