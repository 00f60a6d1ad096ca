use Rattle.std.proofs.Common.{◌-◌, length}
use Rattle.hc_world.proofs.entries.+add.Given as goal

abbrev pub decreases-add : goal.decreases-add
decreases-add l = length l.path.now - l.from
