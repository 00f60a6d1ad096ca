use Rattle.hc_abs_cuts.proofs.Common.{subst}
use Rattle.std.specs.Rc.{rc_value}
use Rattle.hc_abs_left.specs.Segments.{AreDirRound}
use Rattle.hc_abs_cuts.proofs.from.from_round.Goals as goal

pub returns : goal.returns
returns c = rw (c.begun_again-so_far.ensures, c.in_ok-settings.ensures.ok) at c.dir_round_branches.ensures
