use Rattle.hc_world.proofs.Common.{◌-◌, length, walk}
use Rattle.hc_steps.specs.Run.{run}
use Rattle.hc_steps.specs.Ran.{Leads}
use Rattle.hc_steps.specs.Shown.{shown_by}
use Rattle.hc_world.proofs.Walks.{left}
use Rattle.hc_world.proofs.walk.follow.Given as goal

abbrev pub invariant-loop-slash : goal.invariant-loop-slash
invariant-loop-slash l =
    Leads l.fn.log (run (walk l.name) (shown_by l.world.files)) l.log
    (left (shown_by l.world.files) l.name l.from l.dirs)

abbrev pub decreases-loop-slash : goal.decreases-loop-slash
decreases-loop-slash l = length l.name - l.from
