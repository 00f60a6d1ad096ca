use Rattle.hc_abs_pass.proofs.Common.{subst}
use Rattle.hc_steps.specs.Shown.{shown_by}
use Rattle.hc_abs_pass.proofs.Sorting.{walked_fit}
use Rattle.hc_abs_pass.proofs.Worlds.{distinct_world, seen_world}
use Rattle.hc_abs_pass.specs.Walking.{AreTried}
use Rattle.hc_abs_pass.proofs.walk.walk_branches.Goals as goal

pub returns-clause-branches : goal.returns-clause-branches
returns-clause-branches c =
    walked_fit (shown_by c.args.world.now.files) (seen_world c.args.world.now.files)
    (distinct_world c.args.world.now.files) c.args.named c.in_ok-ends.ends.items c.in_ok-found.found.items
    c.in_ok-_left._left c.in_ok-ends.ensures
    (subst (λ ends. AreTried c.args.named ends c.in_ok-found.found.items) c.deref.ensures.value c.in_ok-found.ensures)
    c.in_ok-_left.ensures
