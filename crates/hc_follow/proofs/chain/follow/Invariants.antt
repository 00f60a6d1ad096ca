use Rattle.std.proofs.Common.{◌≡◌, ◌+◌, ◌-◌, ◌≤◌, true, length, List}
use Rattle.hc_base.specs.Paths.{begins_with_slash}
use Rattle.hc_model.specs.Overrides.{Kept}
use Rattle.hc_model.specs.declared.request.Request.{Request}
use Rattle.hc_follow.specs.Chains.{AreSteps}
use Rattle.hc_follow.specs.declared.chain.TheConstants.{MOST_STEPS}
use Rattle.hc_follow.proofs.chain.follow.Given as goal

abbrev pub invariant-loop-asked : goal.invariant-loop-asked
invariant-loop-asked g l = record {
  few : l.steps ≤ MOST_STEPS;
  slash : begins_with_slash l.asked.target ≡ true;
  steps : (before : List Request) × AreSteps l.world.files l.config l.hosts l.request before l.asked
      × (length before ≡ l.steps);
  evals : l.evals ≡ l.initial.evals + l.steps;
  fixed : g.O.Overrides.fixed l.over ≡ g.O.Overrides.fixed l.initial.over;
  kept : Kept (g.O.Overrides.loaded l.initial.over) (g.O.Overrides.loaded l.over);
}

abbrev pub decreases-loop-asked : goal.decreases-loop-asked
decreases-loop-asked g l = MOST_STEPS - l.steps
