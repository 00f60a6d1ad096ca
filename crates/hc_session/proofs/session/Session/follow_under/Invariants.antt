use Rattle.std.proofs.Common.{◌≡◌, ◌+◌, ◌-◌, ◌≤◌, true, length, List}
use Rattle.hc_base.specs.Paths.{begins_with_slash}
use Rattle.hc_follow.specs.Chains.{AreSteps}
use Rattle.hc_follow.specs.declared.chain.TheConstants.{MOST_STEPS}
use Rattle.hc_kept.specs.Files.{AreFilesOf}
use Rattle.hc_model.specs.declared.request.Request.{Request}
use Rattle.hc_session.specs.Following.{asked_all}
use Rattle.hc_session.specs.Sound.{IsAskedIn}
use Rattle.hc_session.proofs.session.Session.follow_under.Given as goal

abbrev pub invariant-loop-asked : goal.invariant-loop-asked
invariant-loop-asked g l = record {
  few : l.steps ≤ MOST_STEPS;
  slash : begins_with_slash l.asked.target ≡ true;
  steps : (before : List Request) × AreSteps l.initial.self.world.files l.config l.hosts l.fn.request before l.asked
      × (length before ≡ l.steps) × (l.self ≡ asked_all l.config l.initial.self before);
  asks : l.self.asks ≡ l.initial.self.asks + l.steps;
  evaluations : l.self.evaluations ≤ l.initial.self.evaluations + l.steps;
  rises : l.initial.evals ≤ l.evals;
  most : l.evals ≤ l.initial.evals + l.steps;
  evals : l.evals + l.initial.self.evaluations ≡ l.initial.evals + l.self.evaluations;
  stays : IsAskedIn l.initial.self l.self;
  files : AreFilesOf l.initial.self.world l.config l.files;
}

abbrev pub decreases-loop-asked : goal.decreases-loop-asked
decreases-loop-asked g l = MOST_STEPS - l.steps
