use Rattle.std.proofs.Common.{subst}
use Rattle.hc_merge.specs.Reaching.{resolved}
use Rattle.hc_abs_force.specs.Asking.{exprs, question_where}
use Rattle.hc_abs_force.specs.Marking.{AnswersFor, AreTried}
use Rattle.hc_abs_force.proofs.Tried.{never_tried}
use Rattle.hc_abs_force.proofs.forcing.past_tested.Goals as goal

pub returns-then-not-merges : goal.returns-then-not-merges
returns-then-not-merges c =
    subst (λ does. AreTried (AnswersFor c.args.scene
    (question_where does (resolved (exprs c.args.chain.now) c.args.reach.now))) c.args.candidate.now.parent
    c.args.before.items c.in_ok-later.later.items) c.if-not-merges.ensures
    (never_tried c.args.scene c.args.candidate.now.parent c.args.before.items
    c.in_ok-later.later.items c.in_ok-later.ensures)

pub returns : goal.returns
returns c =
    subst (λ does. AreTried (AnswersFor c.args.scene
    (question_where does (resolved (exprs c.args.chain.now) c.args.reach.now))) c.args.candidate.now.parent
    c.args.before.items c.in_ok-later-2.later.items) c.if-not-merges.ensures c.in_ok-later-2.ensures
