use Rattle.std.proofs.lemmas.Result.{IfOk-weaker}
use Rattle.hc_abs_run.proofs.Common.{◌∙◌, ◌∷◌, [], None, subst, Decision, List}
use Rattle.std.proofs.Common.{ap₂}
use Rattle.hc_model.specs.declared.rewrite.Rule.{Rule}
use Rattle.hc_abs_left.specs.declared.segment.Finish.TheVariants as finish
use Rattle.hc_abs_pass.specs.Passing.{placed_from}
use Rattle.hc_abs_run.proofs.Past.{past_again, past_answered, past_over}
use Rattle.hc_abs_run.specs.Running.{AreOf}
use Rattle.hc_abs_run.proofs.server.past.Goals as goal

pub returns-in-Over-clause-branches : goal.returns-in-Over-clause-branches
returns-in-Over-clause-branches g c =
    let one = c.args.one in
    IfOk-weaker c.placed.result _ _ (λ found are.
    past_over c.args.ground one found.items c.in-Over.passed c.in-Over.is
    (subst (λ decisions. AreOf c.args.ground
    (λ own. placed_from own decisions (one.left).substituted c.in-Over.passed) one.tied found.items)
    c.as_slice-decisions.ensures are)) c.placed.ensures.branches

pub returns-in_ok-rule-in-Again-clause-branches : goal.returns-in_ok-rule-in-Again-clause-branches
returns-in_ok-rule-in-Again-clause-branches g c =
    let one = c.args.one in
    IfOk-weaker c.ended.result _ _ (λ found same.
    past_again c.args.ground one found.items c.in-Again.rule c.in-Again.is
    (same ∙ ap₂ (λ (decisions : List Decision) (rule : Rule). record {
      tied = one.tied;
      decisions = decisions;
      require = None;
      finish = finish.ServerRound rule one.left;
    } ∷ []) c.in_ok-decisions-in-Again.ensures c.in_ok-rule-in-Again.ensures.cases)) c.ended.ensures

pub returns-in-Answered-clause-branches : goal.returns-in-Answered-clause-branches
returns-in-Answered-clause-branches g c =
    IfOk-weaker c.ended-in-Answered.result _ _ (λ found same.
    past_answered c.args.ground c.args.one found.items c.in-Answered.next c.in-Answered.is same)
    c.ended-in-Answered.ensures
